use Rattle.std.proofs.Common.{inr}
use Rattle.column_types.proofs.columns.columns_of.Goals as goal

pub returns-in-None : goal.returns-in-None
returns-in-None c =
    let none = rw c.in-None.is at c.in_ok-held.ensures in
    inr (λ held members is. none held is.field, c.new.ensures)
