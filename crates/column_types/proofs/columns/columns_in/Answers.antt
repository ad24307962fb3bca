use Rattle.std.proofs.Common.{List, ℕ, inr, subst}
use Rattle.json_span.specs.Members.{AreMembers}
use Rattle.json_fields.specs.Fields.{line_depth}
use Rattle.column_types.proofs.columns.columns_in.Goals as goal

pub returns-in-None : goal.returns-in-None
returns-in-None c =
    let none = rw c.in-None.is at c.in_ok-members.ensures.none in
    inr (λ held members is. none members (subst (λ (t : List ℕ). AreMembers line_depth t members) (c.requires.only held is.field) is.object), c.new.ensures)
