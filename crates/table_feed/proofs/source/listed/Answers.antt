use Rattle.std.proofs.Common.{Err, inr, refl}
use Rattle.table_feed.proofs.source.listed.Goals as goal

pub returns-in-Err-Unfit-clause-refused : goal.returns-in-Err-Unfit-clause-refused
returns-in-Err-Unfit-clause-refused c = inr (c.in-Err-Unfit.row, c.in-Err-Unfit.ensures.unfit c.in-Err-Unfit.row (λ k. Err (c.in-Err-Unfit.field-0-is k)), refl)
