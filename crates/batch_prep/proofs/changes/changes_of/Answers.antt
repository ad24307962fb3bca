use Rattle.std.proofs.Common.{codes}
use Rattle.column_types.proofs.ValueLemmas.{no_field}
use Rattle.batch_prep.proofs.changes.changes_of.Goals as goal

pub returns-in-None : goal.returns-in-None
returns-in-None c = let none = rw c.in-None.is at c.in_ok-members.ensures.none in no_field c.args.meta.now (codes "changes") none
