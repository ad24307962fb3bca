use Rattle.std.proofs.Common.{codes}
use Rattle.column_types.proofs.ValueLemmas.{no_field}
use Rattle.column_types.proofs.columns.properties.Goals as goal

pub returns-in-None : goal.returns-in-None
returns-in-None c = let none = rw c.in-None.is at c.in_ok-members.ensures.none in no_field c.args.schema.now (codes "properties") none
