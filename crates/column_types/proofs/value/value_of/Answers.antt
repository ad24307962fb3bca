use Rattle.column_types.proofs.ValueLemmas.{no_data}
use Rattle.column_types.proofs.value.value_of.Goals as goal

pub returns-in-None : goal.returns-in-None
returns-in-None c = let none = rw c.in-None.is at c.in_ok-members.ensures.none in no_data c.args.body.now c.args.path.now c.args.is_instant none
