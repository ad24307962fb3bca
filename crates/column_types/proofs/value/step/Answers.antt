use Rattle.column_types.proofs.ValueLemmas.{no_field}
use Rattle.column_types.proofs.value.step.Goals as goal

pub returns-in-None-clause-field : goal.returns-in-None-clause-field
returns-in-None-clause-field c = let none = rw c.in-None.is at c.in_ok-members.ensures.none in no_field c.args.text.now c.args.name.now none
