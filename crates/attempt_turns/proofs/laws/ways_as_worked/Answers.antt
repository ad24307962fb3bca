use Rattle.attempt_turns.proofs.Worked.{ways_as_worked as proved}
use Rattle.attempt_turns.proofs.laws.ways_as_worked.Goals as goal

pub returns : goal.returns
returns c = proved
