use Rattle.attempt_turns.proofs.Ways.{ways_go_on as proved}
use Rattle.attempt_turns.proofs.laws.ways_go_on.Goals as goal

pub returns : goal.returns
returns c = proved
