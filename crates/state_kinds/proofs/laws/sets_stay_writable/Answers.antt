use Rattle.state_kinds.proofs.StayLemmas.{sets_stay}
use Rattle.state_kinds.proofs.laws.sets_stay_writable.Goals as goal

pub returns : goal.returns
returns c = sets_stay
