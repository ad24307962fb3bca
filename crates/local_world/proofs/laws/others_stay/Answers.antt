use Rattle.local_world.proofs.ReplayLemmas.{others_stay}
use Rattle.local_world.proofs.laws.others_stay.Goals as goal

pub returns : goal.returns
returns c = others_stay
