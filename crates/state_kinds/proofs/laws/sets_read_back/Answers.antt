use Rattle.state_kinds.proofs.BackLemmas.{sets_back}
use Rattle.state_kinds.proofs.laws.sets_read_back.Goals as goal

pub returns : goal.returns
returns c = sets_back
