use Rattle.local_world.proofs.RestLemmas.{files_replay}
use Rattle.local_world.proofs.laws.files_replay.Goals as goal

pub returns : goal.returns
returns c = files_replay
