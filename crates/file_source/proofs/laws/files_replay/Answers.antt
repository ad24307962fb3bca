use Rattle.file_source.proofs.ReplayLemmas.{replay}
use Rattle.file_source.proofs.laws.files_replay.Goals as goal

pub returns : goal.returns
returns c = replay
