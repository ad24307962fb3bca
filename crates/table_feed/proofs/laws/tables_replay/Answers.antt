use Rattle.table_feed.proofs.ReplayLemmas.{replay}
use Rattle.table_feed.proofs.laws.tables_replay.Goals as goal

pub returns : goal.returns
returns c = replay
