use Rattle.table_feed.proofs.BlobLemmas.{read_back}
use Rattle.table_feed.proofs.laws.blobs_read_back.Goals as goal

pub returns : goal.returns
returns c = read_back
