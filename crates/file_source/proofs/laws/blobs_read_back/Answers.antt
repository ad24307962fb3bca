use Rattle.file_source.proofs.BlobLemmas.{read_back}
use Rattle.file_source.proofs.laws.blobs_read_back.Goals as goal

pub returns : goal.returns
returns c = read_back
