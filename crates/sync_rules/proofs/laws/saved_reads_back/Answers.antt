use Rattle.sync_rules.proofs.Backs.{saved_reads_back as proved}
use Rattle.sync_rules.proofs.laws.saved_reads_back.Goals as goal

pub returns : goal.returns
returns c = proved
