use Rattle.sync_ledger.proofs.NumberLemmas.{number_laws as proved}
use Rattle.sync_ledger.proofs.laws.number_laws.Goals as goal

pub returns : goal.returns
returns c = proved
