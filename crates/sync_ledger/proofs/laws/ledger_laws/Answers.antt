use Rattle.sync_ledger.proofs.ListLemmas.{list_laws}
use Rattle.sync_ledger.proofs.laws.ledger_laws.Goals as goal

pub returns : goal.returns
returns c = list_laws
