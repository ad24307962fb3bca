use Rattle.sync_ledger.proofs.PendingLemmas.{pending_laws}
use Rattle.sync_ledger.proofs.laws.pending_laws.Goals as goal

pub returns : goal.returns
returns c = pending_laws
