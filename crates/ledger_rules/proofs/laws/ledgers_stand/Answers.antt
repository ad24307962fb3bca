use Rattle.ledger_rules.proofs.Stands.{ledgers_stand as proved}
use Rattle.ledger_rules.proofs.laws.ledgers_stand.Goals as goal

pub returns : goal.returns
returns c = proved
