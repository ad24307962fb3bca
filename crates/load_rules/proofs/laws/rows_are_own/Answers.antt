use Rattle.load_rules.proofs.OwnRows.{rows_are_own as proved}
use Rattle.load_rules.proofs.laws.rows_are_own.Goals as goal

pub returns : goal.returns
returns c = proved
