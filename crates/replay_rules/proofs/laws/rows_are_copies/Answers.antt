use Rattle.replay_rules.proofs.CopyRows.{rows_are_copies as proved}
use Rattle.replay_rules.proofs.laws.rows_are_copies.Goals as goal

pub returns : goal.returns
returns c = proved
