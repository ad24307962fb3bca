use Rattle.load_rules.proofs.Piped.{piped_are_taken as proved}
use Rattle.load_rules.proofs.laws.piped_are_taken.Goals as goal

pub returns : goal.returns
returns c = proved
