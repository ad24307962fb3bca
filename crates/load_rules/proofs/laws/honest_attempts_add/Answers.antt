use Rattle.load_rules.proofs.HonestAdds.{honest_attempts_add as proved}
use Rattle.load_rules.proofs.laws.honest_attempts_add.Goals as goal

pub returns : goal.returns
returns c = proved
