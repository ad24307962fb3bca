use Rattle.load_rules.proofs.RunFronts.{store_merges_fit as proved}
use Rattle.load_rules.proofs.laws.store_merges_fit.Goals as goal

pub returns : goal.returns
returns c = proved
