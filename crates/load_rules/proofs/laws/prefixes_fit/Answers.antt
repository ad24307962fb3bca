use Rattle.std.proofs.Common.{[]}
use Rattle.load_rules.specs.SafeDest.{Fits}
use Rattle.load_rules.proofs.Fronts.{front_fits}
use Rattle.load_rules.proofs.laws.prefixes_fit.Goals as goal

pub returns : goal.returns
returns c streams opening front rest act each = front_fits (Fits streams opening) [] front rest act each
