use Rattle.load_rules.proofs.SafeCommits.{safe_commits_fit as proved}
use Rattle.load_rules.proofs.laws.safe_commits_fit.Goals as goal

pub returns : goal.returns
returns c = proved
