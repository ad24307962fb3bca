use Rattle.load_rules.proofs.SafeAttempts.{attempts_are_safe as proved}
use Rattle.load_rules.proofs.laws.attempts_are_safe.Goals as goal

pub returns : goal.returns
returns c = proved
