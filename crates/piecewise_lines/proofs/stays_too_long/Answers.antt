use Rattle.piecewise_lines.proofs.Laws.{stays_long}
use Rattle.piecewise_lines.proofs.stays_too_long.Goals as goal

pub returns : goal.returns
returns c = stays_long
