use Rattle.piecewise_lines.proofs.Laws.{all_given}
use Rattle.piecewise_lines.proofs.gives_all_lines.Goals as goal

pub returns : goal.returns
returns c = all_given
