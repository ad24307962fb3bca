use Rattle.source_lines.proofs.TurnLemmas.{given}
use Rattle.source_lines.proofs.laws.lines_by_turns.Goals as goal

pub returns : goal.returns
returns c = given
