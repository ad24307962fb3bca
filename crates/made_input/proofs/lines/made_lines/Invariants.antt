use Rattle.made_input.proofs.PartLemmas.{IsMade}
use Rattle.made_input.proofs.lines.made_lines.Given as goal

-- the lines of the rows so far
abbrev pub invariant-loop-row : goal.invariant-loop-row
invariant-loop-row l = IsMade l.text l.rows l.row
