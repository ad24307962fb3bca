use Rattle.std.proofs.Common.{ℕ, ◌-◌, ◌+◌, length}
use Rattle.piecewise_lines.specs.Unread.{IsSearched}
use Rattle.piecewise_lines.specs.Found.{Gives}
use Rattle.piecewise_lines.specs.declared.NextLine.{NextLine}
use Rattle.piecewise_lines.proofs.find.Given as goal

-- only blank pieces were passed over, so that what comes next is the same
abbrev pub invariant-loop-start : goal.invariant-loop-start
invariant-loop-start l = record {
  place : IsSearched l.bytes l.start l.searched;
  same : (to : ℕ) (given : NextLine) → Gives l.limit l.bytes l.start to given → Gives l.limit l.bytes l.initial.start to given;
}

abbrev pub decreases-loop-start : goal.decreases-loop-start
decreases-loop-start l = length l.bytes + 1 - l.start
