use Rattle.std.proofs.Common.{◌≡◌, drop}
use Rattle.outside.specs.Winners.{winner_in, still_waiting}
use Rattle.outside.proofs.winners.Winners.get.Given as goal

-- the rows that are left have the answer
abbrev pub invariant-loop-row : goal.invariant-loop-row
invariant-loop-row l = winner_in (still_waiting l.self-inside.placed (drop l.row-index l.row-items)) l.key ≡ winner_in l.self l.key
