use Rattle.std.proofs.Common.{◌≡◌}
use Rattle.table_config.specs.Tables.{firsts}
use Rattle.table_config.proofs.read.firsts_of.Given as goal

-- the tables so far
abbrev pub invariant-loop-entry : goal.invariant-loop-entry
invariant-loop-entry l = l.tables ≡ firsts l.yielded
