use Rattle.std.proofs.Common.{◌≡◌, take}
use Rattle.outside.specs.Tables.{tables_of}
use Rattle.raw_tables.proofs.step.tables_of.Given as goal

-- the tables of the events so far
abbrev pub invariant-loop-event : goal.invariant-loop-event
invariant-loop-event l = l.tables ≡ tables_of (take l.event-index l.event-items)
