use Rattle.std.proofs.Common.{◌≡◌, fold, take}
use Rattle.outside.specs.Tables.{opened_stream}
use Rattle.raw_tables.proofs.step.open_streams.Given as goal

-- the streams so far are open
abbrev pub invariant-loop-stream : goal.invariant-loop-stream
invariant-loop-stream l = l.tables ≡ fold opened_stream l.fn.tables (take l.stream-index l.plan)
