use Rattle.std.proofs.Common.{◌↔◌, drop}
use Rattle.source_tests.specs.Rows.{RiseFrom}
use Rattle.source_tests.proofs.table_runs.do_rise.Given as goal

-- all rise where those that are left do
abbrev pub invariant-loop-entry : goal.invariant-loop-entry
invariant-loop-entry l = RiseFrom (drop l.entry-index l.entries) l.before ↔ RiseFrom l.fn.entries l.fn.after
