use Rattle.std.proofs.Common.{◌↔◌, drop}
use Rattle.file_dock.specs.Places.{RiseFrom}
use Rattle.file_dock.proofs.places.rise_from.Given as goal

-- all rise where those that are left do
abbrev pub invariant-loop-placed : goal.invariant-loop-placed
invariant-loop-placed l = RiseFrom l.places l.before (drop l.placed-index l.rows) ↔ RiseFrom l.fn.places 0 l.fn.rows
