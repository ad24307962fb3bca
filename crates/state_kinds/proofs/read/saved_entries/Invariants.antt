use Rattle.std.proofs.Common.{◌≡◌, map}
use Rattle.state_kinds.specs.Store.{saved_entry}
use Rattle.state_kinds.proofs.read.saved_entries.Given as goal

-- the entries so far
abbrev pub invariant-loop-entry : goal.invariant-loop-entry
invariant-loop-entry l = l.saved.items ≡ map saved_entry l.yielded
