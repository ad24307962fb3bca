use Rattle.std.proofs.Common.{◌≡◌, drop}
use Rattle.state_kinds.specs.Saved.{has_states}
use Rattle.sync_ledger.proofs.form.is_by_stream.Given as goal

abbrev pub invariant-loop-entry : goal.invariant-loop-entry
invariant-loop-entry l = has_states l.entries ≡ has_states (drop l.entry-index l.entries)
