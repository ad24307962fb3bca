use Rattle.std.proofs.Common.{◌≡◌, ℕ, ◌-◌, ◌≤◌, max, List, Some, length}
use Rattle.std.specs.List.{slice_get}
use Rattle.json_span.specs.declared.Member.{Member}
use Rattle.json_span.proofs.reader.pad.Given as goal

abbrev pub invariant-loop-inner : goal.invariant-loop-inner
invariant-loop-inner l = record {
  low : length l.initial.inner ≤ length l.inner;
  high : length l.inner ≤ max l.count (length l.initial.inner);
  same : (k : ℕ) (members : List Member) → slice_get l.inner k ≡ Some (Some members) → slice_get l.initial.inner k ≡ Some (Some members);
}

abbrev pub decreases-loop-inner : goal.decreases-loop-inner
decreases-loop-inner l = l.count - length l.inner
