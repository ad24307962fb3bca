use Rattle.std.proofs.Common.{◌≡◌, ◌≤◌, ◌-◌, length, drop}
use Rattle.std.specs.Cmp.Lexicographic.{slice_cmp}
use Rattle.value_order.specs.Order.{order_of}
use Rattle.table_source.specs.declared.keyed.RowPart.{RowPart}
use Rattle.table_source.proofs.keyed.compare_parts.Given as goal

abbrev pub invariant-loop-at : goal.invariant-loop-at
invariant-loop-at l = record {
  in_a : l.at ≤ length l.a;
  in_b : l.at ≤ length l.b;
  same : slice_cmp (λ (x y : RowPart). order_of x.value y.value) l.a l.b ≡ slice_cmp (λ (x y : RowPart). order_of x.value y.value) (drop l.at l.a) (drop l.at l.b);
}

abbrev pub decreases-loop-at : goal.decreases-loop-at
decreases-loop-at l = length l.a - l.at
