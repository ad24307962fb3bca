use Rattle.std.proofs.Common.{◌≡◌, ◌≤◌, ◌-◌, length, drop}
use Rattle.std.specs.Cmp.Lexicographic.{slice_cmp}
use Rattle.value_order.specs.Order.{order_of}
use Rattle.value_order.specs.declared.value.Value.{Value}
use Rattle.table_source.specs.declared.keyed.RowPart.{RowPart}
use Rattle.table_source.proofs.keyed.compare_key.Given as goal

abbrev pub invariant-loop-at : goal.invariant-loop-at
invariant-loop-at l = record {
  in_a : l.at ≤ length l.a;
  in_b : l.at ≤ length l.b;
  same : slice_cmp (λ (x : RowPart) (y : Value). order_of x.value y) l.a l.b ≡ slice_cmp (λ (x : RowPart) (y : Value). order_of x.value y) (drop l.at l.a) (drop l.at l.b);
}

abbrev pub decreases-loop-at : goal.decreases-loop-at
decreases-loop-at l = length l.a - l.at
