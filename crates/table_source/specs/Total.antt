-- For the implementation of the order: it is total.
use Rattle.std.specs.Cmp.{IsTotalOrder, then_total, on_total, nat_cmp_total, int_cmp_total}
use Rattle.std.specs.Cmp.Lexicographic.{lists_total, nat_list_cmp_total}
use Rattle.value_order.specs.Order.{order_of, class_of, number_of, bytes_of}
use Rattle.table_source.specs.Keyed.{row_order, values_of}
use Rattle.table_source.specs.declared.keyed.KeyedRow.{KeyedRow}

pub values_total : IsTotalOrder order_of
values_total = then_total (on_total class_of nat_cmp_total) (then_total (on_total number_of int_cmp_total) (on_total bytes_of nat_list_cmp_total))

pub rows_total : IsTotalOrder row_order
rows_total = then_total (on_total values_of (lists_total values_total)) (on_total (λ (row : KeyedRow). row.id) nat_cmp_total)
