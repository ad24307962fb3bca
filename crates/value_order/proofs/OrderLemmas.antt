-- The order is total.
use Rattle.std.specs.Cmp.{IsTotalOrder}
use Rattle.std.proofs.lemmas.Cmp.{then_total, on_total, nat_cmp_total, int_cmp_total, nat_list_cmp_total}
use Rattle.value_order.specs.Order.{class_of, number_of, bytes_of, order_of}

pub order_total : IsTotalOrder order_of
order_total = then_total (on_total class_of nat_cmp_total) (then_total (on_total number_of int_cmp_total) (on_total bytes_of nat_list_cmp_total))
