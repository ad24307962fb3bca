use Rattle.value_order.proofs.OrderLemmas.{order_total}
use Rattle.value_order.proofs.order.order_is_total.Goals as goal

pub returns : goal.returns
returns c = order_total
