use Rattle.value_order.proofs.TieLemmas.{ties}
use Rattle.value_order.proofs.order.ties_are_equal.Goals as goal

pub returns : goal.returns
returns c = ties
