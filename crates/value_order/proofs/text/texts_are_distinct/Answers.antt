use Rattle.value_order.proofs.TextLemmas.{texts_distinct}
use Rattle.value_order.proofs.text.texts_are_distinct.Goals as goal

pub returns : goal.returns
returns c = texts_distinct
