use Rattle.value_order.proofs.TextLemmas.{texts_end_law}
use Rattle.value_order.proofs.text.texts_end.Goals as goal

pub returns : goal.returns
returns c = texts_end_law
