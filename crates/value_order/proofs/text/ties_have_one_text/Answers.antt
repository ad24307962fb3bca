use Rattle.value_order.proofs.TextLemmas.{ties_one_text}
use Rattle.value_order.proofs.text.ties_have_one_text.Goals as goal

pub returns : goal.returns
returns c = ties_one_text
