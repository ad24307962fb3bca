use Rattle.column_types.proofs.ValueLemmas.{not_true, value_word}
use Rattle.column_types.proofs.value.text_value.Goals as goal

pub word_value-requires : goal.word_value-requires
word_value-requires c =
    let none = rw c.in-None.is at c.in_ok-name.ensures.none in
    value_word c.args.text.now c.requires (λ o. not_true (c.if-is_object.ensures.1 o)) (λ a. not_true (c.if-is_array.ensures.1 a)) (λ n. not_true (c.if-is_number.ensures.1 n)) none

pub returns-in-None : goal.returns-in-None
returns-in-None c = c.word_value.ensures c.args.is_instant
