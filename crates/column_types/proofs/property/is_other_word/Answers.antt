use Rattle.column_types.proofs.KindLemmas.{never, other_word}
use Rattle.column_types.specs.Kinds.{IsOtherWord}
use Rattle.column_types.proofs.property.is_other_word.Goals as goal

pub returns-in-Some : goal.returns-in-Some
returns-in-Some c =
    let string = rw c.in-Some.is at c.in_ok-word.ensures.string in
    let only = rw c.in-Some.is at c.in_ok-word.ensures.only in
    other_word c.args.text.now c.in-Some.word c.as_str.result.now c.ne.result string only c.as_str.ensures c.ne.ensures

pub returns-in-None : goal.returns-in-None
returns-in-None c = let none = rw c.in-None.is at c.in_ok-word.ensures.none in never (IsOtherWord c.args.text.now) (λ is. none is.word is.string)
