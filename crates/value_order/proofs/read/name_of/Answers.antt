use Rattle.std.proofs.Common.{List, ℕ, IsUtf8, subst}
use Rattle.value_order.proofs.ReadLemmas.{text_none, counted_injective}
use Rattle.value_order.proofs.read.name_of.Goals as goal

pub returns-in-Err-clause-none : goal.returns-in-Err-clause-none
returns-in-Err-clause-none c =
    text_none c.args.text.now
    (λ bytes utf8 small e. c.in-Err.ensures.cases.0
    (subst (λ (l : List ℕ). IsUtf8 l) (counted_injective bytes c.in-Some.bytes.now c.args.text.now small c.in-Some.ensures.found.1 e c.in-Some.ensures.found.0) utf8))
