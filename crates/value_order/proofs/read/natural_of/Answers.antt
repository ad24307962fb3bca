use Rattle.std.proofs.Common.{ℕ, List, IsUtf8, arith, sym, subst, ◌∙◌, ap}
use Rattle.std.specs.Fmt.{decimal}
use Rattle.std.proofs.lemmas.Fmt.{parse-decimal_wide}
use Rattle.value_order.proofs.ReadLemmas.{decimal_utf8, err_not_ok, ok_same, told_apart}
use Rattle.value_order.proofs.read.natural_of.Goals as goal

pub returns-in_default-clause-none : goal.returns-in_default-clause-none
returns-in_default-clause-none c = λ n small e. c.in_default.ensures.cases.0 (subst (λ (l : List ℕ). IsUtf8 l) e (decimal_utf8 n small))

pub returns-in_default-parse-clause-none : goal.returns-in_default-parse-clause-none
returns-in_default-parse-clause-none c = λ n small e.
    err_not_ok c.parse.result c.in_default-parse.field-0 n c.in_default-parse.is
    (parse-decimal_wide 128 n c.in-Ok.numeral.now c.parse.result small (omega arith) (c.in-Ok.ensures.cases.0 ∙ sym e) c.parse.ensures.value.0)

pub returns-else-eq-clause-none : goal.returns-else-eq-clause-none
returns-else-eq-clause-none c = λ n small e.
    let same = ok_same c.parse.result c.in-Ok-parse.number n c.in-Ok-parse.is
    (parse-decimal_wide 128 n c.in-Ok.numeral.now c.parse.result small (omega arith) (c.in-Ok.ensures.cases.0 ∙ sym e) c.parse.ensures.value.0) in
    told_apart c.as_bytes.result.now c.args.text.now c.if-eq.ensures (c.as_bytes.ensures.value ∙ c.format.ensures.text ∙ ap decimal same ∙ e)
