use Rattle.std.proofs.Common.{◌∙◌, ap, sym, Bool, true, false}
use Rattle.std.specs.Ordering.{int_cmp}
use Rattle.value_order.specs.Order.{signed, size_of, scaled}
use Rattle.value_order.proofs.SignLemmas.{size_above, below_zero_first, above_zero_last}
use Rattle.value_order.proofs.order.compare_decimals.Goals as goal

pub returns-in-true-false : goal.returns-in-true-false
returns-in-true-false c =
    let a = c.args.a.now in
    let b = c.args.b.now in
    sym (ap (λ (s : Bool). int_cmp (signed s (size_of a)) (scaled b)) c.in-true-false.is-0 ∙ ap (λ (s : Bool). int_cmp (signed true (size_of a)) (signed s (size_of b))) c.in-true-false.is-1
    ∙ below_zero_first (size_of a) (size_of b) (size_above a c.in-true-false.is-0))

pub returns-in-false-true : goal.returns-in-false-true
returns-in-false-true c =
    let a = c.args.a.now in
    let b = c.args.b.now in
    sym (ap (λ (s : Bool). int_cmp (signed s (size_of a)) (scaled b)) c.in-false-true.is-0 ∙ ap (λ (s : Bool). int_cmp (signed false (size_of a)) (signed s (size_of b))) c.in-false-true.is-1
    ∙ above_zero_last (size_of a) (size_of b) (size_above b c.in-false-true.is-1))
