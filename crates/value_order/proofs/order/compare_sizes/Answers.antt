use Rattle.std.proofs.Common.{◌≡◌, ℕ, ◌+◌, ◌∙◌, ap, inl, inr, Equal}
use Rattle.std.specs.Ordering.{nat_cmp}
use Rattle.value_order.specs.Order.{raised}
use Rattle.value_order.proofs.SizeLemmas.{nat_cmp-nought, apart_order}
use Rattle.value_order.proofs.order.compare_sizes.Goals.{then-a-eq0-via-then-a-eq0, then-a-eq0-via-else-a-eq0+then-b-eq0}
use Rattle.value_order.proofs.order.compare_sizes.Goals as goal

pub returns-then-a-eq0 : goal.returns-then-a-eq0
returns-then-a-eq0 c =
    let a = c.args.a.now in
    let b = c.args.b.now in
    c.cmp.ensures ∙ elim c.then-a-eq0.branch [
      | then-a-eq0-via-then-a-eq0 w ↦ nat_cmp-nought a.digits b.digits (raised a.exponent) (raised b.exponent) (inl w.if-a-eq0.true)
      | then-a-eq0-via-else-a-eq0+then-b-eq0 w ↦ nat_cmp-nought a.digits b.digits (raised a.exponent) (raised b.exponent) (inr w.if-b-eq0.true)
    ]

pub returns-in_default : goal.returns-in_default
returns-in_default c =
    let a = c.args.a.now in
    let b = c.args.b.now in
    let e = c.cmp-2.ensures in
    let apart = λ (same : nat_cmp (c.digit_count.result + c.raised.result) (c.digit_count-2.result + c.raised-2.result) ≡ Equal). c.in_default.not-Equal (e ∙ same) in
    e ∙ apart_order a.digits b.digits c.digit_count.result c.digit_count-2.result (raised a.exponent) (raised b.exponent) (c.digit_count.result + c.raised.result) (c.digit_count-2.result + c.raised-2.result)
    c.digit_count.ensures.above c.digit_count.ensures.least c.digit_count-2.ensures.above c.digit_count-2.ensures.least
    (ap (λ (k : ℕ). c.digit_count.result + k) c.raised.ensures.value) (ap (λ (k : ℕ). c.digit_count-2.result + k) c.raised-2.ensures.value) apart
