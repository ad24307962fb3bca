use Rattle.std.proofs.Common.{◌≡◌, ◌+◌, ◌*◌, ℕ, arith, ap, sym, ◌∙◌}
use Rattle.value_order.proofs.SizeLemmas.{aligned_short, raise_short, aligned_order, aligned_order_other}
use Rattle.value_order.proofs.order.compare_aligned.Goals as goal

pub pow-requires : goal.pow-requires
pow-requires c =
    let s = c.requires in
    let r = c.raised-raise.ensures.value in
    let o = c.raised-other_raise.ensures.value in
    let same : s.count + c.raised-raise.result ≡ s.other + c.raised-other_raise.result = ap (λ (k : ℕ). s.count + k) r ∙ s.same ∙ ap (λ (k : ℕ). s.other + k) (sym o) in
    let h = raise_short s.count s.other c.raised-raise.result c.raised-other_raise.result s.other_short same in
    omega (arith, h)

pub overflow_mul-a : goal.overflow_mul-a
overflow_mul-a c =
    let s = c.requires in
    let r = c.raised-raise.ensures.value in
    let o = c.raised-other_raise.ensures.value in
    let same : s.count + c.raised-raise.result ≡ s.other + c.raised-other_raise.result = ap (λ (k : ℕ). s.count + k) r ∙ s.same ∙ ap (λ (k : ℕ). s.other + k) (sym o) in
    let h = aligned_short c.args.a.now.digits s.count s.other c.raised-raise.result c.raised-other_raise.result s.below s.other_short same c.if-raise-other_raise.true in
    let e = ap (λ (k : ℕ). c.args.a.now.digits * k) c.pow.ensures in
    omega (arith, h, e)

pub pow-requires-else-raise-other_raise : goal.pow-requires-else-raise-other_raise
pow-requires-else-raise-other_raise c =
    let s = c.requires in
    let r = c.raised-raise.ensures.value in
    let o = c.raised-other_raise.ensures.value in
    let same : s.other + c.raised-other_raise.result ≡ s.count + c.raised-raise.result = sym (ap (λ (k : ℕ). s.count + k) r ∙ s.same ∙ ap (λ (k : ℕ). s.other + k) (sym o)) in
    let h = raise_short s.other s.count c.raised-other_raise.result c.raised-raise.result s.short same in
    omega (arith, h)

pub overflow_mul-b : goal.overflow_mul-b
overflow_mul-b c =
    let s = c.requires in
    let r = c.raised-raise.ensures.value in
    let o = c.raised-other_raise.ensures.value in
    let same : s.other + c.raised-other_raise.result ≡ s.count + c.raised-raise.result = sym (ap (λ (k : ℕ). s.count + k) r ∙ s.same ∙ ap (λ (k : ℕ). s.other + k) (sym o)) in
    let h = aligned_short c.args.b.now.digits s.other s.count c.raised-other_raise.result c.raised-raise.result s.other_below s.short same (omega arith) in
    let e = ap (λ (k : ℕ). c.args.b.now.digits * k) c.pow-else-raise-other_raise.ensures in
    omega (arith, h, e)

pub returns-then-raise-other_raise : goal.returns-then-raise-other_raise
returns-then-raise-other_raise c =
    let r = c.raised-raise.ensures.value in
    let o = c.raised-other_raise.ensures.value in
    c.cmp.ensures ∙ (rw (r, o) at (aligned_order c.args.a.now.digits c.args.b.now.digits c.raised-raise.result c.raised-other_raise.result c.pow.result c.if-raise-other_raise.true c.pow.ensures))

pub returns-else-raise-other_raise : goal.returns-else-raise-other_raise
returns-else-raise-other_raise c =
    let r = c.raised-raise.ensures.value in
    let o = c.raised-other_raise.ensures.value in
    c.cmp-else-raise-other_raise.ensures ∙ (rw (r, o) at (aligned_order_other c.args.a.now.digits c.args.b.now.digits c.raised-raise.result c.raised-other_raise.result c.pow-else-raise-other_raise.result (omega arith) c.pow-else-raise-other_raise.ensures))
