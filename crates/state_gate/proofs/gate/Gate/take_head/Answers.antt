use Rattle.std.proofs.Common.{arith, subst, sym, ◌∙◌, IfSome, ◌≡◌, None, find, remove}
use Rattle.state_gate.specs.Content.{head_in, is_clear, without_first, IsFirstOfLane}
use Rattle.state_gate.specs.Views.{BoundsRise}
use Rattle.state_gate.proofs.Heads.{first_of_lane, none_without_head}
use Rattle.state_gate.proofs.Orders.{bounds_without}
use Rattle.state_gate.proofs.gate.Gate.take_head.Goals as goal

pub returns-in_err-index-clause-content : goal.returns-in_err-index-clause-content
returns-in_err-index-clause-content c content stands =
    let none = subst (λ records. find (is_clear records) c.deref-2.result.now ≡ None) c.deref.ensures.value c.in_err-index.ensures.none
    in let none_waits = subst (λ states. find (is_clear c.self.inside.uncommitted.items) states ≡ None) c.deref-2.ensures.value none
    in let no_head = subst (λ gate. head_in gate.kept ≡ None) c.self.view_is none_waits
    in stands ∙ none_without_head content (subst (λ kept. head_in kept ≡ None) stands no_head)

pub invariant_of-self : goal.invariant_of-self
invariant_of-self c =
    let rest = subst (λ states. without_first (is_clear c.deref.result.now) states ≡ remove states c.in_ok-index.index) c.deref-2.ensures.value c.in_ok-index.ensures.some.rest
    in (
      c.self.invariant.0,
      omega (arith, c.self.invariant.1, c.remove.ensures.len, c.remove.ensures.capacity),
      record { records = c.self.invariant.2.records; states = subst (λ states. BoundsRise 0 c.self.inside.next states) (rest ∙ sym c.remove.ensures.items) (bounds_without 0 c.self.inside.next (is_clear c.deref.result.now) c.self.inside.waiting.items c.self.invariant.2.states) },
      c.self.invariant.3,
      c.self.invariant.4,
    )

pub returns-clause-first : goal.returns-clause-first
returns-clause-first c content stands = subst (λ kept. IfSome (head_in kept) (IsFirstOfLane kept.waiting)) stands (subst (λ gate. IfSome (head_in gate.kept) (IsFirstOfLane gate.kept.waiting)) c.self.view_is (first_of_lane c.self.inside.uncommitted.items 0 c.self.inside.next c.self.inside.waiting.items c.self.invariant.2.states))
