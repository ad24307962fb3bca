use Rattle.std.proofs.Common.{sym, arith, ◌≡◌, ◌∙◌, subst, ap, drop, take, None, Some}
use Rattle.buffer_pool.specs.Content.{chain_of, queue_of, first_of, with_front_detached, IsFrontAt}
use Rattle.buffer_pool.proofs.Fronts.{front_named, front_taken}
use Rattle.buffer_pool.proofs.Keeping.{alike_pool, alike_detached}
use Rattle.buffer_pool.proofs.Chains.{front_detached, queue_left_behind, queue_none}
use Rattle.buffer_pool.proofs.pool.Pool.detach.Goals as goal

pub returns-in_err-from-clause-queue : goal.returns-in_err-from-clause-queue
returns-in_err-from-clause-queue c = subst (λ pool. queue_of c.args.stream pool.held ≡ drop c.args.max (queue_of c.args.stream pool.held)) c.self.view_is (queue_none c.args.stream c.args.max c.self.inside.held.items (subst (λ held. first_of c.args.stream held ≡ None) c.deref.ensures.value c.in_err-from.ensures.none))

is_detached : (c : goal.After-new) → c.detach_from.new.held.items ≡ with_front_detached c.args.stream c.args.max c.self.inside.held.items
is_detached c = c.detach_from.ensures.items ∙ front_detached c.args.stream c.in_ok-from.from c.args.max c.self.inside.held.items c.index.result.now (subst (λ held. IsFrontAt c.args.stream held c.in_ok-from.from) c.deref.ensures.value c.in_ok-from.ensures.some) c.index.ensures

pub invariant_of-self : goal.invariant_of-self
invariant_of-self c = (rw (is_detached c) (alike_pool _ _ _ _ _ _ (alike_detached c.args.stream c.args.max c.self.inside.held.items) (front_named c.args.stream c.args.max c.self.inside.held.items c.requires.max c.self.invariant.0.rise c.self.invariant.0.named) c.self.invariant.0), omega (arith, c.self.invariant.1, c.detach_from.ensures.capacity))

pub returns-clause-queue : goal.returns-clause-queue
returns-clause-queue c = rw (is_detached c) (subst (λ pool. queue_of c.args.stream (with_front_detached c.args.stream c.args.max c.self.inside.held.items) ≡ drop c.args.max (queue_of c.args.stream pool.held)) c.self.view_is (queue_left_behind c.args.stream c.args.max c.self.inside.held.items))

pub returns-clause-records : goal.returns-clause-records
returns-clause-records c =
    let front = subst (λ held. IsFrontAt c.args.stream held c.in_ok-from.from) c.deref.ensures.value c.in_ok-from.ensures.some
    in let is = front.first c.index.result.now ∙ ap (λ slot. Some slot.seq) (sym c.index.ensures)
    in rw c.new.ensures
    (rw (is_detached c)
    (subst (λ pool. chain_of c.index.result.now.seq (with_front_detached c.args.stream c.args.max c.self.inside.held.items) ≡ take c.args.max (queue_of c.args.stream pool.held)) c.self.view_is
    (front_taken c.args.stream c.args.max c.index.result.now.seq c.self.inside.held.items is c.self.invariant.0.named)))
