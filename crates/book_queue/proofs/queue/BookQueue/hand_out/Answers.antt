use Rattle.std.proofs.Common.{arith, ◌≡◌, ◌∙◌, ◌<◌, ◌+◌, ◌++◌, [], ◌∷◌, ap, min, subst, sym, Some}
use Rattle.std.proofs.lemmas.Grind.{common_steps}
use Rattle.book_queue.specs.declared.batch.Batch.{Batch}
use Rattle.book_queue.specs.Content.{HandsOut, ready_of}
use Rattle.book_queue.specs.Views.{view_of}
use Rattle.book_queue.proofs.Handing.{handed_out, HandsOutAs, is_ready, lane_found}
use Rattle.book_queue.proofs.queue.BookQueue.hand_out.Goals as goal

pub index-requires : goal.index-requires
index-requires c =
    let ready = is_ready c.self.inside.pool.held c.self.inside.pool.streams c.self.inside.pool.next c.self.inside.lanes.items c.self.inside.out.items c.self.inside.next_batch c.args.stream c.self.invariant.are (subst (λ view. ready_of view.held ≡ Some c.args.stream) (sym c.self.view_is) c.requires)
    in let within = ready.within in grind (arith, common_steps, within)

pub detach-requires-clause-stream : goal.detach-requires-clause-stream
detach-requires-clause-stream c =
    let ready = is_ready c.self.inside.pool.held c.self.inside.pool.streams c.self.inside.pool.next c.self.inside.lanes.items c.self.inside.out.items c.self.inside.next_batch c.args.stream c.self.invariant.are (subst (λ view. ready_of view.held ≡ Some c.args.stream) (sym c.self.view_is) c.requires)
    in ready.below

pub detach-requires-clause-count : goal.detach-requires-clause-count
detach-requires-clause-count c =
    let ready = is_ready c.self.inside.pool.held c.self.inside.pool.streams c.self.inside.pool.next c.self.inside.lanes.items c.self.inside.out.items c.self.inside.next_batch c.args.stream c.self.invariant.are (subst (λ view. ready_of view.held ≡ Some c.args.stream) (sym c.self.view_is) c.requires)
    in let is = c.min-count.ensures ∙ ap (λ lane. min lane.sealed c.self.inside.batch) (lane_found c.self.inside.lanes.items c.args.stream c.index.result.now ready.within c.index.ensures) in let some = ready.some in let batches = c.self.invariant.some in omega (arith, is, some, batches)

pub detach-requires-clause-some : goal.detach-requires-clause-some
detach-requires-clause-some c =
    let ready = is_ready c.self.inside.pool.held c.self.inside.pool.streams c.self.inside.pool.next c.self.inside.lanes.items c.self.inside.out.items c.self.inside.next_batch c.args.stream c.self.invariant.are (subst (λ view. ready_of view.held ≡ Some c.args.stream) (sym c.self.view_is) c.requires)
    in ready.first

pub detach-requires-clause-apart : goal.detach-requires-clause-apart
detach-requires-clause-apart c =
    let ready = is_ready c.self.inside.pool.held c.self.inside.pool.streams c.self.inside.pool.next c.self.inside.lanes.items c.self.inside.out.items c.self.inside.next_batch c.args.stream c.self.invariant.are (subst (λ view. ready_of view.held ≡ Some c.args.stream) (sym c.self.view_is) c.requires)
    in ready.apart

pub front-front-requires : goal.front-front-requires
front-front-requires c =
    let ready = is_ready c.self.inside.pool.held c.self.inside.pool.streams c.self.inside.pool.next c.self.inside.lanes.items c.self.inside.out.items c.self.inside.next_batch c.args.stream c.self.invariant.are (subst (λ view. ready_of view.held ≡ Some c.args.stream) (sym c.self.view_is) c.requires)
    in subst (λ pool. c.args.stream < pool.streams) (sym c.in_ok-chain.ensures.pool) ready.below

pub shrink-requires-clause-within : goal.shrink-requires-clause-within
shrink-requires-clause-within c =
    let ready = is_ready c.self.inside.pool.held c.self.inside.pool.streams c.self.inside.pool.next c.self.inside.lanes.items c.self.inside.out.items c.self.inside.next_batch c.args.stream c.self.invariant.are (subst (λ view. ready_of view.held ≡ Some c.args.stream) (sym c.self.view_is) c.requires)
    in ready.within

pub shrink-requires-clause-queued : goal.shrink-requires-clause-queued
shrink-requires-clause-queued c =
    let ready = is_ready c.self.inside.pool.held c.self.inside.pool.streams c.self.inside.pool.next c.self.inside.lanes.items c.self.inside.out.items c.self.inside.next_batch c.args.stream c.self.invariant.are (subst (λ view. ready_of view.held ≡ Some c.args.stream) (sym c.self.view_is) c.requires)
    in let is = c.min-count.ensures ∙ ap (λ lane. min lane.sealed c.self.inside.batch) (lane_found c.self.inside.lanes.items c.args.stream c.index.result.now ready.within c.index.ensures) in let fewer = ready.fewer in omega (arith, is, fewer)

pub shrink-requires-clause-sealed : goal.shrink-requires-clause-sealed
shrink-requires-clause-sealed c =
    let ready = is_ready c.self.inside.pool.held c.self.inside.pool.streams c.self.inside.pool.next c.self.inside.lanes.items c.self.inside.out.items c.self.inside.next_batch c.args.stream c.self.invariant.are (subst (λ view. ready_of view.held ≡ Some c.args.stream) (sym c.self.view_is) c.requires)
    in let is = c.min-count.ensures ∙ ap (λ lane. min lane.sealed c.self.inside.batch) (lane_found c.self.inside.lanes.items c.args.stream c.index.result.now ready.within c.index.ensures) in omega (arith, is)

-- the batch went out
went : (c : goal.After-self-1) → HandsOutAs c.self.inside.pool c.detach.new.pool c.self.inside.lanes.items c.shrink.new.lanes.items c.self.inside.out.items c.push_reserved.new.self.items c.self.inside.parked c.self.inside.batch c.self.inside.next_batch c.args.stream c.in_ok-chain.lines
went c =
    let ready = is_ready c.self.inside.pool.held c.self.inside.pool.streams c.self.inside.pool.next c.self.inside.lanes.items c.self.inside.out.items c.self.inside.next_batch c.args.stream c.self.invariant.are (subst (λ view. ready_of view.held ≡ Some c.args.stream) (sym c.self.view_is) c.requires)
    in let counted = c.min-count.ensures ∙ ap (λ lane. min lane.sealed c.self.inside.batch) (lane_found c.self.inside.lanes.items c.args.stream c.index.result.now ready.within c.index.ensures)
    in let one : Batch = record { number = c.self.inside.next_batch; stream = c.args.stream; count = c.min-count.result; chain = c.in_ok-chain.chain }
    in handed_out c.self.inside.pool c.detach.new.pool c.self.inside.lanes.items c.shrink.new.lanes.items c.self.inside.out.items c.push_reserved.new.self.items c.self.inside.parked c.self.inside.batch c.self.inside.next_batch c.args.stream c.min-count.result c.in_ok-chain.chain c.front-front.result c.in_ok-chain.lines c.self.invariant c.stands.ensures.rise ready counted c.in_ok-chain.ensures.chain c.in_ok-chain.ensures.pool c.front-front.ensures c.shrink.ensures (c.push_reserved.ensures.items ∙ ap (λ out. out ++ one ∷ []) c.reserve.ensures.items) c.in_ok-chain.ensures.lines

pub invariant_of-self-2 : goal.invariant_of-self-2
invariant_of-self-2 c = (went c).kept

pub returns-clause-ok : goal.returns-clause-ok
returns-clause-ok c = subst (λ view. HandsOut c.args.stream c.self.inside.next_batch c.in_ok-chain.lines view (view_of c.detach.new.pool c.shrink.new.lanes.items c.push_reserved.new.self.items c.self.inside.parked c.self.inside.batch (c.self.inside.next_batch + 1))) c.self.view_is (went c).hands
