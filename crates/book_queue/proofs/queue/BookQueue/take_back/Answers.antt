use Rattle.std.proofs.Common.{◌≡◌, false, true, subst}
use Rattle.std.specs.List.{list_any}
use Rattle.book_queue.specs.Content.{is_in_batch}
use Rattle.book_queue.proofs.Handing.{has_room, is_stranger, puts_back, PutsBackAs}
use Rattle.book_queue.proofs.queue.BookQueue.take_back.Goals as goal

went : (c : goal.After-put_back) → PutsBackAs c.self.inside.pool c.put_back.new.pool c.self.inside.lanes.items c.put_back.new.lanes.items c.self.inside.out.items c.take_out.new.out.items c.self.inside.parked c.self.inside.batch c.self.inside.next_batch c.args.number
went c = puts_back c.self.inside.pool c.put_back.new.pool c.self.inside.lanes.items c.put_back.new.lanes.items c.self.inside.out.items c.take_out.new.out.items c.self.inside.parked c.self.inside.batch c.self.inside.next_batch c.args.number c.in-Some.batch c.self.invariant c.in-Some.ensures.some c.put_back.ensures.pool c.put_back.ensures.lanes

pub put_back-requires-clause-stream : goal.put_back-requires-clause-stream
put_back-requires-clause-stream c = (has_room c.self.inside.pool c.self.inside.lanes.items c.self.inside.out.items c.take_out.new.out.items c.self.inside.parked c.self.inside.batch c.self.inside.next_batch c.args.number c.in-Some.batch c.self.invariant c.stands.ensures.few c.in-Some.ensures.some).below

pub put_back-requires-clause-within : goal.put_back-requires-clause-within
put_back-requires-clause-within c = (has_room c.self.inside.pool c.self.inside.lanes.items c.self.inside.out.items c.take_out.new.out.items c.self.inside.parked c.self.inside.batch c.self.inside.next_batch c.args.number c.in-Some.batch c.self.invariant c.stands.ensures.few c.in-Some.ensures.some).within

pub put_back-requires-clause-queued : goal.put_back-requires-clause-queued
put_back-requires-clause-queued c = (has_room c.self.inside.pool c.self.inside.lanes.items c.self.inside.out.items c.take_out.new.out.items c.self.inside.parked c.self.inside.batch c.self.inside.next_batch c.args.number c.in-Some.batch c.self.invariant c.stands.ensures.few c.in-Some.ensures.some).queued

pub put_back-requires-clause-sealed : goal.put_back-requires-clause-sealed
put_back-requires-clause-sealed c = (has_room c.self.inside.pool c.self.inside.lanes.items c.self.inside.out.items c.take_out.new.out.items c.self.inside.parked c.self.inside.batch c.self.inside.next_batch c.args.number c.in-Some.batch c.self.invariant c.stands.ensures.few c.in-Some.ensures.some).sealed

pub invariant_of-self : goal.invariant_of-self
invariant_of-self c = (went c).kept

pub returns-in-Some-clause-was : goal.returns-in-Some-clause-was
returns-in-Some-clause-was c = subst (λ view. true ≡ list_any (is_in_batch c.args.number) view.held) c.self.view_is (went c).was

pub returns-in-Some-clause-back : goal.returns-in-Some-clause-back
returns-in-Some-clause-back c = rw (← c.self.view_is) (went c).goes

pub returns-in-None-clause-was : goal.returns-in-None-clause-was
returns-in-None-clause-was c = subst (λ view. false ≡ list_any (is_in_batch c.args.number) view.held) c.self.view_is (is_stranger c.self.inside.pool c.self.inside.lanes.items c.self.inside.out.items c.take_out.new.out.items c.self.inside.parked c.self.inside.batch c.self.inside.next_batch c.args.number c.self.invariant c.in-None.ensures.none c.in-None.ensures.same).none

pub returns-in-None-clause-back : goal.returns-in-None-clause-back
returns-in-None-clause-back c = rw (← c.self.view_is) (is_stranger c.self.inside.pool c.self.inside.lanes.items c.self.inside.out.items c.take_out.new.out.items c.self.inside.parked c.self.inside.batch c.self.inside.next_batch c.args.number c.self.invariant c.in-None.ensures.none c.in-None.ensures.same).moves
