use Rattle.std.proofs.Common.{◌≡◌, false, true, subst}
use Rattle.std.specs.List.{list_any}
use Rattle.book_queue.specs.Content.{is_in_batch}
use Rattle.book_queue.proofs.Handing.{is_stranger, lets_go, LetsGoAs}
use Rattle.book_queue.proofs.queue.BookQueue.let_go.Goals as goal

went : (c : goal.After-free) → LetsGoAs c.self.inside.pool c.free.new.self c.self.inside.lanes.items c.self.inside.out.items c.take_out.new.out.items c.self.inside.parked c.self.inside.batch c.self.inside.next_batch c.args.number
went c = lets_go c.self.inside.pool c.free.new.self c.self.inside.lanes.items c.self.inside.out.items c.take_out.new.out.items c.self.inside.parked c.self.inside.batch c.self.inside.next_batch c.args.number c.in-Some.batch c.self.invariant c.in-Some.ensures.some c.free.ensures

pub invariant_of-self : goal.invariant_of-self
invariant_of-self c = (went c).kept

pub returns-in-Some-clause-was : goal.returns-in-Some-clause-was
returns-in-Some-clause-was c = subst (λ view. true ≡ list_any (is_in_batch c.args.number) view.held) c.self.view_is (went c).was

pub returns-in-Some-clause-gone : goal.returns-in-Some-clause-gone
returns-in-Some-clause-gone c = rw (← c.self.view_is) (went c).goes

pub returns-in-None-clause-was : goal.returns-in-None-clause-was
returns-in-None-clause-was c = subst (λ view. false ≡ list_any (is_in_batch c.args.number) view.held) c.self.view_is (is_stranger c.self.inside.pool c.self.inside.lanes.items c.self.inside.out.items c.take_out.new.out.items c.self.inside.parked c.self.inside.batch c.self.inside.next_batch c.args.number c.self.invariant c.in-None.ensures.none c.in-None.ensures.same).none

pub returns-in-None-clause-gone : goal.returns-in-None-clause-gone
returns-in-None-clause-gone c = rw (← c.self.view_is) (is_stranger c.self.inside.pool c.self.inside.lanes.items c.self.inside.out.items c.take_out.new.out.items c.self.inside.parked c.self.inside.batch c.self.inside.next_batch c.args.number c.self.invariant c.in-None.ensures.none c.in-None.ensures.same).leaves
