use Rattle.std.proofs.Common.{arith, ◌≡◌, ◌∙◌, ◌<◌, None, Some, ap, subst}
use Rattle.book_queue.specs.Content.{sealed_for, sealed_oldest}
use Rattle.book_queue.proofs.Pushing.{oldest_below, oldest_sealed_is}
use Rattle.book_queue.proofs.queue.BookQueue.seal_oldest.Goals as goal

pub seal-requires : goal.seal-requires
seal-requires c = let within = oldest_below c.self.inside.lanes.items c.self.inside.out.items c.self.inside.pool.next c.in-Some.stream c.self.inside.pool.held c.self.invariant.are.slots_fit c.in-Some.ensures in subst (λ view. c.in-Some.stream < view.streams) c.self.view_is (omega (arith, within, c.self.invariant.are.long))

pub returns-in-Some : goal.returns-in-Some
returns-in-Some c = c.seal.ensures ∙ ap (λ held. record c.args.self.now { held = held }) (subst (λ view. sealed_for (Some c.in-Some.stream) view.held ≡ sealed_oldest view.held) c.self.view_is (oldest_sealed_is c.self.inside.lanes.items c.self.inside.out.items (Some c.in-Some.stream) c.self.inside.pool.held c.in-Some.ensures))

pub returns-in_default : goal.returns-in_default
returns-in_default c = ap (λ held. record c.args.self.now { held = held }) (subst (λ view. sealed_for None view.held ≡ sealed_oldest view.held) c.self.view_is (oldest_sealed_is c.self.inside.lanes.items c.self.inside.out.items None c.self.inside.pool.held c.in_default.ensures))
