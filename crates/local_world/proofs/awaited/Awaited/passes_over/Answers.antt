use Rattle.std.proofs.Common.{◌≡◌, length, subst}
use Rattle.local_world.specs.Awaited.{Awaited}
use Rattle.local_world.proofs.AwaitLemmas.{neither_passed}
use Rattle.local_world.proofs.awaited.Awaited.passes_over.Goals as goal

pub returns : goal.returns
returns c = λ number found is. neither_passed number found c.args.self.now (subst (λ (a : Awaited). length a.reached ≡ length a.states) c.self.view_is c.self.invariant.2) is
