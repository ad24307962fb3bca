use Rattle.std.proofs.Common.{subst, IfSome}
use Rattle.state_gate.specs.Content.{head_in, IsFirstOfLane}
use Rattle.state_gate.proofs.Heads.{first_of_lane}
use Rattle.state_gate.proofs.gate.Gate.head.Goals as goal

pub returns-clause-first : goal.returns-clause-first
returns-clause-first c content stands = subst (λ kept. IfSome (head_in kept) (IsFirstOfLane kept.waiting)) stands (subst (λ gate. IfSome (head_in gate.kept) (IsFirstOfLane gate.kept.waiting)) c.self.view_is (first_of_lane c.self.inside.uncommitted.items 0 c.self.inside.next c.self.inside.waiting.items c.self.invariant.2.states))
