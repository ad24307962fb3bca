use Rattle.std.proofs.Common.{ℕ, Option, None, Some, sym, ap, ◌∙◌}
use Rattle.local_world.proofs.awaited.Awaited.pass_state.Goals as goal
use Rattle.local_world.specs.Awaited.{Awaited}
use Rattle.local_world.proofs.StartedLemmas.{true_false}
use Rattle.local_world.proofs.AwaitLemmas.{found_at, none_there, own_only, passed_early, passed_later, passed_now, passed_other, some_there}

pub returns-in_default : goal.returns-in_default
returns-in_default c =
    passed_other c.args.number c.args.state.now c.args.self.now c.place_of.ensures.lengths
    (own_only c.args.state.now _ c.kind.result.now c.args.self.now.states c.place_of.result None c.place_of.ensures.only c.stream_of.ensures c.kind.ensures c.in_default.is)

pub returns-then-is_some : goal.returns-then-is_some
returns-then-is_some c =
    let at = some_there c.reached_at.result (sym c.if-is_some.ensures) in
    passed_later c.args.number c.args.state.now c.args.self.now c.in-Some.place at.0 c.place_of.ensures.lengths
    (own_only c.args.state.now _ c.kind.result.now c.args.self.now.states c.place_of.result (Some c.in-Some.place) c.place_of.ensures.only c.stream_of.ensures c.kind.ensures c.in-Some.is)
    (c.reached_at.ensures ∙ ap (λ (o : Option ℕ). Some o) at.1)

pub returns-then-branch : goal.returns-then-branch
returns-then-branch c =
    let at = none_there c.reached_at.result (sym c.if-is_some.ensures) in
    passed_now c.args.number c.args.state.now c.args.self.now c.come.new.self c.in-Some.place c.at.result.now c.place_of.ensures.lengths
    (own_only c.args.state.now _ c.kind.result.now c.args.self.now.states c.place_of.result (Some c.in-Some.place) c.place_of.ensures.only c.stream_of.ensures c.kind.ensures c.in-Some.is)
    (found_at c.self.inside.states c.args.self.now c.in-Some.place c.at.result.now (ap (λ (a : Awaited). a.states) c.self.view_is) c.at.ensures) (c.reached_at.ensures ∙ ap (λ (o : Option ℕ). Some o) at) (c.in_ok-same_state.ensures.0 c.if-branch.true) c.come.ensures.states c.come.ensures.reached

pub returns-else-branch : goal.returns-else-branch
returns-else-branch c =
    let at = none_there c.reached_at.result (sym c.if-is_some.ensures) in
    passed_early c.args.number c.args.state.now c.args.self.now c.in-Some.place c.at.result.now c.place_of.ensures.lengths
    (own_only c.args.state.now _ c.kind.result.now c.args.self.now.states c.place_of.result (Some c.in-Some.place) c.place_of.ensures.only c.stream_of.ensures c.kind.ensures c.in-Some.is)
    (found_at c.self.inside.states c.args.self.now c.in-Some.place c.at.result.now (ap (λ (a : Awaited). a.states) c.self.view_is) c.at.ensures) (c.reached_at.ensures ∙ ap (λ (o : Option ℕ). Some o) at) (λ same. true_false (sym (c.in_ok-same_state.ensures.1 same) ∙ c.if-branch.false))
