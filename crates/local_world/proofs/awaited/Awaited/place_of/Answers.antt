use Rattle.std.proofs.Common.{◌≡◌, ◌≤◌, Option, None, Some, length, sym, ap, ◌∙◌, subst, arith}
use Rattle.std.specs.Option.{option_copied}
use Rattle.basics.specs.declared.stream.StreamId.{StreamId}
use Rattle.local_world.specs.Awaited.{Awaited, IsOnlyAt, state_has}
use Rattle.local_world.proofs.StartedLemmas.{are_sound, found_place, global_place, streamless_place}
use Rattle.local_world.proofs.AwaitLemmas.{is_within}
use Rattle.local_world.proofs.awaited.Awaited.place_of.Goals as goal

pub returns-then-len-clause-only : goal.returns-then-len-clause-only
returns-then-len-clause-only c =
    subst (λ (a : Awaited). IsOnlyAt (state_has (option_copied c.args.id)) a.states (Some 0)) c.self.view_is
    (global_place (option_copied c.args.id) c.self.inside.states c.self.inside.index (are_sound c.self.inside.states c.self.invariant.0) c.self.invariant.1
    (let lt = c.if-len.true in let a = c.len.ensures.len in let b = c.len-2.ensures in omega (arith, lt, a, b)))

pub returns-then-len-clause-within : goal.returns-then-len-clause-within
returns-then-len-clause-within c =
    let lt = c.if-len.true in
    let b : c.len-2.result ≡ length c.args.self.now.states = c.len-2.ensures ∙ ap (λ (a : Awaited). length a.states) c.self.view_is in
    omega (arith, lt, b)

pub returns-in-Some-clause-only : goal.returns-in-Some-clause-only
returns-in-Some-clause-only c =
    let le : length c.self.inside.states ≤ length c.self.inside.index = let no = c.if-len.false in let a = c.len.ensures.len in let b = c.len-2.ensures in omega (arith, no, a, b) in
    let at = found_place c.in-Some.id.now c.self.inside.states c.self.inside.index c.find.result (are_sound c.self.inside.states c.self.invariant.0) c.self.invariant.1 le c.find.ensures.found c.find.ensures.none in
    let own = subst (λ (a : Awaited). IsOnlyAt (state_has (Some c.in-Some.id.now)) a.states c.find.result) c.self.view_is at in
    subst (λ (o : Option StreamId). IsOnlyAt (state_has o) c.args.self.now.states c.find.result) (sym (ap option_copied c.in-Some.is)) own

pub returns-in-Some-clause-within : goal.returns-in-Some-clause-within
returns-in-Some-clause-within c =
    is_within (state_has (option_copied c.args.id)) c.args.self.now.states c.find.result (returns-in-Some-clause-only c)

pub returns-in-None-clause-only : goal.returns-in-None-clause-only
returns-in-None-clause-only c =
    let le : length c.self.inside.states ≤ length c.self.inside.index = let no = c.if-len.false in let a = c.len.ensures.len in let b = c.len-2.ensures in omega (arith, no, a, b) in
    let own = subst (λ (a : Awaited). IsOnlyAt (state_has None) a.states None) c.self.view_is (streamless_place c.self.inside.states c.self.inside.index (are_sound c.self.inside.states c.self.invariant.0) c.self.invariant.1 le) in
    subst (λ (o : Option StreamId). IsOnlyAt (state_has o) c.args.self.now.states None) (sym (ap option_copied c.in-None.is)) own
