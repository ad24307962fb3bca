use Rattle.std.proofs.Common.{ℕ, Option, None, Some, ◌∙◌, subst}
use Rattle.local_world.specs.Awaited.{IsOnlyAt, state_has}
use Rattle.local_world.proofs.AwaitLemmas.{is_none_of, record_passed, waits, waits_not}
use Rattle.local_world.proofs.awaited.Awaited.awaits.Goals as goal

pub returns-in-Some : goal.returns-in-Some
returns-in-Some c = λ number content same.
    let states = c.args.self.now.states in
    let reached = c.args.self.now.reached in
    let test = state_has (Some c.args.id.now) in
    let only = subst (λ (p : Option ℕ). IsOnlyAt test states p) c.in-Some.is c.place_of.ensures.only in
    let out = is_none_of c.reached_at.result c.is_none.result c.is_none.ensures ∙ waits test states reached c.in-Some.place c.reached_at.result only c.reached_at.ensures in
    record_passed number content c.args.id.now c.args.self.now (Some c.in-Some.place) c.place_of.ensures.lengths same only c.is_none.result out

pub returns-in-None : goal.returns-in-None
returns-in-None c = λ number content same.
    let states = c.args.self.now.states in
    let test = state_has (Some c.args.id.now) in
    let only = subst (λ (p : Option ℕ). IsOnlyAt test states p) c.in-None.is c.place_of.ensures.only in
    record_passed number content c.args.id.now c.args.self.now None c.place_of.ensures.lengths same only _ (waits_not test states c.args.self.now.reached only)
