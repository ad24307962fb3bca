use Rattle.std.proofs.Common.{◌≡◌, None, Some, sym, ◌∙◌, subst, arith, slice_get}
use Rattle.std.proofs.lemmas.List.{length-set}
use Rattle.std.proofs.lemmas.Option.{slice_get_within}
use Rattle.local_world.specs.Awaited.{Awaited}
use Rattle.local_world.proofs.AwaitLemmas.{missing_less, missing_one}
use Rattle.local_world.proofs.awaited.Awaited.come.Goals as goal

pub overflow_sub-self : goal.overflow_sub-self
overflow_sub-self c =
    let at = subst (λ (a : Awaited). slice_get a.reached c.args.place ≡ Some None) (sym c.self.view_is) c.requires in
    let one = missing_one c.self.inside.reached.items c.args.place at in
    let e = c.self.invariant.3 in
    omega (arith, one, e)

pub index_mut-requires : goal.index_mut-requires
index_mut-requires c =
    let at = subst (λ (a : Awaited). slice_get a.reached c.args.place ≡ Some None) (sym c.self.view_is) c.requires in
    let lt = slice_get_within c.self.inside.reached.items c.args.place None at in
    let ok = c.self.inside.reached.ok in
    omega (arith, lt, ok)

pub invariant_of-self : goal.invariant_of-self
invariant_of-self c =
    let at = subst (λ (a : Awaited). slice_get a.reached c.args.place ≡ Some None) (sym c.self.view_is) c.requires in
    let one = missing_one c.self.inside.reached.items c.args.place at in
    let less = missing_less c.self.inside.reached.items c.args.place c.args.count at in
    let e = c.self.invariant.3 in
    (c.self.invariant.0, c.self.invariant.1, length-set _ _ _ ∙ c.self.invariant.2, omega (arith, one, less, e))
