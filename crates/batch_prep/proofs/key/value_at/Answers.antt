use Rattle.std.proofs.Common.{List, ℕ, Option, subst, ap, drop, take, length, ◌-◌}
use Rattle.std.specs.Option.{option_copied}
use Rattle.std.proofs.lemmas.Result.{IfOk-weaker}
use Rattle.column_types.specs.Words.{IsValueAlong}
use Rattle.batch_prep.specs.Places.{IsFirst, IsHeldAt}
use Rattle.batch_prep.proofs.RowLemmas.{value_found}
use Rattle.batch_prep.proofs.key.value_at.Goals as goal

pub returns-in-Some-held : goal.returns-in-Some-held
returns-in-Some-held c =
    let body = c.args.body.now in
    let names = c.args.layout.now.names in
    let path = c.args.path.now in
    let first = subst (λ (slot : Option ℕ). IsFirst names path slot) c.in-Some.is c.requires.first in
    let at = subst (λ (found : Option (List ℕ)). IsHeldAt body names c.in-Some.slot found) (ap option_copied c.in-Some-held.is) c.held.ensures.held in
    let rest : List (List ℕ) → List (List ℕ) = λ l. take (length l - 1) (drop 1 l) in
    let held = c.in-Some-held.held.now in
    let instants = c.args.start.is_instant in
    IfOk-weaker c.value_along.result (IsValueAlong held (rest c.as_slice.result.now) instants) _
    (λ value along. value_found body held names path c.in-Some.slot instants value first at (subst (λ (l : List (List ℕ)). IsValueAlong held (rest l) instants value) c.as_slice.ensures along)) c.value_along.ensures
