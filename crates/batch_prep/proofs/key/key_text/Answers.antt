use Rattle.std.proofs.Common.{arith, List, ℕ, ◌≡◌, length, sym, ap, subst, slice_index_or, Bool}
use Rattle.column_types.specs.Values.{HasValue}
use Rattle.batch_prep.specs.Places.{AreStarts, IsFirst}
use Rattle.batch_prep.proofs.PlaceLemmas.{start_at, starts_long}
use Rattle.batch_prep.proofs.RowLemmas.{key_more}
use Rattle.batch_prep.proofs.key.key_text.Goals as goal

pub at-requires : goal.at-requires
at-requires c =
    let plan = c.args.plan.now in
    let layout = c.args.layout.now in
    let long : length layout.key ≡ length plan.key = starts_long layout.names plan.columns plan.key layout.key c.requires.layout.key in
    let items : length c.as_slice-path-items.result.now ≡ length plan.key = ap (λ (l : List (List (List ℕ))). length l) c.as_slice-path-items.ensures in
    let test = c.loop-i-test.true in
    omega (arith, long, items, test)

pub value_at-requires-clause-first : goal.value_at-requires-clause-first
value_at-requires-clause-first c =
    let plan = c.args.plan.now in
    let layout = c.args.layout.now in
    let paths = c.as_slice-path-items.result.now in
    let path = c.path-item.result in
    let are = subst (λ (l : List (List (List ℕ))). AreStarts layout.names plan.columns l layout.key) (sym c.as_slice-path-items.ensures) c.requires.layout.key in
    let start = start_at layout.names plan.columns paths layout.key c.loop-i.i path c.at.result.now are c.loop-i-test.true c.at.ensures in
    subst (λ (p : List (List ℕ)). IsFirst layout.names p c.at.result.now.slot) (sym c.path-item.is) start.first

pub loop-i-preserved : goal.loop-i-preserved
loop-i-preserved c =
    let body = c.args.body.now in
    let plan = c.args.plan.now in
    let layout = c.args.layout.now in
    let paths = c.as_slice-path-items.result.now in
    let path = c.path-item.result in
    let are = subst (λ (l : List (List (List ℕ))). AreStarts layout.names plan.columns l layout.key) (sym c.as_slice-path-items.ensures) c.requires.layout.key in
    let start = start_at layout.names plan.columns paths layout.key c.loop-i.i path c.at.result.now are c.loop-i-test.true c.at.ensures in
    let value = subst (λ (p : List (List ℕ)). HasValue body p c.at.result.now.is_instant c.in_ok-value.value) c.path-item.is c.in_ok-value.ensures in
    key_more body plan.columns paths c.loop-i.i path c.loop-i.text.items c.in_ok-text.text.items c.push.new.self.items c.in_ok-value.value c.loop-i-test.true c.loop-i.invariant
    (subst (λ (b : Bool). HasValue body (slice_index_or paths c.loop-i.i path) b c.in_ok-value.value) start.instant value) c.in_ok-text.ensures.text c.in_ok-push.ensures.items
