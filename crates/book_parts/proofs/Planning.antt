-- The plan of a load, stream by stream.
use Rattle.std.proofs.Common.{arith, ◌≡◌, inl, inr, ℕ, zero, suc, ◌+◌, ◌<◌, ◌≤◌, ◌%◌, List, [], ◌∷◌, ◌++◌, map, length, take, refl, sym, ◌∙◌, ap, subst, true, None, Some, eq-eqb}
use Rattle.std.specs.Prelude.{slice_get, filter, ◌==◌}
use Rattle.std.specs.List.{enumerate_from}
use Rattle.std.proofs.lemmas.List.{map-append, take_more, take_all}
use Rattle.std.proofs.lemmas.Option.{none-some, get_or_from_slice_get, slice_get_within}
use Rattle.basics.specs.declared.stream.StreamId.{StreamId}
use Rattle.outside.specs.declared.event.StreamPlan.{StreamPlan}
use Rattle.outside.specs.declared.load.Marks.{Marks}
use Rattle.catalog.specs.Parts.{part_of}
use Rattle.catalog.specs.Reading.{ids_of}
use Rattle.catalog.specs.declared.stream.ConfStream.{ConfStream}
use Rattle.column_types.specs.Columns.{AreColumns}
use Rattle.column_types.specs.declared.column.Column.{Column}
use Rattle.load_rules.specs.Engine.{HasGeneration, IsOverwrite, PlansFit}
use Rattle.book_rules.specs.Starts.{AreColumnsOf, ArePlansOf, IsPlanOf, LacksAt, LacksGeneration}

-- one element more is taken
taken : {A : Type 0} (xs : List A) (n : ℕ) (x : A) → slice_get xs n ≡ Some x → take (n + 1) xs ≡ take n xs ++ x ∷ []
taken xs n x at = take_more xs n x (slice_get_within xs n x at) ∙ ap (λ y. take n xs ++ y ∷ []) (get_or_from_slice_get xs n x x at)

got_before : {A : Type 0} (xs : List A) (n k : ℕ) → k < n → slice_get (take n xs) k ≡ slice_get xs k
got_before [] zero k below = refl
got_before [] (suc n) k below = refl
got_before (x ∷ xs) zero k below = absurd (omega arith)
got_before (x ∷ xs) (suc n) zero below = refl
got_before (x ∷ xs) (suc n) (suc k) below = got_before xs n k (omega arith)

-- Plans

plans_push : (marks : List Marks) (streams : List ConfStream) (plans : List StreamPlan) (mark : Marks) (stream : ConfStream) (plan : StreamPlan) → ArePlansOf marks streams plans → IsPlanOf mark stream plan → ArePlansOf (marks ++ mark ∷ []) (streams ++ stream ∷ []) (plans ++ plan ∷ [])
plans_push [] [] [] mark stream plan all one = (one, tt)
plans_push (m ∷ ms) (s ∷ ss) (p ∷ ps) mark stream plan all one = (all.0, plans_push ms ss ps mark stream plan all.1 one)
plans_push _ _ _ mark stream plan all one = absurd all

pub plans_step : (marks : List Marks) (streams : List ConfStream) (n : ℕ) (plans now : List StreamPlan) (mark : Marks) (stream : ConfStream) (plan : StreamPlan) → slice_get marks n ≡ Some mark → slice_get streams n ≡ Some stream → now ≡ plans ++ plan ∷ [] → ArePlansOf (take n marks) (take n streams) plans → IsPlanOf mark stream plan → ArePlansOf (take (n + 1) marks) (take (n + 1) streams) now
plans_step marks streams n plans now mark stream plan marked configured grew all one = rw (taken marks n mark marked, taken streams n stream configured, grew) (plans_push (take n marks) (take n streams) plans mark stream plan all one)

pub plans_done : (marks : List Marks) (streams : List ConfStream) (n : ℕ) (plans : List StreamPlan) → length marks ≡ length streams → length streams ≤ n → ArePlansOf (take n marks) (take n streams) plans → ArePlansOf marks streams plans
plans_done marks streams n plans many done all =
    let m : take n marks ≡ marks = take_all n marks (omega (arith, many, done)) in
    let s : take n streams ≡ streams = take_all n streams done in
    subst (λ ms. ArePlansOf ms streams plans) m (subst (λ ss. ArePlansOf (take n marks) ss plans) s all)

record HasPlan (mark : Marks) (stream : ConfStream) : Type 0 where
  plan : StreamPlan
  is : IsPlanOf mark stream plan

plan_at : (marks : List Marks) (streams : List ConfStream) (plans : List StreamPlan) (k : ℕ) (mark : Marks) (stream : ConfStream) → ArePlansOf marks streams plans → slice_get marks k ≡ Some mark → slice_get streams k ≡ Some stream → HasPlan mark stream
plan_at [] [] [] k mark stream all marked configured = absurd (none-some mark marked)
plan_at (m ∷ ms) (s ∷ ss) (p ∷ ps) zero mark stream all marked configured =
    let is_mark : m ≡ mark = cc in
    let is_stream : s ≡ stream = cc in
    record { plan = p; is = subst (λ one. IsPlanOf one stream p) is_mark (subst (λ one. IsPlanOf m one p) is_stream all.0) }
plan_at (m ∷ ms) (s ∷ ss) (p ∷ ps) (suc k) mark stream all marked configured = plan_at ms ss ps k mark stream all.1 marked configured
plan_at _ _ _ k mark stream all marked configured = absurd all

-- a stream with a plan has a generation
not_lacking : (mark : Marks) (stream : ConfStream) (plan : StreamPlan) → IsPlanOf mark stream plan → ¬ LacksGeneration mark stream
not_lacking mark stream plan is lacks = at (subst (λ generation. HasGeneration mark stream plan generation) lacks.absent is.has)
  where
    overwrites : IsOverwrite stream.dest
    overwrites = subst IsOverwrite (sym lacks.overwrites) tt

    at : HasGeneration mark stream plan None → ⊥
    at (inl new) = none-some plan.generation (sym lacks.spent ∙ new.1)
    at (inr old) = old.0 overwrites

pub lacks_first : (marks : List Marks) (streams : List ConfStream) (n : ℕ) (plans : List StreamPlan) (mark : Marks) (stream : ConfStream) → slice_get marks n ≡ Some mark → slice_get streams n ≡ Some stream → ArePlansOf (take n marks) (take n streams) plans → LacksGeneration mark stream → LacksAt n marks streams
lacks_first marks streams n plans mark stream marked configured all lacks = record {
  mark = mark;
  marked = marked;
  stream = stream;
  configured = configured;
  lacks = lacks;
  others = λ other one before below marked_one configured_one.
      let has = plan_at (take n marks) (take n streams) plans other one before all (got_before marks n other below ∙ marked_one) (got_before streams n other below ∙ configured_one) in
      not_lacking one before has.plan has.is;
}

-- the plan is the catalog's
pub plans_fit : (marks : List Marks) (streams : List ConfStream) (plans : List StreamPlan) → ArePlansOf marks streams plans → PlansFit streams plans
plans_fit [] [] [] all = tt
plans_fit (m ∷ ms) (s ∷ ss) (p ∷ ps) all = (all.0.fits, plans_fit ms ss ps all.1)
plans_fit _ _ _ all = absurd all

-- Columns and ids

columns_push : (streams : List ConfStream) (columns : List (List Column)) (stream : ConfStream) (own : List Column) → AreColumnsOf streams columns → AreColumns stream.schema own → AreColumnsOf (streams ++ stream ∷ []) (columns ++ own ∷ [])
columns_push [] [] stream own all one = (one, tt)
columns_push (s ∷ ss) (c ∷ cs) stream own all one = (all.0, columns_push ss cs stream own all.1 one)
columns_push _ _ stream own all one = absurd all

pub columns_step : (streams : List ConfStream) (n : ℕ) (columns now : List (List Column)) (stream : ConfStream) (own : List Column) → slice_get streams n ≡ Some stream → now ≡ columns ++ own ∷ [] → AreColumnsOf (take n streams) columns → AreColumns stream.schema own → AreColumnsOf (take (n + 1) streams) now
columns_step streams n columns now stream own configured grew all one = rw (taken streams n stream configured, grew) (columns_push (take n streams) columns stream own all one)

pub ids_step : (streams : List ConfStream) (n : ℕ) (ids now : List StreamId) (stream : ConfStream) (id : StreamId) → slice_get streams n ≡ Some stream → now ≡ ids ++ id ∷ [] → id ≡ stream.id → ids ≡ ids_of (take n streams) → now ≡ ids_of (take (n + 1) streams)
ids_step streams n ids now stream id configured grew is all =
    grew ∙ (ap (λ more. more ++ id ∷ []) all ∙ (ap (λ one. ids_of (take n streams) ++ one ∷ []) is ∙ (sym (map-append (λ one. one.id) (take n streams) (stream ∷ [])) ∙ ap ids_of (sym (taken streams n stream configured)))))

-- the part of a catalog that one lane of one has is the whole
remainder_none : (n : ℕ) → n % 1 ≡ 0
remainder_none n = omega arith

whole_from : (from : ℕ) (streams : List ConfStream) → map (λ numbered. numbered.1) (filter (λ numbered. numbered.0 % 1 == 0) (enumerate_from from streams)) ≡ streams
whole_from from [] = refl
whole_from from (stream ∷ streams) = let test : (from % 1 == 0) ≡ true = eq-eqb (from % 1) 0 (remainder_none from) in rw test (ap (λ more. stream ∷ more) (whole_from (from + 1) streams))

pub part_whole : (streams : List ConfStream) → part_of 1 0 streams ≡ streams
part_whole streams = whole_from 0 streams
