-- The plans of a load, and those that its streams have once some of them were shown.
use Rattle.std.proofs.Common.{arith, ◌≡◌, ◌⊎◌, inl, inr, ℕ, zero, suc, ◌<◌, List, [], ◌∷◌, length, Some, Bool, true, false, refl, sym, ◌∙◌, ap, subst}
use Rattle.std.specs.Prelude.{replicate, slice_get, slice_set}
use Rattle.std.specs.List.{AllByRecursion}
use Rattle.std.proofs.lemmas.Bool.{cases_Bool}
use Rattle.basics.specs.declared.stream.StreamId.{StreamId}
use Rattle.outside.specs.Dock.{HasOtherId, HasOwnIds}
use Rattle.outside.specs.Tables.{same_id, shown_plan}
use Rattle.outside.specs.declared.event.StreamPlan.{StreamPlan}
use Rattle.outside.proofs.TableLaws.{id_is}
use Rattle.catalog.specs.Reading.{ids_of}
use Rattle.catalog.specs.declared.stream.ConfStream.{ConfStream}
use Rattle.stream_index.specs.Distinct.{AreDistinct}
use Rattle.load_rules.specs.Engine.{PlanFits, PlansFit}
use Rattle.load_rules.proofs.Sides.{IdsDiffer, ids_differ}
use Rattle.book_rules.specs.Finishes.{is_marked}
use Rattle.book_rules.specs.Views.{plan_now, plans_now}
use Rattle.book_rules.proofs.Lists.{none_some, some_is}

pub plans_long : (streams : List ConfStream) (plans : List StreamPlan) → PlansFit streams plans → length plans ≡ length streams
plans_long [] [] fit = refl
plans_long [] (plan ∷ plans) fit = absurd fit
plans_long (stream ∷ streams) [] fit = absurd fit
plans_long (stream ∷ streams) (plan ∷ plans) fit = ap suc (plans_long streams plans fit.1)

-- no two plans of a catalog have one id

others_apart : (id : StreamId) (streams : List ConfStream) (plans : List StreamPlan) → PlansFit streams plans → ((k : ℕ) → ¬ (slice_get (ids_of streams) k ≡ Some id)) → AllByRecursion (HasOtherId id) plans
others_apart id [] [] fit apart = tt
others_apart id [] (plan ∷ plans) fit apart = absurd fit
others_apart id (stream ∷ streams) [] fit apart = absurd fit
others_apart id (stream ∷ streams) (plan ∷ plans) fit apart = (at (cases_Bool (same_id plan.id id)), others_apart id streams plans fit.1 (λ k. apart (suc k)))
  where
    at : (same_id plan.id id ≡ true) ⊎ (same_id plan.id id ≡ false) → same_id plan.id id ≡ false
    at (inl same) = absurd (apart zero (ap Some (sym fit.0.id ∙ id_is plan.id id same)))
    at (inr other) = other

later_distinct : (id : StreamId) (ids : List StreamId) → AreDistinct (id ∷ ids) → AreDistinct ids
later_distinct id ids distinct i j item here there = let same = distinct (suc i) (suc j) item here there in omega arith

pub own_ids : (streams : List ConfStream) (plans : List StreamPlan) → PlansFit streams plans → AreDistinct (ids_of streams) → HasOwnIds plans
own_ids [] [] fit distinct = tt
own_ids [] (plan ∷ plans) fit distinct = absurd fit
own_ids (stream ∷ streams) [] fit distinct = absurd fit
own_ids (stream ∷ streams) (plan ∷ plans) fit distinct = (
  others_apart plan.id streams plans fit.1 (λ k here. let same = distinct zero (suc k) stream.id refl (here ∙ ap Some fit.0.id) in omega arith),
  own_ids streams plans fit.1 (later_distinct stream.id (ids_of streams) distinct),
)

-- the plan of a stream of the catalog
pub record FitsAt (streams : List ConfStream) (plans : List StreamPlan) (n : ℕ) (stream : ConfStream) : Type 0 where
  pub plan : StreamPlan
  pub planned : slice_get plans n ≡ Some plan
  pub fits : PlanFits stream plan

pub fits_at : (streams : List ConfStream) (plans : List StreamPlan) (n : ℕ) (stream : ConfStream) → PlansFit streams plans → slice_get streams n ≡ Some stream → FitsAt streams plans n stream
fits_at [] plans n stream fit at = absurd (none_some stream at)
fits_at (first ∷ streams) [] n stream fit at = absurd fit
fits_at (first ∷ streams) (plan ∷ plans) zero stream fit at = record { plan = plan; planned = refl; fits = subst (λ (it : ConfStream). PlanFits it plan) (some_is first stream at) fit.0 }
fits_at (first ∷ streams) (plan ∷ plans) (suc n) stream fit at = let deeper = fits_at streams plans n stream fit.1 at in record { plan = deeper.plan; planned = deeper.planned; fits = deeper.fits }

-- Plans now

pub plans_none : (plans : List StreamPlan) (n : ℕ) → plans_now plans (replicate n false) ≡ plans
plans_none [] n = refl
plans_none (plan ∷ plans) zero = refl
plans_none (plan ∷ plans) (suc n) = ap (λ list. plan ∷ list) (plans_none plans n)

pub now_at : (plans : List StreamPlan) (shown : List Bool) (n : ℕ) (plan : StreamPlan) → slice_get plans n ≡ Some plan → slice_get (plans_now plans shown) n ≡ Some (plan_now plan (is_marked (slice_get shown n)))
now_at [] shown n plan at = absurd (none_some plan at)
now_at (first ∷ plans) [] n plan at = at
now_at (first ∷ plans) (flag ∷ shown) zero plan at = ap (λ (it : StreamPlan). Some (plan_now it flag)) (some_is first plan at)
now_at (first ∷ plans) (flag ∷ shown) (suc n) plan at = now_at plans shown n plan at

shown_once : (plan : StreamPlan) (flag : Bool) → shown_plan (plan_now plan flag) ≡ shown_plan plan
shown_once plan true = refl
shown_once plan false = refl

pub now_set : (plans : List StreamPlan) (shown : List Bool) (n : ℕ) (plan : StreamPlan) → slice_get plans n ≡ Some plan → n < length shown → slice_set (plans_now plans shown) n (shown_plan (plan_now plan (is_marked (slice_get shown n)))) ≡ plans_now plans (slice_set shown n true)
now_set [] shown n plan at below = absurd (none_some plan at)
now_set (first ∷ plans) [] n plan at below = absurd (omega (arith, below))
now_set (first ∷ plans) (flag ∷ shown) zero plan at below = ap (λ (it : StreamPlan). it ∷ plans_now plans shown) (shown_once plan flag ∙ ap shown_plan (sym (some_is first plan at)))
now_set (first ∷ plans) (flag ∷ shown) (suc n) plan at below = ap (λ list. plan_now first flag ∷ list) (now_set plans shown n plan at (omega (arith, below)))

pub now_id : (plan : StreamPlan) (flag : Bool) → (plan_now plan flag).id ≡ plan.id
now_id plan true = refl
now_id plan false = refl

-- a plan now is one that the load was opened with
record Was (plans : List StreamPlan) (n : ℕ) (plan : StreamPlan) : Type 0 where
  first : StreamPlan
  planned : slice_get plans n ≡ Some first
  same : plan.id ≡ first.id

was : (plans : List StreamPlan) (shown : List Bool) (n : ℕ) (plan : StreamPlan) → slice_get (plans_now plans shown) n ≡ Some plan → Was plans n plan
was [] shown n plan at = absurd (none_some plan at)
was (first ∷ plans) [] n plan at = record { first = plan; planned = at; same = refl }
was (first ∷ plans) (flag ∷ shown) zero plan at = record { first = first; planned = refl; same = ap (λ (it : StreamPlan). it.id) (sym (some_is (plan_now first flag) plan at)) ∙ now_id first flag }
was (first ∷ plans) (flag ∷ shown) (suc n) plan at = let deeper = was plans shown n plan at in record { first = deeper.first; planned = deeper.planned; same = deeper.same }

pub now_differ : (plans : List StreamPlan) (shown : List Bool) → HasOwnIds plans → IdsDiffer (plans_now plans shown)
now_differ plans shown own i j p q at_i at_j same =
    let a = was plans shown i p at_i in
    let b = was plans shown j q at_j in
    ids_differ plans own i j a.first b.first a.planned b.planned (sym a.same ∙ (same ∙ b.same))
