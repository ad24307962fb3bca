-- A load that was opened has what its streams are made by.
use Rattle.std.proofs.Common.{arith, ◌≡◌, ℕ, zero, suc, ◌<◌, List, [], ◌∷◌, length, refl, sym, ◌∙◌, ap, subst, Option, Some}
use Rattle.std.specs.Prelude.{slice_get}
use Rattle.std.proofs.lemmas.Option.{none-some}
use Rattle.outside.specs.declared.event.StreamPlan.{StreamPlan}
use Rattle.outside.specs.declared.load.Load.{Load}
use Rattle.batch_prep.specs.declared.item.PrepPlan.{PrepPlan}
use Rattle.catalog.specs.declared.stream.ConfStream.{ConfStream}
use Rattle.column_types.specs.Columns.{AreColumns}
use Rattle.column_types.specs.declared.column.Column.{Column}
use Rattle.load_rules.specs.Engine.{PlansFit}
use Rattle.book_rules.specs.Starts.{AreColumnsOf}
use Rattle.book_parts.specs.Opened.{HasPlaces, IsNumbered, IsPrepPlan, OpenedView}

many_plans : (streams : List ConfStream) (plans : List StreamPlan) → PlansFit streams plans → length plans ≡ length streams
many_plans [] [] fit = refl
many_plans [] (plan ∷ plans) fit = absurd fit
many_plans (stream ∷ streams) [] fit = absurd fit
many_plans (stream ∷ streams) (plan ∷ plans) fit = ap suc (many_plans streams plans fit.1)

many_columns : (streams : List ConfStream) (columns : List (List Column)) → AreColumnsOf streams columns → length columns ≡ length streams
many_columns [] [] are = refl
many_columns (stream ∷ streams) (own ∷ columns) are = ap suc (many_columns streams columns are.1)
many_columns _ _ are = absurd are

pub plan_within : (streams : List ConfStream) (plans : List StreamPlan) (view : OpenedView) (n : ℕ) → PlansFit streams plans → streams ≡ view.catalog → n < length view.catalog → n < length plans
plan_within streams plans view n fit same within = let many = many_plans streams plans fit in let long = ap (λ (list : List ConfStream). length list) same in omega arith

pub columns_within : (streams : List ConfStream) (columns : List (List Column)) (view : OpenedView) (n : ℕ) → AreColumnsOf streams columns → streams ≡ view.catalog → n < length view.catalog → n < length columns
columns_within streams columns view n are same within = let many = many_columns streams columns are in let long = ap (λ (list : List ConfStream). length list) same in omega arith

columns_at : (streams : List ConfStream) (columns : List (List Column)) (n : ℕ) (stream : ConfStream) (own : List Column) → AreColumnsOf streams columns → slice_get streams n ≡ Some stream → slice_get columns n ≡ Some own → AreColumns stream.schema own
columns_at [] [] n stream own are configured there = absurd (none-some stream configured)
columns_at (s ∷ ss) (c ∷ cs) zero stream own are configured there =
    let is_stream : s ≡ stream = cc in
    let is_own : c ≡ own = cc in
    subst (λ (one : ConfStream). AreColumns one.schema own) is_stream (subst (λ (one : List Column). AreColumns s.schema one) is_own are.0)
columns_at (s ∷ ss) (c ∷ cs) (suc n) stream own are configured there = columns_at ss cs n stream own are.1 configured there
columns_at _ _ n stream own are configured there = absurd are

abbrev view_of : List ConfStream → Load → List StreamPlan → OpenedView
view_of catalog load plans = record { catalog = catalog; opening = record { load = load.load; moment = load.moment; plan = plans } }

abbrev plan_with : ℕ → Load → StreamPlan → List Column → ConfStream → PrepPlan
plan_with number load own columns stream = record { stream = number; load = load.load; moment = load.moment; generation = own.generation; columns = columns; key = stream.key; cursor = stream.cursor }

-- a plan that is put together so is one of the load
pub is_prep_plan : (catalog : List ConfStream) (load : Load) (plans : List StreamPlan) (columns : List (List Column)) (view : OpenedView) (number : ℕ) (stream : ConfStream) (own : StreamPlan) (cols : List Column) (plan : PrepPlan) → view_of catalog load plans ≡ view → AreColumnsOf catalog columns → slice_get catalog number ≡ Some stream → slice_get plans number ≡ Some own → slice_get columns number ≡ Some cols → plan ≡ plan_with number load own cols stream → IsPrepPlan view number plan
is_prep_plan catalog load plans columns view number stream own cols plan same are configured planned there is =
    let own_columns : plan.columns ≡ cols = ap (λ (one : PrepPlan). one.columns) is in
    let here : IsPrepPlan (view_of catalog load plans) number plan = record {
      stream = stream;
      configured = configured;
      own = own;
      planned = planned;
      columns = subst (λ (one : List Column). AreColumns stream.schema one) (sym own_columns) (columns_at catalog columns number stream cols are configured there);
      is = is ∙ ap (λ (one : List Column). plan_with number load own one stream) (sym own_columns);
    } in
    subst (λ (one : OpenedView). IsPrepPlan one number plan) same here

-- so is one that has its numbers and places
pub has_prep_plan : (number : ℕ) (load : Load) (own : StreamPlan) (cols : List Column) (stream : ConfStream) (plan : PrepPlan) → IsNumbered number load own.generation plan → HasPlaces cols stream plan → plan ≡ plan_with number load own cols stream
has_prep_plan number load own cols stream plan numbered has =
    ap (λ (one : ℕ). record plan { stream = one }) numbered.stream
    ∙ (ap (λ (one : ℕ). record plan { stream = number; load = one }) numbered.load_is
    ∙ (ap (λ (one : ℕ). record plan { stream = number; load = load.load; moment = one }) numbered.moment
    ∙ (ap (λ (one : ℕ). record plan { stream = number; load = load.load; moment = load.moment; generation = one }) numbered.generation_is
    ∙ (ap (λ (one : List Column). record plan { stream = number; load = load.load; moment = load.moment; generation = own.generation; columns = one }) has.columns_are
    ∙ (ap (λ (one : List (List (List ℕ))). record plan { stream = number; load = load.load; moment = load.moment; generation = own.generation; columns = cols; key = one }) has.key
    ∙ ap (λ (one : Option (List (List ℕ))). record plan { stream = number; load = load.load; moment = load.moment; generation = own.generation; columns = cols; key = stream.key; cursor = one }) has.cursor)))))
