-- What a change of one stream's table does to the marks of the load's sides.
use Rattle.std.proofs.Common.{◌≡◌, ℕ, zero, suc, List, [], ◌∷◌, map, set, Bool, true, false, ◌⊎◌, inl, inr, subst, Some, slice_get, refl, ◌∙◌, ap}
use Rattle.std.specs.List.{AllByRecursion}
use Rattle.basics.specs.declared.stream.StreamId.{StreamId}
use Rattle.outside.specs.declared.event.StreamPlan.{StreamPlan}
use Rattle.outside.specs.declared.table.StreamTable.{StreamTable}
use Rattle.outside.specs.Tables.{same_id, table_in, changed, side_of, shown_plan, shown_table}
use Rattle.outside.specs.Dock.{HasOtherId, HasOwnIds}
use Rattle.outside.proofs.TableLaws.{KeepsId, id_is, id_apart, table_own, table_other}

-- a table is changed, or stays
table_either : (change : StreamTable → StreamTable) (id other : StreamId) (tables : List StreamTable) → KeepsId change → (table_in (changed change id tables) other ≡ change (table_in tables other)) ⊎ (table_in (changed change id tables) other ≡ table_in tables other)
table_either change id other tables keeps = by_test (same_id id other) refl where
  by_test : (b : Bool) → same_id id other ≡ b → (table_in (changed change id tables) other ≡ change (table_in tables other)) ⊎ (table_in (changed change id tables) other ≡ table_in tables other)
  by_test true e = inl (subst (λ (c : StreamId). table_in (changed change id tables) c ≡ change (table_in tables c)) (id_is id other e) (table_own change id tables keeps))
  by_test false e = inr (table_other change id other tables keeps e)

-- Marks of the load's sides

abbrev mark_of : List StreamTable → StreamPlan → ℕ
mark_of tables plan = (side_of plan (table_in tables plan.id)).mark

marks_other : (change : StreamTable → StreamTable) (id : StreamId) (tables : List StreamTable) (plans : List StreamPlan) → KeepsId change → AllByRecursion (HasOtherId id) plans → map (mark_of (changed change id tables)) plans ≡ map (mark_of tables) plans
marks_other change id tables [] keeps apart = refl
marks_other change id tables (plan ∷ plans) keeps apart =
    let head : mark_of (changed change id tables) plan ≡ mark_of tables plan = ap (λ (t : StreamTable). (side_of plan t).mark) (table_other change id plan.id tables keeps (id_apart plan.id id apart.0)) in
    let tail = marks_other change id tables plans keeps apart.1 in
    cc

other_at : (id : StreamId) (plans : List StreamPlan) (stream : ℕ) (plan : StreamPlan) → AllByRecursion (HasOtherId id) plans → slice_get plans stream ≡ Some plan → same_id plan.id id ≡ false
other_at id [] stream plan apart at = cc
other_at id (first ∷ plans) zero plan apart at = let e : first ≡ plan = cc in subst (λ (p : StreamPlan). same_id p.id id ≡ false) e apart.0
other_at id (first ∷ plans) (suc stream) plan apart at = other_at id plans stream plan apart.1 at

-- a change of the table of one of the load's streams sets its mark
pub marks_set : (change : StreamTable → StreamTable) (tables : List StreamTable) (plans : List StreamPlan) (stream : ℕ) (plan : StreamPlan) → KeepsId change → HasOwnIds plans → slice_get plans stream ≡ Some plan → map (mark_of (changed change plan.id tables)) plans ≡ set (map (mark_of tables) plans) stream (side_of plan (change (table_in tables plan.id))).mark
marks_set change tables [] stream plan keeps own at = cc
marks_set change tables (first ∷ plans) zero plan keeps own at =
    let e : first ≡ plan = cc in
    let head : mark_of (changed change plan.id tables) first ≡ (side_of plan (change (table_in tables plan.id))).mark = ap (mark_of (changed change plan.id tables)) e ∙ ap (λ (t : StreamTable). (side_of plan t).mark) (table_own change plan.id tables keeps) in
    let apart : AllByRecursion (HasOtherId plan.id) plans = subst (λ (p : StreamPlan). AllByRecursion (HasOtherId p.id) plans) e own.0 in
    let tail = marks_other change plan.id tables plans keeps apart in
    cc
marks_set change tables (first ∷ plans) (suc stream) plan keeps own at =
    let head : mark_of (changed change plan.id tables) first ≡ mark_of tables first = ap (λ (t : StreamTable). (side_of first t).mark) (table_other change plan.id first.id tables keeps (other_at first.id plans stream plan own.0 at)) in
    let tail = marks_set change tables plans stream plan keeps own.1 at in
    cc

-- a change that keeps the marks of both sides
pub marks_kept : (change : StreamTable → StreamTable) (id : StreamId) (tables : List StreamTable) (plans : List StreamPlan) → KeepsId change → ((plan : StreamPlan) (table : StreamTable) → (side_of plan (change table)).mark ≡ (side_of plan table).mark) → map (mark_of (changed change id tables)) plans ≡ map (mark_of tables) plans
marks_kept change id tables [] keeps same = refl
marks_kept change id tables (plan ∷ plans) keeps same =
    let by_case : (table_in (changed change id tables) plan.id ≡ change (table_in tables plan.id)) ⊎ (table_in (changed change id tables) plan.id ≡ table_in tables plan.id) → mark_of (changed change id tables) plan ≡ mark_of tables plan = λ either. elim either [ inl e ↦ ap (λ (t : StreamTable). (side_of plan t).mark) e ∙ same plan (table_in tables plan.id) | inr e ↦ ap (λ (t : StreamTable). (side_of plan t).mark) e ] in
    let head = by_case (table_either change id plan.id tables keeps) in
    let tail = marks_kept change id tables plans keeps same in
    cc

shown_mark : (plan : StreamPlan) (table : StreamTable) (b : Bool) → plan.hidden ≡ b → (side_of (shown_plan plan) (shown_table plan table)).mark ≡ (side_of plan table).mark
shown_mark plan table true e = rw e
shown_mark plan table false e = rw e

shown_id : (plan : StreamPlan) (table : StreamTable) (b : Bool) → plan.hidden ≡ b → (shown_table plan table).id ≡ table.id
shown_id plan table true e = rw e
shown_id plan table false e = rw e

-- showing a stream leaves the marks
pub marks_shown : (tables : List StreamTable) (plans : List StreamPlan) (stream : ℕ) (plan : StreamPlan) → HasOwnIds plans → slice_get plans stream ≡ Some plan → map (mark_of (changed (shown_table plan) plan.id tables)) (set plans stream (shown_plan plan)) ≡ map (mark_of tables) plans
marks_shown tables [] stream plan own at = cc
marks_shown tables (first ∷ plans) zero plan own at =
    let e : first ≡ plan = cc in
    let head : mark_of (changed (shown_table plan) plan.id tables) (shown_plan plan) ≡ mark_of tables plan = ap (λ (t : StreamTable). (side_of (shown_plan plan) t).mark) (table_own (shown_table plan) plan.id tables (λ t. shown_id plan t plan.hidden refl)) ∙ shown_mark plan (table_in tables plan.id) plan.hidden refl in
    let apart : AllByRecursion (HasOtherId plan.id) plans = subst (λ (p : StreamPlan). AllByRecursion (HasOtherId p.id) plans) e own.0 in
    let tail = marks_other (shown_table plan) plan.id tables plans (λ t. shown_id plan t plan.hidden refl) apart in
    cc
marks_shown tables (first ∷ plans) (suc stream) plan own at =
    let head : mark_of (changed (shown_table plan) plan.id tables) first ≡ mark_of tables first = ap (λ (t : StreamTable). (side_of first t).mark) (table_other (shown_table plan) plan.id first.id tables (λ t. shown_id plan t plan.hidden refl) (other_at first.id plans stream plan own.0 at)) in
    let tail = marks_shown tables plans stream plan own.1 at in
    cc
