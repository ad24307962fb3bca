use Rattle.std.proofs.Common.{List, ℕ, Some, None, subst, ap}
use Rattle.std.proofs.lemmas.Result.{IfOk-weaker}
use Rattle.column_types.specs.Values.{Reaches}
use Rattle.table_source.specs.declared.keyed.RowPart.{RowPart}
use Rattle.table_source.proofs.KeyLemmas.{part_found, part_missing}
use Rattle.table_source.proofs.rows.part_at.Goals as goal

pub returns-in_ok-copy_of-in-Some : goal.returns-in_ok-copy_of-in-Some
returns-in_ok-copy_of-in-Some c =
    let body = c.args.body.now in
    let text = c.in-Some.text.now in
    let value = c.in_ok-value_along-in-Some.field-0 in
    let with_text : List ℕ → RowPart = λ (t : List ℕ). record { value = value; text = t } in
    let reached = subst (λ (names : List (List ℕ)). Reaches body names (Some text)) c.as_slice.ensures (rw c.in-Some.is at c.in_ok-text.ensures.reached) in
    part_found body c.args.path.now c.args.is_instant text value (with_text c.in_ok-copy_of-in-Some.field-0) c.requires.object reached c.in_ok-value_along-in-Some.ensures (ap with_text c.in_ok-copy_of-in-Some.ensures)

pub returns-in-None : goal.returns-in-None
returns-in-None c =
    let body = c.args.body.now in
    let reached = subst (λ (names : List (List ℕ)). Reaches body names None) c.as_slice.ensures (rw c.in-None.is at c.in_ok-text.ensures.reached) in
    IfOk-weaker c.null_part.result _ _ (λ part is. part_missing body c.args.path.now c.args.is_instant part c.requires.object reached is) c.null_part.ensures
