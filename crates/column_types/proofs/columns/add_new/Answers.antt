use Rattle.std.proofs.Common.{List, ℕ, ap, subst, ◌∙◌, ◌≡◌, Some, slice_get}
use Rattle.column_types.specs.Columns.{names_of}
use Rattle.column_types.proofs.ColumnLemmas.{left_out, put_in}
use Rattle.column_types.proofs.columns.add_new.Goals as goal

pub returns-in-Some-clause-added : goal.returns-in-Some-clause-added
returns-in-Some-clause-added c =
    let at = subst (λ (l : List (List ℕ)). slice_get l c.in-Some.field-0 ≡ Some c.as_str.result.now) c.requires c.in-Some.ensures.found in
    left_out c.args.columns.now.items c.args.column c.in-Some.field-0 (at ∙ ap (λ (n : List ℕ). Some n) c.as_str.ensures)

pub returns-in_ok-push-in-None-clause-added : goal.returns-in_ok-push-in-None-clause-added
returns-in_ok-push-in-None-clause-added c =
    let none = subst (λ (l : List (List ℕ)). (place : ℕ) → ¬ (slice_get l place ≡ Some c.as_str.result.now)) c.requires c.in-None.ensures.none in
    put_in c.args.columns.now.items c.push.new.self.items c.args.column (subst (λ (n : List ℕ). (place : ℕ) → ¬ (slice_get (names_of c.args.columns.now.items) place ≡ Some n)) c.as_str.ensures none) c.in_ok-push-in-None.ensures.items
