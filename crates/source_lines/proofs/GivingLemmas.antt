-- What is left of a stream behind one line more.
use Rattle.std.proofs.Common.{inl, inr, ◌≡◌, ◌∙◌, ℕ, ◌+◌, ◌-◌, ◌<◌, List, [], ◌∷◌, ◌++◌, length, take, drop, get_or, slice_get, Bool, true, if◌then◌else◌, Some, Result, Ok, Err, OnOk, sym, ap, arith}
use Rattle.std.proofs.lemmas.Bool.{cases_Bool}
use Rattle.std.proofs.lemmas.List.{take_more, drop_more}
use Rattle.std.proofs.lemmas.Option.{slice_get_within, get_or_from_slice_get, slice_get-get_or}
use Rattle.source_lines.specs.Lines.{record_line}
use Rattle.source_lines.specs.Checkpoints.{Row}
use Rattle.source_lines.specs.Streams.{Form, blob_behind}
use Rattle.source_lines.specs.Turns.{Turn, left_at, left_in, lines_behind, turn_behind}
use Rattle.source_lines.specs.declared.turn.Stage.TheVariants as stage
use Rattle.source_lines.proofs.TurnLemmas.{blob_behind-append, due_behind, due_lines, more_lines, record_of}

pub on_ok : {T E : Type 0} {P Q : Type 0} (r : Result T E) → (P → Q) → OnOk r P → OnOk r Q
on_ok (Ok done) f p = f p
on_ok (Err why) f p = tt

taken_with : (rows : List Row) (place : ℕ) (row : Row) → slice_get rows place ≡ Some row → take (place + 1) rows ≡ take place rows ++ row ∷ []
taken_with rows place row found =
    take_more rows place row (slice_get_within rows place row found) ∙ ap (λ (r : Row). take place rows ++ r ∷ []) (get_or_from_slice_get rows place row row found)

left_with : (rows : List Row) (place : ℕ) (row : Row) → slice_get rows place ≡ Some row → drop place rows ≡ row ∷ drop (place + 1) rows
left_with rows place row found =
    drop_more rows place row (slice_get_within rows place row found) ∙ ap (λ (r : Row). r ∷ drop (place + 1) rows) (get_or_from_slice_get rows place row row found)

blob_with : (blob : List ℕ) (rows : List Row) (place : ℕ) (row : Row) → slice_get rows place ≡ Some row → blob_behind blob (take (place + 1) rows) ≡ row.blob
blob_with blob rows place row found = ap (blob_behind blob) (taken_with rows place row found) ∙ blob_behind-append blob (take place rows) row

-- the blob behind rows is that of the last of them
pub blob_is : (blob : List ℕ) (rows : List Row) (given : ℕ) → 0 < given → given - 1 < length rows → (old now : List ℕ)
    → ((row : Row) → slice_get rows (given - 1) ≡ Some row → now ≡ old ++ row.blob) → now ≡ old ++ blob_behind blob (take given rows)
blob_is blob rows given some within old now puts =
    let none : Row = record { body = []; blob = []; closes = true } in
    let row = get_or rows (given - 1) none in
    let found = slice_get-get_or rows (given - 1) none within in
    let one_more : (given - 1) + 1 ≡ given = omega (arith, some) in
    puts row found ∙ ap (λ (text : List ℕ). old ++ text) (sym (blob_with blob rows (given - 1) row found) ∙ ap (λ (n : ℕ). blob_behind blob (take n rows)) one_more)

row_step : (form : Form) (owes : Bool) (since : ℕ) (blob : List ℕ) (row : Row) (rest : List Row)
    → lines_behind form owes since blob (row ∷ rest) ≡ record_of form row ∷ left_in (if due_behind form.every since row then stage.Due else stage.Owing) form (since + 1) row.blob rest
row_step form owes since blob row rest =
    let with_stage : Bool → List (List ℕ) = λ due. record_of form row ∷ left_in (if due then stage.Due else stage.Owing) form (since + 1) row.blob rest in
    elim (cases_Bool (due_behind form.every since row)) [
      | inl due ↦ due_lines form owes since blob row rest due ∙ ap with_stage (sym due)
      | inr not ↦ more_lines form owes since blob row rest not ∙ ap with_stage (sym not)
    ]

-- a row was given
pub record_given : (turn now : Turn) (rows : List Row) (line : List ℕ) → turn.given < length rows
    → ((row : Row) → slice_get rows turn.given ≡ Some row → line ≡ record_line turn.form.id turn.form.moment row.body)
    → ((row : Row) → slice_get rows turn.given ≡ Some row → now ≡ turn_behind turn row)
    → (owes : Bool) → lines_behind turn.form owes turn.since (blob_behind turn.blob (take turn.given rows)) (drop turn.given rows) ≡ line ∷ left_at now rows
record_given turn now rows line within line_is now_is owes =
    let none : Row = record { body = []; blob = []; closes = true } in
    let row = get_or rows turn.given none in
    let found = slice_get-get_or rows turn.given none within in
    let behind = blob_behind turn.blob (take turn.given rows) in
    let next = turn_behind turn row in
    let after : left_at next rows ≡ left_in next.stage turn.form (turn.since + 1) row.blob (drop (turn.given + 1) rows) =
    ap (λ (text : List ℕ). left_in next.stage turn.form (turn.since + 1) text (drop (turn.given + 1) rows)) (blob_with turn.blob rows turn.given row found) in
    ap (λ (more : List Row). lines_behind turn.form owes turn.since behind more) (left_with rows turn.given row found)
    ∙ row_step turn.form owes turn.since behind row (drop (turn.given + 1) rows)
    ∙ ap (λ (lines : List (List ℕ)). record_of turn.form row ∷ lines) (sym after)
    ∙ ap (λ (text : List ℕ). text ∷ left_at next rows) (sym (line_is row found))
    ∙ ap (λ (turned : Turn). line ∷ left_at turned rows) (sym (now_is row found))
