-- The lines of a stream, one by one.
use Rattle.std.proofs.Common.{inl, inr, ◌≡◌, ◌∙◌, ℕ, ◌+◌, List, [], ◌∷◌, ◌++◌, length, map, nat_le, Bool, true, false, ◌&&◌, refl, sym, ap, append_assoc, append-nil}
use Rattle.std.proofs.lemmas.Bool.{cases_Bool}
use Rattle.std.proofs.lemmas.List.{map-append, length-append}
use Rattle.source_lines.specs.Lines.{record_line, state_line, status_line}
use Rattle.source_lines.specs.Checkpoints.{Row, closes_last, is_due, last_stretch, cut_behind}
use Rattle.source_lines.specs.Streams.{Form, blob_behind, stretch_lines, all_stretches, complete_line}
use Rattle.source_lines.specs.Turns.{lines_behind}
use Rattle.source_lines.specs.Laws.{GivenByTurns}
use Rattle.airbyte_message.specs.declared.stream_status.StreamStatus.TheVariants as status

abbrev pub record_of : Form → Row → List ℕ
record_of form row = record_line form.id form.moment row.body

abbrev is_some_row : List Row → Bool
is_some_row [] = false
is_some_row (row ∷ rows) = true

some_last : (front : List Row) (row : Row) → is_some_row (front ++ row ∷ []) ≡ true
some_last [] row = refl
some_last (first ∷ front) row = refl

closes_last-append : (front : List Row) (row : Row) → closes_last (front ++ row ∷ []) ≡ row.closes
closes_last-append [] row = refl
closes_last-append (first ∷ []) row = refl
closes_last-append (first ∷ second ∷ front) row = closes_last-append (second ∷ front) row

pub blob_behind-append : (blob : List ℕ) (front : List Row) (row : Row) → blob_behind blob (front ++ row ∷ []) ≡ row.blob
blob_behind-append blob [] row = refl
blob_behind-append blob (first ∷ front) row = blob_behind-append first.blob front row

abbrev pub due_behind : ℕ → ℕ → Row → Bool
due_behind every count row = nat_le every (count + 1) && row.closes

one_more : (front : List Row) (row : Row) → length (front ++ row ∷ []) ≡ length front + 1
one_more front row = length-append front (row ∷ [])

due_is : (every : ℕ) (front : List Row) (row : Row) → is_due every (front ++ row ∷ []) ≡ due_behind every (length front) row
due_is every front row =
    ap (λ (count : ℕ). nat_le every count && closes_last (front ++ row ∷ [])) (one_more front row)
    ∙ ap (λ (closes : Bool). nat_le every (length front + 1) && closes) (closes_last-append front row)

-- the lines behind rows that were given since the last state
abbrev left_behind : Form → List ℕ → List Row → List Row → List (List ℕ)
left_behind form blob front rows = lines_behind form (is_some_row front) (length front) (blob_behind blob front) rows

at_end : (form : Form) (blob : List ℕ) (front : List Row)
    → all_stretches form blob (last_stretch front) ++ complete_line form ∷ [] ≡ map (record_of form) front ++ left_behind form blob front []
at_end form blob [] = refl
at_end form blob (row ∷ rows) =
    let records = map (record_of form) (row ∷ rows) in
    let state = state_line form.id (blob_behind blob (row ∷ rows)) (length (row ∷ rows)) in
    ap (λ (lines : List (List ℕ)). lines ++ complete_line form ∷ []) (append-nil (records ++ state ∷ []))
    ∙ append_assoc records (state ∷ []) (complete_line form ∷ [])

pub due_lines : (form : Form) (owes : Bool) (count : ℕ) (blob : List ℕ) (row : Row) (rows : List Row) → due_behind form.every count row ≡ true
    → lines_behind form owes count blob (row ∷ rows) ≡ record_of form row ∷ state_line form.id row.blob (count + 1) ∷ lines_behind form false 0 row.blob rows
due_lines form owes count blob row rows due = rw due

pub more_lines : (form : Form) (owes : Bool) (count : ℕ) (blob : List ℕ) (row : Row) (rows : List Row) → due_behind form.every count row ≡ false
    → lines_behind form owes count blob (row ∷ rows) ≡ record_of form row ∷ lines_behind form true (count + 1) row.blob rows
more_lines form owes count blob row rows due = rw due

cut_due : (every : ℕ) (front : List Row) (row : Row) (rows : List Row) → is_due every (front ++ row ∷ []) ≡ true
    → cut_behind every front (row ∷ rows) ≡ (front ++ row ∷ []) ∷ cut_behind every [] rows
cut_due every front row rows due = rw due

cut_more : (every : ℕ) (front : List Row) (row : Row) (rows : List Row) → is_due every (front ++ row ∷ []) ≡ false
    → cut_behind every front (row ∷ rows) ≡ cut_behind every (front ++ row ∷ []) rows
cut_more every front row rows due = rw due

records_more : (form : Form) (front : List Row) (row : Row) (others : List (List ℕ))
    → map (record_of form) (front ++ row ∷ []) ++ others ≡ map (record_of form) front ++ record_of form row ∷ others
records_more form front row others =
    ap (λ (lines : List (List ℕ)). lines ++ others) (map-append (record_of form) front (row ∷ []))
    ∙ append_assoc (map (record_of form) front) (record_of form row ∷ []) others

-- the stretch that a row ends
stretch_ends : (form : Form) (blob : List ℕ) (front : List Row) (row : Row) (others : List (List ℕ))
    → stretch_lines form blob (front ++ row ∷ []) ++ others ≡ map (record_of form) front ++ record_of form row ∷ state_line form.id row.blob (length front + 1) ∷ others
stretch_ends form blob front row others =
    ap (λ (text : List ℕ). (map (record_of form) (front ++ row ∷ []) ++ state_line form.id text (length (front ++ row ∷ [])) ∷ []) ++ others) (blob_behind-append blob front row)
    ∙ ap (λ (count : ℕ). (map (record_of form) (front ++ row ∷ []) ++ state_line form.id row.blob count ∷ []) ++ others) (one_more front row)
    ∙ append_assoc (map (record_of form) (front ++ row ∷ [])) (state_line form.id row.blob (length front + 1) ∷ []) others
    ∙ records_more form front row (state_line form.id row.blob (length front + 1) ∷ others)

behind_more : (form : Form) (blob : List ℕ) (front : List Row) (row : Row) (rows : List Row)
    → left_behind form blob (front ++ row ∷ []) rows ≡ lines_behind form true (length front + 1) row.blob rows
behind_more form blob front row rows =
    ap (λ (owes : Bool). lines_behind form owes (length (front ++ row ∷ [])) (blob_behind blob (front ++ row ∷ [])) rows) (some_last front row)
    ∙ ap (λ (count : ℕ). lines_behind form true count (blob_behind blob (front ++ row ∷ [])) rows) (one_more front row)
    ∙ ap (λ (text : List ℕ). lines_behind form true (length front + 1) text rows) (blob_behind-append blob front row)

by_turns : (form : Form) (blob : List ℕ) (front rows : List Row)
    → all_stretches form blob (cut_behind form.every front rows) ++ complete_line form ∷ [] ≡ map (record_of form) front ++ left_behind form blob front rows
by_turns form blob front [] = at_end form blob front
by_turns form blob front (row ∷ rows) =
    let last = complete_line form ∷ [] in
    let records = map (record_of form) front in
    elim (cases_Bool (is_due form.every (front ++ row ∷ []))) [
      | inl due ↦
          ap (λ (found : List (List Row)). all_stretches form blob found ++ last) (cut_due form.every front row rows due)
          ∙ append_assoc (stretch_lines form blob (front ++ row ∷ [])) (all_stretches form (blob_behind blob (front ++ row ∷ [])) (cut_behind form.every [] rows)) last
          ∙ ap (λ (text : List ℕ). stretch_lines form blob (front ++ row ∷ []) ++ (all_stretches form text (cut_behind form.every [] rows) ++ last)) (blob_behind-append blob front row)
          ∙ stretch_ends form blob front row (all_stretches form row.blob (cut_behind form.every [] rows) ++ last)
          ∙ ap (λ (others : List (List ℕ)). records ++ record_of form row ∷ state_line form.id row.blob (length front + 1) ∷ others) (by_turns form row.blob [] rows)
          ∙ ap (λ (lines : List (List ℕ)). records ++ lines) (sym (due_lines form (is_some_row front) (length front) (blob_behind blob front) row rows (sym (due_is form.every front row) ∙ due)))
      | inr not ↦
          ap (λ (found : List (List Row)). all_stretches form blob found ++ last) (cut_more form.every front row rows not)
          ∙ by_turns form blob (front ++ row ∷ []) rows
          ∙ records_more form front row (left_behind form blob (front ++ row ∷ []) rows)
          ∙ ap (λ (others : List (List ℕ)). records ++ record_of form row ∷ others) (behind_more form blob front row rows)
          ∙ ap (λ (lines : List (List ℕ)). records ++ lines) (sym (more_lines form (is_some_row front) (length front) (blob_behind blob front) row rows (sym (due_is form.every front row) ∙ not)))
    ]

pub given : GivenByTurns
given form blob [] = refl
given form blob (row ∷ rows) = ap (λ (lines : List (List ℕ)). status_line form.id form.moment status.Started ∷ lines) (by_turns form blob [] (row ∷ rows))
