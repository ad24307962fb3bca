-- The lines of a stream that is started with one of its states.
use Rattle.std.proofs.Common.{◌≡◌, ◌≢◌, ◌∙◌, ℕ, List, [], ◌∷◌, ◌++◌, length, map, refl, sym, ap, subst, append_assoc, append-nil}
use Rattle.airbyte_message.specs.declared.stream_status.StreamStatus.TheVariants as status
use Rattle.source_lines.specs.Lines.{record_line, state_line, status_line}
use Rattle.source_lines.specs.Checkpoints.{Row, rows_in, stretches}
use Rattle.source_lines.specs.Streams.{Form, all_stretches, blob_behind, complete_line, stream_lines, stretch_lines}
use Rattle.source_lines.specs.Laws.{EndsWithState, LinesResume}
use Rattle.source_lines.proofs.CutLemmas.{cuts_alike}

behind-append : (blob : List ℕ) (front rows : List Row) → blob_behind blob (front ++ rows) ≡ blob_behind (blob_behind blob front) rows
behind-append blob [] rows = refl
behind-append blob (first ∷ front) rows = behind-append first.blob front rows

stretches-append : (form : Form) (blob : List ℕ) (gone left : List (List Row))
    → all_stretches form blob (gone ++ left) ≡ all_stretches form blob gone ++ all_stretches form (blob_behind blob (rows_in gone)) left
stretches-append form blob [] left = refl
stretches-append form blob (stretch ∷ gone) left =
    let behind = blob_behind blob stretch in
    let lines = stretch_lines form blob stretch in
    ap (λ (others : List (List ℕ)). lines ++ others) (stretches-append form behind gone left)
    ∙ ap (λ (text : List ℕ). lines ++ (all_stretches form behind gone ++ all_stretches form text left)) (sym (behind-append blob stretch (rows_in gone)))
    ∙ sym (append_assoc lines (all_stretches form behind gone) (all_stretches form (blob_behind blob (stretch ++ rows_in gone)) left))

abbrev IsAny : List (List Row) → Type 0
IsAny [] = ⊥
IsAny (stretch ∷ others) = Unit {0}

some_not : (stretch : List Row) (others : List (List Row)) → stretch ∷ others ≡ [] → ⊥
some_not stretch others none = subst (λ (found : List (List Row)). IsAny found) none tt

state_last : (form : Form) (blob : List ℕ) (gone : List (List Row)) → gone ≢ [] → EndsWithState form (blob_behind blob (rows_in gone)) (all_stretches form blob gone)
state_last form blob [] some = absurd (some refl)
state_last form blob (stretch ∷ []) some = record {
  front = map (λ row. record_line form.id form.moment row.body) stretch;
  count = length stretch;
  is = append-nil (stretch_lines form blob stretch) ∙ ap (λ (rows : List Row). map (λ row. record_line form.id form.moment row.body) stretch ++ state_line form.id (blob_behind blob rows) (length stretch) ∷ []) (sym (append-nil stretch));
}
state_last form blob (stretch ∷ second ∷ gone) some =
    let others = state_last form (blob_behind blob stretch) (second ∷ gone) (λ none. some_not second gone none) in
    let lines = stretch_lines form blob stretch in
    record {
      front = lines ++ others.front;
      count = others.count;
      is = ap (λ (found : List (List ℕ)). lines ++ found) others.is
          ∙ ap (λ (text : List ℕ). lines ++ (others.front ++ state_line form.id text others.count ∷ [])) (sym (behind-append blob stretch (rows_in (second ∷ gone))))
          ∙ sym (append_assoc lines others.front (state_line form.id (blob_behind blob (stretch ++ rows_in (second ∷ gone))) others.count ∷ []));
    }

lines_first : (form : Form) (blob : List ℕ) (rows : List Row) (gone left : List (List Row)) → stretches form.every rows ≡ gone ++ left
    → stream_lines form blob rows ≡ status_line form.id form.moment status.Started ∷ (all_stretches form blob gone ++ (all_stretches form (blob_behind blob (rows_in gone)) left ++ complete_line form ∷ []))
lines_first form blob rows gone left is =
    let last = complete_line form ∷ [] in
    let started = status_line form.id form.moment status.Started in
    ap (λ (found : List (List Row)). started ∷ (all_stretches form blob found ++ last)) is
    ∙ ap (λ (lines : List (List ℕ)). started ∷ (lines ++ last)) (stretches-append form blob gone left)
    ∙ ap (λ (lines : List (List ℕ)). started ∷ lines) (append_assoc (all_stretches form blob gone) (all_stretches form (blob_behind blob (rows_in gone)) left) last)

lines_rest : (form : Form) (blob : List ℕ) (left : List (List Row)) → stretches form.every (rows_in left) ≡ left
    → stream_lines form blob (rows_in left) ≡ status_line form.id form.moment status.Started ∷ (all_stretches form blob left ++ complete_line form ∷ [])
lines_rest form blob left is = ap (λ (found : List (List Row)). status_line form.id form.moment status.Started ∷ (all_stretches form blob found ++ complete_line form ∷ [])) is

lines_over : (form : Form) (blob : List ℕ) (left : List (List Row)) → left ≡ []
    → stream_lines form blob (rows_in left) ≡ status_line form.id form.moment status.Started ∷ state_line form.id blob 0 ∷ complete_line form ∷ []
lines_over form blob left none = ap (λ (found : List (List Row)). stream_lines form blob (rows_in found)) none

pub resume : LinesResume
resume form moment blob rows gone left is some =
    let behind = blob_behind blob (rows_in gone) in
    let later : Form = record form { moment = moment } in
    record {
      state = state_last form blob gone some;
      first = lines_first form blob rows gone left is;
      rest = λ more. lines_rest later behind left ((cuts_alike form.every rows gone left is some).rest more);
      over = lines_over later behind left;
    }
