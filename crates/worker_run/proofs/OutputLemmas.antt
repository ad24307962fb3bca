-- The lines of a table, from the events of a world that is reached.
use Rattle.std.proofs.Common.{◌≡◌, ℕ, ◌+◌, List, [], ◌∷◌, ◌++◌, length, map, Option, None, Some, Bool, true, false, refl, sym, ◌∙◌, ap, arith, add-zero, zero-add}
use Rattle.std.specs.List.{filter_map, cons_option}
use Rattle.std.proofs.lemmas.List.{append-nil}
use Rattle.std.proofs.lemmas.Grind.{flat_map-append}
use Rattle.outside.specs.declared.event.Event.{Event}
use Rattle.airbyte_message.specs.declared.message.Message.{Message}
use Rattle.airbyte_message.specs.declared.message.Message.TheVariants as message
use Rattle.worker_run.specs.TakenLines.{FoundLine, TakenLine, record_line, state_line, other_line, found_in, Counted, none_counted, counted_after, counted_through, AreTaken, IsPassedOver}
use Rattle.worker_run.specs.World.{World, first_events, all_taken_events}
use Rattle.worker_run.specs.EventParts.{rows_of}
use Rattle.worker_run.specs.Output.{row_line, row_lines, body_of, body_lines, committed_lines}
use Rattle.worker_run.specs.Reached.{IsReached, ending_events}

-- a line that is passed over has no row
no_body : (found : Option Message) → IsPassedOver found → body_of found ≡ None
no_body None passed = refl
no_body (Some (message.Rec content)) passed = absurd passed
no_body (Some (message.State state)) passed = refl
no_body (Some (message.Log log)) passed = refl
no_body (Some (message.Spec spec)) passed = refl
no_body (Some (message.Connection connection)) passed = refl
no_body (Some (message.Catalog catalog)) passed = refl
no_body (Some (message.Trace content)) passed = refl
no_body (Some (message.Control control)) passed = refl

no_row : (line : List ℕ) (found : Option Message) (found_lines : List FoundLine) → IsPassedOver found → row_lines (record { line = line; found = found } ∷ found_lines) ≡ row_lines found_lines
no_row line found found_lines passed = ap (λ (body : Option (List ℕ)). map row_line (cons_option body (filter_map (λ h. body_of h.found) found_lines))) (no_body found passed)

pub committed_taken : (stream : List ℕ) (counted : Counted) (taken_lines : List TakenLine) → AreTaken stream counted taken_lines → committed_lines (all_taken_events stream counted taken_lines) ≡ row_lines (found_in taken_lines)
committed_taken stream counted [] are = refl
committed_taken stream counted (record_line line content ∷ taken_lines) are = ap (λ (ls : List (List ℕ)). row_line content.body ∷ ls) (committed_taken stream (counted_after counted (record_line line content)) taken_lines are.1)
committed_taken stream counted (state_line line state echo ∷ taken_lines) are = committed_taken stream (counted_after counted (state_line line state echo)) taken_lines are.1
committed_taken stream counted (other_line line found ∷ taken_lines) are = committed_taken stream counted taken_lines are.1 ∙ sym (no_row line found (found_in taken_lines) are.0.passed)

ending_commits_nothing : (is_over : Bool) → committed_lines (ending_events is_over) ≡ []
ending_commits_nothing true = refl
ending_commits_nothing false = refl

pub committed_append : (a b : List Event) → committed_lines (a ++ b) ≡ committed_lines a ++ committed_lines b
committed_append a b = flat_map-append (λ event. body_lines (rows_of event)) a b

-- the rows that a world has committed are those of its records
pub reached_rows : (world : World) (r : IsReached world) → committed_lines world.events ≡ row_lines (found_in r.taken_lines)
reached_rows world r =
    ap committed_lines r.events ∙ (committed_append (first_events world.stream ++ all_taken_events world.stream none_counted r.taken_lines) (ending_events world.is_over) ∙ (ap (λ (ls : List (List ℕ)). committed_lines (first_events world.stream ++ all_taken_events world.stream none_counted r.taken_lines) ++ ls) (ending_commits_nothing world.is_over) ∙ (append-nil (committed_lines (first_events world.stream ++ all_taken_events world.stream none_counted r.taken_lines)) ∙ (committed_append (first_events world.stream) (all_taken_events world.stream none_counted r.taken_lines) ∙ committed_taken world.stream none_counted r.taken_lines r.fits))))

-- and so many were counted
pub counted_rows : (stream : List ℕ) (counted : Counted) (taken_lines : List TakenLine) → AreTaken stream counted taken_lines → (counted_through counted taken_lines).records ≡ counted.records + length (row_lines (found_in taken_lines))
counted_rows stream counted [] are = sym (add-zero counted.records)
counted_rows stream counted (record_line line content ∷ taken_lines) are = let more = counted_rows stream (counted_after counted (record_line line content)) taken_lines are.1 in omega (arith, more)
counted_rows stream counted (state_line line state echo ∷ taken_lines) are = counted_rows stream (counted_after counted (state_line line state echo)) taken_lines are.1
counted_rows stream counted (other_line line found ∷ taken_lines) are = counted_rows stream counted taken_lines are.1 ∙ ap (λ (ls : List (List ℕ)). counted.records + length ls) (sym (no_row line found (found_in taken_lines) are.0.passed))

pub reached_count : (world : World) → IsReached world → world.counted.records ≡ length (committed_lines world.events)
reached_count world r = ap (λ (c : Counted). c.records) r.counted ∙ (counted_rows world.stream none_counted r.taken_lines r.fits ∙ (zero-add (length (row_lines (found_in r.taken_lines))) ∙ ap length (sym (reached_rows world r))))
