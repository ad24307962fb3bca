-- What a step does, over the parts of a plain world.
use Rattle.std.proofs.Common.{◌≡◌, ℕ, ◌+◌, ◌<◌, ◌≤◌, List, [], ◌∷◌, ◌++◌, length, Option, Bool, drop, slice_range, refl, sym, ◌∙◌, ap, subst, arith}
use Rattle.text_lines.specs.Lines.{lines_of}
use Rattle.outside.specs.declared.event.Event.{Event}
use Rattle.outside.specs.declared.event.Event.TheVariants.{ReadLine}
use Rattle.airbyte_message.specs.declared.message.RecordMsg.{RecordMsg}
use Rattle.airbyte_message.specs.declared.message.StateMsg.{StateMsg}
use Rattle.worker_run.specs.Bounds.{IsBounded}
use Rattle.worker_run.specs.TakenLines.{FitsRecord, IsUnbuilt}
use Rattle.worker_run.specs.World.{World, record_events}
use Rattle.worker_run.specs.Steps.{TakesRecord, TakesState, TakesOther, PassesOver, Refuses, IsFitState, AddsState}

-- the world of these parts
abbrev pub world_of : List ℕ → List ℕ → ℕ → ℕ → ℕ → ℕ → List Event → Bool → World
world_of stream text at number records since events is_over =
    record { stream = stream; lines = lines_of (drop at text); number = number; counted = record { records = records; since = since }; events = events; is_over = is_over }

-- the counts stay within bounds behind a record, and behind a state
pub bounded_record : (text text' : List ℕ) (at number records since start end : ℕ) → text' ≡ text → IsBounded at number records since (length text) → (at ≤ start) × (start < end) × (end ≤ length text') → IsBounded end (number + 1) (records + 1) (since + 1) (length text)
bounded_record text text' at number records since start end same bounded place =
    let size = ap length same in record { inside = omega (arith, place.2, size); lines = omega (arith, bounded.lines, place.0, place.1); rows = omega (arith, bounded.rows); few = omega (arith, bounded.few) }

pub bounded_state : (text text' : List ℕ) (at number records since start end : ℕ) → text' ≡ text → IsBounded at number records since (length text) → (at ≤ start) × (start < end) × (end ≤ length text') → IsBounded end (number + 1) records 0 (length text)
bounded_state text text' at number records since start end same bounded place =
    let size = ap length same in record { inside = omega (arith, place.2, size); lines = omega (arith, bounded.lines, place.0, place.1); rows = omega (arith, bounded.rows); few = omega arith }

-- the next line of a text, where the same text is known by three names
pub next_is : (text text' text'' : List ℕ) (at start end : ℕ) → text' ≡ text → text'' ≡ text → lines_of (drop at text') ≡ slice_range text' start end ∷ lines_of (drop end text') → lines_of (drop at text) ≡ slice_range text'' start end ∷ lines_of (drop end text)
next_is text text' text'' at start end e' e'' h =
    subst (λ (t : List ℕ). lines_of (drop at t) ≡ slice_range t start end ∷ lines_of (drop end t)) e' h ∙ ap (λ (t : List ℕ). slice_range t start end ∷ lines_of (drop end text)) (sym e'')

pub takes_record : (stream text line : List ℕ) (at end number records since : ℕ) (events events' : List Event) (is_over : Bool) (content : RecordMsg) (old : World) → world_of stream text at number records since events is_over ≡ old → lines_of (drop at text) ≡ line ∷ lines_of (drop end text) → FitsRecord stream line content → events' ≡ events ++ record_events line records content → TakesRecord old (world_of stream text end (number + 1) (records + 1) (since + 1) events' is_over)
takes_record stream text line at end number records since events events' is_over content old view next fits added =
    subst (λ (w : World). TakesRecord w (world_of stream text end (number + 1) (records + 1) (since + 1) events' is_over)) view record {
      line = line;
      content = content;
      rest = lines_of (drop end text);
      next = next;
      fits = fits;
      after = ap (λ (es : List Event). world_of stream text end (number + 1) (records + 1) (since + 1) es is_over) added;
    }

pub takes_state : (stream text line object : List ℕ) (at end number records since : ℕ) (events events' : List Event) (is_over : Bool) (state : StateMsg) (old : World) → world_of stream text at number records since events is_over ≡ old → lines_of (drop at text) ≡ line ∷ lines_of (drop end text) → IsFitState stream since line state → AddsState stream line state.object since events events' → object ≡ state.object → TakesState old object (world_of stream text end (number + 1) records 0 events' is_over)
takes_state stream text line object at end number records since events events' is_over state old view next fits adds is =
    subst (λ (w : World). TakesState w object (world_of stream text end (number + 1) records 0 events' is_over)) view record {
      line = line;
      state = state;
      echo = adds.echo;
      rest = lines_of (drop end text);
      next = next;
      fits = record { short = fits.short; message = fits.message; taken = fits.taken; echoed = adds.echoed };
      saved = is;
      after = ap (λ (es : List Event). world_of stream text end (number + 1) records 0 es is_over) adds.added;
    }

pub bounded_other : (text text' : List ℕ) (at number records since start end : ℕ) → text' ≡ text → IsBounded at number records since (length text) → (at ≤ start) × (start < end) × (end ≤ length text') → IsBounded end (number + 1) records since (length text)
bounded_other text text' at number records since start end same bounded place =
    let size = ap length same in record { inside = omega (arith, place.2, size); lines = omega (arith, bounded.lines, place.0, place.1); rows = omega (arith, bounded.rows); few = omega (arith, bounded.few) }

pub takes_other : (stream text line : List ℕ) (at end number records since : ℕ) (events events' : List Event) (is_over : Bool) (said : Option (List ℕ)) (old : World) → world_of stream text at number records since events is_over ≡ old → lines_of (drop at text) ≡ line ∷ lines_of (drop end text) → PassesOver line said → events' ≡ events ++ ReadLine line ∷ [] → TakesOther old said (world_of stream text end (number + 1) records since events' is_over)
takes_other stream text line at end number records since events events' is_over said old view next over added =
    subst (λ (w : World). TakesOther w said (world_of stream text end (number + 1) records since events' is_over)) view record {
      line = line;
      found = over.found;
      rest = lines_of (drop end text);
      next = next;
      fits = over.fits;
      said_is = over.said_is;
      after = ap (λ (es : List Event). world_of stream text end (number + 1) records since es is_over) added;
    }

pub refuses : (stream text line : List ℕ) (at end number records since : ℕ) (events : List Event) (is_over : Bool) (old : World) → world_of stream text at number records since events is_over ≡ old → lines_of (drop at text) ≡ line ∷ lines_of (drop end text) → IsUnbuilt stream since line → Refuses old (number + 1)
refuses stream text line at end number records since events is_over old view next unbuilt =
    subst (λ (w : World). Refuses w (number + 1)) view record { line = line; rest = lines_of (drop end text); next = next; unbuilt = unbuilt; number_is = refl }
