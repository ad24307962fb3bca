-- Worlds that are reached stay reached by a step.
use Rattle.std.proofs.Common.{◌≡◌, ℕ, List, [], ◌∷◌, ◌++◌, Bool, true, false, cond, Result, Ok, Err, refl, sym, ◌∙◌, ap, subst, append_assoc}
use Rattle.std.proofs.lemmas.List.{append-nil}
use Rattle.basics.specs.declared.memory.NoMemory.{NoMemory}
use Rattle.outside.specs.declared.event.Event.{Event}
use Rattle.worker_run.specs.declared.plain_world.Step.{Step}
use Rattle.worker_run.specs.declared.plain_world.Step.TheVariants as step
use Rattle.worker_run.specs.TakenLines.{TakenLine, record_line, state_line, other_line, taken_text, Counted, none_counted, counted_after, counted_through, Fits}
use Rattle.worker_run.specs.World.{World, begun, took, ended, first_events, taken_events, all_taken_events, last_events}
use Rattle.worker_run.specs.Steps.{Steps}
use Rattle.worker_run.specs.Reached.{IsReached, ending_events}
use Rattle.worker_run.proofs.ReadingLemmas.{counted_through-more, AreTaken-more, all_taken_events-more}

nil_cons : {A : Type 0} (xs ys : List A) (x : A) → xs ≡ [] → xs ≡ x ∷ ys → ⊥
nil_cons xs ys x e f = cc

true_false : (b : Bool) → b ≡ true → b ≡ false → ⊥
true_false b e f = cc

not_over : (over : Bool) (lines rest : List (List ℕ)) (line : List ℕ) → (over ≡ true → lines ≡ []) → lines ≡ line ∷ rest → over ≡ false
not_over true lines rest line over next = absurd (nil_cons lines rest line (over refl) next)
not_over false lines rest line over next = refl

pub reached_begun : (text stream : List ℕ) → IsReached (begun text stream)
reached_begun text stream = record {
  taken_lines = [];
  fits = tt;
  counted = refl;
  events = sym (append-nil (first_events stream ++ []) ∙ append-nil (first_events stream));
  over = λ e. absurd (true_false false e refl);
}

-- one more taken_line, behind events that have no end yet
grown : (front taken_lines taken_lines' tail one one' : List Event) → tail ≡ [] → one ≡ one' → taken_lines' ≡ taken_lines ++ one' → ((front ++ taken_lines) ++ tail) ++ one ≡ (front ++ taken_lines') ++ tail
grown front taken_lines taken_lines' tail one one' none same more =
    ap (λ (es : List Event). es ++ one) bare ∙ (ap (λ (es : List Event). (front ++ taken_lines) ++ es) same ∙ (append_assoc front taken_lines one' ∙ (ap (λ (es : List Event). front ++ es) (sym more) ∙ sym (ap (λ (es : List Event). (front ++ taken_lines') ++ es) none ∙ append-nil (front ++ taken_lines')))))
  where
    bare : (front ++ taken_lines) ++ tail ≡ front ++ taken_lines
    bare = ap (λ (es : List Event). (front ++ taken_lines) ++ es) none ∙ append-nil (front ++ taken_lines)

pub reached_took : (w : World) (taken_line : TakenLine) (rest : List (List ℕ)) → IsReached w → w.lines ≡ taken_text taken_line ∷ rest → Fits w.stream w.counted taken_line → IsReached (took w taken_line rest)
reached_took w taken_line rest r next fits = record {
  taken_lines = r.taken_lines ++ taken_line ∷ [];
  fits = AreTaken-more w.stream none_counted r.taken_lines taken_line r.fits (subst (λ (c : Counted). Fits w.stream c taken_line) r.counted fits);
  counted = ap (λ (c : Counted). counted_after c taken_line) r.counted ∙ sym (counted_through-more none_counted r.taken_lines taken_line);
  events = ap (λ (es : List Event). es ++ taken_events w.stream w.counted taken_line) r.events ∙ grown (first_events w.stream) (all_taken_events w.stream none_counted r.taken_lines) (all_taken_events w.stream none_counted (r.taken_lines ++ taken_line ∷ [])) (ending_events w.is_over) (taken_events w.stream w.counted taken_line) (taken_events w.stream (counted_through none_counted r.taken_lines) taken_line) (ap ending_events is_open) (ap (λ (c : Counted). taken_events w.stream c taken_line) r.counted) (all_taken_events-more w.stream none_counted r.taken_lines taken_line);
  over = λ e. absurd (true_false w.is_over e is_open);
}
  where
    is_open : w.is_over ≡ false
    is_open = not_over w.is_over w.lines rest (taken_text taken_line) r.over next

ending_grown : (over : Bool) (es : List Event) → (es ++ ending_events over) ++ (cond over [] last_events) ≡ es ++ last_events
ending_grown true es = append-nil (es ++ last_events)
ending_grown false es = ap (λ (front : List Event). front ++ last_events) (append-nil es)

pub reached_ended : (w : World) → IsReached w → w.lines ≡ [] → IsReached (ended w)
reached_ended w r none = record {
  taken_lines = r.taken_lines;
  fits = r.fits;
  counted = r.counted;
  events = ap (λ (es : List Event). es ++ (cond w.is_over [] last_events)) r.events ∙ ending_grown w.is_over (first_events w.stream ++ all_taken_events w.stream none_counted r.taken_lines);
  over = λ e. none;
}

pub reached_step : (old new : World) (result : Result Step NoMemory) → IsReached old → Steps old result new → IsReached new
reached_step old new (Ok step.Record) r h = subst IsReached (sym h.after) (reached_took old (record_line h.line h.content) h.rest r h.next h.fits)
reached_step old new (Ok (step.Saved object)) r h = subst IsReached (sym h.after) (reached_took old (state_line h.line h.state h.echo) h.rest r h.next h.fits)
reached_step old new (Ok (step.Other said)) r h = subst IsReached (sym h.after) (reached_took old (other_line h.line h.found) h.rest r h.next h.fits)
reached_step old new (Ok step.Done) r h = subst IsReached (sym h.after) (reached_ended old r h.none)
reached_step old new (Ok (step.Unbuilt number)) r h = subst IsReached (sym h.1) r
reached_step old new (Err fault) r h = subst IsReached (sym h) r
