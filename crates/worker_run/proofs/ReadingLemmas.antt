-- Lines that are taken one after another.
use Rattle.std.proofs.Common.{◌≡◌, ℕ, ◌+◌, List, [], ◌∷◌, ◌++◌, map, length, Option, None, Some, Result, Ok, Err, OnErr, option_to_list, ◌⊎◌, inl, inr, refl, sym, ◌∙◌, ap, subst, append_assoc, add-zero, arith}
use Rattle.std.proofs.lemmas.List.{append-nil, map-append, length-append}
use Rattle.std.specs.List.{cons_option}
use Rattle.std.proofs.lemmas.List.Elements.{filter_map-append}
use Rattle.basics.specs.Told.{told_more, GrewByFront}
use Rattle.outside.proofs.Says.{told_more-twice, told_more-none, none_told, none_or_one}
use Rattle.outside.specs.declared.event.Event.{Event}
use Rattle.worker_run.specs.TakenLines.{FoundLine, TakenLine, record_line, state_line, other_line, taken_text, taken_message, found_of, found_in, Counted, counted_after, counted_through, Fits, AreTaken}
use Rattle.worker_run.specs.World.{World, took, taken_events, all_taken_events}
use Rattle.worker_run.specs.Output.{saved_line, said_of_line, said_lines}
use Rattle.worker_run.specs.Steps.{TakesRecord, TakesState, TakesOther}
use Rattle.worker_run.specs.Reading.{TakesLines, SaysLines, ReadsSome}

pub counted_through-more : (counted : Counted) (taken_lines : List TakenLine) (taken_line : TakenLine) → counted_through counted (taken_lines ++ taken_line ∷ []) ≡ counted_after (counted_through counted taken_lines) taken_line
counted_through-more counted [] taken_line = refl
counted_through-more counted (r ∷ taken_lines) taken_line = counted_through-more (counted_after counted r) taken_lines taken_line

pub AreTaken-more : (stream : List ℕ) (counted : Counted) (taken_lines : List TakenLine) (taken_line : TakenLine) → AreTaken stream counted taken_lines → Fits stream (counted_through counted taken_lines) taken_line → AreTaken stream counted (taken_lines ++ taken_line ∷ [])
AreTaken-more stream counted [] taken_line are fits = (fits, tt)
AreTaken-more stream counted (r ∷ taken_lines) taken_line are fits = (are.0, AreTaken-more stream (counted_after counted r) taken_lines taken_line are.1 fits)

pub all_taken_events-more : (stream : List ℕ) (counted : Counted) (taken_lines : List TakenLine) (taken_line : TakenLine) → all_taken_events stream counted (taken_lines ++ taken_line ∷ []) ≡ all_taken_events stream counted taken_lines ++ taken_events stream (counted_through counted taken_lines) taken_line
all_taken_events-more stream counted [] taken_line = append-nil (taken_events stream counted taken_line)
all_taken_events-more stream counted (r ∷ taken_lines) taken_line =
    ap (λ (es : List Event). taken_events stream counted r ++ es) (all_taken_events-more stream (counted_after counted r) taken_lines taken_line) ∙ sym (append_assoc (taken_events stream counted r) (all_taken_events stream (counted_after counted r) taken_lines) (taken_events stream (counted_through (counted_after counted r) taken_lines) taken_line))

pub found_in-more : (taken_lines : List TakenLine) (taken_line : TakenLine) → found_in (taken_lines ++ taken_line ∷ []) ≡ found_in taken_lines ++ found_of taken_line ∷ []
found_in-more taken_lines taken_line = map-append found_of taken_lines (taken_line ∷ [])

-- what a line says
abbrev pub said_of : FoundLine → List (List ℕ)
said_of line = option_to_list (said_of_line line.line line.found)

one_option : (said : Option (List ℕ)) → cons_option said [] ≡ option_to_list said
one_option None = refl
one_option (Some line) = refl

pub said_append : (a b : List FoundLine) → said_lines (a ++ b) ≡ said_lines a ++ said_lines b
said_append a b = filter_map-append (λ h. said_of_line h.line h.found) a b

-- one line more is said behind the others
pub said_lines-more : (taken_lines : List TakenLine) (taken_line : TakenLine) → said_lines (found_in (taken_lines ++ taken_line ∷ [])) ≡ said_lines (found_in taken_lines) ++ said_of (found_of taken_line)
said_lines-more taken_lines taken_line =
    ap said_lines (found_in-more taken_lines taken_line) ∙ (said_append (found_in taken_lines) (found_of taken_line ∷ []) ∙ ap (λ (ls : List (List ℕ)). said_lines (found_in taken_lines) ++ ls) (one_option (said_of_line (taken_text taken_line) (taken_message taken_line))))

-- nothing was taken yet
pub takes_none : (world : World) → TakesLines world world []
takes_none world = record { stream = refl; lines = refl; number = sym (add-zero world.number); counted = refl; fits = tt; events = sym (append-nil world.events) }

-- one line more
pub takes_more : (old mid new : World) (taken_lines : List TakenLine) (taken_line : TakenLine) (rest : List (List ℕ)) → TakesLines old mid taken_lines → mid.lines ≡ taken_text taken_line ∷ rest → Fits mid.stream mid.counted taken_line → new ≡ took mid taken_line rest → TakesLines old new (taken_lines ++ taken_line ∷ [])
takes_more old mid new taken_lines taken_line rest takes next fits after =
    subst (λ (w : World). TakesLines old w (taken_lines ++ taken_line ∷ [])) (sym after) record {
      stream = takes.stream;
      lines = takes.lines ∙ (ap (λ (ls : List (List ℕ)). map taken_text taken_lines ++ ls) next ∙ regrouped);
      number = ap (λ (n : ℕ). n + 1) takes.number ∙ counted_up;
      counted = ap (λ (c : Counted). counted_after c taken_line) takes.counted ∙ sym (counted_through-more old.counted taken_lines taken_line);
      fits = AreTaken-more old.stream old.counted taken_lines taken_line takes.fits fits';
      events = ap (λ (es : List Event). es ++ taken_events mid.stream mid.counted taken_line) takes.events ∙ events_up;
    }
  where
    fits' : Fits old.stream (counted_through old.counted taken_lines) taken_line
    fits' = subst (λ (c : Counted). Fits old.stream c taken_line) takes.counted (subst (λ (s : List ℕ). Fits s mid.counted taken_line) takes.stream fits)

    regrouped : map taken_text taken_lines ++ taken_text taken_line ∷ rest ≡ map taken_text (taken_lines ++ taken_line ∷ []) ++ rest
    regrouped = sym (ap (λ (ls : List (List ℕ)). ls ++ rest) (map-append taken_text taken_lines (taken_line ∷ [])) ∙ append_assoc (map taken_text taken_lines) (taken_text taken_line ∷ []) rest)

    counted_up : (old.number + length taken_lines) + 1 ≡ old.number + length (taken_lines ++ taken_line ∷ [])
    counted_up = simp length-append (omega arith)

    events_up : (old.events ++ all_taken_events old.stream old.counted taken_lines) ++ taken_events mid.stream mid.counted taken_line ≡ old.events ++ all_taken_events old.stream old.counted (taken_lines ++ taken_line ∷ [])
    events_up =
        append_assoc old.events (all_taken_events old.stream old.counted taken_lines) (taken_events mid.stream mid.counted taken_line) ∙ ap (λ (es : List Event). old.events ++ es) (ap (λ (es : List Event). all_taken_events old.stream old.counted taken_lines ++ es) same ∙ sym (all_taken_events-more old.stream old.counted taken_lines taken_line))
      where
        same : taken_events mid.stream mid.counted taken_line ≡ taken_events old.stream (counted_through old.counted taken_lines) taken_line
        same = ap (λ (s : List ℕ). taken_events s mid.counted taken_line) takes.stream ∙ ap (λ (c : Counted). taken_events old.stream c taken_line) takes.counted

-- one line more, and what it says
pub says_more : (old mid new : World) (before now after : Option (List (List ℕ))) (taken_line : TakenLine) (rest : List (List ℕ)) → SaysLines old mid before now → mid.lines ≡ taken_text taken_line ∷ rest → Fits mid.stream mid.counted taken_line → new ≡ took mid taken_line rest → after ≡ told_more (said_of (found_of taken_line)) now → SaysLines old new before after
says_more old mid new before now after taken_line rest says next fits is said = record {
  taken_lines = says.taken_lines ++ taken_line ∷ [];
  takes = takes_more old mid new says.taken_lines taken_line rest says.takes next fits is;
  said = said ∙ (ap (λ (t : Option (List (List ℕ))). told_more (said_of (found_of taken_line)) t) says.said ∙ (told_more-twice (said_lines (found_in says.taken_lines)) (said_of (found_of taken_line)) before ∙ ap (λ (ls : List (List ℕ)). told_more ls before) (sym (said_lines-more says.taken_lines taken_line))));
}

-- a record more, and a state more, whose line was said
pub says_record : (old mid new : World) (before now : Option (List (List ℕ))) → SaysLines old mid before now → TakesRecord mid new → SaysLines old new before now
says_record old mid new before now says record_ =
    says_more old mid new before now now (record_line record_.line record_.content) record_.rest says record_.next record_.fits record_.after (sym (told_more-none now))

pub says_state : (old mid new : World) (object : List ℕ) (before now after : Option (List (List ℕ))) → SaysLines old mid before now → TakesState mid object new → after ≡ told_more (saved_line object ∷ []) now → SaysLines old new before after
says_state old mid new object before now after says state said =
    says_more old mid new before now after (state_line state.line state.state state.echo) state.rest says state.next state.fits state.after
    (said ∙ ap (λ (o : List ℕ). told_more (saved_line o ∷ []) now) state.saved)

-- a line more that was passed over, and what it says
pub says_other : (old mid new : World) (other : Option (List ℕ)) (before now after : Option (List (List ℕ))) → SaysLines old mid before now → TakesOther mid other new → after ≡ told_more (option_to_list other) now → SaysLines old new before after
says_other old mid new other before now after says takes said =
    says_more old mid new before now after (other_line takes.line takes.found) takes.rest says takes.next takes.fits takes.after
    (said ∙ ap (λ (o : Option (List ℕ)). told_more (option_to_list o) now) takes.said_is)

-- what such a line says was said or not
pub says_some_other : (old mid new : World) (other : Option (List ℕ)) (before now after : Option (List (List ℕ))) → SaysLines old mid before now → TakesOther mid other new → GrewByFront (option_to_list other) now after → ReadsSome old before after
says_some_other old mid new None before now after says takes grew = record { through = mid; says = subst (λ (t : Option (List (List ℕ))). SaysLines old mid before t) (sym (none_told now after grew)) says }
says_some_other old mid new (Some line) before now after says takes grew = by_line (none_or_one line now after grew)
  where
    by_line : (after ≡ now) ⊎ (after ≡ told_more (line ∷ []) now) → ReadsSome old before after
    by_line (inl same) = record { through = mid; says = subst (λ (t : Option (List (List ℕ))). SaysLines old mid before t) (sym same) says }
    by_line (inr said) = record { through = new; says = says_other old mid new (Some line) before now after says takes said }

-- the line of a saved state was said or not
pub says_some : (old mid new : World) (object : List ℕ) (before now after : Option (List (List ℕ))) → SaysLines old mid before now → TakesState mid object new → GrewByFront (saved_line object ∷ []) now after → ReadsSome old before after
says_some old mid new object before now after says state grew = by_line (none_or_one (saved_line object) now after grew)
  where
    by_line : (after ≡ now) ⊎ (after ≡ told_more (saved_line object ∷ []) now) → ReadsSome old before after
    by_line (inl same) = record { through = mid; says = subst (λ (t : Option (List (List ℕ))). SaysLines old mid before t) (sym same) says }
    by_line (inr said) = record { through = new; says = says_state old mid new object before now after says state said }

-- what holds whatever a result is, holds where it is an error
pub on_err : {T E : Type 0} (r : Result T E) (P : Type 0) → P → OnErr r P
on_err (Ok value) P p = tt
on_err (Err fault) P p = p
