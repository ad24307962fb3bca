-- The events of a world that is reached are a safe sync, in every prefix.
use Rattle.std.proofs.Common.{rules, ◌≡◌, ◌⊎◌, inl, inr, ℕ, ◌+◌, List, [], ◌∷◌, ◌++◌, map, fold, flat_map, Option, None, Some, Contains, Bool, true, false, refl, sym, ◌∙◌, ap, subst, append_assoc}
use Rattle.std.specs.List.{AllByRecursion, filter_map, enumerate_from}
use Rattle.std.proofs.lemmas.List.{append-nil, map-append}
use Rattle.std.proofs.lemmas.List.Elements.{filter_map-append, Contains-append_left, Contains-append_right}
use Rattle.std.proofs.lemmas.List.Sums.{fold-append}
use Rattle.std.proofs.lemmas.Grind.{flat_map-append}
use Rattle.outside.specs.declared.event.Event.{Event}
use Rattle.outside.specs.declared.event.Event.TheVariants.{Opened, Took, TookEnd, Committed, Emitted, Started, ReadLine, ReadEnd, Given, Closed, Got, GotEnd, Saved, Ended}
use Rattle.outside.specs.declared.event.Codes.{Codes}
use Rattle.outside.specs.declared.event.RawRow.{RawRow}
use Rattle.outside.specs.declared.event.AttemptPlan.{AttemptPlan}
use Rattle.outside.specs.declared.event.Exit.TheVariants as exit
use Rattle.outside.specs.Event.{read_in, given_in, got_in}
use Rattle.airbyte_message.specs.declared.message.Message.{Message}
use Rattle.airbyte_message.specs.declared.message.Message.TheVariants as message
use Rattle.airbyte_message.specs.declared.message.RecordMsg.{RecordMsg}
use Rattle.airbyte_message.specs.declared.message.StateMsg.{StateMsg}
use Rattle.airbyte_message.specs.declared.message.StateKind.{StateKind}
use Rattle.airbyte_message.specs.declared.message.StateKind.TheVariants as kind
use Rattle.airbyte_message.specs.declared.message.TraceMsg.{TraceMsg}
use Rattle.airbyte_message.specs.declared.message.TraceMsg.TheVariants as trace
use Rattle.worker_run.specs.TakenLines.{FoundLine, TakenLine, record_line, state_line, other_line, taken_text, found_of, Counted, none_counted, counted_after, counted_through, Fits, FitsState, AreTaken, KindIsOf, IsPassedTrace, IsPassedOver}
use Rattle.worker_run.specs.Store.{store_text}
use Rattle.worker_run.specs.World.{World, row_of, stream_plan, attempt_plan, first_events, taken_events, all_taken_events, last_events, record_events, state_events}
use Rattle.worker_run.specs.EventParts.{rows_of}
use Rattle.worker_run.specs.Reached.{IsReached, ending_events}
use Rattle.airbyte_message.specs.Lanes.{Covers}
use Rattle.worker_run.specs.SafeSync.{attempt_after, attempt, found_text, PassesKind, PassesTrace, Passes, ArePassed, GivesPassed, ReadState, states_behind, Takes, StartsSafely, SavesNothing, SavesTaken, IsSafeSoFar, IsSafeSync}
use Rattle.worker_run.proofs.ReadingLemmas.{counted_through-more, AreTaken-more, all_taken_events-more}

-- lists that end in one element more

nil_more : {A : Type 0} (xs : List A) (x : A) → [] ≡ xs ++ x ∷ [] → ⊥
nil_more [] x e = cc
nil_more (y ∷ xs) x e = cc

pub more_front : {A : Type 0} (xs ys : List A) (x y : A) → xs ++ x ∷ [] ≡ ys ++ y ∷ [] → xs ≡ ys
more_front [] [] x y e = refl
more_front [] (b ∷ ys) x y e = absurd (nil_more ys y (cc))
more_front (a ∷ xs) [] x y e = absurd (nil_more xs x (cc))
more_front (a ∷ xs) (b ∷ ys) x y e = let heads : a ≡ b = cc in let tails = more_front xs ys x y (cc) in cc

pub more_last : {A : Type 0} (xs ys : List A) (x y : A) → xs ++ x ∷ [] ≡ ys ++ y ∷ [] → x ≡ y
more_last [] [] x y e = cc
more_last [] (b ∷ ys) x y e = absurd (nil_more ys y (cc))
more_last (a ∷ xs) [] x y e = absurd (nil_more xs x (cc))
more_last (a ∷ xs) (b ∷ ys) x y e = more_last xs ys x y (cc)

-- a list is empty, or ends in an element
pub record EndsIn {A : Type 0} (xs : List A) : Type 0 where
  pub front : List A
  pub last : A
  pub is : xs ≡ front ++ last ∷ []

ends_in : {A : Type 0} (xs : List A) → (xs ≡ []) ⊎ EndsIn xs
ends_in [] = inl refl
ends_in (x ∷ xs) = behind x xs (ends_in xs)
  where
    behind : {A : Type 0} (x : A) (xs : List A) → (xs ≡ []) ⊎ EndsIn xs → (x ∷ xs ≡ []) ⊎ EndsIn (x ∷ xs)
    behind x xs (inl none) = inr (record { front = []; last = x; is = ap (λ (ys : _). x ∷ ys) none })
    behind x xs (inr ends) = inr (record { front = x ∷ ends.front; last = ends.last; is = ap (λ (ys : _). x ∷ ys) ends.is })

-- a prefix of a list with one element more is a prefix of the list, or the whole
prefix_cases : (xs front rest : List Event) (x : Event) → xs ++ x ∷ [] ≡ front ++ rest → (front ≡ xs ++ x ∷ []) ⊎ ((others : List Event) × (xs ≡ front ++ others))
prefix_cases xs front rest x e = split (ends_in rest)
  where
    split : (rest ≡ []) ⊎ EndsIn rest → (front ≡ xs ++ x ∷ []) ⊎ ((others : List Event) × (xs ≡ front ++ others))
    split (inl none) = inl (sym (e ∙ (ap (λ (r : _). front ++ r) none ∙ append-nil front)))
    split (inr ends) = inr (ends.front, more_front xs (front ++ ends.front) x ends.last (e ∙ (ap (λ (r : _). front ++ r) ends.is ∙ sym (append_assoc front ends.front (ends.last ∷ [])))))

-- one event more is safe where the events so far are
pub safe_more : (stream : List ℕ) (events : List Event) (event : Event) → IsSafeSync stream events → IsSafeSoFar stream (events ++ event ∷ []) → IsSafeSync stream (events ++ event ∷ [])
safe_more stream events event safe so_far front rest e = along (prefix_cases events front rest event e)
  where
    along : (front ≡ events ++ event ∷ []) ⊎ ((others : List Event) × (events ≡ front ++ others)) → IsSafeSoFar stream front
    along (inl whole) = subst (λ (es : List Event). IsSafeSoFar stream es) (sym whole) so_far
    along (inr part) = safe front part.0 part.1

-- what was read and what was given in the attempt so far
abbrev reads : List Event → List (List ℕ)
reads events = filter_map read_in (attempt events)

abbrev gives : List Event → List (List ℕ)
gives events = filter_map given_in (attempt events)

attempt_more : (events : List Event) (event : Event) → attempt (events ++ event ∷ []) ≡ attempt_after (attempt events) event
attempt_more events event = fold-append attempt_after [] events (event ∷ [])

reads_more : (events : List Event) (event : Event) → attempt_after (attempt events) event ≡ attempt events ++ event ∷ [] → reads (events ++ event ∷ []) ≡ reads events ++ filter_map read_in (event ∷ [])
reads_more events event goes_on = ap (λ (es : List Event). filter_map read_in es) (attempt_more events event ∙ goes_on) ∙ filter_map-append read_in (attempt events) (event ∷ [])

gives_more : (events : List Event) (event : Event) → attempt_after (attempt events) event ≡ attempt events ++ event ∷ [] → gives (events ++ event ∷ []) ≡ gives events ++ filter_map given_in (event ∷ [])
gives_more events event goes_on = ap (λ (es : List Event). filter_map given_in es) (attempt_more events event ∙ goes_on) ∙ filter_map-append given_in (attempt events) (event ∷ [])

-- the lines that are passed on, of lines that were taken

abbrev pub passed_in : List TakenLine → List FoundLine
passed_in [] = []
passed_in (record_line line content ∷ taken_lines) = found_of (record_line line content) ∷ passed_in taken_lines
passed_in (state_line line state echo ∷ taken_lines) = found_of (state_line line state echo) ∷ passed_in taken_lines
passed_in (other_line line found ∷ taken_lines) = passed_in taken_lines

passed_append : (a b : List TakenLine) → passed_in (a ++ b) ≡ passed_in a ++ passed_in b
passed_append [] b = refl
passed_append (record_line line content ∷ a) b = ap (λ (hs : List FoundLine). found_of (record_line line content) ∷ hs) (passed_append a b)
passed_append (state_line line state echo ∷ a) b = ap (λ (hs : List FoundLine). found_of (state_line line state echo) ∷ hs) (passed_append a b)
passed_append (other_line line found ∷ a) b = passed_append a b

kind_passes : (stream : List ℕ) (what : StateKind) → KindIsOf stream what → PassesKind stream what
kind_passes stream (kind.Stream id blob) is = is
kind_passes stream (kind.Global shared streams) is = tt
kind_passes stream kind.Legacy is = is

trace_stays : (stream : List ℕ) (content : TraceMsg) → IsPassedTrace content → PassesTrace stream content → ⊥
trace_stays stream (trace.Error text failure emitted_at) over passes = passes
trace_stays stream (trace.Status id status emitted_at) over passes = over
trace_stays stream (trace.Other object) over passes = passes

-- what is passed over is not passed on
other_stays : (stream : List ℕ) (found : Option Message) → IsPassedOver found → Passes stream found → ⊥
other_stays stream None over passes = passes
other_stays stream (Some (message.Rec content)) over passes = over
other_stays stream (Some (message.State state)) over passes = over
other_stays stream (Some (message.Log log)) over passes = passes
other_stays stream (Some (message.Spec spec)) over passes = passes
other_stays stream (Some (message.Connection connection)) over passes = passes
other_stays stream (Some (message.Catalog catalog)) over passes = passes
other_stays stream (Some (message.Trace content)) over passes = trace_stays stream content over passes
other_stays stream (Some (message.Control control)) over passes = passes

are_passed : (stream : List ℕ) (counted : Counted) (taken_lines : List TakenLine) → AreTaken stream counted taken_lines → ArePassed stream (map taken_text taken_lines) (passed_in taken_lines)
are_passed stream counted [] are = refl
are_passed stream counted (record_line line content ∷ taken_lines) are = (Some (message.Rec content), are.0.message, passed_in taken_lines, are_passed stream (counted_after counted (record_line line content)) taken_lines are.1, inl (are.0.taken, refl))
are_passed stream counted (state_line line state echo ∷ taken_lines) are = (Some (message.State state), are.0.message, passed_in taken_lines, are_passed stream (counted_after counted (state_line line state echo)) taken_lines are.1, inl (kind_passes stream state.kind are.0.taken.kind, refl))
are_passed stream counted (other_line line found ∷ taken_lines) are = (found, are.0.message, passed_in taken_lines, are_passed stream counted taken_lines are.1, inr (other_stays stream found are.0.passed, refl))

-- an event that is no start and no save
pub record IsPlain (event : Event) : Type 0 where
  pub no_start : (plan : AttemptPlan) → event ≡ Started plan → ⊥
  pub no_save : (text : List ℕ) → event ≡ Saved text → ⊥

-- what stands so far: the lines of these taken_lines were read, and those that are passed on were given but for the rest
pub record IsAt (stream : List ℕ) (taken_lines : List TakenLine) (events : List Event) (rest : List (List ℕ)) : Type 0 where
  pub fits : AreTaken stream none_counted taken_lines
  pub read : reads events ≡ map taken_text taken_lines
  pub given : map found_text (passed_in taken_lines) ≡ gives events ++ rest

gives_passed : (stream : List ℕ) (taken_lines : List TakenLine) (events : List Event) (rest : List (List ℕ)) → IsAt stream taken_lines events rest → GivesPassed stream (reads events) (gives events)
gives_passed stream taken_lines events rest at = record {
  passed = passed_in taken_lines;
  are = subst (λ (ls : List (List ℕ)). ArePassed stream ls (passed_in taken_lines)) (sym at.read) (are_passed stream none_counted taken_lines at.fits);
  rest = rest;
  splits = at.given;
}

plain_so_far : (stream : List ℕ) (taken_lines : List TakenLine) (events : List Event) (event : Event) (rest : List (List ℕ)) → IsPlain event → IsAt stream taken_lines (events ++ event ∷ []) rest → IsSafeSoFar stream (events ++ event ∷ [])
plain_so_far stream taken_lines events event rest plain at = record {
  given = gives_passed stream taken_lines (events ++ event ∷ []) rest at;
  started = λ before plan e. absurd (plain.no_start plan (more_last events before event (Started plan) e));
  saved = λ before text e. absurd (plain.no_save text (more_last events before event (Saved text) e));
}

-- an event that is no line
pub record IsNeutral (event : Event) : Type 0 where
  pub plain : IsPlain event
  pub goes_on : (events : List Event) → attempt_after events event ≡ events ++ event ∷ []
  pub not_read : filter_map read_in (event ∷ []) ≡ []
  pub not_given : filter_map given_in (event ∷ []) ≡ []

-- the events so far are safe, and all lines that are passed on were given
pub record IsSafeEven (stream : List ℕ) (taken_lines : List TakenLine) (events : List Event) : Type 0 where
  pub safe : IsSafeSync stream events
  pub at : IsAt stream taken_lines events []

stays_at : (stream : List ℕ) (taken_lines : List TakenLine) (events : List Event) (event : Event) → attempt_after (attempt events) event ≡ attempt events ++ event ∷ [] → filter_map read_in (event ∷ []) ≡ [] → filter_map given_in (event ∷ []) ≡ [] → IsAt stream taken_lines events [] → IsAt stream taken_lines (events ++ event ∷ []) []
stays_at stream taken_lines events event goes_on not_read not_given at = record {
  fits = at.fits;
  read = reads_more events event goes_on ∙ (ap (λ (ls : List (List ℕ)). reads events ++ ls) not_read ∙ (append-nil (reads events) ∙ at.read));
  given = at.given ∙ sym (ap (λ (ls : List (List ℕ)). ls ++ []) (gives_more events event goes_on ∙ (ap (λ (ls : List (List ℕ)). gives events ++ ls) not_given ∙ append-nil (gives events))));
}

pub neutral_more : (stream : List ℕ) (taken_lines : List TakenLine) (events : List Event) (event : Event) → IsNeutral event → IsSafeEven stream taken_lines events → IsSafeEven stream taken_lines (events ++ event ∷ [])
neutral_more stream taken_lines events event neutral s = record {
  safe = safe_more stream events event s.safe (plain_so_far stream taken_lines events event [] neutral.plain at);
  at = at;
}
  where
    at : IsAt stream taken_lines (events ++ event ∷ []) []
    at = stays_at stream taken_lines events event (neutral.goes_on (attempt events)) neutral.not_read neutral.not_given s.at

took_neutral : (line : List ℕ) → IsNeutral (Took line)
took_neutral line = record { plain = record { no_start = λ plan e. cc; no_save = λ text e. cc }; goes_on = λ events. refl; not_read = refl; not_given = refl }

committed_neutral : (stream : ℕ) (rows : List RawRow) → IsNeutral (Committed stream rows)
committed_neutral stream rows = record { plain = record { no_start = λ plan e. cc; no_save = λ text e. cc }; goes_on = λ events. refl; not_read = refl; not_given = refl }

emitted_neutral : (line : List ℕ) → IsNeutral (Emitted line)
emitted_neutral line = record { plain = record { no_start = λ plan e. cc; no_save = λ text e. cc }; goes_on = λ events. refl; not_read = refl; not_given = refl }

got_neutral : (line : List ℕ) → IsNeutral (Got line)
got_neutral line = record { plain = record { no_start = λ plan e. cc; no_save = λ text e. cc }; goes_on = λ events. refl; not_read = refl; not_given = refl }

-- a line is read

read_lines : (taken_lines : List TakenLine) (taken_line : TakenLine) (events : List Event) → reads events ≡ map taken_text taken_lines → reads (events ++ ReadLine (taken_text taken_line) ∷ []) ≡ map taken_text (taken_lines ++ taken_line ∷ [])
read_lines taken_lines taken_line events read = reads_more events (ReadLine (taken_text taken_line)) refl ∙ (ap (λ (ls : List (List ℕ)). ls ++ taken_text taken_line ∷ []) read ∙ sym (map-append taken_text taken_lines (taken_line ∷ [])))

read_gives : (line : List ℕ) (events : List Event) → gives (events ++ ReadLine line ∷ []) ≡ gives events
read_gives line events = gives_more events (ReadLine line) refl ∙ append-nil (gives events)

given_so_far : (stream : List ℕ) (taken_lines : List TakenLine) (events : List Event) → IsAt stream taken_lines events [] → map found_text (passed_in taken_lines) ≡ gives events
given_so_far stream taken_lines events at = at.given ∙ append-nil (gives events)

read_plain : (line : List ℕ) → IsPlain (ReadLine line)
read_plain line = record { no_start = λ plan e. cc; no_save = λ text e. cc }

given_plain : (line : List ℕ) → IsPlain (Given line)
given_plain line = record { no_start = λ plan e. cc; no_save = λ text e. cc }

-- and passed over
pub other_more : (stream : List ℕ) (taken_lines : List TakenLine) (taken_line : TakenLine) (events : List Event) → AreTaken stream none_counted (taken_lines ++ taken_line ∷ []) → passed_in (taken_line ∷ []) ≡ [] → IsSafeEven stream taken_lines events → IsSafeEven stream (taken_lines ++ taken_line ∷ []) (events ++ ReadLine (taken_text taken_line) ∷ [])
other_more stream taken_lines taken_line events fits over s = record {
  safe = safe_more stream events (ReadLine (taken_text taken_line)) s.safe (plain_so_far stream (taken_lines ++ taken_line ∷ []) events (ReadLine (taken_text taken_line)) [] (read_plain (taken_text taken_line)) at);
  at = at;
}
  where
    at : IsAt stream (taken_lines ++ taken_line ∷ []) (events ++ ReadLine (taken_text taken_line) ∷ []) []
    at = record {
      fits = fits;
      read = read_lines taken_lines taken_line events s.at.read;
      given = ap (λ (hs : List FoundLine). map found_text hs) (passed_append taken_lines (taken_line ∷ []) ∙ (ap (λ (hs : List FoundLine). passed_in taken_lines ++ hs) over ∙ append-nil (passed_in taken_lines))) ∙ (given_so_far stream taken_lines events s.at ∙ sym (append-nil (gives (events ++ ReadLine (taken_text taken_line) ∷ [])) ∙ read_gives (taken_text taken_line) events));
    }

-- or given
pub line_more : (stream : List ℕ) (taken_lines : List TakenLine) (taken_line : TakenLine) (events : List Event) → AreTaken stream none_counted (taken_lines ++ taken_line ∷ []) → passed_in (taken_line ∷ []) ≡ found_of taken_line ∷ [] → IsSafeEven stream taken_lines events → IsSafeEven stream (taken_lines ++ taken_line ∷ []) ((events ++ ReadLine (taken_text taken_line) ∷ []) ++ Given (taken_text taken_line) ∷ [])
line_more stream taken_lines taken_line events fits on s = record {
  safe = safe_more stream (events ++ ReadLine (taken_text taken_line) ∷ []) (Given (taken_text taken_line)) read_safe (plain_so_far stream (taken_lines ++ taken_line ∷ []) (events ++ ReadLine (taken_text taken_line) ∷ []) (Given (taken_text taken_line)) [] (given_plain (taken_text taken_line)) at);
  at = at;
}
  where
    all_given : map found_text (passed_in (taken_lines ++ taken_line ∷ [])) ≡ gives events ++ taken_text taken_line ∷ []
    all_given =
        ap (λ (hs : List FoundLine). map found_text hs) (passed_append taken_lines (taken_line ∷ []) ∙ ap (λ (hs : List FoundLine). passed_in taken_lines ++ hs) on) ∙ (map-append found_text (passed_in taken_lines) (found_of taken_line ∷ []) ∙ ap (λ (ls : List (List ℕ)). ls ++ taken_text taken_line ∷ []) (given_so_far stream taken_lines events s.at))

    read_at : IsAt stream (taken_lines ++ taken_line ∷ []) (events ++ ReadLine (taken_text taken_line) ∷ []) (taken_text taken_line ∷ [])
    read_at = record {
      fits = fits;
      read = read_lines taken_lines taken_line events s.at.read;
      given = all_given ∙ sym (ap (λ (ls : List (List ℕ)). ls ++ taken_text taken_line ∷ []) (read_gives (taken_text taken_line) events));
    }

    read_safe : IsSafeSync stream (events ++ ReadLine (taken_text taken_line) ∷ [])
    read_safe = safe_more stream events (ReadLine (taken_text taken_line)) s.safe (plain_so_far stream (taken_lines ++ taken_line ∷ []) events (ReadLine (taken_text taken_line)) (taken_text taken_line ∷ []) (read_plain (taken_text taken_line)) read_at)

    at : IsAt stream (taken_lines ++ taken_line ∷ []) ((events ++ ReadLine (taken_text taken_line) ∷ []) ++ Given (taken_text taken_line) ∷ []) []
    at = record {
      fits = fits;
      read = reads_more (events ++ ReadLine (taken_text taken_line) ∷ []) (Given (taken_text taken_line)) refl ∙ (append-nil (reads (events ++ ReadLine (taken_text taken_line) ∷ [])) ∙ read_lines taken_lines taken_line events s.at.read);
      given = all_given ∙ sym (append-nil (gives ((events ++ ReadLine (taken_text taken_line) ∷ []) ++ Given (taken_text taken_line) ∷ [])) ∙ (gives_more (events ++ ReadLine (taken_text taken_line) ∷ []) (Given (taken_text taken_line)) refl ∙ ap (λ (ls : List (List ℕ)). ls ++ taken_text taken_line ∷ []) (read_gives (taken_text taken_line) events)));
    }

-- a state is saved
pub save_more : (stream : List ℕ) (taken_lines : List TakenLine) (events : List Event) (text : List ℕ) → IsSafeEven stream taken_lines events → SavesNothing stream events text ⊎ SavesTaken stream events text → IsSafeEven stream taken_lines (events ++ Saved text ∷ [])
save_more stream taken_lines events text s saves = record {
  safe = safe_more stream events (Saved text) s.safe (record {
    given = gives_passed stream taken_lines (events ++ Saved text ∷ []) [] at;
    started = λ before plan e. absurd (other plan (more_last events before (Saved text) (Started plan) e));
    saved = λ before other e. moved before other (more_front events before (Saved text) (Saved other) e) (same other (more_last events before (Saved text) (Saved other) e));
  });
  at = at;
}
  where
    at : IsAt stream taken_lines (events ++ Saved text ∷ []) []
    at = stays_at stream taken_lines events (Saved text) refl refl refl s.at

    other : (plan : AttemptPlan) → Saved text ≡ Started plan → ⊥
    other plan e = cc

    same : (other : List ℕ) → Saved text ≡ Saved other → text ≡ other
    same other e = cc

    moved : (before : List Event) (other : List ℕ) → events ≡ before → text ≡ other → SavesNothing stream before other ⊎ SavesTaken stream before other
    moved before other e f = subst (λ (es : List Event). SavesNothing stream es other ⊎ SavesTaken stream es other) e (subst (λ (t : List ℕ). SavesNothing stream events t ⊎ SavesTaken stream events t) f saves)

-- before the first line

none_at : (stream : List ℕ) → IsAt stream [] [] []
none_at stream = record { fits = tt; read = refl; given = refl }

none_safe : (stream : List ℕ) → IsSafeEven stream [] []
none_safe stream = record { safe = safe; at = none_at stream }
  where
    so_far : IsSafeSoFar stream []
    so_far = record {
      given = gives_passed stream [] [] [] (none_at stream);
      started = λ before plan e. absurd (nil_more before (Started plan) e);
      saved = λ before text e. absurd (nil_more before (Saved text) e);
    }

    nothing_in : (front rest : List Event) → [] ≡ front ++ rest → front ≡ []
    nothing_in [] rest e = refl
    nothing_in (x ∷ front) rest e = absurd (cc)

    safe : (front rest : List Event) → [] ≡ front ++ rest → IsSafeSoFar stream front
    safe front rest e = subst (λ (es : List Event). IsSafeSoFar stream es) (sym (nothing_in front rest e)) so_far

-- the events before the start
abbrev opened_events : List ℕ → List Event
opened_events stream = Opened 1 0 (stream_plan stream ∷ []) ∷ Saved (store_text stream None) ∷ []

opened_safe : (stream : List ℕ) → IsSafeEven stream [] (opened_events stream)
opened_safe stream = save_more stream [] (Opened 1 0 (stream_plan stream ∷ []) ∷ []) (store_text stream None) (neutral_more stream [] [] (Opened 1 0 (stream_plan stream ∷ [])) opened_neutral (none_safe stream)) (inl (record { first = refl; text_is = refl }))
  where
    opened_neutral : IsNeutral (Opened 1 0 (stream_plan stream ∷ []))
    opened_neutral = record { plain = record { no_start = λ plan e. cc; no_save = λ t e. cc }; goes_on = λ events. refl; not_read = refl; not_given = refl }

first_at : (stream : List ℕ) → IsAt stream [] (first_events stream) []
first_at stream = record { fits = tt; read = refl; given = refl }

pub first_safe : (stream : List ℕ) → IsSafeEven stream [] (first_events stream)
first_safe stream = record {
  safe = safe_more stream (opened_events stream) (Started attempt_plan) (opened_safe stream).safe (record {
    given = gives_passed stream [] (first_events stream) [] (first_at stream);
    started = λ before plan e. moved before plan (more_front (opened_events stream) before (Started attempt_plan) (Started plan) e) (same plan (more_last (opened_events stream) before (Started attempt_plan) (Started plan) e));
    saved = λ before other e. absurd (no_save other (more_last (opened_events stream) before (Started attempt_plan) (Saved other) e));
  });
  at = first_at stream;
}
  where
    same : (plan : AttemptPlan) → Started attempt_plan ≡ Started plan → attempt_plan ≡ plan
    same plan e = cc

    no_save : (other : List ℕ) → Started attempt_plan ≡ Saved other → ⊥
    no_save other e = cc

    moved : (before : List Event) (plan : AttemptPlan) → opened_events stream ≡ before → attempt_plan ≡ plan → StartsSafely stream before plan
    moved before plan e f = subst (λ (es : List Event). StartsSafely stream es plan) e (subst (λ (p : AttemptPlan). StartsSafely stream (opened_events stream) p) f (record { held = None; stored = refl; states = refl }))

-- what stands in the attempt behind the lines that were taken

-- events without a start
abbrev HasNoStart : List Event → Type 0
HasNoStart [] = Unit {0}
HasNoStart (Started plan ∷ events) = ⊥
HasNoStart (event ∷ events) = HasNoStart events

attempt_behind : (before events : List Event) → HasNoStart events → fold attempt_after before events ≡ before ++ events
attempt_behind before [] none = sym (append-nil before)
attempt_behind before (Started plan ∷ events) none = absurd none
attempt_behind before (event ∷ events) none = attempt_behind (before ++ event ∷ []) events none ∙ append_assoc before (event ∷ []) events

no_start_append : (events more : List Event) → HasNoStart events → HasNoStart more → HasNoStart (events ++ more)
no_start_append [] more a b = b
no_start_append (Started plan ∷ events) more a b = absurd a
no_start_append (event ∷ events) more a b = no_start_append events more a b

taken_start_nothing : (stream : List ℕ) (counted : Counted) (taken_lines : List TakenLine) → HasNoStart (all_taken_events stream counted taken_lines)
taken_start_nothing stream counted [] = tt
taken_start_nothing stream counted (record_line line content ∷ taken_lines) = taken_start_nothing stream (counted_after counted (record_line line content)) taken_lines
taken_start_nothing stream counted (state_line line state echo ∷ taken_lines) = taken_start_nothing stream (counted_after counted (state_line line state echo)) taken_lines
taken_start_nothing stream counted (other_line line found ∷ taken_lines) = taken_start_nothing stream counted taken_lines

attempt_is : (stream : List ℕ) (events : List Event) → HasNoStart events → attempt (first_events stream ++ events) ≡ events
attempt_is stream events none = attempt_behind [] events none

-- the echoes of the states, and the records
abbrev echoes_of : List TakenLine → List (List ℕ)
echoes_of [] = []
echoes_of (record_line line content ∷ taken_lines) = echoes_of taken_lines
echoes_of (state_line line state echo ∷ taken_lines) = echo ∷ echoes_of taken_lines
echoes_of (other_line line found ∷ taken_lines) = echoes_of taken_lines

abbrev records_in : List TakenLine → List RecordMsg
records_in [] = []
records_in (record_line line content ∷ taken_lines) = content ∷ records_in taken_lines
records_in (state_line line state echo ∷ taken_lines) = records_in taken_lines
records_in (other_line line found ∷ taken_lines) = records_in taken_lines

taken_reads : (stream : List ℕ) (counted : Counted) (taken_lines : List TakenLine) → filter_map read_in (all_taken_events stream counted taken_lines) ≡ map taken_text taken_lines
taken_reads stream counted [] = refl
taken_reads stream counted (record_line line content ∷ taken_lines) = ap (λ (ls : List (List ℕ)). line ∷ ls) (taken_reads stream (counted_after counted (record_line line content)) taken_lines)
taken_reads stream counted (state_line line state echo ∷ taken_lines) = ap (λ (ls : List (List ℕ)). line ∷ ls) (taken_reads stream (counted_after counted (state_line line state echo)) taken_lines)
taken_reads stream counted (other_line line found ∷ taken_lines) = ap (λ (ls : List (List ℕ)). line ∷ ls) (taken_reads stream counted taken_lines)

taken_got : (stream : List ℕ) (counted : Counted) (taken_lines : List TakenLine) → filter_map got_in (all_taken_events stream counted taken_lines) ≡ echoes_of taken_lines
taken_got stream counted [] = refl
taken_got stream counted (record_line line content ∷ taken_lines) = taken_got stream (counted_after counted (record_line line content)) taken_lines
taken_got stream counted (state_line line state echo ∷ taken_lines) = ap (λ (ls : List (List ℕ)). echo ∷ ls) (taken_got stream (counted_after counted (state_line line state echo)) taken_lines)
taken_got stream counted (other_line line found ∷ taken_lines) = taken_got stream counted taken_lines

-- the rows of these records, numbered from here on
abbrev rows_from : ℕ → List RecordMsg → List RawRow
rows_from number [] = []
rows_from number (content ∷ contents) = row_of number content ∷ rows_from (number + 1) contents

taken_rows : (stream : List ℕ) (counted : Counted) (taken_lines : List TakenLine) → flat_map rows_of (all_taken_events stream counted taken_lines) ≡ rows_from counted.records (records_in taken_lines)
taken_rows stream counted [] = refl
taken_rows stream counted (record_line line content ∷ taken_lines) = ap (λ (rows : List RawRow). row_of counted.records content ∷ rows) (taken_rows stream (counted_after counted (record_line line content)) taken_lines)
taken_rows stream counted (state_line line state echo ∷ taken_lines) = taken_rows stream (counted_after counted (state_line line state echo)) taken_lines
taken_rows stream counted (other_line line found ∷ taken_lines) = taken_rows stream counted taken_lines

-- each echo takes its own state
takes_all : (stream : List ℕ) (counted : Counted) (taken_lines : List TakenLine) (before : List RecordMsg) → AreTaken stream counted taken_lines → Takes (echoes_of taken_lines) (states_behind before (passed_in taken_lines)) (states_behind before (passed_in taken_lines))
takes_all stream counted [] before are = refl
takes_all stream counted (record_line line content ∷ taken_lines) before are = takes_all stream (counted_after counted (record_line line content)) taken_lines (before ++ content ∷ []) are.1
takes_all stream counted (state_line line state echo ∷ taken_lines) before are =
    let behind = states_behind before (passed_in taken_lines) in
    ([], record { state = state; before = before }, behind, behind, refl, tt, (counted.since, are.0.echoed), refl, takes_all stream (counted_after counted (state_line line state echo)) taken_lines before are.1)
takes_all stream counted (other_line line found ∷ taken_lines) before are = takes_all stream counted taken_lines before are.1

states_behind-state : (before : List RecordMsg) (taken_lines : List TakenLine) (line : List ℕ) (state : StateMsg) (echo : List ℕ) → states_behind before (passed_in (taken_lines ++ state_line line state echo ∷ [])) ≡ states_behind before (passed_in taken_lines) ++ record { state = state; before = before ++ records_in taken_lines } ∷ []
states_behind-state before [] line state echo = ap (λ (contents : List RecordMsg). record { state = state; before = contents } ∷ []) (sym (append-nil before))
states_behind-state before (record_line l content ∷ taken_lines) line state echo =
    states_behind-state (before ++ content ∷ []) taken_lines line state echo ∙ ap (λ (contents : List RecordMsg). states_behind (before ++ content ∷ []) (passed_in taken_lines) ++ record { state = state; before = contents } ∷ []) (append_assoc before (content ∷ []) (records_in taken_lines))
states_behind-state before (state_line l other e ∷ taken_lines) line state echo = ap (λ (states : List ReadState). record { state = other; before = before } ∷ states) (states_behind-state before taken_lines line state echo)
states_behind-state before (other_line l found ∷ taken_lines) line state echo = states_behind-state before taken_lines line state echo

-- each record stands among the rows under its number
each_row : (rows : List RawRow) (state : StateMsg) (number : ℕ) (contents : List RecordMsg) → ((row : RawRow) → Contains (rows_from number contents) row → Contains rows row) → AllByRecursion (λ numbered. Covers state numbered.1 → Contains rows (row_of numbered.0 numbered.1)) (enumerate_from number contents)
each_row rows state number [] has = tt
each_row rows state number (content ∷ contents) has = (
  λ covers. has (row_of number content) (Contains-append_left (row_of number content ∷ []) (rows_from (number + 1) contents) (row_of number content) (here (row_of number content))),
  each_row rows state (number + 1) contents (λ row within. has row (Contains-append_right (row_of number content ∷ []) (rows_from (number + 1) contents) row within)),
)
  where
    here : (row : RawRow) → Contains (row ∷ []) row
    here row = search rules

-- a state's line, up to its echo
abbrev front_of_state : List ℕ → List ℕ → List Event
front_of_state line echo = ReadLine line ∷ Given line ∷ Took line ∷ Emitted echo ∷ Got echo ∷ []

-- the text saves the state that the last echo takes, and the records before it stand committed
-- the taken_lines with a state behind them
abbrev and_state : List TakenLine → List ℕ → StateMsg → List ℕ → List TakenLine
and_state taken_lines line state echo = taken_lines ++ state_line line state echo ∷ []

saves_state : (stream line echo : List ℕ) (taken_lines : List TakenLine) (state : StateMsg) → AreTaken stream none_counted taken_lines → FitsState stream (counted_through none_counted taken_lines).since line state echo → SavesTaken stream (first_events stream ++ (all_taken_events stream none_counted taken_lines ++ front_of_state line echo)) (store_text stream (Some state.object))
saves_state stream line echo taken_lines state are fits = record {
  passed = passed_in (and_state taken_lines line state echo);
  are = subst (λ (ls : List (List ℕ)). ArePassed stream ls (passed_in (and_state taken_lines line state echo))) (sym read) (are_passed stream none_counted (and_state taken_lines line state echo) are_all);
  taken = states_behind [] (passed_in taken_lines);
  last = record { state = state; before = records_in taken_lines };
  takes = subst (λ (ls : List (List ℕ)). Takes ls (states_behind [] (passed_in (and_state taken_lines line state echo))) (states_behind [] (passed_in taken_lines) ++ record { state = state; before = records_in taken_lines } ∷ [])) (sym got) (subst (λ (ss : List ReadState). Takes (echoes_of (and_state taken_lines line state echo)) (states_behind [] (passed_in (and_state taken_lines line state echo))) ss) states (takes_all stream none_counted (and_state taken_lines line state echo) [] are_all));
  text_is = refl;
  committed = each_row (flat_map rows_of (attempt (first_events stream ++ (all_taken_events stream none_counted taken_lines ++ front_of_state line echo)))) state 0 (records_in taken_lines) (λ row within. subst (λ (rows : List RawRow). Contains rows row) (sym rows_are) within);
}
  where
    are_all : AreTaken stream none_counted (taken_lines ++ state_line line state echo ∷ [])
    are_all = AreTaken-more stream none_counted taken_lines (state_line line state echo) are fits

    attempt_events : attempt (first_events stream ++ (all_taken_events stream none_counted taken_lines ++ front_of_state line echo)) ≡ all_taken_events stream none_counted taken_lines ++ front_of_state line echo
    attempt_events = attempt_is stream (all_taken_events stream none_counted taken_lines ++ front_of_state line echo) (no_start_append (all_taken_events stream none_counted taken_lines) (front_of_state line echo) (taken_start_nothing stream none_counted taken_lines) tt)

    read : filter_map read_in (attempt (first_events stream ++ (all_taken_events stream none_counted taken_lines ++ front_of_state line echo))) ≡ map taken_text (taken_lines ++ state_line line state echo ∷ [])
    read =
        ap (λ (es : List Event). filter_map read_in es) attempt_events ∙ (filter_map-append read_in (all_taken_events stream none_counted taken_lines) (front_of_state line echo) ∙ (ap (λ (ls : List (List ℕ)). ls ++ line ∷ []) (taken_reads stream none_counted taken_lines) ∙ sym (map-append taken_text taken_lines (state_line line state echo ∷ []))))

    got : filter_map got_in (attempt (first_events stream ++ (all_taken_events stream none_counted taken_lines ++ front_of_state line echo))) ≡ echoes_of (taken_lines ++ state_line line state echo ∷ [])
    got =
        ap (λ (es : List Event). filter_map got_in es) attempt_events ∙ (filter_map-append got_in (all_taken_events stream none_counted taken_lines) (front_of_state line echo) ∙ (ap (λ (ls : List (List ℕ)). ls ++ echo ∷ []) (taken_got stream none_counted taken_lines) ∙ sym (echoes_more taken_lines)))
      where
        echoes_more : (rs : List TakenLine) → echoes_of (rs ++ state_line line state echo ∷ []) ≡ echoes_of rs ++ echo ∷ []
        echoes_more [] = refl
        echoes_more (record_line l content ∷ rs) = echoes_more rs
        echoes_more (state_line l s e ∷ rs) = ap (λ (ls : List (List ℕ)). e ∷ ls) (echoes_more rs)
        echoes_more (other_line l found ∷ rs) = echoes_more rs

    states : states_behind [] (passed_in (taken_lines ++ state_line line state echo ∷ [])) ≡ states_behind [] (passed_in taken_lines) ++ record { state = state; before = records_in taken_lines } ∷ []
    states = states_behind-state [] taken_lines line state echo

    rows_are : flat_map rows_of (attempt (first_events stream ++ (all_taken_events stream none_counted taken_lines ++ front_of_state line echo))) ≡ rows_from 0 (records_in taken_lines)
    rows_are =
        ap (λ (es : List Event). flat_map rows_of es) attempt_events ∙ (flat_map-append rows_of (all_taken_events stream none_counted taken_lines) (front_of_state line echo) ∙ (append-nil (flat_map rows_of (all_taken_events stream none_counted taken_lines)) ∙ taken_rows stream none_counted taken_lines))

-- one line more, behind those that were taken
record_more : (stream line : List ℕ) (taken_lines : List TakenLine) (events : List Event) (number : ℕ) (content : RecordMsg) → AreTaken stream none_counted (taken_lines ++ record_line line content ∷ []) → IsSafeEven stream taken_lines events → IsSafeEven stream (taken_lines ++ record_line line content ∷ []) (events ++ record_events line number content)
record_more stream line taken_lines events number content fits s =
    subst (λ (es : List Event). IsSafeEven stream (taken_lines ++ record_line line content ∷ []) es) regrouped (neutral_more stream (taken_lines ++ record_line line content ∷ []) (((events ++ ReadLine line ∷ []) ++ Given line ∷ []) ++ Took line ∷ []) (Committed 0 (row_of number content ∷ [])) (committed_neutral 0 (row_of number content ∷ [])) (neutral_more stream (taken_lines ++ record_line line content ∷ []) ((events ++ ReadLine line ∷ []) ++ Given line ∷ []) (Took line) (took_neutral line) (line_more stream taken_lines (record_line line content) events fits refl s)))
  where
    regrouped : (((events ++ ReadLine line ∷ []) ++ Given line ∷ []) ++ Took line ∷ []) ++ Committed 0 (row_of number content ∷ []) ∷ [] ≡ events ++ record_events line number content
    regrouped = simp append_assoc

state_more : (stream line echo : List ℕ) (taken_lines : List TakenLine) (events : List Event) (state : StateMsg) → AreTaken stream none_counted (and_state taken_lines line state echo) → IsSafeEven stream taken_lines events → SavesTaken stream (events ++ front_of_state line echo) (store_text stream (Some state.object)) → IsSafeEven stream (and_state taken_lines line state echo) (events ++ state_events stream line state.object echo)
state_more stream line echo taken_lines events state fits s saves =
    subst (λ (es : List Event). IsSafeEven stream (and_state taken_lines line state echo) es) ended (save_more stream (and_state taken_lines line state echo) (events ++ front_of_state line echo) (store_text stream (Some state.object)) (subst (λ (es : List Event). IsSafeEven stream (and_state taken_lines line state echo) es) regrouped got) (inr saves))
  where
    got : IsSafeEven stream (and_state taken_lines line state echo) (((((events ++ ReadLine line ∷ []) ++ Given line ∷ []) ++ Took line ∷ []) ++ Emitted echo ∷ []) ++ Got echo ∷ [])
    got = neutral_more stream (and_state taken_lines line state echo) ((((events ++ ReadLine line ∷ []) ++ Given line ∷ []) ++ Took line ∷ []) ++ Emitted echo ∷ []) (Got echo) (got_neutral echo) (neutral_more stream (and_state taken_lines line state echo) (((events ++ ReadLine line ∷ []) ++ Given line ∷ []) ++ Took line ∷ []) (Emitted echo) (emitted_neutral echo) (neutral_more stream (and_state taken_lines line state echo) ((events ++ ReadLine line ∷ []) ++ Given line ∷ []) (Took line) (took_neutral line) (line_more stream taken_lines (state_line line state echo) events fits refl s)))

    regrouped : ((((events ++ ReadLine line ∷ []) ++ Given line ∷ []) ++ Took line ∷ []) ++ Emitted echo ∷ []) ++ Got echo ∷ [] ≡ events ++ front_of_state line echo
    regrouped = simp append_assoc

    ended : (events ++ front_of_state line echo) ++ Saved (store_text stream (Some state.object)) ∷ [] ≡ events ++ state_events stream line state.object echo
    ended = append_assoc events (front_of_state line echo) (Saved (store_text stream (Some state.object)) ∷ [])

round_more : (stream : List ℕ) (taken_lines : List TakenLine) (taken_line : TakenLine) → AreTaken stream none_counted taken_lines → Fits stream (counted_through none_counted taken_lines) taken_line → IsSafeEven stream taken_lines (first_events stream ++ all_taken_events stream none_counted taken_lines) → IsSafeEven stream (taken_lines ++ taken_line ∷ []) ((first_events stream ++ all_taken_events stream none_counted taken_lines) ++ taken_events stream (counted_through none_counted taken_lines) taken_line)
round_more stream taken_lines (record_line line content) are fits s = record_more stream line taken_lines (first_events stream ++ all_taken_events stream none_counted taken_lines) (counted_through none_counted taken_lines).records content (AreTaken-more stream none_counted taken_lines (record_line line content) are fits) s
round_more stream taken_lines (state_line line state echo) are fits s =
    state_more stream line echo taken_lines (first_events stream ++ all_taken_events stream none_counted taken_lines) state (AreTaken-more stream none_counted taken_lines (state_line line state echo) are fits) s (subst (λ (es : List Event). SavesTaken stream es (store_text stream (Some state.object))) (sym (append_assoc (first_events stream) (all_taken_events stream none_counted taken_lines) (front_of_state line echo))) (saves_state stream line echo taken_lines state are fits))
round_more stream taken_lines (other_line line found) are fits s = other_more stream taken_lines (other_line line found) (first_events stream ++ all_taken_events stream none_counted taken_lines) (AreTaken-more stream none_counted taken_lines (other_line line found) are fits) refl s

-- all lines that were taken
taken_safe : (stream : List ℕ) (done todo : List TakenLine) → AreTaken stream none_counted done → AreTaken stream (counted_through none_counted done) todo → IsSafeEven stream done (first_events stream ++ all_taken_events stream none_counted done) → IsSafeEven stream (done ++ todo) (first_events stream ++ all_taken_events stream none_counted (done ++ todo))
taken_safe stream done [] are rest s = subst (λ (rs : List TakenLine). IsSafeEven stream rs (first_events stream ++ all_taken_events stream none_counted rs)) (sym (append-nil done)) s
taken_safe stream done (taken_line ∷ todo) are rest s =
    subst (λ (rs : List TakenLine). IsSafeEven stream rs (first_events stream ++ all_taken_events stream none_counted rs)) (append_assoc done (taken_line ∷ []) todo) (taken_safe stream (done ++ taken_line ∷ []) todo (AreTaken-more stream none_counted done taken_line are rest.0) (subst (λ (c : Counted). AreTaken stream c todo) (sym (counted_through-more none_counted done taken_line)) rest.1) one_more)
  where
    one_more : IsSafeEven stream (done ++ taken_line ∷ []) (first_events stream ++ all_taken_events stream none_counted (done ++ taken_line ∷ []))
    one_more =
        subst (λ (es : List Event). IsSafeEven stream (done ++ taken_line ∷ []) es) (append_assoc (first_events stream) (all_taken_events stream none_counted done) (taken_events stream (counted_through none_counted done) taken_line) ∙ ap (λ (es : List Event). first_events stream ++ es) (sym (all_taken_events-more stream none_counted done taken_line))) (round_more stream done taken_line are rest.0 s)

-- the end of the attempt
neutral_read_end : IsNeutral ReadEnd
neutral_read_end = record { plain = record { no_start = λ plan e. cc; no_save = λ text e. cc }; goes_on = λ events. refl; not_read = refl; not_given = refl }

neutral_closed : IsNeutral Closed
neutral_closed = record { plain = record { no_start = λ plan e. cc; no_save = λ text e. cc }; goes_on = λ events. refl; not_read = refl; not_given = refl }

neutral_took_end : IsNeutral TookEnd
neutral_took_end = record { plain = record { no_start = λ plan e. cc; no_save = λ text e. cc }; goes_on = λ events. refl; not_read = refl; not_given = refl }

neutral_got_end : IsNeutral GotEnd
neutral_got_end = record { plain = record { no_start = λ plan e. cc; no_save = λ text e. cc }; goes_on = λ events. refl; not_read = refl; not_given = refl }

neutral_ended : (ends : Codes) → IsNeutral (Ended ends)
neutral_ended ends = record { plain = record { no_start = λ plan e. cc; no_save = λ text e. cc }; goes_on = λ events. refl; not_read = refl; not_given = refl }

abbrev both_ended : Codes
both_ended = record { source = Some (exit.Code 0); dest = Some (exit.Code 0) }

ending_safe : (stream : List ℕ) (taken_lines : List TakenLine) (events : List Event) (is_over : Bool) → IsSafeEven stream taken_lines events → IsSafeEven stream taken_lines (events ++ ending_events is_over)
ending_safe stream taken_lines events true s =
    subst (λ (es : List Event). IsSafeEven stream taken_lines es) regrouped (neutral_more stream taken_lines ((((events ++ ReadEnd ∷ []) ++ Closed ∷ []) ++ TookEnd ∷ []) ++ GotEnd ∷ []) (Ended both_ended) (neutral_ended both_ended) (neutral_more stream taken_lines (((events ++ ReadEnd ∷ []) ++ Closed ∷ []) ++ TookEnd ∷ []) GotEnd neutral_got_end (neutral_more stream taken_lines ((events ++ ReadEnd ∷ []) ++ Closed ∷ []) TookEnd neutral_took_end (neutral_more stream taken_lines (events ++ ReadEnd ∷ []) Closed neutral_closed (neutral_more stream taken_lines events ReadEnd neutral_read_end s)))))
  where
    regrouped : ((((events ++ ReadEnd ∷ []) ++ Closed ∷ []) ++ TookEnd ∷ []) ++ GotEnd ∷ []) ++ Ended both_ended ∷ [] ≡ events ++ last_events
    regrouped = simp append_assoc
ending_safe stream taken_lines events false s = subst (λ (es : List Event). IsSafeEven stream taken_lines es) (sym (append-nil events)) s

-- the events of a world that is reached are a safe sync
pub reached_safe : (world : World) → IsReached world → IsSafeSync world.stream world.events
reached_safe world r =
    subst (λ (es : List Event). IsSafeSync world.stream es) (sym r.events) (ending_safe world.stream r.taken_lines (first_events world.stream ++ all_taken_events world.stream none_counted r.taken_lines) world.is_over (taken_safe world.stream [] r.taken_lines tt r.fits started)).safe
  where
    started : IsSafeEven world.stream [] (first_events world.stream ++ [])
    started = subst (λ (es : List Event). IsSafeEven world.stream [] es) (sym (append-nil (first_events world.stream))) (first_safe world.stream)
