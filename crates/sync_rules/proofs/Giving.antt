-- What an attempt was given are the first of the lines that are to be given.
use Rattle.std.proofs.Common.{◌≡◌, ℕ, List, [], ◌∷◌, ◌++◌, Bool, false, Option, None, Some, refl, sym, ◌∙◌, ap, subst, append_assoc}
use Rattle.std.specs.Prelude.{map, filter, filter_map, is_none, option_map, if◌then◌else◌}
use Rattle.std.proofs.lemmas.List.{append-nil, map-append}
use Rattle.std.proofs.lemmas.List.Elements.{filter-append, filter_map-append}
use Rattle.std.proofs.lemmas.List.Sums.{fold-append}
use Rattle.basics.specs.declared.stream.StreamId.{StreamId}
use Rattle.outside.specs.Event.{read_in, given_in, read_over, read_over_after}
use Rattle.outside.specs.declared.event.Event.{Event}
use Rattle.outside.specs.declared.event.Event.TheVariants.{Opened, Took, TookEnd, Committed, Emitted, Merged, Shown, Started, ReadLine, ReadEnd, Given, Closed, Got, GotEnd, Saved, Ended}
use Rattle.catalog.specs.Reading.{ids_of}
use Rattle.catalog.specs.declared.stream.ConfStream.{ConfStream}
use Rattle.load_rules.specs.Prefixes.{IsPrefix}
use Rattle.load_rules.specs.Lines.{Line, Reading, line_read, lines_read, passes}
use Rattle.load_rules.specs.Taken.{LaneState}
use Rattle.load_rules.specs.Finished.{last_status}
use Rattle.load_rules.specs.Attempts.{reads, gives, passed}
use Rattle.sync_rules.specs.Sync.{Running, Sync, no_sync, texts, completion, to_give, and_event}
use Rattle.sync_rules.specs.Steps.{Step, InAttempt, ReadsOn, GivesNext, Gets}
use Rattle.sync_rules.specs.SafeSync.{Asked, nothing, Goes, IsAsked}
use Rattle.sync_rules.specs.Laws.{GivenArePassed}

-- what is to be given, by the lines that were read and whether that is over
abbrev pub give_of : List StreamId → Reading → List (List ℕ) → Bool → List (List ℕ)
give_of ids read lines over =
    texts (filter (λ line. passes ids line.found) (lines_read read lines)) ++ (if over then map completion (filter (λ id. is_none (last_status id (lines_read read lines))) ids) else [])

reads-one : (events : List Event) (event : Event) → reads (events ++ event ∷ []) ≡ reads events ++ filter_map read_in (event ∷ [])
reads-one events event = filter_map-append read_in events (event ∷ [])

pub gives-one : (events : List Event) (event : Event) → gives (events ++ event ∷ []) ≡ gives events ++ filter_map given_in (event ∷ [])
gives-one events event = filter_map-append given_in events (event ∷ [])

over-one : (events : List Event) (event : Event) → read_over (events ++ event ∷ []) ≡ read_over_after (read_over events) event
over-one events event = fold-append read_over_after false events (event ∷ [])

abbrev pub GivesFront : List StreamId → Reading → List Event → Type 0
GivesFront ids read events = IsPrefix (gives events) (to_give ids read events)

-- an event that neither reads nor gives
front_same : (ids : List StreamId) (read : Reading) (events : List Event) (event : Event) → filter_map read_in (event ∷ []) ≡ [] → filter_map given_in (event ∷ []) ≡ [] → read_over_after (read_over events) event ≡ read_over events → GivesFront ids read events → GivesFront ids read (events ++ event ∷ [])
front_same ids read events event no_line no_given same front = (
  front.0,
  ap (λ lines. give_of ids read lines (read_over (events ++ event ∷ []))) (reads-one events event ∙ (ap (λ more. reads events ++ more) no_line ∙ append-nil (reads events)))
      ∙ (ap (give_of ids read (reads events)) (over-one events event ∙ same) ∙ (front.1 ∙ ap (λ list. list ++ front.0) (sym (gives-one events event ∙ (ap (λ more. gives events ++ more) no_given ∙ append-nil (gives events)))))),
)

texts-passed : (ids : List StreamId) (read : Reading) (lines : List (List ℕ)) (text : List ℕ)
    → texts (filter (λ line. passes ids line.found) (lines_read read (lines ++ text ∷ []))) ≡ texts (filter (λ line. passes ids line.found) (lines_read read lines)) ++ texts (filter (λ line. passes ids line.found) (line_read read text ∷ []))
texts-passed ids read lines text =
    ap (λ list. texts (filter (λ line. passes ids line.found) list)) (map-append (line_read read) lines (text ∷ []))
    ∙ (ap texts (filter-append (λ line. passes ids line.found) (lines_read read lines) (line_read read text ∷ []))
    ∙ map-append (λ (line : Line). line.text) (filter (λ line. passes ids line.found) (lines_read read lines)) (filter (λ line. passes ids line.found) (line_read read text ∷ [])))

-- a line is read while the output goes on
front_read : (ids : List StreamId) (read : Reading) (events : List Event) (text : List ℕ) → read_over events ≡ false → GivesFront ids read events → GivesFront ids read (events ++ ReadLine text ∷ [])
front_read ids read events text going front =
    let more = texts (filter (λ line. passes ids line.found) (line_read read text ∷ [])) in
    let before : to_give ids read events ≡ texts (passed ids read events) = ap (give_of ids read (reads events)) going ∙ append-nil (texts (passed ids read events)) in (
      front.0 ++ more,
      ap (λ lines. give_of ids read lines (read_over (events ++ ReadLine text ∷ []))) (reads-one events (ReadLine text))
          ∙ (ap (give_of ids read (reads events ++ text ∷ [])) (over-one events (ReadLine text) ∙ going)
          ∙ (append-nil (texts (filter (λ line. passes ids line.found) (lines_read read (reads events ++ text ∷ []))))
          ∙ (texts-passed ids read (reads events) text
          ∙ (ap (λ list. list ++ more) (sym before ∙ front.1)
          ∙ (append_assoc (gives events) front.0 more
          ∙ ap (λ list. list ++ (front.0 ++ more)) (sym (gives-one events (ReadLine text) ∙ append-nil (gives events)))))))),
    )

-- the output has ended
front_end : (ids : List StreamId) (read : Reading) (events : List Event) → read_over events ≡ false → GivesFront ids read events → GivesFront ids read (events ++ ReadEnd ∷ [])
front_end ids read events going front =
    let last = map completion (filter (λ id. is_none (last_status id (lines_read read (reads events)))) ids) in
    let before : to_give ids read events ≡ texts (passed ids read events) = ap (give_of ids read (reads events)) going ∙ append-nil (texts (passed ids read events)) in (
      front.0 ++ last,
      ap (λ lines. give_of ids read lines (read_over (events ++ ReadEnd ∷ []))) (reads-one events ReadEnd ∙ append-nil (reads events))
          ∙ (ap (give_of ids read (reads events)) (over-one events ReadEnd)
          ∙ (ap (λ list. list ++ last) (sym before ∙ front.1)
          ∙ (append_assoc (gives events) front.0 last
          ∙ ap (λ list. list ++ (front.0 ++ last)) (sym (gives-one events ReadEnd ∙ append-nil (gives events)))))),
    )

-- a line is given
front_given : (ids : List StreamId) (read : Reading) (events : List Event) (text : List ℕ) → IsPrefix (gives events ++ text ∷ []) (to_give ids read events) → GivesFront ids read (events ++ Given text ∷ [])
front_given ids read events text next = (
  next.0,
  ap (λ lines. give_of ids read lines (read_over (events ++ Given text ∷ []))) (reads-one events (Given text) ∙ append-nil (reads events))
      ∙ (ap (give_of ids read (reads events)) (over-one events (Given text)) ∙ (next.1 ∙ ap (λ list. list ++ next.0) (sym (gives-one events (Given text))))),
)

abbrev pub GivesWell : List StreamId → Reading → Option Running → Type 0
GivesWell ids read None = Unit {0}
GivesWell ids read (Some own) = GivesFront ids read own.events

well_same : (ids : List StreamId) (read : Reading) (event : Event) (own : Option Running) → filter_map read_in (event ∷ []) ≡ [] → filter_map given_in (event ∷ []) ≡ [] → ((over : Bool) → read_over_after over event ≡ over) → GivesWell ids read own → GivesWell ids read (option_map (and_event event) own)
well_same ids read event None no_line no_given same well = tt
well_same ids read event (Some own) no_line no_given same well = front_same ids read own.events event no_line no_given (same (read_over own.events)) well

well_read : (ids : List StreamId) (read : Reading) (text : List ℕ) (own : Option Running) → InAttempt own ReadsOn → GivesWell ids read own → GivesWell ids read (option_map (and_event (ReadLine text)) own)
well_read ids read text None fits well = tt
well_read ids read text (Some own) fits well = front_read ids read own.events text fits.1 well

well_end : (ids : List StreamId) (read : Reading) (own : Option Running) → InAttempt own ReadsOn → GivesWell ids read own → GivesWell ids read (option_map (and_event ReadEnd) own)
well_end ids read None fits well = tt
well_end ids read (Some own) fits well = front_end ids read own.events fits.1 well

well_given : (ids : List StreamId) (read : Reading) (text : List ℕ) (own : Option Running) → InAttempt own (GivesNext ids read text) → GivesWell ids read (option_map (and_event (Given text)) own)
well_given ids read text None fits = tt
well_given ids read text (Some own) fits = front_given ids read own.events text fits.1.next

attempt_of : {x y : Sync} → x ≡ y → x.attempt ≡ y.attempt
attempt_of e = ap (λ (it : Sync). it.attempt) e

gets_is : (read : Reading) (sync : Sync) (text : List ℕ) (now : Sync) (own : Option Running) → InAttempt own (Gets read sync text now) → now.attempt ≡ option_map (and_event (Got text)) sync.attempt
gets_is read sync text now None gets = absurd gets
gets_is read sync text now (Some attempt) gets = attempt_of gets.1.is

well_step : (streams : List ConfStream) (read : Reading) (P : LaneState → Type 0) (sync : Sync) (event : Event) (now : Sync) → Step streams read P sync event now → GivesWell (ids_of streams) read sync.attempt → GivesWell (ids_of streams) read now.attempt
well_step streams read P sync (Opened x y z) now step well = subst (GivesWell (ids_of streams) read) (sym (attempt_of step)) well
well_step streams read P sync (Took x) now step well = subst (GivesWell (ids_of streams) read) (sym (attempt_of step)) well
well_step streams read P sync TookEnd now step well = subst (GivesWell (ids_of streams) read) (sym (attempt_of step)) well
well_step streams read P sync (Committed x y) now step well = subst (GivesWell (ids_of streams) read) (sym (attempt_of step)) well
well_step streams read P sync (Emitted x) now step well = subst (GivesWell (ids_of streams) read) (sym (attempt_of step)) well
well_step streams read P sync (Merged x y z) now step well = subst (GivesWell (ids_of streams) read) (sym (attempt_of step)) well
well_step streams read P sync (Shown x y z) now step well = subst (GivesWell (ids_of streams) read) (sym (attempt_of step)) well
well_step streams read P sync (Started x) now step well = subst (GivesWell (ids_of streams) read) (sym (attempt_of step.1)) (to_give (ids_of streams) read [], refl)
well_step streams read P sync (ReadLine x) now step well = subst (GivesWell (ids_of streams) read) (sym (attempt_of step.1)) (well_read (ids_of streams) read x sync.attempt step.0 well)
well_step streams read P sync ReadEnd now step well = subst (GivesWell (ids_of streams) read) (sym (attempt_of step.1)) (well_end (ids_of streams) read sync.attempt step.0 well)
well_step streams read P sync (Given x) now step well = subst (GivesWell (ids_of streams) read) (sym (attempt_of step.1)) (well_given (ids_of streams) read x sync.attempt step.0)
well_step streams read P sync Closed now step well = subst (GivesWell (ids_of streams) read) (sym (attempt_of step.1)) (well_same (ids_of streams) read Closed sync.attempt refl refl (λ over. refl) well)
well_step streams read P sync (Got x) now step well = subst (GivesWell (ids_of streams) read) (sym (gets_is read sync x now sync.attempt step)) (well_same (ids_of streams) read (Got x) sync.attempt refl refl (λ over. refl) well)
well_step streams read P sync GotEnd now step well = subst (GivesWell (ids_of streams) read) (sym (attempt_of step.1)) (well_same (ids_of streams) read GotEnd sync.attempt refl refl (λ over. refl) well)
well_step streams read P sync (Saved x) now step well = subst (GivesWell (ids_of streams) read) (sym (attempt_of step.is)) (well_same (ids_of streams) read (Saved x) sync.attempt refl refl (λ over. refl) well)
well_step streams read P sync (Ended x) now step well = subst (GivesWell (ids_of streams) read) (sym (attempt_of step.1)) (well_same (ids_of streams) read (Ended x) sync.attempt refl refl (λ over. refl) well)

pub well_along : (streams : List ConfStream) (read : Reading) (asked : Asked) (before events : List Event) (sync now : Sync) → Goes streams read asked before sync events now → GivesWell (ids_of streams) read sync.attempt → GivesWell (ids_of streams) read now.attempt
well_along streams read asked before [] sync now goes well = subst (λ (it : Sync). GivesWell (ids_of streams) read it.attempt) (sym goes) well
well_along streams read asked before (event ∷ events) sync now (middle, step, rest) well =
    well_along streams read asked (before ++ event ∷ []) events middle now rest (well_step streams read (IsAsked streams asked before) sync event middle step well)

pub given_are_passed : GivenArePassed
given_are_passed streams read trace now attempt leads is = subst (GivesWell (ids_of streams) read) is (well_along streams read nothing [] trace no_sync now leads tt)
