-- An honest attempt: where a state comes back and takes a given one, the records before that stand committed, each as its own row.
-- It speaks of the given lines alone, so it holds whatever the link's caller offers.
use Rattle.std.specs.Prelude.{◌≡◌, ℕ, List, [], ◌∷◌, true, Contains}
use Rattle.std.specs.List.{AllByRecursion}
use Rattle.outside.specs.declared.event.Event.{Event}
use Rattle.outside.specs.declared.event.Event.TheVariants.{Committed, Got}
use Rattle.outside.specs.declared.event.RawRow.{RawRow}
use Rattle.catalog.specs.declared.stream.ConfStream.{ConfStream}
use Rattle.load_rules.specs.Prefixes.{EachFits}
use Rattle.load_rules.specs.Lines.{Reading, line_read}
use Rattle.load_rules.specs.Taken.{Entry, entries, LaneState, states, covers}
use Rattle.load_rules.specs.Loads.{Load, loads}
use Rattle.load_rules.specs.Rows.{IsRowOf}
use Rattle.load_rules.specs.Attempts.{Attempt, attempts, attempt_events, TakesState}

-- the row of a record stands in a commit of this load
pub record IsCommittedIn (streams : List ConfStream) (load : Load) (entry : Entry) : Type 0 where
  pub number : ℕ
  pub rows : List RawRow
  pub commit : Contains load.events (Committed number rows)
  pub row : RawRow
  pub among : Contains rows row
  pub is : IsRowOf streams load.opening number entry row

-- it does in one of the loads that these events opened
pub record IsCommitted (streams : List ConfStream) (events : List Event) (entry : Entry) : Type 0 where
  pub load : Load
  pub among : Contains (loads events) load
  pub stands : IsCommittedIn streams load entry

-- A state comes back behind these events of its attempt. Where it takes a given one, each record given before that which it covers
-- stands committed in the attempt, with its number among the attempt's given records as sequence.
abbrev pub GotFits : List ConfStream → Reading → List Event → LaneState → Type 0
GotFits streams read before back =
    (last : LaneState) → TakesState read before back last → AllByRecursion (λ entry. covers last.lane entry.content.id ≡ true → IsCommitted streams before entry) (entries last.before)

-- a line may come back behind these events: where it is a state of a lane, it fits
abbrev pub HonestFits : List ConfStream → Reading → List Event → Event → Type 0
HonestFits streams read before (Got text) = AllByRecursion (GotFits streams read before) (states (line_read read text ∷ []))
HonestFits streams read before event = Unit {0}

-- each event of the attempt, behind those before it
abbrev pub IsHonestAttempt : List ConfStream → Reading → Attempt → Type 0
IsHonestAttempt streams read attempt = EachFits (HonestFits streams read) [] attempt.events

abbrev pub IsHonest : List ConfStream → Reading → List Event → Type 0
IsHonest streams read trace = AllByRecursion (IsHonestAttempt streams read) (attempts trace)

-- The events that are added behind a trace are honest, whatever was before: a line that comes back is judged in its attempt.
abbrev pub AddedFits : List ConfStream → Reading → List Event → Event → Type 0
AddedFits streams read before event = HonestFits streams read (attempt_events (attempts before)) event

abbrev pub AddsHonestly : List ConfStream → Reading → List Event → List Event → Type 0
AddsHonestly streams read before more = EachFits (AddedFits streams read) before more
