-- A safe destination, load by load and event by event: so what holds of a trace holds in every prefix of it.
use Rattle.std.specs.Prelude.{◌≡◌, ℕ, List, [], ◌∷◌, filter, length, slice_get, Bool, true, Some}
use Rattle.std.specs.List.{AllByRecursion}
use Rattle.outside.specs.declared.event.Event.{Event}
use Rattle.outside.specs.declared.event.RawRow.{RawRow}
use Rattle.catalog.specs.declared.stream.ConfStream.{ConfStream}
use Rattle.load_rules.specs.Prefixes.{EachFits}
use Rattle.load_rules.specs.Lines.{Reading}
use Rattle.load_rules.specs.Taken.{Entry, entries, LaneState, states, of_lane, covered, is_in, without}
use Rattle.load_rules.specs.Loads.{Opening, Load, loads, unopened}
use Rattle.load_rules.specs.Rows.{IsRowOf}
use Rattle.load_rules.specs.Acts.{Act, Takes, Ends, Commits, Echoes, Turns, AreActs, taken, committed, echoed}

-- the records that were taken and are not committed
abbrev pub uncommitted : List Act → List Entry
uncommitted acts = without (committed acts) (entries (taken acts))

-- each row is that of its record, in order
abbrev pub AreRowsOf : List ConfStream → Opening → ℕ → List Entry → List RawRow → Type 0
AreRowsOf streams opening number [] [] = Unit {0}
AreRowsOf streams opening number (entry ∷ more) (row ∷ rows) = IsRowOf streams opening number entry row × AreRowsOf streams opening number more rows
AreRowsOf streams opening number [] (row ∷ rows) = ⊥
AreRowsOf streams opening number (entry ∷ more) [] = ⊥

-- The rows of a commit are those of records of its stream that were taken earlier, in order of their sequences, and of which none
-- is committed yet: so no sequence is committed twice.
pub record CommitFits (streams : List ConfStream) (opening : Opening) (before : List Act) (number : ℕ) (rows : List RawRow) : Type 0 where
  pub chosen : Entry → Bool
  pub are : AreRowsOf streams opening number (filter chosen (uncommitted before)) rows

-- The k-th line that is emitted for a lane is the echo of the lane's k-th taken state, with its count; and each record
-- before that state which it covers is committed.
pub record EchoFits (before : List Act) (state : LaneState) : Type 0 where
  pub next : slice_get (of_lane state.lane (states (taken before))) (length (echoed state.lane before)) ≡ Some state
  pub committed_are : AllByRecursion (λ seq. is_in seq (committed before) ≡ true) (covered state)

-- an event may come behind these of its load; what a merge or a showing has to fit is said of the store's tables
abbrev pub Fits : List ConfStream → Opening → List Act → Act → Type 0
Fits streams opening before (Takes line) = Unit {0}
Fits streams opening before Ends = Unit {0}
Fits streams opening before (Commits number rows) = CommitFits streams opening before number rows
Fits streams opening before (Echoes state) = EchoFits before state
Fits streams opening before Turns = Unit {0}

pub record IsSafeLoad (streams : List ConfStream) (read : Reading) (load : Load) : Type 0 where
  pub acts : List Act
  pub are : AreActs read acts load.events
  pub fit : EachFits (Fits streams load.opening) [] acts

-- each load is safe, and a store does nothing before its first
pub record IsSafeDest (streams : List ConfStream) (read : Reading) (trace : List Event) : Type 0 where
  pub opened : unopened trace ≡ []
  pub each : AllByRecursion (IsSafeLoad streams read) (loads trace)
