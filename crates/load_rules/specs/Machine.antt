-- The machine behind a load, which may do its steps in any order and with any choice. It keeps a place for each record; what is
-- committed and what was echoed is read off the load. A commit brings its rows with it: they have the sequences of their records, and
-- are free in all else.
use Rattle.std.specs.Prelude.{◌≡◌, ℕ, ◌-◌, ◌==◌, List, [], ◌∷◌, ◌++◌, map, filter, filter_map, find, length, slice_get, Bool, true, false, ◌&&◌, if◌then◌else◌, nat_lt, Option, None, Some, Contains}
use Rattle.std.specs.List.{AllByRecursion, list_all}
use Rattle.basics.specs.declared.stream.StreamId.{StreamId}
use Rattle.outside.specs.Tables.{same_id}
use Rattle.outside.specs.declared.event.RawRow.{RawRow}
use Rattle.catalog.specs.declared.stream.ConfStream.{ConfStream}
use Rattle.load_rules.specs.Prefixes.{EachFits}
use Rattle.load_rules.specs.Lines.{Line, state_in}
use Rattle.load_rules.specs.Taken.{Entry, entries, entries_from, LaneState, state_of, covered, is_in}
use Rattle.load_rules.specs.Loads.{Opening}
use Rattle.load_rules.specs.Rows.{IsRowOf}
use Rattle.load_rules.specs.Acts.{Act, Takes, Ends, Commits, Echoes, Turns, taken, committed}
use Rattle.load_rules.specs.SafeDest.{AreRowsOf}

-- where a record is: in its stream's queue, sealed there or not, in a batch that is handed out, or committed
pub data Place : Type 0 where
  Queued : Place
  Sealed : Place
  Out : (batch : ℕ) → Place
  Done : Place

pub record Placed : Type 0 where
  pub entry : Entry
  pub place : Place

pub record Machine : Type 0 where
  -- what has happened in the load
  pub acts : List Act
  -- all records that were accepted, by sequence
  pub placed : List Placed
  -- the states that were accepted and not released, in order
  pub waiting : List LaneState

abbrev pub start : Machine
start = record { acts = []; placed = []; waiting = [] }

-- whatever is chosen next; a stream is named by its id
pub data Step : Type 0 where
  Accept : (line : Line) → Step
  End : Step
  Seal : (id : StreamId) (count : ℕ) → Step
  HandOut : (id : StreamId) (count batch : ℕ) → Step
  -- the records of a batch are committed by these rows
  Commit : (number : ℕ) (id : StreamId) (batch : ℕ) (rows : List RawRow) → Step
  TakeBack : (id : StreamId) (batch : ℕ) → Step
  Release : Step
  -- a merge, or a stream that is shown
  Turn : Step

abbrev pub queue : Entry → Placed
queue entry = record { entry = entry; place = Queued }

abbrev pub is_out : ℕ → Place → Bool
is_out batch (Out own) = own == batch
is_out batch Queued = false
is_out batch Sealed = false
is_out batch Done = false

abbrev pub is_sealed : Place → Bool
is_sealed Sealed = true
is_sealed Queued = false
is_sealed (Out batch) = false
is_sealed Done = false

abbrev pub is_queued : Place → Bool
is_queued Sealed = true
is_queued Queued = true
is_queued (Out batch) = false
is_queued Done = false

abbrev pub is_done : Place → Bool
is_done Done = true
is_done Queued = false
is_done Sealed = false
is_done (Out batch) = false

abbrev pub is_of : StreamId → Placed → Bool
is_of id placed = same_id id placed.entry.content.id

abbrev pub is_queued_of : StreamId → Placed → Bool
is_queued_of id placed = is_queued placed.place && is_of id placed

abbrev pub is_sealed_of : StreamId → Placed → Bool
is_sealed_of id placed = is_sealed placed.place && is_of id placed

abbrev pub is_in_batch : StreamId → ℕ → Placed → Bool
is_in_batch id batch placed = is_out batch placed.place && is_of id placed

abbrev pub put_in : Place → Placed → Placed
put_in place placed = record placed { place = place }

-- those that pass are put there
abbrev pub move : (Placed → Bool) → Place → List Placed → List Placed
move test place [] = []
move test place (placed ∷ more) = (if test placed then put_in place placed else placed) ∷ move test place more

-- the first so many that pass are put there
abbrev pub move_first : (Placed → Bool) → Place → ℕ → List Placed → List Placed
move_first test place count [] = []
move_first test place count (placed ∷ more) =
    if test placed && nat_lt 0 count then put_in place placed ∷ move_first test place (count - 1) more else placed ∷ move_first test place count more

abbrev pub entry_of : Placed → Entry
entry_of placed = placed.entry

abbrev pub in_batch : StreamId → ℕ → List Placed → List Entry
in_batch id batch placed = map entry_of (filter (is_in_batch id batch) placed)

-- all records before the state that it covers are committed
abbrev pub is_releasable : List Act → LaneState → Bool
is_releasable acts state = list_all (λ seq. is_in seq (committed acts)) (covered state)

abbrev pub without_first : {A : Type 0} → (A → Bool) → List A → List A
without_first test [] = []
without_first test (x ∷ xs) = if test x then xs else x ∷ without_first test xs

abbrev pub accepts : Machine → Line → Machine
accepts m line = record {
  acts = m.acts ++ Takes line ∷ [];
  placed = m.placed ++ map queue (entries_from (length m.placed) (line ∷ []));
  waiting = m.waiting ++ state_of (taken m.acts) (state_in line.found);
}

-- the rows have the sequences of these records, one for one
abbrev pub have_sequences : List RawRow → List Entry → Bool
have_sequences [] [] = true
have_sequences (row ∷ rows) (entry ∷ more) = row.seq == entry.seq && have_sequences rows more
have_sequences [] (entry ∷ more) = false
have_sequences (row ∷ rows) [] = false

abbrev pub commits : Machine → ℕ → StreamId → ℕ → List RawRow → Machine
commits m number id batch rows = record {
  acts = m.acts ++ Commits number rows ∷ [];
  placed = move (is_in_batch id batch) Done m.placed;
  waiting = m.waiting;
}

-- a batch that is handed out, with these records, is committed by rows that have their sequences
abbrev pub commits_batch : Machine → ℕ → StreamId → ℕ → List RawRow → List Entry → Machine
commits_batch m number id batch rows [] = m
commits_batch m number id batch rows (entry ∷ more) = if have_sequences rows (entry ∷ more) then commits m number id batch rows else m

abbrev pub releases : Machine → Option LaneState → Machine
releases m None = m
releases m (Some state) = record {
  acts = m.acts ++ Echoes state ∷ [];
  placed = m.placed;
  waiting = without_first (is_releasable m.acts) m.waiting;
}

-- the number must not be that of another batch
abbrev pub hands_out : Machine → StreamId → ℕ → ℕ → List Placed → Machine
hands_out m id count batch [] = record m { placed = move_first (is_sealed_of id) (Out batch) count m.placed }
hands_out m id count batch (other ∷ others) = m

-- a stream's number is its place in the catalog
abbrev pub commits_at : Machine → ℕ → StreamId → ℕ → List RawRow → Option ConfStream → Machine
commits_at m number id batch rows None = m
commits_at m number id batch rows (Some stream) = if same_id stream.id id then commits_batch m number id batch rows (in_batch id batch m.placed) else m

-- A step that cannot be done changes nothing.
abbrev pub happens : List ConfStream → Machine → Step → Machine
happens streams m (Accept line) = accepts m line
happens streams m End = record m { acts = m.acts ++ Ends ∷ [] }
happens streams m (Seal id count) = record m { placed = move_first (is_queued_of id) Sealed count m.placed }
happens streams m (HandOut id count batch) = hands_out m id count batch (filter (λ placed. is_out batch placed.place) m.placed)
happens streams m (Commit number id batch rows) = commits_at m number id batch rows (slice_get streams number)
happens streams m (TakeBack id batch) = record m { placed = move (is_in_batch id batch) Sealed m.placed }
happens streams m Release = releases m (find (is_releasable m.acts) m.waiting)
happens streams m Turn = record m { acts = m.acts ++ Turns ∷ [] }

-- any list of steps is a run
abbrev pub run : List ConfStream → List Step → Machine → Machine
run streams [] m = m
run streams (step ∷ steps) m = run streams steps (happens streams m step)

abbrev pub accepted_in : Step → Option Line
accepted_in (Accept line) = Some line
accepted_in step = None

-- what the steps accept
abbrev pub accepted : List Step → List Line
accepted steps = filter_map accepted_in steps

-- a commit behind these acts is of the rows of its records
abbrev pub RowsFit : List ConfStream → Opening → List Act → Act → Type 0
RowsFit streams opening before (Commits number rows) =
    (entry : Entry) (row : RawRow) → Contains (entries (taken before)) entry → Contains rows row → row.seq ≡ entry.seq → IsRowOf streams opening number entry row
RowsFit streams opening before act = Unit {0}

-- Each commit among these acts is of the rows of its records. Of a record that is queued or handed out no row is asked: it may have
-- none.
abbrev pub CommitsOwnRows : List ConfStream → Opening → List Act → Type 0
CommitsOwnRows streams opening acts = EachFits (RowsFit streams opening) [] acts

-- where the next step commits a batch, it is by the rows of its records, in order
abbrev pub BringsOwnRows : List ConfStream → Opening → Machine → Step → Type 0
BringsOwnRows streams opening m (Commit number id batch rows) = AreRowsOf streams opening number (in_batch id batch m.placed) rows
BringsOwnRows streams opening m step = Unit {0}

-- nothing is queued or handed out, and no state is releasable
pub record IsDrained (m : Machine) : Type 0 where
  pub nothing_held : AllByRecursion (λ placed. is_done placed.place ≡ true) m.placed
  pub nothing_releasable : find (is_releasable m.acts) m.waiting ≡ None

-- which records of a stream are sealed, handed out or committed, in order
abbrev pub is_unsealed : Place → Bool
is_unsealed Queued = true
is_unsealed Sealed = false
is_unsealed (Out batch) = false
is_unsealed Done = false

abbrev pub flags : StreamId → List Placed → List Bool
flags id placed = map (λ one. is_unsealed one.place) (filter (is_of id) placed)

-- once one is unsealed, all behind it are
abbrev pub IsTail : List Bool → Type 0
IsTail [] = Unit {0}
IsTail (flag ∷ more) = (flag ≡ true → AllByRecursion (λ other. other ≡ true) more) × IsTail more
