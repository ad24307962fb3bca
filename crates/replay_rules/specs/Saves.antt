-- What the sets that an attempt saves take, over its events alone.
use Rattle.std.specs.Prelude.{◌≡◌, ℕ, ◌<◌, ◌⊎◌, List, [], ◌∷◌, ◌++◌, map, length, true, Contains, Some, Ok}
use Rattle.std.specs.List.{AllByRecursion}
use Rattle.outside.specs.Tables.{table_in, tables_of, row_of}
use Rattle.outside.specs.declared.event.Event.{Event}
use Rattle.outside.specs.declared.event.Event.TheVariants as event
use Rattle.outside.specs.declared.event.RawRow.{RawRow}
use Rattle.outside.specs.declared.table.Tables.{Tables}
use Rattle.catalog.specs.Reading.{ids_of}
use Rattle.catalog.specs.declared.stream.ConfStream.{ConfStream}
use Rattle.catalog.specs.declared.stream.Gen.{Gen}
use Rattle.load_rules.specs.Lines.{Reading}
use Rattle.load_rules.specs.Taken.{Entry, entries, LaneState, states, covers, is_same_lane}
use Rattle.load_rules.specs.Loads.{Opening}
use Rattle.load_rules.specs.Rows.{IsRowOf}
use Rattle.load_rules.specs.Attempts.{passed}
use Rattle.state_kinds.specs.Saved.{Saved}
use Rattle.state_kinds.specs.Changes.{put_into}
use Rattle.state_kinds.specs.Texts.{store_text}
use Rattle.sync_rules.specs.Generations.{Begins, last_generation}

-- what is asked of a set that takes the state of a line: the states that were taken before, the set, the events before, the state
abbrev pub Asking : Type 1
Asking = List LaneState → Saved → List Event → LaneState → Type 0

-- From the set that is held on, behind `before` in the attempt and with these states taken: each set that is saved is what a
-- beginning leaves of the one before, or that with the state of a line that was passed on before, which has what is asked of it. (A set
-- that is both adds no state to the one before.)
abbrev pub SavesFit : List ConfStream → Reading → Asking → List LaneState → Saved → List Event → List Event → Type 0
SavesFit streams read asked taken held before [] = Unit {0}
SavesFit streams read asked taken held before (event.Saved text ∷ events) =
    (set : Saved) × (text ≡ store_text set)
    × (((gens : List Gen) × Begins streams held gens set × SavesFit streams read asked taken set (before ++ event.Saved text ∷ []) events)
    ⊎ ((state : LaneState) × Contains (states (passed (ids_of streams) read before)) state × (put_into state.state held ≡ Ok set) × asked taken set before state
    × SavesFit streams read asked (taken ++ state ∷ []) set (before ++ event.Saved text ∷ []) events))
SavesFit streams read asked taken held before (next ∷ events) = SavesFit streams read asked taken held (before ++ next ∷ []) events

-- its line stands behind those of the lane's states that were taken before
abbrev pub IsBehind : LaneState → LaneState → Type 0
IsBehind state other = is_same_lane state.lane other.lane ≡ true → length other.before < length state.before

abbrev pub rising : Asking
rising taken set before state = AllByRecursion (IsBehind state) taken

-- the row of a record stands in the store's table of its stream, in the generation that the set has of it
pub record StandsIn (streams : List ConfStream) (tables : Tables) (set : Saved) (entry : Entry) : Type 0 where
  pub opening : Opening
  pub number : ℕ
  pub row : RawRow
  pub is : IsRowOf streams opening number entry row
  pub stands : Contains (map row_of (table_in tables.streams entry.content.id).rows) row
  pub held : last_generation set entry.content.id ≡ Some row.generation

-- Each record that was passed on before the line and that its state covers stands in the store's tables, with its number among the
-- attempt's records, `front` being in front of the attempt's events.
abbrev pub standing : List ConfStream → List Event → Asking
standing streams front taken set before state = AllByRecursion (λ entry. covers state.lane entry.content.id ≡ true → StandsIn streams (tables_of (front ++ before)) set entry) (entries state.before)
