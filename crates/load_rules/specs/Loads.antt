-- The loads of a trace: each is the part from one Opened to the event before the next.
use Rattle.std.specs.Prelude.{ℕ, List, [], ◌∷◌, ◌++◌, map, fold, filter, filter_map, flat_map, not}
use Rattle.std.specs.List.{take_while}
use Rattle.outside.specs.Event.{is_links, took_in}
use Rattle.outside.specs.declared.event.Event.{Event}
use Rattle.outside.specs.declared.event.Event.TheVariants.{Opened, Committed}
use Rattle.outside.specs.declared.event.RawRow.{RawRow}
use Rattle.outside.specs.declared.event.StreamPlan.{StreamPlan}
use Rattle.outside.specs.Dock.{is_opening}
use Rattle.load_rules.specs.Prefixes.{with_first}
use Rattle.load_rules.specs.Lines.{Reading, lines_read}
use Rattle.load_rules.specs.Taken.{Entry, entries, without}

-- what an Opened says
pub record Opening : Type 0 where
  pub load : ℕ
  pub moment : ℕ
  pub plan : List StreamPlan

-- a load: its Opened, and the store's events behind it
pub record Load : Type 0 where
  pub opening : Opening
  pub events : List Event

-- the events that a store adds; a trace of attempts has others between them
abbrev pub store_events : List Event → List Event
store_events trace = filter (λ event. not (is_links event)) trace

-- the store's events before the first load
abbrev pub unopened : List Event → List Event
unopened trace = take_while (λ event. not (is_opening event)) (store_events trace)

abbrev pub with_event : Event → Load → Load
with_event event load = record load { events = load.events ++ event ∷ [] }

abbrev pub loads_after : List Load → Event → List Load
loads_after loads (Opened load moment plan) = record { opening = record { load = load; moment = moment; plan = plan }; events = [] } ∷ loads
loads_after loads event = with_first (with_event event) loads

-- the loads, the last first
abbrev pub loads : List Event → List Load
loads trace = fold loads_after [] (store_events trace)

-- What a load took and committed

abbrev pub tooks : List Event → List (List ℕ)
tooks events = filter_map took_in events

abbrev pub committed_rows : Event → List RawRow
committed_rows (Committed number rows) = rows
committed_rows event = []

-- the sequences that were committed
abbrev pub committed_in : List Event → List ℕ
committed_in events = map (λ row. row.seq) (flat_map committed_rows events)

-- the records that a load took and has not committed
abbrev pub held_in : Reading → List Event → List Entry
held_in read events = without (committed_in events) (entries (lines_read read (tooks events)))
