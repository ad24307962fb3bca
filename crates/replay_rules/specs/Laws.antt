-- What retries leave: each saved state has all records before it committed, saved states follow the source's order, whatever is
-- committed is of the source, and behind an attempt that ends well the last copies of its bodies stand in its order.
use Rattle.std.specs.Prelude.{◌≡◌, ℕ, ◌<◌, ◌≤◌, List, [], ◌∷◌, ◌++◌, length, Bool, true, false, slice_get, Contains, Some, Ok}
use Rattle.std.specs.List.{AllByRecursion, list_any}
use Rattle.basics.specs.declared.stream.StreamId.{StreamId}
use Rattle.outside.specs.Event.{stored}
use Rattle.outside.specs.Tables.{tables_of}
use Rattle.outside.specs.declared.event.AttemptPlan.{AttemptPlan}
use Rattle.outside.specs.declared.event.Event.{Event}
use Rattle.outside.specs.declared.event.Event.TheVariants as event
use Rattle.outside.specs.declared.event.RawRow.{RawRow}
use Rattle.catalog.specs.Configured.{AreConfigured}
use Rattle.catalog.specs.Reading.{ids_of}
use Rattle.catalog.specs.declared.stream.ConfStream.{ConfStream}
use Rattle.load_rules.specs.Lines.{Reading, IsReading, is_known}
use Rattle.load_rules.specs.Taken.{Entry}
use Rattle.load_rules.specs.Loads.{Opening}
use Rattle.load_rules.specs.Rows.{IsRowOf}
use Rattle.load_rules.specs.Marks.{marks_of, IsSeenOf}
use Rattle.load_rules.specs.Stores.{IsStoreRun}
use Rattle.load_rules.specs.Finished.{is_dedup, StreamIsDone}
use Rattle.load_rules.specs.Attempts.{attempts}
use Rattle.load_rules.specs.Honest.{AddsHonestly}
use Rattle.load_rules.specs.Engine.{IsEngineRun}
use Rattle.load_rules.specs.Laws.{is_started}
use Rattle.state_kinds.specs.Saved.{Saved}
use Rattle.state_kinds.specs.Store.{ReadsStore}
use Rattle.sync_rules.specs.Sync.{Sync}
use Rattle.sync_rules.specs.SafeSync.{Asked, commits, nothing, Leads}
use Rattle.sync_rules.specs.Calls.{Call, Standing, CallGoes, called_at}
use Rattle.sync_rules.specs.Laws.{AreOrderly, IsStoreOf}
use Rattle.replay_rules.specs.Sources.{Body, Source, lane_for, start_of, body_told}
use Rattle.replay_rules.specs.Replayed.{IsReplayable}
use Rattle.replay_rules.specs.Sound.{BeginsUnopened, IsSound}
use Rattle.replay_rules.specs.Saves.{SavesFit, rising, standing}
use Rattle.replay_rules.specs.Ends.{EndsWell}
use Rattle.replay_rules.specs.Copies.{HasCopies, HasLatest}

-- ---- soundness

-- A sound trace stays sound by a call whose attempts are honest, of the same source, and a run of the write engine.
abbrev pub CallsStaySound : Type 0
CallsStaySound =
    (call : Call) (streams : List ConfStream) (read : Reading) (source : Source) (before more : List Event) (sync : Sync) (there : Standing)
    → IsSound streams read source before → Leads streams read commits before sync
    → CallGoes call streams read nothing before (called_at sync) more there → AddsHonestly streams read before more
    → IsEngineRun streams read (before ++ more) → BeginsUnopened (before ++ more) → AllByRecursion (IsReplayable (ids_of streams) read source) (attempts more)
    → IsSound streams read source (before ++ more)

-- each prefix of a sound trace is sound
abbrev pub FrontsAreSound : Type 0
FrontsAreSound = (streams : List ConfStream) (read : Reading) (source : Source) (front rest : List Event) → IsSound streams read source (front ++ rest) → IsSound streams read source front

-- ---- saved states, whatever the source

-- an attempt behind these events, whose sets fit from the one on that the state store held when it was started
pub record SavesFrom (front : List Event) (fit : Saved → Type 0) : Type 0 where
  pub held : Saved
  pub stored_is : IsStoreOf (stored front) held
  pub fits : fit held

-- The states that an attempt's sets take rise within each lane, as their lines were read.
abbrev pub SavedRise : Type 0
SavedRise =
    (streams : List ConfStream) (read : Reading) (asked : Asked) (front : List Event) (plan : AttemptPlan) (events : List Event) (now : Sync)
    → list_any is_started events ≡ false → Leads streams read asked (front ++ event.Started plan ∷ events) now
    → SavesFrom front (λ held. SavesFit streams read rising [] held [] events)

-- At each of them each record that its state covers and that was passed on before its line stands in the store's tables, in the generation
-- that the set has.
abbrev pub SavedStand : Type 0
SavedStand =
    (streams : List ConfStream) (read : Reading) (front : List Event) (plan : AttemptPlan) (events : List Event) (now : Sync)
    → AreConfigured streams → list_any is_started events ≡ false → Leads streams read commits (front ++ event.Started plan ∷ events) now
    → IsEngineRun streams read (front ++ event.Started plan ∷ events)
    → SavesFrom front (λ held. SavesFit streams read (standing streams (front ++ event.Started plan ∷ [])) [] held [] events)

-- ---- saved states of a source that can be replayed

-- the row of a record with this body stands in a commit of the trace
pub record IsBodyCommitted (streams : List ConfStream) (trace : List Event) (body : Body) : Type 0 where
  pub entry : Entry
  pub told : body_told entry ≡ body
  pub opening : Opening
  pub number : ℕ
  pub rows : List RawRow
  pub commit : Contains trace (event.Committed number rows)
  pub row : RawRow
  pub among : Contains rows row
  pub is : IsRowOf streams opening number entry row

-- Of a sound trace: each body that the source has before the place of a saved state is committed, in whichever attempt. (Each prefix of
-- a sound trace is sound, so it is so at each save.)
abbrev pub SavedAreCommitted : Type 0
SavedAreCommitted =
    (streams : List ConfStream) (read : Reading) (source : Source) (trace : List Event) (set : Saved)
    → IsReading read trace → AreOrderly streams → IsSound streams read source trace → ReadsStore (stored trace) (Ok set)
    → (id : StreamId) (place : ℕ) (body : Body) → is_known (ids_of streams) id ≡ true → place < start_of source set id → slice_get (source.list (lane_for source id)) place ≡ Some body
    → IsBodyCommitted streams trace body

-- Every row of a configured stream that a sound trace has committed is a copy of a body of the source.
abbrev pub RowsAreCopies : Type 0
RowsAreCopies =
    (streams : List ConfStream) (read : Reading) (source : Source) (trace : List Event)
    → IsReading read trace → AreOrderly streams → IsSound streams read source trace → (id : StreamId) → is_known (ids_of streams) id ≡ true → HasCopies streams read source id trace

-- Of each body before the place of a saved state some copy follows every copy of every body before it, whatever attempts committed
-- them.
abbrev pub SavedAreLatest : Type 0
SavedAreLatest =
    (streams : List ConfStream) (read : Reading) (source : Source) (trace : List Event) (set : Saved)
    → IsReading read trace → AreOrderly streams → IsSound streams read source trace → ReadsStore (stored trace) (Ok set)
    → (id : StreamId) → is_known (ids_of streams) id ≡ true → HasLatest streams read source id trace (start_of source set id)

-- The same behind an attempt that ends well, of each body of the source.
abbrev pub AllAreLatest : Type 0
AllAreLatest =
    (streams : List ConfStream) (read : Reading) (source : Source) (trace : List Event)
    → IsReading read trace → AreOrderly streams → IsSound streams read source trace → EndsWell (ids_of streams) read trace
    → (id : StreamId) → is_known (ids_of streams) id ≡ true → HasLatest streams read source id trace (length (source.list (lane_for source id)))

-- ---- tables

-- Whatever is to be seen of a stream is at least of the floor that the stream had at any moment before.
abbrev pub SeenAreAbove : Type 0
SeenAreAbove =
    (before more : List Event) (dedup : Bool) (id : StreamId) (rows : List RawRow) → IsSeenOf dedup (before ++ more) id rows → AllByRecursion (λ row. (marks_of before id).floor ≤ row.generation) rows

-- Where a stream's part of a load is done, it is at least of the minimum that the load's plan has.
abbrev pub DoneAreAbove : Type 0
DoneAreAbove =
    (trace : List Event) (number : ℕ) (stream : ConfStream) (rows : List RawRow) → IsStoreRun trace → (done : StreamIsDone (tables_of trace) number stream)
    → IsSeenOf (is_dedup stream.dest) trace stream.id rows → AllByRecursion (λ row. done.plan.minimum ≤ row.generation) rows
