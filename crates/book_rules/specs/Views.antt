-- What contracts see of a book.
use Rattle.std.specs.Prelude.{◌≡◌, ℕ, List, [], ◌∷◌, slice_get, Bool, true, false, Option, None, Some}
use Rattle.basics.specs.declared.stream.StreamId.{StreamId}
use Rattle.airbyte_message.specs.declared.stream_status.StreamStatus.{StreamStatus}
use Rattle.json_fields.specs.Answer.{IsAnswer}
use Rattle.outside.specs.Dock.{DockSeen}
use Rattle.outside.specs.Tables.{shown_plan}
use Rattle.outside.specs.declared.event.StreamPlan.{StreamPlan}
use Rattle.outside.specs.declared.load.Limits.{Limits}
use Rattle.outside.specs.declared.table.Tables.{Tables}
use Rattle.catalog.specs.declared.stream.ConfStream.{ConfStream}
use Rattle.catalog.specs.Reading.{ids_of}
use Rattle.state_gate.specs.Views.{GateView}
use Rattle.book_queue.specs.Content.{QueueView}
use Rattle.load_rules.specs.Loads.{Opening}
use Rattle.outside.specs.declared.status.Status.{Status}
use Rattle.book_rules.specs.declared.answer.Tally.{Tally}
use Rattle.book_rules.specs.declared.answer.BookState.{BookState}
use Rattle.book_rules.specs.declared.answer.BookState.TheVariants as state

pub record BookView : Type 0 where
  -- the dock
  pub seen : DockSeen
  -- the catalog, and what the load was opened with
  pub catalog : List ConfStream
  pub opening : Opening
  -- the states that wait, and the records that are not committed
  pub gate : GateView
  pub queue : QueueView
  -- how far it is
  pub tally : Tally
  -- of each stream, its last status
  pub statuses : List (Option StreamStatus)
  -- of each stream, whether its tables were shown
  pub shown : List Bool
  pub limits : Limits

abbrev pub ids : BookView → List StreamId
ids book = ids_of book.catalog

abbrev pub broken_state : Option Status → Bool → BookState
broken_state (Some stop) over = state.Broken stop
broken_state None true = state.Ended
broken_state None false = state.Running

-- how a book stands
abbrev pub state_of : Tally → BookState
state_of tally = broken_state tally.broken tally.is_ended

-- the number of a stream, None where the catalog has none
abbrev pub IsNumberIn : List ConfStream → StreamId → Option ℕ → Type 0
IsNumberIn catalog id found = IsAnswer (λ number. slice_get (ids_of catalog) number ≡ Some id) found

-- the plan of a stream as the load goes on: one that was shown is hidden no more
abbrev pub plan_now : StreamPlan → Bool → StreamPlan
plan_now plan true = shown_plan plan
plan_now plan false = plan

abbrev pub plans_now : List StreamPlan → List Bool → List StreamPlan
plans_now [] shown = []
plans_now (plan ∷ plans) [] = plan ∷ plans
plans_now (plan ∷ plans) (flag ∷ shown) = plan_now plan flag ∷ plans_now plans shown

-- the store's load has the plans that the book's load was opened with, but for the streams that the book has shown
abbrev pub HasPlans : BookView → Tables → Type 0
HasPlans book store = store.plan ≡ plans_now book.opening.plan book.shown
