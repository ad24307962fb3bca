-- A safe sync over the events of one attempt, in every prefix: what the attempt starts with, which lines are given,
-- and what stands committed when a state is saved. It speaks of the whole list of events and of no machine.
use Rattle.std.specs.Prelude.{◌≡◌, ◌⊎◌, ℕ, List, [], ◌∷◌, ◌++◌, map, fold, flat_map, Option, None, Some, Contains}
use Rattle.std.specs.List.{AllByRecursion, filter_map, enumerate_from}
use Rattle.outside.specs.declared.event.Event.{Event}
use Rattle.outside.specs.declared.event.Event.TheVariants.{Started, Saved}
use Rattle.outside.specs.declared.event.AttemptPlan.{AttemptPlan}
use Rattle.outside.specs.Event.{read_in, given_in, got_in, saved_in}
use Rattle.airbyte_message.specs.Messages.{IsMessage}
use Rattle.airbyte_message.specs.Echo.{IsEcho}
use Rattle.airbyte_message.specs.Lanes.{Covers}
use Rattle.airbyte_message.specs.declared.message.Message.{Message}
use Rattle.airbyte_message.specs.declared.message.Message.TheVariants as message
use Rattle.airbyte_message.specs.declared.message.RecordMsg.{RecordMsg}
use Rattle.airbyte_message.specs.declared.message.StateMsg.{StateMsg}
use Rattle.airbyte_message.specs.declared.message.StateKind.{StateKind}
use Rattle.airbyte_message.specs.declared.message.StateKind.TheVariants as kind
use Rattle.airbyte_message.specs.declared.message.TraceMsg.{TraceMsg}
use Rattle.airbyte_message.specs.declared.message.TraceMsg.TheVariants as trace
use Rattle.json_fields.specs.Answer.{IsAnswer}
use Rattle.worker_run.specs.TakenLines.{FoundLine, IsOfStream}
use Rattle.worker_run.specs.Store.{store_text, states_text}
use Rattle.worker_run.specs.World.{row_of}
use Rattle.worker_run.specs.EventParts.{rows_of}

-- a message that is passed on: a record, a state or a status of the stream, or a state of all streams
abbrev pub PassesKind : List ℕ → StateKind → Type 0
PassesKind stream (kind.Stream id blob) = IsOfStream stream id
PassesKind stream (kind.Global shared streams) = Unit {0}
PassesKind stream kind.Legacy = ⊥

abbrev pub PassesTrace : List ℕ → TraceMsg → Type 0
PassesTrace stream (trace.Error text failure emitted_at) = ⊥
PassesTrace stream (trace.Status id status emitted_at) = IsOfStream stream id
PassesTrace stream (trace.Other object) = ⊥

abbrev pub Passes : List ℕ → Option Message → Type 0
Passes stream None = ⊥
Passes stream (Some (message.Rec content)) = IsOfStream stream content.id
Passes stream (Some (message.State state)) = PassesKind stream state.kind
Passes stream (Some (message.Log log)) = ⊥
Passes stream (Some (message.Spec spec)) = ⊥
Passes stream (Some (message.Connection connection)) = ⊥
Passes stream (Some (message.Catalog catalog)) = ⊥
Passes stream (Some (message.Trace content)) = PassesTrace stream content
Passes stream (Some (message.Control control)) = ⊥

-- these are the lines that are passed on, each with the message that it is
abbrev pub ArePassed : List ℕ → List (List ℕ) → List FoundLine → Type 0
ArePassed stream [] passed = passed ≡ []
ArePassed stream (line ∷ lines) passed =
    (found : Option Message) × IsAnswer (IsMessage line) found × (others : List FoundLine) × ArePassed stream lines others
    × ((Passes stream found × (passed ≡ record { line = line; found = found } ∷ others)) ⊎ ((¬ Passes stream found) × (passed ≡ others)))

abbrev pub found_text : FoundLine → List ℕ
found_text line = line.line

-- the events since the last start
abbrev pub attempt_after : List Event → Event → List Event
attempt_after events (Started plan) = []
attempt_after events event = events ++ event ∷ []

abbrev pub attempt : List Event → List Event
attempt events = fold attempt_after [] events

-- the text that was saved last
abbrev pub last_saved : List Event → Option (List ℕ)
last_saved events = fold (λ found event. kept found (saved_in event)) None events
  where
    kept : Option (List ℕ) → Option (List ℕ) → Option (List ℕ)
    kept found None = found
    kept found (Some text) = Some text

-- a state that was read, with the records that were read before it, in order
pub record ReadState : Type 0 where
  pub state : StateMsg
  pub before : List RecordMsg

-- the records so far, behind one more line
abbrev pub records_after : List RecordMsg → Option Message → List RecordMsg
records_after before (Some (message.Rec content)) = before ++ content ∷ []
records_after before found = before

-- in front of more states, the one of a line that is a state
abbrev pub and_state_of : Option Message → List RecordMsg → List ReadState → List ReadState
and_state_of (Some (message.State state)) before states = record { state = state; before = before } ∷ states
and_state_of found before states = states

-- the states among the lines that were passed on, each with the records before it
abbrev pub states_behind : List RecordMsg → List FoundLine → List ReadState
states_behind before [] = []
states_behind before (first ∷ passed) = and_state_of first.found before (states_behind (records_after before first.found) passed)

-- the line is the echo of the state with some count
abbrev pub Echoes : StateMsg → List ℕ → Type 0
Echoes state line = (count : ℕ) × IsEcho state.object count line

-- Each line that was got takes the first state that it echoes, among those read behind the one taken before it.
abbrev pub Takes : List (List ℕ) → List ReadState → List ReadState → Type 0
Takes [] states taken = taken ≡ []
Takes (line ∷ lines) states taken =
    (passed : List ReadState) × (first : ReadState) × (rest : List ReadState) × (others : List ReadState) × (states ≡ passed ++ first ∷ rest)
    × AllByRecursion (λ other. ¬ Echoes other.state line) passed × Echoes first.state line × (taken ≡ first ∷ others) × Takes lines rest others

-- an attempt starts with the states that were saved last
pub record StartsSafely (stream : List ℕ) (before : List Event) (plan : AttemptPlan) : Type 0 where
  pub held : Option (List ℕ)
  pub stored : last_saved before ≡ Some (store_text stream held)
  pub states : plan.states ≡ states_text held

-- the store's text before any state
pub record SavesNothing (stream : List ℕ) (before : List Event) (text : List ℕ) : Type 0 where
  pub first : filter_map saved_in before ≡ []
  pub text_is : text ≡ store_text stream None

-- The text holds the state that the last echo takes, and each record that it covers and that was read before it stands
-- committed in this attempt, as the row of its own line with its number.
pub record SavesTaken (stream : List ℕ) (before : List Event) (text : List ℕ) : Type 0 where
  pub passed : List FoundLine
  pub are : ArePassed stream (filter_map read_in (attempt before)) passed
  pub taken : List ReadState
  pub last : ReadState
  pub takes : Takes (filter_map got_in (attempt before)) (states_behind [] passed) (taken ++ last ∷ [])
  pub text_is : text ≡ store_text stream (Some last.state.object)
  pub committed : AllByRecursion (λ numbered. Covers last.state numbered.1 → Contains (flat_map rows_of (attempt before)) (row_of numbered.0 numbered.1)) (enumerate_from 0 last.before)

-- the lines that were given are a prefix of those that are passed on
pub record GivesPassed (stream : List ℕ) (reads gives : List (List ℕ)) : Type 0 where
  pub passed : List FoundLine
  pub are : ArePassed stream reads passed
  pub rest : List (List ℕ)
  pub splits : map found_text passed ≡ gives ++ rest

-- the events so far are safe, as to the given lines and to the last event
pub record IsSafeSoFar (stream : List ℕ) (events : List Event) : Type 0 where
  pub given : GivesPassed stream (filter_map read_in (attempt events)) (filter_map given_in (attempt events))
  pub started : (before : List Event) (plan : AttemptPlan) → events ≡ before ++ Started plan ∷ [] → StartsSafely stream before plan
  pub saved : (before : List Event) (text : List ℕ) → events ≡ before ++ Saved text ∷ [] → SavesNothing stream before text ⊎ SavesTaken stream before text

-- so is every prefix
abbrev pub IsSafeSync : List ℕ → List Event → Type 0
IsSafeSync stream events = (front rest : List Event) → events ≡ front ++ rest → IsSafeSoFar stream front
