-- The plain world: one attempt of one process, as the list of its events.
use Rattle.std.specs.Prelude.{ℕ, ◌+◌, List, [], ◌∷◌, ◌++◌, Bool, true, false, if◌then◌else◌, None, Some}
use Rattle.text_lines.specs.Lines.{lines_of}
use Rattle.outside.specs.declared.event.Event.{Event}
use Rattle.outside.specs.declared.event.Event.TheVariants.{Opened, Took, TookEnd, Committed, Emitted, Started, ReadLine, ReadEnd, Given, Closed, Got, GotEnd, Saved, Ended}
use Rattle.outside.specs.declared.event.RawRow.{RawRow}
use Rattle.outside.specs.declared.event.StreamPlan.{StreamPlan}
use Rattle.outside.specs.declared.event.AttemptPlan.{AttemptPlan}
use Rattle.outside.specs.declared.event.Job.TheVariants as job
use Rattle.outside.specs.declared.event.Exit.TheVariants as exit
use Rattle.airbyte_message.specs.declared.message.RecordMsg.{RecordMsg}
use Rattle.worker_run.specs.TakenLines.{TakenLine, record_line, state_line, other_line, Counted, none_counted, counted_after}
use Rattle.worker_run.specs.Store.{store_text, states_text}

-- the row of a record with this number in load 1
abbrev pub row_of : ℕ → RecordMsg → RawRow
row_of number content = record {
  load = 1;
  seq = number;
  generation = 0;
  extracted_at = content.emitted_at;
  loaded_at = 0;
  raw_id = [];
  key = [];
  cursor = [];
  body = content.body;
  columns = [];
  meta = [];
}

abbrev pub stream_plan : List ℕ → StreamPlan
stream_plan stream = record { id = record { name = stream; namespace = None }; dedup = false; generation = 0; minimum = 0; hidden = false }

abbrev pub attempt_plan : AttemptPlan
attempt_plan = record { number = 1; job = job.Local; store = []; catalog = []; states = states_text None }

-- the events before the first line
abbrev pub first_events : List ℕ → List Event
first_events stream = Opened 1 0 (stream_plan stream ∷ []) ∷ Saved (store_text stream None) ∷ Started attempt_plan ∷ []

-- a record's line is read, given and taken, and its row is committed
abbrev pub record_events : List ℕ → ℕ → RecordMsg → List Event
record_events line number content = ReadLine line ∷ Given line ∷ Took line ∷ Committed 0 (row_of number content ∷ []) ∷ []

-- a state's line is read, given and taken, its echo comes back, and its object is saved
abbrev pub state_events : List ℕ → List ℕ → List ℕ → List ℕ → List Event
state_events stream line object echo = ReadLine line ∷ Given line ∷ Took line ∷ Emitted echo ∷ Got echo ∷ Saved (store_text stream (Some object)) ∷ []

-- the events of a line that is taken
abbrev pub taken_events : List ℕ → Counted → TakenLine → List Event
taken_events stream counted (record_line line content) = record_events line counted.records content
taken_events stream counted (state_line line state echo) = state_events stream line state.object echo
taken_events stream counted (other_line line found) = ReadLine line ∷ []

-- the events of lines that are taken one after another
abbrev pub all_taken_events : List ℕ → Counted → List TakenLine → List Event
all_taken_events stream counted [] = []
all_taken_events stream counted (taken_line ∷ taken_lines) = taken_events stream counted taken_line ++ all_taken_events stream (counted_after counted taken_line) taken_lines

-- the events behind the last line
abbrev pub last_events : List Event
last_events = ReadEnd ∷ Closed ∷ TookEnd ∷ GotEnd ∷ Ended (record { source = Some (exit.Code 0); dest = Some (exit.Code 0) }) ∷ []

-- what contracts see of a plain world
pub record World : Type 0 where
  pub stream : List ℕ
  -- the lines that were not taken yet
  pub lines : List (List ℕ)
  -- how many were taken
  pub number : ℕ
  pub counted : Counted
  pub events : List Event
  pub is_over : Bool

abbrev pub begun : List ℕ → List ℕ → World
begun text stream = record { stream = stream; lines = lines_of text; number = 0; counted = none_counted; events = first_events stream; is_over = false }

-- the world after a line was taken as this taken_line
abbrev pub took : World → TakenLine → List (List ℕ) → World
took world taken_line lines = record {
  stream = world.stream;
  lines = lines;
  number = world.number + 1;
  counted = counted_after world.counted taken_line;
  events = world.events ++ taken_events world.stream world.counted taken_line;
  is_over = world.is_over;
}

-- the world after its end, which comes once
abbrev pub ended : World → World
ended world = record world { events = world.events ++ (if world.is_over then [] else last_events); is_over = true }
