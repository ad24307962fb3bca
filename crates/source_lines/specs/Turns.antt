-- For clauses of those who give the lines of a stream one by one: what is still to come, by what was given.
use Rattle.std.specs.Prelude.{◌≡◌, ℕ, ◌+◌, List, [], ◌∷◌, ◌++◌, ◌&&◌, nat_le, Bool, true, false, if◌then◌else◌, Option, None, Some, take, drop}
use Rattle.airbyte_message.specs.declared.stream_status.StreamStatus.TheVariants as status
use Rattle.source_lines.specs.Lines.{record_line, state_line, status_line}
use Rattle.source_lines.specs.Checkpoints.{Row}
use Rattle.source_lines.specs.Streams.{Form, blob_behind, complete_line}
use Rattle.source_lines.specs.declared.turn.Stage.{Stage}
use Rattle.source_lines.specs.declared.turn.Stage.TheVariants as stage

-- the last state, where it is owed, and that the stream is complete
abbrev pub last_lines : Form → Bool → ℕ → List ℕ → List (List ℕ)
last_lines form owes count blob = (if owes then state_line form.id blob count ∷ [] else []) ++ complete_line form ∷ []

-- behind so many records since the last state, with this blob behind the last of them
abbrev pub lines_behind : Form → Bool → ℕ → List ℕ → List Row → List (List ℕ)
lines_behind form owes count blob [] = last_lines form owes count blob
lines_behind form owes count blob (row ∷ rows) =
    record_line form.id form.moment row.body
    ∷ (if nat_le form.every (count + 1) && row.closes then state_line form.id row.blob (count + 1) ∷ lines_behind form false 0 row.blob rows
    else lines_behind form true (count + 1) row.blob rows)

-- What contracts see of a stream whose lines are given one by one: the blob that it was started with, how many rows were
-- given, and how many of them since the last state.
pub record Turn : Type 0 where
  pub form : Form
  pub blob : List ℕ
  pub stage : Stage
  pub given : ℕ
  pub since : ℕ

abbrev pub first_turn : Form → List ℕ → Turn
first_turn form blob = record { form = form; blob = blob; stage = stage.Unstarted; given = 0; since = 0 }

-- what is left of a stream by its stage, behind so many rows since the last state and this blob, before these rows
abbrev pub left_in : Stage → Form → ℕ → List ℕ → List Row → List (List ℕ)
left_in stage.Unstarted form since blob rows = status_line form.id form.moment status.Started ∷ lines_behind form true since blob rows
left_in stage.Due form since blob rows = state_line form.id blob since ∷ lines_behind form false 0 blob rows
left_in stage.Owing form since blob rows = lines_behind form true since blob rows
left_in stage.Settled form since blob rows = lines_behind form false since blob rows
left_in stage.Over form since blob rows = []

-- the lines of a stream of these rows that are still to come
abbrev pub left_at : Turn → List Row → List (List ℕ)
left_at turn rows = left_in turn.stage turn.form turn.since (blob_behind turn.blob (take turn.given rows)) (drop turn.given rows)

-- this was the first of the lines, or there was none
abbrev pub GivesLine : Option (List ℕ) → List (List ℕ) → List (List ℕ) → Type 0
GivesLine None before now = (before ≡ []) × (now ≡ [])
GivesLine (Some line) before now = before ≡ line ∷ now

-- For private clauses: the turn behind one row more.
abbrev pub turn_behind : Turn → Row → Turn
turn_behind turn row = record turn {
  stage = if nat_le turn.form.every (turn.since + 1) && row.closes then stage.Due else stage.Owing;
  given = turn.given + 1;
  since = turn.since + 1;
}
