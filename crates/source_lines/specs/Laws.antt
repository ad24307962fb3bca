-- Laws of a stream's lines.
use Rattle.std.specs.Prelude.{◌≡◌, ◌≢◌, ℕ, List, [], ◌∷◌, ◌++◌, true}
use Rattle.airbyte_message.specs.declared.stream_status.StreamStatus.TheVariants as status
use Rattle.source_lines.specs.Lines.{state_line, status_line}
use Rattle.source_lines.specs.Checkpoints.{Row, rows_in, stretches}
use Rattle.source_lines.specs.Streams.{Form, all_stretches, blob_behind, complete_line, stream_lines}
use Rattle.source_lines.specs.Turns.{lines_behind}

-- The lines of a stream are those that come one by one behind its start.
abbrev pub GivenByTurns : Type 0
GivenByTurns = (form : Form) (blob : List ℕ) (rows : List Row)
    → stream_lines form blob rows ≡ status_line form.id form.moment status.Started ∷ lines_behind form true 0 blob rows

-- some last line is a state of this stream with this blob
pub record EndsWithState (form : Form) (blob : List ℕ) (lines : List (List ℕ)) : Type 0 where
  pub front : List (List ℕ)
  pub count : ℕ
  pub is : lines ≡ front ++ state_line form.id blob count ∷ []

-- The lines of a stream that starts anew with the blob of the state behind these stretches are the lines that stood behind that
-- state, each at the new start's moment; and where no stretch was left, that state once more, with no record.
pub record LinesGoOn (form later : Form) (blob : List ℕ) (rows : List Row) (gone left : List (List Row)) (behind : List ℕ) : Type 0 where
  pub state : EndsWithState form behind (all_stretches form blob gone)
  pub first : stream_lines form blob rows
      ≡ status_line form.id form.moment status.Started ∷ (all_stretches form blob gone ++ (all_stretches form behind left ++ complete_line form ∷ []))
  pub rest : left ≢ [] → stream_lines later behind (rows_in left)
      ≡ status_line later.id later.moment status.Started ∷ (all_stretches later behind left ++ complete_line later ∷ [])
  pub over : left ≡ [] → stream_lines later behind (rows_in left)
      ≡ status_line later.id later.moment status.Started ∷ state_line later.id behind 0 ∷ complete_line later ∷ []

abbrev pub LinesResume : Type 0
LinesResume = (form : Form) (moment : ℕ) (blob : List ℕ) (rows : List Row) (gone left : List (List Row)) → stretches form.every rows ≡ gone ++ left → gone ≢ []
    → LinesGoOn form (record form { moment = moment }) blob rows gone left (blob_behind blob (rows_in gone))
