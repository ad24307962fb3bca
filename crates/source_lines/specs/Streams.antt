-- The lines of one stream: that it is started, its records and states, and that it is complete.
use Rattle.std.specs.Prelude.{ℕ, List, [], ◌∷◌, ◌++◌, length, map, Result, Ok, Err}
use Rattle.basics.specs.declared.stream.StreamId.{StreamId}
use Rattle.airbyte_message.specs.declared.stream_status.StreamStatus.TheVariants as status
use Rattle.outside.specs.declared.status.Status.{Status}
use Rattle.outside.specs.declared.status.Status.TheVariants as ends
use Rattle.outside.specs.Feed.{Left, nothing_left}
use Rattle.source_lines.specs.Lines.{record_line, state_line, status_line}
use Rattle.source_lines.specs.Checkpoints.{Row, stretches}

-- what the lines of a stream have in common: the stream, the moment, in milliseconds since 1970, and after how many records
-- a state is due
pub record Form : Type 0 where
  pub id : StreamId
  pub moment : ℕ
  pub every : ℕ

-- the blob behind these rows: that of the last of them, or else this one
abbrev pub blob_behind : List ℕ → List Row → List ℕ
blob_behind blob [] = blob
blob_behind blob (row ∷ rows) = blob_behind row.blob rows

-- the records of a stretch, and the state behind them, which counts them
abbrev pub stretch_lines : Form → List ℕ → List Row → List (List ℕ)
stretch_lines form blob stretch =
    map (λ row. record_line form.id form.moment row.body) stretch ++ state_line form.id (blob_behind blob stretch) (length stretch) ∷ []

abbrev pub all_stretches : Form → List ℕ → List (List Row) → List (List ℕ)
all_stretches form blob [] = []
all_stretches form blob (stretch ∷ others) = stretch_lines form blob stretch ++ all_stretches form (blob_behind blob stretch) others

abbrev pub complete_line : Form → List ℕ
complete_line form = status_line form.id form.moment status.Complete

-- a stream that starts with this blob, before these rows
abbrev pub stream_lines : Form → List ℕ → List Row → List (List ℕ)
stream_lines form blob rows =
    status_line form.id form.moment status.Started ∷ (all_stretches form blob (stretches form.every rows) ++ complete_line form ∷ [])

-- The lines of streams, one behind the other, up to the first that is refused.
abbrev pub left_of : List (Result (List (List ℕ)) Status) → Left
left_of [] = nothing_left ends.Ok
left_of (Ok lines ∷ streams) = record (left_of streams) { lines = lines ++ (left_of streams).lines }
left_of (Err why ∷ streams) = nothing_left why
