-- What the worker says: a function of the lines of a file with the messages that they are, and of how the attempt ended.
use Rattle.std.specs.Prelude.{ℕ, List, [], ◌∷◌, ◌++◌, length, flat_map, map, Option, None, Some, nat_lt, if◌then◌else◌, codes}
use Rattle.std.specs.List.{filter_map}
use Rattle.std.specs.Fmt.{decimal}
use Rattle.outside.specs.Status.{status_text}
use Rattle.worker_run.specs.declared.end.End.{End}
use Rattle.worker_run.specs.declared.end.End.TheVariants as how
use Rattle.outside.specs.declared.status.Status.{Status}
use Rattle.worker_run.specs.Ends.{status_of}
use Rattle.outside.specs.declared.event.Event.{Event}
use Rattle.outside.specs.declared.event.RawRow.{RawRow}
use Rattle.worker_run.specs.EventParts.{rows_of}
use Rattle.airbyte_message.specs.declared.message.Message.{Message}
use Rattle.airbyte_message.specs.declared.message.Message.TheVariants as message
use Rattle.airbyte_message.specs.declared.message.TraceMsg.{TraceMsg}
use Rattle.airbyte_message.specs.declared.message.TraceMsg.TheVariants as trace
use Rattle.airbyte_message.specs.declared.failure_type.FailureType.{FailureType}
use Rattle.airbyte_message.specs.declared.level.Level.{Level}
use Rattle.airbyte_message.specs.Words.{level_text, failure_text}
use Rattle.worker_run.specs.TakenLines.{FoundLine}

abbrev pub usage_line : List ℕ
usage_line = codes "usage: airbyte_worker local --messages F --catalog F"

abbrev pub saved_line : List ℕ → List ℕ
saved_line object = codes "saved " ++ object

abbrev pub row_line : List ℕ → List ℕ
row_line body = codes "row " ++ body

abbrev pub attempt_line : Status → List ℕ
attempt_line s = codes "attempt 1: " ++ status_text s

abbrev pub status_line : Status → List ℕ
status_line s = codes "status " ++ status_text s

-- Bytes below 32 are said as spaces, so that a name or a message of a file cannot begin a line.
abbrev pub shown : List ℕ → List ℕ
shown text = map (λ byte. if nat_lt byte 32 then 32 else byte) text

abbrev pub table_line : List ℕ → ℕ → List ℕ
table_line stream rows = codes "table " ++ (shown stream ++ (codes " rows " ++ decimal rows))

-- a line of the source that is no message
abbrev pub source_line : List ℕ → List ℕ
source_line line = codes "source: " ++ line

-- a line of the source's log
abbrev pub log_line : Level → List ℕ → List ℕ
log_line level text = codes "source [" ++ (level_text level ++ (codes "] " ++ shown text))

-- the type of an error; where none is told it is the system's
abbrev pub failure_name : Option FailureType → List ℕ
failure_name None = codes "system_error"
failure_name (Some failure) = failure_text failure

-- an error of the source
abbrev pub error_line : Option FailureType → List ℕ → List ℕ
error_line failure text = codes "source error " ++ (failure_name failure ++ (codes " " ++ shown text))

abbrev pub trace_line : TraceMsg → Option (List ℕ)
trace_line (trace.Error text failure emitted_at) = Some (error_line failure text)
trace_line (trace.Status id status emitted_at) = None
trace_line (trace.Other object) = None

-- what is said when a line is taken
abbrev pub said_of_line : List ℕ → Option Message → Option (List ℕ)
said_of_line line None = Some (source_line line)
said_of_line line (Some (message.Rec content)) = None
said_of_line line (Some (message.State state)) = Some (saved_line state.object)
said_of_line line (Some (message.Log log)) = Some (log_line log.level log.text)
said_of_line line (Some (message.Spec spec)) = None
said_of_line line (Some (message.Connection connection)) = None
said_of_line line (Some (message.Catalog catalog)) = None
said_of_line line (Some (message.Trace content)) = trace_line content
said_of_line line (Some (message.Control control)) = None

-- the body of a record
abbrev pub body_of : Option Message → Option (List ℕ)
body_of None = None
body_of (Some (message.Rec content)) = Some content.body
body_of (Some (message.State state)) = None
body_of (Some (message.Log log)) = None
body_of (Some (message.Spec spec)) = None
body_of (Some (message.Connection connection)) = None
body_of (Some (message.Catalog catalog)) = None
body_of (Some (message.Trace content)) = None
body_of (Some (message.Control control)) = None

-- what is said of these lines as they are taken, in order
abbrev pub said_lines : List FoundLine → List (List ℕ)
said_lines found_lines = filter_map (λ h. said_of_line h.line h.found) found_lines

-- a row line for each record, in order
abbrev pub row_lines : List FoundLine → List (List ℕ)
row_lines found_lines = map row_line (filter_map (λ h. body_of h.found) found_lines)

-- the table with its rows
abbrev pub table_lines : List ℕ → List (List ℕ) → List (List ℕ)
table_lines stream rows = table_line stream (length rows) ∷ rows

-- at Ok the table follows
abbrev pub table_at : List ℕ → List (List ℕ) → End → List (List ℕ)
table_at stream rows how.Ok = table_lines stream rows
table_at stream rows how.Usage = []
table_at stream rows how.FileFault = []
table_at stream rows how.SayFault = []
table_at stream rows (how.Unbuilt line) = []
table_at stream rows how.NoMemory = []

-- what is said at the end of an attempt: how it ended, and the table
abbrev pub end_lines : List ℕ → List (List ℕ) → End → List (List ℕ)
end_lines stream rows end = attempt_line (status_of end) ∷ table_at stream rows end

-- what is said of an attempt that took these lines and ended so
abbrev pub attempt_lines : List ℕ → List FoundLine → End → List (List ℕ)
attempt_lines stream found_lines end = said_lines found_lines ++ end_lines stream (row_lines found_lines) end

-- the bodies of rows, as they are said
abbrev pub body_lines : List RawRow → List (List ℕ)
body_lines rows = map (λ row. row_line row.body) rows

-- the rows that these events committed, as they are said
abbrev pub committed_lines : List Event → List (List ℕ)
committed_lines events = flat_map (λ event. body_lines (rows_of event)) events
