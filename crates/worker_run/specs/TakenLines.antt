-- How the worker reads a file of messages, line by line: which lines it takes, and what each of them counts.
use Rattle.std.specs.Prelude.{◌≡◌, ◌⊎◌, ℕ, ◌+◌, ◌<◌, ◌≤◌, List, [], ◌∷◌, map, length, fold, Option, None, Some}
use Rattle.basics.specs.declared.stream.StreamId.{StreamId}
use Rattle.json_fields.specs.Answer.{IsAnswer}
use Rattle.airbyte_message.specs.Messages.{IsMessage}
use Rattle.airbyte_message.specs.Echo.{IsEcho}
use Rattle.airbyte_message.specs.declared.message.Message.{Message}
use Rattle.airbyte_message.specs.declared.message.Message.TheVariants as message
use Rattle.airbyte_message.specs.declared.message.RecordMsg.{RecordMsg}
use Rattle.airbyte_message.specs.declared.message.StateMsg.{StateMsg}
use Rattle.airbyte_message.specs.declared.message.StateKind.{StateKind}
use Rattle.airbyte_message.specs.declared.message.StateKind.TheVariants as kind
use Rattle.airbyte_message.specs.declared.message.TraceMsg.{TraceMsg}
use Rattle.airbyte_message.specs.declared.message.TraceMsg.TheVariants as trace
use Rattle.airbyte_message.specs.declared.failure_type.FailureType.{FailureType}
use Rattle.airbyte_message.specs.declared.failure_type.FailureType.TheVariants as failure

-- the longest line that is taken
abbrev pub longest_line : ℕ
longest_line = 20971520

-- a line, and the message that it is, None where it is none
pub record FoundLine : Type 0 where
  pub line : List ℕ
  pub found : Option Message

-- a line that was taken: a record, a state with its echo, or a line that is passed over
pub data TakenLine : Type 0 where
  record_line : (line : List ℕ) → RecordMsg → TakenLine
  state_line : (line : List ℕ) → StateMsg → (echo : List ℕ) → TakenLine
  other_line : (line : List ℕ) → Option Message → TakenLine

abbrev pub taken_text : TakenLine → List ℕ
taken_text (record_line line content) = line
taken_text (state_line line state echo) = line
taken_text (other_line line found) = line

-- the message that the line is
abbrev pub taken_message : TakenLine → Option Message
taken_message (record_line line content) = Some (message.Rec content)
taken_message (state_line line state echo) = Some (message.State state)
taken_message (other_line line found) = found

abbrev pub found_of : TakenLine → FoundLine
found_of taken_line = record { line = taken_text taken_line; found = taken_message taken_line }

abbrev pub found_in : List TakenLine → List FoundLine
found_in taken_lines = map found_of taken_lines

-- the records that were read, and those of them since the last state
pub record Counted : Type 0 where
  pub records : ℕ
  pub since : ℕ

abbrev pub none_counted : Counted
none_counted = record { records = 0; since = 0 }

abbrev pub counted_after : Counted → TakenLine → Counted
counted_after counted (record_line line content) = record { records = counted.records + 1; since = counted.since + 1 }
counted_after counted (state_line line state echo) = record { records = counted.records; since = 0 }
counted_after counted (other_line line found) = counted

-- the stream of this name, without namespace
pub record IsOfStream (stream : List ℕ) (id : StreamId) : Type 0 where
  pub name : id.name ≡ stream
  pub namespace : id.namespace ≡ None

-- a state of the one stream; states of all streams and those without type are not taken
abbrev pub KindIsOf : List ℕ → StateKind → Type 0
KindIsOf stream (kind.Stream id blob) = IsOfStream stream id
KindIsOf stream (kind.Global shared streams) = ⊥
KindIsOf stream kind.Legacy = ⊥

-- a count that a state tells is the number of records since the last state
abbrev pub IsRightCount : Option ℕ → ℕ → Type 0
IsRightCount None since = Unit {0}
IsRightCount (Some told) since = told ≡ since

pub record IsTakenState (stream : List ℕ) (since : ℕ) (state : StateMsg) : Type 0 where
  pub kind : KindIsOf stream state.kind
  pub count : IsRightCount state.source_count since

-- an error of another type than `config_error`
abbrev pub IsNoConfigError : Option FailureType → Type 0
IsNoConfigError None = Unit {0}
IsNoConfigError (Some failure.SystemError) = Unit {0}
IsNoConfigError (Some failure.ConfigError) = ⊥
IsNoConfigError (Some failure.TransientError) = Unit {0}

-- a trace that is passed over: an error of the source's run, an estimate, one for analytics
abbrev pub IsPassedTrace : TraceMsg → Type 0
IsPassedTrace (trace.Error text failure emitted_at) = IsNoConfigError failure
IsPassedTrace (trace.Status id status emitted_at) = ⊥
IsPassedTrace (trace.Other object) = Unit {0}

-- a line that is passed over: no message, or one that neither carries data nor ends the run
abbrev pub IsPassedOver : Option Message → Type 0
IsPassedOver None = Unit {0}
IsPassedOver (Some (message.Rec content)) = ⊥
IsPassedOver (Some (message.State state)) = ⊥
IsPassedOver (Some (message.Log log)) = Unit {0}
IsPassedOver (Some (message.Spec spec)) = Unit {0}
IsPassedOver (Some (message.Connection connection)) = Unit {0}
IsPassedOver (Some (message.Catalog catalog)) = Unit {0}
IsPassedOver (Some (message.Trace content)) = IsPassedTrace content
IsPassedOver (Some (message.Control control)) = Unit {0}

-- what is taken: a record or a state of the stream, whose count is right, and what is passed over
abbrev pub IsTaken : List ℕ → ℕ → Option Message → Type 0
IsTaken stream since None = Unit {0}
IsTaken stream since (Some (message.Rec content)) = IsOfStream stream content.id
IsTaken stream since (Some (message.State state)) = IsTakenState stream since state
IsTaken stream since (Some (message.Log log)) = Unit {0}
IsTaken stream since (Some (message.Spec spec)) = Unit {0}
IsTaken stream since (Some (message.Connection connection)) = Unit {0}
IsTaken stream since (Some (message.Catalog catalog)) = Unit {0}
IsTaken stream since (Some (message.Trace content)) = IsPassedTrace content
IsTaken stream since (Some (message.Control control)) = Unit {0}

-- the line is taken as this taken_line: it is this message and no other
pub record FitsRecord (stream line : List ℕ) (content : RecordMsg) : Type 0 where
  pub short : length line ≤ longest_line
  pub message : IsAnswer (IsMessage line) (Some (message.Rec content))
  pub taken : IsOfStream stream content.id

pub record FitsState (stream : List ℕ) (since : ℕ) (line : List ℕ) (state : StateMsg) (echo : List ℕ) : Type 0 where
  pub short : length line ≤ longest_line
  pub message : IsAnswer (IsMessage line) (Some (message.State state))
  pub taken : IsTakenState stream since state
  pub echoed : IsEcho state.object since echo

pub record FitsOther (line : List ℕ) (found : Option Message) : Type 0 where
  pub short : length line ≤ longest_line
  pub message : IsAnswer (IsMessage line) found
  pub passed : IsPassedOver found

abbrev pub Fits : List ℕ → Counted → TakenLine → Type 0
Fits stream counted (record_line line content) = FitsRecord stream line content
Fits stream counted (state_line line state echo) = FitsState stream counted.since line state echo
Fits stream counted (other_line line found) = FitsOther line found

-- each line is taken, after those before it
abbrev pub AreTaken : List ℕ → Counted → List TakenLine → Type 0
AreTaken stream counted [] = Unit {0}
AreTaken stream counted (taken_line ∷ taken_lines) = Fits stream counted taken_line × AreTaken stream (counted_after counted taken_line) taken_lines

-- what was counted through these lines
abbrev pub counted_through : Counted → List TakenLine → Counted
counted_through counted taken_lines = fold counted_after counted taken_lines

-- a line that is read as a message that is not taken: one of another stream, whose count is wrong, or that ends a run
pub record IsRefused (stream : List ℕ) (since : ℕ) (line : List ℕ) : Type 0 where
  pub found : Option Message
  pub message : IsAnswer (IsMessage line) found
  pub refused : ¬ IsTaken stream since found

-- the line is not taken: it is too long, or such a message
abbrev pub IsUnbuilt : List ℕ → ℕ → List ℕ → Type 0
IsUnbuilt stream since line = (longest_line < length line) ⊎ IsRefused stream since line
