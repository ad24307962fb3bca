-- What a step of the plain world does.
use Rattle.std.specs.Prelude.{◌≡◌, ℕ, ◌+◌, ◌≤◌, List, [], ◌∷◌, ◌++◌, length, Option, None, Some, Result, Ok, Err}
use Rattle.basics.specs.declared.memory.NoMemory.{NoMemory}
use Rattle.outside.specs.declared.event.Event.{Event}
use Rattle.airbyte_message.specs.Messages.{IsMessage}
use Rattle.airbyte_message.specs.Echo.{IsEcho}
use Rattle.json_fields.specs.Answer.{IsAnswer}
use Rattle.airbyte_message.specs.declared.message.Message.{Message}
use Rattle.airbyte_message.specs.declared.message.Message.TheVariants as message
use Rattle.airbyte_message.specs.declared.message.RecordMsg.{RecordMsg}
use Rattle.airbyte_message.specs.declared.message.StateMsg.{StateMsg}
use Rattle.airbyte_message.specs.declared.message.TraceMsg.{TraceMsg}
use Rattle.worker_run.specs.declared.plain_world.Step.{Step}
use Rattle.worker_run.specs.declared.plain_world.Step.TheVariants as step
use Rattle.worker_run.specs.declared.judge.Judged.{Judged}
use Rattle.worker_run.specs.declared.judge.Judged.TheVariants as judged
use Rattle.worker_run.specs.TakenLines.{record_line, state_line, other_line, IsOfStream, IsTakenState, IsPassedTrace, FitsRecord, FitsState, FitsOther, IsUnbuilt, longest_line}
use Rattle.worker_run.specs.Output.{said_of_line, trace_line, log_line}
use Rattle.worker_run.specs.World.{World, took, ended, state_events}

-- a line is a state that is taken, before its echo is written
pub record IsFitState (stream : List ℕ) (since : ℕ) (line : List ℕ) (state : StateMsg) : Type 0 where
  pub short : length line ≤ longest_line
  pub message : IsAnswer (IsMessage line) (Some (message.State state))
  pub taken : IsTakenState stream since state

-- a line is passed over, and this is said of it
pub record PassesOver (line : List ℕ) (said : Option (List ℕ)) : Type 0 where
  pub found : Option Message
  pub fits : FitsOther line found
  pub said_is : said ≡ said_of_line line found

-- what a line was judged to be
abbrev pub IsJudged : List ℕ → ℕ → List ℕ → Judged → Type 0
IsJudged stream since line (judged.Record content) = FitsRecord stream line content
IsJudged stream since line (judged.State state) = IsFitState stream since line state
IsJudged stream since line (judged.Other said) = PassesOver line said
IsJudged stream since line judged.Unbuilt = IsUnbuilt stream since line

-- what a record was judged to be
abbrev pub IsJudgedRecord : List ℕ → RecordMsg → Judged → Type 0
IsJudgedRecord stream content (judged.Record taken) = (taken ≡ content) × IsOfStream stream content.id
IsJudgedRecord stream content (judged.State state) = ⊥
IsJudgedRecord stream content (judged.Other said) = ⊥
IsJudgedRecord stream content judged.Unbuilt = ¬ IsOfStream stream content.id

-- what a state was judged to be
abbrev pub IsJudgedState : List ℕ → ℕ → StateMsg → Judged → Type 0
IsJudgedState stream since state (judged.Record content) = ⊥
IsJudgedState stream since state (judged.State taken) = (taken ≡ state) × IsTakenState stream since state
IsJudgedState stream since state (judged.Other said) = ⊥
IsJudgedState stream since state judged.Unbuilt = ¬ IsTakenState stream since state

-- what a trace was judged to be
abbrev pub IsJudgedTrace : TraceMsg → Judged → Type 0
IsJudgedTrace content (judged.Record other) = ⊥
IsJudgedTrace content (judged.State state) = ⊥
IsJudgedTrace content (judged.Other said) = IsPassedTrace content × (said ≡ trace_line content)
IsJudgedTrace content judged.Unbuilt = ¬ IsPassedTrace content

-- what a message was judged to be
abbrev pub IsJudgedAs : List ℕ → ℕ → Message → Judged → Type 0
IsJudgedAs stream since (message.Rec content) as_what = IsJudgedRecord stream content as_what
IsJudgedAs stream since (message.State state) as_what = IsJudgedState stream since state as_what
IsJudgedAs stream since (message.Log log) as_what = as_what ≡ judged.Other (Some (log_line log.level log.text))
IsJudgedAs stream since (message.Spec spec) as_what = as_what ≡ judged.Other None
IsJudgedAs stream since (message.Connection connection) as_what = as_what ≡ judged.Other None
IsJudgedAs stream since (message.Catalog catalog) as_what = as_what ≡ judged.Other None
IsJudgedAs stream since (message.Trace content) as_what = IsJudgedTrace content as_what
IsJudgedAs stream since (message.Control control) as_what = as_what ≡ judged.Other None

-- the next line was taken as a record
pub record TakesRecord (old new : World) : Type 0 where
  pub line : List ℕ
  pub content : RecordMsg
  pub rest : List (List ℕ)
  pub next : old.lines ≡ line ∷ rest
  pub fits : FitsRecord old.stream line content
  pub after : new ≡ took old (record_line line content) rest

-- the next line was taken as a state, whose object was saved
pub record TakesState (old : World) (object : List ℕ) (new : World) : Type 0 where
  pub line : List ℕ
  pub state : StateMsg
  pub echo : List ℕ
  pub rest : List (List ℕ)
  pub next : old.lines ≡ line ∷ rest
  pub fits : FitsState old.stream old.counted.since line state echo
  pub saved : object ≡ state.object
  pub after : new ≡ took old (state_line line state echo) rest

-- the next line was passed over, and this is said of it
pub record TakesOther (old : World) (said : Option (List ℕ)) (new : World) : Type 0 where
  pub line : List ℕ
  pub found : Option Message
  pub rest : List (List ℕ)
  pub next : old.lines ≡ line ∷ rest
  pub fits : FitsOther line found
  pub said_is : said ≡ said_of_line line found
  pub after : new ≡ took old (other_line line found) rest

-- the next line has this number and is not taken
pub record Refuses (old : World) (number : ℕ) : Type 0 where
  pub line : List ℕ
  pub rest : List (List ℕ)
  pub next : old.lines ≡ line ∷ rest
  pub unbuilt : IsUnbuilt old.stream old.counted.since line
  pub number_is : number ≡ old.number + 1

-- no line is left, and the attempt has ended
pub record Ends (old new : World) : Type 0 where
  pub none : old.lines ≡ []
  pub after : new ≡ ended old

-- what a step did; a line that is not taken and want of memory change nothing
abbrev pub Steps : World → Result Step NoMemory → World → Type 0
Steps old (Ok step.Record) new = TakesRecord old new
Steps old (Ok (step.Saved object)) new = TakesState old object new
Steps old (Ok (step.Other said)) new = TakesOther old said new
Steps old (Ok step.Done) new = Ends old new
Steps old (Ok (step.Unbuilt number)) new = Refuses old number × (new ≡ old)
Steps old (Err fault) new = new ≡ old

-- a state's events were added, with some echo
pub record AddsState (stream line object : List ℕ) (since : ℕ) (before now : List Event) : Type 0 where
  pub echo : List ℕ
  pub echoed : IsEcho object since echo
  pub added : now ≡ before ++ state_events stream line object echo
