-- For private clauses: one turn of a release, and what a line that was heard does.
use Rattle.std.specs.Prelude.{◌≡◌, ℕ, ◌+◌, ◌-◌, ◌<◌, ◌^◌, List, length, Bool, true, false, Option, None, Some, Result, Ok, Err}
use Rattle.std.specs.List.{AllByRecursion}
use Rattle.airbyte_message.specs.Lanes.{Lane, one, all, lane_of}
use Rattle.airbyte_message.specs.State.{State}
use Rattle.outside.specs.declared.fault.Fault.{Fault}
use Rattle.outside.specs.declared.faults.InputKind.{InputKind}
use Rattle.catalog.specs.declared.stream.ConfStream.{ConfStream}
use Rattle.state_gate.specs.Content.{Content}
use Rattle.state_gate.specs.Views.{GateView, Stands}
use Rattle.state_gate.specs.declared.pending.Lane.{Lane as GateLane}
use Rattle.state_gate.specs.declared.pending.Pending.{Pending}
use Rattle.book_rules.specs.declared.answer.Accepted.{Accepted}
use Rattle.book_rules.specs.declared.answer.Lanes.{Lanes}
use Rattle.book_rules.specs.Accepts.{GateTakesState, Notes, Refuses, Skips, TakesRecordOf, TakesStateBy, broken_by, released_answer, with_status}
use Rattle.book_rules.specs.Holds.{HasKind}
use Rattle.book_rules.specs.Releases.{HasNoHead, Point, ReleaseAnswer, Released, StopsBy, TakesHead}
use Rattle.book_rules.specs.Views.{BookView, IsNumberIn}
use Rattle.book_parts.specs.declared.heard.Heard.{Heard}
use Rattle.book_parts.specs.declared.heard.Heard.TheVariants as heard

-- The states that wait have echoes, and can be counted. (It holds behind a state more, too, which a book that can take a line takes.)
pub record MayRelease (emitted : ℕ) (gate : GateView) : Type 0 where
  pub content : Content
  pub stands : Stands content gate
  pub kinds : AllByRecursion HasKind content.waiting
  pub room : emitted + length content.waiting < 2 ^ 64 - 1

-- there was no state that may go
pub record FindsNone (old new : Point) : Type 0 where
  pub gate : new.gate ≡ record (old.gate) { kept = new.gate.kept }
  pub content : (content : Content) → Stands content old.gate → Stands content new.gate
  pub seen : new.seen ≡ old.seen
  pub emitted : new.emitted ≡ old.emitted
  pub quiet : HasNoHead old.gate

-- the echo of the state that may go could not be made or emitted
pub record FailsAt (stop : Fault) (old new : Point) : Type 0 where
  pub pending : Pending
  pub takes : TakesHead pending old.gate new.gate
  pub stops : StopsBy stop pending old.seen new.seen
  pub emitted : new.emitted ≡ old.emitted

abbrev pub NextAnswer : Result Bool Fault → Point → Point → Type 0
NextAnswer (Ok true) old new = Released old new
NextAnswer (Ok false) old new = FindsNone old new
NextAnswer (Err stop) old new = FailsAt stop old new

-- Lines

-- its streams are among so many
abbrev pub Knows : ℕ → Heard → Type 0
Knows streams (heard.Record (Some stream)) = stream < streams
Knows streams (heard.Status (Some stream) status) = stream < streams
Knows streams _ = Unit {0}

abbrev pub TakesHeard : Heard → InputKind → List ℕ → Accepted → BookView → BookView → Type 0
TakesHeard heard.Nothing kind line result old new = Refuses kind result old new
TakesHeard (heard.Record found) kind line result old new = TakesRecordOf found line result old new
TakesHeard (heard.State state) kind line result old new = TakesStateBy (lane_of state.kind) state result old new
TakesHeard (heard.Status found status) kind line result old new = Notes (with_status found status old.statuses) result old new
TakesHeard heard.Other kind line result old new = Skips result old new

-- the lane is that of a stream, which has this number
abbrev pub IsFoundFor : Option Lane → List ConfStream → Option ℕ → Type 0
IsFoundFor (Some (one id)) catalog found = IsNumberIn catalog id found
IsFoundFor (Some all) catalog found = ⊥
IsFoundFor None catalog found = ⊥

-- a state goes into the gate, and all states that may go are released
pub record PutsState (lane : GateLane) (state : State) (kind : Lanes) (result : Accepted) (old new : BookView) : Type 0 where
  pub gate : GateView
  pub takes : GateTakesState lane state old.gate gate
  pub released : Result (Unit {0}) Fault
  pub answer : result ≡ released_answer released
  pub releases : ReleaseAnswer released (record { gate = gate; seen = old.seen; emitted = old.tally.emitted }) (record { gate = new.gate; seen = new.seen; emitted = new.tally.emitted })
  pub is : new ≡ record old { seen = new.seen; gate = new.gate; tally = record (old.tally) { emitted = new.tally.emitted; lanes = Some kind; broken = broken_by released } }
