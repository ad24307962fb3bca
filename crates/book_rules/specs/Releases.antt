-- States that are released one after another.
use Rattle.std.specs.Prelude.{◌≡◌, ◌⊎◌, ℕ, zero, suc, ◌+◌, List, None, Some, Result, Ok, Err}
use Rattle.airbyte_message.specs.Echo.{IsEcho}
use Rattle.outside.specs.Dock.{DockSeen}
use Rattle.outside.specs.declared.fault.Fault.{Fault}
use Rattle.outside.specs.declared.fault.Fault.TheVariants as fault
use Rattle.outside.specs.declared.status.Status.{Status}
use Rattle.outside.specs.declared.status.Status.TheVariants as status
use Rattle.state_gate.specs.Content.{Content, head_of, without_head}
use Rattle.state_gate.specs.Views.{GateView, Stands}
use Rattle.state_gate.specs.declared.pending.Pending.{Pending}
use Rattle.book_rules.specs.Docks.{Emits}

-- where a release begins and where it ends
pub record Point : Type 0 where
  pub gate : GateView
  pub seen : DockSeen
  -- how many echoes were emitted
  pub emitted : ℕ

-- the line is the echo of this state
abbrev pub IsEchoOf : Pending → List ℕ → Type 0
IsEchoOf pending line = IsEcho pending.state.object pending.count line

-- the head was taken out of the gate, where it is this state
pub record TakesHead (pending : Pending) (old new : GateView) : Type 0 where
  pub head : (content : Content) → Stands content old → head_of content ≡ Some pending
  pub view : new ≡ record old { kept = new.kept }
  pub left : (content : Content) → Stands content old → Stands (without_head content) new

-- the head was released: its echo is emitted
pub record Released (old new : Point) : Type 0 where
  pub pending : Pending
  pub takes : TakesHead pending old.gate new.gate
  pub line : List ℕ
  pub echo : IsEchoOf pending line
  pub emits : Emits {T = Unit {0}} (Ok tt) line old.seen new.seen
  pub counted : new.emitted ≡ old.emitted + 1

-- so many heads were released
abbrev pub ReleasesTo : ℕ → Point → Point → Type 0
ReleasesTo zero old new = new ≡ old
ReleasesTo (suc count) old new = (mid : Point) × ReleasesTo count old mid × Released mid new

-- no state is left that may go
abbrev pub HasNoHead : GateView → Type 0
HasNoHead gate = (content : Content) → Stands content gate → head_of content ≡ None

-- heads were released until there was none
pub record ReleasesAll (old new : Point) : Type 0 where
  pub count : ℕ
  pub last : Point
  pub releases : ReleasesTo count old last
  pub gate : new.gate ≡ record (last.gate) { kept = new.gate.kept }
  pub content : (content : Content) → Stands content last.gate → Stands content new.gate
  pub seen : new.seen ≡ last.seen
  pub emitted : new.emitted ≡ last.emitted
  pub quiet : HasNoHead last.gate

-- the echo of the next head could not be made or emitted; at Failed it may stand in the output
abbrev pub StopsBy : Fault → Pending → DockSeen → DockSeen → Type 0
StopsBy fault.NoMemory pending old new = (new ≡ old) ⊎ ((line : List ℕ) × IsEchoOf pending line × Emits {T = Unit {0}} (Err fault.NoMemory) line old new)
StopsBy fault.Failed pending old new = (line : List ℕ) × IsEchoOf pending line × Emits {T = Unit {0}} (Err fault.Failed) line old new

-- what the book broke by then
abbrev pub stop_of : Fault → Status
stop_of fault.NoMemory = status.NoMemory
stop_of fault.Failed = status.WriteFault

-- heads were released up to one whose echo could not be made or emitted
pub record ReleasesSome (stop : Fault) (old new : Point) : Type 0 where
  pub count : ℕ
  pub last : Point
  pub releases : ReleasesTo count old last
  pub pending : Pending
  pub takes : TakesHead pending last.gate new.gate
  pub stops : StopsBy stop pending last.seen new.seen
  pub emitted : new.emitted ≡ last.emitted

abbrev pub ReleaseAnswer : {T : Type 0} → Result T Fault → Point → Point → Type 0
ReleaseAnswer (Ok done) old new = ReleasesAll old new
ReleaseAnswer (Err stop) old new = ReleasesSome stop old new

-- the echo of a state was emitted, or could not be
abbrev pub EchoAnswer : {T : Type 0} → Result T Fault → Pending → DockSeen → DockSeen → Type 0
EchoAnswer (Ok done) pending old new = (line : List ℕ) × IsEchoOf pending line × Emits {T = Unit {0}} (Ok tt) line old new
EchoAnswer (Err stop) pending old new = StopsBy stop pending old new

-- so many heads were released so far
pub record ReleasesSoFar (old new : Point) : Type 0 where
  pub count : ℕ
  pub releases : ReleasesTo count old new
