-- Ways from states of a worker to states of it, which go on one another.
use Rattle.std.specs.Prelude.{◌≡◌, ℕ, ◌≤◌, List, ◌++◌}
use Rattle.basics.specs.Told.{told_more}
use Rattle.outside.specs.Desk.{DeskSeen}
use Rattle.outside.specs.Link.{Seen, Grew, own_events}
use Rattle.catalog.specs.declared.stream.ConfStream.{ConfStream}
use Rattle.load_rules.specs.Lines.{Reading, IsReading}
use Rattle.sync_rules.specs.Calls.{Call}
use Rattle.attempt_turns.specs.Acts.{Place, Act, Going, events_in}

-- A state of a worker, as a fact about where its call stands and what lines it has said so far
abbrev pub State : Type 1
State = Call → List ConfStream → Reading → Place → List (List ℕ) → Type 0

-- from states of the one kind these acts, and these lines that are said, lead to states of the other
abbrev pub Leads : State → State → List Act → List (List ℕ) → Type 0
Leads A B acts lines =
    (call : Call) (streams : List ConfStream) (read : Reading) (here : Place) (said : List (List ℕ)) → IsReading read (events_in acts) → A call streams read here said
    → (there : Place) × Going call streams read here acts there × B call streams read there (said ++ lines)

-- no count of the desk has fallen, and its texts stay
pub record KeepsDesk (old new : DeskSeen) : Type 0 where
  pub say_faults : old.say_faults ≤ new.say_faults
  pub read_faults : new.read_faults ≡ old.read_faults
  pub texts : new.texts ≡ old.texts

-- What a call of the worker's parts did to its link and its desk, on the way from states of one kind to states of another. It is said
-- from every place, so that it holds whether they tell or not, and one way goes on another.
pub record Ran (A B : State) (old new : Seen) (desk_old desk_new : DeskSeen) : Type 0 where
  pub acts : List Act
  pub lines : List (List ℕ)
  pub added : own_events new ≡ told_more (events_in acts) (own_events old)
  pub said : desk_new.said ≡ told_more lines desk_old.said
  pub grew : Grew old new
  pub desk : KeepsDesk desk_old desk_new
  pub leads : Leads A B acts lines

-- a way whose acts are so
pub record RanSo (Are : List Act → Type 0) (A B : State) (old new : Seen) (desk_old desk_new : DeskSeen) : Type 0 where
  pub ran : Ran A B old new desk_old desk_new
  pub are : Are ran.acts
