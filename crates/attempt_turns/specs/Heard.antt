-- What is done with a line that was read, and why it ends an attempt.
use Rattle.std.specs.Prelude.{◌≡◌, ◌⊎◌, ℕ, ◌+◌, ◌<◌, ◌≤◌, List, [], ◌∷◌, Option, None}
use Rattle.basics.specs.Told.{told_more, Rose, GrewByFront}
use Rattle.outside.specs.Desk.{DeskSeen}
use Rattle.outside.specs.Link.{Seen, own_events}
use Rattle.outside.specs.declared.event.Event.TheVariants as event
use Rattle.outside.specs.declared.faults.Side.TheVariants as side
use Rattle.outside.specs.declared.status.Status.{Status}
use Rattle.outside.specs.declared.status.Status.TheVariants as status
use Rattle.airbyte_message.specs.State.{State}
use Rattle.sync_ledger.specs.Judged.{Echoes, Hears, Refuses, RefusesBack}
use Rattle.sync_ledger.specs.declared.notes.TheConstants.{MOST_LINES}
use Rattle.sync_ledger.specs.declared.verdict.Echoed.{Echoed}
use Rattle.sync_ledger.specs.declared.verdict.Echoed.TheVariants as echoed
use Rattle.sync_ledger.specs.declared.verdict.Verdict.{Verdict}
use Rattle.sync_ledger.specs.declared.verdict.Verdict.TheVariants as verdict
use Rattle.ledger_rules.specs.Ledgers.{held_by, taken_by}
use Rattle.attempt_turns.specs.History.{KeepsDesk}
use Rattle.attempt_turns.specs.declared.worker.Worker.{Worker}

-- these lines were said, and all else of the desk stays
pub record SaysLines (lines : List (List ℕ)) (old new : DeskSeen) : Type 0 where
  pub said : new.said ≡ told_more lines old.said
  pub keeps : KeepsDesk old new

-- Saying failed, and the lines were said or not, one by one.
pub record SaysFront (lines : List (List ℕ)) (old new : DeskSeen) : Type 0 where
  pub front : GrewByFront lines old.said new.said
  pub rose : Rose old.say_faults new.say_faults
  pub keeps : KeepsDesk old new

-- Saying failed, and the whole line was said or nothing; or memory lacked, and nothing was said.
abbrev pub SayEnds : Status → List ℕ → DeskSeen → DeskSeen → Type 0
SayEnds status.SayFault line old new = SaysFront (line ∷ []) old new
SayEnds status.NoMemory line old new = SaysLines [] old new
SayEnds end line old new = ⊥

-- what is said of a line of the source
abbrev pub lines_answered : Verdict → List (List ℕ)
lines_answered verdict.Give = []
lines_answered (verdict.Say line) = line ∷ []
lines_answered verdict.Nothing = []
lines_answered (verdict.ConfigError line) = line ∷ []

pub record HearsSource (w : Worker) (text : List ℕ) (answer : Verdict) (now : Worker) : Type 0 where
  pub few : w.ledger.lines < MOST_LINES
  pub hears : Hears w.ledger text answer now.ledger
  pub is : now ≡ record w { ledger = now.ledger; held = held_by answer text }

-- an answer that does not end the attempt
abbrev pub GoesOn : Verdict → Type 0
GoesOn (verdict.ConfigError line) = ⊥
GoesOn answer = Unit {0}

-- it was heard, and what is to be said of it was said
pub record HeardSource (w : Worker) (text : List ℕ) (now : Worker) (old new : DeskSeen) : Type 0 where
  pub answer : Verdict
  pub heard : HearsSource w text answer now
  pub goes_on : GoesOn answer
  pub said : SaysLines (lines_answered answer) old new

-- so far as it was said
pub record HalfSaid (w : Worker) (text : List ℕ) (now : Worker) (old new : DeskSeen) : Type 0 where
  pub answer : Verdict
  pub heard : HearsSource w text answer now
  pub said : SaysFront (lines_answered answer) old new

-- ---- a line that came back

-- what is said of a line that came back; a state that it takes is said once it is saved
abbrev pub lines_echoed : Echoed → List (List ℕ)
lines_echoed (echoed.State state) = []
lines_echoed (echoed.Say line) = line ∷ []
lines_echoed echoed.Nothing = []
lines_echoed (echoed.ConfigError line) = line ∷ []

pub record HearsBack (w : Worker) (text : List ℕ) (answer : Echoed) (now : Worker) : Type 0 where
  pub few : w.got_lines ≤ MOST_LINES
  pub echoes : Echoes w.ledger text answer now.ledger
  pub is : now ≡ record w { ledger = now.ledger; got_lines = w.got_lines + 1 }

abbrev pub GoesOnBack : Echoed → Type 0
GoesOnBack (echoed.ConfigError line) = ⊥
GoesOnBack answer = Unit {0}

-- it was heard, and what is to be said of it was said; what it takes is still to be saved
pub record HeardBack (w : Worker) (text : List ℕ) (taken : Option State) (now : Worker) (old new : DeskSeen) : Type 0 where
  pub answer : Echoed
  pub heard : HearsBack w text answer now
  pub goes_on : GoesOnBack answer
  pub taken_is : taken_by answer ≡ taken
  pub said : SaysLines (lines_echoed answer) old new

pub record HalfSaidBack (w : Worker) (text : List ℕ) (now : Worker) (old new : DeskSeen) : Type 0 where
  pub answer : Echoed
  pub heard : HearsBack w text answer now
  pub none_taken : taken_by answer ≡ None
  pub said : SaysFront (lines_echoed answer) old new

abbrev pub RefusedBack : Status → Worker → List ℕ → Type 0
RefusedBack (status.DestBreach why line) w text = RefusesBack w.ledger text why × (line ≡ w.got_lines + 1)
RefusedBack status.NoMemory w text = Unit {0}
RefusedBack end w text = ⊥

-- a line that came back ends the attempt, and why
abbrev pub BackEnds : Status → Worker → List ℕ → Worker → DeskSeen → DeskSeen → Type 0
BackEnds (status.DestBreach why line) w text now old new = RefusesBack w.ledger text why × (line ≡ w.got_lines + 1) × (now ≡ w) × SaysLines [] old new
BackEnds (status.ConfigError side.Dest line) w text now old new = (words : List ℕ) × HearsBack w text (echoed.ConfigError words) now × (line ≡ now.got_lines) × SaysLines (words ∷ []) old new
BackEnds status.SayFault w text now old new = HalfSaidBack w text now old new
BackEnds status.NoMemory w text now old new = (now.number ≡ w.number) × SaysLines [] old new
BackEnds end w text now old new = ⊥

-- The text of a set was not saved: the state store failed, and has it or not; or memory lacked.
abbrev pub SaveEnds : Status → List ℕ → Seen → Seen → Type 0
SaveEnds status.StateFault text old new = ((own_events new ≡ own_events old) ⊎ (own_events new ≡ told_more (event.Saved text ∷ []) (own_events old))) × Rose old.counts.state_faults new.counts.state_faults
SaveEnds status.NoMemory text old new = own_events new ≡ own_events old
SaveEnds end text old new = ⊥

-- ---- a line of the source that ends the attempt

-- a line is refused so, with its number
abbrev pub RefusedSource : Status → Worker → List ℕ → Type 0
RefusedSource (status.SourceBreach why line) w text = Refuses w.ledger text why × (line ≡ w.ledger.lines + 1)
RefusedSource status.TooManyLines w text = MOST_LINES ≤ w.ledger.lines
RefusedSource status.NoMemory w text = Unit {0}
RefusedSource end w text = ⊥

-- the line ends the attempt, and why: it is refused, with its number; it is one too many; or it says that a configuration is wrong
abbrev pub LineEnds : Status → Worker → List ℕ → Worker → DeskSeen → DeskSeen → Type 0
LineEnds (status.SourceBreach why line) w text now old new = Refuses w.ledger text why × (line ≡ w.ledger.lines + 1) × (now ≡ w) × SaysLines [] old new
LineEnds status.TooManyLines w text now old new = (MOST_LINES ≤ w.ledger.lines) × (now ≡ w) × SaysLines [] old new
LineEnds (status.ConfigError side.Source line) w text now old new = (words : List ℕ) × HearsSource w text (verdict.ConfigError words) now × (line ≡ now.ledger.lines) × SaysLines (words ∷ []) old new
LineEnds status.SayFault w text now old new = HalfSaid w text now old new
LineEnds status.NoMemory w text now old new = (now.number ≡ w.number) × SaysLines [] old new
LineEnds end w text now old new = ⊥
