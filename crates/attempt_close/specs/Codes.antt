-- What is known of the children's ends.
use Rattle.std.specs.Prelude.{◌≡◌, Bool, true, false, ◌&&◌, ◌||◌, is_none, is_some, Option, None, Some}
use Rattle.basics.specs.Told.{Rose}
use Rattle.outside.specs.Link.{Seen, Grew, KeepsCodes, own_events}
use Rattle.outside.specs.declared.event.Codes.{Codes}
use Rattle.outside.specs.declared.event.Exit.{Exit}
use Rattle.outside.specs.declared.event.Exit.TheVariants.{Code}
use Rattle.outside.specs.declared.status.Status.{Status}
use Rattle.outside.specs.declared.status.Status.TheVariants as status
use Rattle.attempt_turns.specs.Ends.{IsNotFailed}
use Rattle.attempt_turns.specs.Silence.{Learned, names_codes}
use Rattle.attempt_turns.specs.declared.worker.Moved.{Moved}
use Rattle.attempt_turns.specs.declared.worker.Moved.TheVariants as moved
use Rattle.attempt_turns.specs.declared.worker.Worker.{Worker}

-- The codes were looked for, and these are known now. Nothing was told.
pub record Looked (old new : Seen) (known : Codes) : Type 0 where
  pub grew : Grew old new
  pub events : own_events new ≡ own_events old
  pub keeps : KeepsCodes old.face.codes known
  pub face : new.face ≡ record (old.face) { codes = known }

-- a code became known; or none did, and where one is lacking it was looked for
abbrev pub Learns : Moved → Worker → Seen → Seen → Type 0
Learns moved.Yes w old new = Learned old.face.codes new.face.codes
Learns moved.No w old new = (new.face.codes ≡ old.face.codes) × (names_codes w old.face.codes ≡ true → Rose old.counts.quiet_codes new.counts.quiet_codes)

-- what a failed call of the link makes of an attempt, by the codes that are known
abbrev pub IsFaultEnd : Status → Codes → Type 0
IsFaultEnd (status.SourceFailed exit) codes = (codes.source ≡ Some exit) × (¬ (exit ≡ Code 0))
IsFaultEnd (status.DestFailed exit) codes = (codes.dest ≡ Some exit) × (¬ (exit ≡ Code 0)) × IsNotFailed codes.source
IsFaultEnd status.LinkFault codes = IsNotFailed codes.source × IsNotFailed codes.dest
IsFaultEnd end codes = ⊥

-- the exit of a child that is known to have failed
abbrev pub IsFailedExit : Option Exit → Option Exit → Type 0
IsFailedExit found None = IsNotFailed found
IsFailedExit found (Some exit) = (found ≡ Some exit) × (¬ (exit ≡ Code 0))

-- whether a code became known, by both
abbrev pub LearnedBy : Moved → Codes → Codes → Type 0
LearnedBy moved.Yes old now = Learned old now
LearnedBy moved.No old now = now ≡ old

-- an end of a step, behind which the codes were looked at where the link had failed
abbrev pub EndsBehind : Status → Status → Seen → Seen → Type 0
EndsBehind status.LinkFault end old new = IsFaultEnd end new.face.codes
EndsBehind before end old new = (end ≡ before) × (new ≡ old)
