-- What a link tells, and what each of its calls adds.
use Rattle.std.specs.Prelude.{◌≡◌, ◌⊎◌, ℕ, ◌≤◌, List, [], ◌∷◌, map, filter, Bool, true, false, ◌&&◌, if◌then◌else◌, Option, None, Some, option_map, is_some, Result, Ok, Err, MatchBool}
use Rattle.std.specs.List.{AllByRecursion}
use Rattle.basics.specs.Told.{told_by, told_more, Rose}
use Rattle.outside.specs.Event.{is_links, read_over, got_over}
use Rattle.outside.specs.declared.event.Event.{Event}
use Rattle.outside.specs.declared.event.Event.TheVariants.{ReadLine, ReadEnd, Given, Got, GotEnd, Ended}
use Rattle.outside.specs.declared.event.Codes.{Codes}
use Rattle.outside.specs.declared.event.Exit.{Exit}
use Rattle.outside.specs.declared.fault.Fault.{Fault}
use Rattle.outside.specs.declared.fault.Fault.TheVariants as fault
use Rattle.outside.specs.declared.link.LinkCounts.{LinkCounts}
use Rattle.outside.specs.declared.link.LinkFace.{LinkFace}
use Rattle.outside.specs.declared.link.PollKind.{PollKind}
use Rattle.outside.specs.declared.link.PollKind.TheVariants as kind
use Rattle.outside.specs.declared.link.Polled.{Polled}
use Rattle.outside.specs.declared.link.Polled.TheVariants as polled
use Rattle.outside.specs.declared.link.Offered.{Offered}
use Rattle.outside.specs.declared.link.Offered.TheVariants as offered

-- an event, with all counts of the object as they stood when it was added
pub record Told (E C : Type 0) : Type 0 where
  pub event : E
  pub counts : C

-- what contracts see of a link; only the trace may be untold
pub record Seen : Type 0 where
  pub trace : Option (List (Told Event LinkCounts))
  pub counts : LinkCounts
  pub face : LinkFace

-- the events that the link added by itself
abbrev pub own_events : Seen → Option (List Event)
own_events seen = option_map (λ trace. filter is_links (map (λ told. told.event) trace)) seen.trace

-- no count has fallen
pub record NoneAbove (low high : LinkCounts) : Type 0 where
  pub state_faults : low.state_faults ≤ high.state_faults
  pub link_faults : low.link_faults ≤ high.link_faults
  pub quiet_source : low.quiet_source ≤ high.quiet_source
  pub quiet_dest : low.quiet_dest ≤ high.quiet_dest
  pub quiet_codes : low.quiet_codes ≤ high.quiet_codes
  pub waits : low.waits ≤ high.waits

-- the event was told with counts between these
pub record IsBetween (low high : LinkCounts) (told : Told Event LinkCounts) : Type 0 where
  pub not_below : NoneAbove low told.counts
  pub not_above : NoneAbove told.counts high

-- No event was taken away, each new one is told with counts of this call, and no count has fallen. Among the new
-- ones there may be a destination's.
pub record Grew (old new : Seen) : Type 0 where
  pub counts : NoneAbove old.counts new.counts
  pub more : List (Told Event LinkCounts)
  pub grew : new.trace ≡ told_more more old.trace
  pub timed : AllByRecursion (IsBetween old.counts new.counts) more

-- the event was added where the call is Ok, and at Failed it was or was not
abbrev pub AddsOn : {T : Type 0} → Result T Fault → Event → Option (List Event) → Option (List Event) → Type 0
AddsOn (Ok done) event before now = now ≡ told_more (event ∷ []) before
AddsOn (Err fault.Failed) event before now = (now ≡ before) ⊎ (now ≡ told_more (event ∷ []) before)
AddsOn (Err fault.NoMemory) event before now = now ≡ before

-- a line or a torn piece of the source was read, and its first end of the attempt
abbrev pub ReadAdds : Polled → Option (List Event) → Option (List Event) → Type 0
ReadAdds (polled.Line line) before now = now ≡ told_more (ReadLine line ∷ []) before
ReadAdds (polled.Torn line) before now = now ≡ told_more (ReadLine line ∷ []) before
ReadAdds polled.TooLong before now = now ≡ before
ReadAdds polled.NotYet before now = now ≡ before
ReadAdds polled.End before now = now ≡ told_by (λ events. if read_over events then [] else ReadEnd ∷ []) before
ReadAdds polled.Failed before now = now ≡ before
ReadAdds polled.NoMemory before now = now ≡ before

-- the same of the destination
abbrev pub GotAdds : Polled → Option (List Event) → Option (List Event) → Type 0
GotAdds (polled.Line line) before now = now ≡ told_more (Got line ∷ []) before
GotAdds (polled.Torn line) before now = now ≡ told_more (Got line ∷ []) before
GotAdds polled.TooLong before now = now ≡ before
GotAdds polled.NotYet before now = now ≡ before
GotAdds polled.End before now = now ≡ told_by (λ events. if got_over events then [] else GotEnd ∷ []) before
GotAdds polled.Failed before now = now ≡ before
GotAdds polled.NoMemory before now = now ≡ before

-- the line was given where it was taken
abbrev pub OfferAdds : Offered → List ℕ → Option (List Event) → Option (List Event) → Type 0
OfferAdds offered.Taken line before now = now ≡ told_more (Given line ∷ []) before
OfferAdds offered.NotYet line before now = now ≡ before
OfferAdds offered.Failed line before now = now ≡ before
OfferAdds offered.NoMemory line before now = now ≡ before

-- a code that was given stays
abbrev pub KeepsExit : Option Exit → Option Exit → Type 0
KeepsExit None now = Unit {0}
KeepsExit (Some exit) now = now ≡ Some exit

pub record KeepsCodes (before now : Codes) : Type 0 where
  pub source : KeepsExit before.source now.source
  pub dest : KeepsExit before.dest now.dest

-- the end of both children was added, with each code that was known
pub record AddsEnd (known : Codes) (before now : Option (List Event)) : Type 0 where
  pub codes : Codes
  pub keeps : KeepsCodes known codes
  pub added : now ≡ told_more (Ended codes ∷ []) before

-- a stop adds the end where children were running
abbrev pub StopAdds : {T : Type 0} → Result T Fault → Bool → Codes → Option (List Event) → Option (List Event) → Type 0
StopAdds (Ok done) true known before now = AddsEnd known before now
StopAdds (Err fault.Failed) true known before now = (now ≡ before) ⊎ AddsEnd known before now
StopAdds (Err fault.NoMemory) true known before now = now ≡ before
StopAdds result false known before now = now ≡ before

abbrev pub no_codes : Codes
no_codes = record { source = None; dest = None }

abbrev pub kind_of : Polled → PollKind
kind_of (polled.Line line) = kind.Line
kind_of (polled.Torn line) = kind.Torn
kind_of polled.TooLong = kind.TooLong
kind_of polled.NotYet = kind.Other
kind_of polled.End = kind.Other
kind_of polled.Failed = kind.Other
kind_of polled.NoMemory = kind.Other

-- The face after a start: both open and nothing polled where it is Ok, both shut where it is not; no code is known.
abbrev pub started_face : {T : Type 0} → Result T Fault → LinkFace → LinkFace
started_face (Ok done) face = record { running = true; input_open = true; codes = no_codes; source_poll = kind.Other; dest_poll = kind.Other }
started_face (Err fault) face = record face { running = false; input_open = false; codes = no_codes }

abbrev pub stopped_face : LinkFace → LinkFace
stopped_face face = record face { running = false; input_open = false }

-- the count of quiet answers rose at NotYet, and stayed else
abbrev pub QuietPoll : Polled → ℕ → ℕ → Type 0
QuietPoll (polled.Line line) before now = now ≡ before
QuietPoll (polled.Torn line) before now = now ≡ before
QuietPoll polled.TooLong before now = now ≡ before
QuietPoll polled.NotYet before now = Rose before now
QuietPoll polled.End before now = now ≡ before
QuietPoll polled.Failed before now = now ≡ before
QuietPoll polled.NoMemory before now = now ≡ before

abbrev pub QuietOffer : Offered → ℕ → ℕ → Type 0
QuietOffer offered.Taken before now = now ≡ before
QuietOffer offered.NotYet before now = Rose before now
QuietOffer offered.Failed before now = now ≡ before
QuietOffer offered.NoMemory before now = now ≡ before

-- the count of unknown codes rose where one is unknown, and stayed else
abbrev pub QuietCodes : Codes → ℕ → ℕ → Type 0
QuietCodes codes before now = MatchBool (is_some codes.source && is_some codes.dest) (now ≡ before) (Rose before now)
