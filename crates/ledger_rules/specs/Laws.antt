-- Ledgers stand for the events of their attempts.
use Rattle.std.specs.Prelude.{◌≡◌, ℕ, List, [], ◌∷◌, ◌++◌, Option, None, Some, Ok}
use Rattle.basics.specs.declared.stream.StreamId.{StreamId}
use Rattle.stream_index.specs.Distinct.{AreDistinct}
use Rattle.outside.specs.declared.event.Event.{Event}
use Rattle.outside.specs.declared.event.Event.TheVariants as event
use Rattle.outside.specs.declared.faults.Breach.{Breach}
use Rattle.outside.specs.declared.faults.Side.TheVariants as side
use Rattle.load_rules.specs.Lines.{Reading, line_read, lines_read, passes, state_in}
use Rattle.load_rules.specs.Taken.{LaneState}
use Rattle.load_rules.specs.Attempts.{reads}
use Rattle.state_kinds.specs.Saved.{Saved, IsSaved}
use Rattle.sync_rules.specs.Breaches.{breach_of}
use Rattle.sync_rules.specs.Sync.{Takes}
use Rattle.sync_ledger.specs.Judged.{IsEchoed, IsRefused, heard_line, judged}
use Rattle.sync_ledger.specs.Noted.{Noted, gave, nothing_noted, saved_form}
use Rattle.sync_ledger.specs.Told.{told_of}
use Rattle.sync_ledger.specs.declared.verdict.Echoed.{Echoed}
use Rattle.sync_ledger.specs.declared.verdict.Verdict.{Verdict}
use Rattle.ledger_rules.specs.Ledgers.{IsLedgerOf, IsQuiet, breach_in, held_by, is_give, state_taken, taken_by}

-- what a line that comes back takes is what the ledger answers
pub record TakesSo (read : Reading) (events : List Event) (text : List ℕ) (answer : Echoed) : Type 0 where
  pub owed : Option LaneState
  pub takes : Takes read events text owed
  pub is : taken_by answer ≡ state_taken owed

pub record LedgersStand : Type 0 where
  -- a ledger begins with no events
  pub begins : (ids : List StreamId) (start : Saved) (read : Reading) → IsSaved start → IsLedgerOf ids start read [] None (nothing_noted ids (saved_form start))
  -- it refuses exactly the lines that are breaches
  pub judges : (ids : List StreamId) (start : Saved) (read : Reading) (events : List Event) (line : Option (List ℕ)) (noted : Noted) (text : List ℕ)
      → IsSaved start → IsLedgerOf ids start read events line noted → breach_in (judged noted text (read text)) ≡ breach_of ids start (lines_read read (reads events)) (line_read read text)
  -- and has those given that are passed on
  pub passes_on : (ids : List StreamId) (start : Saved) (read : Reading) (events : List Event) (line : Option (List ℕ)) (noted : Noted) (text : List ℕ) (answer : Verdict)
      → IsLedgerOf ids start read events line noted → judged noted text (read text) ≡ Ok answer → is_give answer ≡ passes ids (read text)
  pub reads_on : (ids : List StreamId) (start : Saved) (read : Reading) (events : List Event) (noted : Noted) (text : List ℕ) (answer : Verdict)
      → AreDistinct ids → IsSaved start → IsLedgerOf ids start read events None noted → judged noted text (read text) ≡ Ok answer
      → IsLedgerOf ids start read (events ++ event.ReadLine text ∷ []) (held_by answer text) (heard_line noted text (read text))
  pub gives : (ids : List StreamId) (start : Saved) (read : Reading) (events : List Event) (noted : Noted) (text : List ℕ)
      → IsLedgerOf ids start read events (Some text) noted → IsLedgerOf ids start read (events ++ event.Given text ∷ []) None (gave noted)
  -- a line that is no state, as one that the worker writes by itself, is given and the ledger does not hear of it
  pub completes : (ids : List StreamId) (start : Saved) (read : Reading) (events : List Event) (noted : Noted) (text : List ℕ)
      → state_in (read text) ≡ None → IsLedgerOf ids start read events None noted → IsLedgerOf ids start read (events ++ event.Given text ∷ []) None noted
  -- a line comes back, which takes what it takes in the attempt
  pub gets : (ids : List StreamId) (start : Saved) (read : Reading) (events : List Event) (line : Option (List ℕ)) (noted now : Noted) (text : List ℕ) (answer : Echoed)
      → IsLedgerOf ids start read events line noted → IsEchoed noted (told_of side.Dest text (read text)) answer now → IsLedgerOf ids start read (events ++ event.Got text ∷ []) line now
  pub takes : (ids : List StreamId) (start : Saved) (read : Reading) (events : List Event) (line : Option (List ℕ)) (noted now : Noted) (text : List ℕ) (answer : Echoed)
      → IsLedgerOf ids start read events line noted → IsEchoed noted (told_of side.Dest text (read text)) answer now → TakesSo read events text answer
  -- one that is refused takes nothing
  pub refuses : (ids : List StreamId) (start : Saved) (read : Reading) (events : List Event) (line : Option (List ℕ)) (noted : Noted) (text : List ℕ) (why : Breach)
      → IsLedgerOf ids start read events line noted → IsRefused noted (told_of side.Dest text (read text)) why → Takes read events text None
  -- all other events leave it
  pub goes_on : (ids : List StreamId) (start : Saved) (read : Reading) (events : List Event) (line : Option (List ℕ)) (noted : Noted) (event : Event)
      → IsQuiet event → IsLedgerOf ids start read events line noted → IsLedgerOf ids start read (events ++ event ∷ []) line noted
