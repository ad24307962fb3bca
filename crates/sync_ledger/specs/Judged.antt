-- What is to be done with a line.
use Rattle.std.specs.Prelude.{◌≡◌, ℕ, ◌<◌, List, Option, None, Some, Result, Ok, Err, length, nat_lt, nat_eq, if◌then◌else◌}
use Rattle.std.specs.List.{AllByRecursion}
use Rattle.json_fields.specs.Answer.{IsAnswer}
use Rattle.basics.specs.declared.limits.TheConstants.{LONGEST_LINE}
use Rattle.outside.specs.declared.faults.Breach.{Breach}
use Rattle.outside.specs.declared.faults.Breach.TheVariants as breach
use Rattle.outside.specs.declared.faults.Side.TheVariants as side
use Rattle.airbyte_message.specs.Lanes.{Lane, lane_of}
use Rattle.airbyte_message.specs.Messages.{IsMessage}
use Rattle.airbyte_message.specs.State.{State}
use Rattle.airbyte_message.specs.declared.message.Message.{Message}
use Rattle.sync_ledger.specs.Accounts.{account_of, lane_in, left_pending, with_lane}
use Rattle.sync_ledger.specs.Noted.{Noted, form_of, heard, is_other_form, pending_in}
use Rattle.sync_ledger.specs.Takes.{DiffersFrom, TakesState}
use Rattle.sync_ledger.specs.Told.{echoed_of, told_of, verdict_of}
use Rattle.sync_ledger.specs.declared.accounts.Account.{Account}
use Rattle.sync_ledger.specs.declared.accounts.LaneAccount.{LaneAccount}
use Rattle.sync_ledger.specs.declared.pending.Pending.{Pending}
use Rattle.sync_ledger.specs.declared.told.Told.{Told}
use Rattle.sync_ledger.specs.declared.told.Told.TheVariants as told
use Rattle.sync_ledger.specs.declared.verdict.Verdict.{Verdict}
use Rattle.sync_ledger.specs.declared.verdict.Verdict.TheVariants as verdict
use Rattle.sync_ledger.specs.declared.verdict.LedgerFault.{LedgerFault}
use Rattle.sync_ledger.specs.declared.verdict.LedgerFault.TheVariants as fault
use Rattle.sync_ledger.specs.declared.verdict.Echoed.{Echoed}
use Rattle.sync_ledger.specs.declared.verdict.Echoed.TheVariants as echoed

-- ---- a line of the source

abbrev pub judged_account : Option Account → Result Verdict Breach
judged_account None = Err breach.UnknownStream
judged_account (Some account) = Ok verdict.Give

-- a count that is told is the number of records of the lane since its state before
abbrev pub judged_count : Option ℕ → ℕ → Result Verdict Breach
judged_count None counted = Ok verdict.Give
judged_count (Some said) counted = if nat_eq said counted then Ok verdict.Give else Err (breach.Miscount said counted)

abbrev pub judged_lane : Option ℕ → Option LaneAccount → Result Verdict Breach
judged_lane count None = Err breach.UnknownStream
judged_lane count (Some account) = judged_count count account.since

-- states of an attempt are of one form, which is that of the saved states
abbrev pub judged_in : Noted → Option ℕ → Option Lane → Result Verdict Breach
judged_in noted count None = Err breach.Legacy
judged_in noted count (Some lane) = if is_other_form (form_of lane) noted.form then Err breach.Mixed else judged_lane count (lane_in noted.ids noted.accounts lane)

abbrev pub judged_status : Option Account → Verdict
judged_status None = verdict.Nothing
judged_status (Some account) = verdict.Give

abbrev pub judged_told : Noted → Told → Result Verdict Breach
judged_told noted (told.Record id) = judged_account (account_of noted.ids id noted.accounts.streams)
judged_told noted (told.State state) = judged_in noted state.source_count (lane_of state.kind)
judged_told noted (told.Status id status) = Ok (judged_status (account_of noted.ids id noted.accounts.streams))
judged_told noted (told.Other saying) = Ok (verdict_of saying)

-- What is to be done with a line of the source that reads as this message, or as none; or why it is refused, which is the first
-- in the order too long, Legacy, mixed, of an unknown stream, miscounted.
abbrev pub judged : Noted → List ℕ → Option Message → Result Verdict Breach
judged noted line found = if nat_lt LONGEST_LINE (length line) then Err breach.TooLong else judged_told noted (told_of side.Source line found)

-- what the ledger knows then, where it is not refused
abbrev pub heard_line : Noted → List ℕ → Option Message → Noted
heard_line noted line found = heard noted (told_of side.Source line found)

pub record Hears (before : Noted) (line : List ℕ) (answer : Verdict) (now : Noted) : Type 0 where
  pub found : Option Message
  pub reads : IsAnswer (IsMessage line) found
  pub judges : judged before line found ≡ Ok answer
  pub notes : now ≡ heard_line before line found

pub record RefusesMessage (before : Noted) (line : List ℕ) (why : Breach) : Type 0 where
  pub found : Option Message
  pub reads : IsAnswer (IsMessage line) found
  pub judges : judged before line found ≡ Err why

-- a line that is too long is not read
abbrev pub Refuses : Noted → List ℕ → Breach → Type 0
Refuses before line breach.TooLong = LONGEST_LINE < length line
Refuses before line why = RefusesMessage before line why

-- ---- a line of the destination

-- a state that takes this state of the source
pub record TakesBack (before : Noted) (got taken : State) (now : Noted) : Type 0 where
  pub lane : Lane
  pub of_lane : lane_of got.kind ≡ Some lane
  pub left : List Pending
  pub takes : TakesState (pending_in before lane) got taken left
  pub notes : now ≡ record before { accounts = with_lane before.ids before.accounts lane (left_pending left) }

abbrev pub IsEchoed : Noted → Told → Echoed → Noted → Type 0
IsEchoed before (told.State got) (echoed.State taken) now = TakesBack before got taken now
IsEchoed before (told.Other saying) answer now = (answer ≡ echoed_of saying) × (now ≡ before)
IsEchoed before (told.Record id) answer now = (answer ≡ echoed.Nothing) × (now ≡ before)
IsEchoed before (told.Status id status) answer now = (answer ≡ echoed.Nothing) × (now ≡ before)
IsEchoed before (told.State got) answer now = ⊥

pub record Echoes (before : Noted) (line : List ℕ) (answer : Echoed) (now : Noted) : Type 0 where
  pub found : Option Message
  pub reads : IsAnswer (IsMessage line) found
  pub is : IsEchoed before (told_of side.Dest line found) answer now

-- a state that is the same as none that is pending in its lane
pub record IsStranger (before : Noted) (got : State) : Type 0 where
  pub lane : Lane
  pub of_lane : lane_of got.kind ≡ Some lane
  pub others : AllByRecursion (DiffersFrom got) (pending_in before lane)

abbrev pub IsRefused : Noted → Told → Breach → Type 0
IsRefused before (told.State got) breach.Stranger = IsStranger before got
IsRefused before (told.State got) breach.Legacy = lane_of got.kind ≡ None
IsRefused before heard why = ⊥

pub record RefusesBack (before : Noted) (line : List ℕ) (why : Breach) : Type 0 where
  pub found : Option Message
  pub reads : IsAnswer (IsMessage line) found
  pub is : IsRefused before (told_of side.Dest line found) why

-- ---- with want of memory, which is free

abbrev pub RefusesLine : Noted → List ℕ → LedgerFault → Type 0
RefusesLine before line (fault.Breach why) = Refuses before line why
RefusesLine before line fault.NoMemory = Unit {0}

abbrev pub RefusesBackLine : Noted → List ℕ → LedgerFault → Type 0
RefusesBackLine before line (fault.Breach why) = RefusesBack before line why
RefusesBackLine before line fault.NoMemory = Unit {0}
