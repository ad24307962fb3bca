-- For private clauses: what every ledger keeps, and accounts by their places.
use Rattle.std.specs.Prelude.{◌≡◌, ℕ, zero, suc, ◌+◌, ◌<◌, ◌≤◌, List, [], ◌∷◌, length, slice_get, Option, None, Some, option_map, Result, Ok, Err}
use Rattle.std.specs.List.{AllByRecursion}
use Rattle.basics.specs.declared.limits.TheConstants.{MOST_STREAMS}
use Rattle.basics.specs.declared.stream.StreamId.{StreamId}
use Rattle.stream_index.specs.Distinct.{AreDistinct}
use Rattle.json_fields.specs.Answer.{IsAnswer}
use Rattle.outside.specs.declared.faults.Breach.TheVariants as breach
use Rattle.outside.specs.declared.faults.Side.{Side}
use Rattle.airbyte_message.specs.Lanes.{Lane, one, all, lane_of}
use Rattle.airbyte_message.specs.Messages.{IsMessage}
use Rattle.airbyte_message.specs.State.{State}
use Rattle.airbyte_message.specs.declared.message.Message.{Message}
use Rattle.sync_ledger.specs.Accounts.{AllAccounts, changed_lane, left_pending, none_since, pending_of}
use Rattle.sync_ledger.specs.Noted.{Noted, counted, heard, heard_in}
use Rattle.sync_ledger.specs.Judged.{IsRefused, judged_in, judged_told}
use Rattle.sync_ledger.specs.Told.{told_of}
use Rattle.sync_ledger.specs.Takes.{LeavesPending}
use Rattle.sync_ledger.specs.declared.accounts.Account.{Account}
use Rattle.sync_ledger.specs.declared.accounts.LaneAccount.{LaneAccount}
use Rattle.sync_ledger.specs.declared.accounts.LanePlace.{LanePlace}
use Rattle.sync_ledger.specs.declared.accounts.LanePlace.TheVariants as place
use Rattle.sync_ledger.specs.declared.form.StateForm.{StateForm}
use Rattle.sync_ledger.specs.declared.form.StateForm.TheVariants as form
use Rattle.sync_ledger.specs.declared.notes.TheConstants.{MOST_LINES}
use Rattle.sync_ledger.specs.declared.pending.Pending.{Pending}
use Rattle.sync_ledger.specs.declared.told.Told.{Told}
use Rattle.sync_ledger.specs.declared.verdict.Verdict.{Verdict}
use Rattle.sync_ledger.specs.declared.verdict.Verdict.TheVariants as verdict
use Rattle.sync_ledger.specs.declared.verdict.Echoed.{Echoed}
use Rattle.sync_ledger.specs.declared.verdict.Echoed.TheVariants as echoed
use Rattle.sync_ledger.specs.declared.verdict.LedgerFault.{LedgerFault}
use Rattle.sync_ledger.specs.declared.verdict.LedgerFault.TheVariants as fault

-- a lane counts no more records than there were lines, and no more states with those that are held
pub record IsLaneWithin (lines held : ℕ) (account : LaneAccount) : Type 0 where
  pub since : account.since ≤ lines
  pub pending : length account.pending + held ≤ lines

pub record IsWithin (lines held : ℕ) (account : Account) : Type 0 where
  pub records : account.records ≤ lines
  pub lane : IsLaneWithin lines held account.lane

pub record AreWithin (lines held : ℕ) (accounts : AllAccounts) : Type 0 where
  pub streams : AllByRecursion (IsWithin lines held) accounts.streams
  pub global : IsLaneWithin lines held accounts.global

pub record IsKept (noted : Noted) : Type 0 where
  pub distinct : AreDistinct noted.ids
  pub few : length noted.ids ≤ MOST_STREAMS
  pub streams : length noted.accounts.streams ≡ length noted.ids
  pub lines : noted.lines ≤ MOST_LINES
  pub held : length noted.held ≤ 1
  pub within : AreWithin noted.lines (length noted.held) noted.accounts

-- ---- accounts by their places

abbrev pub HasPlace : AllAccounts → LanePlace → Type 0
HasPlace accounts (place.Stream n) = n < length accounts.streams
HasPlace accounts place.Global = Unit {0}

abbrev pub place_form : LanePlace → StateForm
place_form (place.Stream n) = form.Stream
place_form place.Global = form.Global

-- where the account of a lane stands; None where it has none
abbrev pub IsPlaceOf : List StreamId → Option Lane → Option LanePlace → Type 0
IsPlaceOf ids (Some (one id)) (Some (place.Stream n)) = slice_get ids n ≡ Some id
IsPlaceOf ids (Some (one id)) None = (n : ℕ) → ¬ (slice_get ids n ≡ Some id)
IsPlaceOf ids (Some (one id)) (Some place.Global) = ⊥
IsPlaceOf ids (Some all) (Some place.Global) = Unit {0}
IsPlaceOf ids (Some all) other = ⊥
IsPlaceOf ids None found = found ≡ None

abbrev pub IsPlaceOfHeld : List StreamId → List Pending → Option LanePlace → Type 0
IsPlaceOfHeld ids [] found = found ≡ None
IsPlaceOfHeld ids (pending ∷ more) found = IsPlaceOf ids (lane_of pending.state.kind) found

abbrev pub lane_at : AllAccounts → LanePlace → Option LaneAccount
lane_at accounts (place.Stream n) = option_map (λ account. account.lane) (slice_get accounts.streams n)
lane_at accounts place.Global = Some accounts.global

abbrev pub changed_nth : (Account → Account) → List Account → ℕ → List Account
changed_nth change [] n = []
changed_nth change (account ∷ accounts) zero = change account ∷ accounts
changed_nth change (account ∷ accounts) (suc n) = account ∷ changed_nth change accounts n

abbrev pub changed_at : (LaneAccount → LaneAccount) → AllAccounts → LanePlace → AllAccounts
changed_at change accounts (place.Stream n) = record accounts { streams = changed_nth (changed_lane change) accounts.streams n }
changed_at change accounts place.Global = record accounts { global = change accounts.global }

pub record LeavesAt (old : AllAccounts) (at : LanePlace) (got : State) (taken : Option State) (new : AllAccounts) : Type 0 where
  pub left : List Pending
  pub takes : LeavesPending (pending_of (lane_at old at)) got taken left
  pub shorter : length left ≤ length (pending_of (lane_at old at))
  pub is : new ≡ changed_at (left_pending left) old at

abbrev pub state_noted : State → LanePlace → Noted → Noted
state_noted state at noted = record (counted noted) { accounts = changed_at none_since noted.accounts at; form = Some (place_form at); held = record { state = state; line = noted.lines + 1 } ∷ [] }

-- a state that is not refused, whose lane has its account here
pub record GivesState (noted : Noted) (state : State) (at : LanePlace) : Type 0 where
  pub has : HasPlace noted.accounts at
  pub judges : judged_in noted state.source_count (lane_of state.kind) ≡ Ok verdict.Give
  pub notes : state_noted state at noted ≡ heard_in state noted (lane_of state.kind)

-- ---- what a line tells is judged

pub record HearsTold (before : Noted) (heard_is : Told) (answer : Verdict) (now : Noted) : Type 0 where
  pub judges : judged_told before heard_is ≡ Ok answer
  pub notes : now ≡ heard before heard_is

abbrev pub RefusesTold : Noted → Told → LedgerFault → Type 0
RefusesTold before heard_is (fault.Breach why) = judged_told before heard_is ≡ Err why
RefusesTold before heard_is fault.NoMemory = Unit {0}

abbrev pub RefusesBackTold : Noted → Told → LedgerFault → Type 0
RefusesBackTold before heard_is (fault.Breach why) = IsRefused before heard_is why
RefusesBackTold before heard_is fault.NoMemory = Unit {0}

-- what a line of a side tells
pub record ReadsTold (from : Side) (line : List ℕ) (heard_is : Told) : Type 0 where
  pub found : Option Message
  pub reads : IsAnswer (IsMessage line) found
  pub is : heard_is ≡ told_of from line found

-- a state of the destination that takes this one, if any
abbrev pub taken_answer : Option State → Result Echoed LedgerFault
taken_answer (Some taken) = Ok (echoed.State taken)
taken_answer None = Err (fault.Breach breach.Stranger)
