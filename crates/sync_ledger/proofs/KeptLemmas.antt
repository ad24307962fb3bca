-- What every ledger keeps stays, whatever is noted.
use Rattle.std.proofs.Common.{arith, ◌≡◌, ℕ, ◌+◌, ◌<◌, ◌≤◌, List, [], ◌∷◌, length, length-append, Option, Some, option_map, refl, ◌∙◌, ap}
use Rattle.airbyte_message.specs.declared.stream_status.StreamStatus.{StreamStatus}
use Rattle.sync_ledger.specs.Accounts.{AllAccounts, changed_lane, left_pending, more_since, none_since, pending_of, with_pending, with_record, with_status}
use Rattle.sync_ledger.specs.Noted.{Noted}
use Rattle.sync_ledger.specs.Kept.{AreWithin, IsKept, IsLaneWithin, IsWithin, changed_at, changed_nth, lane_at}
use Rattle.sync_ledger.specs.declared.accounts.Account.{Account}
use Rattle.sync_ledger.specs.declared.accounts.LaneAccount.{LaneAccount}
use Rattle.sync_ledger.specs.declared.accounts.LanePlace.{LanePlace}
use Rattle.sync_ledger.specs.declared.accounts.LanePlace.TheVariants as place
use Rattle.sync_ledger.specs.declared.form.StateForm.{StateForm}
use Rattle.sync_ledger.specs.declared.notes.TheConstants.{MOST_LINES}
use Rattle.sync_ledger.specs.declared.pending.Pending.{Pending}
use Rattle.sync_ledger.proofs.AccountLemmas.{all_changed, all_same, changed_length}

lane_more : (lines held lines' held' : ℕ) (account : LaneAccount) → lines ≤ lines' → lines + held' ≤ lines' + held → IsLaneWithin lines held account → IsLaneWithin lines' held' account
lane_more lines held lines' held' account more room within = record { since = omega (arith, within.since, more); pending = omega (arith, within.pending, room) }

stream_more : (lines held lines' held' : ℕ) (account : Account) → lines ≤ lines' → lines + held' ≤ lines' + held → IsWithin lines held account → IsWithin lines' held' account
stream_more lines held lines' held' account more room within = record { records = omega (arith, within.records, more); lane = lane_more lines held lines' held' account.lane more room within.lane }

-- the same accounts behind another line
pub same_within : (lines held lines' held' : ℕ) (accounts : AllAccounts) → lines ≤ lines' → lines + held' ≤ lines' + held → AreWithin lines held accounts → AreWithin lines' held' accounts
same_within lines held lines' held' accounts more room within = record {
  streams = all_same (IsWithin lines held) (IsWithin lines' held') accounts.streams (λ account. stream_more lines held lines' held' account more room) within.streams;
  global = lane_more lines held lines' held' accounts.global more room within.global;
}

counted_lane : (lines held : ℕ) (account : LaneAccount) → IsLaneWithin lines held account → IsLaneWithin (lines + 1) 0 (more_since account)
counted_lane lines held account within = record { since = omega (arith, within.since); pending = omega (arith, within.pending) }

-- a record more
pub record_within : (lines held n : ℕ) (accounts : AllAccounts) → AreWithin lines held accounts → AreWithin (lines + 1) 0 (record { streams = changed_nth with_record accounts.streams n; global = more_since accounts.global })
record_within lines held n accounts within = record {
  streams = all_changed (IsWithin lines held) (IsWithin (lines + 1) 0) with_record accounts.streams n
      (λ account. stream_more lines held (lines + 1) 0 account (omega arith) (omega arith))
      (λ account at is. record { records = omega (arith, is.records); lane = counted_lane lines held account.lane is.lane })
      within.streams;
  global = counted_lane lines held accounts.global within.global;
}

-- a status
pub status_within : (lines held n : ℕ) (status : StreamStatus) (accounts : AllAccounts) → AreWithin lines held accounts → AreWithin (lines + 1) 0 (record accounts { streams = changed_nth (with_status status) accounts.streams n })
status_within lines held n status accounts within = record {
  streams = all_changed (IsWithin lines held) (IsWithin (lines + 1) 0) (with_status status) accounts.streams n
      (λ account. stream_more lines held (lines + 1) 0 account (omega arith) (omega arith))
      (λ account at is. record { records = omega (arith, is.records); lane = lane_more lines held (lines + 1) 0 account.lane (omega arith) (omega arith) is.lane })
      within.streams;
  global = lane_more lines held (lines + 1) 0 accounts.global (omega arith) (omega arith) within.global;
}

-- one lane changed, where what is asked of it stays
lane_within : (lines held lines' held' : ℕ) (change : LaneAccount → LaneAccount) (accounts : AllAccounts) (at : LanePlace) → lines ≤ lines' → lines + held' ≤ lines' + held
    → ((account : LaneAccount) → lane_at accounts at ≡ Some account → IsLaneWithin lines held account → IsLaneWithin lines' held' (change account))
    → AreWithin lines held accounts → AreWithin lines' held' (changed_at change accounts at)
lane_within lines held lines' held' change accounts (place.Stream n) more room changes within = record {
  streams = all_changed (IsWithin lines held) (IsWithin lines' held') (changed_lane change) accounts.streams n
      (λ account. stream_more lines held lines' held' account more room)
      (λ account at is. record { records = omega (arith, is.records, more); lane = changes account.lane (ap (λ (found : Option Account). option_map (λ account. account.lane) found) at) is.lane })
      within.streams;
  global = lane_more lines held lines' held' accounts.global more room within.global;
}
lane_within lines held lines' held' change accounts place.Global more room changes within = record {
  streams = all_same (IsWithin lines held) (IsWithin lines' held') accounts.streams (λ account. stream_more lines held lines' held' account more room) within.streams;
  global = changes accounts.global refl within.global;
}

-- a state that is to be given
pub state_within : (lines held : ℕ) (accounts : AllAccounts) (at : LanePlace) → AreWithin lines held accounts → AreWithin (lines + 1) 1 (changed_at none_since accounts at)
state_within lines held accounts at within = lane_within lines held (lines + 1) 1 none_since accounts at (omega arith) (omega arith) (λ account found is. record { since = omega arith; pending = omega (arith, is.pending) }) within

-- states that were given
pub given_within : (lines : ℕ) (more : List Pending) (accounts : AllAccounts) (at : LanePlace) → AreWithin lines (length more) accounts → AreWithin lines 0 (changed_at (with_pending more) accounts at)
given_within lines more accounts at within = lane_within lines (length more) lines 0 (with_pending more) accounts at (omega arith) (omega arith)
    (λ account found is. record { since = is.since; pending = let long = length-append account.pending more in omega (arith, is.pending, long) }) within

-- some states less
pub left_within : (lines held : ℕ) (left : List Pending) (accounts : AllAccounts) (at : LanePlace) → length left ≤ length (pending_of (lane_at accounts at)) → AreWithin lines held accounts → AreWithin lines held (changed_at (left_pending left) accounts at)
left_within lines held left accounts at shorter within = lane_within lines held lines held (left_pending left) accounts at (omega arith) (omega arith)
    (λ account found is. record { since = is.since; pending = let same = ap (λ (l : Option LaneAccount). length (pending_of l)) found in omega (arith, is.pending, shorter, same) }) within

changed_streams : (change : LaneAccount → LaneAccount) (accounts : AllAccounts) (at : LanePlace) → length (changed_at change accounts at).streams ≡ length accounts.streams
changed_streams change accounts (place.Stream n) = changed_length (changed_lane change) accounts.streams n
changed_streams change accounts place.Global = refl

-- ---- what is kept

-- another line
kept_more : (noted : Noted) (accounts : AllAccounts) (form : Option StateForm) (held : List Pending) → IsKept noted → noted.lines < MOST_LINES → length accounts.streams ≡ length noted.accounts.streams → length held ≤ 1 → AreWithin (noted.lines + 1) (length held) accounts
    → IsKept (record { ids = noted.ids; accounts = accounts; form = form; lines = noted.lines + 1; held = held })
kept_more noted accounts form held kept room same few within = record {
  distinct = kept.distinct;
  few = kept.few;
  streams = same ∙ kept.streams;
  lines = omega (arith, room);
  held = few;
  within = within;
}

pub kept_record : (noted : Noted) (n : ℕ) → IsKept noted → noted.lines < MOST_LINES → IsKept (record { ids = noted.ids; accounts = record { streams = changed_nth with_record noted.accounts.streams n; global = more_since noted.accounts.global }; form = noted.form; lines = noted.lines + 1; held = [] })
kept_record noted n kept room = kept_more noted (record { streams = changed_nth with_record noted.accounts.streams n; global = more_since noted.accounts.global }) noted.form [] kept room (changed_length with_record noted.accounts.streams n) (omega arith) (record_within noted.lines (length noted.held) n noted.accounts kept.within)

pub kept_status : (noted : Noted) (n : ℕ) (status : StreamStatus) → IsKept noted → noted.lines < MOST_LINES → IsKept (record { ids = noted.ids; accounts = record noted.accounts { streams = changed_nth (with_status status) noted.accounts.streams n }; form = noted.form; lines = noted.lines + 1; held = [] })
kept_status noted n status kept room = kept_more noted (record noted.accounts { streams = changed_nth (with_status status) noted.accounts.streams n }) noted.form [] kept room (changed_length (with_status status) noted.accounts.streams n) (omega arith) (status_within noted.lines (length noted.held) n status noted.accounts kept.within)

pub kept_other : (noted : Noted) → IsKept noted → noted.lines < MOST_LINES → IsKept (record { ids = noted.ids; accounts = noted.accounts; form = noted.form; lines = noted.lines + 1; held = noted.held })
kept_other noted kept room = kept_more noted noted.accounts noted.form noted.held kept room refl kept.held (same_within noted.lines (length noted.held) (noted.lines + 1) (length noted.held) noted.accounts (omega arith) (omega arith) kept.within)

pub kept_state : (noted : Noted) (at : LanePlace) (form : Option StateForm) (state : Pending) → IsKept noted → noted.lines < MOST_LINES → IsKept (record { ids = noted.ids; accounts = changed_at none_since noted.accounts at; form = form; lines = noted.lines + 1; held = state ∷ [] })
kept_state noted at form state kept room = kept_more noted (changed_at none_since noted.accounts at) form (state ∷ []) kept room (changed_streams none_since noted.accounts at) (omega arith) (state_within noted.lines (length noted.held) noted.accounts at kept.within)

pub kept_given : (noted : Noted) (at : LanePlace) → IsKept noted → IsKept (record { ids = noted.ids; accounts = changed_at (with_pending noted.held) noted.accounts at; form = noted.form; lines = noted.lines; held = [] })
kept_given noted at kept = record {
  distinct = kept.distinct;
  few = kept.few;
  streams = changed_streams (with_pending noted.held) noted.accounts at ∙ kept.streams;
  lines = kept.lines;
  held = omega arith;
  within = given_within noted.lines noted.held noted.accounts at kept.within;
}

pub kept_none : (noted : Noted) → IsKept noted → IsKept (record { ids = noted.ids; accounts = noted.accounts; form = noted.form; lines = noted.lines; held = [] })
kept_none noted kept = record {
  distinct = kept.distinct;
  few = kept.few;
  streams = kept.streams;
  lines = kept.lines;
  held = omega arith;
  within = same_within noted.lines (length noted.held) noted.lines 0 noted.accounts (omega arith) (omega arith) kept.within;
}

pub kept_left : (noted : Noted) (at : LanePlace) (left : List Pending) → length left ≤ length (pending_of (lane_at noted.accounts at)) → IsKept noted → IsKept (record { ids = noted.ids; accounts = changed_at (left_pending left) noted.accounts at; form = noted.form; lines = noted.lines; held = noted.held })
kept_left noted at left shorter kept = record {
  distinct = kept.distinct;
  few = kept.few;
  streams = changed_streams (left_pending left) noted.accounts at ∙ kept.streams;
  lines = kept.lines;
  held = kept.held;
  within = left_within noted.lines (length noted.held) left noted.accounts at shorter kept.within;
}
