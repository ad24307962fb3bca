-- An account of each stream of a catalog, and one of the lane of all streams.
use Rattle.std.specs.Prelude.{ℕ, ◌+◌, List, [], ◌∷◌, ◌++◌, map, flat_map, Option, None, Some, option_map, if◌then◌else◌}
use Rattle.basics.specs.declared.stream.StreamId.{StreamId}
use Rattle.stream_index.specs.Same.{is_same_stream}
use Rattle.airbyte_message.specs.Lanes.{Lane, one, all}
use Rattle.airbyte_message.specs.declared.stream_status.StreamStatus.{StreamStatus}
use Rattle.sync_ledger.specs.declared.accounts.Account.{Account}
use Rattle.sync_ledger.specs.declared.accounts.LaneAccount.{LaneAccount}
use Rattle.sync_ledger.specs.declared.pending.Pending.{Pending}

pub record AllAccounts : Type 0 where
  -- one for each stream, in the catalog's order
  pub streams : List Account
  pub global : LaneAccount

-- the account of a stream; one that the catalog lacks has none
abbrev pub account_of : List StreamId → StreamId → List Account → Option Account
account_of [] id accounts = None
account_of (own ∷ ids) id [] = None
account_of (own ∷ ids) id (account ∷ accounts) = if is_same_stream own id then Some account else account_of ids id accounts

-- the accounts with that of one stream changed
abbrev pub with_account : List StreamId → StreamId → (Account → Account) → List Account → List Account
with_account [] id change accounts = accounts
with_account (own ∷ ids) id change [] = []
with_account (own ∷ ids) id change (account ∷ accounts) = if is_same_stream own id then change account ∷ accounts else account ∷ with_account ids id change accounts

-- the account of a lane
abbrev pub lane_in : List StreamId → AllAccounts → Lane → Option LaneAccount
lane_in ids accounts (one id) = option_map (λ account. account.lane) (account_of ids id accounts.streams)
lane_in ids accounts all = Some accounts.global

abbrev pub changed_lane : (LaneAccount → LaneAccount) → Account → Account
changed_lane change account = record account { lane = change account.lane }

-- the accounts with that of one lane changed
abbrev pub with_lane : List StreamId → AllAccounts → Lane → (LaneAccount → LaneAccount) → AllAccounts
with_lane ids accounts (one id) change = record accounts { streams = with_account ids id (changed_lane change) accounts.streams }
with_lane ids accounts all change = record accounts { global = change accounts.global }

-- the states of a lane that were given and that no state of the destination took or passed over, in order
abbrev pub pending_of : Option LaneAccount → List Pending
pending_of None = []
pending_of (Some account) = account.pending

-- the same of all lanes
abbrev pub all_pending : AllAccounts → List Pending
all_pending accounts = flat_map (λ account. account.lane.pending) accounts.streams ++ accounts.global.pending

abbrev pub records_in : Option Account → ℕ
records_in None = 0
records_in (Some account) = account.records

abbrev pub status_in : Option Account → Option StreamStatus
status_in None = None
status_in (Some account) = account.status

-- ---- nothing yet

abbrev pub new_lane : LaneAccount
new_lane = record { since = 0; pending = [] }

abbrev pub new_account : Account
new_account = record { records = 0; status = None; lane = new_lane }

abbrev pub new_accounts : List StreamId → AllAccounts
new_accounts ids = record { streams = map (λ id. new_account) ids; global = new_lane }

-- ---- what lines do to accounts

abbrev pub more_since : LaneAccount → LaneAccount
more_since account = record account { since = account.since + 1 }

-- behind a state the records of its lane are counted anew
abbrev pub none_since : LaneAccount → LaneAccount
none_since account = record account { since = 0 }

abbrev pub with_record : Account → Account
with_record account = record account { records = account.records + 1; lane = more_since account.lane }

-- a record counts for its stream, for the next state of the stream and for the next state of all streams
abbrev pub record_counted : List StreamId → StreamId → AllAccounts → AllAccounts
record_counted ids id accounts = record { streams = with_account ids id with_record accounts.streams; global = more_since accounts.global }

abbrev pub with_status : StreamStatus → Account → Account
with_status status account = record account { status = Some status }

abbrev pub status_noted : List StreamId → StreamId → StreamStatus → AllAccounts → AllAccounts
status_noted ids id status accounts = record accounts { streams = with_account ids id (with_status status) accounts.streams }

abbrev pub with_pending : List Pending → LaneAccount → LaneAccount
with_pending more account = record account { pending = account.pending ++ more }

abbrev pub left_pending : List Pending → LaneAccount → LaneAccount
left_pending left account = record account { pending = left }
