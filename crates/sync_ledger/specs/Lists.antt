-- What a list of lines leads to. Each fact is of the lines of the source that were not refused, in order, whatever was given or
-- came back between them.
use Rattle.std.specs.Prelude.{◌≡◌, ℕ, ◌+◌, List, [], ◌∷◌, ◌++◌, length, filter, fold, Option, None, Some, Bool, true, false, if◌then◌else◌}
use Rattle.basics.specs.declared.stream.StreamId.{StreamId}
use Rattle.stream_index.specs.Distinct.{AreDistinct}
use Rattle.stream_index.specs.Same.{is_same_stream}
use Rattle.airbyte_message.specs.Lanes.{Lane, one, all, lane_of}
use Rattle.airbyte_message.specs.declared.stream_status.StreamStatus.{StreamStatus}
use Rattle.sync_ledger.specs.Accounts.{left_pending, with_lane}
use Rattle.sync_ledger.specs.Noted.{Noted, form_of, gave, heard, nothing_noted}
use Rattle.sync_ledger.specs.declared.accounts.Account.{Account}
use Rattle.sync_ledger.specs.declared.form.StateForm.{StateForm}
use Rattle.sync_ledger.specs.declared.pending.Pending.{Pending}
use Rattle.sync_ledger.specs.declared.told.Told.{Told}
use Rattle.sync_ledger.specs.declared.told.Told.TheVariants as told

-- ---- functions of lists

abbrev pub is_record_of : StreamId → Told → Bool
is_record_of id (told.Record other) = is_same_stream id other
is_record_of id (told.State state) = false
is_record_of id (told.Status other status) = false
is_record_of id (told.Other saying) = false

-- how many records of a stream there are
abbrev pub records_of : StreamId → List Told → ℕ
records_of id lines = length (filter (is_record_of id) lines)

abbrev pub status_after : StreamId → Option StreamStatus → Told → Option StreamStatus
status_after id last (told.Record other) = last
status_after id last (told.State state) = last
status_after id last (told.Status other status) = if is_same_stream id other then Some status else last
status_after id last (told.Other saying) = last

-- the last status of a stream
abbrev pub last_status : StreamId → List Told → Option StreamStatus
last_status id lines = fold (status_after id) None lines

abbrev pub covers_stream : Lane → StreamId → Bool
covers_stream (one id) other = is_same_stream id other
covers_stream all other = true

abbrev pub is_lane : Lane → Option Lane → Bool
is_lane (one id) (Some (one other)) = is_same_stream id other
is_lane all (Some all) = true
is_lane (one id) (Some all) = false
is_lane all (Some (one other)) = false
is_lane lane None = false

abbrev pub since_after : Lane → ℕ → Told → ℕ
since_after lane count (told.Record other) = if covers_stream lane other then count + 1 else count
since_after lane count (told.State state) = if is_lane lane (lane_of state.kind) then 0 else count
since_after lane count (told.Status other status) = count
since_after lane count (told.Other saying) = count

-- how many records that a lane's states cover stand behind its last state
abbrev pub since : Lane → List Told → ℕ
since lane lines = fold (since_after lane) 0 lines

abbrev pub form_in : Option StateForm → Option Lane → Option StateForm
form_in known None = known
form_in known (Some lane) = Some (form_of lane)

abbrev pub form_after : Option StateForm → Told → Option StateForm
form_after known (told.Record id) = known
form_after known (told.State state) = form_in known (lane_of state.kind)
form_after known (told.Status id status) = known
form_after known (told.Other saying) = known

-- of which form states are, where these were saved of some form
abbrev pub last_form : Option StateForm → List Told → Option StateForm
last_form saved lines = fold form_after saved lines

-- ---- what is noted is what the lines say

-- the account of a stream
pub record IsAccountOf (id : StreamId) (lines : List Told) (account : Account) : Type 0 where
  pub records : account.records ≡ records_of id lines
  pub status : account.status ≡ last_status id lines
  pub since : account.lane.since ≡ since (one id) lines

-- one account for each stream, in order
abbrev pub AllStreams : (StreamId → Account → Type 0) → List StreamId → List Account → Type 0
AllStreams Holds [] accounts = accounts ≡ []
AllStreams Holds (id ∷ ids) [] = ⊥
AllStreams Holds (id ∷ ids) (account ∷ accounts) = Holds id account × AllStreams Holds ids accounts

pub record IsNotedOf (saved : Option StateForm) (lines : List Told) (noted : Noted) : Type 0 where
  pub accounts : AllStreams (λ id account. IsAccountOf id lines account) noted.ids noted.accounts.streams
  pub global : noted.accounts.global.since ≡ since all lines
  pub form : noted.form ≡ last_form saved lines
  pub number : noted.lines ≡ length lines

-- A ledger begins with no line; a line that is not refused is one more; what is given and what comes back changes none of this.
pub record ListLaws : Type 0 where
  pub begins : (ids : List StreamId) (saved : Option StateForm) → IsNotedOf saved [] (nothing_noted ids saved)
  pub hears : (saved : Option StateForm) (lines : List Told) (line : Told) (noted : Noted) → AreDistinct noted.ids → IsNotedOf saved lines noted → IsNotedOf saved (lines ++ line ∷ []) (heard noted line)
  pub gives : (saved : Option StateForm) (lines : List Told) (noted : Noted) → IsNotedOf saved lines noted → IsNotedOf saved lines (gave noted)
  pub takes : (saved : Option StateForm) (lines : List Told) (noted : Noted) (lane : Lane) (left : List Pending) → IsNotedOf saved lines noted → IsNotedOf saved lines (record noted { accounts = with_lane noted.ids noted.accounts lane (left_pending left) })
