-- What a ledger knows of the lines of an attempt, and how each line changes that.
use Rattle.std.specs.Prelude.{ℕ, ◌+◌, List, [], ◌∷◌, fold, is_some, Option, None, Some, Bool, true, false, min, if◌then◌else◌}
use Rattle.basics.specs.declared.stream.StreamId.{StreamId}
use Rattle.airbyte_message.specs.Lanes.{Lane, one, all, lane_of}
use Rattle.airbyte_message.specs.State.{State}
use Rattle.airbyte_message.specs.declared.stream_status.StreamStatus.{StreamStatus}
use Rattle.state_kinds.specs.Saved.{Saved, has_states}
use Rattle.sync_ledger.specs.Accounts.{AllAccounts, account_of, lane_in, new_accounts, none_since, pending_of, record_counted, status_noted, with_lane, with_pending}
use Rattle.sync_ledger.specs.declared.accounts.Account.{Account}
use Rattle.sync_ledger.specs.declared.form.StateForm.{StateForm}
use Rattle.sync_ledger.specs.declared.form.StateForm.TheVariants as form
use Rattle.sync_ledger.specs.declared.pending.Pending.{Pending}
use Rattle.sync_ledger.specs.declared.told.Told.{Told}
use Rattle.sync_ledger.specs.declared.told.Told.TheVariants as told

pub record Noted : Type 0 where
  -- the streams of the catalog
  pub ids : List StreamId
  pub accounts : AllAccounts
  -- of which form the saved states and those of the attempt are, where there are any
  pub form : Option StateForm
  -- how many lines of the source were answered
  pub lines : ℕ
  -- the state that is to be given next, if any
  pub held : List Pending

-- the states of a lane that were given and that no state of the destination took or passed over, in order
abbrev pub pending_in : Noted → Lane → List Pending
pending_in noted lane = pending_of (lane_in noted.ids noted.accounts lane)

-- ---- the beginning of an attempt

-- the form of the saved states, where there are any
abbrev pub saved_form : Saved → Option StateForm
saved_form set = if is_some set.global then Some form.Global else (if has_states set.entries then Some form.Stream else None)

abbrev pub nothing_noted : List StreamId → Option StateForm → Noted
nothing_noted ids known = record { ids = ids; accounts = new_accounts ids; form = known; lines = 0; held = [] }

-- ---- a line of the source that is not refused

abbrev pub form_of : Lane → StateForm
form_of (one id) = form.Stream
form_of all = form.Global

abbrev pub is_other_form : StateForm → Option StateForm → Bool
is_other_form form.Stream (Some form.Global) = true
is_other_form form.Global (Some form.Stream) = true
is_other_form own known = false

-- one more line
abbrev pub counted : Noted → Noted
counted noted = record noted { lines = noted.lines + 1 }

abbrev pub heard_record : StreamId → Noted → Noted
heard_record id noted = record (counted noted) { accounts = record_counted noted.ids id noted.accounts; held = [] }

abbrev pub heard_in : State → Noted → Option Lane → Noted
heard_in state noted None = counted noted
heard_in state noted (Some lane) = record (counted noted) { accounts = with_lane noted.ids noted.accounts lane none_since; form = Some (form_of lane); held = record { state = state; line = noted.lines + 1 } ∷ [] }

-- the status of a stream that the catalog lacks is passed over
abbrev pub heard_status : StreamId → StreamStatus → Noted → Option Account → Noted
heard_status id status noted None = counted noted
heard_status id status noted (Some account) = record (counted noted) { accounts = status_noted noted.ids id status noted.accounts; held = [] }

abbrev pub heard : Noted → Told → Noted
heard noted (told.Record id) = heard_record id noted
heard noted (told.State state) = heard_in state noted (lane_of state.kind)
heard noted (told.Status id status) = heard_status id status noted (account_of noted.ids id noted.accounts.streams)
heard noted (told.Other saying) = counted noted

-- ---- the line that was to be given was given: where it is a state, that is pending now in its lane

abbrev pub given_in : List StreamId → List Pending → Option Lane → AllAccounts → AllAccounts
given_in ids held None accounts = accounts
given_in ids held (Some lane) accounts = with_lane ids accounts lane (with_pending held)

abbrev pub given : List StreamId → List Pending → AllAccounts → AllAccounts
given ids [] accounts = accounts
given ids (pending ∷ more) accounts = given_in ids (pending ∷ more) (lane_of pending.state.kind) accounts

abbrev pub gave : Noted → Noted
gave noted = record noted { accounts = given noted.ids noted.held noted.accounts; held = [] }

-- ---- the least line of states

abbrev pub lesser : Option ℕ → ℕ → Option ℕ
lesser None line = Some line
lesser (Some least) line = Some (min least line)

abbrev pub least_line : Option ℕ → List Pending → Option ℕ
least_line least states = fold (λ found pending. lesser found pending.line) least states
