-- The statuses that a ledger knows are those that the lines of the source say.
use Rattle.std.proofs.Common.{arith, ◌≡◌, ◌⊎◌, inl, inr, ℕ, zero, suc, ◌+◌, ◌<◌, ◌≤◌, List, [], ◌∷◌, Bool, true, false, cond, Option, None, Some, refl, sym, ◌∙◌, ap, subst, filter, drop, take, length, map, fold}
use Rattle.std.specs.Prelude.{slice_get, option_map, is_none}
use Rattle.std.specs.List.{AllByRecursion}
use Rattle.std.proofs.lemmas.Bool.{false≢true}
use Rattle.basics.specs.declared.stream.StreamId.{StreamId}
use Rattle.stream_index.specs.Same.{is_same_stream}
use Rattle.stream_index.proofs.IndexLemmas.{Decides-stream}
use Rattle.outside.specs.Tables.{same_id}
use Rattle.outside.specs.declared.event.Event.{Event}
use Rattle.outside.specs.declared.faults.Side.TheVariants as side
use Rattle.airbyte_message.specs.declared.message.Message.{Message}
use Rattle.airbyte_message.specs.declared.message.Message.TheVariants as message
use Rattle.airbyte_message.specs.declared.message.TraceMsg.{TraceMsg}
use Rattle.airbyte_message.specs.declared.message.TraceMsg.TheVariants as trace
use Rattle.airbyte_message.specs.declared.stream_status.StreamStatus.{StreamStatus}
use Rattle.load_rules.specs.Lines.{Reading, lines_read, status_in}
use Rattle.load_rules.specs.Finished.{last_status, status_after}
use Rattle.load_rules.specs.Attempts.{reads}
use Rattle.state_kinds.specs.Saved.{Saved}
use Rattle.sync_ledger.specs.Lists.{AllStreams, IsAccountOf}
use Rattle.sync_ledger.specs.Lists as lists
use Rattle.sync_ledger.specs.Noted.{Noted, saved_form}
use Rattle.sync_ledger.specs.Told.{told_of}
use Rattle.sync_ledger.specs.declared.accounts.Account.{Account}
use Rattle.sync_ledger.specs.declared.told.Told.{Told}
use Rattle.ledger_rules.specs.Ledgers.{IsLedgerOf, told_read}
use Rattle.ledger_rules.proofs.Same.{by_test, same_streams}
use Rattle.attempt_turns.specs.Ends.{AllComplete, IsFirstIncomplete, is_done, is_done_in}
use Rattle.attempt_close.specs.Completions.{FirstUntold, IsNextUntold, is_untold_at}
use Rattle.attempt_close.specs.Ended.{AreDone, FirstUndone, is_done_at}
use Rattle.attempt_close.proofs.Places.{all_places, drop_at, drop_end, skip, some_within, take_places, within_some}

-- ---- one status

turned : (a b : StreamId) → is_same_stream a b ≡ is_same_stream b a
turned a b = by_test (is_same_stream a b)
    (λ same. same ∙ sym ((Decides-stream b a).1 (sym ((Decides-stream a b).0 same))))
    (λ differs. differs ∙ sym (by_test (is_same_stream b a) (λ back. absurd (false≢true (sym differs ∙ (Decides-stream a b).1 (sym ((Decides-stream b a).0 back))))) (λ it. it)))

trace_status : (id : StreamId) (text : List ℕ) (last : Option StreamStatus) (content : TraceMsg) → lists.status_after id last (told_of side.Source text (Some (message.Trace content))) ≡ status_after id last (status_in (Some (message.Trace content)))
trace_status id text last (trace.Error words failure emitted_at) = refl
trace_status id text last (trace.Status other status emitted_at) = ap (λ b. cond b (Some status) last) (turned id other ∙ same_streams other id)
trace_status id text last (trace.Other object) = refl

after_same : (id : StreamId) (text : List ℕ) (last : Option StreamStatus) (found : Option Message) → lists.status_after id last (told_of side.Source text found) ≡ status_after id last (status_in found)
after_same id text last None = refl
after_same id text last (Some (message.Rec content)) = refl
after_same id text last (Some (message.State state)) = refl
after_same id text last (Some (message.Log content)) = refl
after_same id text last (Some (message.Spec content)) = refl
after_same id text last (Some (message.Connection content)) = refl
after_same id text last (Some (message.Catalog content)) = refl
after_same id text last (Some (message.Trace content)) = trace_status id text last content
after_same id text last (Some (message.Control content)) = refl

last_from : (id : StreamId) (read : Reading) (list : List (List ℕ)) (last : Option StreamStatus)
    → fold (lists.status_after id) last (map (told_read read) list) ≡ fold (λ known line. status_after id known (status_in line.found)) last (lines_read read list)
last_from id read [] last = refl
last_from id read (text ∷ list) last =
    last_from id read list (lists.status_after id last (told_read read text))
    ∙ ap (λ it. fold (λ known line. status_after id known (status_in line.found)) it (lines_read read list)) (after_same id text last (read text))

last_same : (id : StreamId) (read : Reading) (list : List (List ℕ)) → lists.last_status id (map (told_read read) list) ≡ last_status id (lines_read read list)
last_same id read list = last_from id read list None

-- ---- the account with a number

record AccountAt (lines : List Told) (id : StreamId) (accounts : List Account) (number : ℕ) : Type 0 where
  pub account : Account
  pub at : slice_get accounts number ≡ Some account
  pub is : IsAccountOf id lines account

none_some : {A : Type 0} {a : A} → None ≡ Some a → ⊥
none_some e = cc

some_is : {A : Type 0} {a b : A} → Some a ≡ Some b → a ≡ b
some_is e = cc

account_at : (lines : List Told) (ids : List StreamId) (accounts : List Account) (number : ℕ) (id : StreamId) → AllStreams (λ own account. IsAccountOf own lines account) ids accounts → slice_get ids number ≡ Some id → AccountAt lines id accounts number
account_at lines [] accounts number id each is = absurd (none_some is)
account_at lines (own ∷ ids) [] number id each is = absurd each
account_at lines (own ∷ ids) (account ∷ accounts) zero id each is = record { account = account; at = refl; is = subst (λ it. IsAccountOf it lines account) (some_is is) each.0 }
account_at lines (own ∷ ids) (account ∷ accounts) (suc number) id each is =
    let rest = account_at lines ids accounts number id each.1 is in
    record { account = rest.account; at = rest.at; is = rest.is }

-- what a test of the known status says is what it says of the status in the lines
tested : (test : Option StreamStatus → Bool) (ids : List StreamId) (start : Saved) (read : Reading) (events : List Event) (line : Option (List ℕ)) (noted : Noted) (number : ℕ) (id : StreamId) (b : Bool) → IsLedgerOf ids start read events line noted → slice_get ids number ≡ Some id
    → option_map (λ account. test account.status) (slice_get noted.accounts.streams number) ≡ Some b → test (last_status id (lines_read read (reads events))) ≡ b
tested test ids start read events line noted number id b is at found =
    let own = account_at (map (told_read read) (reads events)) noted.ids noted.accounts.streams number id is.heard.accounts (subst (λ list. slice_get list number ≡ Some id) (sym is.ids_are) at) in
    ap test (sym (last_same id read (reads events)) ∙ sym own.is.status)
    ∙ some_is (sym (ap (option_map (λ (account : Account). test account.status)) own.at) ∙ found)

-- ---- completeness

pub all_complete : (ids : List StreamId) (start : Saved) (read : Reading) (events : List Event) (line : Option (List ℕ)) (noted : Noted) → IsLedgerOf ids start read events line noted → AreDone noted → AllComplete ids read events
all_complete ids start read events line noted is done = all_places (λ id. is_done_in read events id ≡ true) ids
    (λ number id at. tested is_done ids start read events line noted number id true is at (done number (subst (λ list. number < length list) (sym is.ids_are) (some_within ids number id at))))

pub first_incomplete : (ids : List StreamId) (start : Saved) (read : Reading) (events : List Event) (line : Option (List ℕ)) (noted : Noted) (number : ℕ) → IsLedgerOf ids start read events line noted → FirstUndone noted number → IsFirstIncomplete ids read events number
first_incomplete ids start read events line noted number is first =
    let found = within_some ids number (subst (λ list. number < length list) is.ids_are first.within) in
    record {
      id = found.0;
      at = found.1;
      incomplete = tested is_done ids start read events line noted number found.0 false is found.1 first.undone;
      others = take_places (λ other. is_done_in read events other ≡ true) ids number
          (λ other id less at. tested is_done ids start read events line noted other id true is at (first.done_before other less));
    }

-- ---- streams without a status

abbrev is_untold : Reading → List Event → StreamId → Bool
is_untold read events id = is_none (last_status id (lines_read read (reads events)))

-- those from one number on begin with the first that is found
pub untold_first : (ids : List StreamId) (start : Saved) (read : Reading) (events : List Event) (line : Option (List ℕ)) (noted : Noted) (from number : ℕ) (id : StreamId) → IsLedgerOf ids start read events line noted → FirstUntold noted from number → slice_get ids number ≡ Some id
    → filter (λ own. is_none (last_status own (lines_read read (reads events)))) (drop from ids) ≡ id ∷ filter (λ own. is_none (last_status own (lines_read read (reads events)))) (drop (number + 1) ids)
untold_first ids start read events line noted from number id is first at =
    skip (is_untold read events) ids from number first.behind (λ other own low less found. tested is_none ids start read events line noted other own false is found (first.told_before other low less))
    ∙ (ap (filter (is_untold read events)) (drop_at ids number id at)
    ∙ ap (λ b. cond b (id ∷ filter (is_untold read events) (drop (number + 1) ids)) (filter (is_untold read events) (drop (number + 1) ids))) (tested is_none ids start read events line noted number id true is at first.untold))

pub untold_none : (ids : List StreamId) (start : Saved) (read : Reading) (events : List Event) (line : Option (List ℕ)) (noted : Noted) (from : ℕ) → IsLedgerOf ids start read events line noted → IsNextUntold noted from None
    → filter (λ own. is_none (last_status own (lines_read read (reads events)))) (drop from ids) ≡ []
untold_none ids start read events line noted from is told =
    skip (is_untold read events) ids from (from + length ids) (omega arith)
    (λ other own low less found. tested is_none ids start read events line noted other own false is found (told other low (subst (λ list. other < length list) (sym is.ids_are) (some_within ids other own found))))
    ∙ ap (filter (is_untold read events)) (drop_end ids (from + length ids) (omega arith))

-- ---- what a ledger answers of a number

pub tested_at : (test : Option StreamStatus → Bool) (noted : Noted) (number : ℕ) (status : Option StreamStatus) (b : Bool) → Some status ≡ option_map (λ account. account.status) (slice_get noted.accounts.streams number) → test status ≡ b
    → option_map (λ account. test account.status) (slice_get noted.accounts.streams number) ≡ Some b
tested_at test noted number status b = at (slice_get noted.accounts.streams number)
  where
    at : (found : Option Account) → Some status ≡ option_map (λ account. account.status) found → test status ≡ b → option_map (λ account. test account.status) found ≡ Some b
    at None is same = absurd (none_some (sym is))
    at (Some account) is same = ap (λ it. Some it) (ap test (sym (some_is is)) ∙ same)

pub one_told : (P : ℕ → Type 0) (from n : ℕ) → ((other : ℕ) → from ≤ other → other < n → P other) → P n → (other : ℕ) → from ≤ other → other < n + 1 → P other
one_told P from n before here other low less = at (other_cases other n (omega (arith, less)))
  where
    other_cases : (a b : ℕ) → a ≤ b → (a < b) ⊎ (a ≡ b)
    other_cases zero zero within = inr refl
    other_cases zero (suc b) within = inl (omega arith)
    other_cases (suc a) zero within = absurd (omega (arith, within))
    other_cases (suc a) (suc b) within = shift (other_cases a b (omega (arith, within)))
      where
        shift : (a < b) ⊎ (a ≡ b) → (suc a < suc b) ⊎ (suc a ≡ suc b)
        shift (inl is) = inl (omega (arith, is))
        shift (inr same) = inr (ap (λ n. suc n) same)

    at : (other < n) ⊎ (other ≡ n) → P other
    at (inl is) = before other low is
    at (inr same) = subst P (sym same) here
