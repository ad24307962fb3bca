-- What is pending in each lane.
use Rattle.std.proofs.Common.{◌≡◌, inl, inr, List, [], ◌∷◌, ◌++◌, append-nil, Option, None, Some, option_map, Bool, true, false, cond, is_some, refl, sym, ◌∙◌, ap, subst}
use Rattle.basics.specs.declared.stream.StreamId.{StreamId}
use Rattle.stream_index.specs.Same.{is_same_stream}
use Rattle.stream_index.proofs.IndexLemmas.{Decides-stream}
use Rattle.airbyte_message.specs.Lanes.{Lane, one, all, lane_of}
use Rattle.airbyte_message.specs.State.{State}
use Rattle.airbyte_message.specs.declared.stream_status.StreamStatus.{StreamStatus}
use Rattle.sync_ledger.specs.Accounts.{AllAccounts, account_of, changed_lane, lane_in, left_pending, none_since, pending_of, with_account, with_lane, with_pending, with_record, with_status}
use Rattle.sync_ledger.specs.Lists.{is_lane}
use Rattle.sync_ledger.specs.Noted.{Noted, gave, given_in, heard, heard_in, heard_status, pending_in}
use Rattle.sync_ledger.specs.PendingLists.{HoldsOne, IsKnown, PendingLaws, of_lane}
use Rattle.sync_ledger.specs.declared.accounts.Account.{Account}
use Rattle.sync_ledger.specs.declared.accounts.LaneAccount.{LaneAccount}
use Rattle.sync_ledger.specs.declared.pending.Pending.{Pending}
use Rattle.sync_ledger.specs.declared.told.Told.{Told}
use Rattle.sync_ledger.specs.declared.told.Told.TheVariants as told
use Rattle.sync_ledger.proofs.AccountLemmas.{by_test}

as_first : (own id other : StreamId) (b : Bool) → is_same_stream own id ≡ true → is_same_stream id other ≡ b → is_same_stream own other ≡ b
as_first own id other b same is = ap (λ (x : StreamId). is_same_stream x other) ((Decides-stream own id).0 same) ∙ is

-- the account of another stream
other_account : (ids : List StreamId) (id other : StreamId) (change : Account → Account) (accounts : List Account) → is_same_stream id other ≡ false → account_of ids other (with_account ids id change accounts) ≡ account_of ids other accounts
other_account [] id other change accounts differs = refl
other_account (own ∷ ids) id other change [] differs = refl
other_account (own ∷ ids) id other change (account ∷ accounts) differs = by_test (is_same_stream own id)
    (λ same. ap (λ (b : Bool). account_of (own ∷ ids) other (cond b (change account ∷ accounts) (account ∷ with_account ids id change accounts))) same
    ∙ (ap (λ (b : Bool). cond b (Some (change account)) (account_of ids other accounts)) (as_first own id other false same differs)
    ∙ sym (ap (λ (b : Bool). cond b (Some account) (account_of ids other accounts)) (as_first own id other false same differs))))
    (λ apart. ap (λ (b : Bool). account_of (own ∷ ids) other (cond b (change account ∷ accounts) (account ∷ with_account ids id change accounts))) apart
    ∙ ap (λ (found : Option Account). cond (is_same_stream own other) (Some account) found) (other_account ids id other change accounts differs))

-- the account of the stream itself
own_account : (ids : List StreamId) (id other : StreamId) (change : Account → Account) (accounts : List Account) → is_same_stream id other ≡ true → account_of ids other (with_account ids id change accounts) ≡ option_map change (account_of ids other accounts)
own_account [] id other change accounts alike = refl
own_account (own ∷ ids) id other change [] alike = refl
own_account (own ∷ ids) id other change (account ∷ accounts) alike = by_test (is_same_stream own id)
    (λ same. ap (λ (b : Bool). account_of (own ∷ ids) other (cond b (change account ∷ accounts) (account ∷ with_account ids id change accounts))) same
    ∙ (ap (λ (b : Bool). cond b (Some (change account)) (account_of ids other accounts)) (as_first own id other true same alike)
    ∙ sym (ap (λ (b : Bool). option_map change (cond b (Some account) (account_of ids other accounts))) (as_first own id other true same alike))))
    (λ apart.
    let away : is_same_stream own other ≡ false = ap (λ (x : StreamId). is_same_stream own x) (sym ((Decides-stream id other).0 alike)) ∙ apart in
    ap (λ (b : Bool). account_of (own ∷ ids) other (cond b (change account ∷ accounts) (account ∷ with_account ids id change accounts))) apart
    ∙ (ap (λ (b : Bool). cond b (Some account) (account_of ids other (with_account ids id change accounts))) away
    ∙ (own_account ids id other change accounts alike
    ∙ sym (ap (λ (b : Bool). option_map change (cond b (Some account) (account_of ids other accounts))) away))))

abbrev lane_found : Option Account → Option LaneAccount
lane_found found = option_map (λ account. account.lane) found

kept_pending : (change : Account → Account) (found : Option Account) → ((account : Account) → (change account).lane.pending ≡ account.lane.pending) → pending_of (lane_found (option_map change found)) ≡ pending_of (lane_found found)
kept_pending change None keeps = refl
kept_pending change (Some account) keeps = keeps account

-- a change that leaves what is pending
same_pending : (ids : List StreamId) (id other : StreamId) (change : Account → Account) (accounts : List Account) → ((account : Account) → (change account).lane.pending ≡ account.lane.pending) → pending_of (lane_found (account_of ids other (with_account ids id change accounts))) ≡ pending_of (lane_found (account_of ids other accounts))
same_pending ids id other change accounts keeps = by_test (is_same_stream id other)
    (λ alike. ap (λ (found : Option Account). pending_of (lane_found found)) (own_account ids id other change accounts alike) ∙ kept_pending change (account_of ids other accounts) keeps)
    (λ differs. ap (λ (found : Option Account). pending_of (lane_found found)) (other_account ids id other change accounts differs))

same_lane : (ids : List StreamId) (accounts : AllAccounts) (lane other : Lane) (change : LaneAccount → LaneAccount) → ((account : LaneAccount) → (change account).pending ≡ account.pending) → pending_of (lane_in ids (with_lane ids accounts lane change) other) ≡ pending_of (lane_in ids accounts other)
same_lane ids accounts (one id) (one other) change keeps = same_pending ids id other (changed_lane change) accounts.streams (λ account. keeps account.lane)
same_lane ids accounts (one id) all change keeps = refl
same_lane ids accounts all (one other) change keeps = refl
same_lane ids accounts all all change keeps = keeps accounts.global

hears_in : (noted : Noted) (state : State) (lane : Option Lane) (other : Lane) → pending_in (heard_in state noted lane) other ≡ pending_in noted other
hears_in noted state None other = refl
hears_in noted state (Some lane) other = same_lane noted.ids noted.accounts lane other none_since (λ account. refl)

hears_status : (noted : Noted) (id : StreamId) (status : StreamStatus) (found : Option Account) (lane : Lane) → pending_in (heard_status id status noted found) lane ≡ pending_in noted lane
hears_status noted id status None lane = refl
hears_status noted id status (Some account) (one other) = same_pending noted.ids id other (with_status status) noted.accounts.streams (λ a. refl)
hears_status noted id status (Some account) all = refl

hears : (noted : Noted) (line : Told) (lane : Lane) → pending_in (heard noted line) lane ≡ pending_in noted lane
hears noted (told.Record id) (one other) = same_pending noted.ids id other with_record noted.accounts.streams (λ account. refl)
hears noted (told.Record id) all = refl
hears noted (told.State state) lane = hears_in noted state (lane_of state.kind) lane
hears noted (told.Status id status) lane = hears_status noted id status (account_of noted.ids id noted.accounts.streams) lane
hears noted (told.Other saying) lane = refl

turned : (id other : StreamId) (b : Bool) → is_same_stream id other ≡ b → is_same_stream other id ≡ b
turned id other true same = (Decides-stream other id).1 (sym ((Decides-stream id other).0 same))
turned id other false differs = by_test (is_same_stream other id)
    (λ same. let e : false ≡ true = sym differs ∙ (Decides-stream id other).1 (sym ((Decides-stream other id).0 same)) in absurd (cc))
    (λ apart. apart)

mapped_lane : (change : LaneAccount → LaneAccount) (found : Option Account) → lane_found (option_map (changed_lane change) found) ≡ option_map change (lane_found found)
mapped_lane change None = refl
mapped_lane change (Some account) = refl

-- the lane that is changed, and another
pub own_lane : (ids : List StreamId) (accounts : AllAccounts) (lane other : Lane) (change : LaneAccount → LaneAccount) → is_lane other (Some lane) ≡ true → lane_in ids (with_lane ids accounts lane change) other ≡ option_map change (lane_in ids accounts other)
own_lane ids accounts (one id) (one other) change same = ap lane_found (own_account ids id other (changed_lane change) accounts.streams (turned other id true same)) ∙ mapped_lane change (account_of ids other accounts.streams)
own_lane ids accounts (one id) all change same = absurd (let e : false ≡ true = same in cc)
own_lane ids accounts all (one other) change same = absurd (let e : false ≡ true = same in cc)
own_lane ids accounts all all change same = refl

pub other_lane : (ids : List StreamId) (accounts : AllAccounts) (lane other : Lane) (change : LaneAccount → LaneAccount) → is_lane other (Some lane) ≡ false → lane_in ids (with_lane ids accounts lane change) other ≡ lane_in ids accounts other
other_lane ids accounts (one id) (one other) change differs = ap lane_found (other_account ids id other (changed_lane change) accounts.streams (turned other id false differs))
other_lane ids accounts (one id) all change differs = refl
other_lane ids accounts all (one other) change differs = refl
other_lane ids accounts all all change differs = absurd (let e : true ≡ false = differs in cc)

more_pending : (held : List Pending) (found : Option LaneAccount) → is_some found ≡ true → pending_of (option_map (with_pending held) found) ≡ pending_of found ++ held
more_pending held None known = absurd (let e : false ≡ true = known in cc)
more_pending held (Some account) known = refl

now_left : (left : List Pending) (found : Option LaneAccount) → is_some found ≡ true → pending_of (option_map (left_pending left) found) ≡ left
now_left left None known = absurd (let e : false ≡ true = known in cc)
now_left left (Some account) known = refl

gives_in : (noted : Noted) (pending : Pending) (own : Option Lane) (lane : Lane) → lane_of pending.state.kind ≡ own → IsKnown noted lane → pending_of (lane_in noted.ids (given_in noted.ids (pending ∷ []) own noted.accounts) lane) ≡ pending_in noted lane ++ cond (is_lane lane own) (pending ∷ []) []
gives_in noted pending None (one id) at known = sym (append-nil (pending_in noted (one id)))
gives_in noted pending None all at known = sym (append-nil (pending_in noted all))
gives_in noted pending (Some own) lane at known = by_test (is_lane lane (Some own))
    (λ same. ap pending_of (own_lane noted.ids noted.accounts own lane (with_pending (pending ∷ [])) same)
    ∙ (more_pending (pending ∷ []) (lane_in noted.ids noted.accounts lane) known
    ∙ sym (ap (λ (b : Bool). pending_in noted lane ++ cond b (pending ∷ []) []) same)))
    (λ differs. ap pending_of (other_lane noted.ids noted.accounts own lane (with_pending (pending ∷ [])) differs)
    ∙ (sym (append-nil (pending_in noted lane)) ∙ sym (ap (λ (b : Bool). pending_in noted lane ++ cond b (pending ∷ []) []) differs)))

abbrev with_held : Noted → List Pending → Noted
with_held noted held = record noted { held = held }

gives_one : (noted : Noted) (pending : Pending) (lane : Lane) → IsKnown noted lane → pending_in (gave (with_held noted (pending ∷ []))) lane ≡ pending_in noted lane ++ of_lane lane (pending ∷ [])
gives_one noted pending lane known = gives_in noted pending (lane_of pending.state.kind) lane refl known

gives : (noted : Noted) (lane : Lane) → IsKnown noted lane → HoldsOne noted.held → pending_in (gave noted) lane ≡ pending_in noted lane ++ of_lane lane noted.held
gives noted lane known (inl none) = subst (λ (held : List Pending). pending_in (gave (with_held noted held)) lane ≡ pending_in noted lane ++ of_lane lane held) (sym none) (sym (append-nil (pending_in noted lane)))
gives noted lane known (inr held) = subst (λ (h : List Pending). pending_in (gave (with_held noted h)) lane ≡ pending_in noted lane ++ of_lane lane h) (sym held.1) (gives_one noted held.0 lane known)

takes : (noted : Noted) (lane other : Lane) (left : List Pending) → IsKnown noted other → pending_of (lane_in noted.ids (with_lane noted.ids noted.accounts lane (left_pending left)) other) ≡ cond (is_lane other (Some lane)) left (pending_in noted other)
takes noted lane other left known = by_test (is_lane other (Some lane))
    (λ same. ap pending_of (own_lane noted.ids noted.accounts lane other (left_pending left) same)
    ∙ (now_left left (lane_in noted.ids noted.accounts other) known ∙ sym (ap (λ (b : Bool). cond b left (pending_in noted other)) same)))
    (λ differs. ap pending_of (other_lane noted.ids noted.accounts lane other (left_pending left) differs) ∙ sym (ap (λ (b : Bool). cond b left (pending_in noted other)) differs))

pub pending_laws : PendingLaws
pending_laws = record { hears = hears; gives = gives; takes = takes }
