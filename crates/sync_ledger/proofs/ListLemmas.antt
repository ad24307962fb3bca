-- What is noted is what the lines say.
use Rattle.std.proofs.Common.{arith, ◌≡◌, ℕ, suc, ◌+◌, List, [], ◌∷◌, ◌++◌, length, length-append, filter, map, slice_get, Option, None, Some, Bool, true, false, cond, refl, sym, ◌∙◌, ap, subst}
use Rattle.std.proofs.lemmas.List.Sums.{fold-append}
use Rattle.basics.specs.declared.stream.StreamId.{StreamId}
use Rattle.stream_index.specs.Distinct.{AreDistinct}
use Rattle.stream_index.specs.Same.{is_same_stream}
use Rattle.stream_index.proofs.IndexLemmas.{Decides-stream}
use Rattle.airbyte_message.specs.Lanes.{Lane, one, all, lane_of}
use Rattle.airbyte_message.specs.State.{State}
use Rattle.airbyte_message.specs.declared.stream_status.StreamStatus.{StreamStatus}
use Rattle.sync_ledger.specs.Accounts.{account_of, changed_lane, left_pending, new_account, none_since, with_account, with_lane, with_pending, with_record, with_status}
use Rattle.sync_ledger.specs.Noted.{Noted, gave, given_in, heard, heard_in, heard_status, nothing_noted}
use Rattle.sync_ledger.specs.Lists.{AllStreams, IsAccountOf, IsNotedOf, ListLaws, form_after, form_in, is_lane, is_record_of, last_form, last_status, since, since_after, status_after}
use Rattle.sync_ledger.specs.declared.accounts.Account.{Account}
use Rattle.sync_ledger.specs.declared.accounts.LaneAccount.{LaneAccount}
use Rattle.sync_ledger.specs.declared.form.StateForm.{StateForm}
use Rattle.sync_ledger.specs.declared.pending.Pending.{Pending}
use Rattle.sync_ledger.specs.declared.told.Told.{Told}
use Rattle.sync_ledger.specs.declared.told.Told.TheVariants as told
use Rattle.sync_ledger.proofs.AccountLemmas.{by_test}

next : (n : ℕ) → suc (n + 1) ≡ suc n + 1
next n = omega arith

filter_yes : (p : Told → Bool) (xs : List Told) (y : Told) → p y ≡ true → length (filter p (xs ++ y ∷ [])) ≡ length (filter p xs) + 1
filter_yes p [] y holds = ap (λ (b : Bool). length (cond b (y ∷ []) [])) holds
filter_yes p (x ∷ xs) y holds = by_test (p x)
    (λ e. ap (λ (b : Bool). length (cond b (x ∷ filter p (xs ++ y ∷ [])) (filter p (xs ++ y ∷ [])))) e ∙ (ap suc (filter_yes p xs y holds) ∙ (next (length (filter p xs)) ∙ sym (ap (λ (b : Bool). length (cond b (x ∷ filter p xs) (filter p xs)) + 1) e))))
    (λ e. ap (λ (b : Bool). length (cond b (x ∷ filter p (xs ++ y ∷ [])) (filter p (xs ++ y ∷ [])))) e ∙ (filter_yes p xs y holds ∙ sym (ap (λ (b : Bool). length (cond b (x ∷ filter p xs) (filter p xs)) + 1) e)))

filter_no : (p : Told → Bool) (xs : List Told) (y : Told) → p y ≡ false → length (filter p (xs ++ y ∷ [])) ≡ length (filter p xs)
filter_no p [] y fails = ap (λ (b : Bool). length (cond b (y ∷ []) [])) fails
filter_no p (x ∷ xs) y fails = by_test (p x)
    (λ e. ap (λ (b : Bool). length (cond b (x ∷ filter p (xs ++ y ∷ [])) (filter p (xs ++ y ∷ [])))) e ∙ (ap suc (filter_no p xs y fails) ∙ sym (ap (λ (b : Bool). length (cond b (x ∷ filter p xs) (filter p xs))) e)))
    (λ e. ap (λ (b : Bool). length (cond b (x ∷ filter p (xs ++ y ∷ [])) (filter p (xs ++ y ∷ [])))) e ∙ (filter_no p xs y fails ∙ sym (ap (λ (b : Bool). length (cond b (x ∷ filter p xs) (filter p xs))) e)))

status_more : (id : StreamId) (lines : List Told) (line : Told) → last_status id (lines ++ line ∷ []) ≡ status_after id (last_status id lines) line
status_more id lines line = fold-append (status_after id) None lines (line ∷ [])

since_more : (lane : Lane) (lines : List Told) (line : Told) → since lane (lines ++ line ∷ []) ≡ since_after lane (since lane lines) line
since_more lane lines line = fold-append (since_after lane) 0 lines (line ∷ [])

form_more : (saved : Option StateForm) (lines : List Told) (line : Told) → last_form saved (lines ++ line ∷ []) ≡ form_after (last_form saved lines) line
form_more saved lines line = fold-append form_after saved lines (line ∷ [])

-- ---- one account

abbrev Of : List Told → StreamId → Account → Type 0
Of lines id account = IsAccountOf id lines account

-- a line that says nothing of the stream
stays : (lines : List Told) (line : Told) (id : StreamId) (account : Account) → is_record_of id line ≡ false → status_after id (last_status id lines) line ≡ last_status id lines → since_after (one id) (since (one id) lines) line ≡ since (one id) lines → Of lines id account → Of (lines ++ line ∷ []) id account
stays lines line id account fails status count is = record {
  records = is.records ∙ sym (filter_no (is_record_of id) lines line fails);
  status = is.status ∙ sym (status_more id lines line ∙ status);
  since = is.since ∙ sym (since_more (one id) lines line ∙ count);
}

record_of_it : (lines : List Told) (other id : StreamId) (account : Account) → is_same_stream id other ≡ true → Of lines id account → Of (lines ++ told.Record other ∷ []) id (with_record account)
record_of_it lines other id account same is = record {
  records = ap (λ (n : ℕ). n + 1) is.records ∙ sym (filter_yes (is_record_of id) lines (told.Record other) same);
  status = is.status ∙ sym (status_more id lines (told.Record other));
  since = ap (λ (n : ℕ). n + 1) is.since ∙ sym (since_more (one id) lines (told.Record other) ∙ ap (λ (b : Bool). cond b (since (one id) lines + 1) (since (one id) lines)) same);
}

record_of_other : (lines : List Told) (other id : StreamId) (account : Account) → is_same_stream id other ≡ false → Of lines id account → Of (lines ++ told.Record other ∷ []) id account
record_of_other lines other id account differs is = stays lines (told.Record other) id account differs refl (ap (λ (b : Bool). cond b (since (one id) lines + 1) (since (one id) lines)) differs) is

state_of_it : (lines : List Told) (state : State) (id : StreamId) (account : Account) → is_lane (one id) (lane_of state.kind) ≡ true → Of lines id account → Of (lines ++ told.State state ∷ []) id (changed_lane none_since account)
state_of_it lines state id account same is = record {
  records = is.records ∙ sym (filter_no (is_record_of id) lines (told.State state) refl);
  status = is.status ∙ sym (status_more id lines (told.State state));
  since = sym (since_more (one id) lines (told.State state) ∙ ap (λ (b : Bool). cond b 0 (since (one id) lines)) same);
}

state_of_other : (lines : List Told) (state : State) (id : StreamId) (account : Account) → is_lane (one id) (lane_of state.kind) ≡ false → Of lines id account → Of (lines ++ told.State state ∷ []) id account
state_of_other lines state id account differs is = stays lines (told.State state) id account refl refl (ap (λ (b : Bool). cond b 0 (since (one id) lines)) differs) is

status_of_it : (lines : List Told) (status : StreamStatus) (other id : StreamId) (account : Account) → is_same_stream id other ≡ true → Of lines id account → Of (lines ++ told.Status other status ∷ []) id (with_status status account)
status_of_it lines status other id account same is = record {
  records = is.records ∙ sym (filter_no (is_record_of id) lines (told.Status other status) refl);
  status = sym (status_more id lines (told.Status other status) ∙ ap (λ (b : Bool). cond b (Some status) (last_status id lines)) same);
  since = is.since ∙ sym (since_more (one id) lines (told.Status other status));
}

status_of_other : (lines : List Told) (status : StreamStatus) (other id : StreamId) (account : Account) → is_same_stream id other ≡ false → Of lines id account → Of (lines ++ told.Status other status ∷ []) id account
status_of_other lines status other id account differs is = stays lines (told.Status other status) id account refl (ap (λ (b : Bool). cond b (Some status) (last_status id lines)) differs) refl is

-- ---- all accounts

tail_distinct : (id : StreamId) (ids : List StreamId) → AreDistinct (id ∷ ids) → AreDistinct ids
tail_distinct id ids distinct i j item at also = let e : suc i ≡ suc j = distinct (suc i) (suc j) item at also in omega (arith, e)

all_others : (P Q : StreamId → Account → Type 0) (other : StreamId) (ids : List StreamId) (accounts : List Account) → ((n : ℕ) → ¬ (slice_get ids n ≡ Some other)) → ((id : StreamId) (account : Account) → is_same_stream id other ≡ false → P id account → Q id account) → AllStreams P ids accounts → AllStreams Q ids accounts
all_others P Q other [] accounts absent differs ps = ps
all_others P Q other (id ∷ ids) [] absent differs ps = ps
all_others P Q other (id ∷ ids) (account ∷ accounts) absent differs ps = (
  differs id account (by_test (is_same_stream id other) (λ same. absurd (absent 0 (ap (λ (x : StreamId). Some x) ((Decides-stream id other).0 same)))) (λ fails. fails)) ps.0,
  all_others P Q other ids accounts (λ n. absent (suc n)) differs ps.1,
)

-- where the account of one stream is changed
all_with : (P Q : StreamId → Account → Type 0) (other : StreamId) (change : Account → Account) (ids : List StreamId) (accounts : List Account) → AreDistinct ids → ((id : StreamId) (account : Account) → is_same_stream id other ≡ true → P id account → Q id (change account)) → ((id : StreamId) (account : Account) → is_same_stream id other ≡ false → P id account → Q id account) → AllStreams P ids accounts → AllStreams Q ids (with_account ids other change accounts)
all_with P Q other change [] accounts distinct same differs ps = ps
all_with P Q other change (id ∷ ids) [] distinct same differs ps = ps
all_with P Q other change (id ∷ ids) (account ∷ accounts) distinct same differs ps = by_test (is_same_stream id other)
    (λ holds. subst (AllStreams Q (id ∷ ids)) (sym (ap (λ (b : Bool). cond b (change account ∷ accounts) (account ∷ with_account ids other change accounts)) holds)) (same id account holds ps.0, all_others P Q other ids accounts (away holds) differs ps.1))
    (λ fails. subst (AllStreams Q (id ∷ ids)) (sym (ap (λ (b : Bool). cond b (change account ∷ accounts) (account ∷ with_account ids other change accounts)) fails)) (differs id account fails ps.0, all_with P Q other change ids accounts (tail_distinct id ids distinct) same differs ps.1))
  where
    away : is_same_stream id other ≡ true → (n : ℕ) → ¬ (slice_get ids n ≡ Some other)
    away holds n at = let e : suc n ≡ 0 = distinct (suc n) 0 other at (ap (λ (x : StreamId). Some x) ((Decides-stream id other).0 holds)) in absurd (omega (arith, e))

some_none : {A : Type 0} (a : A) → Some a ≡ None → ⊥
some_none a e = cc

-- where the stream has none
all_without : (P Q : StreamId → Account → Type 0) (other : StreamId) (ids : List StreamId) (accounts : List Account) → account_of ids other accounts ≡ None → ((id : StreamId) (account : Account) → is_same_stream id other ≡ false → P id account → Q id account) → AllStreams P ids accounts → AllStreams Q ids accounts
all_without P Q other [] accounts none differs ps = ps
all_without P Q other (id ∷ ids) [] none differs ps = ps
all_without P Q other (id ∷ ids) (account ∷ accounts) none differs ps = by_test (is_same_stream id other)
    (λ holds. absurd (some_none account (sym (ap (λ (b : Bool). cond b (Some account) (account_of ids other accounts)) holds) ∙ none)))
    (λ fails. (differs id account fails ps.0, all_without P Q other ids accounts (sym (ap (λ (b : Bool). cond b (Some account) (account_of ids other accounts)) fails) ∙ none) differs ps.1))

all_as : (P Q : StreamId → Account → Type 0) (ids : List StreamId) (accounts : List Account) → ((id : StreamId) (account : Account) → P id account → Q id account) → AllStreams P ids accounts → AllStreams Q ids accounts
all_as P Q [] accounts as_well ps = ps
all_as P Q (id ∷ ids) [] as_well ps = ps
all_as P Q (id ∷ ids) (account ∷ accounts) as_well ps = (as_well id account ps.0, all_as P Q ids accounts as_well ps.1)

-- where an account is changed of which nothing is asked
all_kept : (P : StreamId → Account → Type 0) (other : StreamId) (change : Account → Account) (ids : List StreamId) (accounts : List Account) → ((id : StreamId) (account : Account) → P id account → P id (change account)) → AllStreams P ids accounts → AllStreams P ids (with_account ids other change accounts)
all_kept P other change [] accounts keeps ps = ps
all_kept P other change (id ∷ ids) [] keeps ps = ps
all_kept P other change (id ∷ ids) (account ∷ accounts) keeps ps = by_test (is_same_stream id other)
    (λ holds. subst (AllStreams P (id ∷ ids)) (sym (ap (λ (b : Bool). cond b (change account ∷ accounts) (account ∷ with_account ids other change accounts)) holds)) (keeps id account ps.0, ps.1))
    (λ fails. subst (AllStreams P (id ∷ ids)) (sym (ap (λ (b : Bool). cond b (change account ∷ accounts) (account ∷ with_account ids other change accounts)) fails)) (ps.0, all_kept P other change ids accounts keeps ps.1))

-- ---- the laws

one_more : (lines : List Told) (line : Told) (n : ℕ) → n ≡ length lines → n + 1 ≡ length (lines ++ line ∷ [])
one_more lines line n is = ap (λ (k : ℕ). k + 1) is ∙ sym (length-append lines (line ∷ []))

begins : (ids : List StreamId) (saved : Option StateForm) → IsNotedOf saved [] (nothing_noted ids saved)
begins ids saved = record { accounts = all_new ids; global = refl; form = refl; number = refl }
  where
    all_new : (l : List StreamId) → AllStreams (Of []) l (map (λ (id : StreamId). new_account) l)
    all_new [] = refl
    all_new (id ∷ l) = (record { records = refl; status = refl; since = refl }, all_new l)

-- a line that leaves all accounts as they are
nothing_heard : (saved : Option StateForm) (lines : List Told) (line : Told) (noted : Noted) → ((id : StreamId) (account : Account) → Of lines id account → Of (lines ++ line ∷ []) id account) → since_after all (since all lines) line ≡ since all lines → form_after (last_form saved lines) line ≡ last_form saved lines → IsNotedOf saved lines noted → IsNotedOf saved (lines ++ line ∷ []) (record noted { lines = noted.lines + 1 })
nothing_heard saved lines line noted same count form is = record {
  accounts = all_as (Of lines) (Of (lines ++ line ∷ [])) noted.ids noted.accounts.streams same is.accounts;
  global = is.global ∙ sym (since_more all lines line ∙ count);
  form = is.form ∙ sym (form_more saved lines line ∙ form);
  number = one_more lines line noted.lines is.number;
}

hears_record : (saved : Option StateForm) (lines : List Told) (id : StreamId) (noted : Noted) → AreDistinct noted.ids → IsNotedOf saved lines noted → IsNotedOf saved (lines ++ told.Record id ∷ []) (heard noted (told.Record id))
hears_record saved lines id noted distinct is = record {
  accounts = all_with (Of lines) (Of (lines ++ told.Record id ∷ [])) id with_record noted.ids noted.accounts.streams distinct (record_of_it lines id) (record_of_other lines id) is.accounts;
  global = ap (λ (n : ℕ). n + 1) is.global ∙ sym (since_more all lines (told.Record id));
  form = is.form ∙ sym (form_more saved lines (told.Record id));
  number = one_more lines (told.Record id) noted.lines is.number;
}

hears_state : (saved : Option StateForm) (lines : List Told) (state : State) (noted : Noted) (lane : Option Lane) → lane_of state.kind ≡ lane → AreDistinct noted.ids → IsNotedOf saved lines noted → IsNotedOf saved (lines ++ told.State state ∷ []) (heard_in state noted lane)
hears_state saved lines state noted None at distinct is = nothing_heard saved lines (told.State state) noted
    (λ id account. state_of_other lines state id account (ap (λ (l : Option Lane). is_lane (one id) l) at))
    (ap (λ (l : Option Lane). cond (is_lane all l) 0 (since all lines)) at)
    (ap (λ (l : Option Lane). form_in (last_form saved lines) l) at) is
hears_state saved lines state noted (Some (one other)) at distinct is = record {
  accounts = all_with (Of lines) (Of (lines ++ told.State state ∷ [])) other (changed_lane none_since) noted.ids noted.accounts.streams distinct
      (λ id account same. state_of_it lines state id account (ap (λ (l : Option Lane). is_lane (one id) l) at ∙ same))
      (λ id account differs. state_of_other lines state id account (ap (λ (l : Option Lane). is_lane (one id) l) at ∙ differs)) is.accounts;
  global = is.global ∙ sym (since_more all lines (told.State state) ∙ ap (λ (l : Option Lane). cond (is_lane all l) 0 (since all lines)) at);
  form = sym (form_more saved lines (told.State state) ∙ ap (λ (l : Option Lane). form_in (last_form saved lines) l) at);
  number = one_more lines (told.State state) noted.lines is.number;
}
hears_state saved lines state noted (Some all) at distinct is = record {
  accounts = all_as (Of lines) (Of (lines ++ told.State state ∷ [])) noted.ids noted.accounts.streams (λ id account. state_of_other lines state id account (ap (λ (l : Option Lane). is_lane (one id) l) at)) is.accounts;
  global = sym (since_more all lines (told.State state) ∙ ap (λ (l : Option Lane). cond (is_lane all l) 0 (since all lines)) at);
  form = sym (form_more saved lines (told.State state) ∙ ap (λ (l : Option Lane). form_in (last_form saved lines) l) at);
  number = one_more lines (told.State state) noted.lines is.number;
}

hears_status : (saved : Option StateForm) (lines : List Told) (id : StreamId) (status : StreamStatus) (noted : Noted) (account : Option Account) → account_of noted.ids id noted.accounts.streams ≡ account → AreDistinct noted.ids → IsNotedOf saved lines noted → IsNotedOf saved (lines ++ told.Status id status ∷ []) (heard_status id status noted account)
hears_status saved lines id status noted None at distinct is = record {
  accounts = all_without (Of lines) (Of (lines ++ told.Status id status ∷ [])) id noted.ids noted.accounts.streams at (status_of_other lines status id) is.accounts;
  global = is.global ∙ sym (since_more all lines (told.Status id status));
  form = is.form ∙ sym (form_more saved lines (told.Status id status));
  number = one_more lines (told.Status id status) noted.lines is.number;
}
hears_status saved lines id status noted (Some account) at distinct is = record {
  accounts = all_with (Of lines) (Of (lines ++ told.Status id status ∷ [])) id (with_status status) noted.ids noted.accounts.streams distinct (status_of_it lines status id) (status_of_other lines status id) is.accounts;
  global = is.global ∙ sym (since_more all lines (told.Status id status));
  form = is.form ∙ sym (form_more saved lines (told.Status id status));
  number = one_more lines (told.Status id status) noted.lines is.number;
}

hears : (saved : Option StateForm) (lines : List Told) (line : Told) (noted : Noted) → AreDistinct noted.ids → IsNotedOf saved lines noted → IsNotedOf saved (lines ++ line ∷ []) (heard noted line)
hears saved lines (told.Record id) noted distinct is = hears_record saved lines id noted distinct is
hears saved lines (told.State state) noted distinct is = hears_state saved lines state noted (lane_of state.kind) refl distinct is
hears saved lines (told.Status id status) noted distinct is = hears_status saved lines id status noted (account_of noted.ids id noted.accounts.streams) refl distinct is
hears saved lines (told.Other saying) noted distinct is = nothing_heard saved lines (told.Other saying) noted (λ id account. stays lines (told.Other saying) id account refl refl refl) refl refl is

-- the states of a lane change, and nothing else
lane_kept : (saved : Option StateForm) (lines : List Told) (noted : Noted) (lane : Lane) (change : LaneAccount → LaneAccount) (held : List Pending) → ((account : LaneAccount) → (change account).since ≡ account.since) → IsNotedOf saved lines noted → IsNotedOf saved lines (record noted { accounts = with_lane noted.ids noted.accounts lane change; held = held })
lane_kept saved lines noted (one other) change held same is = record {
  accounts = all_kept (Of lines) other (changed_lane change) noted.ids noted.accounts.streams (λ id account of_it. record { records = of_it.records; status = of_it.status; since = same account.lane ∙ of_it.since }) is.accounts;
  global = is.global;
  form = is.form;
  number = is.number;
}
lane_kept saved lines noted all change held same is = record {
  accounts = is.accounts;
  global = same noted.accounts.global ∙ is.global;
  form = is.form;
  number = is.number;
}

gives_in : (saved : Option StateForm) (lines : List Told) (noted : Noted) (held : List Pending) (lane : Option Lane) → IsNotedOf saved lines noted → IsNotedOf saved lines (record noted { accounts = given_in noted.ids held lane noted.accounts; held = [] })
gives_in saved lines noted held None is = record { accounts = is.accounts; global = is.global; form = is.form; number = is.number }
gives_in saved lines noted held (Some lane) is = lane_kept saved lines noted lane (with_pending held) [] (λ account. refl) is

gives : (saved : Option StateForm) (lines : List Told) (noted : Noted) → IsNotedOf saved lines noted → IsNotedOf saved lines (gave noted)
gives saved lines noted is = at noted.held
  where
    at : (held : List Pending) → IsNotedOf saved lines (gave (record noted { held = held }))
    at [] = record { accounts = is.accounts; global = is.global; form = is.form; number = is.number }
    at (pending ∷ more) = gives_in saved lines noted (pending ∷ more) (lane_of pending.state.kind) is

pub list_laws : ListLaws
list_laws = record {
  begins = begins;
  hears = hears;
  gives = gives;
  takes = λ saved lines noted lane left is. lane_kept saved lines noted lane (left_pending left) noted.held (λ account. refl) is;
}
