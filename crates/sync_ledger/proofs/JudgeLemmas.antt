-- Lines are judged as the accounts at their places say.
use Rattle.std.proofs.Common.{arith, ◌≡◌, ℕ, zero, suc, ◌+◌, ◌<◌, List, [], ◌∷◌, length, slice_get, Option, None, Some, option_map, Result, Ok, Err, Bool, true, false, cond, not, is_some, IfOk, IfErr, nat_eq, nat_lt, refl, sym, ◌∙◌, ap, subst}
use Rattle.std.specs.List.{AllByRecursion}
use Rattle.basics.specs.declared.limits.TheConstants.{LONGEST_LINE}
use Rattle.basics.specs.declared.stream.StreamId.{StreamId}
use Rattle.stream_index.specs.Distinct.{AreDistinct}
use Rattle.json_fields.specs.Answer.{IsAnswer}
use Rattle.outside.specs.declared.faults.Breach.{Breach}
use Rattle.outside.specs.declared.faults.Breach.TheVariants as breach
use Rattle.outside.specs.declared.faults.Side.TheVariants as side
use Rattle.airbyte_message.specs.Lanes.{Lane, one, all, lane_of}
use Rattle.airbyte_message.specs.Messages.{IsMessage}
use Rattle.airbyte_message.specs.State.{State}
use Rattle.airbyte_message.specs.declared.message.Message.{Message}
use Rattle.airbyte_message.specs.declared.stream_status.StreamStatus.{StreamStatus}
use Rattle.sync_ledger.specs.Accounts.{AllAccounts, account_of, changed_lane, left_pending, lane_in, more_since, none_since, pending_of, with_pending, with_record, with_status}
use Rattle.sync_ledger.specs.Noted.{Noted, form_of, given, given_in, heard_in, heard_status, is_other_form}
use Rattle.sync_ledger.specs.Judged.{IsStranger, Refuses, RefusesLine, RefusesMessage, TakesBack, judged_account, judged_count, judged_in, judged_lane, judged_status, judged_told}
use Rattle.sync_ledger.specs.Kept.{GivesState, HasPlace, HearsTold, IsKept, IsPlaceOf, IsPlaceOfHeld, LeavesAt, ReadsTold, RefusesTold, changed_at, changed_nth, lane_at, state_noted}
use Rattle.sync_ledger.specs.Takes.{DiffersFrom, LeavesPending}
use Rattle.sync_ledger.specs.Told.{told_of}
use Rattle.sync_ledger.specs.declared.accounts.Account.{Account}
use Rattle.sync_ledger.specs.declared.accounts.LaneAccount.{LaneAccount}
use Rattle.sync_ledger.specs.declared.accounts.LanePlace.{LanePlace}
use Rattle.sync_ledger.specs.declared.accounts.LanePlace.TheVariants as place
use Rattle.sync_ledger.specs.declared.form.StateForm.{StateForm}
use Rattle.sync_ledger.specs.declared.pending.Pending.{Pending}
use Rattle.sync_ledger.specs.declared.told.Told.{Told}
use Rattle.sync_ledger.specs.declared.told.Told.TheVariants as told
use Rattle.sync_ledger.specs.declared.verdict.LedgerFault.{LedgerFault}
use Rattle.sync_ledger.specs.declared.verdict.LedgerFault.TheVariants as fault
use Rattle.sync_ledger.specs.declared.verdict.Verdict.{Verdict}
use Rattle.sync_ledger.specs.declared.verdict.Verdict.TheVariants as verdict
use Rattle.sync_ledger.proofs.AccountLemmas.{account_at, account_none, by_test, has_place, lane_none, lane_place, one_value, stream_within, with_account_at, with_lane_none, with_lane_place}
use Rattle.sync_ledger.proofs.KeptLemmas.{kept_left}

none_some : {A : Type 0} (a : A) → None ≡ Some a → ⊥
none_some a e = cc

some_none : {A : Type 0} (a : A) → Some a ≡ None → ⊥
some_none a e = cc

-- ---- records

pub record_unknown : (noted : Noted) (id : StreamId) → ((n : ℕ) → ¬ (slice_get noted.ids n ≡ Some id)) → judged_told noted (told.Record id) ≡ Err breach.UnknownStream
record_unknown noted id absent = ap judged_account (account_none noted.ids id noted.accounts.streams absent)

found_at : (accounts : List Account) (n : ℕ) → n < length accounts → (account : Account) × (slice_get accounts n ≡ Some account)
found_at [] n within = absurd (omega (arith, within))
found_at (account ∷ accounts) zero within = (account, refl)
found_at (account ∷ accounts) (suc n) within = found_at accounts n (omega (arith, within))

account_there : (noted : Noted) (id : StreamId) (n : ℕ) → IsKept noted → slice_get noted.ids n ≡ Some id → (account : Account) × (account_of noted.ids id noted.accounts.streams ≡ Some account)
account_there noted id n kept at =
    let found = found_at noted.accounts.streams n (stream_within noted.ids noted.accounts.streams id n kept.streams at) in
    (found.0, account_at noted.ids id noted.accounts.streams n kept.distinct kept.streams at ∙ found.1)

pub record_heard : (noted now : Noted) (id : StreamId) (n : ℕ) → IsKept noted → slice_get noted.ids n ≡ Some id
    → now ≡ record { ids = noted.ids; accounts = record { streams = changed_nth with_record noted.accounts.streams n; global = more_since noted.accounts.global }; form = noted.form; lines = noted.lines + 1; held = [] }
    → HearsTold noted (told.Record id) verdict.Give now
record_heard noted now id n kept at is = record {
  judges = ap judged_account (account_there noted id n kept at).1;
  notes = is ∙ ap (λ (found : List Account). record { ids = noted.ids; accounts = record { streams = found; global = more_since noted.accounts.global }; form = noted.form; lines = noted.lines + 1; held = [] }) (sym (with_account_at noted.ids id with_record noted.accounts.streams n kept.distinct kept.streams at));
}

-- ---- statuses

pub status_heard : (noted now : Noted) (id : StreamId) (status : StreamStatus) (n : ℕ) → IsKept noted → slice_get noted.ids n ≡ Some id
    → now ≡ record { ids = noted.ids; accounts = record noted.accounts { streams = changed_nth (with_status status) noted.accounts.streams n }; form = noted.form; lines = noted.lines + 1; held = [] }
    → HearsTold noted (told.Status id status) verdict.Give now
status_heard noted now id status n kept at is =
    let there = account_there noted id n kept at in
    record {
      judges = ap (λ (found : Option Account). Ok (judged_status found)) there.1;
      notes = is ∙ (ap (λ (found : List Account). record { ids = noted.ids; accounts = record noted.accounts { streams = found }; form = noted.form; lines = noted.lines + 1; held = [] }) (sym (with_account_at noted.ids id (with_status status) noted.accounts.streams n kept.distinct kept.streams at))
          ∙ ap (λ (found : Option Account). heard_status id status noted found) (sym there.1));
    }

pub status_passed : (noted now : Noted) (id : StreamId) (status : StreamStatus) → ((n : ℕ) → ¬ (slice_get noted.ids n ≡ Some id))
    → now ≡ record { ids = noted.ids; accounts = noted.accounts; form = noted.form; lines = noted.lines + 1; held = noted.held }
    → HearsTold noted (told.Status id status) verdict.Nothing now
status_passed noted now id status absent is =
    let none = account_none noted.ids id noted.accounts.streams absent in
    record {
      judges = ap (λ (found : Option Account). Ok (judged_status found)) none;
      notes = is ∙ ap (λ (found : Option Account). heard_status id status noted found) (sym none);
    }

-- ---- states

judged_rest : (noted : Noted) (count : Option ℕ) (lane : Lane) (form : StateForm) → form ≡ form_of lane → is_other_form form noted.form ≡ false → judged_in noted count (Some lane) ≡ judged_lane count (lane_in noted.ids noted.accounts lane)
judged_rest noted count lane form is same = ap (λ (b : Bool). cond b (Err breach.Mixed) (judged_lane count (lane_in noted.ids noted.accounts lane))) (ap (λ (f : StateForm). is_other_form f noted.form) (sym is) ∙ same)

pub judged_unknown : (noted : Noted) (count : Option ℕ) (lane : Option Lane) (form : StateForm) → Some form ≡ option_map form_of lane → is_other_form form noted.form ≡ false → IsPlaceOf noted.ids lane None → judged_in noted count lane ≡ Err breach.UnknownStream
judged_unknown noted count None form is same absent = absurd (some_none form is)
judged_unknown noted count (Some lane) form is same absent = judged_rest noted count lane form (one_value form (form_of lane) is) same ∙ ap (judged_lane count) (lane_none noted.ids noted.accounts lane absent)

counted_of : (count : Option ℕ) (since : ℕ) (found : Option LaneAccount) → Some since ≡ option_map (λ account. account.since) found → judged_lane count found ≡ judged_count count since
counted_of count since None is = absurd (some_none since is)
counted_of count since (Some account) is = ap (judged_count count) (sym (one_value since account.since is))

pub judged_known : (noted : Noted) (count : Option ℕ) (lane : Option Lane) (form : StateForm) (at : LanePlace) (since : ℕ) → IsKept noted → Some form ≡ option_map form_of lane → is_other_form form noted.form ≡ false → IsPlaceOf noted.ids lane (Some at) → Some since ≡ option_map (λ account. account.since) (lane_at noted.accounts at) → judged_in noted count lane ≡ judged_count count since
judged_known noted count None form at since kept is same here counted = absurd (some_none form is)
judged_known noted count (Some lane) form at since kept is same here counted =
    judged_rest noted count lane form (one_value form (form_of lane) is) same
    ∙ (ap (judged_lane count) (lane_place noted.ids noted.accounts lane at kept.distinct kept.streams here)
    ∙ counted_of count since (lane_at noted.accounts at) counted)

pub state_is : (noted : Noted) (state : State) (lane : Option Lane) (at : LanePlace) → IsKept noted → IsPlaceOf noted.ids lane (Some at) → state_noted state at noted ≡ heard_in state noted lane
state_is noted state None at kept here = absurd (some_none at here)
state_is noted state (Some (one id)) (place.Stream n) kept here = ap (λ (accounts : AllAccounts). record { ids = noted.ids; accounts = accounts; form = Some (form_of (one id)); lines = noted.lines + 1; held = record { state = state; line = noted.lines + 1 } ∷ [] }) (sym (with_lane_place noted.ids noted.accounts (one id) (place.Stream n) none_since kept.distinct kept.streams here))
state_is noted state (Some (one id)) place.Global kept here = absurd here
state_is noted state (Some all) (place.Stream n) kept here = absurd here
state_is noted state (Some all) place.Global kept here = refl

pub gives_state : (noted : Noted) (state : State) (form : StateForm) (at : LanePlace) (since : ℕ) → IsKept noted → Some form ≡ option_map form_of (lane_of state.kind) → is_other_form form noted.form ≡ false → IsPlaceOf noted.ids (lane_of state.kind) (Some at) → Some since ≡ option_map (λ account. account.since) (lane_at noted.accounts at) → judged_count state.source_count since ≡ Ok verdict.Give → GivesState noted state at
gives_state noted state form at since kept is same here counted gives = record {
  has = has_place noted.ids noted.accounts (lane_of state.kind) at kept.streams here;
  judges = judged_known noted state.source_count (lane_of state.kind) form at since kept is same here counted ∙ gives;
  notes = state_is noted state (lane_of state.kind) at kept here;
}

pub gives_if : (noted : Noted) (state : State) (at : LanePlace) (r : Result LanePlace Breach) (said : Option ℕ) (counted : ℕ) → IfOk r (λ found. (found ≡ at) × (judged_count said counted ≡ Ok verdict.Give)) → (judged_count said counted ≡ Ok verdict.Give → GivesState noted state at) → IfOk r (λ found. GivesState noted state found)
gives_if noted state at (Err why) said counted is gives = tt
gives_if noted state at (Ok found) said counted is gives = subst (λ (p : LanePlace). GivesState noted state p) (sym is.0) (gives is.1)

pub refuses_if : (r : Result LanePlace Breach) (asked counted : Result Verdict Breach) → asked ≡ counted → IfErr r (λ why. counted ≡ Err why) → IfErr r (λ why. asked ≡ Err why)
refuses_if (Ok found) asked counted same is = tt
refuses_if (Err why) asked counted same is = same ∙ is

pub none_not : (form : Option StateForm) (is_none : Bool) → is_some form ≡ not is_none → is_none ≡ false → form ≡ None → ⊥
none_not form is_none is false_is none = let e : false ≡ true = sym (ap is_some none) ∙ (is ∙ ap not false_is) in cc

-- ---- what was given

given_lane : (ids : List StreamId) (held : List Pending) (lane : Option Lane) (at : LanePlace) (accounts : AllAccounts) → AreDistinct ids → length accounts.streams ≡ length ids → IsPlaceOf ids lane (Some at) → given_in ids held lane accounts ≡ changed_at (with_pending held) accounts at
given_lane ids held None at accounts distinct long here = absurd (some_none at here)
given_lane ids held (Some lane) at accounts distinct long here = with_lane_place ids accounts lane at (with_pending held) distinct long here

pub given_at : (ids : List StreamId) (held : List Pending) (at : LanePlace) (accounts : AllAccounts) → AreDistinct ids → length accounts.streams ≡ length ids → IsPlaceOfHeld ids held (Some at) → given ids held accounts ≡ changed_at (with_pending held) accounts at
given_at ids [] at accounts distinct long here = absurd (some_none at here)
given_at ids (pending ∷ more) at accounts distinct long here = given_lane ids (pending ∷ more) (lane_of pending.state.kind) at accounts distinct long here

given_away : (ids : List StreamId) (held : List Pending) (lane : Option Lane) (accounts : AllAccounts) → length accounts.streams ≡ length ids → IsPlaceOf ids lane None → given_in ids held lane accounts ≡ accounts
given_away ids held None accounts long here = refl
given_away ids held (Some lane) accounts long here = with_lane_none ids accounts lane (with_pending held) long here

pub given_none : (ids : List StreamId) (held : List Pending) (accounts : AllAccounts) → length accounts.streams ≡ length ids → IsPlaceOfHeld ids held None → given ids held accounts ≡ accounts
given_none ids [] accounts long here = refl
given_none ids (pending ∷ more) accounts long here = given_away ids (pending ∷ more) (lane_of pending.state.kind) accounts long here

pub held_has_place : (ids : List StreamId) (held : List Pending) (at : LanePlace) (accounts : AllAccounts) → length accounts.streams ≡ length ids → IsPlaceOfHeld ids held (Some at) → HasPlace accounts at
held_has_place ids [] at accounts long here = absurd (some_none at here)
held_has_place ids (pending ∷ more) at accounts long here = has_place ids accounts (lane_of pending.state.kind) at long here

-- ---- what comes back

-- a state that takes nothing changes nothing
same_nth : (accounts : List Account) (n : ℕ) → changed_nth (changed_lane (left_pending (pending_of (option_map (λ account. account.lane) (slice_get accounts n))))) accounts n ≡ accounts
same_nth [] n = refl
same_nth (account ∷ accounts) zero = refl
same_nth (account ∷ accounts) (suc n) = ap (λ (found : List Account). account ∷ found) (same_nth accounts n)

same_at : (accounts : AllAccounts) (at : LanePlace) → changed_at (left_pending (pending_of (lane_at accounts at))) accounts at ≡ accounts
same_at accounts (place.Stream n) = ap (λ (found : List Account). record accounts { streams = found }) (same_nth accounts.streams n)
same_at accounts place.Global = refl

pub none_left : (old new : AllAccounts) (at : LanePlace) (got : State) → LeavesAt old at got None new → new ≡ old
none_left old new at got leaves = leaves.is ∙ (ap (λ (left : List Pending). changed_at (left_pending left) old at) leaves.takes.1 ∙ same_at old at)

pub kept_back : (noted : Noted) (new : AllAccounts) (at : LanePlace) (got : State) (taken : Option State) → IsKept noted → LeavesAt noted.accounts at got taken new → IsKept (record { ids = noted.ids; accounts = new; form = noted.form; lines = noted.lines; held = noted.held })
kept_back noted new at got taken kept leaves =
    subst (λ (accounts : AllAccounts). IsKept (record { ids = noted.ids; accounts = accounts; form = noted.form; lines = noted.lines; held = noted.held })) (sym leaves.is) (kept_left noted at leaves.left leaves.shorter kept)

stranger_in : (noted : Noted) (got : State) (lane : Option Lane) → lane_of got.kind ≡ lane → (option_map form_of lane ≡ None → ⊥) → IsPlaceOf noted.ids lane None → IsStranger noted got
stranger_in noted got None at there absent = absurd (there refl)
stranger_in noted got (Some lane) at there absent = record {
  lane = lane;
  of_lane = at;
  others = subst (λ (found : Option LaneAccount). AllByRecursion (DiffersFrom got) (pending_of found)) (sym (lane_none noted.ids noted.accounts lane absent)) tt;
}

pub stranger_unknown : (noted : Noted) (got : State) → (option_map form_of (lane_of got.kind) ≡ None → ⊥) → IsPlaceOf noted.ids (lane_of got.kind) None → IsStranger noted got
stranger_unknown noted got there absent = stranger_in noted got (lane_of got.kind) refl there absent

strange_in : (noted : Noted) (got : State) (lane : Option Lane) (at : LanePlace) (new : AllAccounts) → IsKept noted → lane_of got.kind ≡ lane → IsPlaceOf noted.ids lane (Some at) → LeavesAt noted.accounts at got None new → IsStranger noted got
strange_in noted got None at new kept of here leaves = absurd (some_none at here)
strange_in noted got (Some lane) at new kept of here leaves = record {
  lane = lane;
  of_lane = of;
  others = subst (λ (found : Option LaneAccount). AllByRecursion (DiffersFrom got) (pending_of found)) (sym (lane_place noted.ids noted.accounts lane at kept.distinct kept.streams here)) leaves.takes.0;
}

pub stranger_known : (noted : Noted) (got : State) (at : LanePlace) (new : AllAccounts) → IsKept noted → IsPlaceOf noted.ids (lane_of got.kind) (Some at) → LeavesAt noted.accounts at got None new → IsStranger noted got
stranger_known noted got at new kept here leaves = strange_in noted got (lane_of got.kind) at new kept refl here leaves

back_in : (noted : Noted) (got taken : State) (lane : Option Lane) (at : LanePlace) (new : AllAccounts) → IsKept noted → lane_of got.kind ≡ lane → IsPlaceOf noted.ids lane (Some at) → LeavesAt noted.accounts at got (Some taken) new → TakesBack noted got taken (record { ids = noted.ids; accounts = new; form = noted.form; lines = noted.lines; held = noted.held })
back_in noted got taken None at new kept of here leaves = absurd (some_none at here)
back_in noted got taken (Some lane) at new kept of here leaves = record {
  lane = lane;
  of_lane = of;
  left = leaves.left;
  takes = subst (λ (found : Option LaneAccount). LeavesPending (pending_of found) got (Some taken) leaves.left) (sym (lane_place noted.ids noted.accounts lane at kept.distinct kept.streams here)) leaves.takes;
  notes = ap (λ (accounts : AllAccounts). record { ids = noted.ids; accounts = accounts; form = noted.form; lines = noted.lines; held = noted.held }) (leaves.is ∙ sym (with_lane_place noted.ids noted.accounts lane at (left_pending leaves.left) kept.distinct kept.streams here));
}

pub taken_back : (noted : Noted) (got taken : State) (at : LanePlace) (new : AllAccounts) → IsKept noted → IsPlaceOf noted.ids (lane_of got.kind) (Some at) → LeavesAt noted.accounts at got (Some taken) new → TakesBack noted got taken (record { ids = noted.ids; accounts = new; form = noted.form; lines = noted.lines; held = noted.held })
taken_back noted got taken at new kept here leaves = back_in noted got taken (lane_of got.kind) at new kept refl here leaves

-- ---- what a line tells is never too long

long_account : (found : Option Account) → judged_account found ≡ Err breach.TooLong → ⊥
long_account None is = cc
long_account (Some account) is = cc

long_count : (count : Option ℕ) (counted : ℕ) → judged_count count counted ≡ Err breach.TooLong → ⊥
long_count None counted is = cc
long_count (Some said) counted is = by_test (nat_eq said counted)
    (λ same. let e : Ok verdict.Give ≡ Err breach.TooLong = sym (ap (λ (b : Bool). cond b (Ok verdict.Give) (Err (breach.Miscount said counted))) same) ∙ is in cc)
    (λ other. let e : Err (breach.Miscount said counted) ≡ Err breach.TooLong = sym (ap (λ (b : Bool). cond b (Ok verdict.Give) (Err (breach.Miscount said counted))) other) ∙ is in cc)

long_lane : (count : Option ℕ) (found : Option LaneAccount) → judged_lane count found ≡ Err breach.TooLong → ⊥
long_lane count None is = cc
long_lane count (Some account) is = long_count count account.since is

long_in : (noted : Noted) (count : Option ℕ) (lane : Option Lane) → judged_in noted count lane ≡ Err breach.TooLong → ⊥
long_in noted count None is = cc
long_in noted count (Some lane) is =
    let rest = judged_lane count (lane_in noted.ids noted.accounts lane) in
    by_test (is_other_form (form_of lane) noted.form)
    (λ other. let e : Err breach.Mixed ≡ Err breach.TooLong = sym (ap (λ (b : Bool). cond b (Err breach.Mixed) rest) other) ∙ is in cc)
    (λ same. long_lane count (lane_in noted.ids noted.accounts lane) (sym (ap (λ (b : Bool). cond b (Err breach.Mixed) rest) same) ∙ is))

long_told : (noted : Noted) (heard_is : Told) → judged_told noted heard_is ≡ Err breach.TooLong → ⊥
long_told noted (told.Record id) is = long_account (account_of noted.ids id noted.accounts.streams) is
long_told noted (told.State state) is = long_in noted state.source_count (lane_of state.kind) is
long_told noted (told.Status id status) is = cc
long_told noted (told.Other saying) is = cc

-- a line that is refused, and is not too long
refused_message : (noted : Noted) (line : List ℕ) (found : Option Message) (heard_is : Told) (why : Breach) → nat_lt LONGEST_LINE (length line) ≡ false → IsAnswer (IsMessage line) found → heard_is ≡ told_of side.Source line found → judged_told noted heard_is ≡ Err why → RefusesMessage noted line why
refused_message noted line found heard_is why short reads is refused = record {
  found = found;
  reads = reads;
  judges = ap (λ (b : Bool). cond b (Err breach.TooLong) (judged_told noted (told_of side.Source line found))) short ∙ (ap (judged_told noted) (sym is) ∙ refused);
}

pub refused_line : (noted : Noted) (line : List ℕ) (found : Option Message) (heard_is : Told) (why : Breach) → nat_lt LONGEST_LINE (length line) ≡ false → IsAnswer (IsMessage line) found → heard_is ≡ told_of side.Source line found → judged_told noted heard_is ≡ Err why → Refuses noted line why
refused_line noted line found heard_is breach.UnknownStream short reads is refused = refused_message noted line found heard_is breach.UnknownStream short reads is refused
refused_line noted line found heard_is breach.Legacy short reads is refused = refused_message noted line found heard_is breach.Legacy short reads is refused
refused_line noted line found heard_is breach.Mixed short reads is refused = refused_message noted line found heard_is breach.Mixed short reads is refused
refused_line noted line found heard_is (breach.Miscount said counted) short reads is refused = refused_message noted line found heard_is (breach.Miscount said counted) short reads is refused
refused_line noted line found heard_is breach.TooLong short reads is refused = absurd (long_told noted heard_is refused)
refused_line noted line found heard_is breach.Stranger short reads is refused = refused_message noted line found heard_is breach.Stranger short reads is refused

pub refused_if : (noted : Noted) (line : List ℕ) (heard_is : Told) (r : Result Verdict LedgerFault) → nat_lt LONGEST_LINE (length line) ≡ false → ReadsTold side.Source line heard_is → IfErr r (λ why. RefusesTold noted heard_is why) → IfErr r (λ why. RefusesLine noted line why)
refused_if noted line heard_is (Ok answer) short reads refuses = tt
refused_if noted line heard_is (Err (fault.Breach why)) short reads refuses = refused_line noted line reads.found heard_is why short reads.reads reads.is refuses
refused_if noted line heard_is (Err fault.NoMemory) short reads refuses = tt
