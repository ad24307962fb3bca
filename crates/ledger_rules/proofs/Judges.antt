-- A ledger refuses exactly the breaches, and has those lines given that are passed on.
use Rattle.std.proofs.Common.{◌≡◌, ℕ, List, [], Bool, true, false, cond, Option, None, Some, Result, Ok, Err, refl, sym, ◌∙◌, ap, map, nat_lt, nat_eq, length, is_some, option_map}
use Rattle.std.proofs.lemmas.Bool.{false≢true}
use Rattle.basics.specs.declared.limits.TheConstants.{LONGEST_LINE}
use Rattle.basics.specs.declared.stream.StreamId.{StreamId}
use Rattle.outside.specs.declared.faults.Breach.{Breach}
use Rattle.outside.specs.declared.faults.Breach.TheVariants as breach
use Rattle.outside.specs.declared.faults.Side.TheVariants as side
use Rattle.outside.specs.declared.event.Event.{Event}
use Rattle.airbyte_message.specs.Lanes.{one, all, lane_of}
use Rattle.airbyte_message.specs.State.{State}
use Rattle.airbyte_message.specs.declared.message.Message.{Message}
use Rattle.airbyte_message.specs.declared.message.Message.TheVariants as message
use Rattle.airbyte_message.specs.declared.message.StateKind.{StateKind}
use Rattle.airbyte_message.specs.declared.message.StateKind.TheVariants as kind
use Rattle.airbyte_message.specs.declared.message.TraceMsg.{TraceMsg}
use Rattle.airbyte_message.specs.declared.message.TraceMsg.TheVariants as trace
use Rattle.load_rules.specs.Lines.{Reading, is_known, line_read, lines_read, passes}
use Rattle.load_rules.specs.Taken.{since}
use Rattle.load_rules.specs.Attempts.{reads}
use Rattle.state_kinds.specs.Saved.{Saved, IsSaved, has_states}
use Rattle.sync_rules.specs.Breaches.{breach_of, breach_of_message, breach_of_state, has_global_state, has_stream_state, miscount}
use Rattle.sync_rules.proofs.KindLemmas.{Apart, apart_along, apart_none}
use Rattle.sync_ledger.specs.Accounts.{account_of, lane_in}
use Rattle.sync_ledger.specs.Judged.{judged, judged_account, judged_count, judged_in, judged_lane, judged_status, judged_told}
use Rattle.sync_ledger.specs.Lists.{IsAccountOf}
use Rattle.sync_ledger.specs.Noted.{Noted, is_other_form}
use Rattle.sync_ledger.specs.Told.{told_of, verdict_of}
use Rattle.sync_ledger.specs.declared.accounts.LaneAccount.{LaneAccount}
use Rattle.sync_ledger.specs.declared.form.StateForm.TheVariants as form
use Rattle.sync_ledger.specs.declared.said.Saying.{Saying}
use Rattle.sync_ledger.specs.declared.said.Saying.TheVariants as saying
use Rattle.sync_ledger.specs.declared.verdict.Verdict.{Verdict}
use Rattle.sync_ledger.specs.declared.verdict.Verdict.TheVariants as verdict
use Rattle.ledger_rules.specs.Ledgers.{IsLedgerOf, breach_in, form_by, is_give, told_read}
use Rattle.ledger_rules.proofs.Same.{Found, by_test, found_known, found_unknown, since_same}

abbrev pub lines_of : Reading → List Event → List (List ℕ)
lines_of read events = reads events

-- ---- of which form states are

other_stream : (of_streams of_all : Bool) → is_other_form form.Stream (form_by of_streams of_all) ≡ of_all
other_stream true true = refl
other_stream true false = refl
other_stream false true = refl
other_stream false false = refl

other_global : (of_streams of_all : Bool) → (of_streams ≡ true → of_all ≡ true → ⊥) → is_other_form form.Global (form_by of_streams of_all) ≡ of_streams
other_global true true apart = absurd (apart refl refl)
other_global true false apart = refl
other_global false true apart = refl
other_global false false apart = refl

one_kind : (start : Saved) → IsSaved start → has_states start.entries ≡ true → is_some start.global ≡ true → ⊥
one_kind start saved by_stream by_all = false≢true (sym (saved.one_kind by_all) ∙ by_stream)

pub apart_of : (ids : List StreamId) (start : Saved) (read : Reading) (events : List Event) (line : Option (List ℕ)) (noted : Noted) → IsSaved start → IsLedgerOf ids start read events line noted → Apart start (lines_read read (reads events))
apart_of ids start read events line noted saved ledger = apart_along ids start [] (lines_read read (reads events)) ledger.unbroken (apart_none start (one_kind start saved))

-- ---- accounts

stream_account : (ids : List StreamId) (start : Saved) (read : Reading) (events : List Event) (line : Option (List ℕ)) (noted : Noted) (id : StreamId) → IsLedgerOf ids start read events line noted → is_known ids id ≡ true
    → Found (λ own account. IsAccountOf own (map (told_read read) (reads events)) account) noted.ids id noted.accounts.streams
stream_account ids start read events line noted id ledger known = found_known (λ own account. IsAccountOf own (map (told_read read) (reads events)) account) noted.ids id noted.accounts.streams ledger.heard.accounts (ap (λ list. is_known list id) ledger.ids_are ∙ known)

no_account : (ids : List StreamId) (start : Saved) (read : Reading) (events : List Event) (line : Option (List ℕ)) (noted : Noted) (id : StreamId) → IsLedgerOf ids start read events line noted → is_known ids id ≡ false → account_of noted.ids id noted.accounts.streams ≡ None
no_account ids start read events line noted id ledger unknown = found_unknown (λ own account. IsAccountOf own (map (told_read read) (reads events)) account) noted.ids id noted.accounts.streams ledger.heard.accounts (ap (λ list. is_known list id) ledger.ids_are ∙ unknown)

-- ---- counts

count_same : (said : Option ℕ) (counted : ℕ) → breach_in (judged_count said counted) ≡ miscount said counted
count_same None counted = refl
count_same (Some said) counted = at (nat_eq said counted)
  where
    at : (b : Bool) → breach_in (cond b (Ok verdict.Give) (Err (breach.Miscount said counted))) ≡ cond b None (Some (breach.Miscount said counted))
    at true = refl
    at false = refl

lane_same : (ids : List StreamId) (start : Saved) (read : Reading) (events : List Event) (line : Option (List ℕ)) (noted : Noted) (id : StreamId) (count : Option ℕ) → IsLedgerOf ids start read events line noted
    → breach_in (judged_lane count (lane_in noted.ids noted.accounts (one id))) ≡ cond (is_known ids id) (miscount count (since (one id) (lines_read read (reads events)))) (Some breach.UnknownStream)
lane_same ids start read events line noted id count ledger = by_test (is_known ids id) here there
  where
    here : is_known ids id ≡ true → breach_in (judged_lane count (lane_in noted.ids noted.accounts (one id))) ≡ cond (is_known ids id) (miscount count (since (one id) (lines_read read (reads events)))) (Some breach.UnknownStream)
    here known =
        let found = stream_account ids start read events line noted id ledger known in
        ap (λ own. breach_in (judged_lane count (option_map (λ account. account.lane) own))) found.is
        ∙ (count_same count found.account.lane.since
        ∙ (ap (miscount count) (found.holds.since ∙ since_same (one id) read (reads events))
        ∙ sym (ap (λ b. cond b (miscount count (since (one id) (lines_read read (reads events)))) (Some breach.UnknownStream)) known)))

    there : is_known ids id ≡ false → breach_in (judged_lane count (lane_in noted.ids noted.accounts (one id))) ≡ cond (is_known ids id) (miscount count (since (one id) (lines_read read (reads events)))) (Some breach.UnknownStream)
    there unknown =
        ap (λ own. breach_in (judged_lane count (option_map (λ account. account.lane) own))) (no_account ids start read events line noted id ledger unknown)
        ∙ sym (ap (λ b. cond b (miscount count (since (one id) (lines_read read (reads events)))) (Some breach.UnknownStream)) unknown)

-- ---- what a line is judged as

choose : (b : Bool) (x : Result Verdict Breach) (y : Option Breach) (why : Breach) → breach_in x ≡ y → breach_in (cond b (Err why) x) ≡ cond b (Some why) y
choose true x y why same = refl
choose false x y why same = same

state_same : (ids : List StreamId) (start : Saved) (read : Reading) (events : List Event) (line : Option (List ℕ)) (noted : Noted) (count : Option ℕ) (own : StateKind) → IsSaved start → IsLedgerOf ids start read events line noted
    → breach_in (judged_in noted count (lane_of own)) ≡ breach_of_state ids start (lines_read read (reads events)) count own
state_same ids start read events line noted count kind.Legacy saved ledger = refl
state_same ids start read events line noted count (kind.Stream id blob) saved ledger =
    let lines = lines_read read (reads events) in
    ap (λ b. breach_in (cond b (Err breach.Mixed) (judged_lane count (lane_in noted.ids noted.accounts (one id))))) (ap (is_other_form form.Stream) ledger.form ∙ other_stream (has_stream_state start lines) (has_global_state start lines))
    ∙ choose (has_global_state start lines) (judged_lane count (lane_in noted.ids noted.accounts (one id))) (cond (is_known ids id) (miscount count (since (one id) lines)) (Some breach.UnknownStream)) breach.Mixed
    (lane_same ids start read events line noted id count ledger)
state_same ids start read events line noted count (kind.Global shared streams) saved ledger =
    let lines = lines_read read (reads events) in
    ap (λ b. breach_in (cond b (Err breach.Mixed) (judged_count count noted.accounts.global.since))) (ap (is_other_form form.Global) ledger.form ∙ other_global (has_stream_state start lines) (has_global_state start lines) (apart_of ids start read events line noted saved ledger))
    ∙ choose (has_stream_state start lines) (judged_count count noted.accounts.global.since) (miscount count (since all lines)) breach.Mixed
    (count_same count noted.accounts.global.since ∙ ap (miscount count) (ledger.heard.global ∙ since_same all read (reads events)))

record_same : (ids : List StreamId) (start : Saved) (read : Reading) (events : List Event) (line : Option (List ℕ)) (noted : Noted) (id : StreamId) → IsLedgerOf ids start read events line noted
    → breach_in (judged_account (account_of noted.ids id noted.accounts.streams)) ≡ cond (is_known ids id) None (Some breach.UnknownStream)
record_same ids start read events line noted id ledger = by_test (is_known ids id)
    (λ known. ap (λ own. breach_in (judged_account own)) (stream_account ids start read events line noted id ledger known).is ∙ sym (ap (λ b. cond b None (Some breach.UnknownStream)) known))
    (λ unknown. ap (λ own. breach_in (judged_account own)) (no_account ids start read events line noted id ledger unknown) ∙ sym (ap (λ b. cond b None (Some breach.UnknownStream)) unknown))

trace_same : (noted : Noted) (text : List ℕ) (content : TraceMsg) → breach_in (judged_told noted (told_of side.Source text (Some (message.Trace content)))) ≡ None
trace_same noted text (trace.Error words failure emitted_at) = refl
trace_same noted text (trace.Status id status emitted_at) = refl
trace_same noted text (trace.Other object) = refl

told_same : (ids : List StreamId) (start : Saved) (read : Reading) (events : List Event) (line : Option (List ℕ)) (noted : Noted) (text : List ℕ) (found : Option Message) → IsSaved start → IsLedgerOf ids start read events line noted
    → breach_in (judged_told noted (told_of side.Source text found)) ≡ breach_of_message ids start (lines_read read (reads events)) found
told_same ids start read events line noted text None saved ledger = refl
told_same ids start read events line noted text (Some (message.Rec content)) saved ledger = record_same ids start read events line noted content.id ledger
told_same ids start read events line noted text (Some (message.State state)) saved ledger = state_same ids start read events line noted state.source_count state.kind saved ledger
told_same ids start read events line noted text (Some (message.Log content)) saved ledger = refl
told_same ids start read events line noted text (Some (message.Spec content)) saved ledger = refl
told_same ids start read events line noted text (Some (message.Connection content)) saved ledger = refl
told_same ids start read events line noted text (Some (message.Catalog content)) saved ledger = refl
told_same ids start read events line noted text (Some (message.Trace content)) saved ledger = trace_same noted text content
told_same ids start read events line noted text (Some (message.Control content)) saved ledger = refl

pub judges : (ids : List StreamId) (start : Saved) (read : Reading) (events : List Event) (line : Option (List ℕ)) (noted : Noted) (text : List ℕ)
    → IsSaved start → IsLedgerOf ids start read events line noted → breach_in (judged noted text (read text)) ≡ breach_of ids start (lines_read read (reads events)) (line_read read text)
judges ids start read events line noted text saved ledger =
    choose (nat_lt LONGEST_LINE (length text)) (judged_told noted (told_of side.Source text (read text))) (breach_of_message ids start (lines_read read (reads events)) (read text)) breach.TooLong
    (told_same ids start read events line noted text (read text) saved ledger)

-- ---- what is given

pub err_ok : {A E : Type 0} {e : E} {a : A} → Err e ≡ Ok a → ⊥
err_ok h = cc

abbrev pub ok_verdict : Verdict → Result Verdict Breach
ok_verdict answer = Ok answer

pub ok_is : {a b : Verdict} → ok_verdict a ≡ ok_verdict b → a ≡ b
ok_is h = cc

pub short_told : (noted : Noted) (text : List ℕ) (told_is : Result Verdict Breach) (answer : Verdict) → cond (nat_lt LONGEST_LINE (length text)) (Err breach.TooLong) told_is ≡ Ok answer → told_is ≡ Ok answer
short_told noted text told_is answer is = at (nat_lt LONGEST_LINE (length text)) is
  where
    at : (b : Bool) → cond b (Err breach.TooLong) told_is ≡ Ok answer → told_is ≡ Ok answer
    at true one_is = absurd (err_ok one_is)
    at false one_is = one_is

said_not : (own : Saying) → is_give (verdict_of own) ≡ false
said_not (saying.Say line) = refl
said_not saying.Nothing = refl
said_not (saying.ConfigError line) = refl

saying_not : (own : Saying) (answer : Verdict) → ok_verdict (verdict_of own) ≡ ok_verdict answer → is_give answer ≡ false
saying_not own answer is = ap is_give (sym (ok_is is)) ∙ said_not own

record_given : (ids : List StreamId) (start : Saved) (read : Reading) (events : List Event) (line : Option (List ℕ)) (noted : Noted) (id : StreamId) (answer : Verdict) → IsLedgerOf ids start read events line noted
    → judged_account (account_of noted.ids id noted.accounts.streams) ≡ Ok answer → is_give answer ≡ is_known ids id
record_given ids start read events line noted id answer ledger is = by_test (is_known ids id)
    (λ known. ap is_give (sym (ok_is (sym (ap judged_account (stream_account ids start read events line noted id ledger known).is) ∙ is))) ∙ sym known)
    (λ unknown. absurd (err_ok (sym (ap judged_account (no_account ids start read events line noted id ledger unknown)) ∙ is)))

pub count_given : (said : Option ℕ) (counted : ℕ) (answer : Verdict) → judged_count said counted ≡ Ok answer → is_give answer ≡ true
count_given None counted answer is = ap is_give (sym (ok_is is))
count_given (Some said) counted answer is = at (nat_eq said counted) is
  where
    at : (b : Bool) → cond b (Ok verdict.Give) (Err (breach.Miscount said counted)) ≡ Ok answer → is_give answer ≡ true
    at true one_is = ap is_give (sym (ok_is one_is))
    at false one_is = absurd (err_ok one_is)

pub lane_given : (found : Option LaneAccount) (count : Option ℕ) (answer : Verdict) → judged_lane count found ≡ Ok answer → is_give answer ≡ true
lane_given None count answer is = absurd (err_ok is)
lane_given (Some account) count answer is = count_given count account.since answer is

lane_known : (ids : List StreamId) (start : Saved) (read : Reading) (events : List Event) (line : Option (List ℕ)) (noted : Noted) (id : StreamId) (count : Option ℕ) (answer : Verdict) → IsLedgerOf ids start read events line noted
    → judged_lane count (lane_in noted.ids noted.accounts (one id)) ≡ Ok answer → is_known ids id ≡ true
lane_known ids start read events line noted id count answer ledger is = by_test (is_known ids id)
    (λ known. known)
    (λ unknown. absurd (err_ok (sym (ap (λ own. judged_lane count (option_map (λ account. account.lane) own)) (no_account ids start read events line noted id ledger unknown)) ∙ is)))

unmixed : (b : Bool) (rest : Result Verdict Breach) (answer : Verdict) → cond b (Err breach.Mixed) rest ≡ Ok answer → rest ≡ Ok answer
unmixed true rest answer is = absurd (err_ok is)
unmixed false rest answer is = is

state_given : (ids : List StreamId) (start : Saved) (read : Reading) (events : List Event) (line : Option (List ℕ)) (noted : Noted) (text : List ℕ) (state : State) (own : StateKind) (answer : Verdict) → state.kind ≡ own → IsLedgerOf ids start read events line noted
    → judged_in noted state.source_count (lane_of own) ≡ Ok answer → is_give answer ≡ passes ids (Some (message.State state))
state_given ids start read events line noted text state kind.Legacy answer at ledger is = absurd (err_ok is)
state_given ids start read events line noted text state (kind.Stream id blob) answer at ledger is =
    let rest = unmixed (is_other_form form.Stream noted.form) (judged_lane state.source_count (lane_in noted.ids noted.accounts (one id))) answer is in
    lane_given (lane_in noted.ids noted.accounts (one id)) state.source_count answer rest
    ∙ (sym (lane_known ids start read events line noted id state.source_count answer ledger rest) ∙ sym (ap (λ it. passes ids (Some (message.State (record state { kind = it })))) at))
state_given ids start read events line noted text state (kind.Global shared streams) answer at ledger is =
    let rest = unmixed (is_other_form form.Global noted.form) (judged_count state.source_count noted.accounts.global.since) answer is in
    count_given state.source_count noted.accounts.global.since answer rest ∙ sym (ap (λ it. passes ids (Some (message.State (record state { kind = it })))) at)

trace_given : (ids : List StreamId) (start : Saved) (read : Reading) (events : List Event) (line : Option (List ℕ)) (noted : Noted) (text : List ℕ) (content : TraceMsg) (answer : Verdict) → IsLedgerOf ids start read events line noted
    → judged_told noted (told_of side.Source text (Some (message.Trace content))) ≡ Ok answer → is_give answer ≡ passes ids (Some (message.Trace content))
trace_given ids start read events line noted text (trace.Error words failure emitted_at) answer ledger is = ap is_give (sym (ok_is is)) ∙ said_not _
trace_given ids start read events line noted text (trace.Status id status emitted_at) answer ledger is = by_test (is_known ids id)
    (λ known. ap is_give (sym (ok_is is)) ∙ (ap (λ own. is_give (judged_status own)) (stream_account ids start read events line noted id ledger known).is ∙ sym known))
    (λ unknown. ap is_give (sym (ok_is is)) ∙ (ap (λ own. is_give (judged_status own)) (no_account ids start read events line noted id ledger unknown) ∙ sym unknown))
trace_given ids start read events line noted text (trace.Other object) answer ledger is = ap is_give (sym (ok_is is))

told_given : (ids : List StreamId) (start : Saved) (read : Reading) (events : List Event) (line : Option (List ℕ)) (noted : Noted) (text : List ℕ) (found : Option Message) (answer : Verdict) → IsLedgerOf ids start read events line noted
    → judged_told noted (told_of side.Source text found) ≡ Ok answer → is_give answer ≡ passes ids found
told_given ids start read events line noted text None answer ledger is = ap is_give (sym (ok_is is))
told_given ids start read events line noted text (Some (message.Rec content)) answer ledger is = record_given ids start read events line noted content.id answer ledger is
told_given ids start read events line noted text (Some (message.State state)) answer ledger is = state_given ids start read events line noted text state state.kind answer refl ledger is
told_given ids start read events line noted text (Some (message.Log content)) answer ledger is = ap is_give (sym (ok_is is))
told_given ids start read events line noted text (Some (message.Spec content)) answer ledger is = ap is_give (sym (ok_is is))
told_given ids start read events line noted text (Some (message.Connection content)) answer ledger is = ap is_give (sym (ok_is is))
told_given ids start read events line noted text (Some (message.Catalog content)) answer ledger is = ap is_give (sym (ok_is is))
told_given ids start read events line noted text (Some (message.Trace content)) answer ledger is = trace_given ids start read events line noted text content answer ledger is
told_given ids start read events line noted text (Some (message.Control content)) answer ledger is = ap is_give (sym (ok_is is))

pub passes_on : (ids : List StreamId) (start : Saved) (read : Reading) (events : List Event) (line : Option (List ℕ)) (noted : Noted) (text : List ℕ) (answer : Verdict)
    → IsLedgerOf ids start read events line noted → judged noted text (read text) ≡ Ok answer → is_give answer ≡ passes ids (read text)
passes_on ids start read events line noted text answer ledger is =
    told_given ids start read events line noted text (read text) answer ledger (short_told noted text (judged_told noted (told_of side.Source text (read text))) answer is)
