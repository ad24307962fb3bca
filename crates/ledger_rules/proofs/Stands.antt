-- A ledger stands for the events of its attempt.
use Rattle.std.proofs.Common.{◌≡◌, inl, inr, ℕ, List, [], ◌∷◌, ◌++◌, Bool, true, false, cond, ◌||◌, Option, None, Some, Result, Ok, Err, refl, sym, ◌∙◌, ap, subst, map, filter_map, is_some, option_map, append-nil, append_assoc}
use Rattle.std.specs.List.{cons_option, list_any}
use Rattle.std.proofs.lemmas.List.{map-append}
use Rattle.std.proofs.lemmas.List.Elements.{filter_map-append}
use Rattle.std.proofs.lemmas.Bool.{false≢true}
use Rattle.basics.specs.declared.stream.StreamId.{StreamId}
use Rattle.stream_index.specs.Distinct.{AreDistinct}
use Rattle.stream_index.specs.Same.{is_same_stream}
use Rattle.outside.specs.Event.{read_in}
use Rattle.outside.specs.declared.event.Event.{Event}
use Rattle.outside.specs.declared.event.Event.TheVariants.{ReadLine, Given, Got}
use Rattle.outside.specs.declared.faults.Breach.{Breach}
use Rattle.outside.specs.declared.faults.Breach.TheVariants as breach
use Rattle.outside.specs.declared.faults.Side.TheVariants as side
use Rattle.airbyte_message.specs.Lanes.{Lane, one, all, lane_of}
use Rattle.airbyte_message.specs.State.{State}
use Rattle.airbyte_message.specs.declared.message.Message.{Message}
use Rattle.airbyte_message.specs.declared.message.Message.TheVariants as message
use Rattle.airbyte_message.specs.declared.message.StateKind.{StateKind}
use Rattle.airbyte_message.specs.declared.message.StateKind.TheVariants as kind
use Rattle.airbyte_message.specs.declared.message.TraceMsg.{TraceMsg}
use Rattle.airbyte_message.specs.declared.message.TraceMsg.TheVariants as trace
use Rattle.airbyte_message.specs.declared.stream_status.StreamStatus.{StreamStatus}
use Rattle.load_rules.specs.Prefixes.{EachFits}
use Rattle.load_rules.specs.Lines.{Line, Reading, is_known, is_known_kind, line_read, lines_read, passes, state_in}
use Rattle.load_rules.specs.Taken.{of_lane as taken_lane}
use Rattle.load_rules.specs.Attempts.{reads, none_given}
use Rattle.state_kinds.specs.Saved.{Saved, IsSaved, has_states}
use Rattle.state_kinds.specs.Store.{is_stream_kind, is_global_kind}
use Rattle.sync_rules.specs.Breaches.{breach_of, has_global_state, has_stream_state, is_state}
use Rattle.sync_rules.specs.Sync.{Takes}
use Rattle.sync_ledger.specs.Accounts.{account_of, lane_in, left_pending, pending_of, with_lane as with_lane_account, with_pending}
use Rattle.sync_ledger.specs.Judged.{IsEchoed, IsRefused, TakesBack, heard_line, judged, judged_count, judged_in, judged_lane, judged_told}
use Rattle.sync_ledger.specs.Takes.{TakesFirst}
use Rattle.sync_ledger.specs.Lists.{IsAccountOf, IsNotedOf, is_lane}
use Rattle.sync_ledger.specs.Noted.{Noted, gave, given_in as noted_given, heard, heard_in, heard_status, is_other_form, nothing_noted, pending_in, saved_form}
use Rattle.sync_ledger.specs.PendingLists.{HoldsOne, of_lane}
use Rattle.sync_ledger.specs.Told.{echoed_of, told_of}
use Rattle.sync_ledger.specs.declared.accounts.Account.{Account}
use Rattle.sync_ledger.specs.declared.accounts.LaneAccount.{LaneAccount}
use Rattle.sync_ledger.specs.declared.form.StateForm.{StateForm}
use Rattle.sync_ledger.specs.declared.form.StateForm.TheVariants as form
use Rattle.sync_ledger.specs.declared.pending.Pending.{Pending}
use Rattle.sync_ledger.specs.declared.said.Saying.{Saying}
use Rattle.sync_ledger.specs.declared.said.Saying.TheVariants as saying
use Rattle.sync_ledger.specs.declared.told.Told.{Told}
use Rattle.sync_ledger.specs.declared.told.Told.TheVariants as told
use Rattle.sync_ledger.specs.declared.verdict.Echoed.{Echoed}
use Rattle.sync_ledger.specs.declared.verdict.Echoed.TheVariants as echoed
use Rattle.sync_ledger.specs.declared.verdict.Verdict.{Verdict}
use Rattle.sync_ledger.proofs.ListLemmas.{list_laws}
use Rattle.sync_ledger.proofs.PendingLemmas.{pending_laws, own_lane, other_lane}
use Rattle.ledger_rules.specs.Ledgers.{Holds, IsLedgerOf, IsPendingOf, IsQuiet, breach_in, form_by, held_by, is_give, states_in, states_pending, taken_by, told_read, with_lane}
use Rattle.ledger_rules.specs.Laws.{LedgersStand, TakesSo}
use Rattle.ledger_rules.proofs.Same.{by_test, found_known}
use Rattle.ledger_rules.proofs.Judges.{count_given as count_gives, judges, lane_given as lane_gives, passes_on, short_told}
use Rattle.sync_rules.proofs.KindLemmas.{heads, tails, some_is, some_none}
use Rattle.ledger_rules.proofs.Waits.{lane_is, none_takes, state_takes, stranger_takes, waits_apart, waits_given, waits_on, waits_other, waits_taken, no_states}

-- ---- a ledger begins

begun_form : (start : Saved) → IsSaved start → saved_form start ≡ form_by (has_stream_state start []) (has_global_state start [])
begun_form start saved = at (is_some start.global) (has_states start.entries)
  where
    at : (of_all of_streams : Bool) → cond of_all (Some form.Global) (cond of_streams (Some form.Stream) None) ≡ form_by ((of_streams || false)) ((of_all || false))
    at true true = refl
    at true false = refl
    at false true = refl
    at false false = refl

abbrev none_account : Account
none_account = record { records = 0; status = None; lane = record { since = 0; pending = [] } }

new_pending : (id : StreamId) (own : List StreamId) → pending_of (option_map (λ account. account.lane) (account_of own id (map (λ it. none_account) own))) ≡ []
new_pending id [] = refl
new_pending id (first ∷ own) = at (is_same_stream first id) (new_pending id own)
  where
    at : (b : Bool) → pending_of (option_map (λ account. account.lane) (account_of own id (map (λ it. none_account) own))) ≡ []
        → pending_of (option_map (λ account. account.lane) (cond b (Some none_account) (account_of own id (map (λ it. none_account) own)))) ≡ []
    at true rest = refl
    at false rest = rest

nothing_pending : (ids : List StreamId) (start : Saved) (lane : Lane) → pending_in (nothing_noted ids (saved_form start)) lane ≡ []
nothing_pending ids start (one id) = new_pending id ids
nothing_pending ids start all = refl

begins : (ids : List StreamId) (start : Saved) (read : Reading) → IsSaved start → IsLedgerOf ids start read [] None (nothing_noted ids (saved_form start))
begins ids start read saved = record {
  ids_are = refl;
  heard = list_laws.begins ids (saved_form start);
  unbroken = tt;
  form = begun_form start saved;
  holds = refl;
  waits = λ lane. record { waiting = none_given; waits = refl; same = ap states_pending (nothing_pending ids start lane) };
}

-- ---- an event that leaves it

reads_one : (events : List Event) (event : Event) → reads (events ++ event ∷ []) ≡ reads events ++ filter_map read_in (event ∷ [])
reads_one events event = filter_map-append read_in events (event ∷ [])

none_read : (events : List Event) (event : Event) → read_in event ≡ None → reads (events ++ event ∷ []) ≡ reads events
none_read events event none = reads_one events event ∙ (ap (λ list. reads events ++ list) (nothing event none) ∙ append-nil (reads events))
  where
    nothing : (it : Event) → read_in it ≡ None → filter_map read_in (it ∷ []) ≡ []
    nothing it e = ap (λ found. cons_option found []) e

-- the same of lines that were read as before
same_reads : (ids : List StreamId) (start : Saved) (read : Reading) (events : List Event) (line : Option (List ℕ)) (noted now : Noted) (event : Event) (next : Option (List ℕ)) → read_in event ≡ None
    → now.ids ≡ noted.ids → now.form ≡ noted.form → IsNotedOf (saved_form start) (map (told_read read) (reads events)) now → Holds ids read next now.held → ((lane : Lane) → IsPendingOf read (events ++ event ∷ []) lane (pending_in now lane))
    → IsLedgerOf ids start read events line noted → IsLedgerOf ids start read (events ++ event ∷ []) next now
same_reads ids start read events line noted now event next none ids_same form_same heard_is holds waits ledger =
    let same = sym (none_read events event none) in
    record {
      ids_are = ids_same ∙ ledger.ids_are;
      heard = subst (λ list. IsNotedOf (saved_form start) (map (told_read read) list) now) same heard_is;
      unbroken = subst (λ list. EachFits (λ before own. breach_of ids start before own ≡ None) [] (lines_read read list)) same ledger.unbroken;
      form = form_same ∙ (ledger.form ∙ ap (λ list. form_by (has_stream_state start (lines_read read list)) (has_global_state start (lines_read read list))) same);
      holds = holds;
      waits = waits;
    }

pub goes_on : (ids : List StreamId) (start : Saved) (read : Reading) (events : List Event) (line : Option (List ℕ)) (noted : Noted) (event : Event) → IsQuiet event → IsLedgerOf ids start read events line noted → IsLedgerOf ids start read (events ++ event ∷ []) line noted
goes_on ids start read events line noted event quiet ledger =
    same_reads ids start read events line noted noted event line quiet.none_read refl refl ledger.heard ledger.holds
    (λ lane. waits_on read events lane event (pending_in noted lane) (pending_in noted lane) quiet.none_given quiet.none_got refl (ledger.waits lane)) ledger

-- ---- a line of the source

status_ids : (noted : Noted) (id : StreamId) (status : StreamStatus) (found : Option Account) → (heard_status id status noted found).ids ≡ noted.ids
status_ids noted id status None = refl
status_ids noted id status (Some account) = refl

state_ids : (noted : Noted) (state : State) (lane : Option Lane) → (heard_in state noted lane).ids ≡ noted.ids
state_ids noted state None = refl
state_ids noted state (Some lane) = refl

heard_ids : (noted : Noted) (line : Told) → (heard noted line).ids ≡ noted.ids
heard_ids noted (told.Record id) = refl
heard_ids noted (told.State state) = state_ids noted state (lane_of state.kind)
heard_ids noted (told.Status id status) = status_ids noted id status (account_of noted.ids id noted.accounts.streams)
heard_ids noted (told.Other saying) = refl

each_more : {A : Type 0} (fits : List A → A → Type 0) (before list : List A) (next : A) → EachFits fits before list → fits (before ++ list) next → EachFits fits before (list ++ next ∷ [])
each_more fits before [] next each one_fits = (subst (λ own. fits own next) (append-nil before) one_fits, tt)
each_more fits before (first ∷ list) next each one_fits = (each.0, each_more fits (before ++ first ∷ []) list next each.1 (subst (λ own. fits own next) (sym (append_assoc before (first ∷ []) list)) one_fits))

-- whether there are states of streams, and of all streams, behind one more line
any_last : (test : StateKind → Bool) (list : List Line) (line : Line) → list_any (λ it. is_state test (state_in it.found)) (list ++ line ∷ []) ≡ ((list_any (λ it. is_state test (state_in it.found)) list) || (is_state test (state_in line.found)))
any_last test [] line = last (is_state test (state_in line.found))
  where
    last : (b : Bool) → (b || false) ≡ b
    last true = refl
    last false = refl
any_last test (first ∷ list) line = by (is_state test (state_in first.found)) (any_last test list line)
  where
    by : (b : Bool) → list_any (λ it. is_state test (state_in it.found)) (list ++ line ∷ []) ≡ ((list_any (λ it. is_state test (state_in it.found)) list) || (is_state test (state_in line.found)))
        → (b || (list_any (λ it. is_state test (state_in it.found)) (list ++ line ∷ []))) ≡ (((b || (list_any (λ it. is_state test (state_in it.found)) list))) || (is_state test (state_in line.found)))
    by true rest = refl
    by false rest = rest

either : (a whole front last : Bool) → whole ≡ (front || last) → (a || whole) ≡ (((a || front)) || last)
either true whole front last same = refl
either false whole front last same = same

stream_next : (start : Saved) (lines : List Line) (line : Line) → has_stream_state start (lines ++ line ∷ []) ≡ ((has_stream_state start lines) || (is_state is_stream_kind (state_in line.found)))
stream_next start lines line = either (has_states start.entries) (list_any (λ it. is_state is_stream_kind (state_in it.found)) (lines ++ line ∷ [])) (list_any (λ it. is_state is_stream_kind (state_in it.found)) lines) (is_state is_stream_kind (state_in line.found)) (any_last is_stream_kind lines line)

global_next : (start : Saved) (lines : List Line) (line : Line) → has_global_state start (lines ++ line ∷ []) ≡ ((has_global_state start lines) || (is_state is_global_kind (state_in line.found)))
global_next start lines line = either (is_some start.global) (list_any (λ it. is_state is_global_kind (state_in it.found)) (lines ++ line ∷ [])) (list_any (λ it. is_state is_global_kind (state_in it.found)) lines) (is_state is_global_kind (state_in line.found)) (any_last is_global_kind lines line)

abbrev form_next : Bool → Bool → Option State → Option StateForm
form_next of_streams of_all found = form_by ((of_streams || (is_state is_stream_kind found))) ((of_all || (is_state is_global_kind found)))

no_more : (of_streams of_all : Bool) → form_by of_streams of_all ≡ form_by ((of_streams || false)) ((of_all || false))
no_more true true = refl
no_more true false = refl
no_more false true = refl
no_more false false = refl

err_ok : {A E : Type 0} {e : E} {a : A} → Err e ≡ Ok a → ⊥
err_ok h = cc

-- the form behind a state that is not refused
state_form : (noted : Noted) (of_streams of_all : Bool) (state : State) (own : StateKind) (answer : Verdict) → state.kind ≡ own → noted.form ≡ form_by of_streams of_all → judged_in noted state.source_count (lane_of own) ≡ Ok answer
    → (heard_in state noted (lane_of own)).form ≡ form_next of_streams of_all (Some state)
state_form noted of_streams of_all state kind.Legacy answer at is judged_is = absurd (err_ok judged_is)
state_form noted of_streams of_all state (kind.Stream id blob) answer at is judged_is =
    first of_streams of_all (ap (λ known. is_other_form form.Stream known) is) ∙ ap (λ it. form_by ((of_streams || (is_stream_kind it))) ((of_all || (is_global_kind it)))) (sym at)
  where
    mixed : (b : Bool) → is_other_form form.Stream noted.form ≡ b → b ≡ true → ⊥
    mixed b same yes_so = err_ok (sym (ap (λ c. cond c (Err breach.Mixed) (judged_lane state.source_count (lane_in noted.ids noted.accounts (one id)))) (same ∙ yes_so)) ∙ judged_is)

    first : (s g : Bool) → is_other_form form.Stream noted.form ≡ is_other_form form.Stream (form_by s g) → Some form.Stream ≡ form_by ((s || true)) ((g || false))
    first true true same = absurd (mixed true same refl)
    first true false same = refl
    first false true same = absurd (mixed true same refl)
    first false false same = refl
state_form noted of_streams of_all state (kind.Global shared streams) answer at is judged_is =
    first of_streams of_all (ap (λ known. is_other_form form.Global known) is) ∙ ap (λ it. form_by ((of_streams || (is_stream_kind it))) ((of_all || (is_global_kind it)))) (sym at)
  where
    mixed : (b : Bool) → is_other_form form.Global noted.form ≡ b → b ≡ true → ⊥
    mixed b same yes_so = err_ok (sym (ap (λ c. cond c (Err breach.Mixed) (judged_count state.source_count noted.accounts.global.since)) (same ∙ yes_so)) ∙ judged_is)

    first : (s g : Bool) → is_other_form form.Global noted.form ≡ is_other_form form.Global (form_by s g) → Some form.Global ≡ form_by ((s || false)) ((g || true))
    first true true same = refl
    first true false same = absurd (mixed true same refl)
    first false true same = refl
    first false false same = refl

status_form : (noted : Noted) (id : StreamId) (status : StreamStatus) (found : Option Account) → (heard_status id status noted found).form ≡ noted.form
status_form noted id status None = refl
status_form noted id status (Some account) = refl

trace_form : (noted : Noted) (text : List ℕ) (content : TraceMsg) → (heard noted (told_of side.Source text (Some (message.Trace content)))).form ≡ noted.form
trace_form noted text (trace.Error words failure emitted_at) = refl
trace_form noted text (trace.Status id status emitted_at) = status_form noted id status (account_of noted.ids id noted.accounts.streams)
trace_form noted text (trace.Other object) = refl

heard_form : (noted : Noted) (text : List ℕ) (found : Option Message) (of_streams of_all : Bool) (answer : Verdict) → noted.form ≡ form_by of_streams of_all → judged_told noted (told_of side.Source text found) ≡ Ok answer
    → (heard noted (told_of side.Source text found)).form ≡ form_next of_streams of_all (state_in found)
heard_form noted text None of_streams of_all answer is judged_is = is ∙ no_more of_streams of_all
heard_form noted text (Some (message.Rec content)) of_streams of_all answer is judged_is = is ∙ no_more of_streams of_all
heard_form noted text (Some (message.State state)) of_streams of_all answer is judged_is = state_form noted of_streams of_all state state.kind answer refl is judged_is
heard_form noted text (Some (message.Log content)) of_streams of_all answer is judged_is = is ∙ no_more of_streams of_all
heard_form noted text (Some (message.Spec content)) of_streams of_all answer is judged_is = is ∙ no_more of_streams of_all
heard_form noted text (Some (message.Connection content)) of_streams of_all answer is judged_is = is ∙ no_more of_streams of_all
heard_form noted text (Some (message.Catalog content)) of_streams of_all answer is judged_is = is ∙ no_more of_streams of_all
heard_form noted text (Some (message.Trace content)) of_streams of_all answer is judged_is = trace_form noted text content ∙ (is ∙ no_more of_streams of_all)
heard_form noted text (Some (message.Control content)) of_streams of_all answer is judged_is = is ∙ no_more of_streams of_all

-- what is held behind a line
state_held : (noted : Noted) (state : State) (lane : Option Lane) → noted.held ≡ [] → states_pending (heard_in state noted lane).held ≡ with_lane state lane
state_held noted state None none = ap states_pending none
state_held noted state (Some lane) none = refl

status_held : (noted : Noted) (id : StreamId) (status : StreamStatus) (found : Option Account) → noted.held ≡ [] → (heard_status id status noted found).held ≡ []
status_held noted id status None none = none
status_held noted id status (Some account) none = refl

trace_held : (noted : Noted) (text : List ℕ) (content : TraceMsg) → noted.held ≡ [] → (heard noted (told_of side.Source text (Some (message.Trace content)))).held ≡ []
trace_held noted text (trace.Error words failure emitted_at) none = none
trace_held noted text (trace.Status id status emitted_at) none = status_held noted id status (account_of noted.ids id noted.accounts.streams) none
trace_held noted text (trace.Other object) none = none

heard_held : (noted : Noted) (text : List ℕ) (found : Option Message) → noted.held ≡ [] → states_pending (heard noted (told_of side.Source text found)).held ≡ states_in (state_in found)
heard_held noted text None none = ap states_pending none
heard_held noted text (Some (message.Rec content)) none = refl
heard_held noted text (Some (message.State state)) none = state_held noted state (lane_of state.kind) none
heard_held noted text (Some (message.Log content)) none = ap states_pending none
heard_held noted text (Some (message.Spec content)) none = ap states_pending none
heard_held noted text (Some (message.Connection content)) none = ap states_pending none
heard_held noted text (Some (message.Catalog content)) none = ap states_pending none
heard_held noted text (Some (message.Trace content)) none = ap states_pending (trace_held noted text content none)
heard_held noted text (Some (message.Control content)) none = ap states_pending none

none_pending : (held : List Pending) → states_pending held ≡ [] → held ≡ []
none_pending [] none = refl
none_pending (pending ∷ held) none = absurd (let e : pending.state ∷ states_pending held ≡ [] = none in cc)

-- a state that is not refused is given
unmixed : (b : Bool) (rest : Result Verdict Breach) (answer : Verdict) → cond b (Err breach.Mixed) rest ≡ Ok answer → rest ≡ Ok answer
unmixed true rest answer is = absurd (err_ok is)
unmixed false rest answer is = is

unknown_none : (ids : List StreamId) (noted : Noted) (state : State) (own : StateKind) (answer : Verdict) → is_give answer ≡ false → judged_in noted state.source_count (lane_of own) ≡ Ok answer → with_lane state (lane_of own) ≡ []
unknown_none ids noted state kind.Legacy answer kept is = refl
unknown_none ids noted state (kind.Stream id blob) answer kept is = absurd (false≢true (sym kept ∙ lane_gives (lane_in noted.ids noted.accounts (one id)) state.source_count answer (unmixed (is_other_form form.Stream noted.form) (judged_lane state.source_count (lane_in noted.ids noted.accounts (one id))) answer is)))
unknown_none ids noted state (kind.Global shared streams) answer kept is = absurd (false≢true (sym kept ∙ count_gives state.source_count noted.accounts.global.since answer (unmixed (is_other_form form.Global noted.form) (judged_count state.source_count noted.accounts.global.since) answer is)))

not_given_none : (ids : List StreamId) (noted : Noted) (text : List ℕ) (found : Option Message) (answer : Verdict) → is_give answer ≡ false → judged_told noted (told_of side.Source text found) ≡ Ok answer → states_in (state_in found) ≡ []
not_given_none ids noted text None answer kept is = refl
not_given_none ids noted text (Some (message.Rec content)) answer kept is = refl
not_given_none ids noted text (Some (message.State state)) answer kept is = unknown_none ids noted state state.kind answer kept is
not_given_none ids noted text (Some (message.Log content)) answer kept is = refl
not_given_none ids noted text (Some (message.Spec content)) answer kept is = refl
not_given_none ids noted text (Some (message.Connection content)) answer kept is = refl
not_given_none ids noted text (Some (message.Catalog content)) answer kept is = refl
not_given_none ids noted text (Some (message.Trace content)) answer kept is = refl
not_given_none ids noted text (Some (message.Control content)) answer kept is = refl

holds_next : (ids : List StreamId) (read : Reading) (noted : Noted) (text : List ℕ) (answer : Verdict) → is_give answer ≡ passes ids (read text) → judged_told noted (told_of side.Source text (read text)) ≡ Ok answer
    → states_pending (heard_line noted text (read text)).held ≡ states_in (state_in (read text)) → Holds ids read (held_by answer text) (heard_line noted text (read text)).held
holds_next ids read noted text answer gives_it is are = by_test (is_give answer)
    (λ given. subst (λ b. Holds ids read (cond b (Some text) None) (heard_line noted text (read text)).held) (sym given) (sym gives_it ∙ given, are))
    (λ kept. subst (λ b. Holds ids read (cond b (Some text) None) (heard_line noted text (read text)).held) (sym kept) (none_pending (heard_line noted text (read text)).held (are ∙ not_given_none ids noted text (read text) answer kept is)))

pub reads_on : (ids : List StreamId) (start : Saved) (read : Reading) (events : List Event) (noted : Noted) (text : List ℕ) (answer : Verdict) → AreDistinct ids → IsSaved start → IsLedgerOf ids start read events None noted → judged noted text (read text) ≡ Ok answer
    → IsLedgerOf ids start read (events ++ ReadLine text ∷ []) (held_by answer text) (heard_line noted text (read text))
reads_on ids start read events noted text answer distinct saved ledger is =
    let now = heard_line noted text (read text) in
    let lines = lines_read read (reads events) in
    let told_is = short_told noted text (judged_told noted (told_of side.Source text (read text))) answer is in
    let none : breach_of ids start lines (line_read read text) ≡ None = sym (judges ids start read events None noted text saved ledger) ∙ ap breach_in is in
    let same : reads events ++ text ∷ [] ≡ reads (events ++ ReadLine text ∷ []) = sym (reads_one events (ReadLine text)) in
    let more : lines ++ line_read read text ∷ [] ≡ lines_read read (reads (events ++ ReadLine text ∷ [])) = sym (map-append (line_read read) (reads events) (text ∷ [])) ∙ ap (lines_read read) same in
    record {
      ids_are = heard_ids noted (told_read read text) ∙ ledger.ids_are;
      heard = subst (λ list. IsNotedOf (saved_form start) list now) (sym (map-append (told_read read) (reads events) (text ∷ [])) ∙ ap (map (told_read read)) same)
          (list_laws.hears (saved_form start) (map (told_read read) (reads events)) (told_read read text) noted (subst (λ (list : List StreamId). AreDistinct list) (sym ledger.ids_are) distinct) ledger.heard);
      unbroken = subst (λ list. EachFits (λ before own. breach_of ids start before own ≡ None) [] list) more (each_more (λ before own. breach_of ids start before own ≡ None) [] lines (line_read read text) ledger.unbroken none);
      form = heard_form noted text (read text) (has_stream_state start lines) (has_global_state start lines) answer ledger.form told_is
          ∙ (sym (ap (λ b. form_by b (((has_global_state start lines) || (is_state is_global_kind (state_in (read text)))))) (stream_next start lines (line_read read text)) ∙ refl)
          ∙ (sym (ap (λ b. form_by (has_stream_state start (lines ++ line_read read text ∷ [])) b) (global_next start lines (line_read read text)))
          ∙ ap (λ list. form_by (has_stream_state start list) (has_global_state start list)) more));
      holds = holds_next ids read noted text answer (passes_on ids start read events None noted text answer ledger is) told_is (heard_held noted text (read text) ledger.holds);
      waits = λ lane. waits_on read events lane (ReadLine text) (pending_in noted lane) (pending_in now lane) refl refl (pending_laws.hears noted (told_read read text) lane) (ledger.waits lane);
    }

-- ---- the line that was held is given

holds_one : (held : List Pending) (found : Option State) → states_pending held ≡ states_in found → HoldsOne held
holds_one [] found are = inl refl
holds_one (pending ∷ []) found are = inr (pending, refl)
holds_one (pending ∷ other ∷ held) found are = absurd (two found are)
  where
    by_lane : (state : State) (own : Option Lane) → pending.state ∷ other.state ∷ states_pending held ≡ with_lane state own → ⊥
    by_lane state None e = cc
    by_lane state (Some lane) e = (let rest : other.state ∷ states_pending held ≡ [] = tails e in cc)

    two : (it : Option State) → pending.state ∷ other.state ∷ states_pending held ≡ states_in it → ⊥
    two None e = cc
    two (Some state) e = by_lane state (lane_of state.kind) e

-- a lane that lines are passed on of has its account
kind_has : (ids : List StreamId) (start : Saved) (read : Reading) (events : List Event) (line : Option (List ℕ)) (noted : Noted) (own : StateKind) (lane : Lane) → IsLedgerOf ids start read events line noted → is_known_kind ids own ≡ true → lane_of own ≡ Some lane
    → is_some (lane_in noted.ids noted.accounts lane) ≡ true
kind_has ids start read events line noted kind.Legacy lane ledger known of = absurd (false≢true known)
kind_has ids start read events line noted (kind.Global shared streams) lane ledger known of = subst (λ it. is_some (lane_in noted.ids noted.accounts it) ≡ true) (some_is of) refl
kind_has ids start read events line noted (kind.Stream id blob) lane ledger known of =
    let found = found_known (λ own account. IsAccountOf own (map (told_read read) (reads events)) account) noted.ids id noted.accounts.streams ledger.heard.accounts (ap (λ list. is_known list id) ledger.ids_are ∙ known) in
    subst (λ it. is_some (lane_in noted.ids noted.accounts it) ≡ true) (some_is of) (ap (λ it. is_some (option_map (λ account. account.lane) it)) found.is)

state_passes : (ids : List StreamId) (found : Option Message) (state : State) → passes ids found ≡ true → state_in found ≡ Some state → is_known_kind ids state.kind ≡ true
state_passes ids None state passed is = absurd (some_none (sym is))
state_passes ids (Some (message.Rec content)) state passed is = absurd (some_none (sym is))
state_passes ids (Some (message.Log content)) state passed is = absurd (some_none (sym is))
state_passes ids (Some (message.Spec content)) state passed is = absurd (some_none (sym is))
state_passes ids (Some (message.Connection content)) state passed is = absurd (some_none (sym is))
state_passes ids (Some (message.Catalog content)) state passed is = absurd (some_none (sym is))
state_passes ids (Some (message.Trace content)) state passed is = absurd (some_none (sym is))
state_passes ids (Some (message.Control content)) state passed is = absurd (some_none (sym is))
state_passes ids (Some (message.State own)) state passed is = subst (λ (it : State). is_known_kind ids it.kind ≡ true) (some_is is) passed

-- the one state that is held is that of the line
held_state : (found : Option State) (pending : Pending) → pending.state ∷ [] ≡ states_in found → found ≡ Some pending.state
held_state None pending are = absurd (let e : pending.state ∷ [] ≡ [] = are in cc)
held_state (Some state) pending are = ap (λ it. Some it) (sym (by_lane (lane_of state.kind) are))
  where
    by_lane : (own : Option Lane) → pending.state ∷ [] ≡ with_lane state own → pending.state ≡ state
    by_lane None e = absurd (let none : pending.state ∷ [] ≡ [] = e in cc)
    by_lane (Some lane) e = heads e

no_lane : (found : Option LaneAccount) → is_some found ≡ false → found ≡ None
no_lane None none = refl
no_lane (Some account) none = absurd (false≢true (sym none))

given_unknown : (ids : List StreamId) (start : Saved) (read : Reading) (events : List Event) (line : Option (List ℕ)) (noted : Noted) (held : List Pending) (text : List ℕ) (lane : Lane) → IsLedgerOf ids start read events line noted
    → passes ids (read text) ≡ true → states_pending held ≡ states_in (state_in (read text)) → HoldsOne held → is_some (lane_in noted.ids noted.accounts lane) ≡ false
    → pending_in (gave (record noted { held = held })) lane ≡ pending_in noted lane ++ of_lane lane held
given_unknown ids start read events line noted held text lane ledger passed are (inl none) unknown =
    subst (λ (own : List Pending). pending_in (gave (record noted { held = own })) lane ≡ pending_in noted lane ++ of_lane lane own) (sym none) (sym (append-nil (pending_in noted lane)))
given_unknown ids start read events line noted held text lane ledger passed are (inr (pending, one_is)) unknown =
    subst (λ (own : List Pending). pending_in (gave (record noted { held = own })) lane ≡ pending_in noted lane ++ of_lane lane own) (sym one_is) (at (lane_of pending.state.kind) refl)
  where
    found : state_in (read text) ≡ Some pending.state
    found = held_state (state_in (read text)) pending (sym (ap states_pending one_is) ∙ are)

    at : (own : Option Lane) → lane_of pending.state.kind ≡ own → pending_of (lane_in noted.ids (noted_given noted.ids (pending ∷ []) own noted.accounts) lane) ≡ pending_in noted lane ++ cond (is_lane lane own) (pending ∷ []) []
    at None of = sym (append-nil (pending_in noted lane)) ∙ sym (ap (λ b. pending_in noted lane ++ cond b (pending ∷ []) []) (none_lane lane))
      where
        none_lane : (it : Lane) → is_lane it None ≡ false
        none_lane (one id) = refl
        none_lane all = refl
    at (Some own) of = by_test (is_lane lane (Some own))
        (λ same. absurd (false≢true (sym unknown ∙ (ap (λ it. is_some (lane_in noted.ids noted.accounts it)) (lane_is lane own same) ∙ kind_has ids start read events line noted pending.state.kind own ledger (state_passes ids (read text) pending.state passed found) of))))
        (λ differs. ap pending_of (other_lane noted.ids noted.accounts own lane (with_pending (pending ∷ [])) differs) ∙ (sym (append-nil (pending_in noted lane)) ∙ sym (ap (λ b. pending_in noted lane ++ cond b (pending ∷ []) []) differs)))

given_pending : (ids : List StreamId) (start : Saved) (read : Reading) (events : List Event) (line : Option (List ℕ)) (noted : Noted) (text : List ℕ) (lane : Lane) → IsLedgerOf ids start read events line noted
    → passes ids (read text) ≡ true → states_pending noted.held ≡ states_in (state_in (read text)) → pending_in (gave noted) lane ≡ pending_in noted lane ++ of_lane lane noted.held
given_pending ids start read events line noted text lane ledger passed are =
    let single = holds_one noted.held (state_in (read text)) are in
    by_test (is_some (lane_in noted.ids noted.accounts lane))
    (λ known. pending_laws.gives noted lane known single)
    (λ unknown. given_unknown ids start read events line noted noted.held text lane ledger passed are single unknown)

pub gives : (ids : List StreamId) (start : Saved) (read : Reading) (events : List Event) (noted : Noted) (text : List ℕ) → IsLedgerOf ids start read events (Some text) noted → IsLedgerOf ids start read (events ++ Given text ∷ []) None (gave noted)
gives ids start read events noted text ledger =
    same_reads ids start read events (Some text) noted (gave noted) (Given text) None refl refl refl (list_laws.gives (saved_form start) (map (told_read read) (reads events)) noted ledger.heard) refl
    (λ lane. waits_given read events lane text (pending_in noted lane) noted.held (pending_in (gave noted) lane) ledger.holds.1 (given_pending ids start read events (Some text) noted text lane ledger ledger.holds.0 ledger.holds.1) (ledger.waits lane)) ledger

pub completes : (ids : List StreamId) (start : Saved) (read : Reading) (events : List Event) (noted : Noted) (text : List ℕ) → state_in (read text) ≡ None → IsLedgerOf ids start read events None noted → IsLedgerOf ids start read (events ++ Given text ∷ []) None noted
completes ids start read events noted text none ledger =
    same_reads ids start read events None noted noted (Given text) None refl refl refl ledger.heard ledger.holds
    (λ lane. waits_given read events lane text (pending_in noted lane) [] (pending_in noted lane) (sym (ap states_in none)) (sym (append-nil (pending_in noted lane))) (ledger.waits lane)) ledger

-- ---- a line comes back

other_state : {saying : Saying} {got : State} → told.Other saying ≡ told.State got → ⊥
other_state e = cc

record_state : {id : StreamId} {got : State} → told.Record id ≡ told.State got → ⊥
record_state e = cc

status_state : {id : StreamId} {status : StreamStatus} {got : State} → told.Status id status ≡ told.State got → ⊥
status_state e = cc

state_is : {own got : State} → told.State own ≡ told.State got → own ≡ got
state_is e = cc

state_found : (text : List ℕ) (found : Option Message) (got : State) → told_of side.Dest text found ≡ told.State got → state_in found ≡ Some got
state_found text None got is = absurd (other_state is)
state_found text (Some (message.Rec content)) got is = absurd (record_state is)
state_found text (Some (message.State state)) got is = ap (λ it. Some it) (state_is is)
state_found text (Some (message.Log content)) got is = absurd (other_state is)
state_found text (Some (message.Spec content)) got is = absurd (other_state is)
state_found text (Some (message.Connection content)) got is = absurd (other_state is)
state_found text (Some (message.Catalog content)) got is = absurd (other_state is)
state_found text (Some (message.Trace (trace.Error words failure emitted_at))) got is = absurd (other_state is)
state_found text (Some (message.Trace (trace.Status id status emitted_at))) got is = absurd (status_state is)
state_found text (Some (message.Trace (trace.Other object))) got is = absurd (other_state is)
state_found text (Some (message.Control content)) got is = absurd (other_state is)

-- a line that is no state leaves the ledger
abbrev IsNoState : Told → Type 0
IsNoState (told.State state) = ⊥
IsNoState (told.Record id) = Unit {0}
IsNoState (told.Status id status) = Unit {0}
IsNoState (told.Other saying) = Unit {0}

none_found : (text : List ℕ) (found : Option Message) → IsNoState (told_of side.Dest text found) → state_in found ≡ None
none_found text None is = refl
none_found text (Some (message.Rec content)) is = refl
none_found text (Some (message.State state)) is = absurd is
none_found text (Some (message.Log content)) is = refl
none_found text (Some (message.Spec content)) is = refl
none_found text (Some (message.Connection content)) is = refl
none_found text (Some (message.Catalog content)) is = refl
none_found text (Some (message.Trace content)) is = refl
none_found text (Some (message.Control content)) is = refl

got_nothing : (ids : List StreamId) (start : Saved) (read : Reading) (events : List Event) (line : Option (List ℕ)) (noted now : Noted) (text : List ℕ) → state_in (read text) ≡ None → now ≡ noted → IsLedgerOf ids start read events line noted → IsLedgerOf ids start read (events ++ Got text ∷ []) line now
got_nothing ids start read events line noted now text none same ledger = subst (IsLedgerOf ids start read (events ++ Got text ∷ []) line) (sym same)
    (same_reads ids start read events line noted noted (Got text) line refl refl refl ledger.heard ledger.holds
    (λ lane. waits_other read events lane text (pending_in noted lane) (pending_in noted lane) (ap (taken_lane lane) (no_states read text (ap states_in none))) refl (ledger.waits lane)) ledger)

empty_pending : (found : Option LaneAccount) (over : List Pending) (first : Pending) (rest : List Pending) → pending_of found ≡ over ++ first ∷ rest → is_some found ≡ true
empty_pending (Some account) over first rest is = refl
empty_pending None [] first rest is = absurd (let e : [] ≡ first ∷ rest = is in cc)
empty_pending None (own ∷ over) first rest is = absurd (let e : [] ≡ own ∷ (over ++ first ∷ rest) = is in cc)

left_is : (left : List Pending) (found : Option LaneAccount) → is_some found ≡ true → pending_of (option_map (left_pending left) found) ≡ left
left_is left None known = absurd (false≢true known)
left_is left (Some account) known = refl

got_state : (ids : List StreamId) (start : Saved) (read : Reading) (events : List Event) (line : Option (List ℕ)) (noted now : Noted) (text : List ℕ) (got taken : State) → state_in (read text) ≡ Some got → TakesBack noted got taken now
    → IsLedgerOf ids start read events line noted → IsLedgerOf ids start read (events ++ Got text ∷ []) line now
got_state ids start read events line noted now text got taken found back ledger = subst (IsLedgerOf ids start read (events ++ Got text ∷ []) line) (sym back.notes)
    (same_reads ids start read events line noted changed (Got text) line refl refl refl (list_laws.takes (saved_form start) (map (told_read read) (reads events)) noted back.lane back.left ledger.heard) ledger.holds waits ledger)
  where
    changed : Noted
    changed = record noted { accounts = with_lane_account noted.ids noted.accounts back.lane (left_pending back.left) }

    waits : (lane : Lane) → IsPendingOf read (events ++ Got text ∷ []) lane (pending_of (lane_in noted.ids (with_lane_account noted.ids noted.accounts back.lane (left_pending back.left)) lane))
    waits lane = by_test (is_lane lane (Some back.lane)) own other
      where
        own : is_lane lane (Some back.lane) ≡ true → IsPendingOf read (events ++ Got text ∷ []) lane (pending_of (lane_in noted.ids (with_lane_account noted.ids noted.accounts back.lane (left_pending back.left)) lane))
        own same =
            let at = lane_is lane back.lane same in
            let known : is_some (lane_in noted.ids noted.accounts lane) ≡ true = subst (λ it. is_some (lane_in noted.ids noted.accounts it) ≡ true) (sym at) (empty_pending (lane_in noted.ids noted.accounts back.lane) back.takes.takes.over back.takes.first back.left back.takes.takes.splits) in
            waits_taken read events lane text got (pending_in noted lane) back.left (pending_of (lane_in noted.ids (with_lane_account noted.ids noted.accounts back.lane (left_pending back.left)) lane)) back.takes.first found (back.of_lane ∙ ap (λ it. Some it) (sym at))
            (subst (λ it. TakesFirst (pending_in noted it) got back.takes.first back.left) (sym at) back.takes.takes)
            (ap pending_of (own_lane noted.ids noted.accounts back.lane lane (left_pending back.left) same) ∙ left_is back.left (lane_in noted.ids noted.accounts lane) known) (ledger.waits lane)

        other : is_lane lane (Some back.lane) ≡ false → IsPendingOf read (events ++ Got text ∷ []) lane (pending_of (lane_in noted.ids (with_lane_account noted.ids noted.accounts back.lane (left_pending back.left)) lane))
        other differs = waits_apart read events lane back.lane text got (pending_in noted lane) (pending_of (lane_in noted.ids (with_lane_account noted.ids noted.accounts back.lane (left_pending back.left)) lane)) found back.of_lane differs
            (ap pending_of (other_lane noted.ids noted.accounts back.lane lane (left_pending back.left) differs)) (ledger.waits lane)

pub gets : (ids : List StreamId) (start : Saved) (read : Reading) (events : List Event) (line : Option (List ℕ)) (noted now : Noted) (text : List ℕ) (answer : Echoed) → IsLedgerOf ids start read events line noted
    → IsEchoed noted (told_of side.Dest text (read text)) answer now → IsLedgerOf ids start read (events ++ Got text ∷ []) line now
gets ids start read events line noted now text answer ledger is = at (told_of side.Dest text (read text)) answer refl is
  where
    none : (own : Told) → told_of side.Dest text (read text) ≡ own → IsNoState own → state_in (read text) ≡ None
    none own same no_state = none_found text (read text) (subst IsNoState (sym same) no_state)

    at : (own : Told) (reply : Echoed) → told_of side.Dest text (read text) ≡ own → IsEchoed noted own reply now → IsLedgerOf ids start read (events ++ Got text ∷ []) line now
    at (told.State got) (echoed.State taken) same back = got_state ids start read events line noted now text got taken (state_found text (read text) got same) back ledger
    at (told.State got) (echoed.Say words) same back = absurd back
    at (told.State got) echoed.Nothing same back = absurd back
    at (told.State got) (echoed.ConfigError words) same back = absurd back
    at (told.Record id) reply same back = got_nothing ids start read events line noted now text (none (told.Record id) same tt) back.1 ledger
    at (told.Status id status) reply same back = got_nothing ids start read events line noted now text (none (told.Status id status) same tt) back.1 ledger
    at (told.Other saying) reply same back = got_nothing ids start read events line noted now text (none (told.Other saying) same tt) back.1 ledger

said_none : (own : Saying) → taken_by (echoed_of own) ≡ None
said_none (saying.Say words) = refl
said_none saying.Nothing = refl
said_none (saying.ConfigError words) = refl

pub takes : (ids : List StreamId) (start : Saved) (read : Reading) (events : List Event) (line : Option (List ℕ)) (noted now : Noted) (text : List ℕ) (answer : Echoed) → IsLedgerOf ids start read events line noted
    → IsEchoed noted (told_of side.Dest text (read text)) answer now → TakesSo read events text answer
takes ids start read events line noted now text answer ledger is = at (told_of side.Dest text (read text)) answer refl is
  where
    none : (own : Told) (reply : Echoed) → told_of side.Dest text (read text) ≡ own → IsNoState own → taken_by reply ≡ None → TakesSo read events text reply
    none own reply same no_state nothing_taken = record { owed = None; takes = none_takes read events text (ap states_in (none_found text (read text) (subst IsNoState (sym same) no_state))); is = nothing_taken }

    at : (own : Told) (reply : Echoed) → told_of side.Dest text (read text) ≡ own → IsEchoed noted own reply now → TakesSo read events text reply
    at (told.State got) (echoed.State taken) same back =
        let part = state_takes read events back.lane text got (pending_in noted back.lane) back.left back.takes.first (state_found text (read text) got same) back.of_lane back.takes.takes (ledger.waits back.lane) in
        record { owed = Some part.0; takes = part.1; is = ap (λ it. Some it) (back.takes.is ∙ part.2) }
    at (told.State got) (echoed.Say words) same back = absurd back
    at (told.State got) echoed.Nothing same back = absurd back
    at (told.State got) (echoed.ConfigError words) same back = absurd back
    at (told.Record id) reply same back = none (told.Record id) reply same tt (ap taken_by back.0)
    at (told.Status id status) reply same back = none (told.Status id status) reply same tt (ap taken_by back.0)
    at (told.Other saying) reply same back = none (told.Other saying) reply same tt (ap taken_by back.0 ∙ said_none saying)

pub refuses : (ids : List StreamId) (start : Saved) (read : Reading) (events : List Event) (line : Option (List ℕ)) (noted : Noted) (text : List ℕ) (why : Breach) → IsLedgerOf ids start read events line noted
    → IsRefused noted (told_of side.Dest text (read text)) why → Takes read events text None
refuses ids start read events line noted text why ledger is = at (told_of side.Dest text (read text)) why refl is
  where
    legacy : (got : State) → state_in (read text) ≡ Some got → lane_of got.kind ≡ None → Takes read events text None
    legacy got found none = none_takes read events text (ap states_in found ∙ ap (with_lane got) none)

    at : (own : Told) (breach_is : Breach) → told_of side.Dest text (read text) ≡ own → IsRefused noted own breach_is → Takes read events text None
    at (told.State got) breach.Stranger same refused = stranger_takes read events refused.lane text got (pending_in noted refused.lane) (state_found text (read text) got same) refused.of_lane refused.others (ledger.waits refused.lane)
    at (told.State got) breach.Legacy same refused = legacy got (state_found text (read text) got same) refused
    at own breach_is same refused = absurd refused

pub ledgers_stand : LedgersStand
ledgers_stand = record {
  begins = begins;
  judges = judges;
  passes_on = passes_on;
  reads_on = reads_on;
  gives = gives;
  completes = completes;
  gets = gets;
  takes = takes;
  refuses = refuses;
  goes_on = goes_on;
}
