-- A line of the source is read and heard.
use Rattle.std.proofs.Common.{arith, ◌≡◌, inl, ℕ, ◌+◌, ◌<◌, ◌≤◌, List, [], ◌∷◌, ◌++◌, Bool, true, false, cond, ◌||◌, Option, None, Some, Result, Ok, Err, refl, sym, ◌∙◌, ap, subst, append_assoc, append-nil, length, length-append, nat_lt, le-ltb}
use Rattle.std.specs.Prelude.{filter, map, option_map, option_to_list, nat_eq}
use Rattle.std.specs.List.{list_any}
use Rattle.std.proofs.lemmas.List.{length-map}
use Rattle.std.proofs.lemmas.Bool.{false≢true}
use Rattle.json_fields.specs.Answer.{IsAnswer}
use Rattle.basics.specs.declared.limits.TheConstants.{LONGEST_LINE}
use Rattle.basics.specs.declared.stream.StreamId.{StreamId}
use Rattle.basics.specs.Told.{told_more}
use Rattle.outside.specs.Desk.{DeskSeen}
use Rattle.outside.specs.Event.{read_over}
use Rattle.outside.specs.Link.{Seen, Grew, own_events}
use Rattle.outside.specs.declared.event.Event.{Event}
use Rattle.outside.specs.declared.event.Event.TheVariants.{ReadLine}
use Rattle.outside.specs.declared.faults.Breach.{Breach}
use Rattle.outside.specs.declared.faults.Breach.TheVariants as breach
use Rattle.outside.specs.declared.faults.Side.TheVariants as side
use Rattle.airbyte_message.specs.Lanes.{Lane, one, all, lane_of}
use Rattle.airbyte_message.specs.Messages.{IsMessage}
use Rattle.airbyte_message.specs.State.{State as StateMsg}
use Rattle.airbyte_message.specs.declared.stream_status.StreamStatus.{StreamStatus}
use Rattle.catalog.specs.Reading.{ids_of}
use Rattle.catalog.specs.declared.stream.ConfStream.{ConfStream}
use Rattle.load_rules.specs.Prefixes.{IsPrefix}
use Rattle.load_rules.specs.Lines.{Line, Reading, ReadsText, line_read, lines_read, passes}
use Rattle.load_rules.specs.Attempts.{gives, passed, reads}
use Rattle.load_rules.specs.Engine.{is_closed, is_ended}
use Rattle.sync_rules.specs.Calls.{Call}
use Rattle.sync_rules.specs.Sync.{Running, and_event, completion, untold, with_event, texts, to_give}
use Rattle.sync_rules.specs.Steps.{InAttempt, ReadsOn}
use Rattle.sync_ledger.specs.Accounts.{account_of, lane_in}
use Rattle.sync_ledger.specs.Judged.{Hears, heard_line, judged, judged_account, judged_count, judged_in, judged_lane, judged_status, judged_told}
use Rattle.sync_ledger.specs.Noted.{Noted, form_of, heard, heard_in, heard_status, is_other_form}
use Rattle.sync_ledger.specs.Told.{told_of, verdict_of}
use Rattle.sync_ledger.specs.declared.accounts.Account.{Account}
use Rattle.sync_ledger.specs.declared.accounts.LaneAccount.{LaneAccount}
use Rattle.sync_ledger.specs.declared.form.StateForm.{StateForm}
use Rattle.sync_ledger.specs.declared.form.StateForm.TheVariants as form
use Rattle.sync_ledger.specs.declared.said.Saying.{Saying}
use Rattle.sync_ledger.specs.declared.said.Saying.TheVariants as saying
use Rattle.sync_ledger.specs.declared.told.Told.{Told}
use Rattle.sync_ledger.specs.declared.told.Told.TheVariants as told
use Rattle.sync_ledger.specs.declared.verdict.Verdict.{Verdict}
use Rattle.sync_ledger.specs.declared.verdict.Verdict.TheVariants as verdict
use Rattle.sync_ledger.specs.declared.notes.TheConstants.{MOST_LINES}
use Rattle.ledger_rules.specs.Ledgers.{IsLedgerOf, held_by, is_give, told_read}
use Rattle.ledger_rules.proofs.Judges.{err_ok, ok_is, passes_on, short_told}
use Rattle.ledger_rules.proofs.Stands.{reads_on}
use Rattle.attempt_turns.specs.Acts.{Going, does, Place, is_refused, lines_of, lines_told, lines_saying, place_after, reads_in}
use Rattle.attempt_turns.specs.History.{Leads}
use Rattle.attempt_turns.specs.Silence.{Steps}
use Rattle.attempt_turns.specs.declared.worker.Moved.TheVariants as moved
use Rattle.attempt_turns.specs.Heard.{GoesOn, HeardSource, lines_answered}
use Rattle.attempt_turns.specs.Placed.{ArePlaced}
use Rattle.attempt_turns.specs.Worker.{ComesBack, IsOn, IsReadable, Stands, is_error, is_error_told, is_error_saying, left_to_give, source_held, untold_from}
use Rattle.attempt_turns.specs.declared.worker.Worker.{Worker}
use Rattle.attempt_turns.proofs.Placed.{placed_read}
use Rattle.attempt_turns.proofs.Lists.{any_one, each_one, got_over_one, passed_one, read_over_one, reading_one, reads_one, same_gives, same_gots}

-- ---- one answer

pub answer_only : {A : Type 0} (P : A → Type 0) (a b : Option A) → IsAnswer P a → IsAnswer P b → a ≡ b
answer_only P None None p q = refl
answer_only P None (Some m) p q = absurd (p m q.is)
answer_only P (Some m) None p q = absurd (q m p.is)
answer_only P (Some m) (Some n) p q = ap (λ it. Some it) (q.only m p.is)

-- ---- what an answer says of what a line tells

pub account_give : (found : Option Account) (answer : Verdict) → judged_account found ≡ Ok answer → verdict.Give ≡ answer
account_give None answer is = absurd (err_ok is)
account_give (Some account) answer is = ok_is is

count_give : (said : Option ℕ) (counted : ℕ) (answer : Verdict) → judged_count said counted ≡ Ok answer → verdict.Give ≡ answer
count_give None counted answer is = ok_is is
count_give (Some said) counted answer is = at (nat_eq said counted) is
  where
    at : (b : Bool) → cond b (Ok verdict.Give) (Err (breach.Miscount said counted)) ≡ Ok answer → verdict.Give ≡ answer
    at true it = ok_is it
    at false it = absurd (err_ok it)

lane_give : (count : Option ℕ) (found : Option LaneAccount) (answer : Verdict) → judged_lane count found ≡ Ok answer → verdict.Give ≡ answer
lane_give count None answer is = absurd (err_ok is)
lane_give count (Some account) answer is = count_give count account.since answer is

pub record FitsForm (noted : Noted) (count : Option ℕ) (lane : Lane) (answer : Verdict) : Type 0 where
  pub same : is_other_form (form_of lane) noted.form ≡ false
  pub given : verdict.Give ≡ answer

fits_form : (noted : Noted) (count : Option ℕ) (lane : Lane) (answer : Verdict) → judged_in noted count (Some lane) ≡ Ok answer → FitsForm noted count lane answer
fits_form noted count lane answer is = at (is_other_form (form_of lane) noted.form) refl is
  where
    at : (b : Bool) → is_other_form (form_of lane) noted.form ≡ b → cond b (Err breach.Mixed) (judged_lane count (lane_in noted.ids noted.accounts lane)) ≡ Ok answer → FitsForm noted count lane answer
    at true same it = absurd (err_ok it)
    at false same it = record { same = same; given = lane_give count (lane_in noted.ids noted.accounts lane) answer it }

pub state_give : (noted : Noted) (count : Option ℕ) (lane : Option Lane) (answer : Verdict) → judged_in noted count lane ≡ Ok answer → verdict.Give ≡ answer
state_give noted count None answer is = absurd (err_ok is)
state_give noted count (Some lane) answer is = (fits_form noted count lane answer is).given

status_lines : (found : Option Account) → lines_answered (judged_status found) ≡ []
status_lines None = refl
status_lines (Some account) = refl

saying_lines : (own : Saying) → lines_saying own ≡ lines_answered (verdict_of own)
saying_lines (saying.Say line) = refl
saying_lines saying.Nothing = refl
saying_lines (saying.ConfigError line) = refl

-- the lines that it asks for are those that are said
pub lines_are : (noted : Noted) (own : Told) (answer : Verdict) → judged_told noted own ≡ Ok answer → lines_told own ≡ lines_answered answer
lines_are noted (told.Record id) answer is = ap lines_answered (account_give (account_of noted.ids id noted.accounts.streams) answer is)
lines_are noted (told.State state) answer is = ap lines_answered (state_give noted state.source_count (lane_of state.kind) answer is)
lines_are noted (told.Status id status) answer is = sym (status_lines (account_of noted.ids id noted.accounts.streams)) ∙ ap lines_answered (ok_is is)
lines_are noted (told.Other own) answer is = saying_lines own ∙ ap lines_answered (ok_is is)

saying_error : (own : Saying) (answer : Verdict) → verdict_of own ≡ answer → GoesOn answer → is_error_saying own ≡ false
saying_error (saying.Say line) answer is goes = refl
saying_error saying.Nothing answer is goes = refl
saying_error (saying.ConfigError line) answer is goes = absurd (subst GoesOn (sym is) goes)

pub no_error : (noted : Noted) (own : Told) (answer : Verdict) → judged_told noted own ≡ Ok answer → GoesOn answer → is_error_told own ≡ false
no_error noted (told.Record id) answer is goes = refl
no_error noted (told.State state) answer is goes = refl
no_error noted (told.Status id status) answer is goes = refl
no_error noted (told.Other own) answer is goes = saying_error own answer (ok_is is) goes

-- the form stays, where there is one
same_form : (own : Lane) (known : StateForm) → is_other_form (form_of own) (Some known) ≡ false → form_of own ≡ known
same_form (one id) form.Stream same = refl
same_form (one id) form.Global same = absurd (let e : true ≡ false = same in cc)
same_form all form.Stream same = absurd (let e : true ≡ false = same in cc)
same_form all form.Global same = refl

state_form : (noted : Noted) (state : StateMsg) (lane : Option Lane) (known : StateForm) (answer : Verdict) → noted.form ≡ Some known → judged_in noted state.source_count lane ≡ Ok answer → (heard_in state noted lane).form ≡ Some known
state_form noted state None known answer is judged_is = is
state_form noted state (Some lane) known answer is judged_is = ap (λ it. Some it) (same_form lane known (ap (is_other_form (form_of lane)) (sym is) ∙ (fits_form noted state.source_count lane answer judged_is).same))

heard_status_form : (noted : Noted) (id : StreamId) (status : StreamStatus) (found : Option Account) → (heard_status id status noted found).form ≡ noted.form
heard_status_form noted id status None = refl
heard_status_form noted id status (Some account) = refl

pub form_stays : (noted : Noted) (own : Told) (known : StateForm) (answer : Verdict) → noted.form ≡ Some known → judged_told noted own ≡ Ok answer → (heard noted own).form ≡ Some known
form_stays noted (told.Record id) known answer is judged_is = is
form_stays noted (told.State state) known answer is judged_is = state_form noted state (lane_of state.kind) known answer is judged_is
form_stays noted (told.Status id status) known answer is judged_is = heard_status_form noted id status (account_of noted.ids id noted.accounts.streams) ∙ is
form_stays noted (told.Other own) known answer is judged_is = is

-- ---- the worker behind the line

abbrev pub heard_worker : Worker → Noted → Verdict → List ℕ → Worker
heard_worker w ledger answer text = record w { ledger = ledger; held = held_by answer text }

pub record Judged (w : Worker) (read : Reading) (text : List ℕ) (answer : Verdict) (ledger : Noted) : Type 0 where
  pub judged_is : judged w.ledger text (read text) ≡ Ok answer
  pub ledger_is : ledger ≡ heard_line w.ledger text (read text)

pub judged_by : (w : Worker) (read : Reading) (text : List ℕ) (answer : Verdict) (ledger : Noted) → ReadsText read text → Hears w.ledger text answer ledger → Judged w read text answer ledger
judged_by w read text answer ledger right hears =
    let same : hears.found ≡ read text = answer_only (IsMessage text) hears.found (read text) hears.reads right in
    record {
      judged_is = ap (judged w.ledger text) (sym same) ∙ hears.judges;
      ledger_is = hears.notes ∙ ap (heard_line w.ledger text) same;
    }

pub told_is : (w : Worker) (read : Reading) (text : List ℕ) (answer : Verdict) (ledger : Noted) → Judged w read text answer ledger → judged_told w.ledger (told_of side.Source text (read text)) ≡ Ok answer
told_is w read text answer ledger by = short_told w.ledger text (judged_told w.ledger (told_of side.Source text (read text))) answer by.judged_is

-- a line that is not refused is not too long
pub short : (noted : Noted) (text : List ℕ) (own : Result Verdict Breach) (answer : Verdict) → cond (nat_lt LONGEST_LINE (length text)) (Err breach.TooLong) own ≡ Ok answer → nat_lt LONGEST_LINE (length text) ≡ false
short noted text own answer is = at (nat_lt LONGEST_LINE (length text)) is
  where
    at : (b : Bool) → cond b (Err breach.TooLong) own ≡ Ok answer → b ≡ false
    at true it = absurd (err_ok it)
    at false it = refl

held_list : (b : Bool) (text : List ℕ) → option_to_list (cond b (Some text) None) ≡ cond b (text ∷ []) []
held_list true text = refl
held_list false text = refl

passed_list : (b : Bool) (line : Line) → texts (cond b (line ∷ []) []) ≡ cond b (line.text ∷ []) []
passed_list true line = refl
passed_list false line = refl

pub none_left : (w : Worker) (ids : List StreamId) (read : Reading) (events : List Event) → w.read_over ≡ false → left_to_give w ids read events ≡ []
none_left w ids read events none = ap (λ b. cond b (map completion (untold_from w.completed ids read events)) []) none

pub no_completions : (ids : List StreamId) (read : Reading) (events : List Event) → read_over events ≡ false → to_give ids read events ≡ texts (passed ids read events)
no_completions ids read events going = ap (λ b. texts (passed ids read events) ++ cond b (map completion (untold ids read events)) []) going ∙ append-nil (texts (passed ids read events))

pub not_completing : (w : Worker) (held : Option (List ℕ)) → w.is_completing ≡ false → cond w.is_completing None held ≡ held
not_completing w held none = ap (λ b. cond b None held) none

-- ---- the attempt behind the line

give_so : (ids : List StreamId) (read : Reading) (w : Worker) (own : Running) (text : List ℕ) (answer : Verdict) (ledger : Noted) → w.held ≡ None → w.read_over ≡ false → read_over own.events ≡ w.read_over → is_give answer ≡ passes ids (read text)
    → to_give ids read own.events ≡ (gives own.events ++ option_to_list w.held) ++ left_to_give w ids read own.events
    → to_give ids read (own.events ++ ReadLine text ∷ []) ≡ (gives (own.events ++ ReadLine text ∷ []) ++ option_to_list (held_by answer text)) ++ left_to_give (heard_worker w ledger answer text) ids read (own.events ++ ReadLine text ∷ [])
give_so ids read w own text answer ledger empty going read_so gives_it before =
    let events = own.events in
    let next = events ++ ReadLine text ∷ [] in
    let over : read_over next ≡ false = read_over_one events (ReadLine text) ∙ (read_so ∙ going) in
    let old : texts (passed ids read events) ≡ gives events =
    sym (no_completions ids read events (read_so ∙ going)) ∙ (before ∙ (ap (λ list. (gives events ++ option_to_list w.held) ++ list) (none_left w ids read events going)
    ∙ (append-nil (gives events ++ option_to_list w.held) ∙ (ap (λ held. gives events ++ option_to_list held) empty ∙ append-nil (gives events))))) in
    let more : texts (filter (λ line. passes ids line.found) (line_read read text ∷ [])) ≡ option_to_list (held_by answer text) =
    passed_list (passes ids (read text)) (line_read read text) ∙ (ap (λ b. cond b (text ∷ []) []) (sym gives_it) ∙ sym (held_list (is_give answer) text)) in
    no_completions ids read next over
    ∙ (ap (λ list. texts (filter (λ line. passes ids line.found) (lines_read read list))) (reads_one events (ReadLine text))
    ∙ (passed_one ids read (reads events) text
    ∙ (ap (λ list. list ++ texts (filter (λ line. passes ids line.found) (line_read read text ∷ []))) (old ∙ sym (same_gives events (ReadLine text) refl))
    ∙ (ap (λ list. gives next ++ list) more
    ∙ (sym (append-nil (gives next ++ option_to_list (held_by answer text)))
    ∙ ap (λ list. (gives next ++ option_to_list (held_by answer text)) ++ list) (sym (none_left (heard_worker w ledger answer text) ids read next going)))))))

passed_so : (ids : List StreamId) (read : Reading) (w : Worker) (own : Running) (text : List ℕ) (answer : Verdict) → w.held ≡ None → is_give answer ≡ passes ids (read text) → texts (passed ids read own.events) ≡ gives own.events ++ option_to_list w.held
    → texts (passed ids read (own.events ++ ReadLine text ∷ [])) ≡ gives (own.events ++ ReadLine text ∷ []) ++ option_to_list (held_by answer text)
passed_so ids read w own text answer empty gives_it before =
    let events = own.events in
    let more : texts (filter (λ line. passes ids line.found) (line_read read text ∷ [])) ≡ option_to_list (held_by answer text) =
    passed_list (passes ids (read text)) (line_read read text) ∙ (ap (λ b. cond b (text ∷ []) []) (sym gives_it) ∙ sym (held_list (is_give answer) text)) in
    ap (λ list. texts (filter (λ line. passes ids line.found) (lines_read read list))) (reads_one events (ReadLine text))
    ∙ (passed_one ids read (reads events) text
    ∙ (ap (λ list. list ++ texts (filter (λ line. passes ids line.found) (line_read read text ∷ []))) (before ∙ (ap (λ held. gives events ++ option_to_list held) empty ∙ (append-nil (gives events) ∙ sym (same_gives events (ReadLine text) refl))))
    ∙ ap (λ list. gives (events ++ ReadLine text ∷ []) ++ list) more))

pub front_read : (ids : List StreamId) (read : Reading) (own : Running) (text : List ℕ) → IsPrefix (gives own.events) (texts (passed ids read own.events)) → IsPrefix (gives (own.events ++ ReadLine text ∷ [])) (texts (passed ids read (own.events ++ ReadLine text ∷ [])))
front_read ids read own text front =
    let more = texts (filter (λ line. passes ids line.found) (line_read read text ∷ [])) in (
      front.0 ++ more,
      ap (λ list. texts (filter (λ line. passes ids line.found) (lines_read read list))) (reads_one own.events (ReadLine text))
          ∙ (passed_one ids read (reads own.events) text
          ∙ (ap (λ list. list ++ more) front.1
          ∙ (append_assoc (gives own.events) front.0 more ∙ ap (λ list. list ++ (front.0 ++ more)) (sym (same_gives own.events (ReadLine text) refl))))),
    )

-- so few lines were read that one more is taken
pub few_lines : (ids : List StreamId) (w : Worker) (streams : List ConfStream) (read : Reading) (own : Running) → IsOn w streams read own → length (reads own.events) ≡ w.ledger.lines
few_lines ids w streams read own on = sym (on.ledger.heard.number ∙ length-map (reads own.events) (told_read read))

on_read : (w : Worker) (streams : List ConfStream) (read : Reading) (own : Running) (text : List ℕ) (answer : Verdict) (ledger : Noted) → ReadsText read text → w.held ≡ None → w.read_over ≡ false → w.closed ≡ false → w.ledger.lines < MOST_LINES → GoesOn answer → Judged w read text answer ledger → IsOn w streams read own
    → IsOn (heard_worker w ledger answer text) streams read (and_event (ReadLine text) own)
on_read w streams read own text answer ledger right empty going opened few goes by on =
    let ids = ids_of streams in
    let events = own.events in
    let next = events ++ ReadLine text ∷ [] in
    let told = told_is w read text answer ledger by in
    let completing = (on.reads_first going).0 in
    let none_held = not_completing w w.held completing ∙ empty in
    let idle = subst (λ line. IsLedgerOf ids own.start read events line w.ledger) none_held on.ledger in
    let heard_is = reads_on ids own.start read events w.ledger text answer on.orderly.distinct on.start idle by.judged_is in
    let given = sym (on.own_lines completing (on.reads_first going).1 ∙ (ap (λ held. gives events ++ option_to_list held) empty ∙ append-nil (gives events))) in
    let placed = placed_read ids own.start read events w.ledger text answer (sym (few_lines ids w streams read own on)) idle.holds given heard_is (subst (λ line. ArePlaced ids read events line w.ledger) none_held on.placed) in
    let gives_it = passes_on ids own.start read events (source_held w) w.ledger text answer on.ledger by.judged_is in
    record {
      orderly = on.orderly;
      reading = reading_one read events (ReadLine text) on.reading right;
      ledger = subst (λ line. IsLedgerOf ids own.start read next line ledger) (sym (not_completing w (held_by answer text) completing)) (subst (IsLedgerOf ids own.start read next (held_by answer text)) (sym by.ledger_is) heard_is);
      placed = subst (λ line. ArePlaced ids read next line ledger) (sym (not_completing w (held_by answer text) completing)) (subst (ArePlaced ids read next (held_by answer text)) (sym by.ledger_is) placed);
      start = on.start;
      kept = on.kept;
      set_fits = record {
        has_streams = on.set_fits.has_streams;
        of_streams = λ some. ap (λ (it : Noted). it.form) by.ledger_is ∙ form_stays w.ledger (told_of side.Source text (read text)) form.Stream answer (on.set_fits.of_streams some) told;
        of_all = λ some. ap (λ (it : Noted). it.form) by.ledger_is ∙ form_stays w.ledger (told_of side.Source text (read text)) form.Global answer (on.set_fits.of_all some) told;
      };
      none_ends = record {
        no_error = ap (list_any (is_error side.Source read)) (reads_one events (ReadLine text)) ∙ (any_one (is_error side.Source read) (reads events) text (no_error w.ledger (told_of side.Source text (read text)) answer told goes) ∙ on.none_ends.no_error);
        no_error_back = ap (list_any (is_error side.Dest read)) (same_gots events (ReadLine text) refl) ∙ on.none_ends.no_error_back;
        come_back = each_one (ComesBack read) [] events (ReadLine text) on.none_ends.come_back tt;
      };
      going = any_one is_ended events (ReadLine text) refl ∙ on.going;
      closed = any_one is_closed events (ReadLine text) refl ∙ on.closed;
      closed_behind = λ closed. absurd (false≢true (sym opened ∙ closed));
      read_so = read_over_one events (ReadLine text) ∙ on.read_so;
      got_so = got_over_one events (ReadLine text) ∙ on.got_so;
      few_lines = one_more_read;
      got_lines = on.got_lines ∙ ap length (sym (same_gots events (ReadLine text) refl));
      gives_next = give_so ids read w own text answer ledger empty going on.read_so gives_it on.gives_next;
      reads_first = λ so. on.reads_first so;
      own_lines = λ none zero. passed_so ids read w own text answer empty gives_it (on.own_lines none zero);
    }
  where
    one_more_read : length (reads (own.events ++ ReadLine text ∷ [])) ≤ MOST_LINES
    one_more_read =
        let same : length (reads (own.events ++ ReadLine text ∷ [])) ≡ length (reads own.events) + 1 = ap length (reads_one own.events (ReadLine text)) ∙ length-append (reads own.events) (text ∷ []) in
        let number = few_lines (ids_of streams) w streams read own on in
        omega (arith, same, number, few)

-- ---- the way

pub runs_on : (own : Option Running) (attempt : Running) → own ≡ Some attempt → list_any is_ended attempt.events ≡ false → read_over attempt.events ≡ false → InAttempt own ReadsOn
runs_on own attempt runs going over = subst (λ it. InAttempt it ReadsOn) (sym runs) (going, over)

abbrev pub read_place : Reading → Place → List ℕ → Place
read_place read here text = place_after read here (ReadLine text) (with_event (ReadLine text) here.standing.sync)

pub not_refused : (w : Worker) (call : Call) (streams : List ConfStream) (read : Reading) (here : Place) (said : List (List ℕ)) (text : List ℕ) → w.ledger.lines < MOST_LINES → Stands w call streams read here said → nat_lt LONGEST_LINE (length text) ≡ false → is_refused here.standing text ≡ false
not_refused w call streams read here said text few stands is_short =
    ap (λ b. b || nat_lt MOST_LINES (length (reads_in here.standing.sync.attempt) + 1)) is_short
    ∙ (ap (λ it. nat_lt MOST_LINES (length (reads_in it) + 1)) stands.runs
    ∙ le-ltb MOST_LINES (length (reads stands.attempt.events) + 1) (let same = few_lines (ids_of streams) w streams read stands.attempt stands.on in omega (arith, same, few)))

pub going_read : (w : Worker) (call : Call) (streams : List ConfStream) (read : Reading) (here : Place) (said : List (List ℕ)) (text : List ℕ) → w.read_over ≡ false → Stands w call streams read here said → Going call streams read here (does (ReadLine text) ∷ []) (read_place read here text)
going_read w call streams read here said text going stands = (
  with_event (ReadLine text) here.standing.sync,
  (runs_on here.standing.sync.attempt stands.attempt stands.runs stands.on.going (stands.on.read_so ∙ going), refl),
  subst (λ (n : ℕ). 0 < n) (sym stands.is_last.number) stands.is_last.positive,
  record { works = stands.is_last.works; order = stands.is_last.number ∙ sym stands.is_last.ended },
  refl,
)

pub reads_step : (w now : Worker) (text : List ℕ) (old new : Seen) (desk_old desk_new : DeskSeen) → IsReadable w → own_events new ≡ told_more (ReadLine text ∷ []) (own_events old) → Grew old new → HeardSource w text now desk_old desk_new → Steps moved.Yes (Stands w) (Stands now) old new desk_old desk_new
reads_step w now text old new desk_old desk_new readable added grew heard_is = record {
  ran = record {
    acts = does (ReadLine text) ∷ [];
    lines = lines_answered heard_is.answer;
    added = added;
    said = heard_is.said.said;
    grew = grew;
    desk = heard_is.said.keeps;
    leads = leads;
  };
  are = inl refl;
}
  where
    leads : Leads (Stands w) (Stands now) (does (ReadLine text) ∷ []) (lines_answered heard_is.answer)
    leads call streams read here said reading stands =
        let by = judged_by w read text heard_is.answer now.ledger reading.0 heard_is.heard.hears in
        let next = with_event (ReadLine text) here.standing.sync in
        let told = told_is w read text heard_is.answer now.ledger by in
        let unrefused : is_refused here.standing text ≡ false = not_refused w call streams read here said text heard_is.heard.few stands (short w.ledger text (judged_told w.ledger (told_of side.Source text (read text))) heard_is.answer by.judged_is) in (
          place_after read here (ReadLine text) next,
          going_read w call streams read here said text readable.going stands,
          subst (λ (it : Worker). Stands it call streams read (place_after read here (ReadLine text) next) (said ++ lines_answered heard_is.answer)) (sym heard_is.heard.is) (record {
            is_last = record { begun = stands.is_last.begun; number = stands.is_last.number; positive = stands.is_last.positive; ended = stands.is_last.ended; works = stands.is_last.works };
            attempt = and_event (ReadLine text) stands.attempt;
            runs = ap (option_map (and_event (ReadLine text))) stands.runs;
            on = on_read w streams read stands.attempt text heard_is.answer now.ledger reading.0 readable.empty readable.going readable.opened heard_is.heard.few heard_is.goes_on by stands.on;
            set = stands.set;
            none_owed = stands.none_owed;
            said_all = ap (λ list. list ++ lines_of read here.standing (ReadLine text)) stands.said_all
                ∙ ap (λ list. said ++ list) (ap (λ b. cond b [] (lines_told (told_of side.Source text (read text)))) unrefused ∙ lines_are w.ledger (told_of side.Source text (read text)) heard_is.answer told);
          }),
        )
