-- An attempt ends where its worker stands, or behind a line that was read.
use Rattle.std.proofs.Common.{arith, ◌≡◌, ◌⊎◌, inl, inr, ℕ, zero, suc, ◌+◌, ◌-◌, min, ◌<◌, ◌≤◌, List, [], ◌∷◌, ◌++◌, Bool, true, false, cond, ◌||◌, Option, None, Some, Ok, Err, refl, sym, ◌∙◌, ap, subst, append_assoc, append-nil, length, length-append, nat_lt, lt-ltb}
use Rattle.std.specs.Prelude.{option_map, option_to_list, ◌^◌}
use Rattle.std.proofs.lemmas.List.{length-map}
use Rattle.std.proofs.lemmas.List.Sums.{fold-append}
use Rattle.std.specs.List.{list_any}
use Rattle.std.proofs.lemmas.Bool.{false≢true}
use Rattle.basics.specs.declared.limits.TheConstants.{LONGEST_LINE}
use Rattle.basics.specs.Told.{told_more}
use Rattle.outside.specs.Desk.{DeskSeen}
use Rattle.outside.specs.Event.{got_over, got_over_after}
use Rattle.outside.specs.Link.{Seen, Grew, own_events}
use Rattle.outside.specs.declared.event.Event.TheVariants.{Closed, ReadLine}
use Rattle.outside.specs.declared.event.Exit.TheVariants.{Code}
use Rattle.outside.specs.declared.faults.Breach.{Breach}
use Rattle.outside.specs.declared.faults.Breach.TheVariants as breach
use Rattle.outside.specs.declared.link.LinkFace.{LinkFace}
use Rattle.outside.specs.declared.link.PollKind.TheVariants as kind
use Rattle.outside.specs.declared.status.Status.{Status}
use Rattle.outside.specs.declared.status.Status.TheVariants as status
use Rattle.catalog.specs.Reading.{ids_of}
use Rattle.catalog.specs.declared.stream.ConfStream.{ConfStream}
use Rattle.load_rules.specs.Prefixes.{IsPrefix}
use Rattle.load_rules.specs.Lines.{Reading}
use Rattle.load_rules.specs.Attempts.{gives, passed}
use Rattle.sync_rules.specs.Calls.{Call, IsThrough, OwesNothing}
use Rattle.sync_rules.specs.Sync.{Running, Sync, texts}
use Rattle.airbyte_message.specs.Lanes.{lane_of}
use Rattle.airbyte_message.specs.Messages.{IsMessage}
use Rattle.outside.specs.declared.faults.Side.TheVariants as side
use Rattle.load_rules.specs.Lines.{ReadsText}
use Rattle.load_rules.specs.Attempts.{reads}
use Rattle.load_rules.specs.Engine.{is_closed, is_ended}
use Rattle.sync_rules.specs.Calls.{Standing}
use Rattle.sync_rules.specs.Sync.{and_event}
use Rattle.sync_rules.proofs.KindLemmas.{any_back, by_bool, or_right}
use Rattle.sync_ledger.specs.Accounts.{account_of}
use Rattle.sync_ledger.specs.Judged.{Refuses, RefusesMessage, judged, judged_status, judged_told}
use Rattle.sync_ledger.specs.Noted.{Noted}
use Rattle.sync_ledger.specs.Told.{told_of, verdict_of}
use Rattle.sync_ledger.specs.declared.accounts.Account.{Account}
use Rattle.sync_ledger.specs.declared.notes.TheConstants.{MOST_LINES}
use Rattle.sync_ledger.specs.declared.said.Saying.{Saying}
use Rattle.sync_ledger.specs.declared.said.Saying.TheVariants as saying
use Rattle.sync_ledger.specs.declared.told.Told.{Told}
use Rattle.sync_ledger.specs.declared.told.Told.TheVariants as told
use Rattle.sync_ledger.specs.declared.verdict.Verdict.{Verdict}
use Rattle.sync_ledger.specs.declared.verdict.Verdict.TheVariants as verdict
use Rattle.ledger_rules.specs.Ledgers.{IsLedgerOf, breach_in, told_read}
use Rattle.ledger_rules.proofs.Judges.{judges, ok_is}
use Rattle.ledger_rules.proofs.Stands.{reads_on}
use Rattle.attempt_turns.specs.Acts.{does, Place, is_refused, lines_of, lines_told, reads_in}
use Rattle.attempt_turns.specs.History.{KeepsDesk, Ran}
use Rattle.attempt_turns.specs.Silence.{Steps}
use Rattle.attempt_turns.specs.declared.worker.Moved.TheVariants as moved
use Rattle.attempt_turns.specs.Ends.{CanStop, Ends, EndsSo, ErrsSo, IsClean, Knows, RefusesLast, SaidSo, TooManyRead, TurnCause, is_again}
use Rattle.attempt_turns.specs.Heard.{HalfSaid, HearsSource, LineEnds, SaysLines, lines_answered}
use Rattle.attempt_turns.specs.Worker.{ComesBack, HasCode, IsOn, IsReadable, Live, Stands, is_error, is_error_saying, is_error_told, source_held}
use Rattle.attempt_turns.specs.declared.worker.Worker.{Worker}
use Rattle.attempt_turns.proofs.Lists.{any_one, each_one, got_more, reads_one, same_gots}
use Rattle.attempt_turns.proofs.ReadLemmas.{account_give, answer_only, few_lines, front_read, going_read, judged_by, lines_are, not_completing, not_refused, read_place, short, state_give, told_is}

-- ---- where nothing is owed and all is said

pub owes_nothing : (end : Status) (sync : Sync) → sync.owed ≡ None → OwesNothing end sync
owes_nothing status.StateFault sync none = tt
owes_nothing status.NoMemory sync none = tt
owes_nothing end sync none = none

pub all_said : (end : Status) (asked said : List (List ℕ)) → asked ≡ said → SaidSo end asked said
all_said status.SayFault asked said same = ([], same ∙ sym (append-nil said))
all_said status.NoMemory asked said same = ([], same ∙ sym (append-nil said))
all_said end asked said same = same

pub clean : (w : Worker) (streams : List ConfStream) (read : Reading) (own : Running) → IsOn w streams read own → IsClean (ids_of streams) read own
clean w streams read own on = record { unbroken = on.ledger.unbroken; none_ends = on.none_ends }

pub less_same : (m n : ℕ) → m ≡ n → m < n → ⊥
less_same m n same less = omega (arith, same, less)

pub given_front : (w : Worker) (streams : List ConfStream) (read : Reading) (own : Running) → IsOn w streams read own → w.is_completing ≡ false → w.completed ≡ 0 → IsPrefix (gives own.events) (texts (passed (ids_of streams) read own.events))
given_front w streams read own on none first = (option_to_list w.held, on.own_lines none first)

-- the code stays known
pub coded : (w : Worker) (old new : Seen) → Live w old → new.face.codes.source ≡ old.face.codes.source → HasCode w new.face
coded w old new live same some = same ∙ live.completed some

-- where a completion was made the code is known
pub rightly : (w : Worker) (streams : List ConfStream) (read : Reading) (face : LinkFace) (own : Running) → HasCode w face → IsOn w streams read own → IsPrefix (gives own.events) (texts (passed (ids_of streams) read own.events)) ⊎ (face.codes.source ≡ Some (Code 0))
rightly w streams read face own code on = by_bool w.is_completing (λ is. inr (code (inl is))) (λ none. at none w.completed refl)
  where
    at : w.is_completing ≡ false → (n : ℕ) → w.completed ≡ n → IsPrefix (gives own.events) (texts (passed (ids_of streams) read own.events)) ⊎ (face.codes.source ≡ Some (Code 0))
    at none zero is = inl (given_front w streams read own on none is)
    at none (suc n) is = inr (code (inr (omega (arith, is))))

pub may_stop : (w : Worker) (call : Call) (streams : List ConfStream) (read : Reading) (face : LinkFace) (here : Place) (said : List (List ℕ)) → HasCode w face → Stands w call streams read here said → CanStop streams read face here
may_stop w call streams read face here said code stands = record { number = stands.is_last.number ∙ sym stands.is_last.ended; attempt = stands.attempt; runs = stands.runs; going = stands.on.going; rightly = rightly w streams read face stands.attempt code stands.on }

-- the worker has what the attempt's events say
knows_on : (w : Worker) (streams : List ConfStream) (read : Reading) (face : LinkFace) (own : Running) → IsOn w streams read own → Knows w (ids_of streams) read face own
knows_on w streams read face own on = record {
  read_so = on.read_so;
  got_so = on.got_so;
  closed = λ closed. on.closed ∙ closed;
  opened = λ opened known. on.closed ∙ opened;
  held = on.own_lines;
}

-- the attempt ends where it stands
pub ends_here : (end : Status) (face : LinkFace) (w : Worker) (call : Call) (streams : List ConfStream) (read : Reading) (here : Place) (said : List (List ℕ)) (stands : Stands w call streams read here said)
    → EndsSo end (ids_of streams) read face stands.attempt → (face.running ≡ true → CanStop streams read face here) → Ends end face w call streams read here said
ends_here end face w call streams read here said stands so stop = record {
  begun = stands.is_last.begun;
  number = (let same = stands.is_last.number in omega (arith, same));
  ended = stands.is_last.ended;
  failed = λ failed. absurd (false≢true (sym stands.is_last.works ∙ failed));
  set = λ retried. stands.set;
  paid = owes_nothing end here.standing.sync stands.none_owed;
  so = λ same. (stands.attempt, stands.runs, so);
  knows = λ retried same. (stands.attempt, stands.runs, knows_on w streams read face stands.attempt stands.on);
  unstarted = λ less. absurd (less_same here.standing.called.number w.number stands.is_last.number less);
  can_stop = stop;
  said_so = all_said end here.asked said stands.said_all;
}

pub no_events : (seen : Seen) (new : Seen) → own_events new ≡ own_events seen → own_events new ≡ told_more [] (own_events seen)
no_events seen new same = same ∙ none (own_events seen)
  where
    none : {A : Type 0} (before : Option (List A)) → before ≡ told_more [] before
    none None = refl
    none (Some list) = ap (λ it. Some it) (sym (append-nil list))

pub none_said : (desk : DeskSeen) → desk.said ≡ told_more [] desk.said
none_said desk = none desk.said
  where
    none : {A : Type 0} (before : Option (List A)) → before ≡ told_more [] before
    none None = refl
    none (Some list) = ap (λ it. Some it) (sym (append-nil list))

pub desk_same : (desk : DeskSeen) → KeepsDesk desk desk
desk_same desk = record { say_faults = omega arith; read_faults = refl; texts = refl }

-- nothing was told, and the attempt ends
pub ends_way : (end : Status) (w : Worker) (old new : Seen) (desk : DeskSeen) → HasCode w new.face → own_events new ≡ own_events old → Grew old new
    → ((streams : List ConfStream) (read : Reading) (own : Running) → IsOn w streams read own → EndsSo end (ids_of streams) read new.face own) → Ran (Stands w) (Ends end new.face w) old new desk desk
ends_way end w old new desk code same grew so = record {
  acts = [];
  lines = [];
  added = no_events old new same;
  said = none_said desk;
  grew = grew;
  desk = desk_same desk;
  leads = λ call streams read here said reading stands. (
    here,
    refl,
    subst (λ list. Ends end new.face w call streams read here list) (sym (append-nil said))
        (ends_here end new.face w call streams read here said stands (so streams read stands.attempt stands.on) (λ running. may_stop w call streams read new.face here said code stands)),
  );
}

-- nothing was told, and it stands as before
pub stays_step : (w : Worker) (old new : Seen) (desk : DeskSeen) → own_events new ≡ own_events old → Grew old new → Steps moved.No (Stands w) (Stands w) old new desk desk
stays_step w old new desk same grew = record {
  ran = record {
    acts = [];
    lines = [];
    added = no_events old new same;
    said = none_said desk;
    grew = grew;
    desk = desk_same desk;
    leads = λ call streams read here said reading stands. (here, refl, subst (λ list. Stands w call streams read here list) (sym (append-nil said)) stands);
  };
  are = refl;
}

-- ---- behind a line that was read

read_ends : (end : Status) (face : LinkFace) (w now : Worker) (call : Call) (streams : List ConfStream) (read : Reading) (here : Place) (said lines : List (List ℕ)) (text : List ℕ) (stands : Stands w call streams read here said)
    → w.read_over ≡ false → is_again end ≡ false → now.number ≡ w.number → EndsSo end (ids_of streams) read face (and_event (ReadLine text) stands.attempt) → SaidSo end (here.asked ++ lines_of read here.standing (ReadLine text)) (said ++ lines)
    → Ends end face now call streams read (read_place read here text) (said ++ lines)
read_ends end face w now call streams read here said lines text stands going kept number so said_so = record {
  begun = stands.is_last.begun ∙ sym number;
  number = (let same = stands.is_last.number in omega (arith, same, number));
  ended = stands.is_last.ended ∙ sym number;
  failed = λ failed. absurd (false≢true (sym stands.is_last.works ∙ failed));
  set = λ retried. absurd (false≢true (sym kept ∙ retried));
  paid = owes_nothing end (read_place read here text).standing.sync stands.none_owed;
  so = λ same. (and_event (ReadLine text) stands.attempt, ap (option_map (and_event (ReadLine text))) stands.runs, so);
  knows = λ retried same. absurd (false≢true (sym kept ∙ retried));
  unstarted = λ less. absurd (less_same here.standing.called.number now.number (stands.is_last.number ∙ sym number) less);
  can_stop = λ running. record {
    number = stands.is_last.number ∙ sym stands.is_last.ended;
    attempt = and_event (ReadLine text) stands.attempt;
    runs = ap (option_map (and_event (ReadLine text))) stands.runs;
    going = any_one is_ended stands.attempt.events (ReadLine text) refl ∙ stands.on.going;
    rightly = (let none = stands.on.reads_first going in inl (front_read (ids_of streams) read stands.attempt text (given_front w streams read stands.attempt stands.on none.0 none.1)));
  };
  said_so = said_so;
}

abbrev pub ReadsWay : Status → Worker → Worker → List ℕ → Seen → Seen → DeskSeen → DeskSeen → Type 0
ReadsWay end w now text old new desk_old desk_new = w.read_over ≡ false → own_events new ≡ told_more (ReadLine text ∷ []) (own_events old) → Grew old new → Ran (Stands w) (Ends end new.face now) old new desk_old desk_new

-- memory lacked: the line was read, and who knows what it is
no_memory_way : (w now : Worker) (text : List ℕ) (old new : Seen) (desk_old desk_new : DeskSeen) → now.number ≡ w.number → SaysLines [] desk_old desk_new → ReadsWay status.NoMemory w now text old new desk_old desk_new
no_memory_way w now text old new desk_old desk_new number says going added grew = record {
  acts = does (ReadLine text) ∷ [];
  lines = [];
  added = added;
  said = says.said;
  grew = grew;
  desk = says.keeps;
  leads = λ call streams read here said reading stands. (
    read_place read here text,
    going_read w call streams read here said text going stands,
    read_ends status.NoMemory new.face w now call streams read here said [] text stands going refl number tt
        (lines_of read here.standing (ReadLine text), ap (λ list. list ++ lines_of read here.standing (ReadLine text)) (stands.said_all ∙ sym (append-nil said))),
  );
}

-- the lines that a line that was heard asks for
heard_lines : (w now : Worker) (call : Call) (streams : List ConfStream) (read : Reading) (here : Place) (said : List (List ℕ)) (text : List ℕ) (answer : Verdict) → w.ledger.lines < MOST_LINES → ReadsText read text → HearsSource w text answer now → Stands w call streams read here said
    → here.asked ++ lines_of read here.standing (ReadLine text) ≡ said ++ lines_answered answer
heard_lines w now call streams read here said text answer few right heard_is stands =
    let by = judged_by w read text answer now.ledger right heard_is.hears in
    let told = told_is w read text answer now.ledger by in
    ap (λ list. list ++ lines_of read here.standing (ReadLine text)) stands.said_all
    ∙ ap (λ list. said ++ list) (ap (λ b. cond b [] (lines_told (told_of side.Source text (read text)))) (not_refused w call streams read here said text few stands (short w.ledger text (judged_told w.ledger (told_of side.Source text (read text))) answer by.judged_is))
    ∙ lines_are w.ledger (told_of side.Source text (read text)) answer told)

-- the line was heard, and a part of what is to be said of it was said
half_said_way : (w now : Worker) (text : List ℕ) (old new : Seen) (desk_old desk_new : DeskSeen) → HalfSaid w text now desk_old desk_new → ReadsWay status.SayFault w now text old new desk_old desk_new
half_said_way w now text old new desk_old desk_new half going added grew = record {
  acts = does (ReadLine text) ∷ [];
  lines = half.said.front.front;
  added = added;
  said = half.said.front.grew;
  grew = grew;
  desk = half.said.keeps;
  leads = λ call streams read here said reading stands. (
    read_place read here text,
    going_read w call streams read here said text going stands,
    read_ends status.SayFault new.face w now call streams read here said half.said.front.front text stands going refl (ap (λ (it : Worker). it.number) half.heard.is) tt
        (half.said.front.rest, heard_lines w now call streams read here said text half.answer half.heard.few reading.0 half.heard stands ∙ (ap (λ list. said ++ list) half.said.front.splits ∙ sym (append_assoc said half.said.front.front half.said.front.rest))),
  );
}

pub idle_ledger : (w : Worker) (streams : List ConfStream) (read : Reading) (own : Running) → w.held ≡ None → w.is_completing ≡ false → IsOn w streams read own → IsLedgerOf (ids_of streams) own.start read own.events None w.ledger
idle_ledger w streams read own empty completing on = subst (λ line. IsLedgerOf (ids_of streams) own.start read own.events line w.ledger) (not_completing w w.held completing ∙ empty) on.ledger

give_error : {words : List ℕ} → verdict.Give ≡ verdict.ConfigError words → ⊥
give_error e = cc

nothing_error : {words : List ℕ} → verdict.Nothing ≡ verdict.ConfigError words → ⊥
nothing_error e = cc

say_error : {line words : List ℕ} → verdict.Say line ≡ verdict.ConfigError words → ⊥
say_error e = cc

status_error : {words : List ℕ} (found : Option Account) → judged_status found ≡ verdict.ConfigError words → ⊥
status_error None e = nothing_error e
status_error (Some account) e = give_error e

saying_is : {words : List ℕ} (own : Saying) → verdict_of own ≡ verdict.ConfigError words → is_error_saying own ≡ true
saying_is (saying.Say line) e = absurd (say_error e)
saying_is saying.Nothing e = absurd (nothing_error e)
saying_is (saying.ConfigError line) e = refl

-- the line says that a configuration is wrong
error_is : (noted : Noted) (own : Told) (words : List ℕ) → judged_told noted own ≡ Ok (verdict.ConfigError words) → is_error_told own ≡ true
error_is noted (told.Record id) words is = absurd (give_error (account_give (account_of noted.ids id noted.accounts.streams) (verdict.ConfigError words) is))
error_is noted (told.State state) words is = absurd (give_error (state_give noted state.source_count (lane_of state.kind) (verdict.ConfigError words) is))
error_is noted (told.Status id status) words is = absurd (status_error (account_of noted.ids id noted.accounts.streams) (ok_is is))
error_is noted (told.Other own) words is = saying_is own (ok_is is)

error_way : (w now : Worker) (text words : List ℕ) (line : ℕ) (old new : Seen) (desk_old desk_new : DeskSeen) → w.held ≡ None → w.read_over ≡ false → HearsSource w text (verdict.ConfigError words) now → line ≡ now.ledger.lines → SaysLines (words ∷ []) desk_old desk_new
    → ReadsWay (status.ConfigError side.Source line) w now text old new desk_old desk_new
error_way w now text words line old new desk_old desk_new empty reading_on heard_is number says going added grew = record {
  acts = does (ReadLine text) ∷ [];
  lines = words ∷ [];
  added = added;
  said = says.said;
  grew = grew;
  desk = says.keeps;
  leads = λ call streams read here said reading stands. (
    read_place read here text,
    going_read w call streams read here said text going stands,
    read_ends (status.ConfigError side.Source line) new.face w now call streams read here said (words ∷ []) text stands going refl (ap (λ (it : Worker). it.number) heard_is.is)
        (errs streams read stands.attempt reading.0 stands.on)
        (heard_lines w now call streams read here said text (verdict.ConfigError words) heard_is.few reading.0 heard_is stands),
  );
}
  where
    errs : (streams : List ConfStream) (read : Reading) (own : Running) → ReadsText read text → IsOn w streams read own → ErrsSo side.Source line (ids_of streams) read (and_event (ReadLine text) own)
    errs streams read own right on =
        let by = judged_by w read text (verdict.ConfigError words) now.ledger right heard_is.hears in
        let told = told_is w read text (verdict.ConfigError words) now.ledger by in
        let next = own.events ++ ReadLine text ∷ [] in
        let completing = (on.reads_first reading_on).0 in
        let heard_ledger = reads_on (ids_of streams) own.start read own.events w.ledger text (verdict.ConfigError words) on.orderly.distinct on.start (idle_ledger w streams read own empty completing on) by.judged_is in
        record {
          last = record {
            front = reads own.events;
            text = text;
            last = reads_one own.events (ReadLine text);
            is = error_is w.ledger (told_of side.Source text (read text)) words told;
            no_error = on.none_ends.no_error;
            number = number ∙ (ap (λ (it : Noted). it.lines) by.ledger_is ∙ (heard_ledger.heard.number ∙ length-map (reads next) (told_read read)));
          };
          other = ap (list_any (is_error side.Dest read)) (same_gots own.events (ReadLine text) refl) ∙ on.none_ends.no_error_back;
          unbroken = heard_ledger.unbroken;
          come_back = each_one (ComesBack read) [] own.events (ReadLine text) on.none_ends.come_back tt;
        }

-- ---- a line that is refused

-- one line too many
too_many_way : (w now : Worker) (text : List ℕ) (old new : Seen) (desk_old desk_new : DeskSeen) → MOST_LINES ≤ w.ledger.lines → now ≡ w → SaysLines [] desk_old desk_new → ReadsWay status.TooManyLines w now text old new desk_old desk_new
too_many_way w now text old new desk_old desk_new many same says going added grew = record {
  acts = does (ReadLine text) ∷ [];
  lines = [];
  added = added;
  said = says.said;
  grew = grew;
  desk = says.keeps;
  leads = λ call streams read here said reading stands. (
    read_place read here text,
    going_read w call streams read here said text going stands,
    read_ends status.TooManyLines new.face w now call streams read here said [] text stands going refl (ap (λ (it : Worker). it.number) same)
        (inl (last_line streams read stands.attempt stands.on))
        (ap (λ list. list ++ lines_of read here.standing (ReadLine text)) stands.said_all ∙ ap (λ list. said ++ list) (ap (λ b. cond b [] (lines_told (told_of side.Source text (read text)))) (refused call streams read here said stands))),
  );
}
  where
    last_line : (streams : List ConfStream) (read : Reading) (own : Running) → IsOn w streams read own → TooManyRead (ids_of streams) read (and_event (ReadLine text) own)
    last_line streams read own on = record {
      front = reads own.events;
      text = text;
      last = reads_one own.events (ReadLine text);
      number = numbered streams read own on;
      unbroken = on.ledger.unbroken;
      no_error = on.none_ends.no_error;
      no_error_back = ap (list_any (is_error side.Dest read)) (same_gots own.events (ReadLine text) refl) ∙ on.none_ends.no_error_back;
      come_back = each_one (ComesBack read) [] own.events (ReadLine text) on.none_ends.come_back tt;
    }
      where
        numbered : (streams : List ConfStream) (read : Reading) (own : Running) → IsOn w streams read own → length (reads (own.events ++ ReadLine text ∷ [])) ≡ MOST_LINES + 1
        numbered streams read own on =
            let next : length (reads (own.events ++ ReadLine text ∷ [])) ≡ length (reads own.events) + 1 = ap length (reads_one own.events (ReadLine text)) ∙ length-append (reads own.events) (text ∷ []) in
            let number = few_lines (ids_of streams) w streams read own on in
            let few = on.few_lines in
            omega (arith, next, number, few, many)

    refused : (call : Call) (streams : List ConfStream) (read : Reading) (here : Place) (said : List (List ℕ)) → Stands w call streams read here said → is_refused here.standing text ≡ true
    refused call streams read here said stands = or_right (nat_lt LONGEST_LINE (length text)) (nat_lt MOST_LINES (length (reads_in here.standing.sync.attempt) + 1))
        (ap (λ it. nat_lt MOST_LINES (length (reads_in it) + 1)) stands.runs ∙ lt-ltb MOST_LINES (length (reads stands.attempt.events) + 1) (let number = few_lines (ids_of streams) w streams read stands.attempt stands.on in omega (arith, number, many)))

-- a line that is refused asks for nothing
err_not_ok : {A E : Type 0} {e : E} {a : A} → Ok a ≡ Err e → ⊥
err_not_ok h = cc

told_none : (noted : Noted) (own : Told) (why : Breach) → judged_told noted own ≡ Err why → lines_told own ≡ []
told_none noted (told.Record id) why is = refl
told_none noted (told.State state) why is = refl
told_none noted (told.Status id status) why is = refl
told_none noted (told.Other own) why is = absurd (err_not_ok is)

refused_lines : (noted : Noted) (here : Standing) (text : List ℕ) (own : Told) (why : Breach) → cond (nat_lt LONGEST_LINE (length text)) (Err breach.TooLong) (judged_told noted own) ≡ Err why → cond (is_refused here text) [] (lines_told own) ≡ []
refused_lines noted here text own why is = at (nat_lt LONGEST_LINE (length text)) is
  where
    by : (c : Bool) → lines_told own ≡ [] → cond c [] (lines_told own) ≡ []
    by true none = refl
    by false none = none

    at : (b : Bool) → cond b (Err breach.TooLong) (judged_told noted own) ≡ Err why → cond (b || nat_lt MOST_LINES (length (reads_in here.sync.attempt) + 1)) [] (lines_told own) ≡ []
    at true it = refl
    at false it = by (nat_lt MOST_LINES (length (reads_in here.sync.attempt) + 1)) (told_none noted own why it)

-- the line is a breach
judged_err : (w : Worker) (read : Reading) (text : List ℕ) (why : Breach) → ReadsText read text → Refuses w.ledger text why → judged w.ledger text (read text) ≡ Err why
judged_err w read text breach.TooLong right long = ap (λ b. cond b (Err breach.TooLong) (judged_told w.ledger (told_of side.Source text (read text)))) (lt-ltb LONGEST_LINE (length text) long)
judged_err w read text why right refuses = by_message refuses
  where
    by_message : RefusesMessage w.ledger text why → judged w.ledger text (read text) ≡ Err why
    by_message it = ap (judged w.ledger text) (sym (answer_only (IsMessage text) it.found (read text) it.reads right)) ∙ it.judges

breach_way : (w now : Worker) (text : List ℕ) (why : Breach) (line : ℕ) (old new : Seen) (desk_old desk_new : DeskSeen) → w.read_over ≡ false → Refuses w.ledger text why → line ≡ w.ledger.lines + 1 → now ≡ w → SaysLines [] desk_old desk_new
    → ReadsWay (status.SourceBreach why line) w now text old new desk_old desk_new
breach_way w now text why line old new desk_old desk_new reading_on refuses number same says going added grew = record {
  acts = does (ReadLine text) ∷ [];
  lines = [];
  added = added;
  said = says.said;
  grew = grew;
  desk = says.keeps;
  leads = λ call streams read here said reading stands. (
    read_place read here text,
    going_read w call streams read here said text going stands,
    read_ends (status.SourceBreach why line) new.face w now call streams read here said [] text stands going refl (ap (λ (it : Worker). it.number) same)
        (inl (refused streams read stands.attempt reading.0 stands.on))
        (ap (λ list. list ++ lines_of read here.standing (ReadLine text)) stands.said_all ∙ ap (λ list. said ++ list) (refused_lines w.ledger here.standing text (told_of side.Source text (read text)) why (judged_err w read text why reading.0 refuses))),
  );
}
  where
    refused : (streams : List ConfStream) (read : Reading) (own : Running) → ReadsText read text → IsOn w streams read own → RefusesLast (ids_of streams) read (and_event (ReadLine text) own) why line
    refused streams read own right on = record {
      front = reads own.events;
      text = text;
      last = reads_one own.events (ReadLine text);
      unbroken = on.ledger.unbroken;
      breaks = sym (judges (ids_of streams) own.start read own.events (source_held w) w.ledger text on.start on.ledger) ∙ ap breach_in (judged_err w read text why right refuses);
      no_error = on.none_ends.no_error;
      no_error_back = ap (list_any (is_error side.Dest read)) (same_gots own.events (ReadLine text) refl) ∙ on.none_ends.no_error_back;
      come_back = each_one (ComesBack read) [] own.events (ReadLine text) on.none_ends.come_back tt;
      number = number ∙ (ap (λ n. n + 1) (sym (few_lines (ids_of streams) w streams read own on)) ∙ (sym (length-append (reads own.events) (text ∷ [])) ∙ ap length (sym (reads_one own.events (ReadLine text)))));
    }

-- ---- all of them

pub line_ends_way : (end : Status) (w now : Worker) (text : List ℕ) (old new : Seen) (desk_old desk_new : DeskSeen) → IsReadable w → own_events new ≡ told_more (ReadLine text ∷ []) (own_events old) → Grew old new → LineEnds end w text now desk_old desk_new
    → Ran (Stands w) (Ends end new.face now) old new desk_old desk_new
line_ends_way (status.SourceBreach why line) w now text old new desk_old desk_new readable added grew is = breach_way w now text why line old new desk_old desk_new readable.going is.0 is.1 is.2 is.3 readable.going added grew
line_ends_way status.TooManyLines w now text old new desk_old desk_new readable added grew is = too_many_way w now text old new desk_old desk_new is.0 is.1 is.2 readable.going added grew
line_ends_way (status.ConfigError side.Source line) w now text old new desk_old desk_new readable added grew (words, heard_is, number, says) = error_way w now text words line old new desk_old desk_new readable.empty readable.going heard_is number says readable.going added grew
line_ends_way status.SayFault w now text old new desk_old desk_new readable added grew is = half_said_way w now text old new desk_old desk_new is readable.going added grew
line_ends_way status.NoMemory w now text old new desk_old desk_new readable added grew is = no_memory_way w now text old new desk_old desk_new is.0 is.1 readable.going added grew
line_ends_way end w now text old new desk_old desk_new readable added grew is = absurd is

-- ---- polls that bring no line

-- a line was too long
pub too_long_way : (line : ℕ) (w : Worker) (old new : Seen) (desk : DeskSeen) → HasCode w new.face → line ≡ min (w.ledger.lines + 1) (2 ^ 64 - 1) → own_events new ≡ own_events old → Grew old new → new.face.source_poll ≡ kind.TooLong
    → Ran (Stands w) (Ends (status.SourceBreach breach.TooLong line) new.face w) old new desk desk
too_long_way line w old new desk code number same grew long = ends_way (status.SourceBreach breach.TooLong line) w old new desk code same grew
    (λ streams read own on. inr (refl, (long, at streams read own on), clean w streams read own on))
  where
    at : (streams : List ConfStream) (read : Reading) (own : Running) → IsOn w streams read own → line ≡ length (reads own.events) + 1
    at streams read own on =
        let lines = few_lines (ids_of streams) w streams read own on in
        let few = on.few_lines in
        omega (arith, number, lines, few)

-- An attempt does not go through while its input is open or the destination's output goes on.
abbrev pub Unfinished : Worker → Type 0
Unfinished w = (streams : List ConfStream) (read : Reading) (own : Running) → IsOn w streams read own → IsThrough (ids_of streams) read own.events → ⊥

pub unfinished_open : (w : Worker) → w.closed ≡ false → Unfinished w
unfinished_open w opened streams read own on through = false≢true (sym (on.closed ∙ opened) ∙ (ap (list_any is_closed) through.closes ∙ any_back is_closed through.front (Closed ∷ through.back) refl))

pub unfinished_going : (w : Worker) → w.got_over ≡ false → Unfinished w
unfinished_going w going streams read own on through = false≢true (sym (on.got_so ∙ going) ∙ (ap got_over through.closes
    ∙ (fold-append got_over_after false through.front (Closed ∷ through.back) ∙ got_more false (got_over through.front) through.back (λ some. absurd (false≢true some)) through.got_all)))

pub failed_way : (w : Worker) (old new : Seen) (desk : DeskSeen) → Unfinished w → HasCode w new.face → own_events new ≡ own_events old → Grew old new → Ran (Stands w) (Ends status.LinkFault new.face w) old new desk desk
failed_way w old new desk unfinished code same grew = ends_way status.LinkFault w old new desk code same grew (λ streams read own on. (clean w streams read own on, λ through. absurd (unfinished streams read own on through)))

pub lacked_way : (w : Worker) (old new : Seen) (desk : DeskSeen) → HasCode w new.face → own_events new ≡ own_events old → Grew old new → Ran (Stands w) (Ends status.NoMemory new.face w) old new desk desk
lacked_way w old new desk code same grew = ends_way status.NoMemory w old new desk code same grew (λ streams read own on. tt)

-- ---- causes

pub line_cause : (end : Status) (w now : Worker) (text : List ℕ) (old new : Seen) (desk_old desk_new : DeskSeen) → LineEnds end w text now desk_old desk_new → TurnCause end old new desk_old desk_new
line_cause status.SayFault w now text old new desk_old desk_new is = is.said.rose
line_cause (status.SourceBreach why line) w now text old new desk_old desk_new is = tt
line_cause (status.ConfigError side.Source line) w now text old new desk_old desk_new is = tt
line_cause status.TooManyLines w now text old new desk_old desk_new is = tt
line_cause status.NoMemory w now text old new desk_old desk_new is = tt
line_cause end w now text old new desk_old desk_new is = absurd is
