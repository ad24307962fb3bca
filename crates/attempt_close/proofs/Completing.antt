-- Completions are made and given.
use Rattle.std.proofs.Common.{arith, ◌≡◌, ◌⊎◌, inl, inr, ℕ, zero, suc, ◌+◌, ◌<◌, ◌≤◌, List, [], ◌∷◌, ◌++◌, Bool, true, false, cond, Option, None, Some, IfSome, IsTrue, refl, sym, ◌∙◌, ap, subst, append-nil, append_assoc, filter, drop, length, map}
use Rattle.std.specs.Prelude.{IfOk, Result, Ok, Err, slice_get, option_map, option_to_list, is_none}
use Rattle.std.specs.Fmt.{decimal, digits}
use Rattle.std.proofs.lemmas.Option.{slice_get-map}
use Rattle.std.specs.List.{AllByRecursion, list_any}
use Rattle.std.proofs.lemmas.Bool.{false≢true}
use Rattle.json_fields.specs.Answer.{IsAnswer}
use Rattle.json_fields.specs.Parts.{IsNumber}
use Rattle.json_write.proofs.Numerals.{decimal_literal}
use Rattle.basics.specs.Told.{told_more}
use Rattle.basics.specs.declared.stream.StreamId.{StreamId}
use Rattle.outside.specs.Desk.{DeskSeen}
use Rattle.outside.specs.Event.{read_over, got_over}
use Rattle.outside.specs.Link.{Seen, Grew, own_events}
use Rattle.outside.specs.declared.event.Event.TheVariants.{Given}
use Rattle.outside.specs.declared.event.Exit.TheVariants.{Code}
use Rattle.outside.specs.declared.faults.Side.TheVariants as side
use Rattle.outside.specs.declared.link.LinkFace.{LinkFace}
use Rattle.outside.specs.declared.status.Status.TheVariants as status
use Rattle.airbyte_message.specs.Messages.{IsMessage}
use Rattle.airbyte_message.specs.declared.message.Message.{Message}
use Rattle.airbyte_message.specs.declared.message.Message.TheVariants as message
use Rattle.airbyte_message.specs.declared.message.TraceMsg.TheVariants as trace
use Rattle.airbyte_message.specs.declared.stream_status.StreamStatus.TheVariants.{Complete}
use Rattle.message_writer.specs.Forms.{HasNames}
use Rattle.message_writer.specs.Written.{written}
use Rattle.catalog.specs.Reading.{ids_of}
use Rattle.catalog.specs.declared.stream.ConfStream.{ConfStream}
use Rattle.load_rules.specs.Lines.{Reading, ReadsText, lines_read, passes, state_in}
use Rattle.load_rules.specs.Finished.{last_status}
use Rattle.load_rules.specs.Attempts.{gives, passed, reads}
use Rattle.load_rules.specs.Engine.{is_closed, is_ended}
use Rattle.sync_rules.specs.Steps.{GivesNext, InAttempt}
use Rattle.sync_rules.specs.Sync.{Running, and_event, completion, texts, to_give, untold, with_event}
use Rattle.sync_ledger.specs.declared.notes.TheConstants.{MOST_LINES}
use Rattle.ledger_rules.specs.Ledgers.{IsLedgerOf}
use Rattle.ledger_rules.proofs.Stands.{completes}
use Rattle.attempt_turns.specs.Acts.{does, place_after}
use Rattle.attempt_turns.specs.History.{Ran}
use Rattle.attempt_turns.specs.Silence.{Steps}
use Rattle.attempt_turns.specs.Ends.{Ends}
use Rattle.attempt_turns.specs.Worker.{ComesBack, HasCode, IsOn, Live, Stands, is_error, left_to_give, source_held}
use Rattle.attempt_turns.specs.declared.worker.Moved.TheVariants as moved
use Rattle.attempt_turns.specs.declared.worker.Worker.{Worker}
use Rattle.attempt_turns.proofs.Lists.{any_one, each_one, gives_one, got_over_one, read_over_one, reading_one, same_gots, same_reads}
use Rattle.attempt_turns.proofs.EndLemmas.{desk_same, lacked_way, none_said}
use Rattle.attempt_turns.proofs.Ways.{grew_none}
use Rattle.attempt_turns.proofs.LiveLemmas.{told_got, told_read}
use Rattle.attempt_turns.proofs.Placed.{placed_other}
use Rattle.attempt_turns.proofs.TakenLemmas.{completion_none}
use Rattle.attempt_turns.specs.Placed.{ArePlaced}
use Rattle.attempt_close.specs.Completions.{CompletesNext, FirstUntold, HoldsNext, IsNextUntold, LeavesNone}
use Rattle.attempt_close.specs.Turns.{HoldsCompletion}
use Rattle.attempt_close.proofs.Places.{at_place, drop_end, within_some}
use Rattle.attempt_close.proofs.Statuses.{untold_first, untold_none}
use Rattle.attempt_close.proofs.Ways.{SameCall, on_way}

-- ---- the next completion is held

abbrev held_worker : Worker → StreamId → ℕ → Worker
held_worker w id number = record w { held = Some (completion id); is_completing = true; completed = number + 1 }

abbrev told_worker : Worker → Worker
told_worker w = record w { completed = length w.ledger.ids }

none_held : (b : Bool) (held : Option (List ℕ)) → held ≡ None → cond b None held ≡ None
none_held true held none = refl
none_held false held none = none

left_over : (w : Worker) (ids : List StreamId) (read : Reading) (own : Running) → w.read_over ≡ true → left_to_give w ids read own.events ≡ map completion (filter (λ id. is_none (last_status id (lines_read read (reads own.events)))) (drop w.completed ids))
left_over w ids read own over = ap (λ b. cond b (map completion (filter (λ id. is_none (last_status id (lines_read read (reads own.events)))) (drop w.completed ids))) []) over

on_held : (w : Worker) (ids : List StreamId) (number : ℕ) (id : StreamId) → w.ledger.ids ≡ ids → w.held ≡ None → w.read_over ≡ true → FirstUntold w.ledger w.completed number → slice_get ids number ≡ Some id
    → (streams : List ConfStream) (read : Reading) (own : Running) → IsOn w streams read own → IsOn (held_worker w id number) streams read own
on_held w ids number id same empty over first at streams read own on =
    let all = ids_of streams in
    let found : slice_get all number ≡ Some id = subst (λ list. slice_get list number ≡ Some id) (sym same ∙ on.ledger.ids_are) at in
    let events = own.events in
    let rest = map completion (filter (λ own_id. is_none (last_status own_id (lines_read read (reads events)))) (drop (number + 1) all)) in
    let ledger_none : IsLedgerOf all own.start read events None w.ledger = subst (λ line. IsLedgerOf all own.start read events line w.ledger) (none_held w.is_completing w.held empty) on.ledger in
    let left : left_to_give w all read events ≡ completion id ∷ rest = left_over w all read own over ∙ ap (map completion) (untold_first all own.start read events None w.ledger w.completed number id ledger_none first found) in
    record {
      orderly = on.orderly;
      reading = on.reading;
      start = on.start;
      kept = on.kept;
      set_fits = record { has_streams = on.set_fits.has_streams; of_streams = on.set_fits.of_streams; of_all = on.set_fits.of_all };
      none_ends = on.none_ends;
      going = on.going;
      closed = on.closed;
      closed_behind = on.closed_behind;
      read_so = on.read_so;
      got_so = on.got_so;
      few_lines = on.few_lines;
      got_lines = on.got_lines;
      ledger = ledger_none;
      placed = record { lanes = on.placed.lanes; held = tt };
      gives_next = on.gives_next
          ∙ (ap (λ list. (gives events ++ option_to_list w.held) ++ list) left
          ∙ (ap (λ held. (gives events ++ option_to_list held) ++ (completion id ∷ rest)) empty
          ∙ (ap (λ list. list ++ (completion id ∷ rest)) (append-nil (gives events))
          ∙ (sym (append_assoc (gives events) (completion id ∷ []) rest)
          ∙ ap (λ list. (gives events ++ completion id ∷ []) ++ list) (sym (left_over (held_worker w id number) all read own over))))));
      reads_first = λ so. absurd (false≢true (sym so ∙ over));
      own_lines = λ none. absurd (false≢true (sym none));
    }

pub holds_next : (w : Worker) (ids : List StreamId) (number : ℕ) (line : List ℕ) → w.ledger.ids ≡ ids → FirstUntold w.ledger w.completed number → ((id : StreamId) → slice_get ids number ≡ Some id → line ≡ completion id)
    → HoldsNext ids w (record w { held = Some line; is_completing = true; completed = number + 1 })
holds_next w ids number line same first line_is =
    let found = within_some ids number (subst (λ list. number < length list) same first.within) in
    record { number = number; first = first; id = found.0; at = found.1; is = ap (λ (it : List ℕ). let now : Worker = record w { held = Some it; is_completing = true; completed = number + 1 } in now) (line_is found.0 found.1) }

pub line_of : (configured : List ConfStream) (number : ℕ) (stream : ConfStream) (id : StreamId) (emitted line : List ℕ) → slice_get configured number ≡ Some stream → id ≡ stream.id → emitted ≡ decimal 0 → line ≡ written (message.Trace (trace.Status id Complete (Some emitted)))
    → (own : StreamId) → slice_get (ids_of configured) number ≡ Some own → line ≡ completion own
line_of configured number stream id emitted line at copied zero_is is own found =
    is ∙ (ap (λ it. written (message.Trace (trace.Status id Complete (Some it)))) zero_is
    ∙ ap (λ it. written (message.Trace (trace.Status it Complete (Some (decimal 0))))) (copied ∙ some_id (sym (slice_get-map (λ (it : ConfStream). it.id) configured number ∙ ap (option_map (λ (it : ConfStream). it.id)) at) ∙ found)))
  where
    some_id : Some stream.id ≡ Some own → stream.id ≡ own
    some_id e = cc

pub line_if : {E : Type 0} (configured : List ConfStream) (number : ℕ) (stream : ConfStream) (id : StreamId) (emitted : List ℕ) (made : Result (List ℕ) E) → slice_get configured number ≡ Some stream → id ≡ stream.id → emitted ≡ decimal 0 → IfOk made (λ line. line ≡ written (message.Trace (trace.Status id Complete (Some emitted))))
    → IfOk made (λ line. (own : StreamId) → slice_get (ids_of configured) number ≡ Some own → line ≡ completion own)
line_if configured number stream id emitted (Ok line) at copied zero_is is = line_of configured number stream id emitted line at copied zero_is is
line_if configured number stream id emitted (Err fault) at copied zero_is is = tt

pub zero_text : 48 ∷ [] ≡ decimal 0
unfolding digits
zero_text = refl

pub holds_way : (w now : Worker) (ids : List StreamId) (seen : Seen) (desk : DeskSeen) → w.ledger.ids ≡ ids → w.held ≡ None → w.read_over ≡ true → HoldsNext ids w now → Grew seen seen → Ran (Stands w) (Stands now) seen seen desk desk
holds_way w now ids seen desk same empty over holds grew = subst (λ it. Ran (Stands w) (Stands it) seen seen desk desk) (sym holds.is)
    (on_way w (held_worker w holds.id holds.number) seen seen desk (record { number = refl; set = refl }) refl grew (λ streams read own on. on_held w ids holds.number holds.id same empty over holds.first holds.at streams read own on))

-- ---- none is left

no_ids : (ids : List StreamId) → length ids ≡ 0 → ids ≡ []
no_ids [] none = refl
no_ids (id ∷ ids) none = absurd (omega (arith, none))

on_told : (w : Worker) → w.read_over ≡ true → IsNextUntold w.ledger w.completed None → (streams : List ConfStream) (read : Reading) (own : Running) → IsOn w streams read own → IsOn (told_worker w) streams read own
on_told w over told streams read own on =
    let all = ids_of streams in
    let events = own.events in
    let old : left_to_give w all read events ≡ [] = left_over w all read own over ∙ ap (map completion) (untold_none all own.start read events (source_held w) w.ledger w.completed on.ledger told) in
    let new : left_to_give (told_worker w) all read events ≡ [] = left_over (told_worker w) all read own over ∙ ap (λ list. map completion (filter (λ id. is_none (last_status id (lines_read read (reads events)))) list)) (drop_end all (length w.ledger.ids) (subst (λ list. length all ≤ length list) (sym on.ledger.ids_are) (omega arith))) in
    record {
      orderly = on.orderly;
      reading = on.reading;
      start = on.start;
      kept = on.kept;
      set_fits = record { has_streams = on.set_fits.has_streams; of_streams = on.set_fits.of_streams; of_all = on.set_fits.of_all };
      none_ends = on.none_ends;
      going = on.going;
      closed = on.closed;
      closed_behind = on.closed_behind;
      read_so = on.read_so;
      got_so = on.got_so;
      few_lines = on.few_lines;
      got_lines = on.got_lines;
      ledger = on.ledger;
      placed = on.placed;
      gives_next = on.gives_next ∙ ap (λ list. (gives events ++ option_to_list w.held) ++ list) (old ∙ sym new);
      reads_first = λ so. absurd (false≢true (sym so ∙ over));
      own_lines = λ none zero. no_more on.gives_next old (no_ids all (ap length (sym on.ledger.ids_are) ∙ zero));
    }
  where
    empty_both : (b : Bool) → cond b (map completion []) [] ≡ []
    empty_both true = refl
    empty_both false = refl

    no_more : to_give (ids_of streams) read own.events ≡ (gives own.events ++ option_to_list w.held) ++ left_to_give w (ids_of streams) read own.events → left_to_give w (ids_of streams) read own.events ≡ [] → ids_of streams ≡ []
        → texts (passed (ids_of streams) read own.events) ≡ gives own.events ++ option_to_list w.held
    no_more next left none =
        sym (ap (λ list. texts (passed (ids_of streams) read own.events) ++ cond (read_over own.events) (map completion (filter (λ id. is_none (last_status id (lines_read read (reads own.events)))) list)) []) none
        ∙ (ap (λ list. texts (passed (ids_of streams) read own.events) ++ list) (empty_both (read_over own.events)) ∙ append-nil (texts (passed (ids_of streams) read own.events))))
        ∙ (next ∙ (ap (λ list. (gives own.events ++ option_to_list w.held) ++ list) left ∙ append-nil (gives own.events ++ option_to_list w.held)))

pub leaves_way : (w now : Worker) (seen : Seen) (desk : DeskSeen) → w.read_over ≡ true → LeavesNone w now → Grew seen seen → Ran (Stands w) (Stands now) seen seen desk desk
leaves_way w now seen desk over leaves grew = subst (λ it. Ran (Stands w) (Stands it) seen seen desk desk) (sym leaves.is)
    (on_way w (told_worker w) seen seen desk (record { number = refl; set = refl }) refl grew (λ streams read own on. on_told w over leaves.told_all streams read own on))

-- ---- a completion is given

abbrev pub completed_worker : Worker → Worker
completed_worker w = record w { held = None; is_completing = false }

on_completed : (w : Worker) (ids : List StreamId) (completing : HoldsCompletion ids w) → w.ledger.ids ≡ ids → w.is_completing ≡ true → w.closed ≡ false
    → (streams : List ConfStream) (read : Reading) (own : Running) → ReadsText read (completion completing.id) → IsOn w streams read own → IsOn (completed_worker w) streams read (and_event (Given (completion completing.id)) own)
on_completed w ids completing same own_line opened streams read own right on =
    let all = ids_of streams in
    let text = completion completing.id in
    let events = own.events in
    let next = events ++ Given text ∷ [] in
    let found : slice_get all completing.number ≡ Some completing.id = subst (λ list. slice_get list completing.number ≡ Some completing.id) (sym same ∙ on.ledger.ids_are) completing.at in
    let stateless = completion_none read completing.id (at_place HasNames all completing.number completing.id on.orderly.names found) right in
    let read_same : reads next ≡ reads events = same_reads events (Given text) refl in
    record {
      orderly = on.orderly;
      reading = reading_one read events (Given text) on.reading right;
      ledger = completes all own.start read events w.ledger text stateless (subst (λ b. IsLedgerOf all own.start read events (cond b None w.held) w.ledger) own_line on.ledger);
      placed = placed_other all read events w.ledger text stateless (subst (λ b. ArePlaced all read events (cond b None w.held) w.ledger) own_line on.placed);
      start = on.start;
      kept = on.kept;
      set_fits = record { has_streams = on.set_fits.has_streams; of_streams = on.set_fits.of_streams; of_all = on.set_fits.of_all };
      none_ends = record {
        no_error = ap (list_any (is_error side.Source read)) read_same ∙ on.none_ends.no_error;
        no_error_back = ap (list_any (is_error side.Dest read)) (same_gots events (Given text) refl) ∙ on.none_ends.no_error_back;
        come_back = each_one (ComesBack read) [] events (Given text) on.none_ends.come_back tt;
      };
      going = any_one is_ended events (Given text) refl ∙ on.going;
      closed = any_one is_closed events (Given text) refl ∙ on.closed;
      closed_behind = λ closed. absurd (false≢true (sym opened ∙ closed));
      read_so = read_over_one events (Given text) ∙ on.read_so;
      got_so = got_over_one events (Given text) ∙ on.got_so;
      few_lines = subst (λ list. length list ≤ MOST_LINES) (sym read_same) on.few_lines;
      got_lines = on.got_lines ∙ ap length (sym (same_gots events (Given text) refl));
      gives_next = given_next;
      reads_first = λ so. (refl, (on.reads_first so).1);
      own_lines = λ none zero. absurd (no_zero completing.number (sym zero ∙ completing.made));
    }
  where
    no_zero : (n : ℕ) → 0 ≡ n + 1 → ⊥
    no_zero n is = omega (arith, is)

    given_next : to_give (ids_of streams) read (own.events ++ Given (completion completing.id) ∷ []) ≡ (gives (own.events ++ Given (completion completing.id) ∷ []) ++ []) ++ left_to_give (completed_worker w) (ids_of streams) read (own.events ++ Given (completion completing.id) ∷ [])
    given_next =
        let text = completion completing.id in
        let all = ids_of streams in
        let events = own.events in
        let next = events ++ Given text ∷ [] in
        let same_lines : reads next ≡ reads events = same_reads events (Given text) refl in
        ap (λ list. texts (filter (λ line. passes all line.found) (lines_read read list)) ++ cond (read_over next) (map completion (filter (λ id. is_none (last_status id (lines_read read list))) all)) []) same_lines
        ∙ (ap (λ b. texts (passed all read events) ++ cond b (map completion (untold all read events)) []) (read_over_one events (Given text))
        ∙ (on.gives_next
        ∙ (ap (λ list. list ++ left_to_give w all read events) (ap (λ it. gives events ++ option_to_list it) completing.is ∙ (sym (gives_one events (Given text)) ∙ sym (append-nil (gives next))))
        ∙ ap (λ list. (gives next ++ []) ++ cond w.read_over (map completion (filter (λ id. is_none (last_status id (lines_read read list))) (drop w.completed all))) []) (sym same_lines))))

may_complete : (w : Worker) (streams : List ConfStream) (read : Reading) (text : List ℕ) (own : Option Running) (attempt : Running) → own ≡ Some attempt → w.held ≡ Some text → w.closed ≡ false → IsOn w streams read attempt → InAttempt own (GivesNext (ids_of streams) read text)
may_complete w streams read text own attempt runs held opened on = subst (λ it. InAttempt it (GivesNext (ids_of streams) read text)) (sym runs) (
  on.going,
  record {
    input_open = on.closed ∙ opened;
    unbroken = on.ledger.unbroken;
    next = (left_to_give w (ids_of streams) read attempt.events, on.gives_next ∙ ap (λ it. (gives attempt.events ++ option_to_list it) ++ left_to_give w (ids_of streams) read attempt.events) held);
  },
)

pub completes_step : (w : Worker) (ids : List StreamId) (old new : Seen) (desk : DeskSeen) (completing : HoldsCompletion ids w) → w.ledger.ids ≡ ids → w.is_completing ≡ true → w.closed ≡ false
    → own_events new ≡ told_more (Given (completion completing.id) ∷ []) (own_events old) → Grew old new → Steps moved.Yes (Stands w) (Stands (completed_worker w)) old new desk desk
completes_step w ids old new desk completing same own_line opened added grew =
    let text = completion completing.id in
    record {
      ran = record {
        acts = does (Given text) ∷ [];
        lines = [];
        added = added;
        said = none_said desk;
        grew = grew;
        desk = desk_same desk;
        leads = λ call streams read here said reading stands. (
          place_after read here (Given text) (with_event (Given text) here.standing.sync),
          (
            with_event (Given text) here.standing.sync,
            (may_complete w streams read text here.standing.sync.attempt stands.attempt stands.runs completing.is opened stands.on, refl),
            subst (λ (n : ℕ). 0 < n) (sym stands.is_last.number) stands.is_last.positive,
            record { works = stands.is_last.works; order = stands.is_last.number ∙ sym stands.is_last.ended },
            refl,
          ),
          record {
            is_last = record { begun = stands.is_last.begun; number = stands.is_last.number; positive = stands.is_last.positive; ended = stands.is_last.ended; works = stands.is_last.works };
            attempt = and_event (Given text) stands.attempt;
            runs = ap (option_map (and_event (Given text))) stands.runs;
            on = on_completed w ids completing same own_line opened streams read stands.attempt reading.0 stands.on;
            set = stands.set;
            none_owed = stands.none_owed;
            said_all = ap (λ list. list ++ []) stands.said_all;
          },
        );
      };
      are = inl refl;
    }

pub completes_taken : (w : Worker) (ids : List StreamId) (old new : Seen) (desk : DeskSeen) (line text : List ℕ) (completing : HoldsCompletion ids w) → w.ledger.ids ≡ ids → w.is_completing ≡ true → w.closed ≡ false → line ≡ text → w.held ≡ Some text
    → own_events new ≡ told_more (Given line ∷ []) (own_events old) → Grew old new → Steps moved.Yes (Stands w) (Stands (completed_worker w)) old new desk desk
completes_taken w ids old new desk line text completing same own_line opened is held added grew =
    completes_step w ids old new desk completing same own_line opened (added ∙ ap (λ it. told_more (Given it ∷ []) (own_events old)) (is ∙ some_is (sym held ∙ completing.is))) grew
  where
    some_is : Some text ≡ Some (completion completing.id) → text ≡ completion completing.id
    some_is e = cc

-- ---- the link

pub live_completed : (w : Worker) (text : List ℕ) (old new : Seen) → w.closed ≡ false → Live w old → new.face ≡ old.face → own_events new ≡ told_more (Given text ∷ []) (own_events old) → Live (completed_worker w) new
live_completed w text old new opened live face added = record {
  running = subst (λ (it : LinkFace). IsTrue it.running) (sym face) live.running;
  input_open = λ open_so. subst (λ (it : LinkFace). IsTrue it.input_open) (sym face) (live.input_open open_so);
  read_told = subst (λ told. IfSome told (λ events. read_over events ≡ w.read_over)) (sym added) (told_read (own_events old) (Given text) w.read_over (λ b. refl) live.read_told);
  got_told = subst (λ told. IfSome told (λ events. got_over events ≡ w.got_over)) (sym added) (told_got (own_events old) (Given text) w.got_over (λ b. refl) live.got_told);
  source_short = λ long. live.source_short (sym (ap (λ (it : LinkFace). it.source_poll) face) ∙ long);
  dest_short = λ long. live.dest_short (sym (ap (λ (it : LinkFace). it.dest_poll) face) ∙ long);
  few_got = live.few_got;
  few_over = live.few_over;
  completed = λ some. ap (λ (it : LinkFace). it.codes.source) face ∙ live.completed (made some);
  all_completed = λ closed code. absurd (false≢true (sym opened ∙ closed));
}
  where
    made : (false ≡ true) ⊎ (0 < w.completed) → (w.is_completing ≡ true) ⊎ (0 < w.completed)
    made (inl is) = absurd (false≢true is)
    made (inr some) = inr some

pub live_held : (w now : Worker) (ids : List StreamId) (seen : Seen) → w.closed ≡ false → seen.face.codes.source ≡ Some (Code 0) → HoldsNext ids w now → Live w seen → Live now seen
live_held w now ids seen opened code holds live = subst (λ it. Live it seen) (sym holds.is) (record {
  running = live.running;
  input_open = live.input_open;
  read_told = live.read_told;
  got_told = live.got_told;
  source_short = live.source_short;
  dest_short = live.dest_short;
  few_got = live.few_got;
  few_over = live.few_over;
  completed = λ some. code;
  all_completed = λ closed known. absurd (false≢true (sym opened ∙ closed));
})

pub live_told : (w now : Worker) (seen : Seen) → w.closed ≡ false → seen.face.codes.source ≡ Some (Code 0) → LeavesNone w now → Live w seen → Live now seen
live_told w now seen opened code leaves live = subst (λ it. Live it seen) (sym leaves.is) (record {
  running = live.running;
  input_open = live.input_open;
  read_told = live.read_told;
  got_told = live.got_told;
  source_short = live.source_short;
  dest_short = live.dest_short;
  few_got = live.few_got;
  few_over = live.few_over;
  completed = λ some. code;
  all_completed = λ closed known. absurd (false≢true (sym opened ∙ closed));
})

-- ---- for the function

pub holds_by : (b : Bool) (w now : Worker) (ids : List StreamId) (seen : Seen) (desk : DeskSeen) → b ≡ true → w.ledger.ids ≡ ids → w.held ≡ None → w.read_over ≡ true → CompletesNext ids b w now → Grew seen seen → Ran (Stands w) (Stands now) seen seen desk desk
holds_by b w now ids seen desk is same empty over next grew = holds_way w now ids seen desk same empty over (subst (λ it. CompletesNext ids it w now) is next) grew

pub leaves_by : (b : Bool) (w now : Worker) (ids : List StreamId) (seen : Seen) (desk : DeskSeen) → b ≡ false → w.read_over ≡ true → CompletesNext ids b w now → Grew seen seen → Ran (Stands w) (Stands now) seen seen desk desk
leaves_by b w now ids seen desk is over next grew = leaves_way w now seen desk over (subst (λ it. CompletesNext ids it w now) is next) grew

pub lacks_by : (w now : Worker) (seen : Seen) (desk : DeskSeen) → now ≡ w → HasCode w seen.face → Ran (Stands w) (Ends status.NoMemory seen.face now) seen seen desk desk
lacks_by w now seen desk same code = subst (λ (it : Worker). Ran (Stands w) (Ends status.NoMemory seen.face it) seen seen desk desk) (sym same) (lacked_way w seen seen desk code refl (grew_none seen))
