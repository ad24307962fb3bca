-- A line of the source is given.
use Rattle.std.proofs.Common.{◌≡◌, inl, ℕ, ◌<◌, ◌≤◌, List, [], ◌∷◌, ◌++◌, false, cond, Option, None, Some, refl, sym, ◌∙◌, ap, subst, append-nil, length}
use Rattle.std.specs.Prelude.{filter, map, option_map, option_to_list, is_none, drop}
use Rattle.std.specs.List.{list_any}
use Rattle.std.proofs.lemmas.Bool.{false≢true}
use Rattle.basics.specs.declared.stream.StreamId.{StreamId}
use Rattle.basics.specs.Told.{told_more}
use Rattle.outside.specs.Desk.{DeskSeen}
use Rattle.outside.specs.Event.{read_over}
use Rattle.outside.specs.Link.{Seen, Grew, own_events}
use Rattle.outside.specs.declared.event.Event.TheVariants.{Given}
use Rattle.outside.specs.declared.faults.Side.TheVariants as side
use Rattle.catalog.specs.Reading.{ids_of}
use Rattle.catalog.specs.declared.stream.ConfStream.{ConfStream}
use Rattle.load_rules.specs.Lines.{Reading, ReadsText, lines_read, passes}
use Rattle.load_rules.specs.Finished.{last_status}
use Rattle.load_rules.specs.Attempts.{gives, passed, reads}
use Rattle.load_rules.specs.Engine.{is_closed, is_ended}
use Rattle.sync_rules.specs.Sync.{Running, and_event, completion, texts, to_give, untold, with_event}
use Rattle.sync_rules.specs.Steps.{GivesNext, InAttempt}
use Rattle.sync_ledger.specs.Noted.{gave}
use Rattle.sync_ledger.specs.declared.notes.TheConstants.{MOST_LINES}
use Rattle.ledger_rules.specs.Ledgers.{IsLedgerOf}
use Rattle.ledger_rules.proofs.Stands.{gives as ledger_gives}
use Rattle.outside.specs.declared.link.LinkFace.{LinkFace}
use Rattle.outside.specs.declared.status.Status.TheVariants as status
use Rattle.attempt_turns.specs.Acts.{does, place_after}
use Rattle.attempt_turns.specs.Ends.{Ends}
use Rattle.attempt_turns.specs.History.{Ran}
use Rattle.attempt_turns.specs.Silence.{Steps}
use Rattle.attempt_turns.specs.declared.worker.Moved.TheVariants as moved
use Rattle.attempt_turns.specs.Placed.{ArePlaced}
use Rattle.attempt_turns.proofs.LiveLemmas.{given_worker}
use Rattle.attempt_turns.specs.Worker.{ComesBack, IsOn, Live, Stands, is_error, left_to_give}
use Rattle.attempt_turns.specs.declared.worker.Worker.{Worker}
use Rattle.attempt_turns.proofs.Placed.{placed_given}
use Rattle.attempt_turns.proofs.Lists.{any_one, each_one, gives_one, got_over_one, read_over_one, reading_one, same_gots, same_reads}
use Rattle.attempt_turns.proofs.ReadLemmas.{not_completing}
use Rattle.attempt_turns.proofs.EndLemmas.{coded, desk_same, failed_way, lacked_way, none_said, unfinished_open}

-- what is to be given is the same, and the line is no more held
give_next : (ids : List StreamId) (read : Reading) (w : Worker) (own : Running) (text : List ℕ) → w.held ≡ Some text → to_give ids read own.events ≡ (gives own.events ++ option_to_list w.held) ++ left_to_give w ids read own.events
    → to_give ids read (own.events ++ Given text ∷ []) ≡ (gives (own.events ++ Given text ∷ []) ++ []) ++ left_to_give (given_worker w) ids read (own.events ++ Given text ∷ [])
give_next ids read w own text held before =
    let events = own.events in
    let next = events ++ Given text ∷ [] in
    let same : reads next ≡ reads events = same_reads events (Given text) refl in
    let over : read_over next ≡ read_over events = read_over_one events (Given text) in
    ap (λ list. texts (filter (λ line. passes ids line.found) (lines_read read list)) ++ cond (read_over next) (map completion (filter (λ id. is_none (last_status id (lines_read read list))) ids)) []) same
    ∙ (ap (λ b. texts (passed ids read events) ++ cond b (map completion (untold ids read events)) []) over
    ∙ (before
    ∙ (ap (λ list. list ++ left_to_give w ids read events) (ap (λ it. gives events ++ option_to_list it) held ∙ (sym (gives_one events (Given text)) ∙ sym (append-nil (gives next))))
    ∙ ap (λ list. (gives next ++ []) ++ cond w.read_over (map completion (filter (λ id. is_none (last_status id (lines_read read list))) (drop w.completed ids))) []) (sym same))))

gives_on : (w : Worker) (streams : List ConfStream) (read : Reading) (own : Running) (text : List ℕ) → ReadsText read text → w.held ≡ Some text → w.is_completing ≡ false → w.closed ≡ false → IsOn w streams read own → IsOn (given_worker w) streams read (and_event (Given text) own)
gives_on w streams read own text right held own_line opened on =
    let ids = ids_of streams in
    let events = own.events in
    let held_is = not_completing w w.held own_line ∙ held in
    let holding = subst (λ line. IsLedgerOf ids own.start read events line w.ledger) held_is on.ledger in
    record {
      orderly = on.orderly;
      reading = reading_one read events (Given text) on.reading right;
      ledger = subst (λ line. IsLedgerOf ids own.start read (events ++ Given text ∷ []) line (gave w.ledger)) (sym (not_completing w None own_line))
          (ledger_gives ids own.start read events w.ledger text holding);
      placed = subst (λ line. ArePlaced ids read (events ++ Given text ∷ []) line (gave w.ledger)) (sym (not_completing w None own_line))
          (placed_given ids own.start read events w.ledger text holding (subst (λ line. ArePlaced ids read events line w.ledger) held_is on.placed));
      start = on.start;
      kept = on.kept;
      set_fits = record { has_streams = on.set_fits.has_streams; of_streams = on.set_fits.of_streams; of_all = on.set_fits.of_all };
      none_ends = record {
        no_error = ap (list_any (is_error side.Source read)) (same_reads events (Given text) refl) ∙ on.none_ends.no_error;
        no_error_back = ap (list_any (is_error side.Dest read)) (same_gots events (Given text) refl) ∙ on.none_ends.no_error_back;
        come_back = each_one (ComesBack read) [] events (Given text) on.none_ends.come_back tt;
      };
      going = any_one is_ended events (Given text) refl ∙ on.going;
      closed = any_one is_closed events (Given text) refl ∙ on.closed;
      closed_behind = λ closed. absurd (false≢true (sym opened ∙ closed));
      read_so = read_over_one events (Given text) ∙ on.read_so;
      got_so = got_over_one events (Given text) ∙ on.got_so;
      few_lines = subst (λ list. length list ≤ MOST_LINES) (sym (same_reads events (Given text) refl)) on.few_lines;
      got_lines = on.got_lines ∙ ap length (sym (same_gots events (Given text) refl));
      gives_next = give_next ids read w own text held on.gives_next;
      reads_first = on.reads_first;
      own_lines = λ none first. ap (λ list. texts (filter (λ line. passes ids line.found) (lines_read read list))) (same_reads events (Given text) refl)
          ∙ (on.own_lines none first ∙ (ap (λ it. gives events ++ option_to_list it) held ∙ (sym (gives_one events (Given text)) ∙ sym (append-nil (gives (events ++ Given text ∷ []))))));
    }

may_give : (w : Worker) (streams : List ConfStream) (read : Reading) (text : List ℕ) (own : Option Running) (attempt : Running) → own ≡ Some attempt → w.held ≡ Some text → w.closed ≡ false → IsOn w streams read attempt → InAttempt own (GivesNext (ids_of streams) read text)
may_give w streams read text own attempt runs held opened on = subst (λ it. InAttempt it (GivesNext (ids_of streams) read text)) (sym runs) (
  on.going,
  record {
    input_open = on.closed ∙ opened;
    unbroken = on.ledger.unbroken;
    next = (left_to_give w (ids_of streams) read attempt.events, on.gives_next ∙ ap (λ it. (gives attempt.events ++ option_to_list it) ++ left_to_give w (ids_of streams) read attempt.events) held);
  },
)

pub gives_step : (w : Worker) (text : List ℕ) (old new : Seen) (desk : DeskSeen) → w.held ≡ Some text → w.is_completing ≡ false → w.closed ≡ false → own_events new ≡ told_more (Given text ∷ []) (own_events old) → Grew old new → Steps moved.Yes (Stands w) (Stands (given_worker w)) old new desk desk
gives_step w text old new desk held own_line opened added grew = record {
  ran = record {
    acts = does (Given text) ∷ [];
    lines = [];
    added = added;
    said = none_said desk;
    grew = grew;
    desk = desk_same desk;
    leads = λ call streams read here said reading stands. (
      place_after read here (Given text) (with_event (Given text) here.standing.sync),
      (
        with_event (Given text) here.standing.sync,
        (may_give w streams read text here.standing.sync.attempt stands.attempt stands.runs held opened stands.on, refl),
        subst (λ (n : ℕ). 0 < n) (sym stands.is_last.number) stands.is_last.positive,
        record { works = stands.is_last.works; order = stands.is_last.number ∙ sym stands.is_last.ended },
        refl,
      ),
      record {
        is_last = record { begun = stands.is_last.begun; number = stands.is_last.number; positive = stands.is_last.positive; ended = stands.is_last.ended; works = stands.is_last.works };
        attempt = and_event (Given text) stands.attempt;
        runs = ap (option_map (and_event (Given text))) stands.runs;
        on = gives_on w streams read stands.attempt text reading.0 held own_line opened stands.on;
        set = stands.set;
        none_owed = stands.none_owed;
        said_all = ap (λ list. list ++ []) stands.said_all;
      },
    );
  };
  are = inl refl;
}

-- ---- an offer that fails

pub offer_failed : (w : Worker) (old new : Seen) (desk : DeskSeen) → w.closed ≡ false → Live w old → new.face ≡ old.face → own_events new ≡ own_events old → Grew old new → Ran (Stands w) (Ends status.LinkFault new.face w) old new desk desk
offer_failed w old new desk opened live face same grew = failed_way w old new desk (unfinished_open w opened) (coded w old new live (ap (λ (it : LinkFace). it.codes.source) face)) same grew

pub offer_lacked : (w : Worker) (old new : Seen) (desk : DeskSeen) → Live w old → new.face ≡ old.face → own_events new ≡ own_events old → Grew old new → Ran (Stands w) (Ends status.NoMemory new.face w) old new desk desk
offer_lacked w old new desk live face same grew = lacked_way w old new desk (coded w old new live (ap (λ (it : LinkFace). it.codes.source) face)) same grew
