-- How an attempt has ended.
use Rattle.std.proofs.Common.{arith, ◌≡◌, ◌⊎◌, inl, inr, ℕ, zero, suc, ◌+◌, ◌<◌, ◌≤◌, List, [], ◌∷◌, ◌++◌, Bool, true, false, cond, ◌||◌, Option, None, Some, refl, sym, ◌∙◌, ap, subst, append-nil, append_assoc, filter, drop, length, map, fold}
use Rattle.std.specs.Prelude.{filter_map, option_to_list, is_none, is_some}
use Rattle.std.specs.List.{list_any}
use Rattle.std.proofs.lemmas.Bool.{false≢true}
use Rattle.std.proofs.lemmas.List.Elements.{filter_map-append}
use Rattle.std.proofs.lemmas.List.Sums.{fold-append}
use Rattle.basics.specs.declared.stream.StreamId.{StreamId}
use Rattle.outside.specs.Event.{got_in, given_in, read_in, read_over, read_over_after, got_over, got_over_after}
use Rattle.outside.specs.Link.{Seen}
use Rattle.outside.specs.declared.event.Codes.{Codes}
use Rattle.outside.specs.declared.event.Event.{Event}
use Rattle.outside.specs.declared.event.Event.TheVariants.{Closed}
use Rattle.outside.specs.declared.event.Exit.{Exit}
use Rattle.outside.specs.declared.event.Exit.TheVariants.{Code}
use Rattle.outside.specs.declared.link.LinkCounts.{LinkCounts}
use Rattle.outside.specs.declared.link.LinkFace.{LinkFace}
use Rattle.outside.specs.declared.status.Status.{Status}
use Rattle.outside.specs.declared.status.Status.TheVariants as status
use Rattle.catalog.specs.Reading.{ids_of}
use Rattle.catalog.specs.declared.stream.ConfStream.{ConfStream}
use Rattle.load_rules.specs.Lines.{Reading, lines_read, passes}
use Rattle.load_rules.specs.Finished.{last_status}
use Rattle.load_rules.specs.Attempts.{gives, passed, reads}
use Rattle.load_rules.specs.Engine.{is_closed}
use Rattle.sync_rules.specs.Calls.{IsThrough}
use Rattle.sync_rules.specs.Sync.{Running, completion, texts, to_give, untold}
use Rattle.sync_ledger.specs.Accounts.{all_pending}
use Rattle.sync_ledger.specs.Noted.{least_line}
use Rattle.sync_ledger.specs.declared.notes.TheConstants.{MOST_LINES}
use Rattle.attempt_turns.specs.Ends.{AllComplete, Causes, EndsSo, IsNotFailed, SourceKnown, WentClean}
use Rattle.attempt_turns.specs.Waits.{IsFirstWaiting}
use Rattle.attempt_turns.specs.Worker.{ClosedBehind, IsOn, Live, left_to_give, source_held}
use Rattle.attempt_turns.specs.declared.worker.Worker.{Worker}
use Rattle.attempt_turns.proofs.EndLemmas.{clean}
use Rattle.attempt_close.specs.Ended.{AreDone, EndedBy, IsOver, WentWell}
use Rattle.attempt_close.specs.Turns.{Fits}
use Rattle.attempt_close.proofs.Places.{drop_end}
use Rattle.attempt_close.proofs.Statuses.{all_complete, first_incomplete}
use Rattle.attempt_close.proofs.Waiting.{first_waiting}

-- ---- an attempt that went through

-- nothing is read or given behind the close
same_reads : (front back : List Event) → reads back ≡ [] → reads (front ++ Closed ∷ back) ≡ reads front
same_reads front back none = filter_map-append read_in front (Closed ∷ back) ∙ (ap (λ list. reads front ++ list) none ∙ append-nil (reads front))

same_gives : (front back : List Event) → gives back ≡ [] → gives (front ++ Closed ∷ back) ≡ gives front
same_gives front back none = filter_map-append given_in front (Closed ∷ back) ∙ (ap (λ list. gives front ++ list) none ∙ append-nil (gives front))

-- the end of the destination's output stands behind the close
got_behind : (front back : List Event) → got_over front ≡ false → got_over (front ++ Closed ∷ back) ≡ true → got_over back ≡ true
got_behind front back going over = sym (fold-append got_over_after false front (Closed ∷ back) ∙ ap (λ b. fold got_over_after b back) going) ∙ over

none_left : (w : Worker) (ids : List StreamId) (read : Reading) (events : List Event) → length ids ≤ w.completed → left_to_give w ids read events ≡ []
none_left w ids read events all = at w.read_over
  where
    at : (b : Bool) → cond b (map completion (filter (λ id. is_none (last_status id (lines_read read (reads events)))) (drop w.completed ids))) [] ≡ []
    at true = ap (λ list. map completion (filter (λ id. is_none (last_status id (lines_read read (reads events)))) list)) (drop_end ids w.completed all)
    at false = refl

pub through : (w : Worker) (seen : Seen) (streams : List ConfStream) (read : Reading) (own : Running) → Live w seen → seen.face.codes.source ≡ Some (Code 0) → IsOver w → w.read_over ≡ true → IsOn w streams read own → IsThrough (ids_of streams) read own.events
through w seen streams read own live code over read_all on =
    let ids = ids_of streams in
    let behind = on.closed_behind over.closed in
    let all = live.all_completed over.closed code in
    let split : List Event = behind.front ++ Closed ∷ behind.back in
    let few : length ids ≤ w.completed = subst (λ list. length list ≤ w.completed) on.ledger.ids_are all.1 in
    record {
      front = behind.front;
      back = behind.back;
      closes = behind.closes;
      read_all = behind.read_all;
      gave_all = given behind (subst (λ events. to_give ids read events ≡ (gives events ++ option_to_list w.held) ++ left_to_give w ids read events) behind.closes on.gives_next) all.0 few (subst (λ events. read_over events ≡ w.read_over) behind.closes on.read_so);
      got_all = got_behind behind.front behind.back behind.going (subst (λ events. got_over events ≡ true) behind.closes (on.got_so ∙ over.got));
    }
  where
    given : (behind : ClosedBehind own.events) → to_give (ids_of streams) read (behind.front ++ Closed ∷ behind.back) ≡ (gives (behind.front ++ Closed ∷ behind.back) ++ option_to_list w.held) ++ left_to_give w (ids_of streams) read (behind.front ++ Closed ∷ behind.back)
        → w.held ≡ None → length (ids_of streams) ≤ w.completed → read_over (behind.front ++ Closed ∷ behind.back) ≡ w.read_over → gives behind.front ≡ to_give (ids_of streams) read behind.front
    given behind next empty few over_so =
        let ids = ids_of streams in
        let whole : List Event = behind.front ++ Closed ∷ behind.back in
        let lines : reads whole ≡ reads behind.front = same_reads behind.front behind.back behind.none_read in
        let told : read_over whole ≡ read_over behind.front = over_so ∙ (read_all ∙ sym behind.read_all) in
        let before : to_give ids read whole ≡ to_give ids read behind.front =
        ap (λ list. texts (filter (λ line. passes ids line.found) (lines_read read list)) ++ cond (read_over whole) (map completion (filter (λ id. is_none (last_status id (lines_read read list))) ids)) []) lines
        ∙ ap (λ b. texts (passed ids read behind.front) ++ cond b (map completion (untold ids read behind.front)) []) told in
        let after : (gives whole ++ option_to_list w.held) ++ left_to_give w ids read whole ≡ gives behind.front =
        ap (λ list. (gives whole ++ option_to_list w.held) ++ list) (none_left w ids read whole few)
        ∙ (append-nil (gives whole ++ option_to_list w.held)
        ∙ (ap (λ it. gives whole ++ option_to_list it) empty
        ∙ (append-nil (gives whole) ∙ same_gives behind.front behind.back behind.none_given))) in
        sym after ∙ (sym next ∙ before)

-- ---- the ends

abbrev went_clean : (w : Worker) (seen : Seen) (streams : List ConfStream) (read : Reading) (own : Running) → Live w seen → seen.face.codes.source ≡ Some (Code 0) → IsOver w → w.read_over ≡ true → IsOn w streams read own → WentClean (ids_of streams) read own
went_clean w seen streams read own live code over read_all on = record {
  clean = clean w streams read own on;
  through = through w seen streams read own live code over read_all on;
  few_read = on.few_lines;
  few_got = subst (λ (n : ℕ). n ≤ MOST_LINES) on.got_lines (live.few_over over.got);
}

complete_so : (w : Worker) (streams : List ConfStream) (read : Reading) (own : Running) → AreDone w.ledger → IsOn w streams read own → AllComplete (ids_of streams) read own.events
complete_so w streams read own done on = all_complete (ids_of streams) own.start read own.events (source_held w) w.ledger on.ledger done

or_true : (b : Bool) → (b || true) ≡ true
or_true true = refl
or_true false = refl

any_in : (front back : List Event) → list_any is_closed (front ++ Closed ∷ back) ≡ true
any_in [] back = refl
any_in (event ∷ front) back = ap (λ b. is_closed event || b) (any_in front back) ∙ or_true (is_closed event)

-- the input of an attempt that went through was closed
closed_through : (ids : List StreamId) (read : Reading) (events : List Event) → IsThrough ids read events → list_any is_closed events ≡ true
closed_through ids read events is = ap (list_any is_closed) is.closes ∙ any_in is.front is.back

read_first : (ids : List StreamId) (w : Worker) (codes : Codes) → Fits ids w codes → w.closed ≡ true → w.read_over ≡ true
read_first ids w codes fits closed = at w.read_over refl
  where
    at : (b : Bool) → w.read_over ≡ b → b ≡ true
    at true is = refl
    at false is = absurd (false≢true (sym (fits.reads_first is) ∙ closed))

pub so_ended : (end : Status) (ids : List StreamId) (w : Worker) (seen : Seen) → EndedBy end w seen.face.codes → Fits ids w seen.face.codes → Live w seen → (streams : List ConfStream) (read : Reading) (own : Running) → IsOn w streams read own → EndsSo end (ids_of streams) read seen.face own
so_ended (status.SourceFailed exit) ids w seen is fits live streams read own on = clean w streams read own on
so_ended (status.SourceIncomplete stream) ids w seen (over, code, first) fits live streams read own on = (
  went_clean w seen streams read own live code over (read_first ids w seen.face.codes fits over.closed) on,
  first_incomplete (ids_of streams) own.start read own.events (source_held w) w.ledger stream on.ledger first,
)
so_ended (status.DestFailed exit) ids w seen (got, dest, failed, source, done) fits live streams read own on = (
  clean w streams read own on,
  λ is. complete_so w streams read own (done (sym on.closed ∙ closed_through (ids_of streams) read own.events is)) on,
)
so_ended status.DestEarly ids w seen (early, dest, source) fits live streams read own on = (clean w streams read own on, on.got_so ∙ early.got, on.closed ∙ early.opened)
so_ended (status.DestUnechoed line) ids w seen (went, least) fits live streams read own on = (
  went_clean w seen streams read own live went.source went.over (read_first ids w seen.face.codes fits went.over.closed) on,
  complete_so w streams read own went.done on,
  first_waiting (ids_of streams) own.start read own.events (source_held w) w.ledger (Some line) on.orderly.distinct on.ledger on.placed least,
)
so_ended status.Ok ids w seen (went, least) fits live streams read own on = (
  went_clean w seen streams read own live went.source went.over (read_first ids w seen.face.codes fits went.over.closed) on,
  complete_so w streams read own went.done on,
  first_waiting (ids_of streams) own.start read own.events (source_held w) w.ledger None on.orderly.distinct on.ledger on.placed least,
)
so_ended end ids w seen is fits live streams read own on = absurd is

-- ---- their causes

source_known : (ids : List StreamId) (w : Worker) (from : LinkCounts) (now : Seen) → Fits ids w now.face.codes → w.got_over ≡ true → SourceKnown w from now
source_known ids w from now fits got = at w.closed refl
  where
    at : (b : Bool) → w.closed ≡ b → SourceKnown w from now
    at true closed = inl (read_first ids w now.face.codes fits closed, got)
    at false opened = inr (inl (got, opened))

pub cause_ended : (end : Status) (ids : List StreamId) (w : Worker) (from : LinkCounts) (say : ℕ) (now : Seen) (said : ℕ) → EndedBy end w now.face.codes → Fits ids w now.face.codes → Causes end w from say now said
cause_ended (status.SourceFailed exit) ids w from say now said (got, source, failed) fits = (source, failed, source_known ids w from now fits got)
cause_ended (status.SourceIncomplete stream) ids w from say now said (over, source, first) fits = source
cause_ended (status.DestFailed exit) ids w from say now said (got, dest, failed, source, done) fits = (dest, failed, inl got, source)
cause_ended status.DestEarly ids w from say now said (early, dest, source) fits = (dest, source)
cause_ended (status.DestUnechoed line) ids w from say now said (went, least) fits = (went.source, went.dest)
cause_ended status.Ok ids w from say now said (went, least) fits = (went.source, went.dest)
cause_ended end ids w from say now said is fits = absurd is
