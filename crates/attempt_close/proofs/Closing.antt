-- The destination's input is closed.
use Rattle.std.proofs.Common.{arith, ◌≡◌, ◌⊎◌, inl, inr, ℕ, ◌<◌, ◌≤◌, List, [], ◌∷◌, ◌++◌, Bool, true, false, cond, ◌||◌, Option, None, Some, IfSome, IsTrue, refl, sym, ◌∙◌, ap, subst, append-nil, filter, drop, length, map}
use Rattle.std.specs.Prelude.{option_map, option_to_list, is_none}
use Rattle.std.specs.List.{list_any}
use Rattle.std.proofs.lemmas.Bool.{false≢true}
use Rattle.basics.specs.Told.{told_more}
use Rattle.basics.specs.declared.stream.StreamId.{StreamId}
use Rattle.outside.specs.Desk.{DeskSeen}
use Rattle.outside.specs.Event.{read_over, got_over}
use Rattle.outside.specs.Link.{Seen, Grew, own_events}
use Rattle.outside.specs.declared.event.Event.TheVariants.{Closed}
use Rattle.outside.specs.declared.event.Exit.TheVariants.{Code}
use Rattle.outside.specs.declared.faults.Side.TheVariants as side
use Rattle.outside.specs.declared.link.LinkFace.{LinkFace}
use Rattle.outside.specs.declared.status.Status.TheVariants as status
use Rattle.catalog.specs.Reading.{ids_of}
use Rattle.catalog.specs.declared.stream.ConfStream.{ConfStream}
use Rattle.load_rules.specs.Prefixes.{IsPrefix}
use Rattle.load_rules.specs.Lines.{Reading, lines_read, passes}
use Rattle.load_rules.specs.Finished.{last_status}
use Rattle.load_rules.specs.Attempts.{gives, passed, reads}
use Rattle.load_rules.specs.Engine.{is_closed, is_ended}
use Rattle.sync_rules.specs.Breaches.{AreUnbroken}
use Rattle.sync_rules.specs.Calls.{Call}
use Rattle.sync_rules.specs.Steps.{Closes, InAttempt}
use Rattle.sync_rules.specs.Sync.{Running, and_event, completion, texts, to_give, untold, with_event}
use Rattle.sync_ledger.specs.declared.notes.TheConstants.{MOST_LINES}
use Rattle.ledger_rules.proofs.Stands.{goes_on}
use Rattle.attempt_turns.specs.Acts.{Place, does, place_after}
use Rattle.attempt_turns.specs.Ends.{Ends, Knows}
use Rattle.attempt_turns.specs.History.{Ran}
use Rattle.attempt_turns.specs.Worker.{ClosedBehind, ComesBack, HasCode, IsOn, Live, NoneEnds, Stands, is_error, left_to_give, source_held}
use Rattle.attempt_turns.specs.declared.worker.Worker.{Worker}
use Rattle.attempt_turns.proofs.Lists.{any_one, each_one, got_over_one, read_over_one, reading_one, same_gives, same_gots, same_reads}
use Rattle.attempt_turns.proofs.EndLemmas.{clean, desk_same, failed_way, none_said, unfinished_going}
use Rattle.attempt_turns.proofs.LiveLemmas.{told_got, told_read}
use Rattle.attempt_turns.proofs.Placed.{placed_on}
use Rattle.attempt_turns.proofs.Ways.{grew_none, ran_then}
use Rattle.attempt_close.proofs.Ways.{ends_at, idle_way}

abbrev pub closed_worker : Worker → Worker
closed_worker w = record w { closed = true }

any_last : {A : Type 0} (p : A → Bool) (xs : List A) (x : A) → p x ≡ true → list_any p (xs ++ x ∷ []) ≡ true
any_last p [] x is = ap (λ b. b || false) is
any_last p (y ∷ xs) x is = ap (λ b. p y || b) (any_last p xs x is) ∙ or_true (p y)
  where
    or_true : (b : Bool) → (b || true) ≡ true
    or_true true = refl
    or_true false = refl

-- what is to be given is the same
same_next : (w : Worker) (ids : List StreamId) (read : Reading) (own : Running) → to_give ids read own.events ≡ (gives own.events ++ option_to_list w.held) ++ left_to_give w ids read own.events
    → to_give ids read (own.events ++ Closed ∷ []) ≡ (gives (own.events ++ Closed ∷ []) ++ option_to_list w.held) ++ left_to_give (closed_worker w) ids read (own.events ++ Closed ∷ [])
same_next w ids read own before =
    let events = own.events in
    let next = events ++ Closed ∷ [] in
    let lines : reads next ≡ reads events = same_reads events Closed refl in
    ap (λ list. texts (filter (λ line. passes ids line.found) (lines_read read list)) ++ cond (read_over next) (map completion (filter (λ id. is_none (last_status id (lines_read read list))) ids)) []) lines
    ∙ (ap (λ b. texts (passed ids read events) ++ cond b (map completion (untold ids read events)) []) (read_over_one events Closed)
    ∙ (before
    ∙ (ap (λ list. (list ++ option_to_list w.held) ++ left_to_give w ids read events) (sym (same_gives events Closed refl))
    ∙ ap (λ list. (gives next ++ option_to_list w.held) ++ cond w.read_over (map completion (filter (λ id. is_none (last_status id (lines_read read list))) (drop w.completed ids))) []) (sym lines))))

none_ended : (read : Reading) (own : Running) → NoneEnds read own.events → NoneEnds read (own.events ++ Closed ∷ [])
none_ended read own none = record {
  no_error = ap (list_any (is_error side.Source read)) (same_reads own.events Closed refl) ∙ none.no_error;
  no_error_back = ap (list_any (is_error side.Dest read)) (same_gots own.events Closed refl) ∙ none.no_error_back;
  come_back = each_one (ComesBack read) [] own.events Closed none.come_back tt;
}

on_closed : (w : Worker) → w.read_over ≡ true → w.got_over ≡ false → w.closed ≡ false → (streams : List ConfStream) (read : Reading) (own : Running) → IsOn w streams read own → IsOn (closed_worker w) streams read (and_event Closed own)
on_closed w over going opened streams read own on =
    let ids = ids_of streams in
    let events = own.events in
    let next = events ++ Closed ∷ [] in
    record {
      orderly = on.orderly;
      reading = reading_one read events Closed on.reading tt;
      ledger = goes_on ids own.start read events (source_held w) w.ledger Closed (record { none_read = refl; none_given = refl; none_got = refl }) on.ledger;
      start = on.start;
      kept = on.kept;
      set_fits = record { has_streams = on.set_fits.has_streams; of_streams = on.set_fits.of_streams; of_all = on.set_fits.of_all };
      none_ends = none_ended read own on.none_ends;
      going = any_one is_ended events Closed refl ∙ on.going;
      closed = any_last is_closed events Closed refl;
      closed_behind = λ closed. record {
        front = events;
        back = [];
        closes = refl;
        read_all = on.read_so ∙ over;
        going = on.got_so ∙ going;
        none_read = refl;
        none_given = refl;
      };
      read_so = read_over_one events Closed ∙ on.read_so;
      got_so = got_over_one events Closed ∙ on.got_so;
      few_lines = subst (λ list. length list ≤ MOST_LINES) (sym (same_reads events Closed refl)) on.few_lines;
      placed = placed_on ids read events (source_held w) w.ledger own.start Closed refl refl (goes_on ids own.start read events (source_held w) w.ledger Closed (record { none_read = refl; none_given = refl; none_got = refl }) on.ledger) on.placed;
      got_lines = on.got_lines ∙ ap length (sym (same_gots events Closed refl));
      gives_next = same_next w ids read own on.gives_next;
      reads_first = λ so. on.reads_first so;
      own_lines = λ none zero. ap (λ list. texts (filter (λ line. passes ids line.found) (lines_read read list))) (same_reads events Closed refl)
          ∙ (on.own_lines none zero ∙ ap (λ list. list ++ option_to_list w.held) (sym (same_gives events Closed refl)));
    }

may_close : (w : Worker) (streams : List ConfStream) (read : Reading) (own : Option Running) (attempt : Running) → own ≡ Some attempt → w.closed ≡ false → w.got_over ≡ false → IsOn w streams read attempt → InAttempt own Closes
may_close w streams read own attempt runs opened going on = subst (λ it. InAttempt it Closes) (sym runs) (on.going, record { input_open = on.closed ∙ opened; going = on.got_so ∙ going })

pub closes_way : (w : Worker) (old new : Seen) (desk : DeskSeen) → w.read_over ≡ true → w.got_over ≡ false → w.closed ≡ false → own_events new ≡ told_more (Closed ∷ []) (own_events old) → Grew old new → Ran (Stands w) (Stands (closed_worker w)) old new desk desk
closes_way w old new desk over going opened added grew = record {
  acts = does Closed ∷ [];
  lines = [];
  added = added;
  said = none_said desk;
  grew = grew;
  desk = desk_same desk;
  leads = λ call streams read here said reading stands. (
    place_after read here Closed (with_event Closed here.standing.sync),
    (
      with_event Closed here.standing.sync,
      (may_close w streams read here.standing.sync.attempt stands.attempt stands.runs opened going stands.on, refl),
      subst (λ (n : ℕ). 0 < n) (sym stands.is_last.number) stands.is_last.positive,
      record { works = stands.is_last.works; order = stands.is_last.number ∙ sym stands.is_last.ended },
      refl,
    ),
    record {
      is_last = record { begun = stands.is_last.begun; number = stands.is_last.number; positive = stands.is_last.positive; ended = stands.is_last.ended; works = stands.is_last.works };
      attempt = and_event Closed stands.attempt;
      runs = ap (option_map (and_event Closed)) stands.runs;
      on = on_closed w over going opened streams read stands.attempt stands.on;
      set = stands.set;
      none_owed = stands.none_owed;
      said_all = ap (λ list. list ++ []) stands.said_all;
    },
  );
}

pub live_closed : (w : Worker) (old new : Seen) → w.held ≡ None → (old.face.codes.source ≡ Some (Code 0) → length w.ledger.ids ≤ w.completed) → Live w old → new.face ≡ record (old.face) { input_open = false } → own_events new ≡ told_more (Closed ∷ []) (own_events old)
    → Live (closed_worker w) new
live_closed w old new empty all_made live face added = record {
  running = subst (λ (it : LinkFace). IsTrue it.running) (sym face) live.running;
  input_open = λ opened. absurd (false≢true (sym opened));
  read_told = subst (λ told. IfSome told (λ events. read_over events ≡ w.read_over)) (sym added) (told_read (own_events old) Closed w.read_over (λ b. refl) live.read_told);
  got_told = subst (λ told. IfSome told (λ events. got_over events ≡ w.got_over)) (sym added) (told_got (own_events old) Closed w.got_over (λ b. refl) live.got_told);
  source_short = λ long. live.source_short (sym (ap (λ (it : LinkFace). it.source_poll) face) ∙ long);
  dest_short = λ long. live.dest_short (sym (ap (λ (it : LinkFace). it.dest_poll) face) ∙ long);
  few_got = live.few_got;
  few_over = live.few_over;
  completed = λ some. ap (λ (it : LinkFace). it.codes.source) face ∙ live.completed some;
  all_completed = λ closed code. (empty, all_made (sym (ap (λ (it : LinkFace). it.codes.source) face) ∙ code));
}

-- ---- the close failed, and it was told or not

close_told : (w : Worker) (old new : Seen) (desk : DeskSeen) → w.read_over ≡ true → w.got_over ≡ false → w.closed ≡ false → HasCode w new.face → new.face.input_open ≡ false → own_events new ≡ told_more (Closed ∷ []) (own_events old) → Grew old new
    → Ran (Stands w) (Ends status.LinkFault new.face w) old new desk desk
close_told w old new desk over going opened code shut added grew = ran_then (Stands w) (Stands (closed_worker w)) (Ends status.LinkFault new.face w) old new new desk desk desk
    (closes_way w old new desk over going opened added grew)
    (idle_way (Stands (closed_worker w)) (Ends status.LinkFault new.face w) new new desk desk refl (grew_none new) refl (desk_same desk)
    (λ call streams read here said stands. unclosed call streams read here said (ends_at status.LinkFault (closed_worker w) new.face call streams read here said code
    (λ own on. (clean (closed_worker w) streams read own on, λ through. absurd (unfinished_going (closed_worker w) going streams read own on through))) stands)))
  where
    not_open : (b : Bool) → new.face.input_open ≡ b → b ≡ false → (w.got_over ≡ true) ⊎ IsTrue new.face.input_open → ⊥
    not_open b is none (inl over) = false≢true (sym going ∙ over)
    not_open b is none (inr open_so) = false≢true (sym shut ∙ open_so)

    knows : (streams : List ConfStream) (read : Reading) (own : Running) → Knows (closed_worker w) (ids_of streams) read new.face own → Knows w (ids_of streams) read new.face own
    knows streams read own is = record {
      read_so = is.read_so;
      got_so = is.got_so;
      closed = λ closed. absurd (false≢true (sym opened ∙ closed));
      opened = λ still known. absurd (not_open new.face.input_open refl shut known);
      held = is.held;
    }

    unclosed : (call : Call) (streams : List ConfStream) (read : Reading) (here : Place) (said : List (List ℕ)) → Ends status.LinkFault new.face (closed_worker w) call streams read here said → Ends status.LinkFault new.face w call streams read here said
    unclosed call streams read here said ends = record {
      begun = ends.begun;
      number = ends.number;
      ended = ends.ended;
      failed = ends.failed;
      set = ends.set;
      paid = ends.paid;
      so = ends.so;
      knows = λ again same. (let own = ends.knows again same in (own.0, own.1, knows streams read own.0 own.2));
      unstarted = ends.unstarted;
      can_stop = ends.can_stop;
      said_so = ends.said_so;
    }

pub close_failed : (w : Worker) (old new : Seen) (desk : DeskSeen) → w.read_over ≡ true → w.got_over ≡ false → w.closed ≡ false → HasCode w new.face → new.face.input_open ≡ false → (own_events new ≡ own_events old) ⊎ (own_events new ≡ told_more (Closed ∷ []) (own_events old)) → Grew old new
    → Ran (Stands w) (Ends status.LinkFault new.face w) old new desk desk
close_failed w old new desk over going opened code shut (inl same) grew = failed_way w old new desk (unfinished_going w going) code same grew
close_failed w old new desk over going opened code shut (inr added) grew = close_told w old new desk over going opened code shut added grew
