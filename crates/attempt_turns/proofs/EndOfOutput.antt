-- The source's output ends.
use Rattle.std.proofs.Common.{◌≡◌, inl, ℕ, ◌<◌, ◌≤◌, List, [], ◌∷◌, ◌++◌, Bool, true, false, cond, Option, None, Some, IfSome, refl, sym, ◌∙◌, ap, subst, append-nil, length}
use Rattle.std.specs.Prelude.{filter, map, option_map, option_to_list}
use Rattle.std.specs.List.{list_any}
use Rattle.std.proofs.lemmas.Bool.{false≢true}
use Rattle.basics.specs.declared.stream.StreamId.{StreamId}
use Rattle.basics.specs.Told.{told_by, told_more}
use Rattle.outside.specs.Desk.{DeskSeen}
use Rattle.outside.specs.Event.{read_over}
use Rattle.outside.specs.Link.{Seen, Grew, own_events}
use Rattle.outside.specs.declared.event.Event.{Event}
use Rattle.outside.specs.declared.event.Event.TheVariants.{ReadEnd}
use Rattle.outside.specs.declared.faults.Side.TheVariants as side
use Rattle.catalog.specs.Reading.{ids_of}
use Rattle.catalog.specs.declared.stream.ConfStream.{ConfStream}
use Rattle.load_rules.specs.Lines.{Reading, lines_read, passes}
use Rattle.load_rules.specs.Attempts.{gives, passed}
use Rattle.load_rules.specs.Engine.{is_closed, is_ended}
use Rattle.sync_rules.specs.Sync.{Running, and_event, completion, texts, to_give, untold, with_event}
use Rattle.sync_ledger.specs.declared.notes.TheConstants.{MOST_LINES}
use Rattle.ledger_rules.proofs.Stands.{goes_on}
use Rattle.attempt_turns.specs.Acts.{does, place_after}
use Rattle.attempt_turns.specs.Silence.{Steps}
use Rattle.attempt_turns.specs.declared.worker.Moved.TheVariants as moved
use Rattle.attempt_turns.specs.Worker.{ComesBack, IsOn, IsReadable, Live, Stands, is_error, left_to_give, source_held, untold_from}
use Rattle.attempt_turns.specs.declared.worker.Worker.{Worker}
use Rattle.attempt_turns.proofs.Placed.{placed_on}
use Rattle.attempt_turns.proofs.Lists.{any_one, each_one, got_over_one, read_over_one, reading_one, same_gives, same_gots, same_reads}
use Rattle.attempt_turns.proofs.ReadLemmas.{no_completions, none_left, runs_on}
use Rattle.attempt_turns.proofs.EndLemmas.{desk_same, none_said}

-- ---- the end is told

pub first_end : (told : Option (List Event)) (over : Bool) → over ≡ false → IfSome told (λ events. read_over events ≡ over) → told_by (λ events. cond (read_over events) [] (ReadEnd ∷ [])) told ≡ told_more (ReadEnd ∷ []) told
first_end None over going is = refl
first_end (Some events) over going is = ap (λ b. Some (events ++ cond b [] (ReadEnd ∷ []))) (is ∙ going)

-- ---- the attempt behind it

abbrev pub over_worker : Worker → Worker
over_worker w = record w { read_over = true }

give_end : (ids : List StreamId) (read : Reading) (w : Worker) (own : Running) → w.held ≡ None → w.read_over ≡ false → w.completed ≡ 0 → read_over own.events ≡ w.read_over → to_give ids read own.events ≡ (gives own.events ++ option_to_list w.held) ++ left_to_give w ids read own.events
    → to_give ids read (own.events ++ ReadEnd ∷ []) ≡ (gives (own.events ++ ReadEnd ∷ []) ++ option_to_list w.held) ++ left_to_give (over_worker w) ids read (own.events ++ ReadEnd ∷ [])
give_end ids read w own empty going zero read_so before =
    let events = own.events in
    let next = events ++ ReadEnd ∷ [] in
    let held = gives events ++ option_to_list w.held in
    let old : texts (passed ids read events) ≡ held = sym (no_completions ids read events (read_so ∙ going)) ∙ (before ∙ (ap (λ list. held ++ list) (none_left w ids read events going) ∙ append-nil held)) in
    let over : read_over next ≡ true = read_over_one events ReadEnd in
    ap (λ b. texts (passed ids read next) ++ cond b (map completion (untold ids read next)) []) over
    ∙ (ap (λ list. texts (filter (λ line. passes ids line.found) (lines_read read list)) ++ map completion (untold ids read next)) (same_reads events ReadEnd refl)
    ∙ (ap (λ list. list ++ map completion (untold ids read next)) (old ∙ ap (λ list. list ++ option_to_list w.held) (sym (same_gives events ReadEnd refl)))
    ∙ ap (λ n. (gives next ++ option_to_list w.held) ++ map completion (untold_from n ids read next)) (sym zero)))

on_end : (w : Worker) (streams : List ConfStream) (read : Reading) (own : Running) → IsReadable w → IsOn w streams read own → IsOn (over_worker w) streams read (and_event ReadEnd own)
on_end w streams read own readable on =
    let ids = ids_of streams in
    let events = own.events in
    let none = on.reads_first readable.going in
    let ledger = goes_on ids own.start read events (source_held w) w.ledger ReadEnd (record { none_read = refl; none_given = refl; none_got = refl }) on.ledger in
    record {
      orderly = on.orderly;
      reading = reading_one read events ReadEnd on.reading tt;
      ledger = ledger;
      placed = placed_on ids read events (source_held w) w.ledger own.start ReadEnd refl refl ledger on.placed;
      start = on.start;
      kept = on.kept;
      set_fits = record { has_streams = on.set_fits.has_streams; of_streams = on.set_fits.of_streams; of_all = on.set_fits.of_all };
      none_ends = record {
        no_error = ap (list_any (is_error side.Source read)) (same_reads events ReadEnd refl) ∙ on.none_ends.no_error;
        no_error_back = ap (list_any (is_error side.Dest read)) (same_gots events ReadEnd refl) ∙ on.none_ends.no_error_back;
        come_back = each_one (ComesBack read) [] events ReadEnd on.none_ends.come_back tt;
      };
      going = any_one is_ended events ReadEnd refl ∙ on.going;
      closed = any_one is_closed events ReadEnd refl ∙ on.closed;
      closed_behind = λ closed. absurd (false≢true (sym readable.opened ∙ closed));
      read_so = read_over_one events ReadEnd;
      got_so = got_over_one events ReadEnd ∙ on.got_so;
      few_lines = subst (λ list. length list ≤ MOST_LINES) (sym (same_reads events ReadEnd refl)) on.few_lines;
      got_lines = on.got_lines ∙ ap length (sym (same_gots events ReadEnd refl));
      gives_next = give_end ids read w own readable.empty readable.going none.1 on.read_so on.gives_next;
      reads_first = λ so. absurd (false≢true (sym so));
      own_lines = λ is_none zero. ap (λ list. texts (filter (λ line. passes ids line.found) (lines_read read list))) (same_reads events ReadEnd refl) ∙ (on.own_lines is_none zero ∙ ap (λ list. list ++ option_to_list w.held) (sym (same_gives events ReadEnd refl)));
    }

pub end_step : (w : Worker) (old new : Seen) (desk : DeskSeen) → IsReadable w → Live w old → own_events new ≡ told_by (λ events. cond (read_over events) [] (ReadEnd ∷ [])) (own_events old) → Grew old new → Steps moved.Yes (Stands w) (Stands (over_worker w)) old new desk desk
end_step w old new desk readable live added grew = record {
  ran = record {
    acts = does ReadEnd ∷ [];
    lines = [];
    added = added ∙ first_end (own_events old) w.read_over readable.going live.read_told;
    said = none_said desk;
    grew = grew;
    desk = desk_same desk;
    leads = λ call streams read here said reading stands. (
      place_after read here ReadEnd (with_event ReadEnd here.standing.sync),
      (
        with_event ReadEnd here.standing.sync,
        (runs_on here.standing.sync.attempt stands.attempt stands.runs stands.on.going (stands.on.read_so ∙ readable.going), refl),
        subst (λ (n : ℕ). 0 < n) (sym stands.is_last.number) stands.is_last.positive,
        record { works = stands.is_last.works; order = stands.is_last.number ∙ sym stands.is_last.ended },
        refl,
      ),
      record {
        is_last = record { begun = stands.is_last.begun; number = stands.is_last.number; positive = stands.is_last.positive; ended = stands.is_last.ended; works = stands.is_last.works };
        attempt = and_event ReadEnd stands.attempt;
        runs = ap (option_map (and_event ReadEnd)) stands.runs;
        on = on_end w streams read stands.attempt readable stands.on;
        set = stands.set;
        none_owed = stands.none_owed;
        said_all = ap (λ list. list ++ []) stands.said_all;
      },
    );
  };
  are = inl refl;
}
