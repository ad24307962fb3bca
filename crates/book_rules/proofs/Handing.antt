-- The calls of a dock in memory: no event, and no step.
use Rattle.std.proofs.Common.{◌≡◌, ℕ, List, [], Option, None, Some, Result, Ok, Err, refl, sym, ◌∙◌, ap, subst, length}
use Rattle.std.specs.Prelude.{◌+◌, IfSome, option_map}
use Rattle.basics.specs.declared.memory.NoMemory.{NoMemory}
use Rattle.outside.specs.Dock.{DockSeen, TakesFrom, dock_events, with_hand}
use Rattle.outside.specs.Hand.{Hand, hand_closed, hand_pushed}
use Rattle.outside.specs.declared.link.PollKind.{PollKind}
use Rattle.outside.specs.Tables.{tables_of}
use Rattle.outside.specs.declared.event.Event.{Event}
use Rattle.load_rules.specs.Machine.{Machine}
use Rattle.book_rules.specs.Books.{BrokeBy, IsBook, IsBookOf, IsNoRun, KeepsOpened, KeepsSafe, OwnLoadIsSafe, Runs, StaySafe, Tells}
use Rattle.book_rules.specs.Hands.{PushAnswer, TakeOutputAnswer, closed, with_seen}
use Rattle.book_rules.specs.Laws.{CloseKeeps, HandKeeps, PushKeeps, TakeOutputKeeps}
use Rattle.book_rules.specs.Views.{BookView, HasPlans, ids}
use Rattle.book_rules.proofs.Lists.{some_is}
use Rattle.book_rules.proofs.Safe.{own_is_safe}

reseen_of : (book : BookView) (m : Machine) (seen : DockSeen) → dock_events seen ≡ dock_events book.seen → seen.face.poll ≡ book.seen.face.poll → IsBookOf book m → IsBookOf (with_seen seen book) m
reseen_of book m seen same poll_is is = record {
  reached = record {
    steps = is.reached.steps;
    runs = is.reached.runs;
    safe = is.reached.safe;
    bounded = is.reached.bounded;
    unused = is.reached.unused;
    unused_are = is.reached.unused_are;
    used = is.reached.used;
    told = subst (λ (events : Option (List Event)). IfSome events (Tells book.opening m.acts is.reached.unused)) (sym same) is.reached.told;
    tallied = is.reached.tallied;
    good = is.reached.good;
    why = subst (λ (poll : PollKind). IfSome book.tally.broken (BrokeBy (ids book) book.tally.lines poll m.acts is.reached.unused)) (sym poll_is) is.reached.why;
    counted = is.reached.counted;
  };
  holds = λ none. let h = is.holds none in record {
    content = h.content;
    gate = h.gate;
    uncommitted = h.uncommitted;
    waiting = h.waiting;
    as_many = h.as_many;
    since_own = h.since_own;
    since_all = h.since_all;
    gate_streams = h.gate_streams;
    gate_next = h.gate_next;
    gate_states = h.gate_states;
    states = h.states;
    held = h.held;
    queue_streams = h.queue_streams;
    queue_next = h.queue_next;
    room = h.room;
    slots = h.slots;
    bytes = h.bytes;
    batch = h.batch;
    fresh = h.fresh;
    parked = h.parked;
    alike = h.alike;
    few = h.few;
    statuses_many = h.statuses_many;
    statuses = h.statuses;
  };
  quiet = is.quiet;
}

seen_keeps : (old : BookView) (seen : DockSeen) → dock_events seen ≡ dock_events old.seen → seen.face.side_marks ≡ old.seen.face.side_marks → seen.face.poll ≡ old.seen.face.poll → IsBook old → HandKeeps old (with_seen seen old)
seen_keeps old seen same marks poll is = record {
  book = book;
  opened = record { catalog = refl; opening = refl; limits = refl };
  runs = λ m of. record { steps = []; shaped = tt; leads = reseen_of old m seen same poll of };
  own = own_is_safe (with_seen seen old) book;
  safe = safe;
}
  where
    book : IsBook (with_seen seen old)
    book = record { configured = is.configured; planned = is.planned; as_many = ap (λ (list : List ℕ). length list) marks ∙ is.as_many; listed = is.listed; queue_streams = is.queue_streams; limits_are = is.limits_are; slots = is.slots; bytes = is.bytes; batch = is.batch; parked_small = is.parked_small; plans = λ none. subst (λ (events : Option (List Event)). IfSome (option_map tables_of events) (HasPlans old)) (sym same) (is.plans none); machine = is.machine; is = reseen_of old is.machine seen same poll is.is }

    safe : KeepsSafe old (with_seen seen old)
    safe read before now first second reads =
        let now_is : now ≡ before = some_is now before (sym second ∙ (same ∙ first)) in
        subst (StaySafe old.catalog (old.limits.slots + 1) read before) (sym now_is) (record { safe = λ it. it; bounded = λ it. it; store = λ it. it; engine = λ it. it })

hand_keeps_as : (old mid new : BookView) → new ≡ mid → HandKeeps old mid → HandKeeps old new
hand_keeps_as old mid new same keeps = subst (HandKeeps old) (sym same) keeps

pub push_keeps : PushKeeps
push_keeps (Ok done) line old new is answer = hand_keeps_as old (with_seen (with_hand (hand_pushed line) old.seen) old) new answer (seen_keeps old (with_hand (hand_pushed line) old.seen) refl refl refl is)
push_keeps (Err why) line old new is answer = hand_keeps_as old old new answer (seen_keeps old old.seen refl refl refl is)

pub close_keeps : CloseKeeps
close_keeps torn old new is answer = hand_keeps_as old (closed torn old) new answer (seen_keeps old (with_hand (hand_closed torn) old.seen) refl refl refl is)

record SeenSame (old new : DockSeen) : Type 0 where
  events : dock_events new ≡ dock_events old
  marks : new.face.side_marks ≡ old.face.side_marks
  poll : new.face.poll ≡ old.face.poll

taken_same : (hand : Option Hand) (given : Option (List ℕ)) (old new : DockSeen) → TakesFrom hand given old new → SeenSame old new
taken_same None given old new same = record { events = ap dock_events same; marks = ap (λ (it : DockSeen). it.face.side_marks) same; poll = ap (λ (it : DockSeen). it.face.poll) same }
taken_same (Some hand) given old new takes = record { events = ap dock_events takes.seen; marks = ap (λ (it : DockSeen). it.face.side_marks) takes.seen; poll = ap (λ (it : DockSeen). it.face.poll) takes.seen }

pub take_output_keeps : TakeOutputKeeps
take_output_keeps given old new is answer =
    let same = taken_same old.seen.face.hand given old.seen new.seen answer.output in
    hand_keeps_as old (with_seen new.seen old) new answer.rest (seen_keeps old new.seen same.events same.marks same.poll is)

-- The same, clause by clause, as a book's calls cite them.

pub push_book : (result : Result (Unit {0}) NoMemory) (line : List ℕ) (old new : BookView) → IsBook old → PushAnswer result line old new → IsBook new
push_book result line old new is answer = (push_keeps result line old new is answer).book

pub push_opened : (result : Result (Unit {0}) NoMemory) (line : List ℕ) (old new : BookView) → IsBook old → PushAnswer result line old new → KeepsOpened old new
push_opened result line old new is answer = (push_keeps result line old new is answer).opened

pub push_runs : (result : Result (Unit {0}) NoMemory) (line : List ℕ) (old new : BookView) → IsBook old → PushAnswer result line old new → Runs IsNoRun old new
push_runs result line old new is answer = (push_keeps result line old new is answer).runs

pub push_own : (result : Result (Unit {0}) NoMemory) (line : List ℕ) (old new : BookView) → IsBook old → PushAnswer result line old new → OwnLoadIsSafe new
push_own result line old new is answer = (push_keeps result line old new is answer).own

pub push_safe : (result : Result (Unit {0}) NoMemory) (line : List ℕ) (old new : BookView) → IsBook old → PushAnswer result line old new → KeepsSafe old new
push_safe result line old new is answer = (push_keeps result line old new is answer).safe

pub close_book : (torn : Option (List ℕ)) (old new : BookView) → IsBook old → new ≡ closed torn old → IsBook new
close_book torn old new is answer = (close_keeps torn old new is answer).book

pub close_opened : (torn : Option (List ℕ)) (old new : BookView) → IsBook old → new ≡ closed torn old → KeepsOpened old new
close_opened torn old new is answer = (close_keeps torn old new is answer).opened

pub close_runs : (torn : Option (List ℕ)) (old new : BookView) → IsBook old → new ≡ closed torn old → Runs IsNoRun old new
close_runs torn old new is answer = (close_keeps torn old new is answer).runs

pub close_own : (torn : Option (List ℕ)) (old new : BookView) → IsBook old → new ≡ closed torn old → OwnLoadIsSafe new
close_own torn old new is answer = (close_keeps torn old new is answer).own

pub close_safe : (torn : Option (List ℕ)) (old new : BookView) → IsBook old → new ≡ closed torn old → KeepsSafe old new
close_safe torn old new is answer = (close_keeps torn old new is answer).safe

pub take_output_book : (given : Option (List ℕ)) (old new : BookView) → IsBook old → TakeOutputAnswer given old new → IsBook new
take_output_book given old new is answer = (take_output_keeps given old new is answer).book

pub take_output_opened : (given : Option (List ℕ)) (old new : BookView) → IsBook old → TakeOutputAnswer given old new → KeepsOpened old new
take_output_opened given old new is answer = (take_output_keeps given old new is answer).opened

pub take_output_runs : (given : Option (List ℕ)) (old new : BookView) → IsBook old → TakeOutputAnswer given old new → Runs IsNoRun old new
take_output_runs given old new is answer = (take_output_keeps given old new is answer).runs

pub take_output_own : (given : Option (List ℕ)) (old new : BookView) → IsBook old → TakeOutputAnswer given old new → OwnLoadIsSafe new
take_output_own given old new is answer = (take_output_keeps given old new is answer).own

pub take_output_safe : (given : Option (List ℕ)) (old new : BookView) → IsBook old → TakeOutputAnswer given old new → KeepsSafe old new
take_output_safe given old new is answer = (take_output_keeps given old new is answer).safe
