-- Each call makes a book of a book, by a run of the machine.
use Rattle.std.proofs.Common.{arith, ◌≡◌, ◌≢◌, ℕ, ◌+◌, ◌≤◌, List, [], ◌∷◌, length, Bool, Option, None, Some, Result, Ok, Err, refl, sym, ◌∙◌, ap, subst}
use Rattle.std.specs.Prelude.{IfSome}
use Rattle.std.specs.List.{AllByRecursion}
use Rattle.basics.specs.declared.memory.NoMemory.{NoMemory}
use Rattle.basics.specs.declared.stream.StreamId.{StreamId}
use Rattle.catalog.specs.Configured.{AreConfigured}
use Rattle.catalog.specs.declared.stream.ConfStream.{ConfStream}
use Rattle.airbyte_message.specs.Lanes.{Lane, lane_of}
use Rattle.airbyte_message.specs.State.{State}
use Rattle.airbyte_message.specs.declared.message.StateKind.{StateKind}
use Rattle.airbyte_message.specs.declared.message.StateKind.TheVariants.{Legacy}
use Rattle.batch_prep.specs.Items.{Batch}
use Rattle.batch_prep.specs.declared.item.WorkItem.{WorkItem}
use Rattle.outside.specs.Dock.{DockGrew, DockMoves, dock_events, tables}
use Rattle.outside.specs.Limits.{AreLimits}
use Rattle.outside.specs.declared.event.StreamPlan.{StreamPlan}
use Rattle.outside.specs.declared.load.Limits.{Limits}
use Rattle.outside.specs.declared.status.Status.{Status}
use Rattle.load_rules.specs.Acts.{taken}
use Rattle.load_rules.specs.Engine.{PlansFit}
use Rattle.load_rules.specs.Lines.{Line, record_in}
use Rattle.load_rules.specs.Loads.{Opening}
use Rattle.load_rules.specs.Machine.{Machine, Step, run}
use Rattle.load_rules.specs.Taken.{LaneState, and_record, entries_from}
use Rattle.state_gate.specs.declared.pending.Waiting.{Waiting}
use Rattle.airbyte_message.specs.declared.message.RecordMsg.{RecordMsg}
use Rattle.book_rules.specs.declared.answer.Accepted.{Accepted}
use Rattle.book_rules.specs.declared.answer.Put.{Put}
use Rattle.book_rules.specs.declared.answer.Put.TheVariants as put
use Rattle.book_rules.specs.Accepts.{AcceptAnswer, AnswersUnless}
use Rattle.book_rules.specs.Books.{IsAcceptRun, IsBook, IsGiveBackRun, IsPickRun, IsPutRun, IsRecallRun, KeepsOpened, KeepsSafe, OwnLoadIsSafe, Runs}
use Rattle.book_rules.specs.Holds.{AreWaiting, CanPut, HasKind, IsReady}
use Rattle.book_rules.specs.Laws.{AcceptKeeps, BooksAreReady, BooksAreSafe, BooksCanPut, GiveBackKeeps, Keeps, PickKeeps, PutKeeps, RecallKeeps}
use Rattle.book_rules.specs.Puts.{BrokenPut, GiveBackAnswer, PickAnswer, PutAnswer, recalled}
use Rattle.book_rules.specs.Views.{BookView, HasPlans, ids, plans_now}
use Rattle.book_rules.proofs.Batching as batching
use Rattle.book_rules.proofs.Committing as committing
use Rattle.book_rules.proofs.Lists.{none_some}
use Rattle.book_rules.proofs.Moving.{QueueStays, Stays, accept_stays, give_back_stays, pick_stays, put_stays, recall_stays}
use Rattle.book_rules.proofs.Polling as polling
use Rattle.book_rules.proofs.Running.{KeepsRunOf, PlansAre, in_tables, of_tables, plain_keeps, plain_stay}
use Rattle.book_rules.proofs.Safe.{keeps_safe, own_is_safe}
use Rattle.book_rules.proofs.Whole.{IsWhole, whole_of}

-- what a call leaves as it was, whatever else is new
pub record Remains (old new : BookView) : Type 0 where
  pub catalog : new.catalog ≡ old.catalog
  pub opening : new.opening ≡ old.opening
  pub limits : new.limits ≡ old.limits
  pub listed : length new.shown ≡ length old.shown
  pub queue : QueueStays old.queue new.queue
  pub many : length new.seen.face.side_marks ≡ length old.seen.face.side_marks
  pub moves : DockMoves old.seen new.seen
  pub grew : DockGrew old.seen new.seen

-- a book that is not broken has the plans of its store's load
abbrev pub HasOwnPlans : BookView → Type 0
HasOwnPlans book = book.tally.broken ≡ None → IfSome (tables book.seen) (HasPlans book)

-- what stands for the book stands for the new one
pub kept : (shape : List Step → Type 0) (old new : BookView) → IsBook old → Remains old new → HasOwnPlans new → Runs shape old new → IsBook new
kept shape old new is remains plans runs =
    let went = runs is.machine is.is in
    record {
      configured = subst (λ (streams : List ConfStream). AreConfigured streams) (sym remains.catalog) is.configured;
      planned = subst (λ (opening : Opening). PlansFit new.catalog opening.plan) (sym remains.opening) (subst (λ (streams : List ConfStream). PlansFit streams old.opening.plan) (sym remains.catalog) is.planned);
      as_many = remains.many ∙ (is.as_many ∙ ap (λ (streams : List ConfStream). length streams) (sym remains.catalog));
      listed = remains.listed ∙ (is.listed ∙ ap (λ (streams : List ConfStream). length streams) (sym remains.catalog));
      queue_streams = remains.queue.streams ∙ (is.queue_streams ∙ ap (λ (streams : List ConfStream). length streams) (sym remains.catalog));
      limits_are = subst AreLimits (sym remains.limits) is.limits_are;
      slots = remains.queue.slots ∙ (is.slots ∙ ap (λ (it : Limits). it.slots) (sym remains.limits));
      bytes = remains.queue.bytes ∙ (is.bytes ∙ ap (λ (it : Limits). it.bytes) (sym remains.limits));
      batch = remains.queue.batch ∙ (is.batch ∙ ap (λ (it : Limits). it.batch) (sym remains.limits));
      parked_small = remains.queue.small is.parked_small;
      plans = plans;
      machine = run old.catalog went.steps is.machine;
      is = went.leads;
    }

pub keeps : (shape : List Step → Type 0) (old new : BookView) → IsBook old → Remains old new → HasOwnPlans new → (IsBook new → KeepsRunOf new.catalog old.seen new.seen) → Runs shape old new → Keeps shape old new
keeps shape old new is remains plans run runs =
    let book = kept shape old new is remains plans runs in
    record { book = book; opened = record { catalog = remains.catalog; opening = remains.opening; limits = remains.limits }; runs = runs; moves = remains.moves; grew = remains.grew; own = own_is_safe new book; safe = keeps_safe old new book remains.catalog remains.limits remains.moves (run book) }

-- Calls that take, hand out, commit and emit

remains_of : (old new : BookView) → Stays old new → Remains old new
remains_of old new stays = record { catalog = stays.catalog; opening = stays.opening; limits = stays.limits; listed = ap (λ (list : List Bool). length list) stays.shown; queue = stays.queue; many = stays.seen.many; moves = stays.seen.moves; grew = stays.seen.grew }

plans_stay : (old new : BookView) → IsBook old → Stays old new → (new.tally.broken ≡ None → old.tally.broken ≡ None) → HasOwnPlans new
plans_stay old new is stays whole none =
    let before : PlansAre (plans_now old.opening.plan old.shown) (dock_events old.seen) = of_tables (HasPlans old) (dock_events old.seen) (is.plans (whole none)) in
    let after : PlansAre (plans_now old.opening.plan old.shown) (dock_events new.seen) = plain_stay (plans_now old.opening.plan old.shown) (dock_events old.seen) (dock_events new.seen) stays.seen.adds before in
    let same : plans_now old.opening.plan old.shown ≡ plans_now new.opening.plan new.shown = ap (λ (opening : Opening). plans_now opening.plan old.shown) (sym stays.opening) ∙ ap (plans_now new.opening.plan) (sym stays.shown) in
    in_tables (HasPlans new) (dock_events new.seen) (subst (λ (plans : List StreamPlan). PlansAre plans (dock_events new.seen)) same after)

keeps_plain : (shape : List Step → Type 0) (old new : BookView) → IsBook old → Stays old new → (new.tally.broken ≡ None → old.tally.broken ≡ None) → Runs shape old new → Keeps shape old new
keeps_plain shape old new is stays whole runs = keeps shape old new is (remains_of old new stays) (plans_stay old new is stays whole) (λ book. plain_keeps new old.seen (own_is_safe new book) stays.seen.adds) runs

-- a book that is not broken behind a call was not before it

same_whole : (old new : BookView) → new ≡ old → new.tally.broken ≡ None → old.tally.broken ≡ None
same_whole old new same none = ap (λ (it : BookView). it.tally.broken) (sym same) ∙ none

accept_whole : (result : Accepted) (old new : BookView) → AcceptAnswer result old new → new.tally.broken ≡ None → old.tally.broken ≡ None
accept_whole result old new answer none = at old.tally.broken refl answer
  where
    at : (broken : Option Status) → old.tally.broken ≡ broken → AnswersUnless broken old.tally.is_ended result old new → old.tally.broken ≡ None
    at None is given = is
    at (Some stop) is given = same_whole old new given.1 none

pick_whole : (result : Result (Option WorkItem) NoMemory) (old new : BookView) → PickAnswer result old new → new.tally.broken ≡ None → old.tally.broken ≡ None
pick_whole (Ok (Some item)) old new p none = ap (λ (it : BookView). it.tally.broken) (sym p.is) ∙ none
pick_whole (Ok None) old new p none = same_whole old new p.1 none
pick_whole (Err why) old new same none = same_whole old new same none

put_whole : (done : Batch) (result : Put) (old new : BookView) → PutAnswer done result old new → new.tally.broken ≡ None → old.tally.broken ≡ None
put_whole done put.Done old new answer none = answer.0
put_whole done (put.Stranger back) old new answer none = answer.0
put_whole done (put.Broken stop) old new answer none = at old.tally.broken refl answer
  where
    at : (broken : Option Status) → old.tally.broken ≡ broken → BrokenPut broken stop done.item.batch old new → old.tally.broken ≡ None
    at None is given = is
    at (Some first) is given = same_whole old new given.1 none

give_back_whole : (item : WorkItem) (result : Option WorkItem) (old new : BookView) → GiveBackAnswer item result old new → new.tally.broken ≡ None → old.tally.broken ≡ None
give_back_whole item None old new answer none = ap (λ (it : BookView). it.tally.broken) (sym answer.1) ∙ none
give_back_whole item (Some back) old new answer none = same_whole old new answer.2 none

recall_whole : (old new : BookView) → new ≡ recalled old → new.tally.broken ≡ None → old.tally.broken ≡ None
recall_whole old new same none = ap (λ (it : BookView). it.tally.broken) (sym same) ∙ none

pub accept_keeps : AcceptKeeps
accept_keeps result old new is answer = keeps_plain IsAcceptRun old new is (accept_stays result old new answer) (accept_whole result old new answer) (polling.accept_runs result old new is.configured.distinct answer)

pub pick_keeps : PickKeeps
pick_keeps result old new is answer = keeps_plain IsPickRun old new is (pick_stays result old new answer) (pick_whole result old new answer) (batching.pick_runs result old new is.configured.distinct answer)

pub put_keeps : PutKeeps
put_keeps done result old new is answer = keeps_plain IsPutRun old new is (put_stays done result old new answer) (put_whole done result old new answer) (committing.put_runs done result old new is.configured.distinct is.planned answer)

pub give_back_keeps : GiveBackKeeps
give_back_keeps item result old new is answer = keeps_plain (IsGiveBackRun item.batch) old new is (give_back_stays item result old new answer) (give_back_whole item result old new answer) (batching.give_back_runs item result old new is.configured.distinct answer)

pub recall_keeps : RecallKeeps
recall_keeps old new is answer = keeps_plain IsRecallRun old new is (recall_stays old new answer) (recall_whole old new answer) (batching.recall_runs old new answer)

pub books_are_safe : BooksAreSafe
books_are_safe = own_is_safe

-- A book that can take a line

not_legacy : (kind : StateKind) (lane : Lane) → lane_of kind ≡ Some lane → kind ≢ Legacy
not_legacy kind lane laned is = none_some lane (sym (ap lane_of is) ∙ laned)

kinds_are : (ids_ : List StreamId) (states : List LaneState) (waiting : List Waiting) → AreWaiting ids_ states waiting → AllByRecursion HasKind waiting
kinds_are ids_ [] [] are = tt
kinds_are ids_ [] (other ∷ others) are = absurd are
kinds_are ids_ (state ∷ more) [] are = absurd are
kinds_are ids_ (state ∷ more) (other ∷ others) are = (λ legacy. not_legacy state.state.kind state.lane are.0.laned (ap (λ (it : State). it.kind) (sym are.0.state_is) ∙ legacy), kinds_are ids_ more others are.1)

fewer_entries : (seq : ℕ) (lines : List Line) → length (entries_from seq lines) ≤ length lines
fewer_entries seq [] = omega arith
fewer_entries seq (line ∷ lines) = at (record_in line.found) (fewer_entries seq lines) (fewer_entries (seq + 1) lines)
  where
    at : (found : Option RecordMsg) → length (entries_from seq lines) ≤ length lines → length (entries_from (seq + 1) lines) ≤ length lines → length (and_record seq found (λ next. entries_from next lines)) ≤ length (line ∷ lines)
    at None none some = omega (arith, none)
    at (Some content) none some = omega (arith, some)

ready : (book : BookView) (m : Machine) → IsWhole book m → IsReady book
ready book m w = record {
  releases = record {
    content = w.holds.content;
    stands = w.holds.gate;
    kinds = kinds_are (ids book) m.waiting w.holds.content.waiting w.holds.waiting;
    room = let a = w.holds.states in let b = w.holds.gate_states in let c = w.holds.few in omega (arith, a, b, c);
  };
  gate_streams = w.holds.gate_streams;
  queue_streams = w.holds.queue_streams;
  next = w.holds.queue_next ∙ sym w.holds.gate_next;
  next_few =
      let a = w.tallied.records in
      let b = w.tallied.lines in
      let c = fewer_entries 0 (taken m.acts) in
      let d = w.holds.few in
      omega (arith, a, b, c, d);
  states_few = let b = w.holds.gate_states in let c = w.holds.few in omega (arith, b, c);
  few = let c = w.holds.few in omega (arith, c);
  statuses = w.holds.statuses_many;
}

pub books_are_ready : BooksAreReady
books_are_ready book is whole = ready book is.machine (whole_of book is.machine whole is.is)

can_put : (book : BookView) (m : Machine) → IsBook book → IsWhole book m → CanPut book
can_put book m is w = record {
  content = w.holds.content;
  stands = w.holds.gate;
  uncommitted = w.holds.uncommitted;
  kinds = kinds_are (ids book) m.waiting w.holds.content.waiting w.holds.waiting;
  room = let a = w.holds.states in let b = w.holds.gate_states in let c = w.holds.few in omega (arith, a, b, c);
  queue_streams = is.queue_streams;
  as_many = is.as_many;
}

pub books_can_put : BooksCanPut
books_can_put book is whole = can_put book is.machine is (whole_of book is.machine whole is.is)

-- The same, clause by clause, as a book's calls cite them.

pub accept_book : (result : Accepted) (old new : BookView) → IsBook old → AcceptAnswer result old new → IsBook new
accept_book result old new is answer = (accept_keeps result old new is answer).book

pub accept_opened : (result : Accepted) (old new : BookView) → IsBook old → AcceptAnswer result old new → KeepsOpened old new
accept_opened result old new is answer = (accept_keeps result old new is answer).opened

pub accept_runs : (result : Accepted) (old new : BookView) → IsBook old → AcceptAnswer result old new → Runs IsAcceptRun old new
accept_runs result old new is answer = (accept_keeps result old new is answer).runs

pub accept_moves : (result : Accepted) (old new : BookView) → IsBook old → AcceptAnswer result old new → DockMoves old.seen new.seen
accept_moves result old new is answer = (accept_keeps result old new is answer).moves

pub accept_grew : (result : Accepted) (old new : BookView) → IsBook old → AcceptAnswer result old new → DockGrew old.seen new.seen
accept_grew result old new is answer = (accept_keeps result old new is answer).grew

pub accept_own : (result : Accepted) (old new : BookView) → IsBook old → AcceptAnswer result old new → OwnLoadIsSafe new
accept_own result old new is answer = (accept_keeps result old new is answer).own

pub accept_safe : (result : Accepted) (old new : BookView) → IsBook old → AcceptAnswer result old new → KeepsSafe old new
accept_safe result old new is answer = (accept_keeps result old new is answer).safe

pub pick_book : (result : Result (Option WorkItem) NoMemory) (old new : BookView) → IsBook old → PickAnswer result old new → IsBook new
pick_book result old new is answer = (pick_keeps result old new is answer).book

pub pick_opened : (result : Result (Option WorkItem) NoMemory) (old new : BookView) → IsBook old → PickAnswer result old new → KeepsOpened old new
pick_opened result old new is answer = (pick_keeps result old new is answer).opened

pub pick_runs : (result : Result (Option WorkItem) NoMemory) (old new : BookView) → IsBook old → PickAnswer result old new → Runs IsPickRun old new
pick_runs result old new is answer = (pick_keeps result old new is answer).runs

pub pick_moves : (result : Result (Option WorkItem) NoMemory) (old new : BookView) → IsBook old → PickAnswer result old new → DockMoves old.seen new.seen
pick_moves result old new is answer = (pick_keeps result old new is answer).moves

pub pick_grew : (result : Result (Option WorkItem) NoMemory) (old new : BookView) → IsBook old → PickAnswer result old new → DockGrew old.seen new.seen
pick_grew result old new is answer = (pick_keeps result old new is answer).grew

pub pick_own : (result : Result (Option WorkItem) NoMemory) (old new : BookView) → IsBook old → PickAnswer result old new → OwnLoadIsSafe new
pick_own result old new is answer = (pick_keeps result old new is answer).own

pub pick_safe : (result : Result (Option WorkItem) NoMemory) (old new : BookView) → IsBook old → PickAnswer result old new → KeepsSafe old new
pick_safe result old new is answer = (pick_keeps result old new is answer).safe

pub put_book : (done : Batch) (result : Put) (old new : BookView) → IsBook old → PutAnswer done result old new → IsBook new
put_book done result old new is answer = (put_keeps done result old new is answer).book

pub put_opened : (done : Batch) (result : Put) (old new : BookView) → IsBook old → PutAnswer done result old new → KeepsOpened old new
put_opened done result old new is answer = (put_keeps done result old new is answer).opened

pub put_runs : (done : Batch) (result : Put) (old new : BookView) → IsBook old → PutAnswer done result old new → Runs IsPutRun old new
put_runs done result old new is answer = (put_keeps done result old new is answer).runs

pub put_moves : (done : Batch) (result : Put) (old new : BookView) → IsBook old → PutAnswer done result old new → DockMoves old.seen new.seen
put_moves done result old new is answer = (put_keeps done result old new is answer).moves

pub put_grew : (done : Batch) (result : Put) (old new : BookView) → IsBook old → PutAnswer done result old new → DockGrew old.seen new.seen
put_grew done result old new is answer = (put_keeps done result old new is answer).grew

pub put_own : (done : Batch) (result : Put) (old new : BookView) → IsBook old → PutAnswer done result old new → OwnLoadIsSafe new
put_own done result old new is answer = (put_keeps done result old new is answer).own

pub put_safe : (done : Batch) (result : Put) (old new : BookView) → IsBook old → PutAnswer done result old new → KeepsSafe old new
put_safe done result old new is answer = (put_keeps done result old new is answer).safe

pub give_back_book : (item : WorkItem) (result : Option WorkItem) (old new : BookView) → IsBook old → GiveBackAnswer item result old new → IsBook new
give_back_book item result old new is answer = (give_back_keeps item result old new is answer).book

pub give_back_opened : (item : WorkItem) (result : Option WorkItem) (old new : BookView) → IsBook old → GiveBackAnswer item result old new → KeepsOpened old new
give_back_opened item result old new is answer = (give_back_keeps item result old new is answer).opened

pub give_back_runs : (item : WorkItem) (result : Option WorkItem) (old new : BookView) → IsBook old → GiveBackAnswer item result old new → Runs (IsGiveBackRun item.batch) old new
give_back_runs item result old new is answer = (give_back_keeps item result old new is answer).runs

pub give_back_moves : (item : WorkItem) (result : Option WorkItem) (old new : BookView) → IsBook old → GiveBackAnswer item result old new → DockMoves old.seen new.seen
give_back_moves item result old new is answer = (give_back_keeps item result old new is answer).moves

pub give_back_grew : (item : WorkItem) (result : Option WorkItem) (old new : BookView) → IsBook old → GiveBackAnswer item result old new → DockGrew old.seen new.seen
give_back_grew item result old new is answer = (give_back_keeps item result old new is answer).grew

pub give_back_own : (item : WorkItem) (result : Option WorkItem) (old new : BookView) → IsBook old → GiveBackAnswer item result old new → OwnLoadIsSafe new
give_back_own item result old new is answer = (give_back_keeps item result old new is answer).own

pub give_back_safe : (item : WorkItem) (result : Option WorkItem) (old new : BookView) → IsBook old → GiveBackAnswer item result old new → KeepsSafe old new
give_back_safe item result old new is answer = (give_back_keeps item result old new is answer).safe

pub recall_book : (old new : BookView) → IsBook old → new ≡ recalled old → IsBook new
recall_book old new is answer = (recall_keeps old new is answer).book

pub recall_opened : (old new : BookView) → IsBook old → new ≡ recalled old → KeepsOpened old new
recall_opened old new is answer = (recall_keeps old new is answer).opened

pub recall_runs : (old new : BookView) → IsBook old → new ≡ recalled old → Runs IsRecallRun old new
recall_runs old new is answer = (recall_keeps old new is answer).runs

pub recall_moves : (old new : BookView) → IsBook old → new ≡ recalled old → DockMoves old.seen new.seen
recall_moves old new is answer = (recall_keeps old new is answer).moves

pub recall_grew : (old new : BookView) → IsBook old → new ≡ recalled old → DockGrew old.seen new.seen
recall_grew old new is answer = (recall_keeps old new is answer).grew

pub recall_own : (old new : BookView) → IsBook old → new ≡ recalled old → OwnLoadIsSafe new
recall_own old new is answer = (recall_keeps old new is answer).own

pub recall_safe : (old new : BookView) → IsBook old → new ≡ recalled old → KeepsSafe old new
recall_safe old new is answer = (recall_keeps old new is answer).safe

pub book_streams : (book : BookView) → IsBook book → book.queue.streams ≡ length book.catalog
book_streams book is = is.queue_streams
