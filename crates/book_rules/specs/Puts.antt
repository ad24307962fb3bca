-- What becomes of batches: they are handed out, committed, and taken back.
use Rattle.std.specs.Prelude.{◌≡◌, ◌⊎◌, ℕ, List, map, filter, not, slice_get, Option, None, Some, Result, Ok, Err, true, false, IsErrOf}
use Rattle.std.specs.List.{list_any}
use Rattle.basics.specs.Told.{RoseIf}
use Rattle.outside.specs.Dock.{DockSeen, DockGrew, DockMoves, dock_events}
use Rattle.outside.specs.Link.{AddsOn}
use Rattle.outside.specs.declared.event.Event.TheVariants.{Committed}
use Rattle.outside.specs.declared.event.RawRow.{RawRow}
use Rattle.outside.specs.declared.event.StreamPlan.{StreamPlan}
use Rattle.outside.specs.declared.fault.Fault.{Fault}
use Rattle.outside.specs.declared.fault.Fault.TheVariants as fault
use Rattle.outside.specs.declared.line.SeqLine.{SeqLine}
use Rattle.outside.specs.declared.status.Status.{Status}
use Rattle.outside.specs.declared.status.Status.TheVariants as status
use Rattle.batch_prep.specs.Items.{Batch, AreRows}
use Rattle.batch_prep.specs.declared.item.PrepPlan.{PrepPlan}
use Rattle.batch_prep.specs.declared.item.WorkItem.{WorkItem}
use Rattle.catalog.specs.declared.stream.ConfStream.{ConfStream}
use Rattle.column_types.specs.Columns.{AreColumns}
use Rattle.state_gate.specs.Content.{Content, with_committed}
use Rattle.state_gate.specs.Views.{GateView, Stands}
use Rattle.book_queue.specs.Content.{HandsOut, IsBatchOf, Sealed, batch_of, is_handed_out, is_in_batch, move, ready_of}
use Rattle.book_rules.specs.declared.answer.Put.{Put}
use Rattle.book_rules.specs.declared.answer.Put.TheVariants as put
use Rattle.book_rules.specs.Accepts.{broken_by}
use Rattle.book_rules.specs.Releases.{ReleaseAnswer}
use Rattle.book_rules.specs.Views.{BookView}

-- how the rows of a stream are made in the load
pub record IsPlanFor (book : BookView) (number : ℕ) (plan : PrepPlan) : Type 0 where
  pub stream : ConfStream
  pub configured : slice_get book.catalog number ≡ Some stream
  pub opened : StreamPlan
  pub planned : slice_get book.opening.plan number ≡ Some opened
  pub columns : AreColumns stream.schema plan.columns
  pub is : plan ≡ record { stream = number; load = book.opening.load; moment = book.opening.moment; generation = opened.generation; columns = plan.columns; key = stream.key; cursor = stream.cursor }

-- A batch is handed out: the front of the sealed records of the stream whose first one is oldest. None exactly where none is sealed.
pub record Picks (item : WorkItem) (old new : BookView) : Type 0 where
  pub number : ℕ
  pub ready : ready_of old.queue.held ≡ Some number
  pub plan : IsPlanFor old number item.plan
  pub goes : HandsOut number item.batch item.lines old.queue new.queue
  pub is : new ≡ record old { queue = new.queue }

abbrev pub PickAnswer : {T : Type 0} → Result (Option WorkItem) T → BookView → BookView → Type 0
PickAnswer (Ok (Some item)) old new = Picks item old new
PickAnswer (Ok None) old new = (ready_of old.queue.held ≡ None) × (new ≡ old)
PickAnswer (Err why) old new = new ≡ old

-- rows were committed, or not
pub record CommitsRows {T : Type 0} (result : Result T Fault) (number : ℕ) (rows : List RawRow) (old new : DockSeen) : Type 0 where
  pub grew : DockGrew old new
  pub moves : DockMoves old new
  pub events : AddsOn result (Committed number rows) (dock_events old) (dock_events new)
  pub face : new.face ≡ old.face
  pub rows_read : new.rows_read ≡ old.rows_read
  pub faults : RoseIf (IsErrOf result fault.Failed) old.counts.store_faults new.counts.store_faults
  pub counts : new.counts ≡ record (old.counts) { store_faults = new.counts.store_faults }

-- the gate without the records of a batch
pub record GateCommits (seqs : List ℕ) (old new : GateView) : Type 0 where
  pub content : (content : Content) → Stands content old → Stands (with_committed content seqs) new
  pub streams : new.streams ≡ old.streams
  pub next : new.next ≡ old.next
  pub states : new.states ≡ old.states

abbrev pub seqs_of : List SeqLine → List ℕ
seqs_of lines = map (λ line. line.seq) lines

-- no batch with this number is handed out
abbrev pub IsStranger : ℕ → BookView → Type 0
IsStranger batch book = list_any (is_in_batch batch) book.queue.held ≡ false

-- The rows that are committed are those of the book's own lines by its own plan, whatever was handed in.
pub record OwnRows (batch number : ℕ) (book : BookView) (rows : List RawRow) : Type 0 where
  pub of : IsBatchOf number batch book.queue.held
  pub plan : PrepPlan
  pub planned : IsPlanFor book number plan
  pub are : AreRows plan (batch_of batch book.queue.held) rows

-- where a put stops behind its comparison
abbrev pub Stops : {T : Type 0} → Status → ℕ → Result T Fault → BookView → BookView → Type 0
Stops stop batch result old new = (number : ℕ) × (rows : List RawRow) × (seen : DockSeen) × OwnRows batch number old rows × CommitsRows result number rows old.seen seen × (new ≡ record old { seen = seen; tally = record (old.tally) { broken = Some stop } })

-- The batch was committed. Its slots are free, the gate knows, and all states that may go were released.
pub record Commits (batch : ℕ) (released : Result (Unit {0}) Fault) (old new : BookView) : Type 0 where
  pub number : ℕ
  pub rows : List RawRow
  pub own : OwnRows batch number old rows
  pub seen : DockSeen
  pub commits : CommitsRows {T = Unit {0}} (Ok tt) number rows old.seen seen
  pub gate : GateView
  pub knows : GateCommits (seqs_of (batch_of batch old.queue.held)) old.gate gate
  pub releases : ReleaseAnswer released (record { gate = gate; seen = seen; emitted = old.tally.emitted }) (record { gate = new.gate; seen = new.seen; emitted = new.tally.emitted })
  pub is : new ≡ record old { seen = new.seen; gate = new.gate; queue = record (old.queue) { held = filter (λ one. not (is_in_batch batch one)) old.queue.held }; tally = record (old.tally) { emitted = new.tally.emitted; broken = broken_by released } }

-- memory was wanting before the commit: nothing but that is new
abbrev pub LacksMemory : BookView → BookView → Type 0
LacksMemory old new = new ≡ record old { tally = record (old.tally) { broken = Some status.NoMemory } }

-- why a book that was not broken is so now
abbrev pub BreaksPut : Status → ℕ → BookView → BookView → Type 0
BreaksPut status.NoMemory batch old new = LacksMemory old new ⊎ Stops {T = Unit {0}} status.NoMemory batch (Err fault.NoMemory) old new ⊎ Commits batch (Err fault.NoMemory) old new
BreaksPut status.StoreFault batch old new = Stops {T = Unit {0}} status.StoreFault batch (Err fault.Failed) old new
BreaksPut status.WriteFault batch old new = Commits batch (Err fault.Failed) old new
BreaksPut _ batch old new = ⊥

abbrev pub BrokenPut : Option Status → Status → ℕ → BookView → BookView → Type 0
BrokenPut (Some first) stop batch old new = (stop ≡ first) × (new ≡ old)
BrokenPut None stop batch old new = (list_any (is_in_batch batch) old.queue.held ≡ true) × BreaksPut stop batch old new

-- What became of a batch. It comes back exactly where the book is not broken and no batch with its number is handed out.
abbrev pub PutAnswer : Batch → Put → BookView → BookView → Type 0
PutAnswer done put.Done old new = (old.tally.broken ≡ None) × Commits done.item.batch (Ok tt) old new
PutAnswer done (put.Stranger back) old new = (old.tally.broken ≡ None) × IsStranger done.item.batch old × (back ≡ done) × (new ≡ old)
PutAnswer done (put.Broken stop) old new = BrokenPut old.tally.broken stop done.item.batch old new

-- A batch is sealed again; it comes back exactly where no batch with its number is handed out.
abbrev pub GiveBackAnswer : WorkItem → Option WorkItem → BookView → BookView → Type 0
GiveBackAnswer item None old new = (list_any (is_in_batch item.batch) old.queue.held ≡ true) × (new ≡ record old { queue = record (old.queue) { held = move (is_in_batch item.batch) Sealed old.queue.held } })
GiveBackAnswer item (Some back) old new = IsStranger item.batch old × (back ≡ item) × (new ≡ old)

-- every batch that is handed out is sealed again
abbrev pub recalled : BookView → BookView
recalled book = record book { queue = record (book.queue) { held = move is_handed_out Sealed book.queue.held } }
