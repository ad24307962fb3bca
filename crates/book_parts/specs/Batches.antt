-- For private clauses: what a batch is to a book, and the steps of a put.
use Rattle.std.specs.Prelude.{◌≡◌, ℕ, filter, not, Some, Result, Ok, Err}
use Rattle.outside.specs.declared.fault.Fault.{Fault}
use Rattle.outside.specs.declared.status.Status.{Status}
use Rattle.batch_prep.specs.declared.item.WorkItem.{WorkItem}
use Rattle.state_gate.specs.Views.{GateView}
use Rattle.book_queue.specs.Content.{batch_of, is_in_batch}
use Rattle.book_rules.specs.declared.answer.Put.{Put}
use Rattle.book_rules.specs.declared.answer.Put.TheVariants as put
use Rattle.book_rules.specs.Accepts.{broken_by}
use Rattle.book_rules.specs.Puts.{BreaksPut, Commits, GateCommits, IsPlanFor, OwnRows, seqs_of}
use Rattle.book_rules.specs.Releases.{ReleaseAnswer, stop_of}
use Rattle.book_rules.specs.Views.{BookView}
use Rattle.book_parts.specs.declared.batches.OwnBatch.{OwnBatch}

-- the item is the book's own batch of this number, by its own plan
pub record IsOwn (number batch : ℕ) (book : BookView) (item : WorkItem) : Type 0 where
  pub batch_is : item.batch ≡ batch
  pub plan : IsPlanFor book number item.plan
  pub lines : item.lines ≡ batch_of batch book.queue.held

abbrev pub OwnsItem : ℕ → BookView → WorkItem → Type 0
OwnsItem number book item = IsOwn number item.batch book item

-- the rows of a batch, and the sequences of its records
pub record HasRows (number batch : ℕ) (book : BookView) (own : OwnBatch) : Type 0 where
  pub rows : OwnRows batch number book own.rows
  pub seqs : own.seqs.items ≡ seqs_of (batch_of batch book.queue.held)

pub record BreaksBy (stop : Status) (result : Put) (old new : BookView) : Type 0 where
  pub answer : result ≡ put.Broken stop
  pub is : new ≡ record old { tally = record (old.tally) { broken = Some stop } }

-- a batch that is committed is let go, the gate knows, and all states that may go are released
pub record Frees (batch : ℕ) (released : Result (Unit {0}) Fault) (old new : BookView) : Type 0 where
  pub gate : GateView
  pub knows : GateCommits (seqs_of (batch_of batch old.queue.held)) old.gate gate
  pub releases : ReleaseAnswer released (record { gate = gate; seen = old.seen; emitted = old.tally.emitted }) (record { gate = new.gate; seen = new.seen; emitted = new.tally.emitted })
  pub is : new ≡ record old { seen = new.seen; gate = new.gate; queue = record (old.queue) { held = filter (λ one. not (is_in_batch batch one)) old.queue.held }; tally = record (old.tally) { emitted = new.tally.emitted; broken = broken_by released } }

abbrev pub FreeAnswer : ℕ → Put → BookView → BookView → Type 0
FreeAnswer batch put.Done old new = Frees batch (Ok tt) old new
FreeAnswer batch (put.Stranger back) old new = ⊥
FreeAnswer batch (put.Broken stop) old new = (fault : Fault) × (stop ≡ stop_of fault) × Frees batch (Err fault) old new

abbrev pub PutsOwn : ℕ → Put → BookView → BookView → Type 0
PutsOwn batch put.Done old new = Commits batch (Ok tt) old new
PutsOwn batch (put.Stranger back) old new = ⊥
PutsOwn batch (put.Broken stop) old new = BreaksPut stop batch old new
