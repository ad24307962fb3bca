use Rattle.std.proofs.Common.{ℕ, ◌<◌, ◌≡◌, Option, None, Some, IfSome, sym}
use Rattle.book_queue.specs.Content.{IsQueue, QueueView, ready_of}
use Rattle.book_parts.proofs.Committing.{ready_below}
use Rattle.book_parts.proofs.batches.ready_in.Goals as goal

below : (queue : QueueView) (ready : Option ℕ) → IsQueue queue → ready ≡ ready_of queue.held → IfSome ready (λ stream. stream < queue.streams)
below queue None is ready = tt
below queue (Some stream) is ready = ready_below queue stream is (sym ready)

pub returns-clause-below : goal.returns-clause-below
returns-clause-below c = below c.args.queue.now c.ready.result c.stands.ensures c.ready.ensures
