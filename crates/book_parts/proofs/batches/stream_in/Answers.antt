use Rattle.std.proofs.Common.{ℕ, ◌<◌, Option, None, Some, IfSome}
use Rattle.book_queue.specs.Content.{IsBatchOf, IsQueue, QueueView}
use Rattle.book_parts.proofs.Committing.{batch_below}
use Rattle.book_parts.proofs.batches.stream_in.Goals as goal

below : (queue : QueueView) (batch : ℕ) (found : Option ℕ) → IsQueue queue → IfSome found (λ stream. IsBatchOf stream batch queue.held) → IfSome found (λ stream. stream < queue.streams)
below queue batch None is of = tt
below queue batch (Some stream) is of = batch_below queue stream batch is of

pub returns-clause-below : goal.returns-clause-below
returns-clause-below c = below c.args.queue.now c.args.batch c.stream_of.result c.stands.ensures c.stream_of.ensures.some
