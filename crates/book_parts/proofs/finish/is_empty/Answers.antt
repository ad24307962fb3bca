use Rattle.book_parts.proofs.Ending.{nothing_held}
use Rattle.book_parts.proofs.finish.is_empty.Goals as goal

pub returns-then-not-has_queued : goal.returns-then-not-has_queued
returns-then-not-has_queued c = nothing_held c.args.queue.now c.has_queued.result c.has_out.result c.stands.ensures c.has_queued.ensures c.has_out.ensures c.if-not-has_queued.true
