use Rattle.std.proofs.Common.{◌∙◌}
use Rattle.book_queue.proofs.Recalling.{has_out_is}
use Rattle.book_queue.proofs.queue.BookQueue.has_out.Goals as goal

pub returns : goal.returns
returns c = c.is_some.ensures ∙ has_out_is c.last_out.result c.args.self.now.held c.last_out.ensures.none c.last_out.ensures.some
