use Rattle.std.proofs.Common.{◌≡◌, ◌∙◌, ap, is_some, subst, sym}
use Rattle.std.specs.List.{list_any}
use Rattle.buffer_pool.specs.Content.{oldest_of}
use Rattle.book_queue.specs.Content.{all_of, is_in_queue}
use Rattle.book_queue.proofs.Seen.{queued_any}
use Rattle.book_queue.proofs.queue.BookQueue.has_queued.Goals as goal

pub returns-else-is_some : goal.returns-else-is_some
returns-else-is_some c = c.is_some-else-is_some.ensures ∙ (ap is_some c.oldest.ensures ∙ subst (λ view. is_some (oldest_of c.self.inside.pool.held) ≡ list_any is_in_queue (all_of view)) c.self.view_is (queued_any c.self.inside.lanes.items c.self.inside.out.items c.self.inside.parked c.self.inside.pool.held (sym c.is_some.ensures ∙ c.if-is_some.false)))
