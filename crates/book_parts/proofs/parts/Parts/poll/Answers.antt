use Rattle.book_parts.proofs.Taking.{takes_next}
use Rattle.book_parts.proofs.parts.Parts.poll.Goals as goal

pub returns : goal.returns
returns g c =
    let e = c.poll_line-given.ensures in
    takes_next c.take.result _ _ c.take.new.self c.poll_line-given.result (g.D.Dock.seen c.poll_line-given.new.self) c.self.view_is
    (record { grew = e.grew; moves = e.moves; events = e.events; within = e.within; face = e.face; hand = e.hand; rows_read = e.rows_read; quiet = e.quiet; faults = e.faults; counts = e.counts })
    c.take.ensures
