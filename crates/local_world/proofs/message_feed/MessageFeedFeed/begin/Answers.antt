use Rattle.std.proofs.Common.{None, subst}
use Rattle.local_world.specs.Begun.{Begins, Replay, left_until}
use Rattle.local_world.proofs.message_feed.MessageFeedFeed.begin.Goals as goal

pub returns-in-Ok-clause-begins : goal.returns-in-Ok-clause-begins
returns-in-Ok-clause-begins c = λ left may.
    let whole = left_until None c.restart.new.lines.left in
    (whole, subst (λ (v : Replay). Begins v.text c.args.states.now whole) c.self.view_is c.in-Ok.ensures.begins, may)
