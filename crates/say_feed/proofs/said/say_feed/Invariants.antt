use Rattle.std.proofs.Common.{◌≡◌, ◌≤◌, None}
use Rattle.outside.specs.Desk.{SaysOnly}
use Rattle.outside.specs.Feed.{anything}
use Rattle.say_feed.specs.Said.{SaidSoFar}
use Rattle.say_feed.proofs.said.say_feed.Given as goal

-- the lines so far were said
abbrev pub invariant-lines : goal.invariant-lines
invariant-lines g l = record {
  ended : (g.F.Feed.seen l.feed).ended ≡ None;
  first : g.F.Feed.MayGive l.feed anything;
  so_far : SaidSoFar (g.F.Feed.MayGive l.fn.feed) (g.F.Feed.MayGive l.feed) (g.K.Desk.seen l.fn.desk) (g.K.Desk.seen l.desk);
  faults : (g.F.Feed.seen l.fn.feed).faults ≤ (g.F.Feed.seen l.feed).faults;
  only : SaysOnly ⊥ (g.K.Desk.seen l.fn.desk) (g.K.Desk.seen l.desk);
  stays : (g.K.Desk.seen l.desk).say_faults ≡ (g.K.Desk.seen l.fn.desk).say_faults;
}
