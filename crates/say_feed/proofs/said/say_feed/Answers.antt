use Rattle.std.proofs.Common.{◌≡◌, ◌∙◌, Bool, Ok, Err, subst, arith}
use Rattle.outside.specs.declared.status.Status.{Status}
use Rattle.outside.proofs.Says.{only_then}
use Rattle.say_feed.specs.Said.{SaysNext}
use Rattle.say_feed.proofs.FeedLemmas.{one_line_more}
use Rattle.say_feed.proofs.said.say_feed.Goals as goal

ok_not_err : (more : Bool) (why : Status) → Ok more ≡ Err why → ⊥
ok_not_err more why e = cc

pub lines-preserved : goal.lines-preserved
lines-preserved g c =
    let more = c.in-Ok-true.ensures.more c.in-Ok-true.field-0-test in
    let feed = c.lines.feed in
    let next = c.say_next.new.feed in
    let line = subst (λ (b : Bool). SaysNext (Ok b) (g.F.Feed.MayGive feed) (g.F.Feed.MayGive next) (g.F.Feed.seen feed).faults (g.F.Feed.seen next).faults (g.K.Desk.seen c.lines.desk) (g.K.Desk.seen c.say_next.new.desk)) c.in-Ok-true.field-0-test c.in-Ok-true.ensures.says in
    record {
      ended = more.0;
      first = more.1;
      so_far = one_line_more (g.F.Feed.MayGive c.args.feed.now) (g.F.Feed.MayGive feed) (g.F.Feed.MayGive next) (g.K.Desk.seen c.args.desk.now) (g.K.Desk.seen c.lines.desk) (g.K.Desk.seen c.say_next.new.desk) c.lines.invariant.so_far line;
      faults = omega (arith, c.lines.invariant.faults, c.in-Ok-true.ensures.faults);
      only = only_then ⊥ ⊥ (g.K.Desk.seen c.args.desk.now) (g.K.Desk.seen c.lines.desk) (g.K.Desk.seen c.say_next.new.desk) c.lines.invariant.only c.in-Ok-true.ensures.only;
      stays = c.in-Ok-true.ensures.stays (ok_not_err c.in-Ok-true.field-0 _) ∙ c.lines.invariant.stays;
    }
