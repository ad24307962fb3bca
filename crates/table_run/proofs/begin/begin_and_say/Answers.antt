use Rattle.std.proofs.Common.{Err}
use Rattle.table_run.proofs.RunLemmas.{not_begun}
use Rattle.table_run.proofs.begin.begin_and_say.Goals as goal

pub returns-in-Err-clause-says : goal.returns-in-Err-clause-says
returns-in-Err-clause-says g c =
    not_begun c.in-Err.why (g.F.Feed.MayBegin c.args.feed.now) c.args.catalog.now c.args.states.now (g.F.Feed.seen c.args.feed.now).faults (g.F.Feed.seen c.begin.new.self).faults (g.K.Desk.seen c.args.desk.now)
    c.in-Err.ensures.causes (λ e. c.in-Err.ensures.faults.rose (λ k. Err (e k)))
