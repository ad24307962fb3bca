use Rattle.std.proofs.Common.{◌≡◌, Ok, Err, subst}
use Rattle.json_fields.specs.Answer.{IsOnly}
use Rattle.outside.specs.Feed.{RefusesTexts, StartsAlike}
use Rattle.outside.specs.declared.status.Status.TheVariants as status
use Rattle.source_lines.specs.Begins.{BeginsAs}
use Rattle.source_lines.specs.SourceFeeds.{MayBeginFrom, SourceFeedSeen}
use Rattle.source_lines.proofs.RoundLemmas.{round_untold}
use Rattle.source_lines.proofs.FeedLemmas.{begins_lines, err_moved, refused_by, starts_alike}
use Rattle.source_lines.proofs.feed.SourceFeedFeed.begin.Goals as goal

pub returns-in-Ok-clause-begins : goal.returns-in-Ok-clause-begins
returns-in-Ok-clause-begins g c = λ left may.
    let S = g.S.StreamSource in
    subst (λ (v : SourceFeedSeen g.row.S.Denot g.row.S-Start.Denot). MayBeginFrom S.Starts (S.seen v.source) (S.Opens v.source) v.moment c.args.catalog.now c.args.states.now (Ok left)) c.self.view_is
    (begins_lines (BeginsAs S.Starts (S.seen c.self.inside.source).is_known c.args.catalog.now c.args.states.now) (S.Opens c.self.inside.source) (S.Opens c.begun.new.source) c.self.inside.moment c.in-Ok.round c.in-Ok.ensures.read c.in-Ok.ensures.first c.in-Ok.ensures.alike left may)

pub returns-in-Ok-clause-open : goal.returns-in-Ok-clause-open
returns-in-Ok-clause-open g c = round_untold (g.S.StreamSource.Opens c.begun.new.source) c.self.inside.moment c.in-Ok.round

pub returns-in-Ok-clause-starts : goal.returns-in-Ok-clause-starts
returns-in-Ok-clause-starts g c =
    let S = g.S.StreamSource in
    let moment = c.self.inside.moment in
    subst (λ (v : SourceFeedSeen g.row.S.Denot g.row.S-Start.Denot). StartsAlike (MayBeginFrom S.Starts (S.seen v.source) (S.Opens v.source) v.moment) (MayBeginFrom S.Starts (S.seen c.begun.new.source) (S.Opens c.begun.new.source) moment)) c.self.view_is
    (starts_alike S.Starts (S.seen c.self.inside.source) (S.seen c.begun.new.source) (S.Opens c.self.inside.source) (S.Opens c.begun.new.source) moment c.in-Ok.ensures.others c.in-Ok.ensures.alike)

pub returns-in-Err-clause-causes : goal.returns-in-Err-clause-causes
returns-in-Err-clause-causes g c =
    let S = g.S.StreamSource in
    subst (λ (v : SourceFeedSeen g.row.S.Denot g.row.S-Start.Denot). RefusesTexts (MayBeginFrom S.Starts (S.seen v.source) (S.Opens v.source) v.moment) c.args.catalog.now c.args.states.now c.in-Err.why) c.self.view_is
    (refused_by (BeginsAs S.Starts (S.seen c.self.inside.source).is_known) (S.Opens c.self.inside.source) c.self.inside.moment c.args.catalog.now c.args.states.now c.in-Err.why c.in-Err.ensures.refused)

pub returns-in-Err-clause-starts : goal.returns-in-Err-clause-starts
returns-in-Err-clause-starts g c =
    let S = g.S.StreamSource in
    let moment = c.self.inside.moment in
    subst (λ (v : SourceFeedSeen g.row.S.Denot g.row.S-Start.Denot). StartsAlike (MayBeginFrom S.Starts (S.seen v.source) (S.Opens v.source) v.moment) (MayBeginFrom S.Starts (S.seen c.begun.new.source) (S.Opens c.begun.new.source) moment)) c.self.view_is
    (starts_alike S.Starts (S.seen c.self.inside.source) (S.seen c.begun.new.source) (S.Opens c.self.inside.source) (S.Opens c.begun.new.source) moment c.in-Err.ensures.others c.in-Err.ensures.alike)

pub returns-in-Err-clause-by_texts : goal.returns-in-Err-clause-by_texts
returns-in-Err-clause-by_texts g c = λ memory fault.
    let S = g.S.StreamSource in
    subst (λ (v : SourceFeedSeen g.row.S.Denot g.row.S-Start.Denot). IsOnly (BeginsAs S.Starts (S.seen v.source).is_known c.args.catalog.now c.args.states.now) (Err c.in-Err.why)) c.self.view_is (c.in-Err.ensures.refused memory fault)

pub returns-in-Err-clause-stays : goal.returns-in-Err-clause-stays
returns-in-Err-clause-stays g c = λ other.
    let S = g.S.StreamSource in
    subst (λ (v : SourceFeedSeen g.row.S.Denot g.row.S-Start.Denot). (S.seen c.begun.new.source).faults ≡ (S.seen v.source).faults) c.self.view_is (c.in-Err.ensures.stays (λ happened. other (err_moved c.in-Err.why status.RowFault happened)))
