use Rattle.std.proofs.Common.{◌≡◌, ◌∙◌, Ok, Err, None, Some, List, ℕ, Option, ap, sym, subst}
use Rattle.outside.specs.Feed.{GivesLine, GivesNext, StartsAlike}
use Rattle.outside.specs.declared.status.Status.{Status}
use Rattle.source_lines.specs.Sources.{OpensAlike}
use Rattle.source_lines.specs.SourceFeeds.{Ended, Goes, MayBeginFrom, MayGiveFrom, SourceFeedSeen, ended_as, feed_seen, reached_by}
use Rattle.source_lines.specs.declared.feed.Progress.{Progress}
use Rattle.source_lines.proofs.RoundLemmas.{round_untold}
use Rattle.source_lines.proofs.FeedLemmas.{ends_next, given_next, if_none, starts_alike, wants_next}
use Rattle.source_lines.proofs.feed.SourceFeedFeed.next_line.Goals as goal

pub returns-in-Ok-Some-clause-next : goal.returns-in-Ok-Some-clause-next
returns-in-Ok-Some-clause-next g c =
    let S = g.S.StreamSource in
    let inside = c.self.inside in
    let now = c.advance-answer.new in
    let answer = c.in-Ok-Some.is ∙ ap (λ (f : Option (List ℕ)). Ok f) c.in-Ok-Some.field-0-is in
    let same = ap (λ (p : Progress g.row.S-Start.Denot g.row.S-Rows.Denot). record { source = inside.source; moment = inside.moment; reached = reached_by p }) (sym c.in-Going.is) ∙ c.self.view_is in
    subst (λ (v : SourceFeedSeen g.row.S.Denot g.row.S-Start.Denot). ended_as v.reached ≡ None
    → GivesLine c.in-Ok-Some.line (MayGiveFrom (S.Opens v.source) v.moment v.reached) (MayGiveFrom (S.Opens now.source) inside.moment (Goes now.round)) (feed_seen (S.seen v.source) v.reached) (feed_seen (S.seen now.source) (Goes now.round))) same
    (λ _. given_next (S.seen inside.source) (S.seen now.source) (S.Opens inside.source) (S.Opens now.source) inside.moment c.in-Going.round now.round c.advance-answer.result c.in-Ok-Some.line answer c.advance-answer.ensures.goes c.advance-answer.ensures.stays)

pub returns-in-Ok-Some-clause-open : goal.returns-in-Ok-Some-clause-open
returns-in-Ok-Some-clause-open g c = λ _. round_untold (g.S.StreamSource.Opens c.advance-answer.new.source) c.self.inside.moment c.advance-answer.new.round

pub returns-in-Ok-Some-clause-starts : goal.returns-in-Ok-Some-clause-starts
returns-in-Ok-Some-clause-starts g c =
    let S = g.S.StreamSource in
    let moment = c.self.inside.moment in
    let now = c.advance-answer.new.source in
    subst (λ (v : SourceFeedSeen g.row.S.Denot g.row.S-Start.Denot). StartsAlike (MayBeginFrom S.Starts (S.seen v.source) (S.Opens v.source) v.moment) (MayBeginFrom S.Starts (S.seen now) (S.Opens now) moment)) c.self.view_is
    (starts_alike S.Starts (S.seen c.self.inside.source) (S.seen now) (S.Opens c.self.inside.source) (S.Opens now) moment c.advance-answer.ensures.others c.advance-answer.ensures.alike)

pub returns-in-Ok-None-clause-starts : goal.returns-in-Ok-None-clause-starts
returns-in-Ok-None-clause-starts g c =
    let S = g.S.StreamSource in
    let moment = c.self.inside.moment in
    let now = c.advance-answer.new.source in
    subst (λ (v : SourceFeedSeen g.row.S.Denot g.row.S-Start.Denot). StartsAlike (MayBeginFrom S.Starts (S.seen v.source) (S.Opens v.source) v.moment) (MayBeginFrom S.Starts (S.seen now) (S.Opens now) moment)) c.self.view_is
    (starts_alike S.Starts (S.seen c.self.inside.source) (S.seen now) (S.Opens c.self.inside.source) (S.Opens now) moment c.advance-answer.ensures.others c.advance-answer.ensures.alike)

pub returns-then-is_memory-clause-next : goal.returns-then-is_memory-clause-next
returns-then-is_memory-clause-next g c =
    let S = g.S.StreamSource in
    let inside = c.self.inside in
    let now = c.advance-answer.new in
    let same = ap (λ (p : Progress g.row.S-Start.Denot g.row.S-Rows.Denot). record { source = inside.source; moment = inside.moment; reached = reached_by p }) (sym c.in-Going.is) ∙ c.self.view_is in
    subst (λ (v : SourceFeedSeen g.row.S.Denot g.row.S-Start.Denot). ended_as v.reached ≡ None
    → GivesNext (Err c.in-Err.why) (MayGiveFrom (S.Opens v.source) v.moment v.reached) (MayGiveFrom (S.Opens now.source) inside.moment (Goes now.round)) (feed_seen (S.seen v.source) v.reached) (feed_seen (S.seen now.source) (Goes now.round))) same
    (λ _. wants_next (S.seen inside.source) (S.seen now.source) (S.Opens inside.source) (S.Opens now.source) inside.moment c.in-Going.round now.round c.advance-answer.result c.in-Err.why c.in-Err.is (sym c.is_memory.ensures ∙ c.if-is_memory.true) c.advance-answer.ensures.goes c.advance-answer.ensures.stays)

pub returns-then-is_memory-clause-open : goal.returns-then-is_memory-clause-open
returns-then-is_memory-clause-open g c = λ _. round_untold (g.S.StreamSource.Opens c.advance-answer.new.source) c.self.inside.moment c.advance-answer.new.round

pub returns-then-is_memory-clause-starts : goal.returns-then-is_memory-clause-starts
returns-then-is_memory-clause-starts g c =
    let S = g.S.StreamSource in
    let moment = c.self.inside.moment in
    let now = c.advance-answer.new.source in
    subst (λ (v : SourceFeedSeen g.row.S.Denot g.row.S-Start.Denot). StartsAlike (MayBeginFrom S.Starts (S.seen v.source) (S.Opens v.source) v.moment) (MayBeginFrom S.Starts (S.seen now) (S.Opens now) moment)) c.self.view_is
    (starts_alike S.Starts (S.seen c.self.inside.source) (S.seen now) (S.Opens c.self.inside.source) (S.Opens now) moment c.advance-answer.ensures.others c.advance-answer.ensures.alike)

pub returns-else-is_memory : goal.returns-else-is_memory
returns-else-is_memory g c =
    let S = g.S.StreamSource in
    let inside = c.self.inside in
    let now = c.advance-answer.new in
    let same = ap (λ (p : Progress g.row.S-Start.Denot g.row.S-Rows.Denot). record { source = inside.source; moment = inside.moment; reached = reached_by p }) (sym c.in-Going.is) ∙ c.self.view_is in
    record {
      again = if_none (ended_as c.args.self.now.reached) _ (ap (λ (v : SourceFeedSeen g.row.S.Denot g.row.S-Start.Denot). ended_as v.reached) (sym same));
      next = subst (λ (v : SourceFeedSeen g.row.S.Denot g.row.S-Start.Denot). ended_as v.reached ≡ None
          → GivesNext (Err c.in-Err.why) (MayGiveFrom (S.Opens v.source) v.moment v.reached) (MayGiveFrom (S.Opens now.source) inside.moment (Ended c.in-Err.why)) (feed_seen (S.seen v.source) v.reached) (feed_seen {Start = g.row.S-Start.Denot} (S.seen now.source) (Ended c.in-Err.why))) same
          (λ _. ends_next (S.seen inside.source) (S.seen now.source) (S.Opens inside.source) (S.Opens now.source) inside.moment c.in-Going.round now.round c.advance-answer.result c.in-Err.why c.in-Err.is (sym c.is_memory.ensures ∙ c.if-is_memory.false) c.advance-answer.ensures.goes c.advance-answer.ensures.faults c.advance-answer.ensures.stays);
      «open» = λ none. absurd (some_none c.in-Err.why none);
      starts = subst (λ (v : SourceFeedSeen g.row.S.Denot g.row.S-Start.Denot). StartsAlike (MayBeginFrom S.Starts (S.seen v.source) (S.Opens v.source) v.moment) (MayBeginFrom S.Starts (S.seen now.source) (S.Opens now.source) inside.moment)) c.self.view_is
          (starts_alike S.Starts (S.seen inside.source) (S.seen now.source) (S.Opens inside.source) (S.Opens now.source) inside.moment c.advance-answer.ensures.others c.advance-answer.ensures.alike);
      alike = subst (λ (v : SourceFeedSeen g.row.S.Denot g.row.S-Start.Denot). OpensAlike (S.Opens v.source) (S.Opens now.source)) c.self.view_is c.advance-answer.ensures.alike;
      source = subst (λ (v : SourceFeedSeen g.row.S.Denot g.row.S-Start.Denot). S.seen now.source ≡ record (S.seen v.source) { faults = (S.seen now.source).faults }) c.self.view_is c.advance-answer.ensures.others;
      moment = ap (λ (v : SourceFeedSeen g.row.S.Denot g.row.S-Start.Denot). v.moment) c.self.view_is;
    }
  where
    some_none : (why : Status) → ¬ (Some why ≡ None)
    some_none why none = cc
