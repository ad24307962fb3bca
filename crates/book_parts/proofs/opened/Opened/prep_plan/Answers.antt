use Rattle.std.proofs.Common.{ap}
use Rattle.book_parts.specs.Opened.{OpenedView}
use Rattle.book_parts.proofs.Opening.{columns_within, is_prep_plan, plan_within}
use Rattle.book_parts.proofs.opened.Opened.prep_plan.Goals as goal

pub at-requires : goal.at-requires
at-requires c = plan_within _ _ c.args.self.now _ c.self.invariant.0 (ap (λ (view : OpenedView). view.catalog) c.self.view_is) c.requires

pub at-requires-2 : goal.at-requires-2
at-requires-2 c = columns_within _ _ c.args.self.now _ c.self.invariant.1 (ap (λ (view : OpenedView). view.catalog) c.self.view_is) c.requires

pub returns : goal.returns
returns c = is_prep_plan c.self.inside.catalog c.self.inside.load c.self.inside.plan c.self.inside.columns c.args.self.now _ c.stream-own.result.now c.at.result.now c.at-2.result.now _ c.self.view_is c.self.invariant.1 c.stream-own.ensures.stream c.at.ensures c.at-2.ensures (cc (c.in_ok-copy.ensures.copied, c.in_ok-copy-2.ensures.copied, c.in_ok-copy-3.ensures.copied))
