use Rattle.std.proofs.Common.{ap}
use Rattle.book_parts.specs.Opened.{OpenedView}
use Rattle.book_parts.proofs.Opening.{columns_within, has_prep_plan, is_prep_plan, plan_within}
use Rattle.book_parts.proofs.opened.Opened.is_plan.Goals as goal

pub at-requires : goal.at-requires
at-requires c = plan_within _ _ c.args.self.now _ c.self.invariant.0 (ap (λ (view : OpenedView). view.catalog) c.self.view_is) c.requires

pub at-columns-requires : goal.at-columns-requires
at-columns-requires c = columns_within _ _ c.args.self.now _ c.self.invariant.1 (ap (λ (view : OpenedView). view.catalog) c.self.view_is) c.requires

pub returns-then-is_numbered : goal.returns-then-is_numbered
returns-then-is_numbered c = λ has. is_prep_plan c.self.inside.catalog c.self.inside.load c.self.inside.plan c.self.inside.columns c.args.self.now _ c.stream-own.result.now c.at.result.now c.at-columns.result.now c.args.plan.now c.self.view_is c.self.invariant.1 c.stream-own.ensures.stream c.at.ensures c.at-columns.ensures (has_prep_plan _ _ c.at.result.now _ _ _ (c.is_numbered.ensures c.if-is_numbered.true) (c.has_places.ensures has))
