use Rattle.std.proofs.Common.{arith, length, ◌≤◌, subst, sym}
use Rattle.outside.specs.declared.faults.CatalogFault.{CatalogFault}
use Rattle.book_rules.specs.Starts.{LacksFirst}
use Rattle.book_parts.proofs.Planning.{lacks_first, plans_done, plans_fit, plans_step}
use Rattle.book_rules.proofs.Planned.{own_ids}
use Rattle.book_parts.proofs.plan.plans_of.Goals as goal

pub loop-number-preserved : goal.loop-number-preserved
loop-number-preserved c = plans_step c.args.marks.now c.args.catalog.now c.loop-number.number c.loop-number.plans c.push.new.self c.at.result.now c.stream.result.now c.in-Ok.plan c.at.ensures c.stream.ensures.stream c.in_ok-push-in-Ok.ensures.ok c.loop-number.invariant c.in-Ok.ensures.plan

pub returns-in-Err-clause-spent : goal.returns-in-Err-clause-spent
returns-in-Err-clause-spent c = λ kind.
    let spent = c.in-Err.ensures.spent kind in
    subst (λ (one : CatalogFault). LacksFirst one c.args.marks.now c.args.catalog.now) (sym spent.0) (lacks_first c.args.marks.now c.args.catalog.now c.loop-number.number c.loop-number.plans c.at.result.now c.stream.result.now c.at.ensures c.stream.ensures.stream c.loop-number.invariant spent.1)

pub returns-clause-own_ids : goal.returns-clause-own_ids
returns-clause-own_ids c =
    let done : length c.args.catalog.now ≤ c.loop-number.number = let h = c.loop-number-test.false in let e = c.len-number-end.ensures.len in omega arith in
    own_ids c.args.catalog.now c.loop-number.plans (plans_fit c.args.marks.now c.args.catalog.now c.loop-number.plans (plans_done c.args.marks.now c.args.catalog.now c.loop-number.number c.loop-number.plans c.requires done c.loop-number.invariant)) c.len-number-end.ensures.configured.distinct
