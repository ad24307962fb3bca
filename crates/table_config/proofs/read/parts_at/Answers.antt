use Rattle.std.proofs.Common.{◌<◌, List, ℕ, length, subst, sym}
use Rattle.json_span.specs.declared.Span.{Span}
use Rattle.json_fields.specs.Answer.{IsOnly}
use Rattle.json_fields.proofs.AnswerLemmas.{along}
use Rattle.catalog.proofs.ListLemmas.{loop_more, loop_none, loop_all}
use Rattle.table_config.specs.Config.{IsPart}
use Rattle.table_config.proofs.ConfigLemmas.{IsPartAt}
use Rattle.table_config.proofs.read.parts_at.Goals as goal

abbrev no_span : Span
no_span = record { start = 0; end = 0 }

pub loop-span-preserved : goal.loop-span-preserved
loop-span-preserved c =
    let lt : c.loop-span.span-index < length c.args.spans.now = c.loop-span-test.true in
    let found = along (IsPart c.of.result.now) c.in-Some.is c.in_ok-part.ensures in
    let here = subst (λ (t : List ℕ). IsOnly (IsPart t) c.in-Some.part) c.of.ensures found in
    loop_more (IsPartAt c.args.list.now) c.args.spans.now c.loop-span.span-index no_span c.loop-span.parts c.push.new.self c.in-Some.part lt c.in_ok-push.ensures.ok here c.loop-span.invariant

pub returns-in_default : goal.returns-in_default
returns-in_default c =
    let lt : c.loop-span.span-index < length c.args.spans.now = c.loop-span-test.true in
    let none = along (IsPart c.of.result.now) c.in_default.is c.in_ok-part.ensures in
    loop_none (IsPartAt c.args.list.now) c.args.spans.now c.loop-span.span-index no_span lt (λ part is. none part (subst (λ (t : List ℕ). IsPart t part) (sym c.of.ensures) is))

pub returns : goal.returns
returns c = loop_all (IsPartAt c.args.list.now) c.args.spans.now c.loop-span.span-index c.loop-span.parts c.loop-span-test.false c.loop-span.invariant
