use Rattle.std.proofs.Common.{◌<◌, List, ℕ, length, subst, sym}
use Rattle.catalog.specs.Entry.{IsKeyPath}
use Rattle.json_span.specs.declared.Span.{Span}
use Rattle.json_fields.specs.Answer.{IsOnly}
use Rattle.json_fields.proofs.AnswerLemmas.{along}
use Rattle.catalog.proofs.EntryLemmas.{IsPathAt}
use Rattle.catalog.proofs.ListLemmas.{loop_more, loop_none, loop_all}
use Rattle.catalog.proofs.paths.paths_at.Goals as goal

abbrev no_span : Span
no_span = record { start = 0; end = 0 }

pub loop-span-preserved : goal.loop-span-preserved
loop-span-preserved c =
    let lt : c.loop-span.span-index < length c.args.spans.now = c.loop-span-test.true in
    let e = c.in_ok-path.ensures in
    let string = along (IsKeyPath c.of.result.now) c.in-Some.is e in
    let here = subst (λ (t : List ℕ). IsOnly (IsKeyPath t) c.in-Some.path) c.of.ensures string in
    loop_more (IsPathAt c.args.text.now) c.args.spans.now c.loop-span.span-index no_span c.loop-span.paths c.push.new.self c.in-Some.path lt c.in_ok-push.ensures.ok here c.loop-span.invariant

pub returns-in_default : goal.returns-in_default
returns-in_default c =
    let lt : c.loop-span.span-index < length c.args.spans.now = c.loop-span-test.true in
    let e = c.in_ok-path.ensures in
    let none = along (IsKeyPath c.of.result.now) c.in_default.is e in
    loop_none (IsPathAt c.args.text.now) c.args.spans.now c.loop-span.span-index no_span lt (λ path is. none path (subst (λ (t : List ℕ). IsKeyPath t path) (sym c.of.ensures) is))

pub returns : goal.returns
returns c = loop_all (IsPathAt c.args.text.now) c.args.spans.now c.loop-span.span-index c.loop-span.paths c.loop-span-test.false c.loop-span.invariant
