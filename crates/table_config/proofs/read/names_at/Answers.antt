use Rattle.std.proofs.Common.{◌<◌, List, ℕ, length, subst, sym}
use Rattle.json_scalar.specs.Text.{IsString}
use Rattle.json_span.specs.declared.Span.{Span}
use Rattle.json_fields.specs.Answer.{IsOnly}
use Rattle.json_fields.proofs.AnswerLemmas.{along}
use Rattle.json_fields.proofs.FieldLemmas.{string_found}
use Rattle.catalog.proofs.EntryLemmas.{IsNameAt}
use Rattle.catalog.proofs.ListLemmas.{loop_more, loop_none, loop_all}
use Rattle.table_config.proofs.read.names_at.Goals as goal

abbrev no_span : Span
no_span = record { start = 0; end = 0 }

pub loop-span-preserved : goal.loop-span-preserved
loop-span-preserved c =
    let lt : c.loop-span.span-index < length c.args.spans.now = c.loop-span-test.true in
    let e = c.in_ok-name.ensures in
    let string = along (IsString c.of.result.now) c.in-Some.is (string_found c.of.result.now c.in_ok-name.field-0 e.string e.only e.none) in
    let here = subst (λ (t : List ℕ). IsOnly (IsString t) c.in-Some.name) c.of.ensures string in
    loop_more (IsNameAt c.args.text.now) c.args.spans.now c.loop-span.span-index no_span c.loop-span.names c.push.new.self c.in-Some.name lt c.in_ok-push.ensures.ok here c.loop-span.invariant

pub returns-in_default : goal.returns-in_default
returns-in_default c =
    let lt : c.loop-span.span-index < length c.args.spans.now = c.loop-span-test.true in
    let e = c.in_ok-name.ensures in
    let none = along (IsString c.of.result.now) c.in_default.is (string_found c.of.result.now c.in_ok-name.field-0 e.string e.only e.none) in
    loop_none (IsNameAt c.args.text.now) c.args.spans.now c.loop-span.span-index no_span lt (λ name is. none name (subst (λ (t : List ℕ). IsString t name) (sym c.of.ensures) is))

pub returns : goal.returns
returns c = loop_all (IsNameAt c.args.text.now) c.args.spans.now c.loop-span.span-index c.loop-span.names c.loop-span-test.false c.loop-span.invariant
