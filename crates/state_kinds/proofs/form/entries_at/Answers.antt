use Rattle.std.proofs.Common.{◌<◌, List, ℕ, length, subst, sym}
use Rattle.json_span.specs.declared.Span.{Span}
use Rattle.json_fields.specs.Answer.{IsOnly}
use Rattle.json_fields.proofs.AnswerLemmas.{along}
use Rattle.catalog.proofs.ListLemmas.{loop_all, loop_more, loop_none}
use Rattle.state_kinds.specs.Store.{IsStoredEntry}
use Rattle.state_kinds.proofs.FormLemmas.{IsEntryAt}
use Rattle.state_kinds.proofs.form.entries_at.Goals as goal

abbrev no_span : Span
no_span = record { start = 0; end = 0 }

pub loop-span-preserved : goal.loop-span-preserved
loop-span-preserved c =
    let lt : c.loop-span.span-index < length c.args.spans.now = c.loop-span-test.true in
    let entry = along (IsStoredEntry c.of.result.now) c.in-Some.is c.in_ok-entry.ensures in
    let here = subst (λ (t : List ℕ). IsOnly (IsStoredEntry t) c.in-Some.entry) c.of.ensures entry in
    loop_more (IsEntryAt c.args.list.now) c.args.spans.now c.loop-span.span-index no_span c.loop-span.entries c.push.new.self c.in-Some.entry lt c.in_ok-push.ensures.ok here c.loop-span.invariant

pub returns-in_default : goal.returns-in_default
returns-in_default c =
    let lt : c.loop-span.span-index < length c.args.spans.now = c.loop-span-test.true in
    let none = along (IsStoredEntry c.of.result.now) c.in_default.is c.in_ok-entry.ensures in
    loop_none (IsEntryAt c.args.list.now) c.args.spans.now c.loop-span.span-index no_span lt (λ entry is. none entry (subst (λ (t : List ℕ). IsStoredEntry t entry) (sym c.of.ensures) is))

pub returns : goal.returns
returns c = loop_all (IsEntryAt c.args.list.now) c.args.spans.now c.loop-span.span-index c.loop-span.entries c.loop-span-test.false c.loop-span.invariant
