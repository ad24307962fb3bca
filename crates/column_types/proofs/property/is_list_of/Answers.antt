use Rattle.std.proofs.Common.{sym, subst, List, ℕ, Bool, slice_index_or, ◌+◌}
use Rattle.json_scalar.specs.Text.{IsString}
use Rattle.json_span.specs.Members.{text_at}
use Rattle.column_types.specs.Kinds.{IsListOf, IsOtherWord}
use Rattle.column_types.proofs.KindLemmas.{AreRead, no_span, read_word, read_other, read_all, refused, holds, fails, never}
use Rattle.column_types.proofs.property.is_list_of.Goals.{then-branch, else-branch+in_ok-is_other_word+else-branch-2}
use Rattle.column_types.proofs.property.is_list_of.Goals as goal

pub returns-then-branch-2 : goal.returns-then-branch-2
returns-then-branch-2 c =
    let text = c.args.text.now in
    let word = c.args.word.now in
    let spans = c.args.spans.now in
    let i = c.loop-span.span-index in
    let shown = text_at text (slice_index_or spans i no_span) in
    never (IsListOf text word)
    (refused text word spans i c.requires c.loop-span-test.true
    (fails (λ (t : List ℕ). IsString t word) c.in_ok-is_string_of.field-0 c.of-element.result.now shown c.of-element.ensures c.if-branch.false c.in_ok-is_string_of.ensures.1)
    (holds IsOtherWord c.in_ok-is_other_word.field-0 c.of-element.result.now shown c.of-element.ensures c.if-branch-2.true c.in_ok-is_other_word.ensures.0))

pub loop-span-preserved : goal.loop-span-preserved
loop-span-preserved c =
    let text = c.args.text.now in
    let word = c.args.word.now in
    let spans = c.args.spans.now in
    let i = c.loop-span.span-index in
    let shown = text_at text (slice_index_or spans i no_span) in
    elim c.if-branch.branch [
      | then-branch w ↦ subst (λ (b : Bool). AreRead text word spans (i + 1) b) (sym w.some-is)
          (read_word text word spans i c.loop-span.some c.loop-span-test.true c.loop-span.invariant
          (holds (λ (t : List ℕ). IsString t word) c.in_ok-is_string_of.field-0 c.of-element.result.now shown c.of-element.ensures w.if-branch.true c.in_ok-is_string_of.ensures.0))
      | else-branch+in_ok-is_other_word+else-branch-2 w ↦ subst (λ (b : Bool). AreRead text word spans (i + 1) b) (sym w.some-is)
          (read_other text word spans i c.loop-span.some c.loop-span-test.true c.loop-span.invariant
          (fails (λ (t : List ℕ). IsString t word) c.in_ok-is_string_of.field-0 c.of-element.result.now shown c.of-element.ensures w.if-branch.false c.in_ok-is_string_of.ensures.1)
          (fails IsOtherWord w.in_ok-is_other_word.field-0 c.of-element.result.now shown c.of-element.ensures w.if-branch-2.false w.in_ok-is_other_word.ensures.1))
    ]

pub returns : goal.returns
returns c = read_all c.args.text.now c.args.word.now c.args.spans.now c.loop-span.span-index c.loop-span.some c.requires c.loop-span-test.false c.loop-span.invariant
