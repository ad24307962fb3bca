use Rattle.std.proofs.Common.{◌≡◌, ◌<◌, ◌∙◌, sym, map, length, arith}
use Rattle.airbyte_message.specs.Same.{part_form}
use Rattle.json_fields.proofs.AnswerLemmas.{true_false}
use Rattle.airbyte_message.proofs.SameLemmas.{fails, maps_differ}
use Rattle.airbyte_message.proofs.same.are_same_parts.Goals as goal

pub returns-then-not-branch : goal.returns-then-not-branch
returns-then-not-branch c =
    let parts = c.args.parts.now in
    let others = c.args.others.now in
    let here : c.loop-i.i < length parts = c.loop-i-test.true in
    let there : c.loop-i.i < length others = omega (arith, c.if-parts-others.false) in
    fails (map part_form parts ≡ map part_form others) (maps_differ part_form parts others c.loop-i.i c.index-parts-i.result c.index-others-i.result here there c.index-parts-i.is c.index-others-i.is (λ same. true_false (sym (c.in_ok-is_same_part.ensures.1 same) ∙ c.if-not-branch.true)))
