use Rattle.std.proofs.Common.{get_or}
use Rattle.std.proofs.lemmas.Option.{slice_get-get_or}
use Rattle.json_span.specs.declared.Member.{Member}
use Rattle.json_span.proofs.FirstArray.{none_before, none_more, none_at_all, first_here}
use Rattle.json_span.proofs.lists.first_array.Goals as goal

abbrev no_member : Member
no_member = record { key = record { start = 0; end = 0 }; value = record { start = 0; end = 0 } }

pub loop-index-init : goal.loop-index-init
loop-index-init c = none_before c.args.text.now c.args.members.now

pub loop-index-preserved : goal.loop-index-preserved
loop-index-preserved c =
    let index = c.loop-index.index in
    none_more c.args.text.now c.args.members.now index (get_or c.args.members.now index no_member) c.of.result.now c.loop-index.invariant (slice_get-get_or c.args.members.now index no_member c.loop-index-test.true) c.of.ensures
    (λ o. let h = c.is_array.ensures.1 o in cc (h, c.if-is_array.false))

pub returns-then-is_array : goal.returns-then-is_array
returns-then-is_array c =
    let index = c.loop-index.index in
    first_here c.args.text.now c.args.members.now index (get_or c.args.members.now index no_member) c.of.result.now c.loop-index-test.true c.loop-index.invariant (slice_get-get_or c.args.members.now index no_member c.loop-index-test.true) c.of.ensures (c.is_array.ensures.0 c.if-is_array.true)

pub returns : goal.returns
returns c = none_at_all c.args.text.now c.args.members.now c.loop-index.index c.loop-index-test.false c.loop-index.invariant
