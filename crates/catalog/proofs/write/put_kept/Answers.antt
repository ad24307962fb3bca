use Rattle.std.proofs.Common.{◌<◌, length, refl, sym, ◌∙◌}
use Rattle.json_span.specs.declared.Member.{Member}
use Rattle.json_fields.proofs.AnswerLemmas.{true_false}
use Rattle.catalog.proofs.WriteLemmas.{kept_first, kept_skip, kept_more, kept_all}
use Rattle.catalog.proofs.write.put_kept.Goals as goal
use Rattle.catalog.proofs.write.put_kept.Goals.{then-not-branch+in_ok-put_part, else-not-branch}

abbrev no_member : Member
no_member = record { key = record { start = 0; end = 0 }; value = record { start = 0; end = 0 } }

pub loop-member-init : goal.loop-member-init
loop-member-init c = kept_first c.args.entry.now 123 c.args.text.now refl

pub returns : goal.returns
returns c = kept_all c.args.entry.now c.args.members.now c.loop-member.member-index c.loop-member.mark c.args.text.now c.loop-member.text c.loop-member-test.false c.loop-member.invariant

pub loop-member-preserved : goal.loop-member-preserved
loop-member-preserved c =
    let lt : c.loop-member.member-index < length c.args.members.now = c.loop-member-test.true in
    let known = c.in_ok-is_generation.ensures in
    elim c.if-not-branch.branch [
      | then-not-branch+in_ok-put_part w ↦
          kept_more c.args.entry.now c.args.members.now c.loop-member.member-index no_member c.of.result.now c.loop-member.mark c.if-not-branch.mark c.args.text.now c.loop-member.text c.if-not-branch.text lt c.of.ensures
          (λ is. true_false (sym (known.1 is) ∙ w.if-not-branch.true)) w.mark-is (w.text-is ∙ w.in_ok-put_part.ensures) c.loop-member.invariant
      | else-not-branch w ↦
          kept_skip c.args.entry.now c.args.members.now c.loop-member.member-index no_member c.of.result.now c.loop-member.mark c.if-not-branch.mark c.args.text.now c.loop-member.text c.if-not-branch.text lt c.of.ensures (known.0 w.if-not-branch.false) w.mark-is w.text-is c.loop-member.invariant
    ]
