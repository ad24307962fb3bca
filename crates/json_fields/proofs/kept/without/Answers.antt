use Rattle.std.proofs.Common.{◌≡◌, List, ◌++◌, ◌∷◌, [], ◌<◌, ◌+◌, length, take, sym, subst, ◌∙◌, slice_index_or, All}
use Rattle.std.proofs.lemmas.List.{take_all}
use Rattle.json_scalar.specs.Text.{IsString}
use Rattle.json_span.specs.declared.Member.{Member}
use Rattle.json_span.specs.Members.{IsMemberOf}
use Rattle.json_fields.specs.Parts.{Without}
use Rattle.json_fields.proofs.AnswerLemmas.{true_false}
use Rattle.json_fields.proofs.KeepsLemmas.{step_added, step_dropped, Without-only, parts_more}
use Rattle.json_fields.proofs.kept.without.Goals as goal
use Rattle.json_fields.proofs.kept.without.Goals.{then-not-branch+in_ok-push, else-not-branch}

abbrev no_member : Member
no_member = record { key = record { start = 0; end = 0 }; value = record { start = 0; end = 0 } }

pub loop-member-preserved : goal.loop-member-preserved
loop-member-preserved c =
    let text = c.args.text.now in
    let name = c.args.name.now in
    let members = c.as_slice-member-items.result.now in
    let i = c.loop-member.member-index in
    let lt : i < length members = c.loop-member-test.true in
    elim c.if-not-branch.branch [
      | then-not-branch+in_ok-push w ↦
          let m = slice_index_or members i no_member in
          let whole = c.as_slice-member-items.ensures in
          let is = subst (λ (ms : List Member). IsMemberOf text (slice_index_or ms i no_member)) (sym whole) (c.requires.parts i no_member (subst (λ (ms : List Member). i < length ms) whole lt)) in
          let pushed : c.if-not-branch.kept ≡ c.loop-member.kept ++ m ∷ [] = w.kept-is ∙ w.in_ok-push.ensures.ok in
          record {
            kept = subst (λ (kept : List Member). Without text name (take (i + 1) members) kept) (sym pushed) (step_added (λ key. IsString key name) text members i no_member c.of.result.now c.loop-member.kept lt c.of.ensures (λ named. true_false (sym (c.in_ok-is_string_of.ensures.1 named) ∙ w.if-not-branch.true)) c.loop-member.invariant.kept);
            parts = parts_more text c.loop-member.kept c.if-not-branch.kept m pushed is c.loop-member.invariant.parts;
          }
      | else-not-branch w ↦
          let same : c.loop-member.kept ≡ c.if-not-branch.kept = cc w.kept-is in
          record {
            kept = subst (λ (kept : List Member). Without text name (take (i + 1) members) kept) same (step_dropped (λ key. IsString key name) text members i no_member c.of.result.now c.loop-member.kept lt c.of.ensures (c.in_ok-is_string_of.ensures.0 w.if-not-branch.false) c.loop-member.invariant.kept);
            parts = subst (λ (kept : List Member). All (IsMemberOf text) kept) same c.loop-member.invariant.parts;
          }
    ]

pub returns-clause-kept : goal.returns-clause-kept
returns-clause-kept c =
    let members = c.as_slice-member-items.result.now in
    let all : take c.loop-member.member-index members ≡ members = take_all c.loop-member.member-index members c.loop-member-test.false in
    let kept = subst (λ (ms : List Member). Without c.args.text.now c.args.name.now ms c.loop-member.kept) (all ∙ c.as_slice-member-items.ensures) c.loop-member.invariant.kept in
    record { is = kept; only = λ other h. Without-only c.args.text.now c.args.name.now c.args.members.now c.loop-member.kept other kept h }
