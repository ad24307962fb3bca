use Rattle.std.proofs.Common.{◌≡◌, ◌+◌, ◌<◌, sym, ◌∙◌, ap, subst, take, length, List, ℕ, Option, Some, Bor, true, false, IfSome}
use Rattle.std.proofs.lemmas.List.{take_all}
use Rattle.std.specs.Option.{option_copied}
use Rattle.json_span.specs.Members.{IsValue}
use Rattle.json_span.specs.declared.Member.{Member}
use Rattle.json_fields.specs.Fields.{Holds}
use Rattle.json_fields.proofs.FieldLemmas.{Holds-only, Holds-step_named, Holds-step_other}
use Rattle.json_fields.proofs.fields.last_of.Goals as goal
use Rattle.json_fields.proofs.fields.last_of.Goals.{then-branch, else-branch}

abbrev no_member : Member
no_member = record { key = record { start = 0; end = 0 }; value = record { start = 0; end = 0 } }

pub loop-member-preserved : goal.loop-member-preserved
loop-member-preserved c =
    let text = c.args.text.now in
    let name = c.args.name.now in
    let members = c.args.members.now in
    let i = c.loop-member.member-index in
    let lt : i < length members = c.loop-member-test.true in
    elim c.if-branch.branch [
      | then-branch w ↦ record {
        holds = subst (λ (found : Option (List ℕ)). Holds text name (take (i + 1) members) found) (ap (λ (held : List ℕ). Some held) (sym w.of-then-branch.ensures) ∙ ap option_copied (sym w.found-is)) (Holds-step_named text name members i no_member c.of.result.now (option_copied c.loop-member.found) lt c.of.ensures (c.in_ok-is_string_of.ensures.0 w.if-branch.true) c.loop-member.invariant.holds);
        value = subst (λ (found : Option (Bor (List ℕ))). IfSome found (λ held. IsValue held.now)) (sym w.found-is) (subst IsValue (sym w.of-then-branch.ensures) (c.requires i no_member lt).value);
      }
      | else-branch w ↦ record {
        holds = subst (λ (found : Option (List ℕ)). Holds text name (take (i + 1) members) found) (ap option_copied (sym w.found-is)) (Holds-step_other text name members i no_member c.of.result.now (option_copied c.loop-member.found) lt c.of.ensures (λ named. true_false (sym (c.in_ok-is_string_of.ensures.1 named) ∙ w.if-branch.false)) c.loop-member.invariant.holds);
        value = subst (λ (found : Option (Bor (List ℕ))). IfSome found (λ held. IsValue held.now)) (sym w.found-is) c.loop-member.invariant.value;
      }
    ]
  where
    true_false : true ≡ false → ⊥
    true_false e = cc

pub returns-clause-holds : goal.returns-clause-holds
returns-clause-holds c =
    let all : take c.loop-member.member-index c.args.members.now ≡ c.args.members.now = take_all c.loop-member.member-index c.args.members.now c.loop-member-test.false in
    let holds = subst (λ (ms : List Member). Holds c.args.text.now c.args.name.now ms (option_copied c.loop-member.found)) all c.loop-member.invariant.holds in
    record {
      is = holds;
      only = λ other h. Holds-only c.args.text.now c.args.name.now c.args.members.now other (option_copied c.loop-member.found) h holds;
    }
