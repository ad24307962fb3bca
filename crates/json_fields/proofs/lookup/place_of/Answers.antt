use Rattle.std.proofs.Common.{◌≡◌, ◌<◌, ◌+◌, ◌-◌, ℕ, List, None, Some, length, drop, slice_index_or, refl, sym, subst, ◌∙◌, arith}
use Rattle.json_scalar.specs.Text.{IsString}
use Rattle.json_span.specs.declared.Member.{Member}
use Rattle.json_span.specs.Members.{text_at}
use Rattle.json_fields.specs.Fields.{Holds}
use Rattle.json_fields.proofs.AnswerLemmas.{true_false}
use Rattle.json_fields.proofs.Keys.{holds_found, holds_not, only_holds, get_at}
use Rattle.json_fields.proofs.lookup.place_of.Goals as goal

abbrev no_member : Member
no_member = record { key = record { start = 0; end = 0 }; value = record { start = 0; end = 0 } }

pub returns-then-branch : goal.returns-then-branch
returns-then-branch c =
    let text = c.args.text.now in
    let name = c.args.name.now in
    let members = c.args.members.now in
    let i = c.loop-left.left - 1 in
    let within = c.loop-left.invariant.within in
    let lt : i < length members = omega arith in
    let e : c.loop-left.left ≡ i + 1 = omega arith in
    let none = subst (λ (k : ℕ). Holds text name (drop k members) None) e c.loop-left.invariant.none in
    let m = slice_index_or members i no_member in
    let named : IsString c.of.result.now name = c.in_ok-is_key.ensures.0 c.if-branch.true in
    record {
      member = m;
      below = lt;
      at = get_at members i no_member lt;
      named = subst (λ (key : List ℕ). IsString key name) c.of.ensures named;
      last = none;
      holds = only_holds text name members (Some (text_at text m.value)) (holds_found text name members i no_member c.of.result.now (text_at text m.value) lt c.of.ensures named refl none);
    }

pub loop-left-preserved : goal.loop-left-preserved
loop-left-preserved c =
    let text = c.args.text.now in
    let name = c.args.name.now in
    let members = c.args.members.now in
    let i = c.loop-left.left - 1 in
    let within = c.loop-left.invariant.within in
    let lt : i < length members = omega arith in
    let e : c.loop-left.left ≡ i + 1 = omega arith in
    let none = subst (λ (k : ℕ). Holds text name (drop k members) None) e c.loop-left.invariant.none in
    record {
      within = omega arith;
      none = holds_not text name members i no_member c.of.result.now lt c.of.ensures (λ named. true_false (sym (c.in_ok-is_key.ensures.1 named) ∙ c.if-branch.false)) none;
    }

pub returns : goal.returns
returns c =
    let members = c.args.members.now in
    let e : c.loop-left.left ≡ 0 = omega arith in
    only_holds c.args.text.now c.args.name.now members None (subst (λ (k : ℕ). Holds c.args.text.now c.args.name.now (drop k members) None) e c.loop-left.invariant.none)
