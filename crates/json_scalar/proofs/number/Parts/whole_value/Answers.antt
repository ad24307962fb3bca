use Rattle.std.proofs.Common.{sym, ap, ◌∙◌, subst, arith}
use Rattle.json_scalar.specs.Digits.{IsLong, spelled_behind}
use Rattle.json_scalar.specs.Seen.{cut_of}
use Rattle.json_scalar.proofs.Spellings.{long_behind, spelled_behind-append}
use Rattle.json_scalar.proofs.Values.{Cored, long_value, negative_value, found_raised, none_raised, found_lowered, none_lowered}
use Rattle.std.proofs.lemmas.Option.{IfSome_then}
use Rattle.json_scalar.proofs.Options.{some_both, none_then}
use Rattle.json_scalar.proofs.number.Parts.whole_value.Goals as goal

pub returns-in_err-followed_by-clause-none : goal.returns-in_err-followed_by-clause-none
returns-in_err-followed_by-clause-none c =
    let p = c.args.self.now in
    let long = long_behind _ p.fraction.now c.requires.fraction (c.in_err-followed_by.ensures {u = tt}).long in
    rw c.from_residual.ensures (λ n small v. long_value (cut_of p) n (subst IsLong (sym (spelled_behind-append 0 p.whole.now p.fraction.now)) long) small v)

pub returns-in_err-significand-clause-none : goal.returns-in_err-significand-clause-none
returns-in_err-significand-clause-none c =
    let p = c.args.self.now in
    let is = ap (λ n. spelled_behind n p.fraction.now) (c.in_ok-followed_by.ensures {u = tt}).value ∙ sym (spelled_behind-append 0 p.whole.now p.fraction.now) in
    rw c.from_residual-in_err-significand.ensures (λ n small v. long_value (cut_of p) n (subst IsLong is (c.in_err-significand.ensures {u = tt}).long) small v)

pub returns-then-self-clause-none : goal.returns-then-self-clause-none
returns-then-self-clause-none c = λ n small v.
    let p = c.args.self.now in
    let is = (c.in_ok-significand.ensures {u = tt}).value ∙ ap (λ n. spelled_behind n p.fraction.now) (c.in_ok-followed_by.ensures {u = tt}).value ∙ sym (spelled_behind-append 0 p.whole.now p.fraction.now) in
    negative_value (cut_of p) c.in_ok-significand.significand.core c.in_ok-significand.significand.zeros n is c.if-significand-eq0.false c.if-self.true v

cored_lowered : (c : goal.After-shifted) → Cored (cut_of c.args.self.now) c.in_ok-significand.significand.core c.in_ok-significand.significand.zeros c.capped_exponent-exponent.result
cored_lowered c =
    let p = c.args.self.now in
    let before = c.in_ok-followed_by.ensures {u = tt} in
    let after = c.in_ok-significand.ensures {u = tt} in
    let room = after.room in
    let first_room = before.room in
    record {
      number = after.value ∙ ap (λ n. spelled_behind n p.fraction.now) before.value ∙ sym (spelled_behind-append 0 p.whole.now p.fraction.now);
      some = c.if-significand-eq0.false;
      ends = after.trimmed.ends;
      few = omega arith;
      short = omega arith;
      exponent = c.capped_exponent-exponent.ensures.capped;
    }

pub returns-then-self-2-clause-found : goal.returns-then-self-2-clause-found
returns-then-self-2-clause-found c =
    IfSome_then c.shifted.result c.shifted.ensures.value (λ n m. found_lowered (cut_of c.args.self.now) c.if-self-2.true _ _ _ n (cored_lowered c) c.if-self.false m)

pub returns-then-self-2-clause-none : goal.returns-then-self-2-clause-none
returns-then-self-2-clause-none c = none_then c.shifted.result c.shifted.ensures.none (λ none. none_lowered (cut_of c.args.self.now) c.if-self-2.true _ _ _ (cored_lowered c) none)

cored_raised : (c : goal.After-shifted-else-self-2) → Cored (cut_of c.args.self.now) c.in_ok-significand.significand.core c.in_ok-significand.significand.zeros c.capped_exponent-exponent.result
cored_raised c =
    let p = c.args.self.now in
    let before = c.in_ok-followed_by.ensures {u = tt} in
    let after = c.in_ok-significand.ensures {u = tt} in
    let room = after.room in
    let first_room = before.room in
    record {
      number = after.value ∙ ap (λ n. spelled_behind n p.fraction.now) before.value ∙ sym (spelled_behind-append 0 p.whole.now p.fraction.now);
      some = c.if-significand-eq0.false;
      ends = after.trimmed.ends;
      few = omega arith;
      short = omega arith;
      exponent = c.capped_exponent-exponent.ensures.capped;
    }

pub returns-else-self-2-clause-found : goal.returns-else-self-2-clause-found
returns-else-self-2-clause-found c =
    some_both c.shifted-else-self-2.result c.shifted-else-self-2.ensures.small c.shifted-else-self-2.ensures.value
    (λ n small m. found_raised (cut_of c.args.self.now) c.if-self-2.false _ _ _ n (cored_raised c) c.if-self.false small m)

pub returns-else-self-2-clause-none : goal.returns-else-self-2-clause-none
returns-else-self-2-clause-none c = none_then c.shifted-else-self-2.result c.shifted-else-self-2.ensures.none (λ none. none_raised (cut_of c.args.self.now) c.if-self-2.false _ _ _ (cored_raised c) none)
