use Rattle.std.proofs.Common.{sym, ap, ◌∙◌, subst, arith}
use Rattle.std.proofs.lemmas.Option.{IfSome_then}
use Rattle.json_scalar.specs.Digits.{IsLong, spelled_behind}
use Rattle.json_scalar.specs.Seen.{cut_of}
use Rattle.json_scalar.proofs.Options.{none_then}
use Rattle.json_scalar.proofs.Spellings.{long_behind, spelled_behind-append}
use Rattle.json_scalar.proofs.Values.{Cored}
use Rattle.json_scalar.proofs.Decimals.{long_decimal, decimal_raised, no_decimal_raised, decimal_lowered, no_decimal_lowered}
use Rattle.json_scalar.proofs.decimal.decimal_of_parts.Goals as goal

pub returns-in_err-followed_by-clause-none : goal.returns-in_err-followed_by-clause-none
returns-in_err-followed_by-clause-none c =
    let p = c.args.parts.now in
    let long = long_behind _ p.fraction.now c.requires.fraction (c.in_err-followed_by.ensures {u = tt}).long in
    rw c.from_residual.ensures (λ d n v. long_decimal (cut_of p) d (subst IsLong (sym (spelled_behind-append 0 p.whole.now p.fraction.now)) long) n v)

pub returns-in_err-significand-clause-none : goal.returns-in_err-significand-clause-none
returns-in_err-significand-clause-none c =
    let p = c.args.parts.now in
    let is = ap (λ n. spelled_behind n p.fraction.now) (c.in_ok-followed_by.ensures {u = tt}).value ∙ sym (spelled_behind-append 0 p.whole.now p.fraction.now) in
    rw c.from_residual-in_err-significand.ensures (λ d n v. long_decimal (cut_of p) d (subst IsLong is (c.in_err-significand.ensures {u = tt}).long) n v)

cored_lowered : (c : goal.After-placed) → Cored (cut_of c.args.parts.now) c.in_ok-significand.significand.core c.in_ok-significand.significand.zeros c.capped_exponent-exponent.result
cored_lowered c =
    let p = c.args.parts.now in
    let before = c.in_ok-followed_by.ensures {u = tt} in
    let after = c.in_ok-significand.ensures {u = tt} in
    let room = after.room in
    let first_room = before.room in
    record {
      number = after.value ∙ ap (λ n. spelled_behind n p.fraction.now) before.value ∙ sym (spelled_behind-append 0 p.whole.now p.fraction.now);
      some = c.if-significand-eq0.false;
      ends = after.trimmed.ends;
      few = omega arith;
      short = omega arith;
      exponent = c.capped_exponent-exponent.ensures.capped;
    }

pub returns-then-parts-clause-found : goal.returns-then-parts-clause-found
returns-then-parts-clause-found c = IfSome_then c.placed.result c.placed.ensures.some (λ d p. decimal_lowered (cut_of c.args.parts.now) c.if-parts.true _ _ _ d (cored_lowered c) p)

pub returns-then-parts-clause-none : goal.returns-then-parts-clause-none
returns-then-parts-clause-none c = none_then c.placed.result c.placed.ensures.none (λ far. no_decimal_lowered (cut_of c.args.parts.now) c.if-parts.true _ _ _ (cored_lowered c) far)

cored_raised : (c : goal.After-placed-2) → Cored (cut_of c.args.parts.now) c.in_ok-significand.significand.core c.in_ok-significand.significand.zeros c.capped_exponent-exponent.result
cored_raised c =
    let p = c.args.parts.now in
    let before = c.in_ok-followed_by.ensures {u = tt} in
    let after = c.in_ok-significand.ensures {u = tt} in
    let room = after.room in
    let first_room = before.room in
    record {
      number = after.value ∙ ap (λ n. spelled_behind n p.fraction.now) before.value ∙ sym (spelled_behind-append 0 p.whole.now p.fraction.now);
      some = c.if-significand-eq0.false;
      ends = after.trimmed.ends;
      few = omega arith;
      short = omega arith;
      exponent = c.capped_exponent-exponent.ensures.capped;
    }

pub returns-clause-found : goal.returns-clause-found
returns-clause-found c = IfSome_then c.placed-2.result c.placed-2.ensures.some (λ d p. decimal_raised (cut_of c.args.parts.now) c.if-parts.false _ _ _ d (cored_raised c) p)

pub returns-clause-none : goal.returns-clause-none
returns-clause-none c = none_then c.placed-2.result c.placed-2.ensures.none (λ far. no_decimal_raised (cut_of c.args.parts.now) c.if-parts.false _ _ _ (cored_raised c) far)
