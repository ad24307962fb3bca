use Rattle.std.proofs.Common.{◌*◌, ◌+◌, ◌-◌, get_or, length, sym, ap, ◌∙◌, subst, arith}
use Rattle.std.proofs.lemmas.Bool.{eqb-false}
use Rattle.std.proofs.lemmas.List.{take_all}
use Rattle.std.proofs.Math.Nat.{pos_of_ne-zero}
use Rattle.json_scalar.specs.Number.{IsWhole}
use Rattle.json_scalar.specs.Digits.{AreDigits, spelled}
use Rattle.json_scalar.proofs.Spellings.{below_more, below_seventeen, below_eighteen, spelled_behind-more, digits_more, digit_bounds}
use Rattle.json_scalar.proofs.Values.{plain_whole}
use Rattle.json_scalar.proofs.number.plain_digits.Goals as goal

pub overflow_mul-number : goal.overflow_mul-number
overflow_mul-number c = let h = below_seventeen c.loop-byte.number c.loop-byte.byte-index c.loop-byte.invariant.small (omega arith) in omega arith

pub overflow_add-number : goal.overflow_add-number
overflow_add-number c =
    let h = below_seventeen c.loop-byte.number c.loop-byte.byte-index c.loop-byte.invariant.small (omega arith) in
    let b = digit_bounds (get_or c.args.text.now c.loop-byte.byte-index 0) (sym (c.if-not-is_ascii_digit.ensures {u = tt}).value) in
    omega (arith, b.1)

pub loop-byte-preserved : goal.loop-byte-preserved
loop-byte-preserved c =
    let i = c.loop-byte.byte-index in
    let text = c.args.text.now in
    let is = sym (c.if-not-is_ascii_digit.ensures {u = tt}).value in
    let b = digit_bounds (get_or text i 0) is in
    record {
      value = ap (λ n. n * 10 + (get_or text i 0 - 48)) c.loop-byte.invariant.value ∙ sym (spelled_behind-more 0 text i c.loop-byte-test.true);
      small = below_more c.loop-byte.number (get_or text i 0 - 48) i c.loop-byte.invariant.small (omega (arith, b.1));
      digits = digits_more text i c.loop-byte.invariant.digits c.loop-byte-test.true is;
    }

pub returns-clause-found : goal.returns-clause-found
returns-clause-found c =
    let text = c.args.text.now in
    let some = eqb-false (length text) 0 (sym (c.if-is_empty.ensures {u = tt})) in
    let whole = take_all c.loop-byte.byte-index text (omega arith) in
    subst (IsWhole text) (sym (c.loop-byte.invariant.value ∙ ap spelled whole))
    (plain_whole text (subst AreDigits whole c.loop-byte.invariant.digits) (pos_of_ne-zero some) c.if-text-eq48.false)

pub returns-clause-small : goal.returns-clause-small
returns-clause-small c = let h = below_eighteen c.loop-byte.number c.loop-byte.byte-index c.loop-byte.invariant.small (omega arith) in omega arith
