-- The decimal of a literal, in either form.
use Rattle.std.proofs.Common.{◌≡◌, ◌⊎◌, inl, inr, ℕ, ◌+◌, ◌*◌, ◌%◌, ◌^◌, ◌≤◌, ℤ, pos, negsuc, ◌≤ℤ◌, List, length, refl, sym, ap, ◌∙◌, arith}
use Rattle.std.proofs.lemmas.Int.{ints}
use Rattle.json_scalar.specs.Number.{mantissa, raised, lowered, fraction_digits}
use Rattle.json_scalar.specs.Decimal.{IsDecimal, IsNormal, IsNought}
use Rattle.json_scalar.specs.declared.decimal.Decimal.{Decimal as LiteralDecimal}
use Rattle.value_order.specs.Normal as value_order
use Rattle.value_order.specs.declared.decimal.Decimal.{Decimal}
use Rattle.value_order.proofs.DecimalLemmas.{same_decimal}
use Rattle.column_types.specs.Numbers.{IsNumberOf, raised_by, lowered_by}
use Rattle.column_types.specs.Words.{IsConverted}

abbrev pub parts_of : Decimal → LiteralDecimal
parts_of d = record { is_negative = d.negative; digits = d.digits; raised = raised_by d.exponent; lowered = lowered_by d.exponent }

pub number_to_decimal : (text : List ℕ) (d : Decimal) → IsNumberOf text d → IsDecimal text (parts_of d)
number_to_decimal text d is = record { literal = is.literal; spelled = is.spelled; value = record { sign = is.sign; equal = is.equal } }

pub decimal_to_number : (text : List ℕ) (p : LiteralDecimal) (d : Decimal) → IsConverted p d → IsDecimal text p → IsNumberOf text d
decimal_to_number text p d same is = record {
  literal = is.literal;
  spelled = is.spelled;
  sign = λ some. same.sign ∙ is.value.sign some;
  equal =
      ap (λ (k : ℕ). mantissa is.literal * 10 ^ (raised is.literal.exponent + k)) same.lowered ∙ is.value.equal
      ∙ sym (λ i. same.digits i * 10 ^ (same.raised i + (length (fraction_digits is.literal.fraction) + lowered is.literal.exponent)));
}

raised_small : (e : ℤ) → e ≤ℤ pos 400 → raised_by e ≤ 400
raised_small (pos n) h = omega (arith, ints)
raised_small (negsuc n) h = omega arith

lowered_small : (e : ℤ) → negsuc 399 ≤ℤ e → lowered_by e ≤ 400
lowered_small (pos n) h = omega arith
lowered_small (negsuc n) h = omega (arith, ints)

one_way : (e : ℤ) → (raised_by e ≡ 0) ⊎ (lowered_by e ≡ 0)
one_way (pos n) = inr refl
one_way (negsuc n) = inl refl

pub normal_parts : (d : Decimal) → IsNormal (parts_of d)
normal_parts d = record {
  few = d.normal.short;
  raised_near = raised_small d.exponent d.normal.greatest;
  lowered_near = lowered_small d.exponent d.normal.least;
  one_way = one_way d.exponent;
  ends = λ e. nought (d.normal.trimmed e);
}
  where
    nought : d.digits ≡ 0 → IsNought (parts_of d)
    nought none = record {
      digits = none;
      raised = ap raised_by (d.normal.unraised none);
      lowered = ap lowered_by (d.normal.unraised none);
      unsigned = d.normal.unsigned none;
    }

same_exponent : (e g : ℤ) → raised_by e ≡ raised_by g → lowered_by e ≡ lowered_by g → e ≡ g
same_exponent (pos m) (pos n) p q = ap pos p
same_exponent (negsuc m) (negsuc n) p q = ap negsuc (omega arith)
same_exponent (pos m) (negsuc n) p q = absurd (omega arith)
same_exponent (negsuc m) (pos n) p q = absurd (omega arith)

pub same_converted : (p : LiteralDecimal) (d other : Decimal) → IsConverted p d → parts_of other ≡ p → other ≡ d
same_converted p d other same e =
    same_decimal other d
    (ap (λ (x : LiteralDecimal). x.is_negative) e ∙ sym same.sign)
    (ap (λ (x : LiteralDecimal). x.digits) e ∙ sym same.digits)
    (same_exponent other.exponent d.exponent (ap (λ (x : LiteralDecimal). x.raised) e ∙ sym same.raised) (ap (λ (x : LiteralDecimal). x.lowered) e ∙ sym same.lowered))

-- a decimal with the parts of a normal one is normal
pub converted_normal : (p : LiteralDecimal) (exponent : ℤ) → IsNormal p → raised_by exponent ≡ p.raised → lowered_by exponent ≡ p.lowered → value_order.IsNormal p.is_negative p.digits exponent
converted_normal p exponent n up down = record {
  short = n.few;
  least = least_of exponent (let h = n.lowered_near in omega (arith, h, down));
  greatest = greatest_of exponent (let h = n.raised_near in omega (arith, h, up));
  trimmed = λ e. (n.ends e).digits;
  unsigned = λ none. (n.ends (ends none)).unsigned;
  unraised = λ none. nought_exponent exponent (up ∙ (n.ends (ends none)).raised) (down ∙ (n.ends (ends none)).lowered);
}
  where
    ends : p.digits ≡ 0 → p.digits % 10 ≡ 0
    ends none = ap (λ (k : ℕ). k % 10) none

    least_of : (e : ℤ) → lowered_by e ≤ 400 → negsuc 399 ≤ℤ e
    least_of (pos n) h = omega (arith, ints)
    least_of (negsuc n) h = omega (arith, ints)

    greatest_of : (e : ℤ) → raised_by e ≤ 400 → e ≤ℤ pos 400
    greatest_of (pos n) h = omega (arith, ints)
    greatest_of (negsuc n) h = omega (arith, ints)

    nought_exponent : (e : ℤ) → raised_by e ≡ 0 → lowered_by e ≡ 0 → e ≡ pos 0
    nought_exponent (pos n) h k = ap pos h
    nought_exponent (negsuc n) h k = absurd (omega arith)
