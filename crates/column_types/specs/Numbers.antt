-- What a JSON number stands for: a decimal in normal form, or a whole number.
use Rattle.std.specs.Prelude.{◌≡◌, ◌≢◌, ℕ, suc, ◌+◌, ◌*◌, ◌^◌, ℤ, pos, negsuc, List, length}
use Rattle.json_scalar.specs.Number.{Literal, literal_text, mantissa, raised, lowered, fraction_digits}
use Rattle.json_fields.specs.Parts.{IsNumber}
use Rattle.value_order.specs.Order.{signed}
use Rattle.value_order.specs.declared.decimal.Decimal.{Decimal}

-- an exponent as the powers of ten that it multiplies by and divides by
abbrev pub raised_by : ℤ → ℕ
raised_by (pos n) = n
raised_by (negsuc n) = 0

abbrev pub lowered_by : ℤ → ℕ
lowered_by (pos n) = 0
lowered_by (negsuc n) = suc n

-- The text is a JSON number of this value: mantissa × 10^(exponent - digits behind the point), said without fractions.
-- The sign of zero does not count, and no decimal has one.
pub record IsNumberOf (text : List ℕ) (d : Decimal) : Type 0 where
  pub literal : Literal
  pub spelled : text ≡ literal_text literal
  pub sign : mantissa literal ≢ 0 → d.negative ≡ literal.is_negative
  pub equal : mantissa literal * 10 ^ (raised literal.exponent + lowered_by d.exponent) ≡ d.digits * 10 ^ (raised_by d.exponent + (length (fraction_digits literal.fraction) + lowered literal.exponent))

-- a JSON number that no decimal has as its value: more than 38 digits in normal form, or an exponent above 400 or below -400
pub record IsLongNumber (text : List ℕ) : Type 0 where
  pub number : IsNumber text
  pub long : (d : Decimal) → ¬ IsNumberOf text d

-- The text is a JSON number whose value is this whole number, however it is spelled.
pub record IsInteger (text : List ℕ) (value : ℤ) : Type 0 where
  pub literal : Literal
  pub spelled : text ≡ literal_text literal
  pub size : ℕ
  pub equal : mantissa literal * 10 ^ raised literal.exponent ≡ size * 10 ^ (length (fraction_digits literal.fraction) + lowered literal.exponent)
  pub signed_size : value ≡ signed literal.is_negative size
