-- The value of a JSON number in normal form: digits that end in no zero, and an exponent.
use Rattle.std.specs.Prelude.{◌≡◌, ◌≢◌, ◌⊎◌, ℕ, ◌+◌, ◌*◌, ◌%◌, ◌^◌, ◌<◌, ◌≤◌, List, length, false}
use Rattle.json_scalar.specs.Number.{Literal, literal_text, fraction_digits, raised, lowered, mantissa}
use Rattle.json_scalar.specs.declared.decimal.Decimal.{Decimal}

-- The literal's value is that of the decimal, digits × 10^raised / 10^lowered. Zero has no sign.
pub record HasDecimal (l : Literal) (d : Decimal) : Type 0 where
  pub sign : mantissa l ≢ 0 → d.is_negative ≡ l.is_negative
  pub equal : mantissa l * 10 ^ (raised l.exponent + d.lowered) ≡ d.digits * 10 ^ (d.raised + (length (fraction_digits l.fraction) + lowered l.exponent))

-- the text is a JSON number with this value
pub record IsDecimal (text : List ℕ) (d : Decimal) : Type 0 where
  pub literal : Literal
  pub spelled : text ≡ literal_text literal
  pub value : HasDecimal literal d

-- zero, as it is written
pub record IsNought (d : Decimal) : Type 0 where
  pub digits : d.digits ≡ 0
  pub raised : d.raised ≡ 0
  pub lowered : d.lowered ≡ 0
  pub unsigned : d.is_negative ≡ false

-- The decimal is in normal form, with at most 38 digits and an exponent from -400 to 400.
pub record IsNormal (d : Decimal) : Type 0 where
  pub few : d.digits < 10 ^ 38
  pub raised_near : d.raised ≤ 400
  pub lowered_near : d.lowered ≤ 400
  pub one_way : (d.raised ≡ 0) ⊎ (d.lowered ≡ 0)
  pub ends : d.digits % 10 ≡ 0 → IsNought d
