-- Values at the end of a path from a value on; and for private clauses words of JSON, and decimals of either form.
use Rattle.std.specs.Prelude.{◌≡◌, ◌⊎◌, ℕ, List, Bool, Option, codes}
use Rattle.json_scalar.specs.declared.decimal.Decimal.{Decimal as LiteralDecimal}
use Rattle.value_order.specs.declared.decimal.Decimal.{Decimal}
use Rattle.value_order.specs.declared.value.Value.{Value}
use Rattle.column_types.specs.Numbers.{raised_by, lowered_by}
use Rattle.column_types.specs.Values.{Reaches, IsFoundValue}

abbrev pub IsWord : List ℕ → Type 0
IsWord text = (text ≡ codes "null") ⊎ ((text ≡ codes "true") ⊎ (text ≡ codes "false"))

-- the value at the end of a path from this text on, where strings may be instants
pub record IsValueAlong (text : List ℕ) (names : List (List ℕ)) (instants : Bool) (value : Value) : Type 0 where
  pub found : Option (List ℕ)
  pub reached : Reaches text names found
  pub is : IsFoundValue instants found value

-- the same decimal, with its exponent as one number
pub record IsConverted (parts : LiteralDecimal) (d : Decimal) : Type 0 where
  pub sign : d.negative ≡ parts.is_negative
  pub digits : d.digits ≡ parts.digits
  pub raised : raised_by d.exponent ≡ parts.raised
  pub lowered : lowered_by d.exponent ≡ parts.lowered
