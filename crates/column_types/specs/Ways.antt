-- For private clauses: how a value is written, without its text; and decimals that are whole.
use Rattle.std.specs.Prelude.{◌≡◌, ℕ, ◌*◌, ◌^◌, ℤ, List}
use Rattle.std.specs.Fmt.{signed_decimal}
use Rattle.value_order.specs.Order.{signed}
use Rattle.value_order.specs.declared.decimal.Decimal.{Decimal}
use Rattle.column_types.specs.declared.kind.ColumnType.{ColumnType}
use Rattle.column_types.specs.declared.typed.Way.{Way}
use Rattle.column_types.specs.declared.typed.Way.TheVariants as ways
use Rattle.column_types.specs.declared.typed.Typed.TheVariants.{Fits, Nulled}
use Rattle.column_types.specs.Numbers.{raised_by, lowered_by}
use Rattle.column_types.specs.Typed.{IsTyped}

abbrev pub IsWay : ColumnType → List ℕ → Way → Type 0
IsWay kind text ways.AsItStands = IsTyped kind text (Fits text)
IsWay kind text (ways.Whole value) = IsTyped kind text (Fits (signed_decimal value))
IsWay kind text ways.Nulled = IsTyped kind text Nulled

-- the decimal is this whole number
pub record IsWholeOf (d : Decimal) (value : ℤ) : Type 0 where
  pub not_lowered : lowered_by d.exponent ≡ 0
  pub is : value ≡ signed d.negative (d.digits * 10 ^ raised_by d.exponent)
