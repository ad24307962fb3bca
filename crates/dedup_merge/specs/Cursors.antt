-- The value of a row's cursor.
use Rattle.std.specs.Prelude.{◌≡◌, ◌≢◌, ◌⊎◌, ℕ, List}
use Rattle.value_order.specs.Texts.{text_of}
use Rattle.value_order.specs.Held.{IsHeld}
use Rattle.value_order.specs.declared.value.Value.{Value}
use Rattle.value_order.specs.declared.value.Value.TheVariants.{Null}

-- the value whose text this is
pub record HasText (text : List ℕ) (value : Value) : Type 0 where
  pub held : IsHeld value
  pub is : text_of value ≡ text

-- a text that no value has counts as null
pub record CountsAsNull (text : List ℕ) (value : Value) : Type 0 where
  pub null : value ≡ Null
  pub none : (other : Value) → IsHeld other → text_of other ≢ text

abbrev pub IsCursor : List ℕ → Value → Type 0
IsCursor text value = HasText text value ⊎ CountsAsNull text value
