-- Values as a program can hold them.
use Rattle.std.specs.Prelude.{◌≡◌, ◌↔◌, ℕ, ◌^◌, ◌<◌, List, ◌∷◌, ◌++◌, length, IsUtf8, FitsSigned}
use Rattle.std.specs.declared.cmp.Ordering.TheVariants.{Equal}
use Rattle.std.specs.Int.{w128}
use Rattle.value_order.specs.declared.value.Value.{Value}
use Rattle.value_order.specs.declared.value.Value.TheVariants.{Null, False, True, Number, Text, Instant, Other}
use Rattle.value_order.specs.Order.{order_of}
use Rattle.value_order.specs.Texts.{text_of}

-- a text is UTF-8, an instant has 128 bits, and what is counted has fewer bytes than memory can have
abbrev pub IsHeld : Value → Type 0
IsHeld Null = Unit {0}
IsHeld False = Unit {0}
IsHeld True = Unit {0}
IsHeld (Number d) = Unit {0}
IsHeld (Text name) = IsUtf8 name × (length name < 2 ^ 63)
IsHeld (Instant nanoseconds) = FitsSigned w128 nanoseconds
IsHeld (Other bytes) = length bytes < 2 ^ 63

-- values with the same text are equal
abbrev pub TextsAreDistinct : Type 0
TextsAreDistinct = (a b : Value) → IsHeld a → IsHeld b → text_of a ≡ text_of b → a ≡ b

-- the order does not tell values apart exactly where their texts are equal
abbrev pub TiesHaveOneText : Type 0
TiesHaveOneText = (a b : Value) → IsHeld a → IsHeld b → (order_of a b ≡ Equal) ↔ (text_of a ≡ text_of b)

-- where a semicolon stands behind a value's text, that is where the text ends
abbrev pub TextsEnd : Type 0
TextsEnd = (a b : Value) (rest other : List ℕ) → IsHeld a → IsHeld b → text_of a ++ 59 ∷ rest ≡ text_of b ++ 59 ∷ other → (a ≡ b) × (rest ≡ other)
