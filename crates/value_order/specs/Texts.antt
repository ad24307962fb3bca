-- The text of a value.
use Rattle.std.specs.Prelude.{ℕ, List, [], ◌∷◌, ◌++◌, length, Bool, true, false, decimal}
use Rattle.std.specs.Fmt.{signed_decimal}
use Rattle.value_order.specs.declared.value.Value.{Value}
use Rattle.value_order.specs.declared.value.Value.TheVariants.{Null, False, True, Number, Text, Instant, Other}
use Rattle.value_order.specs.declared.decimal.Decimal.{Decimal}

-- how many bytes there are, a colon, and the bytes
abbrev pub counted_text : List ℕ → List ℕ
counted_text bytes = decimal (length bytes) ++ 58 ∷ bytes

abbrev pub minus_text : Bool → List ℕ
minus_text true = 45 ∷ []
minus_text false = []

-- the digits, the letter e and the exponent
abbrev pub decimal_text : Decimal → List ℕ
decimal_text d = minus_text d.negative ++ (decimal d.digits ++ 101 ∷ signed_decimal d.exponent)

-- n, f and t; behind #, a quotation mark, @ and ? the other classes
abbrev pub text_of : Value → List ℕ
text_of Null = 110 ∷ []
text_of False = 102 ∷ []
text_of True = 116 ∷ []
text_of (Number d) = 35 ∷ decimal_text d
text_of (Text name) = 34 ∷ counted_text name
text_of (Instant nanoseconds) = 64 ∷ signed_decimal nanoseconds
text_of (Other bytes) = 63 ∷ counted_text bytes
