-- A JSON number (RFC 8259, section 6): its parts, how they are spelled, and its value.
use Rattle.std.specs.Prelude.{◌≡◌, ℕ, ◌+◌, ◌*◌, ◌^◌, ◌<◌, List, [], ◌∷◌, ◌++◌, map, fold, length, Bool, true, if◌then◌else◌, Option, Some, None}
use Rattle.std.proofs.Common.{lit<}

-- a decimal digit
pub record Digit : Type 0 where
  pub value : ℕ
  pub small : value < 10

abbrev pub digits_text : List Digit → List ℕ
digits_text digits = map (λ digit. 48 + digit.value) digits

-- the number that the digits spell
abbrev pub digits_value : List Digit → ℕ
digits_value digits = fold (λ n digit. n * 10 + digit.value) 0 digits

-- what stands before the point: 0, or digits of which the first is not 0
pub data Whole : Type 0 where
  nought : Whole
  counted : (first : Digit) → 0 < first.value → List Digit → Whole

abbrev pub whole_digits : Whole → List Digit
whole_digits nought = record { value = 0; small = lit< tt } ∷ []
whole_digits (counted first above others) = first ∷ others

-- one digit or more
pub record Digits : Type 0 where
  pub first : Digit
  pub others : List Digit

abbrev pub all_digits : Digits → List Digit
all_digits digits = digits.first ∷ digits.others

pub data Sign : Type 0 where
  unsigned : Sign
  plus : Sign
  minus : Sign

abbrev pub sign_text : Sign → List ℕ
sign_text unsigned = []
sign_text plus = 43 ∷ []
sign_text minus = 45 ∷ []

-- the letter e or E, a sign and digits
pub record Exponent : Type 0 where
  pub is_capital : Bool
  pub sign : Sign
  pub digits : Digits

pub record Literal : Type 0 where
  pub is_negative : Bool
  pub whole : Whole
  pub fraction : Option Digits
  pub exponent : Option Exponent

abbrev pub fraction_digits : Option Digits → List Digit
fraction_digits None = []
fraction_digits (Some digits) = all_digits digits

abbrev pub fraction_text : Option Digits → List ℕ
fraction_text None = []
fraction_text (Some digits) = 46 ∷ digits_text (all_digits digits)

abbrev pub exponent_text : Option Exponent → List ℕ
exponent_text None = []
exponent_text (Some e) = (if e.is_capital then 69 else 101) ∷ (sign_text e.sign ++ digits_text (all_digits e.digits))

abbrev pub literal_text : Literal → List ℕ
literal_text l = (if l.is_negative then 45 ∷ [] else []) ++ (digits_text (whole_digits l.whole) ++ (fraction_text l.fraction ++ exponent_text l.exponent))

-- the powers of ten by which an exponent multiplies, and by which it divides
abbrev pub raised : Option Exponent → ℕ
raised None = 0
raised (Some e) = raised_by e.sign (digits_value (all_digits e.digits))
  where
    raised_by : Sign → ℕ → ℕ
    raised_by unsigned n = n
    raised_by plus n = n
    raised_by minus n = 0

abbrev pub lowered : Option Exponent → ℕ
lowered None = 0
lowered (Some e) = lowered_by e.sign (digits_value (all_digits e.digits))
  where
    lowered_by : Sign → ℕ → ℕ
    lowered_by unsigned n = 0
    lowered_by plus n = 0
    lowered_by minus n = n

-- the digits before and behind the point, as one number
abbrev pub mantissa : Literal → ℕ
mantissa l = digits_value (whole_digits l.whole ++ fraction_digits l.fraction)

-- The value of the literal is n: mantissa × 10^(exponent - digits behind the point), which a sign keeps where it is 0.
pub record HasValue (l : Literal) (n : ℕ) : Type 0 where
  pub not_below : l.is_negative ≡ true → n ≡ 0
  pub equal : mantissa l * 10 ^ raised l.exponent ≡ n * 10 ^ (length (fraction_digits l.fraction) + lowered l.exponent)

-- the text is a JSON number whose value is n
pub record IsWhole (text : List ℕ) (n : ℕ) : Type 0 where
  pub literal : Literal
  pub spelled : text ≡ literal_text literal
  pub value : HasValue literal n
