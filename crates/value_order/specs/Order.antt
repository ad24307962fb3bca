-- The order of values: by class, then numbers and instants by what they are, texts and all else by their bytes.
use Rattle.std.specs.Prelude.{◌≡◌, ℕ, ◌+◌, ◌-◌, ◌*◌, ◌^◌, ℤ, pos, negsuc, neg_ℤ, Bool, true, false, List, []}
use Rattle.std.specs.declared.cmp.Ordering.{Ordering}
use Rattle.std.specs.declared.cmp.Ordering.TheVariants.{Equal}
use Rattle.std.specs.Ordering.{nat_cmp, int_cmp, on, then_cmp}
use Rattle.std.specs.Cmp.Lexicographic.{slice_cmp}
use Rattle.value_order.specs.declared.decimal.Decimal.{Decimal}
use Rattle.value_order.specs.declared.value.Value.{Value}
use Rattle.value_order.specs.declared.value.Value.TheVariants.{Null, False, True, Number, Text, Instant, Other}

-- the place of a value's class
abbrev pub class_of : Value → ℕ
class_of Null = 0
class_of False = 1
class_of True = 2
class_of (Number d) = 3
class_of (Text name) = 4
class_of (Instant nanoseconds) = 5
class_of (Other bytes) = 6

-- how far an exponent is above -400
abbrev pub raised : ℤ → ℕ
raised (pos n) = n + 400
raised (negsuc n) = 399 - n

-- the decimal without its sign, times 10^400: whole, since no exponent is below -400
abbrev pub size_of : Decimal → ℕ
size_of d = d.digits * 10 ^ raised d.exponent

-- a size with its sign
abbrev pub signed : Bool → ℕ → ℤ
signed true n = neg_ℤ (pos n)
signed false n = pos n

-- the decimal times 10^400
abbrev pub scaled : Decimal → ℤ
scaled d = signed d.negative (size_of d)

-- what numbers are compared by, and instants
abbrev pub number_of : Value → ℤ
number_of Null = pos 0
number_of False = pos 0
number_of True = pos 0
number_of (Number d) = scaled d
number_of (Text name) = pos 0
number_of (Instant nanoseconds) = nanoseconds
number_of (Other bytes) = pos 0

-- what texts are compared by, and all else
abbrev pub bytes_of : Value → List ℕ
bytes_of Null = []
bytes_of False = []
bytes_of True = []
bytes_of (Number d) = []
bytes_of (Text name) = name
bytes_of (Instant nanoseconds) = []
bytes_of (Other bytes) = bytes

-- within a class, by number and then by bytes, the first that differs
abbrev pub order_within : Value → Value → Ordering
order_within = then_cmp (on number_of int_cmp) (on bytes_of (slice_cmp nat_cmp))

-- which of two values comes first
abbrev pub order_of : Value → Value → Ordering
order_of = then_cmp (on class_of nat_cmp) order_within

-- values that the order does not tell apart are equal
abbrev pub TiesAreEqual : Type 0
TiesAreEqual = (a b : Value) → order_of a b ≡ Equal → a ≡ b
