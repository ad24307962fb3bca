-- What the class of a byte says of the byte.
use Rattle.std.proofs.Common.{◌≡◌, ℕ, ◌-◌, ◌<◌, ◌≤◌, ◌≢◌, Bool, true, false, not, ◌&&◌, cond, refl, sym, subst, ◌∙◌, arith}
use Rattle.std.specs.Prelude.{nat_lt, nat_le, ◌==◌}
use Rattle.std.specs.Char.{digit_value, is_digit}
use Rattle.std.proofs.lemmas.Bool.Decides.{nat_tests}
use Rattle.json_scalar.specs.Text.{is_plain, is_high_surrogate, is_low_surrogate}
use Rattle.json_span.specs.Grammar as json
use Rattle.json_span.specs.Table.{class_of, hex_of}
use Rattle.json_span.specs.declared.class.Class.{Class}
use Rattle.json_span.specs.declared.class.Class.TheVariants as class
use Rattle.json_span.specs.declared.class.Hex.{Hex}
use Rattle.json_span.specs.declared.class.Hex.TheVariants as hex
use Rattle.json_span.proofs.Wants.{IsOfClass, IsHex}

pub equal : (a b : ℕ) → (a == b) ≡ true → a ≡ b
equal a b e = grind (arith, nat_tests)

-- one test of a byte
tested : (b n : ℕ) (t u : Class) → (b ≡ n → IsOfClass t b) → IsOfClass u b → IsOfClass (cond (b == n) t u) b
tested b n t u yes_case no_case = by_case (b == n) refl
  where
    by_case : (x : Bool) → (b == n) ≡ x → IsOfClass (cond x t u) b
    by_case true e = yes_case (equal b n e)
    by_case false e = no_case

-- the digits but 0
tested_digit : (b : ℕ) (u : Class) → IsOfClass u b → IsOfClass (cond (nat_le 49 b && nat_le b 57) class.Digit u) b
tested_digit b u no_case = by_case (nat_le 49 b) (nat_le b 57) refl refl
  where
    by_case : (x y : Bool) → nat_le 49 b ≡ x → nat_le b 57 ≡ y → IsOfClass (cond (x && y) class.Digit u) b
    by_case true true e f =
        let low : 49 ≤ b = grind (arith, nat_tests) in
        let high : b ≤ 57 = grind (arith, nat_tests) in
        (record { value = b - 48; small = omega arith }, omega arith, omega arith)
    by_case true false e f = no_case
    by_case false y e f = no_case

pub class_fact : (b : ℕ) → IsOfClass (class_of b) b
class_fact b =
    tested b 32 _ _ (λ e. (json.blank, e)) (tested b 9 _ _ (λ e. (json.tab, e)) (tested b 10 _ _ (λ e. (json.newline, e)) (tested b 13 _ _ (λ e. (json.carriage_return, e))
    (tested b 34 _ _ (λ e. e) (tested b 44 _ _ (λ e. e) (tested b 58 _ _ (λ e. e) (tested b 91 _ _ (λ e. e) (tested b 93 _ _ (λ e. e) (tested b 123 _ _ (λ e. e) (tested b 125 _ _ (λ e. e)
    (tested b 45 _ _ (λ e. e) (tested b 43 _ _ (λ e. e) (tested b 46 _ _ (λ e. e) (tested b 48 _ _ (λ e. e) (tested_digit b _
    (tested b 101 _ _ (λ e. (false, e)) (tested b 69 _ _ (λ e. (true, e)) (tested b 116 _ _ (λ e. e) (tested b 102 _ _ (λ e. e) (tested b 110 _ _ (λ e. e) tt))))))))))))))))))))

-- what the class of a hexadecimal digit says of it
abbrev pub IsOfHex : Hex → ℕ → Type 0
IsOfHex hex.Below8 b = IsHex b × (digit_value b < 8)
IsOfHex hex.From8 b = IsHex b × (8 ≤ digit_value b) × (digit_value b < 12)
IsOfHex hex.D b = IsHex b × (digit_value b ≡ 13)
IsOfHex hex.FromC b = IsHex b × (12 ≤ digit_value b) × (digit_value b ≢ 13)
IsOfHex hex.None b = Unit {0}

hex_valued_fact : (b v : ℕ) → IsHex b → digit_value b ≡ v → IsOfHex (cond (nat_lt v 8) hex.Below8 (cond (nat_lt v 12) hex.From8 (cond (v == 13) hex.D hex.FromC))) b
hex_valued_fact b v is e = by_case (nat_lt v 8) (nat_lt v 12) (v == 13) refl refl refl
  where
    below : (n : ℕ) → nat_lt v n ≡ true → v < n
    below n h = grind (arith, nat_tests)

    above : (n : ℕ) → nat_lt v n ≡ false → n ≤ v
    above n h = grind (arith, nat_tests)

    other : (n : ℕ) → (v == n) ≡ false → v ≢ n
    other n h = grind (arith, nat_tests)

    by_case : (x y z : Bool) → nat_lt v 8 ≡ x → nat_lt v 12 ≡ y → (v == 13) ≡ z → IsOfHex (cond x hex.Below8 (cond y hex.From8 (cond z hex.D hex.FromC))) b
    by_case true y z f g h = (is, subst (λ n. n < 8) (sym e) (below 8 f))
    by_case false true z f g h = (is, subst (λ n. 8 ≤ n) (sym e) (above 8 f), subst (λ n. n < 12) (sym e) (below 12 g))
    by_case false false true f g h = (is, e ∙ equal v 13 h)
    by_case false false false f g h = (is, subst (λ n. 12 ≤ n) (sym e) (above 12 g), subst (λ (n : ℕ). n ≢ 13) (sym e) (other 13 h))

pub hex_fact : (b : ℕ) → IsOfHex (hex_of b) b
hex_fact b = by_case (is_digit b 16) refl
  where
    by_case : (x : Bool) → is_digit b 16 ≡ x → IsOfHex (cond x (cond (nat_lt (digit_value b) 8) hex.Below8 (cond (nat_lt (digit_value b) 12) hex.From8 (cond (digit_value b == 13) hex.D hex.FromC))) hex.None) b
    by_case true e = hex_valued_fact b (digit_value b) e refl
    by_case false e = tt

-- a byte that stands for itself
pub is_plain-true : (b : ℕ) → nat_lt b 32 ≡ false → (b == 34) ≡ false → (b == 92) ≡ false → is_plain b ≡ true
is_plain-true b h e f = grind (arith, nat_tests)

-- a code unit that is no surrogate
pub no_surrogates : (u : ℕ) → (0xd800 ≤ u → u < 0xe000 → ⊥) → (not (is_high_surrogate u) && not (is_low_surrogate u)) ≡ true
no_surrogates u h = grind (arith, nat_tests)

pub is_high_surrogate-true : (u : ℕ) → 0xd800 ≤ u → u < 0xdc00 → is_high_surrogate u ≡ true
is_high_surrogate-true u h k = grind (arith, nat_tests)

pub is_low_surrogate-true : (u : ℕ) → 0xdc00 ≤ u → u < 0xe000 → is_low_surrogate u ≡ true
is_low_surrogate-true u h k = grind (arith, nat_tests)
