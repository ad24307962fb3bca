-- The bytes of digits, and the number that they spell.
use Rattle.std.proofs.Common.{◌≡◌, ℕ, suc, ◌+◌, ◌-◌, ◌*◌, ◌%◌, ◌^◌, ◌<◌, ◌≤◌, Bool, true, false, cond, List, [], ◌∷◌, ◌++◌, map, fold, length, take, drop, get_or, get_or-take, IsTrue, refl, sym, ap, ◌∙◌, subst, arith}
use Rattle.std.proofs.Math.Nat.{mod-lt, mod-eq_of_lt, pow-le-pow_right}
use Rattle.std.proofs.lemmas.Bool.{and_parts, leb-true, le-leb, and_from}
use Rattle.std.proofs.lemmas.List.{take_more, take-append-drop}
use Rattle.std.proofs.lemmas.List.Elements.{All-cons, All-tail, All-drop, All-append}
use Rattle.std.proofs.lemmas.List.Sums.{fold-append, take_while-cons, prefix_len_passes}
use Rattle.std.proofs.lemmas.List.Folds.{length-prefix_len}
use Rattle.std.specs.List.{prefix_len}
use Rattle.std.specs.Char.{is_ascii_digit}
use Rattle.json_scalar.specs.Number.{Digit, digits_text, digits_value}
use Rattle.json_scalar.specs.Digits.{AreDigits, spelled_behind, spelled, IsLong}
use Rattle.json_scalar.specs.Parts.{front_digits, behind_digits}
use Rattle.json_scalar.proofs.Powers.{long_next, power_next}

-- ---- one byte

pub digit_bounds : (b : ℕ) → IsTrue (is_ascii_digit b) → (48 ≤ b) × (b ≤ 57)
digit_bounds b is = let p = and_parts _ _ is in (leb-true 48 b p.0, leb-true b 57 p.1)

pub is_digit_of : (d : Digit) → is_ascii_digit (48 + d.value) ≡ true
is_digit_of d = let h = d.small in and_from _ _ (le-leb 48 (48 + d.value) (omega arith)) (le-leb (48 + d.value) 57 (omega arith))

pub digit_of : ℕ → Digit
digit_of b = record { value = (b - 48) % 10; small = mod-lt (b - 48) (omega arith) }

pub digit_of_is : (b : ℕ) → IsTrue (is_ascii_digit b) → 48 + (digit_of b).value ≡ b
unfolding digit_of
digit_of_is b is = let p = digit_bounds b is in let e = mod-eq_of_lt {n = b - 48} {m = 10} (omega (arith, p.0, p.1)) in omega (arith, p.0, p.1, e)

-- ---- a text of digits

pub first_is : (x : ℕ) (xs : List ℕ) → AreDigits (x ∷ xs) → IsTrue (is_ascii_digit x)
first_is x xs all = all 0 0 (omega arith)

pub rest_are : (x : ℕ) (xs : List ℕ) → AreDigits (x ∷ xs) → AreDigits xs
rest_are x xs all = All-tail (λ byte. IsTrue (is_ascii_digit byte)) x xs all

pub digits_of : List ℕ → List Digit
digits_of bytes = map digit_of bytes

pub digits_text-digits_of : (bytes : List ℕ) → AreDigits bytes → digits_text (digits_of bytes) ≡ bytes
unfolding digits_of
digits_text-digits_of [] all = refl
digits_text-digits_of (x ∷ xs) all = λ i. digit_of_is x (first_is x xs all) i ∷ digits_text-digits_of xs (rest_are x xs all) i

pub AreDigits-digits_text : (ds : List Digit) → AreDigits (digits_text ds)
AreDigits-digits_text [] = λ k d h. absurd (omega arith)
AreDigits-digits_text (d ∷ ds) = All-cons (λ byte. IsTrue (is_ascii_digit byte)) (48 + d.value) (digits_text ds) (is_digit_of d) (AreDigits-digits_text ds)

value_behind : (n : ℕ) (ds : List Digit) → fold (λ m digit. m * 10 + digit.value) n ds ≡ spelled_behind n (digits_text ds)
value_behind n [] = refl
value_behind n (d ∷ ds) = let e : d.value ≡ 48 + d.value - 48 = omega arith in value_behind (n * 10 + d.value) ds ∙ ap (λ v. spelled_behind (n * 10 + v) (digits_text ds)) e

pub digits_value_is : (ds : List Digit) → digits_value ds ≡ spelled (digits_text ds)
digits_value_is ds = value_behind 0 ds

pub spelled_behind-append : (n : ℕ) (a b : List ℕ) → spelled_behind n (a ++ b) ≡ spelled_behind (spelled_behind n a) b
spelled_behind-append n a b = fold-append (λ (m byte : ℕ). m * 10 + (byte - 48)) n a b

pub spelled_behind-more : (n : ℕ) (bytes : List ℕ) (i : ℕ) → i < length bytes → spelled_behind n (take (i + 1) bytes) ≡ spelled_behind n (take i bytes) * 10 + (get_or bytes i 0 - 48)
spelled_behind-more n bytes i h = ap (spelled_behind n) (take_more bytes i 0 h) ∙ spelled_behind-append n (take i bytes) (get_or bytes i 0 ∷ [])

pub long_behind : (n : ℕ) (bytes : List ℕ) → AreDigits bytes → IsLong n → IsLong (spelled_behind n bytes)
long_behind n [] all long = long
long_behind n (x ∷ xs) all long =
    let p = digit_bounds x (first_is x xs all) in
    long_behind (n * 10 + (x - 48)) xs (rest_are x xs all) (long_next n (x - 48) (omega (arith, p.0, p.1)) long)

pub long_from : (n : ℕ) (bytes : List ℕ) (i : ℕ) → AreDigits bytes → i < length bytes → IsLong (spelled_behind n (take i bytes) * 10 + (get_or bytes i 0 - 48)) → IsLong (spelled_behind n bytes)
long_from n bytes i all h long =
    let so_far = subst IsLong (sym (spelled_behind-more n bytes i h)) long in
    let whole = sym (spelled_behind-append n (take (i + 1) bytes) (drop (i + 1) bytes)) ∙ ap (spelled_behind n) (take-append-drop (i + 1) bytes) in
    subst IsLong whole (long_behind _ (drop (i + 1) bytes) (All-drop (λ byte. IsTrue (is_ascii_digit byte)) (i + 1) bytes all) so_far)

pub digits_more : (bytes : List ℕ) (i : ℕ) → AreDigits (take i bytes) → i < length bytes → IsTrue (is_ascii_digit (get_or bytes i 0)) → AreDigits (take (i + 1) bytes)
digits_more bytes i all h is =
    let digit = λ (byte : ℕ). IsTrue (is_ascii_digit byte) in
    subst AreDigits (sym (take_more bytes i 0 h)) (All-append digit (take i bytes) (get_or bytes i 0 ∷ []) all (All-cons digit (get_or bytes i 0) [] is (λ k d h. absurd (omega arith))))

-- ---- few digits

pub below_more : (n digit i : ℕ) → n < 10 ^ i → digit < 10 → n * 10 + digit < 10 ^ (i + 1)
below_more n digit i h small = let e = power_next i in omega arith

pub below_eighteen : (n i : ℕ) → n < 10 ^ i → i ≤ 18 → n < 10 ^ 18
below_eighteen n i h le = let m : 10 ^ i ≤ 10 ^ 18 = pow-le-pow_right (omega arith) le in omega arith

pub below_seventeen : (n i : ℕ) → n < 10 ^ i → i < 18 → n < 10 ^ 17
below_seventeen n i h le = let le : i ≤ 17 = omega arith in let m : 10 ^ i ≤ 10 ^ 17 = pow-le-pow_right (omega arith) le in omega arith

-- ---- the digits at the front of a text

-- no digit stands at the front
pub record Stops (text : List ℕ) : Type 0 where
  pub none : prefix_len is_ascii_digit text ≡ 0

front_byte : (b : Bool) (x : ℕ) (front xs : List ℕ) → b ≡ true → cond b (x ∷ front) [] ≡ x ∷ front
front_byte true x front xs e = refl
front_byte false x front xs e = cc

behind_byte : (b : Bool) (n x : ℕ) (xs : List ℕ) → b ≡ true → drop (cond b (1 + n) 0) (x ∷ xs) ≡ drop n xs
behind_byte true n x xs e = let next : 1 + n ≡ suc n = omega arith in ap (λ k. drop k (x ∷ xs)) next
behind_byte false n x xs e = cc

pub front-digits_text : (ds : List Digit) (rest : List ℕ) → Stops rest → front_digits (digits_text ds ++ rest) ≡ digits_text ds
front-digits_text [] rest stops = ap (λ k. take k rest) stops.none
front-digits_text (d ∷ ds) rest stops =
    take_while-cons is_ascii_digit (48 + d.value) (digits_text ds ++ rest) ∙ front_byte _ _ _ rest (is_digit_of d) ∙ ap (λ l. (48 + d.value) ∷ l) (front-digits_text ds rest stops)

pub behind-digits_text : (ds : List Digit) (rest : List ℕ) → Stops rest → behind_digits (digits_text ds ++ rest) ≡ rest
behind-digits_text [] rest stops = ap (λ k. drop k rest) stops.none
behind-digits_text (d ∷ ds) rest stops = behind_byte _ _ _ _ (is_digit_of d) ∙ behind-digits_text ds rest stops

pub front-behind : (text : List ℕ) → front_digits text ++ behind_digits text ≡ text
front-behind text = take-append-drop (prefix_len is_ascii_digit text) text

pub AreDigits-front : (text : List ℕ) → AreDigits (front_digits text)
AreDigits-front text = λ k d h.
    let below : k < prefix_len is_ascii_digit text = subst (λ n. k < n) (length-prefix_len is_ascii_digit text) h in
    ap is_ascii_digit (get_or-take (prefix_len is_ascii_digit text) text k d below) ∙ prefix_len_passes is_ascii_digit text k d below
