-- Values that the order does not tell apart are equal.
use Rattle.std.proofs.Common.{◌≡◌, ◌≢◌, inl, inr, ℕ, zero, suc, ◌+◌, ◌-◌, ◌*◌, ◌%◌, ◌^◌, ◌<◌, ◌≤◌, ℤ, pos, negsuc, ◌≤ℤ◌, Bool, true, false, List, [], ◌∷◌, arith, refl, sym, ap, ◌∙◌}
use Rattle.std.proofs.lemmas.Bool.{cases_lt, cases_eq}
use Rattle.std.proofs.lemmas.Cmp.{ranked, int_ranked}
use Rattle.std.proofs.lemmas.Int.{ints}
use Rattle.std.proofs.lemmas.Nat.{pow-add}
use Rattle.std.proofs.Math.Nat.{mul-le-mul_right}
use Rattle.std.specs.Cmp.Lexicographic.{slice_cmp}
use Rattle.std.specs.declared.cmp.Ordering.{Ordering}
use Rattle.std.specs.declared.cmp.Ordering.TheVariants.{Less, Equal, Greater}
use Rattle.std.specs.Ordering.{nat_cmp, int_cmp, ordering_then, MatchOrdering}
use Rattle.value_order.specs.Order.{class_of, number_of, bytes_of, order_within, order_of, signed, size_of, scaled, raised}
use Rattle.value_order.specs.declared.decimal.Decimal.{Decimal}
use Rattle.value_order.specs.declared.value.Value.{Value}
use Rattle.value_order.specs.declared.value.Value.TheVariants.{Null, False, True, Number, Text, Instant, Other}
use Rattle.value_order.proofs.SizeLemmas.{ten_power, split_power}
use Rattle.value_order.proofs.SignLemmas.{times_above, size_above}
use Rattle.value_order.proofs.DecimalLemmas.{same_decimal}

-- what does not come first or last is the same
same_of_match : (P Q R : Type 0) (o : Ordering) → o ≡ Equal → MatchOrdering o P Q R → Q
same_of_match P Q R Equal e m = m
same_of_match P Q R Less e m = absurd (cc)
same_of_match P Q R Greater e m = absurd (cc)

nat_tie : (m n : ℕ) → nat_cmp m n ≡ Equal → m ≡ n
nat_tie m n e = same_of_match (m < n) (m ≡ n) (n < m) (nat_cmp m n) e (ranked m n (nat_cmp m n) refl)

int_tie : (m n : ℤ) → int_cmp m n ≡ Equal → m ≡ n
int_tie m n e = same_of_match _ (m ≡ n) _ (int_cmp m n) e (int_ranked m n (int_cmp m n) refl)

first_equal : (o p : Ordering) → ordering_then o p ≡ Equal → o ≡ Equal
first_equal Equal p e = refl
first_equal Less p e = e
first_equal Greater p e = e

second_equal : (o p : Ordering) → ordering_then o p ≡ Equal → p ≡ Equal
second_equal Equal p e = e
second_equal Less p e = absurd (cc)
second_equal Greater p e = absurd (cc)

list_tie : (xs ys : List ℕ) → slice_cmp nat_cmp xs ys ≡ Equal → xs ≡ ys
list_tie [] [] e = refl
list_tie [] (y ∷ ys) e = absurd (cc)
list_tie (x ∷ xs) [] e = absurd (cc)
list_tie (x ∷ xs) (y ∷ ys) e =
    let first : x ≡ y = nat_tie x y (first_equal (nat_cmp x y) (slice_cmp nat_cmp xs ys) e) in
    let rest : xs ≡ ys = list_tie xs ys (second_equal (nat_cmp x y) (slice_cmp nat_cmp xs ys) e) in
    cc

-- a factor above 0 can go
cancel : (a b n : ℕ) → 0 < n → a * n ≡ b * n → a ≡ b
cancel a b n some e = elim (cases_lt a b) [
  | inl less ↦ absurd (let h : (a + 1) * n ≤ b * n = mul-le-mul_right n (omega arith) in omega (arith, h, e))
  | inr least ↦ elim (cases_lt b a) [
    | inl more ↦ absurd (let h : (b + 1) * n ≤ a * n = mul-le-mul_right n (omega arith) in omega (arith, h, e))
    | inr most ↦ omega arith
  ]
]

-- ten times a number ends in 0
ends_in_nought : (d f n : ℕ) → 0 < n → d ≡ f * 10 ^ n → d % 10 ≡ 0
ends_in_nought d f zero some e = absurd (omega arith)
ends_in_nought d f (suc n) some e =
    let ten : 10 ^ suc n ≡ 10 ^ n * 10 = ap (λ (k : ℕ). 10 ^ k) (omega arith) ∙ pow-add 10 n 1 in
    let g : f * 10 ^ suc n ≡ f * 10 ^ n * 10 = ap (λ (k : ℕ). f * k) ten ∙ omega arith in
    let h : d ≡ f * 10 ^ n * 10 = e ∙ g in
    omega (arith, h)

-- digits that do not end in 0 have no lower exponent than others of the same size
no_lower : (d f r s : ℕ) → (d % 10 ≡ 0 → ⊥) → d * 10 ^ r ≡ f * 10 ^ s → s ≤ r
no_lower d f r s ends e = elim (cases_lt r s) [
  | inl lower ↦ absurd (ends (ends_in_nought d f (s - r) (omega arith) (cancel d (f * 10 ^ (s - r)) (10 ^ r) (ten_power r) (e ∙ split_power f s r (omega arith)))))
  | inr most ↦ most
]

same_sign : (a b : Bool) (m n : ℕ) → (a ≡ true → 0 < m) → (b ≡ true → 0 < n) → signed a m ≡ signed b n → (a ≡ b) × (m ≡ n)
same_sign false false m n p q e = (refl, cc)
same_sign true true zero n p q e = absurd (let h = p refl in omega (arith, h))
same_sign true true (suc m) zero p q e = absurd (let h = q refl in omega (arith, h))
same_sign true true (suc m) (suc n) p q e = (refl, cc)
same_sign true false zero n p q e = absurd (let h = p refl in omega (arith, h))
same_sign true false (suc m) n p q e = absurd (cc)
same_sign false true m zero p q e = absurd (let h = q refl in omega (arith, h))
same_sign false true m (suc n) p q e = absurd (cc)

-- exponents from -400 on are told apart by how far they are above it
same_exponent : (e g : ℤ) → negsuc 399 ≤ℤ e → negsuc 399 ≤ℤ g → raised e ≡ raised g → e ≡ g
same_exponent (pos m) (pos n) p q e = ap pos (omega arith)
same_exponent (negsuc m) (negsuc n) p q e = ap negsuc (omega (arith, ints))
same_exponent (pos m) (negsuc n) p q e = absurd (omega arith)
same_exponent (negsuc m) (pos n) p q e = absurd (omega arith)

both_nought : (a b : Decimal) → a.digits ≡ 0 → b.digits ≡ 0 → a ≡ b
both_nought a b p q = same_decimal a b (a.normal.unsigned p ∙ sym (b.normal.unsigned q)) (p ∙ sym q) (a.normal.unraised p ∙ sym (b.normal.unraised q))

nought_size : (d : Decimal) → d.digits ≡ 0 → size_of d ≡ 0
nought_size d none = ap (λ (k : ℕ). k * 10 ^ raised d.exponent) none ∙ omega arith

some_size : (d : Decimal) → d.digits ≢ 0 → 0 < size_of d
some_size d some = times_above d.digits (10 ^ raised d.exponent) (let h : d.digits ≢ 0 = some in omega arith) (ten_power (raised d.exponent))

both_some : (a b : Decimal) → a.digits ≢ 0 → b.digits ≢ 0 → a.negative ≡ b.negative → size_of a ≡ size_of b → a ≡ b
both_some a b p q sign size =
    let r = raised a.exponent in
    let s = raised b.exponent in
    let down : s ≤ r = no_lower a.digits b.digits r s (λ h. p (a.normal.trimmed h)) size in
    let up : r ≤ s = no_lower b.digits a.digits s r (λ h. q (b.normal.trimmed h)) (sym size) in
    let same : r ≡ s = omega arith in
    let digits : a.digits ≡ b.digits = cancel a.digits b.digits (10 ^ r) (ten_power r) (size ∙ ap (λ (k : ℕ). b.digits * 10 ^ k) (sym same)) in
    same_decimal a b sign digits (same_exponent a.exponent b.exponent a.normal.least b.normal.least same)

same_size : (a b : Decimal) → a.negative ≡ b.negative → size_of a ≡ size_of b → a ≡ b
same_size a b sign size = elim (cases_eq a.digits 0) [
  | inl none ↦ elim (cases_eq b.digits 0) [
    | inl other ↦ both_nought a b none other
    | inr some ↦ absurd (let h = some_size b some in let k = nought_size a none in omega (arith, h, k, size))
  ]
  | inr some ↦ elim (cases_eq b.digits 0) [
    | inl none ↦ absurd (let h = some_size a some in let k = nought_size b none in omega (arith, h, k, size))
    | inr other ↦ both_some a b some other sign size
  ]
]

pub decimal_tie : (a b : Decimal) → scaled a ≡ scaled b → a ≡ b
decimal_tie a b e =
    let same = same_sign a.negative b.negative (size_of a) (size_of b) (size_above a) (size_above b) e in
    same_size a b same.0 same.1

-- equal classes
class_tie : (a b : Value) → order_of a b ≡ Equal → class_of a ≡ class_of b
class_tie a b e = nat_tie (class_of a) (class_of b) (first_equal (nat_cmp (class_of a) (class_of b)) (order_within a b) e)

number_tie : (a b : Value) → order_of a b ≡ Equal → number_of a ≡ number_of b
number_tie a b e =
    int_tie (number_of a) (number_of b) (first_equal (int_cmp (number_of a) (number_of b)) (slice_cmp nat_cmp (bytes_of a) (bytes_of b)) (second_equal (nat_cmp (class_of a) (class_of b)) (order_within a b) e))

bytes_tie : (a b : Value) → order_of a b ≡ Equal → bytes_of a ≡ bytes_of b
bytes_tie a b e =
    list_tie (bytes_of a) (bytes_of b) (second_equal (int_cmp (number_of a) (number_of b)) (slice_cmp nat_cmp (bytes_of a) (bytes_of b)) (second_equal (nat_cmp (class_of a) (class_of b)) (order_within a b) e))

-- of equal classes and with equal parts
pub same_value : (a b : Value) → class_of a ≡ class_of b → number_of a ≡ number_of b → bytes_of a ≡ bytes_of b → a ≡ b
same_value Null Null c n t = refl
same_value False False c n t = refl
same_value True True c n t = refl
same_value (Number d) (Number e) c n t = ap Number (decimal_tie d e n)
same_value (Text x) (Text y) c n t = ap Text t
same_value (Instant x) (Instant y) c n t = ap Instant n
same_value (Other x) (Other y) c n t = ap Other t
same_value a b c n t = absurd (cc)

pub ties : (a b : Value) → order_of a b ≡ Equal → a ≡ b
ties a b e = same_value a b (class_tie a b e) (number_tie a b e) (bytes_tie a b e)
