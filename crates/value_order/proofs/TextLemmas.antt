-- Texts of values: where they end, and that they tell values apart.
use Rattle.std.proofs.Common.{◌≡◌, ℕ, suc, ◌^◌, ◌<◌, ℤ, pos, negsuc, ◌≤ℤ◌, Bool, true, false, List, [], ◌∷◌, ◌++◌, length, arith, refl, sym, ap, ◌∙◌, subst, append_assoc}
use Rattle.std.specs.Char.{digit_value}
use Rattle.std.specs.Fmt.{decimal, signed_decimal}
use Rattle.std.specs.Int.{w128}
use Rattle.std.specs.Prelude.{FitsSigned}
use Rattle.std.specs.Str.Parse.{AllDigits, digits_value}
use Rattle.std.specs.declared.cmp.Ordering.TheVariants.{Equal}
use Rattle.std.proofs.lemmas.Cmp.{tied_itself}
use Rattle.std.proofs.lemmas.Fmt.{decimal_is_IsNumeral_wide}
use Rattle.std.proofs.lemmas.Int.{ints}
use Rattle.value_order.specs.Order.{order_of}
use Rattle.value_order.specs.Texts.{counted_text, minus_text, decimal_text, text_of}
use Rattle.value_order.specs.Marks.{Lacks}
use Rattle.value_order.specs.Held.{IsHeld, TextsAreDistinct, TextsEnd, TiesHaveOneText}
use Rattle.value_order.specs.declared.decimal.Decimal.{Decimal}
use Rattle.value_order.specs.declared.value.Value.{Value}
use Rattle.value_order.specs.declared.value.Value.TheVariants.{Null, False, True, Number, Text, Instant, Other}
use Rattle.value_order.proofs.DecimalLemmas.{same_decimal}
use Rattle.value_order.proofs.OrderLemmas.{order_total}
use Rattle.value_order.proofs.TieLemmas.{ties}

pub heads : (x y : ℕ) (xs ys : List ℕ) → x ∷ xs ≡ y ∷ ys → x ≡ y
heads x y xs ys e = cc

pub tails : (x y : ℕ) (xs ys : List ℕ) → x ∷ xs ≡ y ∷ ys → xs ≡ ys
tails x y xs ys e = cc

-- a list is cut at the first byte of a kind in one way
pub split_at_mark : (mark : ℕ) (xs ys s t : List ℕ) → Lacks mark xs → Lacks mark ys → xs ++ mark ∷ s ≡ ys ++ mark ∷ t → (xs ≡ ys) × (s ≡ t)
split_at_mark mark [] [] s t p q e = (refl, tails mark mark s t e)
split_at_mark mark [] (y ∷ ys) s t p q e = absurd (q.0 (sym (heads mark y s (ys ++ mark ∷ t) e)))
split_at_mark mark (x ∷ xs) [] s t p q e = absurd (p.0 (heads x mark (xs ++ mark ∷ s) t e))
split_at_mark mark (x ∷ xs) (y ∷ ys) s t p q e =
    let first : x ≡ y = heads x y (xs ++ mark ∷ s) (ys ++ mark ∷ t) e in
    let others = split_at_mark mark xs ys s t p.1 q.1 (tails x y (xs ++ mark ∷ s) (ys ++ mark ∷ t) e) in
    let rest : xs ≡ ys = others.0 in
    (cc, others.1)

-- fronts of one length
pub split_at_length : (xs ys s t : List ℕ) → length xs ≡ length ys → xs ++ s ≡ ys ++ t → (xs ≡ ys) × (s ≡ t)
split_at_length [] [] s t same e = (refl, e)
split_at_length [] (y ∷ ys) s t same e = absurd (omega arith)
split_at_length (x ∷ xs) [] s t same e = absurd (omega arith)
split_at_length (x ∷ xs) (y ∷ ys) s t same e =
    let first : x ≡ y = heads x y (xs ++ s) (ys ++ t) e in
    let others = split_at_length xs ys s t (omega arith) (tails x y (xs ++ s) (ys ++ t) e) in
    let rest : xs ≡ ys = others.0 in
    (cc, others.1)

digits_lack : (mark : ℕ) (ds : List ℕ) → (digit_value mark < 10 → ⊥) → AllDigits 10 ds → Lacks mark ds
digits_lack mark [] other h = tt
digits_lack mark (d ∷ ds) other h = (λ e. other (subst (λ (k : ℕ). digit_value k < 10) e h.0), digits_lack mark ds other h.1)

pub decimal_lacks : (mark n : ℕ) → (digit_value mark < 10 → ⊥) → n < 10 ^ 64 → Lacks mark (decimal n)
decimal_lacks mark n other small = digits_lack mark (decimal n) other ((decimal_is_IsNumeral_wide n small).0.1)

pub decimal_injective_wide : (m n : ℕ) → m < 10 ^ 64 → n < 10 ^ 64 → decimal m ≡ decimal n → m ≡ n
decimal_injective_wide m n p q e = sym (decimal_is_IsNumeral_wide m p).1 ∙ ap (digits_value 10) e ∙ (decimal_is_IsNumeral_wide n q).1

-- a minus is no digit
pub no_minus : (n : ℕ) (rest : List ℕ) → n < 10 ^ 64 → 45 ∷ rest ≡ decimal n → ⊥
no_minus n rest small e =
    let lacks : Lacks 45 (45 ∷ rest) = subst (λ (l : List ℕ). Lacks 45 l) (sym e) (decimal_lacks 45 n (λ h. omega (arith, h)) small) in
    lacks.0 refl

pub sign_split : (a b : Bool) (m n : ℕ) → m < 10 ^ 64 → n < 10 ^ 64 → minus_text a ++ decimal m ≡ minus_text b ++ decimal n → (a ≡ b) × (m ≡ n)
sign_split false false m n p q e = (refl, decimal_injective_wide m n p q e)
sign_split true true m n p q e = (refl, decimal_injective_wide m n p q (tails 45 45 (decimal m) (decimal n) e))
sign_split true false m n p q e = absurd (no_minus n (decimal m) q e)
sign_split false true m n p q e = absurd (no_minus m (decimal n) p (sym e))

-- what a whole number is without its sign
abbrev pub is_below : ℤ → Bool
is_below (pos n) = false
is_below (negsuc n) = true

abbrev pub above : ℤ → ℕ
above (pos n) = n
above (negsuc n) = suc n

pub signed_parts : (z : ℤ) → signed_decimal z ≡ minus_text (is_below z) ++ decimal (above z)
signed_parts (pos n) = refl
signed_parts (negsuc n) = refl

same_integer : (x y : ℤ) → is_below x ≡ is_below y → above x ≡ above y → x ≡ y
same_integer (pos m) (pos n) p q = ap pos q
same_integer (negsuc m) (negsuc n) p q = ap negsuc (omega arith)
same_integer (pos m) (negsuc n) p q = absurd (cc)
same_integer (negsuc m) (pos n) p q = absurd (cc)

pub signed_injective : (x y : ℤ) → above x < 10 ^ 64 → above y < 10 ^ 64 → signed_decimal x ≡ signed_decimal y → x ≡ y
signed_injective x y p q e =
    let parts = sign_split (is_below x) (is_below y) (above x) (above y) p q (sym (signed_parts x) ∙ e ∙ signed_parts y) in
    same_integer x y parts.0 parts.1

pub lacks_append : (mark : ℕ) (xs ys : List ℕ) → Lacks mark xs → Lacks mark ys → Lacks mark (xs ++ ys)
lacks_append mark [] ys p q = q
lacks_append mark (x ∷ xs) ys p q = (p.0, lacks_append mark xs ys p.1 q)

pub minus_lacks : (mark : ℕ) (a : Bool) → (45 ≡ mark → ⊥) → Lacks mark (minus_text a)
minus_lacks mark true other = (other, tt)
minus_lacks mark false other = tt

pub signed_lacks : (mark : ℕ) (z : ℤ) → (digit_value mark < 10 → ⊥) → (45 ≡ mark → ⊥) → above z < 10 ^ 64 → Lacks mark (signed_decimal z)
signed_lacks mark z digit minus small =
    subst (λ (l : List ℕ). Lacks mark l) (sym (signed_parts z)) (lacks_append mark (minus_text (is_below z)) (decimal (above z)) (minus_lacks mark (is_below z) minus) (decimal_lacks mark (above z) digit small))

-- whole numbers in front of a mark
signed_end : (mark : ℕ) (x y : ℤ) (s t : List ℕ) → (digit_value mark < 10 → ⊥) → (45 ≡ mark → ⊥) → above x < 10 ^ 64 → above y < 10 ^ 64 → signed_decimal x ++ mark ∷ s ≡ signed_decimal y ++ mark ∷ t → (x ≡ y) × (s ≡ t)
signed_end mark x y s t digit minus p q e =
    let split = split_at_mark mark (signed_decimal x) (signed_decimal y) s t (signed_lacks mark x digit minus p) (signed_lacks mark y digit minus q) e in
    (signed_injective x y p q split.0, split.1)

pub counted_end : (xs ys s t : List ℕ) → length xs < 2 ^ 63 → length ys < 2 ^ 63 → counted_text xs ++ s ≡ counted_text ys ++ t → (xs ≡ ys) × (s ≡ t)
counted_end xs ys s t p q e =
    let m : length xs < 10 ^ 64 = omega arith in
    let n : length ys < 10 ^ 64 = omega arith in
    let whole : decimal (length xs) ++ 58 ∷ (xs ++ s) ≡ decimal (length ys) ++ 58 ∷ (ys ++ t) = sym (append_assoc (decimal (length xs)) (58 ∷ xs) s) ∙ e ∙ append_assoc (decimal (length ys)) (58 ∷ ys) t in
    let split = split_at_mark 58 (decimal (length xs)) (decimal (length ys)) (xs ++ s) (ys ++ t) (decimal_lacks 58 (length xs) (λ h. omega (arith, h)) m) (decimal_lacks 58 (length ys) (λ h. omega (arith, h)) n) whole in
    split_at_length xs ys s t (decimal_injective_wide (length xs) (length ys) m n split.0) split.1

small_exponent : (z : ℤ) → negsuc 399 ≤ℤ z → z ≤ℤ pos 400 → above z < 10 ^ 64
small_exponent (pos n) p q = omega (arith, ints)
small_exponent (negsuc n) p q = omega (arith, ints)

pub exponent_small : (d : Decimal) → above d.exponent < 10 ^ 64
exponent_small d = small_exponent d.exponent d.normal.least d.normal.greatest

pub digits_small : (d : Decimal) → d.digits < 10 ^ 64
digits_small d = let h : d.digits < 10 ^ 38 = d.normal.short in omega arith

decimal_end : (a b : Decimal) (s t : List ℕ) → decimal_text a ++ 59 ∷ s ≡ decimal_text b ++ 59 ∷ t → (a ≡ b) × (s ≡ t)
decimal_end a b s t e =
    let regroup : (d : Decimal) (r : List ℕ) → decimal_text d ++ 59 ∷ r ≡ (minus_text d.negative ++ decimal d.digits) ++ 101 ∷ (signed_decimal d.exponent ++ 59 ∷ r) = λ d r. simp append_assoc in
    let lacks : (d : Decimal) → Lacks 101 (minus_text d.negative ++ decimal d.digits) = λ d. lacks_append 101 (minus_text d.negative) (decimal d.digits) (minus_lacks 101 d.negative (λ h. omega (arith, h))) (decimal_lacks 101 d.digits (λ h. omega (arith, h)) (digits_small d)) in
    let split = split_at_mark 101 (minus_text a.negative ++ decimal a.digits) (minus_text b.negative ++ decimal b.digits) (signed_decimal a.exponent ++ 59 ∷ s) (signed_decimal b.exponent ++ 59 ∷ t) (lacks a) (lacks b) (sym (regroup a s) ∙ e ∙ regroup b t) in
    let parts = sign_split a.negative b.negative a.digits b.digits (digits_small a) (digits_small b) split.0 in
    let end = signed_end 59 a.exponent b.exponent s t (λ h. omega (arith, h)) (λ h. omega (arith, h)) (exponent_small a) (exponent_small b) split.1 in
    (same_decimal a b parts.0 parts.1 end.0, end.1)

pub small_instant : (z : ℤ) → FitsSigned w128 z → above z < 10 ^ 64
small_instant (pos n) fits = let h = fits.sfits in omega (arith, h)
small_instant (negsuc n) fits = let h = fits.sfits in omega (arith, h)

-- the byte at the front of a value's text, and what follows it
abbrev pub mark_of : Value → ℕ
mark_of Null = 110
mark_of False = 102
mark_of True = 116
mark_of (Number d) = 35
mark_of (Text name) = 34
mark_of (Instant n) = 64
mark_of (Other bytes) = 63

abbrev pub behind_mark : Value → List ℕ
behind_mark Null = []
behind_mark False = []
behind_mark True = []
behind_mark (Number d) = decimal_text d
behind_mark (Text name) = counted_text name
behind_mark (Instant n) = signed_decimal n
behind_mark (Other bytes) = counted_text bytes

pub marked : (v : Value) → text_of v ≡ mark_of v ∷ behind_mark v
marked Null = refl
marked False = refl
marked True = refl
marked (Number d) = refl
marked (Text name) = refl
marked (Instant n) = refl
marked (Other bytes) = refl

counted_value : (make : List ℕ → Value) (x y s t : List ℕ) → length x < 2 ^ 63 → length y < 2 ^ 63 → counted_text x ++ 59 ∷ s ≡ counted_text y ++ 59 ∷ t → (make x ≡ make y) × (s ≡ t)
counted_value make x y s t p q e =
    let split = counted_end x y (59 ∷ s) (59 ∷ t) p q e in
    (ap make split.0, tails 59 59 s t split.1)

ends : (a b : Value) (s t : List ℕ) → IsHeld a → IsHeld b → mark_of a ≡ mark_of b → behind_mark a ++ 59 ∷ s ≡ behind_mark b ++ 59 ∷ t → (a ≡ b) × (s ≡ t)
ends Null Null s t p q m e = (refl, tails 59 59 s t e)
ends False False s t p q m e = (refl, tails 59 59 s t e)
ends True True s t p q m e = (refl, tails 59 59 s t e)
ends (Number x) (Number y) s t p q m e = let end = decimal_end x y s t e in (ap Number end.0, end.1)
ends (Text x) (Text y) s t p q m e = counted_value Text x y s t p.1 q.1 e
ends (Instant x) (Instant y) s t p q m e =
    let end = signed_end 59 x y s t (λ h. omega (arith, h)) (λ h. omega (arith, h)) (small_instant x p) (small_instant y q) e in
    (ap Instant end.0, end.1)
ends (Other x) (Other y) s t p q m e = counted_value Other x y s t p q e
ends a b s t p q m e = absurd (omega arith)

pub texts_end_law : TextsEnd
texts_end_law a b s t p q e =
    let whole : mark_of a ∷ (behind_mark a ++ 59 ∷ s) ≡ mark_of b ∷ (behind_mark b ++ 59 ∷ t) = ap (λ (l : List ℕ). l ++ 59 ∷ s) (sym (marked a)) ∙ e ∙ ap (λ (l : List ℕ). l ++ 59 ∷ t) (marked b) in
    ends a b s t p q (heads (mark_of a) (mark_of b) (behind_mark a ++ 59 ∷ s) (behind_mark b ++ 59 ∷ t) whole) (tails (mark_of a) (mark_of b) (behind_mark a ++ 59 ∷ s) (behind_mark b ++ 59 ∷ t) whole)

pub texts_distinct : TextsAreDistinct
texts_distinct a b p q e = (texts_end_law a b [] [] p q (ap (λ (l : List ℕ). l ++ 59 ∷ []) e)).0

pub ties_one_text : TiesHaveOneText
ties_one_text a b p q = (λ e. ap text_of (ties a b e), λ e. subst (λ (v : Value). order_of a v ≡ Equal) (texts_distinct a b p q e) (tied_itself order_total a))
