-- What no value's text is.
use Rattle.std.proofs.Common.{◌≡◌, ◌≢◌, ◌⊎◌, ℕ, suc, ◌+◌, ◌-◌, ◌^◌, ◌<◌, ◌≤◌, ℤ, pos, negsuc, Bool, true, false, List, [], ◌∷◌, ◌++◌, length, take, drop, slice_index, Option, None, Some, IfNone, Result, Ok, Err, nat_eq, arith, refl, sym, ap, ◌∙◌, subst, IsUtf8, drop-cons, add-one}
use Rattle.std.specs.Fmt.{decimal, signed_decimal}
use Rattle.std.specs.Int.{w128}
use Rattle.std.specs.Prelude.{FitsSigned}
use Rattle.std.specs.Cmp.Lexicographic.{pointwise}
use Rattle.std.proofs.lemmas.Bool.{true≢false}
use Rattle.std.proofs.lemmas.Cmp.{nat_list_eq_equiv}
use Rattle.std.proofs.lemmas.Fmt.{IsAscii-decimal_wide}
use Rattle.std.proofs.lemmas.List.{take_more, take-append-drop, take_rest}
use Rattle.std.proofs.lemmas.Str.{IsUtf8-from_ascii}
use Rattle.value_order.specs.Held.{IsHeld}
use Rattle.value_order.specs.Marks.{Lacks}
use Rattle.value_order.specs.Parts.{HasParts}
use Rattle.value_order.specs.Texts.{counted_text, decimal_text, minus_text, text_of}
use Rattle.value_order.specs.declared.decimal.Decimal.{Decimal}
use Rattle.value_order.specs.declared.value.Value.{Value}
use Rattle.value_order.specs.declared.value.Value.TheVariants.{Null, False, True, Number, Text, Instant, Other}
use Rattle.value_order.proofs.TextLemmas.{heads, tails, no_minus, above, small_instant, mark_of, behind_mark, marked, decimal_injective_wide, signed_injective, decimal_lacks, digits_small, exponent_small, lacks_append, split_at_mark, counted_end}

pub decimal_utf8 : (n : ℕ) → n < 2 ^ 128 → IsUtf8 (decimal n)
decimal_utf8 n small = IsUtf8-from_ascii (decimal n) (IsAscii-decimal_wide n (omega arith))

-- whole numbers with a minus
pub negative_none : (digits text : List ℕ) → text ≡ 45 ∷ digits → ((n : ℕ) → n < 2 ^ 128 → decimal n ≢ digits) → (z : ℤ) → FitsSigned w128 z → signed_decimal z ≢ text
negative_none digits text is none (pos n) fits e = no_minus n digits (small_instant (pos n) fits) (sym (e ∙ is))
negative_none digits text is none (negsuc n) fits e =
    none (suc n) (let h = fits.sfits in omega (arith, h)) (tails 45 45 (decimal (suc n)) digits (e ∙ is))

pub negative_large : (m : ℕ) (digits text : List ℕ) → text ≡ 45 ∷ digits → m < 2 ^ 128 → decimal m ≡ digits → (m ≡ 0) ⊎ (2 ^ 127 < m) → (z : ℤ) → FitsSigned w128 z → signed_decimal z ≢ text
negative_large m digits text is small has large (pos n) fits e = no_minus n digits (small_instant (pos n) fits) (sym (e ∙ is))
negative_large m digits text is small has large (negsuc n) fits e =
    let same : suc n ≡ m = decimal_injective_wide (suc n) m (small_instant (negsuc n) fits) (omega arith) (tails 45 45 (decimal (suc n)) digits (e ∙ is) ∙ sym has) in
    let h = fits.sfits in
    omega (arith, h, same, large)

-- and without one
pub positive_none : (text : List ℕ) → ((rest : List ℕ) → text ≢ 45 ∷ rest) → ((n : ℕ) → n < 2 ^ 128 → decimal n ≢ text) → (z : ℤ) → FitsSigned w128 z → signed_decimal z ≢ text
positive_none text plain none (pos n) fits e = none n (let h = fits.sfits in omega (arith, h)) e
positive_none text plain none (negsuc n) fits e = plain (decimal (suc n)) (sym e)

pub positive_large : (m : ℕ) (text : List ℕ) → ((rest : List ℕ) → text ≢ 45 ∷ rest) → m < 2 ^ 128 → decimal m ≡ text → 2 ^ 127 ≤ m → (z : ℤ) → FitsSigned w128 z → signed_decimal z ≢ text
positive_large m text plain small has large (pos n) fits e =
    let same : n ≡ m = decimal_injective_wide n m (small_instant (pos n) fits) (omega arith) (e ∙ sym has) in
    let h = fits.sfits in
    omega (arith, h, same, large)
positive_large m text plain small has large (negsuc n) fits e = plain (decimal (suc n)) (sym e)

-- no decimal has parts that no decimal has
pub parts_none : (negative : Bool) (m : ℕ) (power : ℤ) (digits exponent : List ℕ) → m < 10 ^ 64 → above power < 10 ^ 64 → decimal m ≡ digits → signed_decimal power ≡ exponent
    → ((d : Decimal) → ¬ HasParts negative m power d) → (d : Decimal) → d.negative ≡ negative → decimal d.digits ≡ digits → signed_decimal d.exponent ≢ exponent
parts_none negative m power digits exponent small few has spells none d sign number raise =
    none d (record {
      sign = sign;
      number = decimal_injective_wide d.digits m (digits_small d) small (number ∙ sym has);
      power = signed_injective d.exponent power (exponent_small d) few (raise ∙ sym spells);
    })

-- decimals behind their sign
pub decimal_cut : (d : Decimal) (front back : List ℕ) → Lacks 101 front → decimal d.digits ++ 101 ∷ signed_decimal d.exponent ≡ front ++ 101 ∷ back → (decimal d.digits ≡ front) × (signed_decimal d.exponent ≡ back)
decimal_cut d front back lacks e =
    split_at_mark 101 (decimal d.digits) front (signed_decimal d.exponent) back (decimal_lacks 101 d.digits (λ h. omega (arith, h)) (digits_small d)) lacks e

not_lacking : (mark : ℕ) (xs ys : List ℕ) → ¬ Lacks mark (xs ++ mark ∷ ys)
not_lacking mark [] ys h = h.0 refl
not_lacking mark (x ∷ xs) ys h = not_lacking mark xs ys h.1

pub lacking_mark : (mark : ℕ) (text xs ys : List ℕ) → Lacks mark text → xs ++ mark ∷ ys ≢ text
lacking_mark mark text xs ys lacks e = not_lacking mark xs ys (subst (λ (l : List ℕ). Lacks mark l) (sym e) lacks)

-- a decimal with a minus begins with it, and one without does not
pub signed_decimal_text : (d : Decimal) (rest : List ℕ) → decimal_text d ≡ 45 ∷ rest → (d.negative ≡ true) × (decimal d.digits ++ 101 ∷ signed_decimal d.exponent ≡ rest)
signed_decimal_text d rest e = go d.negative refl e
  where
    go : (s : Bool) → d.negative ≡ s → minus_text s ++ (decimal d.digits ++ 101 ∷ signed_decimal d.exponent) ≡ 45 ∷ rest → (d.negative ≡ true) × (decimal d.digits ++ 101 ∷ signed_decimal d.exponent ≡ rest)
    go true is f = (is, tails 45 45 (decimal d.digits ++ 101 ∷ signed_decimal d.exponent) rest f)
    go false is f = absurd (no_front (decimal d.digits) (decimal_lacks 45 d.digits (λ h. omega (arith, h)) (digits_small d)) f)
      where
        no_front : (xs : List ℕ) → Lacks 45 xs → xs ++ 101 ∷ signed_decimal d.exponent ≡ 45 ∷ rest → ⊥
        no_front [] h g = let k : 101 ≡ 45 = heads 101 45 (signed_decimal d.exponent) rest g in omega (arith, k)
        no_front (x ∷ xs) h g = h.0 (heads x 45 (xs ++ 101 ∷ signed_decimal d.exponent) rest g)

pub unsigned_decimal_text : (d : Decimal) (text : List ℕ) → ((rest : List ℕ) → text ≢ 45 ∷ rest) → decimal_text d ≡ text → (d.negative ≡ false) × (decimal d.digits ++ 101 ∷ signed_decimal d.exponent ≡ text)
unsigned_decimal_text d text plain e = go d.negative refl e
  where
    go : (s : Bool) → d.negative ≡ s → minus_text s ++ (decimal d.digits ++ 101 ∷ signed_decimal d.exponent) ≡ text → (d.negative ≡ false) × (decimal d.digits ++ 101 ∷ signed_decimal d.exponent ≡ text)
    go true is f = absurd (plain (decimal d.digits ++ 101 ∷ signed_decimal d.exponent) (sym f))
    go false is f = (is, f)

-- counted texts
pub counted_cut : (bytes front back : List ℕ) → length bytes < 2 ^ 63 → Lacks 58 front → counted_text bytes ≡ front ++ 58 ∷ back → (decimal (length bytes) ≡ front) × (bytes ≡ back)
counted_cut bytes front back small lacks e =
    split_at_mark 58 (decimal (length bytes)) front bytes back (decimal_lacks 58 (length bytes) (λ h. omega (arith, h)) (omega arith)) lacks e

pub counted_other : (bytes front back : List ℕ) → Lacks 58 front → decimal (length back) ≢ front → length bytes < 2 ^ 63 → counted_text bytes ≢ front ++ 58 ∷ back
counted_other bytes front back lacks other small e =
    let cut = counted_cut bytes front back small lacks e in
    other (subst (λ (l : List ℕ). decimal (length l) ≡ front) cut.1 cut.0)

-- by the byte at the front
mark_is : (v : Value) (mark : ℕ) (rest : List ℕ) → text_of v ≡ mark ∷ rest → mark_of v ≡ mark
mark_is v mark rest e = heads (mark_of v) mark (behind_mark v) rest (sym (marked v) ∙ e)

rest_is : (v : Value) (mark : ℕ) (rest : List ℕ) → text_of v ≡ mark ∷ rest → behind_mark v ≡ rest
rest_is v mark rest e = tails (mark_of v) mark (behind_mark v) rest (sym (marked v) ∙ e)

pub other_mark : (mark : ℕ) (rest : List ℕ) → mark ≢ 110 → mark ≢ 102 → mark ≢ 116 → mark ≢ 35 → mark ≢ 34 → mark ≢ 64 → mark ≢ 63 → (v : Value) → IsHeld v → text_of v ≢ mark ∷ rest
other_mark mark rest a b c d e f g v held is = go v (mark_is v mark rest is)
  where
    go : (v : Value) → mark_of v ≡ mark → ⊥
    go Null h = a (sym h)
    go False h = b (sym h)
    go True h = c (sym h)
    go (Number x) h = d (sym h)
    go (Text x) h = e (sym h)
    go (Instant x) h = f (sym h)
    go (Other x) h = g (sym h)

-- nothing stands behind n, f and t
pub alone_none : (mark : ℕ) (rest : List ℕ) → (mark ≡ 110) ⊎ ((mark ≡ 102) ⊎ (mark ≡ 116)) → rest ≢ [] → (v : Value) → IsHeld v → text_of v ≢ mark ∷ rest
alone_none mark rest which some v held is = go v (mark_is v mark rest is) (rest_is v mark rest is)
  where
    go : (v : Value) → mark_of v ≡ mark → behind_mark v ≡ rest → ⊥
    go Null h t = some (sym t)
    go False h t = some (sym t)
    go True h t = some (sym t)
    go (Number x) h t = omega arith
    go (Text x) h t = omega arith
    go (Instant x) h t = omega arith
    go (Other x) h t = omega arith

pub number_none : (rest : List ℕ) → ((d : Decimal) → decimal_text d ≢ rest) → (v : Value) → IsHeld v → text_of v ≢ 35 ∷ rest
number_none rest none v held is = go v (mark_is v 35 rest is) (rest_is v 35 rest is)
  where
    go : (v : Value) → mark_of v ≡ 35 → behind_mark v ≡ rest → ⊥
    go (Number x) h t = none x t
    go v h t = omega arith

pub text_none : (rest : List ℕ) → ((bytes : List ℕ) → IsUtf8 bytes → length bytes < 2 ^ 63 → counted_text bytes ≢ rest) → (v : Value) → IsHeld v → text_of v ≢ 34 ∷ rest
text_none rest none v held is = go v held (mark_is v 34 rest is) (rest_is v 34 rest is)
  where
    go : (v : Value) → IsHeld v → mark_of v ≡ 34 → behind_mark v ≡ rest → ⊥
    go (Text x) p h t = none x p.0 p.1 t
    go v p h t = omega arith

pub instant_none : (rest : List ℕ) → ((z : ℤ) → FitsSigned w128 z → signed_decimal z ≢ rest) → (v : Value) → IsHeld v → text_of v ≢ 64 ∷ rest
instant_none rest none v held is = go v held (mark_is v 64 rest is) (rest_is v 64 rest is)
  where
    go : (v : Value) → IsHeld v → mark_of v ≡ 64 → behind_mark v ≡ rest → ⊥
    go (Instant x) p h t = none x p t
    go v p h t = omega arith

pub other_none : (rest : List ℕ) → ((bytes : List ℕ) → length bytes < 2 ^ 63 → counted_text bytes ≢ rest) → (v : Value) → IsHeld v → text_of v ≢ 63 ∷ rest
other_none rest none v held is = go v held (mark_is v 63 rest is) (rest_is v 63 rest is)
  where
    go : (v : Value) → IsHeld v → mark_of v ≡ 63 → behind_mark v ≡ rest → ⊥
    go (Other x) p h t = none x p t
    go v p h t = omega arith

pub at_none : {T : Type 0} (o : Option T) (P Q : Type 0) → (P → Q) → IfNone o P → IfNone o Q
at_none None P Q f h = f h
at_none (Some x) P Q f h = h

pub err_not_ok : {T F : Type 0} (r : Result T F) (e : F) (x : T) → r ≡ Err e → r ≡ Ok x → ⊥
err_not_ok r e x h k = cc

pub ok_same : {T F : Type 0} (r : Result T F) (x y : T) → r ≡ Ok x → r ≡ Ok y → x ≡ y
ok_same r x y h k = cc

-- lists that a comparison tells apart
pub told_apart : (xs ys : List ℕ) → false ≡ pointwise nat_eq xs ys → xs ≢ ys
told_apart xs ys apart same = true≢false (sym (nat_list_eq_equiv.refl xs) ∙ ap (λ (l : List ℕ). pointwise nat_eq xs l) same ∙ sym apart)

pub counted_injective : (xs ys text : List ℕ) → length xs < 2 ^ 63 → length ys < 2 ^ 63 → counted_text xs ≡ text → counted_text ys ≡ text → xs ≡ ys
counted_injective xs ys text p q e f = (counted_end xs ys [] [] p q (ap (λ (l : List ℕ). l ++ []) (e ∙ sym f))).0

-- a slice from a place on
pub rest_from : (text : List ℕ) (at : ℕ) → take (length text - at) (drop at text) ≡ drop at text
rest_from text at = take_rest text at

pub lacks_more : (mark : ℕ) (text : List ℕ) (at : ℕ) → at < length text → Lacks mark (take at text) → slice_index text at ≢ mark → Lacks mark (take (at + 1) text)
lacks_more mark text at inside lacks other =
    rw (take_more text at 0 inside) (lacks_append mark (take at text) (slice_index text at ∷ []) lacks (other, tt))

drop_at : (text : List ℕ) (at : ℕ) → at < length text → drop at text ≡ slice_index text at ∷ drop (at + 1) text
drop_at text at inside = rw (add-one, drop-cons text at 0) refl

pub cut_at : (text : List ℕ) (at byte : ℕ) → at < length text → slice_index text at ≡ byte → text ≡ take at text ++ byte ∷ drop (at + 1) text
cut_at text at byte inside is =
    sym (take-append-drop at text) ∙ ap (λ (l : List ℕ). take at text ++ l) (drop_at text at inside ∙ ap (λ (b : ℕ). b ∷ drop (at + 1) text) is)
