-- A number's value, by its literal and by its parts.
use Rattle.std.proofs.Common.{◌≡◌, ◌≢◌, ℕ, ◌+◌, ◌*◌, ◌%◌, ◌^◌, ◌<◌, Bool, true, false, cond, List, [], ◌∷◌, ◌++◌, length, get_or, Option, Some, None, refl, sym, ap, ◌∙◌, subst, arith, inl, inr, append-nil}
use Rattle.std.proofs.lemmas.List.{map-append, length-map}
use Rattle.json_scalar.specs.Number.{Digit, Digits, counted, Sign, unsigned, plus, minus, Exponent, Literal, all_digits, whole_digits, digits_text, digits_value, fraction_digits, raised, lowered, mantissa, HasValue, IsWhole}
use Rattle.json_scalar.specs.Digits.{AreDigits, spelled, IsLong, IsCapped, Meets}
use Rattle.json_scalar.specs.Parts.{Cut, cut, raised_by, lowered_by, IsValue, HasDigits}
use Rattle.json_scalar.proofs.Options.{some_inj}
use Rattle.json_scalar.proofs.Powers.{meets_low, meets_high, meets_nothing, cancel_power, long_meets}
use Rattle.json_scalar.proofs.Spellings.{digit_bounds, digit_of, digit_of_is, digits_of, digits_text-digits_of, digits_value_is, AreDigits-digits_text, first_is, rest_are}
use Rattle.json_scalar.proofs.Cuts.{literal_cut, exponent_cut, is_minus, complete, sound}

raised_sign : (capital : Bool) (s : Sign) (ds : Digits) → cond (is_minus s) 0 (spelled (digits_text (all_digits ds))) ≡ raised (Some (record { is_capital = capital; sign = s; digits = ds }))
raised_sign capital unsigned ds = sym (digits_value_is (all_digits ds))
raised_sign capital plus ds = sym (digits_value_is (all_digits ds))
raised_sign capital minus ds = refl

pub raised_is : (e : Option Exponent) → cond (exponent_cut e).0 0 (spelled (exponent_cut e).1) ≡ raised e
raised_is None = refl
raised_is (Some e) = raised_sign e.is_capital e.sign e.digits

lowered_sign : (capital : Bool) (s : Sign) (ds : Digits) → cond (is_minus s) (spelled (digits_text (all_digits ds))) 0 ≡ lowered (Some (record { is_capital = capital; sign = s; digits = ds }))
lowered_sign capital unsigned ds = refl
lowered_sign capital plus ds = refl
lowered_sign capital minus ds = sym (digits_value_is (all_digits ds))

pub lowered_is : (e : Option Exponent) → cond (exponent_cut e).0 (spelled (exponent_cut e).1) 0 ≡ lowered e
lowered_is None = refl
lowered_is (Some e) = lowered_sign e.is_capital e.sign e.digits

pub mantissa_is : (l : Literal) → spelled ((literal_cut l).whole ++ (literal_cut l).fraction) ≡ mantissa l
mantissa_is l =
    ap spelled (sym (map-append (λ (d : Digit). 48 + d.value) (whole_digits l.whole) (fraction_digits l.fraction))) ∙ sym (digits_value_is (whole_digits l.whole ++ fraction_digits l.fraction))

left_is : (l : Literal) → spelled ((literal_cut l).whole ++ (literal_cut l).fraction) * 10 ^ raised_by (literal_cut l) ≡ mantissa l * 10 ^ raised l.exponent
left_is l = λ i. mantissa_is l i * 10 ^ raised_is l.exponent i

right_is : (l : Literal) (n : ℕ) → n * 10 ^ (length (literal_cut l).fraction + lowered_by (literal_cut l)) ≡ n * 10 ^ (length (fraction_digits l.fraction) + lowered l.exponent)
right_is l n = λ i. n * 10 ^ (length-map (fraction_digits l.fraction) (λ (d : Digit). 48 + d.value) i + lowered_is l.exponent i)

pub value_of_literal : (l : Literal) (n : ℕ) → HasValue l n → IsValue (literal_cut l) n
value_of_literal l n v = record { not_below = v.not_below; equal = left_is l ∙ v.equal ∙ sym (right_is l n) }

pub literal_value : (l : Literal) (n : ℕ) → IsValue (literal_cut l) n → HasValue l n
literal_value l n v = record { not_below = v.not_below; equal = sym (left_is l) ∙ v.equal ∙ right_is l n }

-- ---- a text and its parts

pub IsWhole-cut : (text : List ℕ) (c : Cut) (n : ℕ) → cut text ≡ Some c → IsValue c n → IsWhole text n
IsWhole-cut text c n e v =
    let s = sound text c e in
    record { literal = s.literal; spelled = s.spelled; value = literal_value s.literal n (subst (λ k. IsValue k n) s.is v) }

pub cut-IsWhole : (text : List ℕ) (c : Cut) (n : ℕ) → cut text ≡ Some c → IsWhole text n → IsValue c n
cut-IsWhole text c n e w =
    let is = some_inj _ _ (sym (ap cut w.spelled ∙ complete w.literal) ∙ e) in
    subst (λ k. IsValue k n) is (value_of_literal w.literal n w.value)

pub no_cut : (text : List ℕ) (n : ℕ) → cut text ≡ None → IsWhole text n → ⊥
no_cut text n e w = let clash : Some (literal_cut w.literal) ≡ None = sym (ap cut w.spelled ∙ complete w.literal) ∙ e in cc

pub one_whole : (text : List ℕ) (m n : ℕ) → IsWhole text m → IsWhole text n → m ≡ n
one_whole text m n v w =
    let c = literal_cut w.literal in
    let e : cut text ≡ Some c = ap cut w.spelled ∙ complete w.literal in
    let a = cut-IsWhole text c m e v in
    let b = cut-IsWhole text c n e w in
    cancel_power m n (length c.fraction + lowered_by c) (sym a.equal ∙ b.equal)

exponent_digits : (e : Option Exponent) → AreDigits (exponent_cut e).1
exponent_digits None = λ k d h. absurd (omega arith)
exponent_digits (Some e) = AreDigits-digits_text (all_digits e.digits)

pub cut_digits : (text : List ℕ) (c : Cut) → cut text ≡ Some c → HasDigits c
cut_digits text c e =
    let s = sound text c e in
    subst HasDigits (sym s.is) (record {
      whole = AreDigits-digits_text (whole_digits s.literal.whole);
      fraction = AreDigits-digits_text (fraction_digits s.literal.fraction);
      exponent = exponent_digits s.literal.exponent;
    })

-- ---- plain digits

pub plain_whole : (text : List ℕ) → AreDigits text → 0 < length text → get_or text 0 0 ≢ 48 → IsWhole text (spelled text)
plain_whole [] all some other = absurd (omega arith)
plain_whole (x ∷ xs) all some other =
    let is = digit_of_is x (first_is x xs all) in
    let b = digit_bounds x (first_is x xs all) in
    let above : 0 < (digit_of x).value = omega (arith, is, b.0) in
    let l : Literal = record { is_negative = false; whole = counted (digit_of x) above (digits_of xs); fraction = None; exponent = None } in
    let same : x ∷ xs ≡ digits_text (whole_digits l.whole) = λ i. sym is i ∷ sym (digits_text-digits_of xs (rest_are x xs all)) i in
    let value : mantissa l ≡ spelled (x ∷ xs) = ap digits_value (append-nil (whole_digits l.whole)) ∙ digits_value_is (whole_digits l.whole) ∙ ap spelled (sym same) in
    record {
      literal = l;
      spelled = same ∙ sym (append-nil _);
      value = record { not_below = λ e. cc; equal = ap (λ m. m * 10 ^ 0) value };
    }

-- ---- the value from a core and its zeros

-- what the code finds, where the exponent may have stopped at the cap
pub record Cored (c : Cut) (core zeros capped : ℕ) : Type 0 where
  pub number : core * 10 ^ zeros ≡ spelled (c.whole ++ c.fraction)
  pub some : core ≢ 0
  pub ends : core % 10 ≡ 0 → core ≡ 0
  pub few : zeros < 2 ^ 65
  pub short : length c.fraction < 2 ^ 64
  pub exponent : IsCapped capped (spelled c.exponent)

pub zero_value : (c : Cut) → spelled (c.whole ++ c.fraction) ≡ 0 → IsValue c 0
zero_value c e = record { not_below = λ h. refl; equal = ap (λ m. m * 10 ^ raised_by c) e ∙ omega arith }

pub negative_value : (c : Cut) (core zeros n : ℕ) → core * 10 ^ zeros ≡ spelled (c.whole ++ c.fraction) → core ≢ 0 → c.is_negative ≡ true → IsValue c n → ⊥
negative_value c core zeros n e some negative v =
    let nought = v.not_below negative in
    meets_nothing core zeros (raised_by c) (length c.fraction + lowered_by c) some (record { equal = ap (λ m. m * 10 ^ raised_by c) e ∙ v.equal ∙ ap (λ m. m * 10 ^ (length c.fraction + lowered_by c)) nought })

pub long_value : (c : Cut) (n : ℕ) → IsLong (spelled (c.whole ++ c.fraction)) → n < 2 ^ 63 → IsValue c n → ⊥
long_value c n long small v = long_meets _ (raised_by c) (length c.fraction + lowered_by c) n long v.equal small

meets_at : {core zeros n : ℕ} (r d r' d' : ℕ) → r ≡ r' → d ≡ d' → Meets core zeros r d n → Meets core zeros r' d' n
meets_at {core} {zeros} {n} r d r' d' p q m = record { equal = sym (ap (λ k. core * 10 ^ zeros * 10 ^ k) p) ∙ m.equal ∙ ap (λ k. n * 10 ^ k) q }

value_of_meets : (c : Cut) (core tens n : ℕ) → core * 10 ^ tens ≡ spelled (c.whole ++ c.fraction) → c.is_negative ≡ false → Meets core tens (raised_by c) (length c.fraction + lowered_by c) n → IsValue c n
value_of_meets c core tens n number positive m = record { not_below = λ h. cc; equal = sym (ap (λ k. k * 10 ^ raised_by c) number) ∙ m.equal }

meets_of_value : (c : Cut) (core tens n : ℕ) → core * 10 ^ tens ≡ spelled (c.whole ++ c.fraction) → IsValue c n → Meets core tens (raised_by c) (length c.fraction + lowered_by c) n
meets_of_value c core tens n number v = record { equal = ap (λ k. k * 10 ^ raised_by c) number ∙ v.equal }

module _ (c : Cut) (raises : c.lowers ≡ false) where
  up : spelled c.exponent ≡ raised_by c
  up = sym (ap (λ b. cond b 0 (spelled c.exponent)) raises)

  down : length c.fraction ≡ length c.fraction + lowered_by c
  down = let e : length c.fraction ≡ length c.fraction + 0 = omega arith in e ∙ sym (ap (λ b. length c.fraction + cond b (spelled c.exponent) 0) raises)

  pub found_raised : (core zeros capped n : ℕ) → Cored c core zeros capped → c.is_negative ≡ false → n < 2 ^ 63 → Meets core zeros capped (length c.fraction) n → IsValue c n
  found_raised core zeros capped n k positive small m = elim k.exponent [
    | inl e ↦ value_of_meets c core zeros n k.number positive (meets_at _ _ _ _ (e ∙ up) down m)
    | inr p ↦ let s = k.short in absurd (meets_high core zeros capped (length c.fraction) n k.some (omega (arith, p.0)) small m)
  ]

  pub none_raised : (core zeros capped : ℕ) → Cored c core zeros capped → ((n : ℕ) → n < 2 ^ 63 → Meets core zeros capped (length c.fraction) n → ⊥) → (n : ℕ) → n < 2 ^ 63 → IsValue c n → ⊥
  none_raised core zeros capped k none n small v =
      let m = meets_at (raised_by c) (length c.fraction + lowered_by c) (spelled c.exponent) (length c.fraction) (sym up) (sym down) (meets_of_value c core zeros n k.number v) in
      elim k.exponent [
        | inl e ↦ none n small (meets_at (spelled c.exponent) (length c.fraction) capped (length c.fraction) (sym e) refl m)
        | inr p ↦ let s = k.short in meets_high core zeros (spelled c.exponent) (length c.fraction) n k.some (omega (arith, p.1)) small m
      ]

module _ (c : Cut) (lowers : c.lowers ≡ true) where
  no_up : 0 ≡ raised_by c
  no_up = sym (ap (λ b. cond b 0 (spelled c.exponent)) lowers)

  more_down : length c.fraction + spelled c.exponent ≡ length c.fraction + lowered_by c
  more_down = sym (ap (λ b. length c.fraction + cond b (spelled c.exponent) 0) lowers)

  pub found_lowered : (core zeros capped n : ℕ) → Cored c core zeros capped → c.is_negative ≡ false → Meets core zeros 0 (length c.fraction + capped) n → IsValue c n
  found_lowered core zeros capped n k positive m = elim k.exponent [
    | inl e ↦ value_of_meets c core zeros n k.number positive (meets_at 0 (length c.fraction + capped) _ _ no_up (ap (λ z. length c.fraction + z) e ∙ more_down) m)
    | inr p ↦ let s = k.few in absurd (meets_low core zeros 0 (length c.fraction + capped) n k.some k.ends (omega (arith, p.0)) m)
  ]

  pub none_lowered : (core zeros capped : ℕ) → Cored c core zeros capped → ((n : ℕ) → n < 2 ^ 63 → Meets core zeros 0 (length c.fraction + capped) n → ⊥) → (n : ℕ) → n < 2 ^ 63 → IsValue c n → ⊥
  none_lowered core zeros capped k none n small v =
      let m = meets_at (raised_by c) (length c.fraction + lowered_by c) 0 (length c.fraction + spelled c.exponent) (sym no_up) (sym more_down) (meets_of_value c core zeros n k.number v) in
      elim k.exponent [
        | inl e ↦ none n small (meets_at 0 (length c.fraction + spelled c.exponent) 0 (length c.fraction + capped) refl (ap (λ z. length c.fraction + z) (sym e)) m)
        | inr p ↦ let s = k.few in meets_low core zeros 0 (length c.fraction + spelled c.exponent) n k.some k.ends (omega (arith, p.1)) m
      ]
