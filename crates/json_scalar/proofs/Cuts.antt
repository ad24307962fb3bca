-- A number's text and its parts: each literal is cut into its parts, and what is cut is a literal.
use Rattle.std.proofs.Common.{◌≡◌, ℕ, ◌+◌, ◌<◌, Bool, true, false, cond, not, ◌&&◌, ◌||◌, ◌==◌, nat_lt, List, [], ◌∷◌, ◌++◌, length, drop, Option, Some, None, option_map, option_and_then, refl, sym, ap, ap₂, ◌∙◌, arith, inl, inr, ◌⊎◌, append-nil}
use Rattle.std.proofs.lemmas.Bool.{cases_eq, and_parts, and_right, or_parts, or_cases, eqb-true, eq-eqb, ne_eqb, lt-ltb, not-false, not-true, true≢false}
use Rattle.json_scalar.specs.Number.{Digit, Digits, Whole, nought, counted, Sign, unsigned, plus, minus, Exponent, Literal, all_digits, whole_digits, digits_text, sign_text, fraction_digits, fraction_text, exponent_text, literal_text}
use Rattle.json_scalar.specs.Digits.{AreDigits}
use Rattle.json_scalar.specs.Parts.{Cut, begins, front_digits, behind_digits, cut_digits, cut_signed, cut_power, cut_exponent, cut_fraction, cut_behind_fraction, cut_behind_sign, cut, is_whole_part}
use Rattle.json_scalar.proofs.Options.{from_cond, from_test, from_map, from_and_then}
use Rattle.json_scalar.proofs.Spellings.{digit_bounds, digit_of, digit_of_is, digits_of, digits_text-digits_of, Stops, front-digits_text, behind-digits_text, front-behind, AreDigits-front, first_is, rest_are}

-- ---- the parts of a literal

abbrev pub is_minus : Sign → Bool
is_minus unsigned = false
is_minus plus = false
is_minus minus = true

abbrev pub exponent_cut : Option Exponent → Bool × List ℕ
exponent_cut None = (false, [])
exponent_cut (Some e) = (is_minus e.sign, digits_text (all_digits e.digits))

abbrev pub literal_cut : Literal → Cut
literal_cut l = record {
  is_negative = l.is_negative;
  whole = digits_text (whole_digits l.whole);
  fraction = digits_text (fraction_digits l.fraction);
  lowers = (exponent_cut l.exponent).0;
  exponent = (exponent_cut l.exponent).1;
}

-- ---- a literal is cut into its parts

begins-digit : (byte : ℕ) (d : Digit) (rest : List ℕ) → byte < 48 → begins byte ((48 + d.value) ∷ rest) ≡ false
begins-digit byte d rest h = and_right _ _ (ne_eqb (48 + d.value) byte (λ e. omega arith))

begins-same : (byte : ℕ) (rest : List ℕ) → (byte == byte) ≡ true → begins byte (byte ∷ rest) ≡ true
begins-same byte rest same = (λ i. lt-ltb 0 (length (byte ∷ rest)) (omega arith) i && same i)

not_empty : (x : ℕ) (xs : List ℕ) → (length (x ∷ xs) == 0) ≡ false
not_empty x xs = ne_eqb (length (x ∷ xs)) 0 (λ e. omega arith)

stops_nil : Stops []
stops_nil = record { none = refl }

front_alone : (ds : List Digit) → front_digits (digits_text ds) ≡ digits_text ds
front_alone ds = ap front_digits (sym (append-nil (digits_text ds))) ∙ front-digits_text ds [] stops_nil

behind_alone : (ds : List Digit) → behind_digits (digits_text ds) ≡ []
behind_alone ds = ap behind_digits (sym (append-nil (digits_text ds))) ∙ behind-digits_text ds [] stops_nil

complete_digits : (p m : Bool) (ds : Digits) → (p && m) ≡ false → cut_digits p m (digits_text (all_digits ds)) ≡ Some (m, digits_text (all_digits ds))
complete_digits p m ds e =
    let f = front_alone (all_digits ds) in
    let b = behind_alone (all_digits ds) in
    let t = not_empty (48 + ds.first.value) (digits_text ds.others) in
    (λ i. cond (e i || ((length (f i) == 0) || not (length (b i) == 0))) None (Some (m, f i)))
    ∙ (λ i. cond (t i || false) None (Some (m, digits_text (all_digits ds))))

unsigned_digits : (p : Bool) (ds : Digits) → cut_signed p (digits_text (all_digits ds)) ≡ Some (false, digits_text (all_digits ds))
unsigned_digits p ds =
    let t = digits_text (all_digits ds) in
    let absent = begins-digit 45 ds.first (digits_text ds.others) (omega arith) in
    (λ i. cut_digits p (absent i) (cond (absent i) (drop 1 t) t)) ∙ complete_digits p false ds (and_right p false refl)

complete_power : (s : Sign) (ds : Digits) → cut_power (sign_text s ++ digits_text (all_digits ds)) ≡ Some (is_minus s, digits_text (all_digits ds))
complete_power unsigned ds =
    let t = digits_text (all_digits ds) in
    let absent = begins-digit 43 ds.first (digits_text ds.others) (omega arith) in
    (λ i. cut_signed (absent i) (cond (absent i) (drop 1 t) t)) ∙ unsigned_digits false ds
complete_power plus ds =
    let t = digits_text (all_digits ds) in
    let there = begins-same 43 t refl in
    (λ i. cut_signed (there i) (cond (there i) t (43 ∷ t))) ∙ unsigned_digits true ds
complete_power minus ds =
    let t = digits_text (all_digits ds) in
    let absent : begins 43 (45 ∷ t) ≡ false = and_right _ _ refl in
    let there = begins-same 45 t refl in
    (λ i. cut_signed (absent i) (cond (absent i) t (45 ∷ t))) ∙ (λ i. cut_digits false (there i) (cond (there i) t (45 ∷ t))) ∙ complete_digits false true ds refl

behind_letter : (capital : Bool) (rest : List ℕ) → cut_exponent (cond capital 69 101 ∷ rest) ≡ cut_power rest
behind_letter true rest = (λ i. cond (not_empty 69 rest i) (Some (false, [])) (cut_power rest))
behind_letter false rest = (λ i. cond (not_empty 101 rest i) (Some (false, [])) (cut_power rest))

complete_exponent : (e : Option Exponent) → cut_exponent (exponent_text e) ≡ Some (exponent_cut e)
complete_exponent None = refl
complete_exponent (Some e) = behind_letter e.is_capital _ ∙ complete_power e.sign e.digits

letter_stops : (capital : Bool) (rest : List ℕ) → Stops (cond capital 69 101 ∷ rest)
letter_stops true rest = record { none = refl }
letter_stops false rest = record { none = refl }

letter_is_no_point : (capital : Bool) (rest : List ℕ) → begins 46 (cond capital 69 101 ∷ rest) ≡ false
letter_is_no_point true rest = and_right _ _ refl
letter_is_no_point false rest = and_right _ _ refl

exponent_stops : (e : Option Exponent) → Stops (exponent_text e)
exponent_stops None = stops_nil
exponent_stops (Some e) = letter_stops e.is_capital _

exponent_is_no_point : (e : Option Exponent) → begins 46 (exponent_text e) ≡ false
exponent_is_no_point None = refl
exponent_is_no_point (Some e) = letter_is_no_point e.is_capital _

fraction_stops : (f : Option Digits) (e : Option Exponent) → Stops (fraction_text f ++ exponent_text e)
fraction_stops None e = exponent_stops e
fraction_stops (Some ds) e = record { none = refl }

complete_fraction : (f : Option Digits) (rest : List ℕ) → Stops rest → begins 46 rest ≡ false → cut_fraction (fraction_text f ++ rest) ≡ Some (digits_text (fraction_digits f), rest)
complete_fraction None rest stops absent =
    λ i. cond (absent i) (cond (length (front_digits (drop 1 rest)) == 0) None (Some (front_digits (drop 1 rest), behind_digits (drop 1 rest)))) (Some ([], rest))
complete_fraction (Some ds) rest stops absent =
    let f = front-digits_text (all_digits ds) rest stops in
    let b = behind-digits_text (all_digits ds) rest stops in
    let there = begins-same 46 (digits_text (all_digits ds) ++ rest) refl in
    let t = not_empty (48 + ds.first.value) (digits_text ds.others) in
    (λ i. cond (there i) (cond (length (f i) == 0) None (Some (f i, b i))) (Some ([], fraction_text (Some ds) ++ rest)))
    ∙ (λ i. cond (t i) None (Some (digits_text (all_digits ds), rest)))

complete_whole : (w : Whole) → is_whole_part (digits_text (whole_digits w)) ≡ true
complete_whole nought = refl
complete_whole (counted first above others) =
    let t = not_empty (48 + first.value) (digits_text others) in
    let absent = ne_eqb (48 + first.value) 48 (λ e. omega arith) in (λ i. not (t i) && not (and_right (nat_lt 1 (length ((48 + first.value) ∷ digits_text others))) _ absent i))

whole_is_no_minus : (w : Whole) (rest : List ℕ) → begins 45 (digits_text (whole_digits w) ++ rest) ≡ false
whole_is_no_minus nought rest = and_right _ _ refl
whole_is_no_minus (counted first above others) rest = begins-digit 45 first _ (omega arith)

behind_sign : (negative : Bool) (rest : List ℕ) → begins 45 rest ≡ false → cut (cond negative (45 ∷ []) [] ++ rest) ≡ cut_behind_sign negative rest
behind_sign true rest absent = let there = begins-same 45 rest refl in (λ i. cut_behind_sign (there i) (cond (there i) rest (45 ∷ rest)))
behind_sign false rest absent = λ i. cut_behind_sign (absent i) (cond (absent i) (drop 1 rest) rest)

pub complete : (l : Literal) → cut (literal_text l) ≡ Some (literal_cut l)
complete l =
    let ds = whole_digits l.whole in
    let rest = fraction_text l.fraction ++ exponent_text l.exponent in
    let stops = fraction_stops l.fraction l.exponent in
    let f = front-digits_text ds rest stops in
    let b = behind-digits_text ds rest stops in
    let w = complete_whole l.whole in
    let c = complete_fraction l.fraction (exponent_text l.exponent) (exponent_stops l.exponent) (exponent_is_no_point l.exponent) in
    let e = complete_exponent l.exponent in
    behind_sign l.is_negative _ (whole_is_no_minus l.whole rest)
    ∙ (λ i. cond (is_whole_part (f i)) (option_and_then (cut_behind_fraction l.is_negative (f i)) (cut_fraction (b i))) None)
    ∙ (λ i. cond (w i) (option_and_then (cut_behind_fraction l.is_negative (digits_text ds)) (c i)) None)
    ∙ (λ i. option_map (λ (r : Bool × List ℕ). record { is_negative = l.is_negative; whole = digits_text ds; fraction = digits_text (fraction_digits l.fraction); lowers = r.0; exponent = r.1 }) (e i))

-- ---- what is cut is a literal

is_empty : (xs : List ℕ) → (length xs == 0) ≡ true → xs ≡ []
is_empty [] e = refl
is_empty (x ∷ xs) e = let z = eqb-true (length (x ∷ xs)) 0 e in absurd (omega arith)

begins_true : (byte : ℕ) (text : List ℕ) → begins byte text ≡ true → text ≡ byte ∷ drop 1 text
begins_true byte [] e = absurd (true≢false (sym e))
begins_true byte (x ∷ xs) e = let p = and_parts _ _ e in ap (λ b. b ∷ xs) (eqb-true x byte p.1)

some_digits : (bytes : List ℕ) → AreDigits bytes → (length bytes == 0) ≡ false → (ds : Digits) × (bytes ≡ digits_text (all_digits ds))
some_digits [] all e = absurd (true≢false e)
some_digits (x ∷ xs) all e = (record { first = digit_of x; others = digits_of xs }, λ i. sym (digit_of_is x (first_is x xs all)) i ∷ sym (digits_text-digits_of xs (rest_are x xs all)) i)

record Powered (p m : Bool) (text : List ℕ) (r : Bool × List ℕ) : Type 0 where
  apart : (p && m) ≡ false
  digits : Digits
  spelled : text ≡ digits_text (all_digits digits)
  is : r ≡ (m, digits_text (all_digits digits))

sound_digits : (p m : Bool) (text : List ℕ) (r : Bool × List ℕ) → cut_digits p m text ≡ Some r → Powered p m text r
sound_digits p m text r e =
    let c = from_cond _ _ _ e in
    let o = or_parts (p && m) _ c.0 in
    let q = or_parts (length (front_digits text) == 0) _ o.1 in
    let d = some_digits (front_digits text) (AreDigits-front text) q.0 in
    let nothing = is_empty (behind_digits text) (not-false _ q.1) in
    let same = sym (front-behind text) ∙ ap (λ b. front_digits text ++ b) nothing ∙ append-nil (front_digits text) in
    record { apart = o.0; digits = d.0; spelled = same ∙ d.1; is = sym c.1 ∙ ap (λ (l : List ℕ). (m, l)) d.1 }

record Signed (text : List ℕ) (r : Bool × List ℕ) : Type 0 where
  sign : Sign
  digits : Digits
  spelled : text ≡ sign_text sign ++ digits_text (all_digits digits)
  is : r ≡ (is_minus sign, digits_text (all_digits digits))

sound_power : (text : List ℕ) (r : Bool × List ℕ) → cut_power text ≡ Some r → Signed text r
sound_power text r e = go (begins 43 text) refl e
  where
    behind_plus : (b : Bool) → begins 45 (drop 1 text) ≡ b → text ≡ 43 ∷ drop 1 text → cut_digits true b (cond b (drop 1 (drop 1 text)) (drop 1 text)) ≡ Some r → Signed text r
    behind_plus true is first e = absurd (true≢false (sound_digits true true (drop 1 (drop 1 text)) r e).apart)
    behind_plus false is first e = let d = sound_digits true false (drop 1 text) r e in record { sign = plus; digits = d.digits; spelled = first ∙ ap (λ l. 43 ∷ l) d.spelled; is = d.is }

    no_plus : (b : Bool) → begins 45 text ≡ b → cut_digits false b (cond b (drop 1 text) text) ≡ Some r → Signed text r
    no_plus true is e = let d = sound_digits false true (drop 1 text) r e in record { sign = minus; digits = d.digits; spelled = begins_true 45 text is ∙ ap (λ l. 45 ∷ l) d.spelled; is = d.is }
    no_plus false is e = let d = sound_digits false false text r e in record { sign = unsigned; digits = d.digits; spelled = d.spelled; is = d.is }

    go : (b : Bool) → begins 43 text ≡ b → cut_signed b (cond b (drop 1 text) text) ≡ Some r → Signed text r
    go true is e = behind_plus (begins 45 (drop 1 text)) refl (begins_true 43 text is) e
    go false is e = no_plus (begins 45 text) refl e

record Raised (text : List ℕ) (r : Bool × List ℕ) : Type 0 where
  exponent : Option Exponent
  spelled : text ≡ exponent_text exponent
  is : r ≡ exponent_cut exponent

sound_exponent : (text : List ℕ) (r : Bool × List ℕ) → cut_exponent text ≡ Some r → Raised text r
sound_exponent [] r e = record { exponent = None; spelled = refl; is = cc }
sound_exponent (x ∷ xs) r e =
    let there : cut_exponent (x ∷ xs) ≡ cond ((x == 101) || (x == 69)) (cut_power xs) None = (λ i. cond (not_empty x xs i) (Some (false, [])) (cond ((x == 101) || (x == 69)) (cut_power xs) None)) in
    let t = from_test ((x == 101) || (x == 69)) (cut_power xs) r (sym there ∙ e) in
    let p = sound_power xs r t.1 in
    elim (or_cases (x == 101) (x == 69) t.0) [
      | inl small ↦ record {
        exponent = Some (record { is_capital = false; sign = p.sign; digits = p.digits });
        spelled = λ i. eqb-true x 101 small i ∷ p.spelled i;
        is = p.is;
      }
      | inr capital ↦ record {
        exponent = Some (record { is_capital = true; sign = p.sign; digits = p.digits });
        spelled = λ i. eqb-true x 69 capital i ∷ p.spelled i;
        is = p.is;
      }
    ]

record Pointed (text : List ℕ) (p : List ℕ × List ℕ) : Type 0 where
  fraction : Option Digits
  spelled : text ≡ fraction_text fraction ++ p.1
  is : p.0 ≡ digits_text (fraction_digits fraction)

sound_fraction : (text : List ℕ) (p : List ℕ × List ℕ) → cut_fraction text ≡ Some p → Pointed text p
sound_fraction text p e = go (begins 46 text) refl e
  where
    go : (b : Bool) → begins 46 text ≡ b
        → cond b (cond (length (front_digits (drop 1 text)) == 0) None (Some (front_digits (drop 1 text), behind_digits (drop 1 text)))) (Some ([], text)) ≡ Some p → Pointed text p
    go true is e =
        let c = from_cond _ _ _ e in
        let d = some_digits (front_digits (drop 1 text)) (AreDigits-front (drop 1 text)) c.0 in
        let front : p.0 ≡ digits_text (all_digits d.0) = sym (ap (λ (q : List ℕ × List ℕ). q.0) c.1) ∙ d.1 in
        let behind : behind_digits (drop 1 text) ≡ p.1 = ap (λ (q : List ℕ × List ℕ). q.1) c.1 in
        record {
          fraction = Some d.0;
          spelled = begins_true 46 text is ∙ ap (λ l. 46 ∷ l) (sym (front-behind (drop 1 text)) ∙ ap₂ (λ (a b : List ℕ). a ++ b) d.1 behind);
          is = front;
        }
    go false is e = let same : ([], text) ≡ p = cc in record { fraction = None; spelled = ap (λ (q : List ℕ × List ℕ). q.1) same; is = sym (ap (λ (q : List ℕ × List ℕ). q.0) same) }

sound_whole : (bytes : List ℕ) → AreDigits bytes → is_whole_part bytes ≡ true → (w : Whole) × (bytes ≡ digits_text (whole_digits w))
sound_whole [] all e = absurd (true≢false (sym e))
sound_whole (x ∷ xs) all e = go xs (cases_eq x 48) (rest_are x xs all) (not-true _ (and_parts _ _ e).1)
  where
    go : (xs : List ℕ) → (x ≡ 48) ⊎ (x ≡ 48 → ⊥) → AreDigits xs → (nat_lt 1 (length (x ∷ xs)) && (x == 48)) ≡ false → (w : Whole) × ((x ∷ xs) ≡ digits_text (whole_digits w))
    go [] (inl same) rest e = (nought, ap (λ b. b ∷ []) same)
    go (y ∷ ys) (inl same) rest e =
        let both : (nat_lt 1 (length (x ∷ y ∷ ys)) && (x == 48)) ≡ true = (λ i. lt-ltb 1 (length (x ∷ y ∷ ys)) (omega arith) i && eq-eqb x 48 same i) in
        absurd (true≢false (sym both ∙ e))
    go zs (inr other) rest e =
        let is = digit_of_is x (first_is x xs all) in
        let b = digit_bounds x (first_is x xs all) in
        (counted (digit_of x) (omega (arith, is, b.0)) (digits_of zs), λ i. sym is i ∷ sym (digits_text-digits_of zs rest) i)

-- the text is spelled by a literal with these parts
pub record Spelled (text : List ℕ) (c : Cut) : Type 0 where
  pub literal : Literal
  pub spelled : text ≡ literal_text literal
  pub is : c ≡ literal_cut literal

pub sound : (text : List ℕ) (c : Cut) → cut text ≡ Some c → Spelled text c
sound text c e = go (begins 45 text) refl e
  where
    behind : (b : Bool) (rest : List ℕ) → text ≡ cond b (45 ∷ []) [] ++ rest → cut_behind_sign b rest ≡ Some c → Spelled text c
    behind b rest is e =
        let t = from_test (is_whole_part (front_digits rest)) (option_and_then (cut_behind_fraction b (front_digits rest)) (cut_fraction (behind_digits rest))) c e in
        let w = sound_whole (front_digits rest) (AreDigits-front rest) t.0 in
        let p = from_and_then (cut_behind_fraction b (front_digits rest)) (cut_fraction (behind_digits rest)) c t.1 in
        let f = sound_fraction (behind_digits rest) p.0 p.1 in
        let mk = λ (r : Bool × List ℕ). let made : Cut = record { is_negative = b; whole = front_digits rest; fraction = p.0.0; lowers = r.0; exponent = r.1 } in made in
        let q = from_map mk (cut_exponent p.0.1) c p.2 in
        let x = sound_exponent p.0.1 q.0 q.1 in
        let l : Literal = record { is_negative = b; whole = w.0; fraction = f.fraction; exponent = x.exponent } in
        record {
          literal = l;
          spelled = is ∙ ap (λ r. cond b (45 ∷ []) [] ++ r) (sym (front-behind rest) ∙ ap₂ (λ (u v : List ℕ). u ++ v) w.1 (f.spelled ∙ ap (λ v. fraction_text f.fraction ++ v) x.spelled));
          is = sym q.2 ∙ (λ i. record { is_negative = b; whole = w.1 i; fraction = f.is i; lowers = (x.is i).0; exponent = (x.is i).1 });
        }

    go : (b : Bool) → begins 45 text ≡ b → cut_behind_sign b (cond b (drop 1 text) text) ≡ Some c → Spelled text c
    go true is e = behind true (drop 1 text) (begins_true 45 text is) e
    go false is e = behind false text refl e
