-- The decimal text of a number is a JSON number with that value.
use Rattle.std.proofs.Common.{◌≡◌, ℕ, ◌+◌, ◌*◌, ◌/◌, ◌%◌, ◌^◌, ◌<◌, ◌≤◌, false, List, [], ◌∷◌, ◌++◌, None, inl, inr, refl, sym, ap, ◌∙◌, arith, append-nil}
use Rattle.std.proofs.lemmas.Bool.{cases_eq, true≢false}
use Rattle.std.proofs.lemmas.Fmt.{decimal_by_steps}
use Rattle.std.proofs.lemmas.List.Sums.{fold-append}
use Rattle.std.proofs.Math.Nat.{mod-lt}
use Rattle.std.specs.Fmt.{decimal}
use Rattle.json_scalar.specs.Number.{Digit, Whole, nought, counted, Literal, IsWhole, digits_text, digits_value, whole_digits}

-- digits that spell a number, of which the first is not 0, or 0 alone
record Spells (n : ℕ) (text : List ℕ) : Type 0 where
  whole : Whole
  spelled : text ≡ digits_text (whole_digits whole)
  value : digits_value (whole_digits whole) ≡ n

digit : (n : ℕ) → n < 10 → Digit
digit n small = record { value = n; small = small }

one_digit : (n : ℕ) → n < 10 → Spells n ((48 + n) ∷ [])
unfolding digit
one_digit n small = elim (cases_eq n 0) [
  | inl none ↦ record { whole = nought; spelled = ap (λ (k : ℕ). (48 + k) ∷ []) none; value = sym none }
  | inr some ↦ record { whole = counted (digit n small) (omega arith) []; spelled = refl; value = omega arith }
]

digits_text-append : (digits : List Digit) (d : Digit) → digits_text (digits ++ d ∷ []) ≡ digits_text digits ++ (48 + d.value) ∷ []
digits_text-append [] d = refl
digits_text-append (x ∷ digits) d = ap (λ (l : List ℕ). (48 + x.value) ∷ l) (digits_text-append digits d)

digits_value-append : (digits : List Digit) (d : Digit) → digits_value (digits ++ d ∷ []) ≡ digits_value digits * 10 + d.value
digits_value-append digits d = fold-append (λ (n : ℕ) (x : Digit). n * 10 + x.value) 0 digits (d ∷ [])

next_digit : (n : ℕ) (text : List ℕ) → 10 ≤ n → Spells (n / 10) text → Spells n (text ++ (48 + n % 10) ∷ [])
unfolding digit
next_digit n text large s = go s.whole s.spelled s.value
  where
    last : Digit
    last = digit (n % 10) (mod-lt n (omega arith))

    go : (w : Whole) → text ≡ digits_text (whole_digits w) → digits_value (whole_digits w) ≡ n / 10 → Spells n (text ++ (48 + n % 10) ∷ [])
    go nought e v = absurd (omega arith)
    go (counted first above others) e v = record {
      whole = counted first above (others ++ last ∷ []);
      spelled = ap (λ (l : List ℕ). l ++ (48 + n % 10) ∷ []) e ∙ sym (digits_text-append (first ∷ others) last);
      value = digits_value-append (first ∷ others) last ∙ ap (λ (k : ℕ). k * 10 + n % 10) v ∙ omega arith;
    }

spells_decimal : (n : ℕ) → n < 2 ^ 64 → Spells n (decimal n)
spells_decimal n small = decimal_by_steps (λ n text. Spells n text) one_digit next_digit n small

whole_literal : Whole → Literal
whole_literal w = record { is_negative = false; whole = w; fraction = None; exponent = None }

pub decimal_literal : (n : ℕ) → n < 2 ^ 64 → IsWhole (decimal n) n
unfolding whole_literal
decimal_literal n small =
    let s = spells_decimal n small in
    let digits = whole_digits s.whole in
    record {
      literal = whole_literal s.whole;
      spelled = s.spelled ∙ sym (append-nil (digits_text digits));
      value = record {
        not_below = λ e. absurd (true≢false (sym e));
        equal = ap (λ (l : List Digit). digits_value l * 1) (append-nil digits) ∙ ap (λ (k : ℕ). k * 1) s.value;
      };
    }
