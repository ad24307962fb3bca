-- What a byte in a string or a word leaves to be completed, it completes with that byte in front.
use Rattle.std.proofs.Common.{◌≡◌, ℕ, ◌+◌, ◌*◌, ◌<◌, ◌≤◌, inl, inr, List, [], ◌∷◌, Bool, true, false, not, ◌&&◌, cond, refl, sym, ap, subst, ◌∙◌, arith}
use Rattle.std.specs.Prelude.{nat_lt, ◌==◌, IsTrue}
use Rattle.std.specs.Char.{digit_value, is_digit}
use Rattle.json_scalar.specs.Text.{Piece, plain, escape, unit, pair, quotation_mark, backslash, slash, backspace, form_feed, line_feed, carriage_return, tab, escape_letter, are_hex, are_whole, are_high, are_low, code_unit, is_high_surrogate, is_low_surrogate}
use Rattle.json_span.specs.Table.{hex_of, plain_move, escape_move, first_move, second_move, low_first_move, low_second_move, any_move, exact_move, next_spot, word_move, letter_byte, letter_move}
use Rattle.json_span.specs.declared.class.Hex.{Hex}
use Rattle.json_span.specs.declared.class.Hex.TheVariants as hex
use Rattle.json_span.specs.declared.phase.Frame.{Frame}
use Rattle.json_span.specs.declared.phase.Spot.{Spot}
use Rattle.json_span.specs.declared.phase.Spot.TheVariants as spot
use Rattle.json_span.specs.declared.phase.Letter.{Letter}
use Rattle.json_span.specs.declared.phase.Letter.TheVariants as letter
use Rattle.json_span.specs.declared.phase.Phase.TheVariants as phase
use Rattle.json_span.specs.declared.table.Move.TheVariants as moves
use Rattle.json_span.specs.declared.table.TextMove.{TextMove}
use Rattle.json_span.specs.declared.table.TextMove.TheVariants as text
use Rattle.json_span.proofs.Spelling.{pieces_then}
use Rattle.json_span.proofs.Steps.{below}
use Rattle.json_span.proofs.Classes.{equal, IsOfHex, hex_fact, is_plain-true, no_surrogates, is_high_surrogate-true, is_low_surrogate-true}
use Rattle.json_span.proofs.Wants.{TextEnd, Then, IsHex, IsHexFrom8, IsHexD, IsHexFromC, ThirdW, LowW, LowBackslashW, HighThirdW, SecondOfDW, FirstW, EscapeW, SpotW, WordW, RestW, Continues}

-- two tests that pass
anded : (p q : Bool) → p ≡ true → q ≡ true → (p && q) ≡ true
anded true true e f = refl
anded false q e f = e
anded true false e f = f

-- four digits are hexadecimal
are_hex-true : (a b c d : ℕ) → IsHex a → IsHex b → IsHex c → IsHex d → are_hex a b c d ≡ true
are_hex-true a b c d x y z w =
    anded (is_digit a 16) (is_digit b 16 && (is_digit c 16 && is_digit d 16)) x (anded (is_digit b 16) (is_digit c 16 && is_digit d 16) y (anded (is_digit c 16) (is_digit d 16) z w))

-- where the code unit of four digits lies
free : (a b c d : ℕ) → a < 16 → b < 16 → c < 16 → d < 16 → (a ≡ 13 → b < 8) → 0xd800 ≤ a * 4096 + b * 256 + c * 16 + d → a * 4096 + b * 256 + c * 16 + d < 0xe000 → ⊥
free a b c d ha hb hc hd h low high = let is_d : a ≡ 13 = omega arith in let small : b < 8 = h is_d in omega arith

module _ (a b c d : ℕ) (x : IsHex a) (y : IsHex b) (z : IsHex c) (w : IsHex d) where
  are_whole-true : (digit_value a ≡ 13 → digit_value b < 8) → are_whole a b c d ≡ true
  are_whole-true h =
      anded (are_hex a b c d) (not (is_high_surrogate (code_unit a b c d)) && not (is_low_surrogate (code_unit a b c d))) (are_hex-true a b c d x y z w)
      (no_surrogates (code_unit a b c d) (free (digit_value a) (digit_value b) (digit_value c) (digit_value d) (below (digit_value a) 16 x) (below (digit_value b) 16 y) (below (digit_value c) 16 z) (below (digit_value d) 16 w) h))

  are_high-true : digit_value a ≡ 13 → 8 ≤ digit_value b → digit_value b < 12 → are_high a b c d ≡ true
  are_high-true is_d low high =
      anded (are_hex a b c d) (is_high_surrogate (code_unit a b c d)) (are_hex-true a b c d x y z w)
      (is_high_surrogate-true (code_unit a b c d) (above_high (digit_value a) (digit_value b) (digit_value c) (digit_value d) is_d low) (below_high (digit_value a) (digit_value b) (digit_value c) (digit_value d) is_d high (below (digit_value c) 16 z) (below (digit_value d) 16 w)))
    where
      above_high : (p q r s : ℕ) → p ≡ 13 → 8 ≤ q → 0xd800 ≤ p * 4096 + q * 256 + r * 16 + s
      above_high p q r s e h = omega arith

      below_high : (p q r s : ℕ) → p ≡ 13 → q < 12 → r < 16 → s < 16 → p * 4096 + q * 256 + r * 16 + s < 0xdc00
      below_high p q r s e h i j = omega arith

  are_low-true : digit_value a ≡ 13 → 12 ≤ digit_value b → are_low a b c d ≡ true
  are_low-true is_d low =
      anded (are_hex a b c d) (is_low_surrogate (code_unit a b c d)) (are_hex-true a b c d x y z w)
      (is_low_surrogate-true (code_unit a b c d) (above_low (digit_value a) (digit_value b) (digit_value c) (digit_value d) is_d low) (below_low (digit_value a) (digit_value b) (digit_value c) (digit_value d) is_d (below (digit_value b) 16 y) (below (digit_value c) 16 z) (below (digit_value d) 16 w)))
    where
      above_low : (p q r s : ℕ) → p ≡ 13 → 12 ≤ q → 0xdc00 ≤ p * 4096 + q * 256 + r * 16 + s
      above_low p q r s e h = omega arith

      below_low : (p q r s : ℕ) → p ≡ 13 → q < 16 → r < 16 → s < 16 → p * 4096 + q * 256 + r * 16 + s < 0xe000
      below_low p q r s e h i j = omega arith

module _ (P : List ℕ → Type 0) where
  -- one more piece
  with_piece : (p : Piece) (front : List ℕ → List ℕ) → ((r : List ℕ) → front (pieces_then [] r) ≡ pieces_then (p ∷ []) r) → (bs : List ℕ) → TextEnd P bs → TextEnd P (front bs)
  with_piece p front e bs h = record { pieces = p ∷ h.pieces; rest = h.rest; spelled = e bs ∙ ap (λ (t : List ℕ). pieces_then (p ∷ []) t) h.spelled; more = h.more }

  -- the last two digits of a unit that is a character
  unit_ends : (a b : ℕ) → IsHex a → IsHex b → (digit_value a ≡ 13 → digit_value b < 8) → (bs : List ℕ) → ThirdW P bs → TextEnd P (92 ∷ 117 ∷ a ∷ b ∷ bs)
  unit_ends a b x y small [] h = absurd h
  unit_ends a b x y small (c ∷ []) h = absurd h.1
  unit_ends a b x y small (c ∷ d ∷ bs) h = with_piece (unit a b c d (are_whole-true a b c d x y h.0 h.1.0 small)) (λ r. 92 ∷ 117 ∷ a ∷ b ∷ c ∷ d ∷ r) (λ r. refl) bs h.1.1

  -- the second half of a pair
  low_ends : (a b c d : ℕ) → IsTrue (are_high a b c d) → (bs : List ℕ) → LowBackslashW P bs → TextEnd P (92 ∷ 117 ∷ a ∷ b ∷ c ∷ d ∷ bs)
  low_ends a b c d high [] h = absurd h
  low_ends a b c d high (p ∷ []) h = absurd h.1
  low_ends a b c d high (p ∷ q ∷ []) h = absurd h.1.1
  low_ends a b c d high (p ∷ q ∷ e ∷ []) h = absurd h.1.1.1
  low_ends a b c d high (p ∷ q ∷ e ∷ f ∷ []) h = absurd h.1.1.1.1
  low_ends a b c d high (p ∷ q ∷ e ∷ f ∷ g ∷ []) h = absurd h.1.1.1.1.1
  low_ends a b c d high (p ∷ q ∷ e ∷ f ∷ g ∷ i ∷ bs) h =
      let first = h.1.1.0 in
      let second = h.1.1.1.0 in
      let digits = h.1.1.1.1 in
      let low : IsTrue (are_low e f g i) = are_low-true e f g i first.0 second.0 digits.0 digits.1.0 first.1 second.1 in
      let ends : TextEnd P (92 ∷ 117 ∷ a ∷ b ∷ c ∷ d ∷ 92 ∷ 117 ∷ e ∷ f ∷ g ∷ i ∷ bs) = with_piece (pair a b c d high e f g i low) (λ r. 92 ∷ 117 ∷ a ∷ b ∷ c ∷ d ∷ 92 ∷ 117 ∷ e ∷ f ∷ g ∷ i ∷ r) (λ r. refl) bs digits.1.1 in
      subst (λ (n : ℕ). TextEnd P (92 ∷ 117 ∷ a ∷ b ∷ c ∷ d ∷ n ∷ q ∷ e ∷ f ∷ g ∷ i ∷ bs)) (sym h.0) (subst (λ (n : ℕ). TextEnd P (92 ∷ 117 ∷ a ∷ b ∷ c ∷ d ∷ 92 ∷ n ∷ e ∷ f ∷ g ∷ i ∷ bs)) (sym h.1.0) ends)

  high_ends : (a b : ℕ) → IsHexD a → IsHexFrom8 b → (bs : List ℕ) → HighThirdW P bs → TextEnd P (92 ∷ 117 ∷ a ∷ b ∷ bs)
  high_ends a b x y [] h = absurd h
  high_ends a b x y (c ∷ []) h = absurd h.1
  high_ends a b x y (c ∷ d ∷ bs) h = low_ends a b c d (are_high-true a b c d x.0 y.0 h.0 h.1.0 x.1 y.1 y.2) bs h.1.1

  first_ends : (bs : List ℕ) → FirstW P bs → TextEnd P (92 ∷ 117 ∷ bs)
  first_ends [] (inl h) = absurd h
  first_ends [] (inr h) = absurd h
  first_ends (a ∷ []) (inl h) = absurd h.1
  first_ends (a ∷ b ∷ bs) (inl h) = unit_ends a b h.0.0 h.1.0 (λ e. absurd (h.0.1 e)) bs h.1.1
  first_ends (a ∷ bs) (inr h) = second_ends bs h.1
    where
      second_ends : (bs : List ℕ) → SecondOfDW P bs → TextEnd P (92 ∷ 117 ∷ a ∷ bs)
      second_ends [] (inl s) = absurd s
      second_ends [] (inr s) = absurd s
      second_ends (b ∷ bs) (inl s) = unit_ends a b h.0.0 s.0.0 (λ e. s.0.1) bs s.1
      second_ends (b ∷ bs) (inr s) = high_ends a b h.0 s.0 bs s.1

  escape_ends : (bs : List ℕ) → EscapeW P bs → TextEnd P (92 ∷ bs)
  escape_ends [] (inl h) = absurd h
  escape_ends [] (inr h) = absurd h
  escape_ends (b ∷ bs) (inl h) =
      let letter = h.0 in
      subst (λ (n : ℕ). TextEnd P (92 ∷ n ∷ bs)) (sym letter.1) (with_piece (escape letter.0) (λ r. 92 ∷ escape_letter letter.0 ∷ r) (λ r. refl) bs h.1)
  escape_ends (b ∷ bs) (inr h) = subst (λ (n : ℕ). TextEnd P (92 ∷ n ∷ bs)) (sym h.0) (first_ends bs h.1)

  -- what completes a string behind a byte that does this
  abbrev pub TextContinues : TextMove → List ℕ → Type 0
  TextContinues (text.Go s) bs = SpotW s P bs
  TextContinues text.End bs = P bs
  TextContinues text.Fail bs = ⊥

  plain_wants : (b : ℕ) (bs : List ℕ) → TextContinues (plain_move b) bs → TextEnd P (b ∷ bs)
  plain_wants b bs = by_case (b == 34) (b == 92) (nat_lt b 32) refl refl refl
    where
      by_case : (x y z : Bool) → (b == 34) ≡ x → (b == 92) ≡ y → nat_lt b 32 ≡ z → TextContinues (cond x text.End (cond y (text.Go spot.Escape) (cond z text.Fail (text.Go spot.Plain)))) bs → TextEnd P (b ∷ bs)
      by_case true y z e f g h = record { pieces = []; rest = bs; spelled = ap (λ (n : ℕ). n ∷ bs) (equal b 34 e); more = h }
      by_case false true z e f g h = subst (λ (n : ℕ). TextEnd P (n ∷ bs)) (sym (equal b 92 f)) (escape_ends bs h)
      by_case false false true e f g h = absurd h
      by_case false false false e f g h = with_piece (plain b (is_plain-true b g e f)) (λ r. b ∷ r) (λ r. refl) bs h

  -- one test of the byte behind a backslash
  tested : (b n : ℕ) (bs : List ℕ) (t u : TextMove) → (b ≡ n → TextContinues t bs → EscapeW P (b ∷ bs)) → (TextContinues u bs → EscapeW P (b ∷ bs)) → TextContinues (cond (b == n) t u) bs → EscapeW P (b ∷ bs)
  tested b n bs t u f g = by_case (b == n) refl
    where
      by_case : (x : Bool) → (b == n) ≡ x → TextContinues (cond x t u) bs → EscapeW P (b ∷ bs)
      by_case true e h = f (equal b n e) h
      by_case false e h = g h

  escape_wants : (b : ℕ) (bs : List ℕ) → TextContinues (escape_move b) bs → EscapeW P (b ∷ bs)
  escape_wants b bs =
      tested b 34 bs _ _ (λ e h. inl ((quotation_mark, e), h)) (tested b 92 bs _ _ (λ e h. inl ((backslash, e), h)) (tested b 47 bs _ _ (λ e h. inl ((slash, e), h))
      (tested b 98 bs _ _ (λ e h. inl ((backspace, e), h)) (tested b 102 bs _ _ (λ e h. inl ((form_feed, e), h)) (tested b 110 bs _ _ (λ e h. inl ((line_feed, e), h))
      (tested b 114 bs _ _ (λ e h. inl ((carriage_return, e), h)) (tested b 116 bs _ _ (λ e h. inl ((tab, e), h)) (tested b 117 bs _ _ (λ e h. inr (e, h)) (λ h. absurd h)))))))))

  first_wants : (b : ℕ) (bs : List ℕ) (x : Hex) → IsOfHex x b → TextContinues (first_move x) bs → FirstW P (b ∷ bs)
  first_wants b bs hex.Below8 is h = inl ((is.0, λ e. absurd (omega (arith, is.1, e))), h)
  first_wants b bs hex.From8 is h = inl ((is.0, λ e. absurd (omega (arith, is.2, e))), h)
  first_wants b bs hex.D is h = inr (is, h)
  first_wants b bs hex.FromC is h = inl ((is.0, is.2), h)
  first_wants b bs hex.None is h = absurd h

  second_wants : (b : ℕ) (bs : List ℕ) (x : Hex) → IsOfHex x b → TextContinues (second_move x) bs → SecondOfDW P (b ∷ bs)
  second_wants b bs hex.Below8 is h = inl (is, h)
  second_wants b bs hex.From8 is h = inr (is, h)
  second_wants b bs hex.D is h = absurd h
  second_wants b bs hex.FromC is h = absurd h
  second_wants b bs hex.None is h = absurd h

  low_first_wants : (b : ℕ) (bs : List ℕ) (x : Hex) → IsOfHex x b → TextContinues (low_first_move x) bs → LowW P (b ∷ bs)
  low_first_wants b bs hex.D is h = (is, h)
  low_first_wants b bs hex.Below8 is h = absurd h
  low_first_wants b bs hex.From8 is h = absurd h
  low_first_wants b bs hex.FromC is h = absurd h
  low_first_wants b bs hex.None is h = absurd h

  low_second_wants : (b : ℕ) (bs : List ℕ) (x : Hex) → IsOfHex x b → TextContinues (low_second_move x) bs → Then IsHexFromC (ThirdW P) (b ∷ bs)
  low_second_wants b bs hex.D is h = ((is.0, omega (arith, is.1)), h)
  low_second_wants b bs hex.FromC is h = ((is.0, is.1), h)
  low_second_wants b bs hex.Below8 is h = absurd h
  low_second_wants b bs hex.From8 is h = absurd h
  low_second_wants b bs hex.None is h = absurd h

  any_wants : (b : ℕ) (bs : List ℕ) (next : Spot) (x : Hex) → IsOfHex x b → TextContinues (any_move x next) bs → IsHex b × SpotW next P bs
  any_wants b bs next hex.Below8 is h = (is.0, h)
  any_wants b bs next hex.From8 is h = (is.0, h)
  any_wants b bs next hex.D is h = (is.0, h)
  any_wants b bs next hex.FromC is h = (is.0, h)
  any_wants b bs next hex.None is h = absurd h

  exact_wants : (b n : ℕ) (bs : List ℕ) (next : Spot) → TextContinues (exact_move b n next) bs → (b ≡ n) × SpotW next P bs
  exact_wants b n bs next = by_case (b == n) refl
    where
      by_case : (x : Bool) → (b == n) ≡ x → TextContinues (cond x (text.Go next) text.Fail) bs → (b ≡ n) × SpotW next P bs
      by_case true e h = (equal b n e, h)
      by_case false e h = absurd h

  pub spot_wants : (s : Spot) (b : ℕ) (bs : List ℕ) → TextContinues (next_spot s b) bs → SpotW s P (b ∷ bs)
  spot_wants spot.Plain b bs h = plain_wants b bs h
  spot_wants spot.Escape b bs h = escape_wants b bs h
  spot_wants spot.First b bs h = first_wants b bs (hex_of b) (hex_fact b) h
  spot_wants spot.Second b bs h = any_wants b bs spot.Third (hex_of b) (hex_fact b) h
  spot_wants spot.SecondOfD b bs h = second_wants b bs (hex_of b) (hex_fact b) h
  spot_wants spot.Third b bs h = any_wants b bs spot.Fourth (hex_of b) (hex_fact b) h
  spot_wants spot.Fourth b bs h = any_wants b bs spot.Plain (hex_of b) (hex_fact b) h
  spot_wants spot.HighThird b bs h = any_wants b bs spot.HighFourth (hex_of b) (hex_fact b) h
  spot_wants spot.HighFourth b bs h = any_wants b bs spot.LowBackslash (hex_of b) (hex_fact b) h
  spot_wants spot.LowBackslash b bs h = exact_wants b 92 bs spot.LowLetter h
  spot_wants spot.LowLetter b bs h = exact_wants b 117 bs spot.LowFirst h
  spot_wants spot.LowFirst b bs h = low_first_wants b bs (hex_of b) (hex_fact b) h
  spot_wants spot.LowSecond b bs h = low_second_wants b bs (hex_of b) (hex_fact b) h

letter_wants : (l : Letter) (k : List Frame) (b : ℕ) (bs : List ℕ) → b ≡ letter_byte l → Continues (letter_move l) k b bs → WordW l (RestW k) (b ∷ bs)
letter_wants letter.NullSecond k b bs e h = (e, h)
letter_wants letter.NullThird k b bs e h = (e, h)
letter_wants letter.NullLast k b bs e h = (e, h)
letter_wants letter.TrueSecond k b bs e h = (e, h)
letter_wants letter.TrueThird k b bs e h = (e, h)
letter_wants letter.TrueLast k b bs e h = (e, h)
letter_wants letter.FalseSecond k b bs e h = (e, h)
letter_wants letter.FalseThird k b bs e h = (e, h)
letter_wants letter.FalseFourth k b bs e h = (e, h)
letter_wants letter.FalseLast k b bs e h = (e, h)

pub word_wants : (l : Letter) (k : List Frame) (b : ℕ) (bs : List ℕ) → Continues (word_move l b) k b bs → WordW l (RestW k) (b ∷ bs)
word_wants l k b bs = by_case (b == letter_byte l) refl
  where
    by_case : (x : Bool) → (b == letter_byte l) ≡ x → Continues (cond x (letter_move l) (moves.Go phase.Broken)) k b bs → WordW l (RestW k) (b ∷ bs)
    by_case true e h = letter_wants l k b bs (equal b (letter_byte l) e) h
    by_case false e h = absurd h
