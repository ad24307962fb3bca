-- How the machine reads a number: it ends before what cannot be part of it.
use Rattle.std.proofs.Common.{◌≡◌, ℕ, ◌+◌, ◌-◌, ◌<◌, inl, inr, List, [], ◌∷◌, Bool, true, false, Option, Some, None, length, refl, ap, ◌∙◌, arith}
use Rattle.json_scalar.specs.Number.{Digit, Digits, Whole, nought, counted, Sign, unsigned, plus, minus, Exponent, Literal}
use Rattle.json_span.specs.Table.{class_of, number_move, value_move, after_move}
use Rattle.json_span.specs.Machine.{value_begun, value_ended, made, moved, run}
use Rattle.json_span.specs.declared.class.Class.{Class}
use Rattle.json_span.specs.declared.class.Class.TheVariants as class
use Rattle.json_span.specs.declared.phase.Frame.{Frame}
use Rattle.json_span.specs.declared.phase.Part.{Part}
use Rattle.json_span.specs.declared.phase.Part.TheVariants as part
use Rattle.json_span.specs.declared.phase.Phase.{Phase}
use Rattle.json_span.specs.declared.phase.Phase.TheVariants as phase
use Rattle.json_span.specs.declared.table.Move.TheVariants as moves
use Rattle.json_span.specs.declared.cutter.Cutter.{Cutter}
use Rattle.json_span.proofs.Digits.{digit_class}
use Rattle.json_span.proofs.Spelling.{digits_then, minus_then, whole_then, fraction_then, sign_then, mark_byte, exponent_then, literal_then}
use Rattle.json_span.proofs.Steps.{state, by_move}

-- the first digit of a number of several digits
pub first_class : (d : Digit) → 0 < d.value → class_of (48 + d.value) ≡ class.Digit
first_class d h = elim (digit_class d.value d.small) [ inl e ↦ absurd (omega (arith, e.0)) | inr e ↦ e.1 ]

-- whatever the digit, the number goes on so
pub digit_move : (p : Part) (next : Phase) → number_move p class.Zero ≡ moves.Go next → number_move p class.Digit ≡ moves.Go next → (d : Digit) → number_move p (class_of (48 + d.value)) ≡ moves.Go next
digit_move p next e f d = elim (digit_class d.value d.small) [ inl h ↦ ap (λ k. number_move p k) h.1 ∙ e | inr h ↦ ap (λ k. number_move p k) h.1 ∙ f ]

-- what follows a number
abbrev pub IsStop : Class → Type 0
IsStop class.Blank = Unit {0}
IsStop class.Comma = Unit {0}
IsStop class.ArrayEnd = Unit {0}
IsStop class.ObjectEnd = Unit {0}
IsStop _ = ⊥

abbrev pub Stops : List ℕ → Type 0
Stops [] = ⊥
Stops (b ∷ bs) = IsStop (class_of b)

-- the number may end with this part
abbrev pub IsLast : Part → Type 0
IsLast p = (k : Class) → IsStop k → number_move p k ≡ moves.EndNumber

last_zero : IsLast part.Zero
last_zero class.Blank h = refl
last_zero class.Comma h = refl
last_zero class.ArrayEnd h = refl
last_zero class.ObjectEnd h = refl
last_zero _ h = absurd h

last_whole : IsLast part.Whole
last_whole class.Blank h = refl
last_whole class.Comma h = refl
last_whole class.ArrayEnd h = refl
last_whole class.ObjectEnd h = refl
last_whole _ h = absurd h

last_fraction : IsLast part.Fraction
last_fraction class.Blank h = refl
last_fraction class.Comma h = refl
last_fraction class.ArrayEnd h = refl
last_fraction class.ObjectEnd h = refl
last_fraction _ h = absurd h

last_exponent : IsLast part.Exponent
last_exponent class.Blank h = refl
last_exponent class.Comma h = refl
last_exponent class.ArrayEnd h = refl
last_exponent class.ObjectEnd h = refl
last_exponent _ h = absurd h

module _ (size : ℕ) (k : List Frame) (d : ℕ) where
  -- the byte behind a number does what it does behind a value
  after_number : (c : Cutter) (p : Part) (b here behind : ℕ) (stop : Class) → IsStop stop → made (after_move stop) (state (phase.Number p) k d c) here behind ≡ moved (after_move stop) (state phase.After k d c) b here behind
  after_number c p b here behind class.Blank h = refl
  after_number c p b here behind class.Comma h = refl
  after_number c p b here behind class.ArrayEnd h = refl
  after_number c p b here behind class.ObjectEnd h = refl
  after_number c p b here behind _ h = absurd h

  run-end : (c : Cutter) (p : Part) → IsLast p → (rest : List ℕ) → Stops rest → run size (state (phase.Number p) k d c) rest ≡ run size (state phase.After k d (value_ended k c (size - length rest))) rest
  run-end c p last [] h = absurd h
  run-end c p last (b ∷ bs) h =
      by_move size (state (phase.Number p) k d c) b bs moves.EndNumber (last (class_of b) h)
      ∙ ap (λ m. run size m bs) (after_number (value_ended k c (size - length (b ∷ bs))) p b (size - length (b ∷ bs)) (size - length bs) (class_of b) h)

  -- a byte in a number
  in_number : (c : Cutter) (p next : Part) (b : ℕ) (bs : List ℕ) → number_move p (class_of b) ≡ moves.Go (phase.Number next) → run size (state (phase.Number p) k d c) (b ∷ bs) ≡ run size (state (phase.Number next) k d c) bs
  in_number c p next b bs e = by_move size (state (phase.Number p) k d c) b bs (moves.Go (phase.Number next)) e

  run-digits : (c : Cutter) (p : Part) → number_move p class.Zero ≡ moves.Go (phase.Number p) → number_move p class.Digit ≡ moves.Go (phase.Number p) → (ds : List Digit) (rest : List ℕ) → run size (state (phase.Number p) k d c) (digits_then ds rest) ≡ run size (state (phase.Number p) k d c) rest
  run-digits c p e f [] rest = refl
  run-digits c p e f (x ∷ ds) rest = in_number c p p (48 + x.value) (digits_then ds rest) (digit_move p (phase.Number p) e f x) ∙ run-digits c p e f ds rest

  -- the exponent behind e and its sign
  run-power : (c : Cutter) (p : Part) → number_move p class.Zero ≡ moves.Go (phase.Number part.Exponent) → number_move p class.Digit ≡ moves.Go (phase.Number part.Exponent) → (digits : Digits) (rest : List ℕ) → Stops rest →
      run size (state (phase.Number p) k d c) ((48 + digits.first.value) ∷ digits_then digits.others rest) ≡ run size (state phase.After k d (value_ended k c (size - length rest))) rest
  run-power c p e f digits rest h =
      in_number c p part.Exponent (48 + digits.first.value) (digits_then digits.others rest) (digit_move p (phase.Number part.Exponent) e f digits.first)
      ∙ run-digits c part.Exponent refl refl digits.others rest
      ∙ run-end c part.Exponent last_exponent rest h

  run-signed : (c : Cutter) (sign : Sign) (digits : Digits) (rest : List ℕ) → Stops rest →
      run size (state (phase.Number part.Mark) k d c) (sign_then sign ((48 + digits.first.value) ∷ digits_then digits.others rest)) ≡ run size (state phase.After k d (value_ended k c (size - length rest))) rest
  run-signed c unsigned digits rest h = run-power c part.Mark refl refl digits rest h
  run-signed c plus digits rest h = in_number c part.Mark part.Sign 43 ((48 + digits.first.value) ∷ digits_then digits.others rest) refl ∙ run-power c part.Sign refl refl digits rest h
  run-signed c minus digits rest h = in_number c part.Mark part.Sign 45 ((48 + digits.first.value) ∷ digits_then digits.others rest) refl ∙ run-power c part.Sign refl refl digits rest h

  mark_class : (capital : Bool) → class_of (mark_byte capital) ≡ class.Mark
  mark_class true = refl
  mark_class false = refl

  run-exponent : (c : Cutter) (p : Part) → IsLast p → number_move p class.Mark ≡ moves.Go (phase.Number part.Mark) → (e : Option Exponent) (rest : List ℕ) → Stops rest →
      run size (state (phase.Number p) k d c) (exponent_then e rest) ≡ run size (state phase.After k d (value_ended k c (size - length rest))) rest
  run-exponent c p last m None rest h = run-end c p last rest h
  run-exponent c p last m (Some e) rest h =
      in_number c p part.Mark (mark_byte e.is_capital) (sign_then e.sign ((48 + e.digits.first.value) ∷ digits_then e.digits.others rest)) (ap (λ t. number_move p t) (mark_class e.is_capital) ∙ m)
      ∙ run-signed c e.sign e.digits rest h

  run-fraction : (c : Cutter) (p : Part) → IsLast p → number_move p class.Mark ≡ moves.Go (phase.Number part.Mark) → number_move p class.Point ≡ moves.Go (phase.Number part.Point) → (f : Option Digits) (e : Option Exponent) (rest : List ℕ) → Stops rest →
      run size (state (phase.Number p) k d c) (fraction_then f (exponent_then e rest)) ≡ run size (state phase.After k d (value_ended k c (size - length rest))) rest
  run-fraction c p last m point None e rest h = run-exponent c p last m e rest h
  run-fraction c p last m point (Some f) e rest h =
      in_number c p part.Point 46 ((48 + f.first.value) ∷ digits_then f.others (exponent_then e rest)) point
      ∙ in_number c part.Point part.Fraction (48 + f.first.value) (digits_then f.others (exponent_then e rest)) (digit_move part.Point (phase.Number part.Fraction) refl refl f.first)
      ∙ run-digits c part.Fraction refl refl f.others (exponent_then e rest)
      ∙ run-exponent c part.Fraction last_fraction refl e rest h

  -- the digits before the point, behind a sign
  run-whole_signed : (c : Cutter) (w : Whole) (f : Option Digits) (e : Option Exponent) (rest : List ℕ) → Stops rest →
      run size (state (phase.Number part.Minus) k d c) (whole_then w (fraction_then f (exponent_then e rest))) ≡ run size (state phase.After k d (value_ended k c (size - length rest))) rest
  run-whole_signed c nought f e rest h = in_number c part.Minus part.Zero 48 (fraction_then f (exponent_then e rest)) refl ∙ run-fraction c part.Zero last_zero refl refl f e rest h
  run-whole_signed c (counted first above others) f e rest h =
      in_number c part.Minus part.Whole (48 + first.value) (digits_then others (fraction_then f (exponent_then e rest))) (ap (λ t. number_move part.Minus t) (first_class first above))
      ∙ run-digits c part.Whole refl refl others (fraction_then f (exponent_then e rest))
      ∙ run-fraction c part.Whole last_whole refl refl f e rest h

  -- a byte that a value begins with
  begin : (c : Cutter) (next : Phase) (b : ℕ) (bs : List ℕ) → value_move (class_of b) ≡ moves.Begin next → run size (state phase.Value k d c) (b ∷ bs) ≡ run size (state next k d (value_begun k c (size - length (b ∷ bs)))) bs
  begin c next b bs e = by_move size (state phase.Value k d c) b bs (moves.Begin next) e

  run-unsigned : (c : Cutter) (w : Whole) (f : Option Digits) (e : Option Exponent) (rest : List ℕ) → Stops rest →
      run size (state phase.Value k d c) (whole_then w (fraction_then f (exponent_then e rest))) ≡ run size (state phase.After k d (value_ended k (value_begun k c (size - length (whole_then w (fraction_then f (exponent_then e rest))))) (size - length rest))) rest
  run-unsigned c nought f e rest h =
      begin c (phase.Number part.Zero) 48 (fraction_then f (exponent_then e rest)) refl
      ∙ run-fraction (value_begun k c (size - length (48 ∷ fraction_then f (exponent_then e rest)))) part.Zero last_zero refl refl f e rest h
  run-unsigned c (counted first above others) f e rest h =
      begin c (phase.Number part.Whole) (48 + first.value) (digits_then others (fraction_then f (exponent_then e rest))) (ap (λ t. value_move t) (first_class first above))
      ∙ run-digits (value_begun k c (size - length ((48 + first.value) ∷ digits_then others (fraction_then f (exponent_then e rest))))) part.Whole refl refl others (fraction_then f (exponent_then e rest))
      ∙ run-fraction (value_begun k c (size - length ((48 + first.value) ∷ digits_then others (fraction_then f (exponent_then e rest))))) part.Whole last_whole refl refl f e rest h

  run-parts : (c : Cutter) (negative : Bool) (w : Whole) (f : Option Digits) (e : Option Exponent) (rest : List ℕ) → Stops rest →
      run size (state phase.Value k d c) (minus_then negative (whole_then w (fraction_then f (exponent_then e rest)))) ≡ run size (state phase.After k d (value_ended k (value_begun k c (size - length (minus_then negative (whole_then w (fraction_then f (exponent_then e rest)))))) (size - length rest))) rest
  run-parts c true w f e rest h =
      begin c (phase.Number part.Minus) 45 (whole_then w (fraction_then f (exponent_then e rest))) refl
      ∙ run-whole_signed (value_begun k c (size - length (45 ∷ whole_then w (fraction_then f (exponent_then e rest))))) w f e rest h
  run-parts c false w f e rest h = run-unsigned c w f e rest h

  -- a number where a value is wanted
  pub run-literal : (c : Cutter) (l : Literal) (rest : List ℕ) → Stops rest →
      run size (state phase.Value k d c) (literal_then l rest) ≡ run size (state phase.After k d (value_ended k (value_begun k c (size - length (literal_then l rest))) (size - length rest))) rest
  run-literal c l rest h = run-parts c l.is_negative l.whole l.fraction l.exponent rest h
