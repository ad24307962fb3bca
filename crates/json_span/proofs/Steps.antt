-- How the machine reads white space, strings, numbers and words in front of what follows them.
use Rattle.std.proofs.Common.{◌≡◌, ℕ, ◌+◌, ◌-◌, ◌*◌, ◌<◌, ◌≤◌, ◌≢◌, ◌⊎◌, inl, inr, List, [], ◌∷◌, Bool, true, false, not, ◌&&◌, cond, length, refl, ap, ◌∙◌, arith}
use Rattle.std.specs.Prelude.{IsTrue, nat_lt, ◌==◌}
use Rattle.std.specs.Char.{digit_value, is_digit}
use Rattle.std.proofs.lemmas.Bool.Decides.{nat_tests, leb_tells}
use Rattle.json_scalar.specs.Text.{Piece, plain, escape, unit, pair, Escape, quotation_mark, backslash, slash, backspace, form_feed, line_feed, carriage_return, tab, escape_letter, is_plain, are_hex, code_unit, is_high_surrogate, is_low_surrogate}
use Rattle.json_span.specs.Grammar as json
use Rattle.json_span.specs.Grammar.{Space, space_byte}
use Rattle.json_span.specs.Table.{class_of, hex_of, hex_valued, plain_move, first_move, second_move, low_first_move, low_second_move, any_move, next_spot, text_move, value_move, after_move, start_move, table, move_of}
use Rattle.json_span.specs.Machine.{moved, run}
use Rattle.json_span.specs.declared.class.Class.TheVariants as class
use Rattle.json_span.specs.declared.class.Hex.{Hex}
use Rattle.json_span.specs.declared.class.Hex.TheVariants as hex
use Rattle.json_span.specs.declared.phase.Frame.{Frame}
use Rattle.json_span.specs.declared.phase.Frame.TheVariants as frame
use Rattle.json_span.specs.declared.phase.Role.{Role}
use Rattle.json_span.specs.declared.phase.Spot.{Spot}
use Rattle.json_span.specs.declared.phase.Spot.TheVariants as spot
use Rattle.json_span.specs.declared.phase.Phase.{Phase}
use Rattle.json_span.specs.declared.phase.Phase.TheVariants as phase
use Rattle.json_span.specs.declared.table.Move.{Move}
use Rattle.json_span.specs.declared.table.Move.TheVariants as moves
use Rattle.json_span.specs.declared.table.TextMove.TheVariants as text
use Rattle.json_span.specs.declared.cutter.Cutter.{Cutter}
use Rattle.json_span.specs.declared.machine.Machine.{Machine}
use Rattle.json_span.proofs.Run.{plain_move-plain}
use Rattle.json_span.proofs.Spelling.{blanks, piece_then, pieces_then}

abbrev pub state : Phase → List Frame → ℕ → Cutter → Machine
state p k d c = record { phase = p; frames = k; deepest = d; cutter = c }

-- a byte makes the move that its phase has for it
pub by_move : (size : ℕ) (m : Machine) (b : ℕ) (bs : List ℕ) (mv : Move) → move_of m.phase b ≡ mv → run size m (b ∷ bs) ≡ run size (moved mv m b (size - length (b ∷ bs)) (size - length bs)) bs
by_move size m b bs mv e = ap (λ t. run size (moved t m b (size - length (b ∷ bs)) (size - length bs)) bs) e

pub class_of-space : (s : Space) → class_of (space_byte s) ≡ class.Blank
class_of-space json.blank = refl
class_of-space json.tab = refl
class_of-space json.newline = refl
class_of-space json.carriage_return = refl

-- white space leaves this phase as it is
abbrev pub IsWaiting : Phase → Type 0
IsWaiting p = (b : ℕ) → class_of b ≡ class.Blank → move_of p b ≡ moves.Go p

pub waits_start : (f : Frame) → IsWaiting (phase.Start f)
waits_start frame.Array b e = ap (λ k. start_move frame.Array k) e
waits_start frame.Object b e = ap (λ k. start_move frame.Object k) e

pub waits_first_key : IsWaiting phase.FirstKey
waits_first_key b e = ap (λ k. table phase.FirstKey k) e

pub waits_key : IsWaiting phase.Key
waits_key b e = ap (λ k. table phase.Key k) e

pub waits_colon : IsWaiting phase.Colon
waits_colon b e = ap (λ k. table phase.Colon k) e

pub waits_first_item : IsWaiting phase.FirstItem
waits_first_item b e = ap (λ k. table phase.FirstItem k) e

pub waits_value : IsWaiting phase.Value
waits_value b e = ap (λ k. value_move k) e

pub waits_after : IsWaiting phase.After
waits_after b e = ap (λ k. after_move k) e

pub waits_done : IsWaiting phase.Done
waits_done b e = ap (λ k. table phase.Done k) e

pub run-blanks : (size : ℕ) (p : Phase) → IsWaiting p → (k : List Frame) (d : ℕ) (c : Cutter) (ss : List Space) (rest : List ℕ) → run size (state p k d c) (blanks ss rest) ≡ run size (state p k d c) rest
run-blanks size p waits k d c [] rest = refl
run-blanks size p waits k d c (s ∷ ss) rest = by_move size (state p k d c) (space_byte s) (blanks ss rest) (moves.Go p) (waits (space_byte s) (class_of-space s)) ∙ run-blanks size p waits k d c ss rest

-- a byte in a string
pub in_text : (size : ℕ) (r : Role) (s next : Spot) (k : List Frame) (d : ℕ) (c : Cutter) (b : ℕ) (bs : List ℕ) → next_spot s b ≡ text.Go next → run size (state (phase.Text r s) k d c) (b ∷ bs) ≡ run size (state (phase.Text r next) k d c) bs
in_text size r s next k d c b bs e = by_move size (state (phase.Text r s) k d c) b bs (moves.Go (phase.Text r next)) (ap (λ t. text_move r t) e)

plain_move-piece : (b : ℕ) → IsTrue (is_plain b) → plain_move b ≡ text.Go spot.Plain
plain_move-piece b is = plain_move-plain b (grind (arith, nat_tests)) (grind (arith, nat_tests)) (grind (arith, nat_tests))

-- the classes of hexadecimal digits
abbrev pub hex_by : Bool → Bool → Bool → Hex
hex_by true b c = hex.Below8
hex_by false true c = hex.From8
hex_by false false true = hex.D
hex_by false false false = hex.FromC

hex_valued-by : (n : ℕ) → hex_valued n ≡ hex_by (nat_lt n 8) (nat_lt n 12) (n == 13)
hex_valued-by n = cases (nat_lt n 8) (nat_lt n 12) (n == 13)
  where
    cases : (a b c : Bool) → cond a hex.Below8 (cond b hex.From8 (cond c hex.D hex.FromC)) ≡ hex_by a b c
    cases true b c = refl
    cases false true c = refl
    cases false false true = refl
    cases false false false = refl

hex_of-digit : (b : ℕ) → is_digit b 16 ≡ true → hex_of b ≡ hex_by (nat_lt (digit_value b) 8) (nat_lt (digit_value b) 12) (digit_value b == 13)
hex_of-digit b e = ap (λ t. cond t (hex_valued (digit_value b)) hex.None) e ∙ hex_valued-by (digit_value b)

any_move-by : (a b c : Bool) (next : Spot) → any_move (hex_by a b c) next ≡ text.Go next
any_move-by true b c next = refl
any_move-by false true c next = refl
any_move-by false false true next = refl
any_move-by false false false next = refl

any_move-digit : (b : ℕ) (next : Spot) → is_digit b 16 ≡ true → any_move (hex_of b) next ≡ text.Go next
any_move-digit b next e = ap (λ h. any_move h next) (hex_of-digit b e) ∙ any_move-by (nat_lt (digit_value b) 8) (nat_lt (digit_value b) 12) (digit_value b == 13) next

-- the first digit of a code unit: D, or another
first_by : (v : ℕ) → ((v ≡ 13) × (first_move (hex_by (nat_lt v 8) (nat_lt v 12) (v == 13)) ≡ text.Go spot.SecondOfD)) ⊎ ((v ≢ 13) × (first_move (hex_by (nat_lt v 8) (nat_lt v 12) (v == 13)) ≡ text.Go spot.Second))
first_by v = cases (nat_lt v 8) (nat_lt v 12) (v == 13) refl refl refl
  where
    cases : (a b c : Bool) → nat_lt v 8 ≡ a → nat_lt v 12 ≡ b → (v == 13) ≡ c → ((v ≡ 13) × (first_move (hex_by a b c) ≡ text.Go spot.SecondOfD)) ⊎ ((v ≢ 13) × (first_move (hex_by a b c) ≡ text.Go spot.Second))
    cases true b c e f g = inr (grind (arith, nat_tests), refl)
    cases false true c e f g = inr (grind (arith, nat_tests), refl)
    cases false false true e f g = inl (grind (arith, nat_tests), refl)
    cases false false false e f g = inr (grind (arith, nat_tests), refl)

second_by : (v : ℕ) → v < 8 → second_move (hex_by (nat_lt v 8) (nat_lt v 12) (v == 13)) ≡ text.Go spot.Third
second_by v h = let e : nat_lt v 8 ≡ true = grind (arith, nat_tests) in ap (λ t. second_move (hex_by t (nat_lt v 12) (v == 13))) e

second_high_by : (v : ℕ) → 8 ≤ v → v < 12 → second_move (hex_by (nat_lt v 8) (nat_lt v 12) (v == 13)) ≡ text.Go spot.HighThird
second_high_by v h k =
    let e : nat_lt v 8 ≡ false = grind (arith, nat_tests) in
    let f : nat_lt v 12 ≡ true = grind (arith, nat_tests) in
    ap (λ t. second_move (hex_by t (nat_lt v 12) (v == 13))) e ∙ ap (λ t. second_move (hex_by false t (v == 13))) f

low_second_by : (v : ℕ) → 12 ≤ v → low_second_move (hex_by (nat_lt v 8) (nat_lt v 12) (v == 13)) ≡ text.Go spot.Third
low_second_by v h =
    let e : nat_lt v 8 ≡ false = grind (arith, nat_tests) in
    let f : nat_lt v 12 ≡ false = grind (arith, nat_tests) in
    ap (λ t. low_second_move (hex_by t (nat_lt v 12) (v == 13))) e ∙ ap (λ t. low_second_move (hex_by false t (v == 13))) f ∙ last (v == 13)
  where
    last : (c : Bool) → low_second_move (hex_by false false c) ≡ text.Go spot.Third
    last true = refl
    last false = refl

both : (x y : Bool) → (x && y) ≡ true → (x ≡ true) × (y ≡ true)
both true y e = (refl, e)
both false y e = cc

-- four hexadecimal digits
pub record AreDigits (a b c d : ℕ) : Type 0 where
  pub first : is_digit a 16 ≡ true
  pub second : is_digit b 16 ≡ true
  pub third : is_digit c 16 ≡ true
  pub fourth : is_digit d 16 ≡ true

pub digits_of : (a b c d : ℕ) → are_hex a b c d ≡ true → AreDigits a b c d
digits_of a b c d e =
    let e1 = both (is_digit a 16) (is_digit b 16 && (is_digit c 16 && is_digit d 16)) e in
    let e2 = both (is_digit b 16) (is_digit c 16 && is_digit d 16) e1.1 in
    let e3 = both (is_digit c 16) (is_digit d 16) e2.1 in
    record { first = e1.0; second = e2.0; third = e3.0; fourth = e3.1 }

-- what a test of order says
pub below : (v n : ℕ) → nat_lt v n ≡ true → v < n
below v n e = grind (arith, nat_tests)

no_surrogate : (u : ℕ) → not (is_high_surrogate u) ≡ true → not (is_low_surrogate u) ≡ true → 0xd800 ≤ u → u < 0xe000 → ⊥
no_surrogate u h l x y = grind (arith, nat_tests)

high_bounds : (u : ℕ) → is_high_surrogate u ≡ true → (0xd800 ≤ u) × (u < 0xdc00)
high_bounds u h = (grind (arith, nat_tests), grind (arith, nat_tests))

low_bounds : (u : ℕ) → is_low_surrogate u ≡ true → (0xdc00 ≤ u) × (u < 0xe000)
low_bounds u h = (grind (arith, nat_tests), grind (arith, nat_tests))

below_or : (v n : ℕ) → (v < n) ⊎ (n ≤ v)
below_or v n = elim (leb_tells n v) [ inl h ↦ inr h.1 | inr h ↦ inl h.1 ]

-- behind a D no unit of a character has a second digit from 8 on
whole_second : (a b c d : ℕ) → a < 16 → b < 16 → c < 16 → d < 16 → not (is_high_surrogate (a * 4096 + b * 256 + c * 16 + d)) ≡ true → not (is_low_surrogate (a * 4096 + b * 256 + c * 16 + d)) ≡ true → a ≡ 13 → b < 8
whole_second a b c d ha hb hc hd h l e = elim (below_or b 8) [ inl k ↦ k | inr k ↦ absurd (no_surrogate (a * 4096 + b * 256 + c * 16 + d) h l (omega arith) (omega arith)) ]

high_digits : (a b c d : ℕ) → a < 16 → b < 16 → c < 16 → d < 16 → 0xd800 ≤ a * 4096 + b * 256 + c * 16 + d → a * 4096 + b * 256 + c * 16 + d < 0xdc00 → (a ≡ 13) × (8 ≤ b) × (b < 12)
high_digits a b c d ha hb hc hd h l = (omega arith, omega arith, omega arith)

low_digits : (a b c d : ℕ) → a < 16 → b < 16 → c < 16 → d < 16 → 0xdc00 ≤ a * 4096 + b * 256 + c * 16 + d → a * 4096 + b * 256 + c * 16 + d < 0xe000 → (a ≡ 13) × (12 ≤ b)
low_digits a b c d ha hb hc hd h l = (omega arith, omega arith)

first_at : (b : ℕ) → is_digit b 16 ≡ true → ((digit_value b ≡ 13) × (next_spot spot.First b ≡ text.Go spot.SecondOfD)) ⊎ ((digit_value b ≢ 13) × (next_spot spot.First b ≡ text.Go spot.Second))
first_at b h = elim (first_by (digit_value b)) [ inl m ↦ inl (m.0, ap first_move (hex_of-digit b h) ∙ m.1) | inr m ↦ inr (m.0, ap first_move (hex_of-digit b h) ∙ m.1) ]

low_first_at : (b : ℕ) → is_digit b 16 ≡ true → digit_value b ≡ 13 → next_spot spot.LowFirst b ≡ text.Go spot.LowSecond
low_first_at b h e = ap low_first_move (hex_of-digit b h) ∙ ap (λ (v : ℕ). low_first_move (hex_by (nat_lt v 8) (nat_lt v 12) (v == 13))) e

module _ (size : ℕ) (r : Role) (k : List Frame) (d : ℕ) (c : Cutter) where
  -- the last two digits of a unit that ends a character
  run-last : (x y : ℕ) (rest : List ℕ) → is_digit x 16 ≡ true → is_digit y 16 ≡ true → run size (state (phase.Text r spot.Third) k d c) (x ∷ y ∷ rest) ≡ run size (state (phase.Text r spot.Plain) k d c) rest
  run-last x y rest hx hy =
      in_text size r spot.Third spot.Fourth k d c x (y ∷ rest) (any_move-digit x spot.Fourth hx)
      ∙ in_text size r spot.Fourth spot.Plain k d c y rest (any_move-digit y spot.Plain hy)

  run-unit : (x y z w : ℕ) → AreDigits x y z w → (digit_value x ≡ 13 → digit_value y < 8) → (rest : List ℕ) → run size (state (phase.Text r spot.Plain) k d c) (92 ∷ 117 ∷ x ∷ y ∷ z ∷ w ∷ rest) ≡ run size (state (phase.Text r spot.Plain) k d c) rest
  run-unit x y z w are small rest =
      elim (first_at x are.first) [
        | inl m ↦
            in_text size r spot.First spot.SecondOfD k d c x (y ∷ z ∷ w ∷ rest) m.1
            ∙ in_text size r spot.SecondOfD spot.Third k d c y (z ∷ w ∷ rest) (ap second_move (hex_of-digit y are.second) ∙ second_by (digit_value y) (small m.0))
            ∙ run-last z w rest are.third are.fourth
        | inr m ↦
            in_text size r spot.First spot.Second k d c x (y ∷ z ∷ w ∷ rest) m.1
            ∙ in_text size r spot.Second spot.Third k d c y (z ∷ w ∷ rest) (any_move-digit y spot.Third are.second)
            ∙ run-last z w rest are.third are.fourth
      ]

  -- the first half of a pair
  run-high : (x y z w : ℕ) → AreDigits x y z w → digit_value x ≡ 13 → 8 ≤ digit_value y → digit_value y < 12 → (rest : List ℕ) → run size (state (phase.Text r spot.Plain) k d c) (92 ∷ 117 ∷ x ∷ y ∷ z ∷ w ∷ rest) ≡ run size (state (phase.Text r spot.LowBackslash) k d c) rest
  run-high x y z w are is_d low high rest =
      elim (first_at x are.first) [
        | inl m ↦
            in_text size r spot.First spot.SecondOfD k d c x (y ∷ z ∷ w ∷ rest) m.1
            ∙ in_text size r spot.SecondOfD spot.HighThird k d c y (z ∷ w ∷ rest) (ap second_move (hex_of-digit y are.second) ∙ second_high_by (digit_value y) low high)
            ∙ in_text size r spot.HighThird spot.HighFourth k d c z (w ∷ rest) (any_move-digit z spot.HighFourth are.third)
            ∙ in_text size r spot.HighFourth spot.LowBackslash k d c w rest (any_move-digit w spot.LowBackslash are.fourth)
        | inr m ↦ absurd (m.0 is_d)
      ]

  -- the second half of a pair
  run-low : (x y z w : ℕ) → AreDigits x y z w → digit_value x ≡ 13 → 12 ≤ digit_value y → (rest : List ℕ) → run size (state (phase.Text r spot.LowBackslash) k d c) (92 ∷ 117 ∷ x ∷ y ∷ z ∷ w ∷ rest) ≡ run size (state (phase.Text r spot.Plain) k d c) rest
  run-low x y z w are is_d low rest =
      in_text size r spot.LowFirst spot.LowSecond k d c x (y ∷ z ∷ w ∷ rest) (low_first_at x are.first is_d)
      ∙ in_text size r spot.LowSecond spot.Third k d c y (z ∷ w ∷ rest) (ap low_second_move (hex_of-digit y are.second) ∙ low_second_by (digit_value y) low)
      ∙ run-last z w rest are.third are.fourth

  run-escape : (e : Escape) (rest : List ℕ) → run size (state (phase.Text r spot.Plain) k d c) (92 ∷ escape_letter e ∷ rest) ≡ run size (state (phase.Text r spot.Plain) k d c) rest
  run-escape quotation_mark rest = refl
  run-escape backslash rest = refl
  run-escape slash rest = refl
  run-escape backspace rest = refl
  run-escape form_feed rest = refl
  run-escape line_feed rest = refl
  run-escape carriage_return rest = refl
  run-escape tab rest = refl

  run-piece : (p : Piece) (rest : List ℕ) → run size (state (phase.Text r spot.Plain) k d c) (piece_then p rest) ≡ run size (state (phase.Text r spot.Plain) k d c) rest
  run-piece (plain b is) rest = in_text size r spot.Plain spot.Plain k d c b rest (plain_move-piece b is)
  run-piece (escape e) rest = run-escape e rest
  run-piece (unit x y z w is) rest =
      let parts = both (are_hex x y z w) (not (is_high_surrogate (code_unit x y z w)) && not (is_low_surrogate (code_unit x y z w))) is in
      let free = both (not (is_high_surrogate (code_unit x y z w))) (not (is_low_surrogate (code_unit x y z w))) parts.1 in
      let are = digits_of x y z w parts.0 in
      run-unit x y z w are (whole_second (digit_value x) (digit_value y) (digit_value z) (digit_value w) (below (digit_value x) 16 are.first) (below (digit_value y) 16 are.second) (below (digit_value z) 16 are.third) (below (digit_value w) 16 are.fourth) free.0 free.1) rest
  run-piece (pair x y z w high x' y' z' w' low) rest =
      let parts = both (are_hex x y z w) (is_high_surrogate (code_unit x y z w)) high in
      let are = digits_of x y z w parts.0 in
      let bounds = high_bounds (code_unit x y z w) parts.1 in
      let digits = high_digits (digit_value x) (digit_value y) (digit_value z) (digit_value w) (below (digit_value x) 16 are.first) (below (digit_value y) 16 are.second) (below (digit_value z) 16 are.third) (below (digit_value w) 16 are.fourth) bounds.0 bounds.1 in
      let parts' = both (are_hex x' y' z' w') (is_low_surrogate (code_unit x' y' z' w')) low in
      let are' = digits_of x' y' z' w' parts'.0 in
      let bounds' = low_bounds (code_unit x' y' z' w') parts'.1 in
      let digits' = low_digits (digit_value x') (digit_value y') (digit_value z') (digit_value w') (below (digit_value x') 16 are'.first) (below (digit_value y') 16 are'.second) (below (digit_value z') 16 are'.third) (below (digit_value w') 16 are'.fourth) bounds'.0 bounds'.1 in
      run-high x y z w are digits.0 digits.1 digits.2 (92 ∷ 117 ∷ x' ∷ y' ∷ z' ∷ w' ∷ rest)
      ∙ run-low x' y' z' w' are' digits'.0 digits'.1 rest

  pub run-pieces : (ps : List Piece) (rest : List ℕ) → run size (state (phase.Text r spot.Plain) k d c) (pieces_then ps rest) ≡ run size (state (phase.Text r spot.Plain) k d c) rest
  run-pieces [] rest = refl
  run-pieces (p ∷ ps) rest = run-piece p (pieces_then ps rest) ∙ run-pieces ps rest
