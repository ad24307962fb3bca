-- What the loops of the reader keep: the machine on the rest of the text.
use Rattle.std.proofs.Common.{◌≡◌, ℕ, zero, suc, ◌+◌, ◌-◌, ◌<◌, ◌≤◌, ◌≢◌, ◌⊎◌, inl, inr, Bool, true, false, cond, List, [], ◌∷◌, ◌++◌, length, get_or, take, drop, refl, sym, ap, subst, ◌∙◌, arith, length-drop, drop-cons}
use Rattle.std.proofs.lemmas.List.{length-take-le}
use Rattle.std.specs.List.{prefix_len}
use Rattle.std.proofs.lemmas.Bool.Decides.{nat_tests}
use Rattle.json_span.specs.Table.{class_of, plain_move, text_move, number_move, value_move, after_move, start_move, table, move_of}
use Rattle.json_span.specs.Machine.{stepped, moved, made, run, run_of, over, between, read_to, read_whole, initial, value_ended, IsSkipped, IsTaken, IsSimple}
use Rattle.json_span.specs.Plain.{is_plain_byte}
use Rattle.json_span.specs.declared.class.Class.{Class}
use Rattle.json_span.specs.declared.class.Class.TheVariants as class
use Rattle.json_span.specs.declared.phase.Frame.{Frame}
use Rattle.json_span.specs.declared.phase.Frame.TheVariants as frame
use Rattle.json_span.specs.declared.phase.Spot.TheVariants as spot
use Rattle.json_span.specs.declared.phase.Part.TheVariants as part
use Rattle.json_span.specs.declared.phase.Phase.{Phase}
use Rattle.json_span.specs.declared.phase.Phase.TheVariants as phase
use Rattle.json_span.specs.declared.phase.Run.{Run}
use Rattle.json_span.specs.declared.phase.Run.TheVariants as runs
use Rattle.json_span.specs.declared.table.Move.{Move}
use Rattle.json_span.specs.declared.table.Move.TheVariants as moves
use Rattle.json_span.specs.declared.table.TextMove.TheVariants as text
use Rattle.json_span.specs.declared.machine.Machine.{Machine}
use Rattle.json_span.proofs.Digits.{digit_class}

-- bytes in two parts
pub over-append : (xs ys : List ℕ) (at : ℕ) (m : Machine) → over at m (xs ++ ys) ≡ over (at + length xs) (over at m xs) ys
over-append [] ys at m = let e : at ≡ at + 0 = omega arith in ap (λ (p : ℕ). over p m ys) e
over-append (x ∷ xs) ys at m =
    let e : at + 1 + length xs ≡ at + suc (length xs) = omega arith in
    over-append xs ys (at + 1) (stepped m x at (at + 1)) ∙ ap (λ (p : ℕ). over p (over (at + 1) (stepped m x at (at + 1)) xs) ys) e

take-add : (n k : ℕ) (xs : List ℕ) → take (n + k) xs ≡ take n xs ++ take k (drop n xs)
take-add zero k xs = let e : 0 + k ≡ k = omega arith in ap (λ (i : ℕ). take i xs) e
take-add (suc n) k [] = let e : take (suc n + k) [] ≡ [] = take-none (suc n + k) in e ∙ sym (take-none k)
  where
    take-none : (i : ℕ) → ◌≡◌ {A = List ℕ} (take i []) []
    take-none zero = refl
    take-none (suc i) = refl
take-add (suc n) k (x ∷ xs) = let e : suc n + k ≡ suc (n + k) = omega arith in ap (λ (i : ℕ). take i (x ∷ xs)) e ∙ ap (λ (l : List ℕ). x ∷ l) (take-add n k xs)

pub drop-places : (text : List ℕ) (from at : ℕ) → from ≤ at → drop at text ≡ drop (at - from) (drop from text)
drop-places text zero at h = let e : at ≡ at - 0 = omega arith in ap (λ (i : ℕ). drop i text) e
drop-places [] (suc from) at h = drop-none at ∙ sym (drop-none (at - suc from))
  where
    drop-none : (i : ℕ) → ◌≡◌ {A = List ℕ} (drop i []) []
    drop-none zero = refl
    drop-none (suc i) = refl
drop-places (x ∷ xs) (suc from) zero h = absurd (omega arith)
drop-places (x ∷ xs) (suc from) (suc at) h = let e : at - from ≡ suc at - suc from = omega arith in drop-places xs from at (omega arith) ∙ ap (λ (i : ℕ). drop i (drop from xs)) e

pub between-join : (text : List ℕ) (from at to : ℕ) → from ≤ at → at ≤ to → between text from to ≡ between text from at ++ between text at to
between-join text from at to h k =
    let e : to - from ≡ (at - from) + (to - at) = omega arith in
    ap (λ (i : ℕ). take i (drop from text)) e
    ∙ take-add (at - from) (to - at) (drop from text)
    ∙ ap (λ (l : List ℕ). between text from at ++ take (to - at) l) (sym (drop-places text from at h))

pub length-between : (text : List ℕ) (from to : ℕ) → to ≤ length text → length (between text from to) ≡ to - from
length-between text from to h = length-take-le (to - from) (drop from text) (omega (arith, length-drop from text))

-- one byte
pub between-one : (text : List ℕ) (at : ℕ) → at < length text → between text at (at + 1) ≡ get_or text at 0 ∷ []
between-one text at h =
    let e : at + 1 - at ≡ 1 = omega arith in
    ap (λ (i : ℕ). take i (drop at text)) e ∙ ap (λ (l : List ℕ). take 1 l) (drop-cons text at 0 h)

-- one part behind another
pub read_on : (text : List ℕ) (m : Machine) (from at to : ℕ) → from ≤ at → at ≤ to → to ≤ length text → read_to text (read_to text m from at) at to ≡ read_to text m from to
unfolding read_to
read_on text m from at to h k i =
    let size = length-between text from at (omega arith) in
    let place : at ≡ from + length (between text from at) = omega arith in
    ap (λ (p : ℕ). over p (over from m (between text from at)) (between text at to)) place
    ∙ sym (over-append (between text from at) (between text at to) from m)
    ∙ ap (λ (l : List ℕ). over from m l) (sym (between-join text from at to h k))

-- one behind another
pub taken_on : (text : List ℕ) (m middle after : Machine) (from at to : ℕ) → IsTaken text m from middle at → IsTaken text middle at after to → IsTaken text m from after to
taken_on text m middle after from at to f g =
    let a = f.ordered in
    let b = g.ordered in
    record {
      ordered = omega arith;
      inside = g.inside;
      made = g.made ∙ ap (λ (n : Machine). read_to text n at to) f.made ∙ read_on text m from at to a b g.inside;
    }

-- what the machine makes of the whole text
pub over-run : (size : ℕ) (bs : List ℕ) (m : Machine) (at : ℕ) → size ≡ at + length bs → over at m bs ≡ run size m bs
over-run size [] m at e = refl
over-run size (b ∷ bs) m at e =
    let here : at ≡ size - length (b ∷ bs) = omega arith in
    let behind : at + 1 ≡ size - length bs = omega arith in
    over-run size bs (stepped m b at (at + 1)) (at + 1) (omega arith)
    ∙ ap (λ (p : ℕ). run size (stepped m b p (at + 1)) bs) here
    ∙ ap (λ (p : ℕ). run size (stepped m b (size - length (b ∷ bs)) p) bs) behind

pub read_none : (text : List ℕ) (m : Machine) (at : ℕ) → read_to text m at at ≡ m
unfolding read_to
read_none text m at = let e : at - at ≡ 0 = omega arith in ap (λ (i : ℕ). over at m (take i (drop at text))) e

pub read_to-whole : (f : Frame) (text : List ℕ) (at : ℕ) → at ≤ length text → length text ≤ at → read_to text (initial f) 0 at ≡ read_whole f text
unfolding read_to
read_to-whole f text at h k =
    let size : at - 0 ≡ length text = omega arith in
    ap (λ (i : ℕ). over 0 (initial f) (take i text)) size
    ∙ ap (λ (l : List ℕ). over 0 (initial f) l) (take-all text)
    ∙ over-run (length text) text (initial f) 0 (omega arith)
  where
    take-all : (xs : List ℕ) → take (length xs) xs ≡ xs
    take-all [] = refl
    take-all (x ∷ xs) = ap (λ (l : List ℕ). x ∷ l) (take-all xs)

-- a byte that stands for itself
pub plain_move-plain : (b : ℕ) → 32 ≤ b → b ≢ 34 → b ≢ 92 → plain_move b ≡ text.Go spot.Plain
plain_move-plain b h k i = grind (arith, nat_tests)

-- a byte that leaves the phase as it is leaves the machine as it is
stepped-same : (m : Machine) (b here behind : ℕ) → move_of m.phase b ≡ moves.Go m.phase → stepped m b here behind ≡ m
stepped-same m b here behind e = ap (λ t. moved t m b here behind) e

-- and may be passed over
skipped_more : (kind : Run) (text : List ℕ) (from at : ℕ) → ((p : Phase) → run_of p ≡ kind → move_of p (get_or text at 0) ≡ moves.Go p) → IsSkipped kind (between text from at) → from ≤ at → at < length text → IsSkipped kind (between text from (at + 1))
skipped_more kind text from at stays skipped h k place m e =
    let b = get_or text at 0 in
    let next = place + length (between text from at) in
    ap (λ (l : List ℕ). over place m l) (between-join text from at (at + 1) h (omega arith))
    ∙ over-append (between text from at) (between text at (at + 1)) place m
    ∙ ap (λ (n : Machine). over next n (between text at (at + 1))) (skipped place m e)
    ∙ ap (λ (l : List ℕ). over next m l) (between-one text at k)
    ∙ stepped-same m b next (next + 1) (stays m.phase e)

pub skipped_none : (kind : Run) (text : List ℕ) (from : ℕ) → IsSkipped kind (between text from from)
skipped_none kind text from place m e = let none : from - from ≡ 0 = omega arith in ap (λ (i : ℕ). over place m (take i (drop from text))) none

plain_stays : (b : ℕ) → plain_move b ≡ text.Go spot.Plain → (p : Phase) → run_of p ≡ runs.Plain → move_of p b ≡ moves.Go p
plain_stays b is (phase.Text r spot.Plain) e = ap (λ t. text_move r t) is
plain_stays b is (phase.Text r _) e = cc
plain_stays b is (phase.Number part.Whole) e = cc
plain_stays b is (phase.Number part.Fraction) e = cc
plain_stays b is (phase.Number part.Exponent) e = cc
plain_stays b is (phase.Number _) e = cc
plain_stays b is _ e = cc

digit_stays : (b : ℕ) → (class_of b ≡ class.Zero) ⊎ (class_of b ≡ class.Digit) → (p : Phase) → run_of p ≡ runs.Digits → move_of p b ≡ moves.Go p
digit_stays b (inl is) (phase.Number part.Whole) e = ap (λ k. number_move part.Whole k) is
digit_stays b (inr is) (phase.Number part.Whole) e = ap (λ k. number_move part.Whole k) is
digit_stays b (inl is) (phase.Number part.Fraction) e = ap (λ k. number_move part.Fraction k) is
digit_stays b (inr is) (phase.Number part.Fraction) e = ap (λ k. number_move part.Fraction k) is
digit_stays b (inl is) (phase.Number part.Exponent) e = ap (λ k. number_move part.Exponent k) is
digit_stays b (inr is) (phase.Number part.Exponent) e = ap (λ k. number_move part.Exponent k) is
digit_stays b is (phase.Number _) e = cc
digit_stays b is (phase.Text r spot.Plain) e = cc
digit_stays b is (phase.Text r _) e = cc
digit_stays b is _ e = cc

start_stays : (f : Frame) (k : Class) → k ≡ class.Blank → start_move f k ≡ moves.Go (phase.Start f)
start_stays frame.Array k is = ap (λ t. start_move frame.Array t) is
start_stays frame.Object k is = ap (λ t. start_move frame.Object t) is

blank_stays : (b : ℕ) → class_of b ≡ class.Blank → (p : Phase) → run_of p ≡ runs.Blanks → move_of p b ≡ moves.Go p
blank_stays b is (phase.Start f) e = start_stays f (class_of b) is
blank_stays b is phase.FirstKey e = ap (λ k. table phase.FirstKey k) is
blank_stays b is phase.Key e = ap (λ k. table phase.Key k) is
blank_stays b is phase.Colon e = ap (λ k. table phase.Colon k) is
blank_stays b is phase.FirstItem e = ap (λ k. table phase.FirstItem k) is
blank_stays b is phase.Value e = ap (λ k. value_move k) is
blank_stays b is phase.After e = ap (λ k. after_move k) is
blank_stays b is phase.Done e = ap (λ k. table phase.Done k) is
blank_stays b is (phase.Text r spot.Plain) e = cc
blank_stays b is (phase.Text r _) e = cc
blank_stays b is (phase.Number part.Whole) e = cc
blank_stays b is (phase.Number part.Fraction) e = cc
blank_stays b is (phase.Number part.Exponent) e = cc
blank_stays b is (phase.Number _) e = cc
blank_stays b is _ e = cc

digit_at : (b : ℕ) → 48 ≤ b → b ≤ 57 → (class_of b ≡ class.Zero) ⊎ (class_of b ≡ class.Digit)
digit_at b low high = elim (digit_class (b - 48) (omega arith)) [ inl h ↦ inl (subst (λ (n : ℕ). class_of n ≡ class.Zero) back h.1) | inr h ↦ inr (subst (λ (n : ℕ). class_of n ≡ class.Digit) back h.1) ]
  where
    back : 48 + (b - 48) ≡ b
    back = omega arith

-- bytes at the front that stand for themselves
plain_front : (n : ℕ) (xs : List ℕ) → n ≤ prefix_len is_plain_byte xs → IsSkipped runs.Plain (take n xs)
plain_front zero xs h at m e = refl
plain_front (suc n) [] h at m e = refl
plain_front (suc n) (x ∷ xs) h at m e =
    let first = first_passes (is_plain_byte x) n (prefix_len is_plain_byte xs) h in
    ap (λ (s : Machine). over (at + 1) s (take n xs)) (stepped-same m x at (at + 1) (plain_stays x (plain_tells x first.0) m.phase e))
    ∙ plain_front n xs first.1 (at + 1) m e
  where
    first_passes : (b : Bool) (n k : ℕ) → suc n ≤ cond b (1 + k) 0 → (b ≡ true) × (n ≤ k)
    first_passes true n k h = (refl, omega arith)
    first_passes false n k h = absurd (omega arith)

    plain_tells : (b : ℕ) → is_plain_byte b ≡ true → plain_move b ≡ text.Go spot.Plain
    plain_tells b h = grind (arith, nat_tests)

pub plain_run : (text : List ℕ) (from to : ℕ) → to ≡ from + prefix_len is_plain_byte (drop from text) → IsSkipped runs.Plain (between text from to)
plain_run text from to e = plain_front (to - from) (drop from text) (omega arith)

pub digits_more : (text : List ℕ) (from at : ℕ) → IsSkipped runs.Digits (between text from at) → from ≤ at → at < length text → 48 ≤ get_or text at 0 → get_or text at 0 ≤ 57 → IsSkipped runs.Digits (between text from (at + 1))
digits_more text from at skipped h k low high = skipped_more runs.Digits text from at (digit_stays (get_or text at 0) (digit_at (get_or text at 0) low high)) skipped h k

pub blanks_more : (text : List ℕ) (from at : ℕ) → IsSkipped runs.Blanks (between text from at) → from ≤ at → at < length text → class_of (get_or text at 0) ≡ class.Blank → IsSkipped runs.Blanks (between text from (at + 1))
blanks_more text from at skipped h k is = skipped_more runs.Blanks text from at (blank_stays (get_or text at 0) is) skipped h k

-- a byte and the run behind it
taken_made : (text : List ℕ) (m after : Machine) (at to : ℕ) → at < length text → after ≡ stepped m (get_or text at 0) at (at + 1) → at + 1 ≤ to → IsSkipped (run_of after.phase) (between text (at + 1) to) → after ≡ read_to text m at to
unfolding read_to
taken_made text m after at to h s low skipped =
    sym (skipped (at + 1) after refl)
    ∙ ap (λ (n : Machine). over (at + 1) n (between text (at + 1) to)) s
    ∙ ap (λ (l : List ℕ). over at m (l ++ between text (at + 1) to)) (sym (between-one text at h))
    ∙ ap (λ (l : List ℕ). over at m l) (sym (between-join text at (at + 1) to (omega arith) low))

pub taken : (text : List ℕ) (m after : Machine) (at to : ℕ) → at < length text → after ≡ stepped m (get_or text at 0) at (at + 1) → at + 1 ≤ to → to ≤ length text → IsSkipped (run_of after.phase) (between text (at + 1) to) → IsTaken text m at after to
taken text m after at to h s low high skipped = record { ordered = omega arith; inside = high; made = taken_made text m after at to h s low skipped }

-- such a move, made at its byte, is the step
pub made_stepped : (mv : Move) → IsSimple mv → (m : Machine) (b here behind : ℕ) → move_of m.phase b ≡ mv → made mv m here behind ≡ stepped m b here behind
made_stepped mv simple m b here behind e = same mv simple ∙ sym (ap (λ t. moved t m b here behind) e)
  where
    same : (t : Move) → IsSimple t → made t m here behind ≡ moved t m b here behind
    same moves.EndNumber s = absurd s
    same (moves.Go next) s = refl
    same moves.BeginKey s = refl
    same moves.EndKey s = refl
    same (moves.Begin next) s = refl
    same moves.End s = refl
    same (moves.Open f) s = refl
    same (moves.Close f) s = refl
    same moves.Comma s = refl

-- behind a number a comma or a bracket does what it does behind any value
pub ended_stepped : (mv : Move) (m : Machine) (b here behind : ℕ) → move_of m.phase b ≡ moves.EndNumber → after_move (class_of b) ≡ mv → made mv (record m { cutter = value_ended m.frames m.cutter here }) here behind ≡ stepped m b here behind
ended_stepped mv m b here behind e f =
    ap (λ t. made t (record m { cutter = value_ended m.frames m.cutter here }) here behind) (sym f)
    ∙ sym (ap (λ t. moved t m b here behind) e)
