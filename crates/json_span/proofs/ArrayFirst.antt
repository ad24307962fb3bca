-- The first byte of a value tells whether it is an array.
use Rattle.std.proofs.Common.{◌≡◌, ℕ, ◌<◌, List, [], ◌∷◌, Bool, true, false, length, get_or, refl, sym, subst, ◌∙◌, arith, append-nil}
use Rattle.std.specs.Prelude.{◌↔◌}
use Rattle.json_scalar.specs.Number.{Whole, nought, counted}
use Rattle.json_span.specs.Grammar as json
use Rattle.json_span.specs.Grammar.{Space, Value, value_text, depth}
use Rattle.json_span.specs.Members.{IsValue}
use Rattle.json_span.specs.Elements.{IsArrayValue, IsSomeArray, elements_of}
use Rattle.json_span.proofs.Spelling.{blanks, minus_then, whole_then, fraction_then, exponent_then, value_then}
use Rattle.json_span.proofs.Steps.{class_of-space}
use Rattle.json_span.proofs.Sound.{IsStart, Starts, starts_value}
use Rattle.json_span.proofs.Theorems.{spelled_then}
use Rattle.json_span.proofs.First.{BeginsWith, value_is, not_empty}

begins_array : (v : Value) → IsArrayValue v → (rest : List ℕ) → BeginsWith 91 (value_then v rest)
begins_array (json.empty_array ss) is rest = refl
begins_array (json.array before v after items) is rest = refl
begins_array _ is rest = absurd is

no_number : (negative : Bool) (w : Whole) (rest : List ℕ) → BeginsWith 91 (minus_then negative (whole_then w rest)) → ⊥
no_number true w rest e = omega (arith, e)
no_number false nought rest e = omega (arith, e)
no_number false (counted first above others) rest e = let small = first.small in omega (arith, e)

pub is_array_value : (v : Value) (rest : List ℕ) → BeginsWith 91 (value_then v rest) → IsArrayValue v
is_array_value (json.empty_array ss) rest e = tt
is_array_value (json.array before v after items) rest e = tt
is_array_value (json.number l) rest e = absurd (no_number l.is_negative l.whole (fraction_then l.fraction (exponent_then l.exponent rest)) e)
is_array_value json.null rest e = absurd (omega (arith, e))
is_array_value json.yes rest e = absurd (omega (arith, e))
is_array_value json.no rest e = absurd (omega (arith, e))
is_array_value (json.string ps) rest e = absurd (omega (arith, e))
is_array_value (json.empty_object ss) rest e = absurd (omega (arith, e))
is_array_value (json.object before key behind ahead v after members) rest e = absurd (omega (arith, e))

some_array : (text : List ℕ) → IsValue text → BeginsWith 91 text → IsSomeArray text
some_array text h b =
    let v = h.value in
    let is = is_array_value v [] (subst (λ (l : List ℕ). BeginsWith 91 l) (value_is text v h.spelled) b) in
    record {
      deep = depth v;
      spans = elements_of 0 v;
      array = record { before = []; value = v; after = []; spells = record { utf8 = h.utf8; array = is; spelled = h.spelled ∙ sym (append-nil (value_text v)) }; deepest = refl; places = refl };
    }

-- an array without white space before it begins with the bracket
begins_spelled : (before : List Space) (v : Value) → IsArrayValue v → (rest : List ℕ) → Starts (blanks before (value_then v rest)) → BeginsWith 91 (blanks before (value_then v rest))
begins_spelled [] v is rest h = begins_array v is rest
begins_spelled (s ∷ ss) v is rest h = absurd (subst (λ t. IsStart t) (class_of-space s) h)

pub begins_some : (text : List ℕ) → IsValue text → IsSomeArray text → BeginsWith 91 text
begins_some text h o =
    let w = o.array in
    let e = spelled_then text w.before w.value w.after w.spells.spelled in
    let starts : Starts text = subst (λ (l : List ℕ). Starts l) (sym (value_is text h.value h.spelled)) (starts_value h.value []) in
    subst (λ (l : List ℕ). BeginsWith 91 l) (sym e)
    (begins_spelled w.before w.value w.spells.array (blanks w.after []) (subst (λ (l : List ℕ). Starts l) e starts))

-- the first byte tells
pub first_tells_array : (text : List ℕ) → IsValue text → (get_or text 0 0 ≡ 91) ↔ IsSomeArray text
first_tells_array text h = (λ e. some_array text h (begins text (not_empty text h) e), λ o. first_of text (begins_some text h o))
  where
    begins : (text : List ℕ) → 0 < length text → get_or text 0 0 ≡ 91 → BeginsWith 91 text
    begins [] l e = absurd (omega (arith, l))
    begins (b ∷ bs) l e = e

    first_of : (text : List ℕ) → BeginsWith 91 text → get_or text 0 0 ≡ 91
    first_of [] e = absurd e
    first_of (b ∷ bs) e = e
