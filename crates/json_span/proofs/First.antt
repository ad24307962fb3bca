-- The first byte of a value tells whether it is an object.
use Rattle.std.proofs.Common.{◌≡◌, ℕ, ◌<◌, List, [], ◌∷◌, Bool, true, false, length, get_or, refl, sym, subst, ◌∙◌, arith, append-nil}
use Rattle.std.specs.Prelude.{◌↔◌}
use Rattle.json_scalar.specs.Number.{Whole, nought, counted}
use Rattle.json_span.specs.Grammar as json
use Rattle.json_span.specs.Grammar.{Space, space_byte, space_text, Value, value_text, depth}
use Rattle.json_span.specs.Members.{IsObjectValue, IsSomeObject, IsValue, members_of}
use Rattle.json_span.proofs.Spelling.{blanks, minus_then, whole_then, fraction_then, exponent_then, value_then, value_then-is}
use Rattle.json_span.proofs.Steps.{class_of-space}
use Rattle.json_span.proofs.Sound.{IsStart, Starts, starts_value}
use Rattle.json_span.proofs.Theorems.{spelled_then}

-- the text begins with this byte
abbrev pub BeginsWith : ℕ → List ℕ → Type 0
BeginsWith n [] = ⊥
BeginsWith n (b ∷ bs) = b ≡ n

begins_object : (v : Value) → IsObjectValue v → (rest : List ℕ) → BeginsWith 123 (value_then v rest)
begins_object (json.empty_object ss) is rest = refl
begins_object (json.object before key behind ahead v after members) is rest = refl
begins_object _ is rest = absurd is

no_number : (negative : Bool) (w : Whole) (rest : List ℕ) → BeginsWith 123 (minus_then negative (whole_then w rest)) → ⊥
no_number true w rest e = omega (arith, e)
no_number false nought rest e = omega (arith, e)
no_number false (counted first above others) rest e = let small = first.small in omega (arith, e)

pub is_object_value : (v : Value) (rest : List ℕ) → BeginsWith 123 (value_then v rest) → IsObjectValue v
is_object_value (json.empty_object ss) rest e = tt
is_object_value (json.object before key behind ahead v after members) rest e = tt
is_object_value (json.number l) rest e = absurd (no_number l.is_negative l.whole (fraction_then l.fraction (exponent_then l.exponent rest)) e)
is_object_value json.null rest e = absurd (omega (arith, e))
is_object_value json.yes rest e = absurd (omega (arith, e))
is_object_value json.no rest e = absurd (omega (arith, e))
is_object_value (json.string ps) rest e = absurd (omega (arith, e))
is_object_value (json.empty_array ss) rest e = absurd (omega (arith, e))
is_object_value (json.array before v after items) rest e = absurd (omega (arith, e))

pub value_is : (text : List ℕ) (v : Value) → text ≡ value_text v → text ≡ value_then v []
value_is text v e = e ∙ sym (append-nil (value_text v)) ∙ sym (value_then-is v [])

some_object : (text : List ℕ) → IsValue text → BeginsWith 123 text → IsSomeObject text
some_object text h b =
    let v = h.value in
    let is = is_object_value v [] (subst (λ (l : List ℕ). BeginsWith 123 l) (value_is text v h.spelled) b) in
    record {
      deep = depth v;
      members = members_of 0 v;
      object = record { before = []; value = v; after = []; spells = record { utf8 = h.utf8; object = is; spelled = h.spelled ∙ sym (append-nil (value_text v)) }; deepest = refl; places = refl };
    }

-- an object without white space before it begins with the bracket
begins_spelled : (before : List Space) (v : Value) → IsObjectValue v → (rest : List ℕ) → Starts (blanks before (value_then v rest)) → BeginsWith 123 (blanks before (value_then v rest))
begins_spelled [] v is rest h = begins_object v is rest
begins_spelled (s ∷ ss) v is rest h = absurd (subst (λ t. IsStart t) (class_of-space s) h)

pub begins_some : (text : List ℕ) → IsValue text → IsSomeObject text → BeginsWith 123 text
begins_some text h o =
    let w = o.object in
    let e = spelled_then text w.before w.value w.after w.spells.spelled in
    let starts : Starts text = subst (λ (l : List ℕ). Starts l) (sym (value_is text h.value h.spelled)) (starts_value h.value []) in
    subst (λ (l : List ℕ). BeginsWith 123 l) (sym e)
    (begins_spelled w.before w.value w.spells.object (blanks w.after []) (subst (λ (l : List ℕ). Starts l) e starts))

-- a value has a first byte
pub not_empty : (text : List ℕ) → IsValue text → 0 < length text
not_empty text h = from_start text (subst (λ (l : List ℕ). Starts l) (sym (value_is text h.value h.spelled)) (starts_value h.value []))
  where
    from_start : (text : List ℕ) → Starts text → 0 < length text
    from_start [] s = absurd s
    from_start (b ∷ bs) s = omega arith

-- and that byte tells
pub first_tells : (text : List ℕ) → IsValue text → (get_or text 0 0 ≡ 123) ↔ IsSomeObject text
first_tells text h = (λ e. some_object text h (begins text (not_empty text h) e), λ o. first_of text (begins_some text h o))
  where
    begins : (text : List ℕ) → 0 < length text → get_or text 0 0 ≡ 123 → BeginsWith 123 text
    begins [] l e = absurd (omega (arith, l))
    begins (b ∷ bs) l e = e

    first_of : (text : List ℕ) → BeginsWith 123 text → get_or text 0 0 ≡ 123
    first_of [] e = absurd e
    first_of (b ∷ bs) e = e
