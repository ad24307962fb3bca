-- How deep a value nests whose text is an object or an array that nests at most so deep.
use Rattle.std.proofs.Common.{◌≡◌, ◌⊎◌, inl, inr, ℕ, false, List, [], get_or, refl, sym, ap, ◌∙◌, arith, append-nil}
use Rattle.std.proofs.lemmas.Bool.{true≢false, cases_lt}
use Rattle.std.specs.Char.{is_ascii_digit}
use Rattle.json_scalar.specs.Number.{Literal, literal_text}
use Rattle.json_span.specs.Grammar as json
use Rattle.json_span.specs.Grammar.{Value, value_text, depth}
use Rattle.json_span.specs.Members.{IsValue, IsObject, IsObjectValue, AreMembers, members_of}
use Rattle.json_span.specs.Elements.{IsArray, IsArrayValue, AreElements, elements_of}
use Rattle.json_span.specs.Machine.{read_whole, IsDone}
use Rattle.json_span.specs.declared.Member.{Member}
use Rattle.json_span.specs.declared.Span.{Span}
use Rattle.json_span.specs.declared.phase.Frame.TheVariants as frame
use Rattle.json_span.specs.declared.machine.Machine.{Machine}
use Rattle.json_span.specs.declared.phase.Phase.{Phase}
use Rattle.json_span.specs.declared.phase.Phase.TheVariants as phase
use Rattle.json_span.proofs.First.{first_tells}
use Rattle.json_span.proofs.ArrayFirst.{first_tells_array}
use Rattle.json_span.proofs.Theorems.{sound}
use Rattle.json_span.proofs.ArrayTheorems.{finds_only_array, finds_no_array, finds_deeper_array}
use Rattle.json_fields.proofs.PartLemmas.{IsFirstOfNumber, number_tells}
use Rattle.json_write.specs.Values.{IsValueWithin}

-- a number begins with no bracket
no_bracket : (n : ℕ) → is_ascii_digit n ≡ false → (n ≡ 45 → ⊥) → (l : Literal) → get_or (literal_text l) 0 0 ≡ n → ⊥
no_bracket n no_digit no_minus l e = go (number_tells (literal_text l) (record { literal = l; spelled = refl }))
  where
    go : IsFirstOfNumber (get_or (literal_text l) 0 0) → ⊥
    go (inl minus) = no_minus (sym e ∙ minus)
    go (inr digit) = true≢false (sym digit ∙ ap is_ascii_digit e ∙ no_digit)

object_value : (v : Value) → get_or (value_text v) 0 0 ≡ 123 → IsObjectValue v
object_value (json.empty_object ss) e = tt
object_value (json.object before key behind ahead v after members) e = tt
object_value (json.number l) e = absurd (no_bracket 123 refl (λ i. omega (arith, i)) l e)
object_value json.null e = absurd (omega (arith, e))
object_value json.yes e = absurd (omega (arith, e))
object_value json.no e = absurd (omega (arith, e))
object_value (json.string ps) e = absurd (omega (arith, e))
object_value (json.empty_array ss) e = absurd (omega (arith, e))
object_value (json.array before v after items) e = absurd (omega (arith, e))

array_value : (v : Value) → get_or (value_text v) 0 0 ≡ 91 → IsArrayValue v
array_value (json.empty_array ss) e = tt
array_value (json.array before v after items) e = tt
array_value (json.number l) e = absurd (no_bracket 91 refl (λ i. omega (arith, i)) l e)
array_value json.null e = absurd (omega (arith, e))
array_value json.yes e = absurd (omega (arith, e))
array_value json.no e = absurd (omega (arith, e))
array_value (json.string ps) e = absurd (omega (arith, e))
array_value (json.empty_object ss) e = absurd (omega (arith, e))
array_value (json.object before key behind ahead v after members) e = absurd (omega (arith, e))

-- each object that the text is nests as deep as the value does
pub object_deep : (text : List ℕ) (deep : ℕ) (members : List Member) (h : IsValue text) → IsObject text deep members → depth h.value ≡ deep
object_deep text deep members h o =
    let v = h.value in
    let first = (first_tells text h).1 (record { deep = deep; members = members; object = o }) in
    let is = object_value v (ap (λ (t : List ℕ). get_or t 0 0) (sym h.spelled) ∙ first) in
    let own : IsObject text (depth v) (members_of 0 v) = record { before = []; value = v; after = []; spells = record { utf8 = h.utf8; object = is; spelled = h.spelled ∙ sym (append-nil (value_text v)) }; deepest = refl; places = refl } in
    sym (sound text (depth v) (members_of 0 v) own).deepest ∙ (sound text deep members o).deepest

pub object_within : (limit : ℕ) (text : List ℕ) (members : List Member) → IsValue text → AreMembers limit text members → IsValueWithin limit text
object_within limit text members h o =
    let same = object_deep text o.deep members h o.object in
    record { is = h; within = (let within = o.within in omega arith) }

is_done : (p : Phase) → IsDone p ⊎ (IsDone p → ⊥)
is_done phase.Done = inl tt
is_done _ = inr (λ done. done)

-- the machine has found each array's depth
pub array_deep : (text : List ℕ) (deep : ℕ) (spans : List Span) → IsArray text deep spans → deep ≡ (read_whole frame.Array text).deepest
array_deep text deep spans o = go (is_done m.phase)
  where
    m : Machine
    m = read_whole frame.Array text

    go : IsDone m.phase ⊎ (IsDone m.phase → ⊥) → deep ≡ m.deepest
    go (inr not_done) = absurd (finds_no_array text m refl not_done deep spans o)
    go (inl done) =
        let low = (finds_only_array text m refl m.deepest (omega arith) deep spans o).0 in
        elim (cases_lt deep m.deepest) [
          | inl less ↦ let deeper = (finds_deeper_array text m refl o.spells.utf8 done deep less).deeper deep spans o in absurd (omega arith)
          | inr high ↦ omega arith
        ]

-- each array that the text is nests as deep as the value does
pub array_value_deep : (text : List ℕ) (deep : ℕ) (spans : List Span) (h : IsValue text) → IsArray text deep spans → depth h.value ≡ deep
array_value_deep text deep spans h o =
    let v = h.value in
    let first = (first_tells_array text h).1 (record { deep = deep; spans = spans; array = o }) in
    let is = array_value v (ap (λ (t : List ℕ). get_or t 0 0) (sym h.spelled) ∙ first) in
    let own : IsArray text (depth v) (elements_of 0 v) = record { before = []; value = v; after = []; spells = record { utf8 = h.utf8; array = is; spelled = h.spelled ∙ sym (append-nil (value_text v)) }; deepest = refl; places = refl } in
    array_deep text (depth v) (elements_of 0 v) own ∙ sym (array_deep text deep spans o)

pub array_within : (limit : ℕ) (text : List ℕ) (spans : List Span) → IsValue text → AreElements limit text spans → IsValueWithin limit text
array_within limit text spans h o =
    let same = array_value_deep text o.deep spans h o.array in
    record { is = h; within = (let within = o.within in omega arith) }
