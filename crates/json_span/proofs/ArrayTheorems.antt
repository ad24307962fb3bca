-- The machine reads a text to its end exactly if the text is an array, and then has its depth and its elements.
use Rattle.std.proofs.Common.{◌≡◌, ℕ, ◌+◌, ◌≤◌, ◌<◌, max, List, [], length, refl, sym, ap, subst, ◌∙◌, arith}
use Rattle.std.specs.Prelude.{IsUtf8}
use Rattle.json_span.specs.Grammar.{Space, space_text, Value, depth}
use Rattle.json_span.specs.Elements.{IsArray, IsArrayValue, IsNoArray, AreElements, HasOnlyElements, IsDeeperArray, SpellsArray, elements_of}
use Rattle.json_span.specs.Machine.{initial, read_whole, IsDone}
use Rattle.json_span.specs.declared.Span.{Span}
use Rattle.json_span.specs.declared.phase.Frame.TheVariants as frame
use Rattle.json_span.specs.declared.machine.Machine.{Machine}
use Rattle.json_span.proofs.Spelling.{blanks, value_then}
use Rattle.json_span.proofs.Sound.{run-array_text}
use Rattle.json_span.proofs.Places.{deepened-max, object_place}
use Rattle.json_span.proofs.ArrayPlaces.{array_cut-elements}
use Rattle.json_span.proofs.Complete.{is_spelled_array}
use Rattle.json_span.proofs.Theorems.{spelled_then, spelled_text}

-- what the machine has read at the end
pub record HasReadArray (m : Machine) (deep : ℕ) (spans : List Span) : Type 0 where
  pub done : IsDone m.phase
  pub deepest : m.deepest ≡ deep
  pub places : m.cutter.elements ≡ spans

pub has_read : (before : List Space) (v : Value) (after : List Space) → IsArrayValue v → HasReadArray (read_whole frame.Array (blanks before (value_then v (blanks after [])))) (depth v) (elements_of (length (space_text before)) v)
has_read before v after is =
    let text = blanks before (value_then v (blanks after [])) in
    let size = length text in
    let final = run-array_text before v after is size 0 (initial frame.Array).cutter [] in
    record {
      done = subst (λ (m : Machine). IsDone m.phase) (sym final) tt;
      deepest = ap (λ (m : Machine). m.deepest) final ∙ deepened-max v 0 0 (omega arith) ∙ zero_max (depth v);
      places = ap (λ (m : Machine). m.cutter.elements) final ∙ array_cut-elements v is size (length (space_text before)) (initial frame.Array).cutter (blanks after []) (object_place before (value_then v (blanks after [])));
    }
  where
    zero_max : (n : ℕ) → max 0 (0 + n) ≡ n
    zero_max n = omega arith

-- Whatever array the text is, the machine has read it.
sound : (text : List ℕ) (deep : ℕ) (spans : List Span) → IsArray text deep spans → HasReadArray (read_whole frame.Array text) deep spans
sound text deep spans o =
    let s = o.spells in
    let e = spelled_then text o.before o.value o.after s.spelled in
    let h = has_read o.before o.value o.after s.array in
    let same : read_whole frame.Array text ≡ read_whole frame.Array (blanks o.before (value_then o.value (blanks o.after []))) = ap (λ (t : List ℕ). read_whole frame.Array t) e in
    record {
      done = subst (λ (m : Machine). IsDone m.phase) (sym same) h.done;
      deepest = ap (λ (m : Machine). m.deepest) same ∙ h.deepest ∙ sym o.deepest;
      places = ap (λ (m : Machine). m.cutter.elements) same ∙ h.places ∙ sym o.places;
    }

-- A text in UTF-8 that the machine has read is an array.
complete : (text : List ℕ) → IsUtf8 text → IsDone (read_whole frame.Array text).phase → IsArray text (read_whole frame.Array text).deepest (read_whole frame.Array text).cutter.elements
complete text u done =
    let o = is_spelled_array text (length text) done in
    let e = o.more in
    let spelled = spelled_text text o.spaces o.value e.spaces (o.spelled ∙ ap (λ (r : List ℕ). blanks o.spaces (value_then o.value r)) e.spelled) in
    let spells : SpellsArray text o.spaces o.value e.spaces = record { utf8 = u; array = o.is; spelled = spelled } in
    let array : IsArray text (depth o.value) (elements_of (length (space_text o.spaces)) o.value) = record { before = o.spaces; value = o.value; after = e.spaces; spells = spells; deepest = refl; places = refl } in
    let s = sound text (depth o.value) (elements_of (length (space_text o.spaces)) o.value) array in
    record { before = o.spaces; value = o.value; after = e.spaces; spells = spells; deepest = s.deepest; places = s.places }

module _ (text : List ℕ) (m : Machine) (is : m ≡ read_whole frame.Array text) where
  pub read_array : IsUtf8 text → IsDone m.phase → IsArray text m.deepest m.cutter.elements
  read_array u done = subst (λ (n : Machine). IsArray text n.deepest n.cutter.elements) (sym is) (complete text u (subst (λ (n : Machine). IsDone n.phase) is done))

  read_by : (deep : ℕ) (spans : List Span) → IsArray text deep spans → HasReadArray m deep spans
  read_by deep spans o = subst (λ (n : Machine). HasReadArray n deep spans) (sym is) (sound text deep spans o)

  pub finds_array : IsUtf8 text → IsDone m.phase → (limit : ℕ) → m.deepest ≤ limit → AreElements limit text m.cutter.elements
  finds_array u done limit h = record { deep = m.deepest; within = h; array = read_array u done }

  pub finds_only_array : (limit : ℕ) → m.deepest ≤ limit → HasOnlyElements limit text m.cutter.elements
  finds_only_array limit h deep others o = let r = read_by deep others o in (subst (λ (n : ℕ). n ≤ limit) r.deepest h, sym r.places)

  pub finds_no_array : (IsDone m.phase → ⊥) → IsNoArray text
  finds_no_array h deep spans o = h (read_by deep spans o).done

  pub finds_deeper_array : IsUtf8 text → IsDone m.phase → (limit : ℕ) → limit < m.deepest → IsDeeperArray limit text
  finds_deeper_array u done limit h = record {
    deep = m.deepest;
    spans = m.cutter.elements;
    array = read_array u done;
    deeper = λ other_deep others o. subst (λ (n : ℕ). limit < n) (read_by other_deep others o).deepest h;
  }
