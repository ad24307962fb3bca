-- The machine reads a text to its end exactly if the text is an object, and then has its depth and its members.
use Rattle.std.proofs.Common.{◌≡◌, ℕ, ◌+◌, ◌≤◌, ◌<◌, max, List, [], ◌∷◌, ◌++◌, length, refl, sym, ap, subst, ◌∙◌, arith, append-nil}
use Rattle.std.specs.Prelude.{IsUtf8}
use Rattle.json_span.specs.Grammar.{Space, space_byte, space_text, Value, value_text, depth}
use Rattle.json_span.specs.Members.{IsObject, IsObjectValue, IsNoObject, AreMembers, HasOnlyMembers, IsDeeper, Spells, members_of, NoObjectInFront}
use Rattle.json_span.specs.Machine.{run, initial, read_whole, IsDone}
use Rattle.json_span.specs.declared.Member.{Member}
use Rattle.json_span.specs.declared.phase.Frame.TheVariants as frame
use Rattle.json_span.specs.declared.phase.Phase.TheVariants as phase
use Rattle.json_span.specs.declared.machine.Machine.{Machine}
use Rattle.json_span.proofs.Spelling.{blanks, value_then, text-is}
use Rattle.json_span.proofs.Steps.{state}
use Rattle.json_span.proofs.Sound.{deepened, object_cut, run-text}
use Rattle.json_span.proofs.Places.{deepened-max, object_cut-members, object_place}
use Rattle.json_span.proofs.Complete.{completes, is_spelled}

-- the text of the grammar, as it computes
pub spelled_then : (text : List ℕ) (before : List Space) (v : Value) (after : List Space) → text ≡ space_text before ++ (value_text v ++ space_text after) → text ≡ blanks before (value_then v (blanks after []))
spelled_then text before v after e = e ∙ sym (append-nil (space_text before ++ (value_text v ++ space_text after))) ∙ sym (text-is before v after [])

pub spelled_text : (text : List ℕ) (before : List Space) (v : Value) (after : List Space) → text ≡ blanks before (value_then v (blanks after [])) → text ≡ space_text before ++ (value_text v ++ space_text after)
spelled_text text before v after e = e ∙ text-is before v after [] ∙ append-nil (space_text before ++ (value_text v ++ space_text after))

-- what the machine has read at the end
pub record HasRead (m : Machine) (deep : ℕ) (members : List Member) : Type 0 where
  pub done : IsDone m.phase
  pub deepest : m.deepest ≡ deep
  pub places : m.cutter.members ≡ members

pub has_read : (before : List Space) (v : Value) (after : List Space) → IsObjectValue v → HasRead (read_whole frame.Object (blanks before (value_then v (blanks after [])))) (depth v) (members_of (length (space_text before)) v)
has_read before v after is =
    let text = blanks before (value_then v (blanks after [])) in
    let size = length text in
    let final = run-text before v after is size 0 (initial frame.Object).cutter [] in
    let end = state phase.Done [] (deepened v 0 0) (object_cut size (initial frame.Object).cutter v (blanks after [])) in
    record {
      done = subst (λ (m : Machine). IsDone m.phase) (sym final) tt;
      deepest = ap (λ (m : Machine). m.deepest) final ∙ deepened-max v 0 0 (omega arith) ∙ zero_max (depth v);
      places = ap (λ (m : Machine). m.cutter.members) final ∙ object_cut-members v is size (length (space_text before)) (initial frame.Object).cutter (blanks after []) (object_place before (value_then v (blanks after [])));
    }
  where
    zero_max : (n : ℕ) → max 0 (0 + n) ≡ n
    zero_max n = omega arith

-- Whatever object the text is, the machine has read it.
pub sound : (text : List ℕ) (deep : ℕ) (members : List Member) → IsObject text deep members → HasRead (read_whole frame.Object text) deep members
sound text deep members o =
    let s = o.spells in
    let e = spelled_then text o.before o.value o.after s.spelled in
    let h = has_read o.before o.value o.after s.object in
    let same : read_whole frame.Object text ≡ read_whole frame.Object (blanks o.before (value_then o.value (blanks o.after []))) = ap (λ (t : List ℕ). read_whole frame.Object t) e in
    record {
      done = subst (λ (m : Machine). IsDone m.phase) (sym same) h.done;
      deepest = ap (λ (m : Machine). m.deepest) same ∙ h.deepest ∙ sym o.deepest;
      places = ap (λ (m : Machine). m.cutter.members) same ∙ h.places ∙ sym o.places;
    }

-- A text in UTF-8 that the machine has read is an object.
pub complete : (text : List ℕ) → IsUtf8 text → IsDone (read_whole frame.Object text).phase → IsObject text (read_whole frame.Object text).deepest (read_whole frame.Object text).cutter.members
complete text u done =
    let o = is_spelled text (length text) done in
    let e = o.more in
    let spelled = spelled_text text o.spaces o.value e.spaces (o.spelled ∙ ap (λ (r : List ℕ). blanks o.spaces (value_then o.value r)) e.spelled) in
    let spells : Spells text o.spaces o.value e.spaces = record { utf8 = u; object = o.is; spelled = spelled } in
    let object : IsObject text (depth o.value) (members_of (length (space_text o.spaces)) o.value) = record { before = o.spaces; value = o.value; after = e.spaces; spells = spells; deepest = refl; places = refl } in
    let s = sound text (depth o.value) (members_of (length (space_text o.spaces)) o.value) object in
    record { before = o.spaces; value = o.value; after = e.spaces; spells = spells; deepest = s.deepest; places = s.places }

module _ (text : List ℕ) (m : Machine) (is : m ≡ read_whole frame.Object text) where
  pub read_object : IsUtf8 text → IsDone m.phase → IsObject text m.deepest m.cutter.members
  read_object u done = subst (λ (n : Machine). IsObject text n.deepest n.cutter.members) (sym is) (complete text u (subst (λ (n : Machine). IsDone n.phase) is done))

  read_by : (deep : ℕ) (members : List Member) → IsObject text deep members → HasRead m deep members
  read_by deep members o = subst (λ (n : Machine). HasRead n deep members) (sym is) (sound text deep members o)

  pub finds : IsUtf8 text → IsDone m.phase → (limit : ℕ) → m.deepest ≤ limit → AreMembers limit text m.cutter.members
  finds u done limit h = record { deep = m.deepest; within = h; object = read_object u done }

  pub finds_only : (limit : ℕ) → m.deepest ≤ limit → HasOnlyMembers limit text m.cutter.members
  finds_only limit h deep others o = let r = read_by deep others o in (subst (λ (n : ℕ). n ≤ limit) r.deepest h, sym r.places)

  pub finds_none : (IsDone m.phase → ⊥) → IsNoObject text
  finds_none h deep members o = h (read_by deep members o).done

  pub finds_deeper : IsUtf8 text → IsDone m.phase → (limit : ℕ) → limit < m.deepest → IsDeeper limit text
  finds_deeper u done limit h = record {
    deep = m.deepest;
    members = m.cutter.members;
    object = read_object u done;
    deeper = λ other_deep others o. subst (λ (n : ℕ). limit < n) (read_by other_deep others o).deepest h;
  }

-- the last byte of white space is white
pub last_space : (ss : List Space) (rest : List ℕ) (last : ℕ) → rest ++ last ∷ [] ≡ blanks ss [] → (s : Space) × (last ≡ space_byte s)
last_space [] [] last e = cc
last_space [] (b ∷ rest) last e = cc
last_space (s ∷ ss) [] last e = (s, cc)
last_space (s ∷ ss) (b ∷ rest) last e = last_space ss rest last cc

-- No text in front of the end of an object is an object.
pub none_in_front : NoObjectInFront
none_in_front text rest last whole h front =
    let o = front.object in
    let w = whole.object in
    let size = length (text ++ (rest ++ last ∷ [])) in
    let done : IsDone (read_whole frame.Object (text ++ (rest ++ last ∷ []))).phase = (sound (text ++ (rest ++ last ∷ [])) whole.deep whole.members w).done in
    let split : text ++ (rest ++ last ∷ []) ≡ blanks o.before (value_then o.value (blanks o.after (rest ++ last ∷ []))) =
    ap (λ (t : List ℕ). t ++ (rest ++ last ∷ [])) o.spells.spelled ∙ sym (text-is o.before o.value o.after (rest ++ last ∷ [])) in
    let end = state phase.Done [] (deepened o.value 0 0) (object_cut size (initial frame.Object).cutter o.value (blanks o.after (rest ++ last ∷ []))) in
    let same : read_whole frame.Object (text ++ (rest ++ last ∷ [])) ≡ run size end (rest ++ last ∷ []) =
    ap (λ (t : List ℕ). run size (initial frame.Object) t) split ∙ run-text o.before o.value o.after o.spells.object size 0 (initial frame.Object).cutter (rest ++ last ∷ []) in
    let white = completes (rest ++ last ∷ []) size end (subst (λ (m : Machine). IsDone m.phase) same done) in
    let space = last_space white.spaces rest last white.spelled in
    h space.0 space.1
