-- What the reader of an object and of an array in it keeps: the machine over an array that was read alone, and its elements.
use Rattle.std.proofs.Common.{◌≡◌, ℕ, zero, suc, ◌+◌, ◌-◌, ◌<◌, ◌≤◌, ◌⊎◌, inl, inr, max, List, [], ◌∷◌, ◌++◌, length, get_or, take, drop, refl, sym, ap, subst, ◌∙◌, arith, append_assoc, length-drop, Option, None, Some, Result, Ok, Err}
use Rattle.std.specs.Prelude.{All, IfOk, OnOk}
use Rattle.std.specs.List.{slice_get}
use Rattle.std.proofs.lemmas.List.{length-take-le, get_or-drop}
use Rattle.std.proofs.lemmas.Option.{slice_get_within}
use Rattle.json_span.specs.Grammar as json
use Rattle.json_span.specs.Grammar.{Space, space_byte, Value, value_text, depth}
use Rattle.json_span.specs.Members.{IsMemberOf, text_at}
use Rattle.json_span.specs.Elements.{IsArrayValue}
use Rattle.json_span.specs.Machine.{value_begun, ending, value_ended, over, between, read_to, read_whole, initial, run, IsDone, IsTaken}
use Rattle.json_span.specs.Reading.{passed}
use Rattle.json_span.specs.Lists.{IsArrayCutInto, IsListRead, IsListReadAlone}
use Rattle.json_span.specs.declared.Span.{Span}
use Rattle.json_span.specs.declared.Member.{Member}
use Rattle.json_span.specs.declared.phase.Frame.{Frame}
use Rattle.json_span.specs.declared.phase.Frame.TheVariants as frame
use Rattle.json_span.specs.declared.phase.Phase.TheVariants as phase
use Rattle.json_span.specs.declared.machine.Machine.{Machine}
use Rattle.json_span.proofs.Spelling.{blanks, value_then, value_then-is}
use Rattle.json_span.proofs.Steps.{state}
use Rattle.json_span.proofs.Sound.{deepened, items_deepened, value_cut, run-brackets}
use Rattle.json_span.proofs.Places.{deepened-max}
use Rattle.json_span.proofs.Complete.{is_spelled_array}
use Rattle.json_span.proofs.Run.{over-run}
use Rattle.json_span.proofs.ArrayTheorems.{finds_array, finds_only_array, read_array, has_read}
use Rattle.json_span.proofs.ArrayParts.{are_elements}
use Rattle.json_span.proofs.Reading.{Extends, read_to_extends, get_before, get_at, ends_in, blanks_end, value_between}

-- an array opens a level of its own
brackets_deepened : (v : Value) → IsArrayValue v → (level d : ℕ) → deepened v level d ≡ max d (level + depth v)
brackets_deepened (json.empty_array ss) is level d = omega arith
brackets_deepened (json.array before v after items) is level d =
    let w = json.array before v after items in
    let e : max d (suc level) ≡ max (max d level) (suc level) = omega arith in
    ap (λ (n : ℕ). items_deepened items (suc level) (deepened v (suc level) n)) e
    ∙ deepened-max w level (max d level) (omega arith)
    ∙ drop_level level d (depth w) (omega arith)
  where
    drop_level : (level d n : ℕ) → 0 < n → max (max d level) (level + n) ≡ max d (level + n)
    drop_level level d n h = omega arith
brackets_deepened _ is level d = absurd is

-- A text that is an array and no more.
record IsBrackets (bytes : List ℕ) (n : Machine) : Type 0 where
  pub value : Value
  pub is : IsArrayValue value
  pub spelled : bytes ≡ value_then value []
  pub deep : n.deepest ≡ depth value

space_not : (s : Space) (b : ℕ) → (b ≡ 91) ⊎ (b ≡ 93) → b ≡ space_byte s → ⊥
space_not json.blank b (inl e) f = omega arith
space_not json.blank b (inr e) f = omega arith
space_not json.tab b (inl e) f = omega arith
space_not json.tab b (inr e) f = omega arith
space_not json.newline b (inl e) f = omega arith
space_not json.newline b (inr e) f = omega arith
space_not json.carriage_return b (inl e) f = omega arith
space_not json.carriage_return b (inr e) f = omega arith

no_blanks_behind : (v : Value) (ss : List Space) (bytes : List ℕ) → bytes ≡ value_then v (blanks ss []) → get_or bytes (length bytes - 1) 0 ≡ 93 → bytes ≡ value_then v []
no_blanks_behind v [] bytes e last = e
no_blanks_behind v (s ∷ ss) bytes e last =
    let b = blanks_end s ss in
    let split : bytes ≡ (value_text v ++ b.0) ++ space_byte b.1 ∷ [] = e ∙ value_then-is v (blanks (s ∷ ss) []) ∙ ap (λ (l : List ℕ). value_text v ++ l) b.2 ∙ sym (append_assoc (value_text v) b.0 (space_byte b.1 ∷ [])) in
    let white : get_or bytes (length bytes - 1) 0 ≡ space_byte b.1 = ap (λ (l : List ℕ). get_or l (length l - 1) 0) split ∙ ends_in (value_text v ++ b.0) (space_byte b.1) in
    absurd (space_not b.1 (get_or bytes (length bytes - 1) 0) (inr last) white)

no_blanks_before : (ss : List Space) (rest bytes : List ℕ) → bytes ≡ blanks ss rest → get_or bytes 0 0 ≡ 91 → bytes ≡ rest
no_blanks_before [] rest bytes e first = e
no_blanks_before (s ∷ ss) rest bytes e first = absurd (space_not s (get_or bytes 0 0) (inl first) (ap (λ (l : List ℕ). get_or l 0 0) e))

brackets : (bytes : List ℕ) (n : Machine) → n ≡ read_whole frame.Array bytes → IsDone n.phase → get_or bytes 0 0 ≡ 91 → get_or bytes (length bytes - 1) 0 ≡ 93 → IsBrackets bytes n
brackets bytes n is done first last =
    let o = is_spelled_array bytes (length bytes) (subst (λ (m : Machine). IsDone m.phase) is done) in
    let e = o.more in
    let full : bytes ≡ blanks o.spaces (value_then o.value (blanks e.spaces [])) = o.spelled ∙ ap (λ (r : List ℕ). blanks o.spaces (value_then o.value r)) e.spelled in
    let spelled = no_blanks_behind o.value e.spaces bytes (no_blanks_before o.spaces (value_then o.value (blanks e.spaces [])) bytes full first) last in
    let read = has_read [] o.value [] o.is in
    record { value = o.value; is = o.is; spelled = spelled; deep = ap (λ (m : Machine). m.deepest) is ∙ ap (λ (l : List ℕ). (read_whole frame.Array l).deepest) spelled ∙ read.deepest }

-- the outer machine over the array
passes : (m n : Machine) (at : ℕ) (bytes : List ℕ) → m.phase ≡ phase.Value → m.frames ≡ frame.Object ∷ [] → IsBrackets bytes n → over at m bytes ≡ passed m at (at + length bytes) n.deepest
passes m n at bytes p k b =
    let size = at + length bytes in
    let v = b.value in
    let d = m.deepest in
    let c = m.cutter in
    let f = frame.Object in
    let same : m ≡ state phase.Value (f ∷ []) d c = ap (λ t. state t m.frames d c) p ∙ ap (λ (l : List Frame). state phase.Value l d c) k in
    let begin : size - length (value_then v []) ≡ at = omega (arith, ap (λ (l : List ℕ). length l) b.spelled) in
    let deep : deepened v (length (f ∷ [])) d ≡ max d (suc n.deepest) = brackets_deepened v b.is (length (f ∷ [])) d ∙ level d (depth v) n.deepest b.deep in
    over-run size bytes m at refl
    ∙ ap (λ (s : Machine). run size s bytes) same
    ∙ ap (λ (l : List ℕ). run size (state phase.Value (f ∷ []) d c) l) b.spelled
    ∙ run-brackets v b.is size f [] d c []
    ∙ ap (λ (i : ℕ). state phase.After (f ∷ []) i (value_cut size (f ∷ []) c (value_then v []) [])) deep
    ∙ ap (λ (i : ℕ). state phase.After (f ∷ []) (max d (suc n.deepest)) (value_ended (f ∷ []) (value_begun (f ∷ []) c i) (size - 0))) begin
    ∙ ap (λ (i : ℕ). state phase.After (f ∷ []) (max d (suc n.deepest)) (value_ended (f ∷ []) (value_begun (f ∷ []) c at) i)) (whole size)
    ∙ ap (λ (l : List Frame). state phase.After l (max d (suc n.deepest)) (value_ended l (value_begun l c at) size)) (sym k)
  where
    level : (d v n : ℕ) → n ≡ v → max d (1 + v) ≡ max d (suc n)
    level d v n e = omega arith

    whole : (n : ℕ) → n - 0 ≡ n
    whole n = omega arith

-- the bytes that the inner machine has read
front_read : (value : List ℕ) (n : Machine) (size : ℕ) → n ≡ read_to value (initial frame.Array) 0 size → size ≤ length value → n ≡ read_whole frame.Array (take size value)
unfolding read_to
front_read value n size is h =
    let e : size - 0 ≡ size = omega arith in
    is
    ∙ ap (λ (i : ℕ). over 0 (initial frame.Array) (take i value)) e
    ∙ over-run (length (take size value)) (take size value) (initial frame.Array) 0 (omega arith)

first_of : (text : List ℕ) (at size : ℕ) → get_or (take size (drop at text)) (length (take size (drop at text)) - 1) 0 ≡ 93 → get_or (take size (drop at text)) 0 0 ≡ get_or text at 0
first_of text at size last = by_rest size (drop at text) last (get_or-drop at text 0 0 ∙ ap (λ (i : ℕ). get_or text i 0) (none_more_place at))
  where
    none_more_place : (n : ℕ) → n + 0 ≡ n
    none_more_place n = omega arith

    by_rest : (size : ℕ) (rest : List ℕ) → get_or (take size rest) (length (take size rest) - 1) 0 ≡ 93 → get_or rest 0 0 ≡ get_or text at 0 → get_or (take size rest) 0 0 ≡ get_or text at 0
    by_rest zero rest last e = absurd (omega (arith, last))
    by_rest (suc n) [] last e = absurd (omega (arith, last))
    by_rest (suc n) (x ∷ xs) last e = e

-- An array that the inner machine has read, to its last bracket: the outer machine passes over it, and it is read alone.
pub record IsArrayRead (text : List ℕ) (m n : Machine) (at size : ℕ) : Type 0 where
  pub outside : over at m (between text at (at + size)) ≡ passed m at (at + size) n.deepest
  pub alone : IsListReadAlone (between text at (at + size)) n.cutter.elements

array_read : (text : List ℕ) (m n : Machine) (at size : ℕ) → get_or text at 0 ≡ 91 → m.phase ≡ phase.Value → m.frames ≡ frame.Object ∷ [] → n ≡ read_to (drop at text) (initial frame.Array) 0 size → size ≤ length (drop at text)
    → IsDone n.phase → n.deepest ≤ 127 → get_or (take size (drop at text)) (length (take size (drop at text)) - 1) 0 ≡ 93 → IsArrayRead text m n at size
array_read text m n at size first p k is low done shallow last =
    let bytes = take size (drop at text) in
    let whole = front_read (drop at text) n size is low in
    let same = value_between text at size in
    let long : length bytes ≡ size = length-take-le size (drop at text) low in
    let b = brackets bytes n whole done (first_of text at size last ∙ first) last in
    record {
      outside = ap (λ (l : List ℕ). over at m l) same ∙ passes m n at bytes p k b ∙ ap (λ (i : ℕ). passed m at (at + i) n.deepest) long;
      alone = subst (λ (l : List ℕ). IsListReadAlone l n.cutter.elements) (sym same)
          (record { done = subst (λ (s : Machine). IsDone s.phase) whole done; shallow = subst (λ (s : Machine). s.deepest ≤ 127) whole shallow; cut = ap (λ (s : Machine). s.cutter.elements) whole });
    }

-- where the value is the rest of the text
pub rest_read : (text value : List ℕ) (m n : Machine) (at size : ℕ) → value ≡ take (length text - at) (drop at text) → get_or text at 0 ≡ 91 → m.phase ≡ phase.Value → m.frames ≡ frame.Object ∷ [] → n ≡ read_to value (initial frame.Array) 0 size → size ≤ length value
    → IsDone n.phase → n.deepest ≤ 127 → get_or (take size value) (length (take size value) - 1) 0 ≡ 93 → IsArrayRead text m n at size
rest_read text value m n at size e first p k is low done shallow last =
    let rest : value ≡ drop at text = e ∙ ap (λ (i : ℕ). take i (drop at text)) (sym (length-drop at text)) ∙ take-all (drop at text) in
    array_read text m n at size first p k
    (subst (λ (l : List ℕ). n ≡ read_to l (initial frame.Array) 0 size) rest is)
    (subst (λ (l : List ℕ). size ≤ length l) rest low) done shallow
    (subst (λ (l : List ℕ). get_or (take size l) (length (take size l) - 1) 0 ≡ 93) rest last)
  where
    take-all : (xs : List ℕ) → take (length xs) xs ≡ xs
    take-all [] = refl
    take-all (x ∷ xs) = ap (λ (l : List ℕ). x ∷ l) (take-all xs)

-- what was read alone is so still, whatever is cut behind it
list_extends : (text : List ℕ) (outer later : List Member) (listed : Option ℕ) (spans : List Span) → IsListRead text outer listed spans → Extends outer later → IsListRead text later listed spans
list_extends text outer later None spans r e = tt
list_extends text outer later (Some index) spans r e = (r.0, ap (λ (l : List Member). slice_get l index) e.is ∙ get_before outer e.more index (slice_get_within outer index r.0 r.1) ∙ r.1, r.2)

-- a token that the outer machine reads
pub tail_list : {E : Type 0} (r : Result ℕ E) (text : List ℕ) (m after : Machine) (at : ℕ) (listed : Option ℕ) (spans : List Span) → IfOk r (λ to. IsTaken text m at after to) → IsListRead text m.cutter.members listed spans → OnOk r (IsListRead text after.cutter.members listed spans)
tail_list (Ok to) text m after at listed spans t r =
    list_extends text m.cutter.members after.cutter.members listed spans r
    (subst (λ (n : Machine). Extends m.cutter.members n.cutter.members) (sym t.made) (read_to_extends text m at to))
tail_list (Err e) text m after at listed spans t r = tt

pub none_listed : {E : Type 0} (r : Result ℕ E) (text : List ℕ) (members : List Member) (listed : Option ℕ) (spans : List Span) → listed ≡ None → OnOk r (IsListRead text members listed spans)
none_listed (Ok to) text members listed spans e = subst (λ (o : Option ℕ). IsListRead text members o spans) (sym e) tt
none_listed (Err f) text members listed spans e = tt

pub none_yet : (text : List ℕ) (members : List Member) (listed : Option ℕ) (spans : List Span) → listed ≡ None → IsListRead text members listed spans
none_yet text members listed spans e = subst (λ (o : Option ℕ). IsListRead text members o spans) (sym e) tt

-- the array that was read alone is the last value so far
pub keeps_list : (text : List ℕ) (m : Machine) (at to deep : ℕ) (spans : List Span) → m.frames ≡ frame.Object ∷ [] → IsListReadAlone (between text at to) spans → IsListRead text (passed m at to deep).cutter.members (Some (length m.cutter.members)) spans
keeps_list text m at to deep spans k alone =
    let outer = m.cutter.members in
    let one = ending (value_begun (frame.Object ∷ []) m.cutter at) to in
    let now : (passed m at to deep).cutter.members ≡ outer ++ one ∷ [] = ap (λ (l : List Frame). (value_ended l (value_begun l m.cutter at) to).members) k in
    subst (λ (l : List Member). IsListRead text l (Some (length outer)) spans) (sym now) (one, get_at outer one, alone)

-- What was read alone is cut as a text of its own.
pub read_cut : (text : List ℕ) (members : List Member) (index : ℕ) (spans : List Span) → All (IsMemberOf text) members → (r : IsListRead text members (Some index) spans) → IsArrayCutInto 127 (text_at text r.0.value) spans
read_cut text members index spans parts r =
    let value = text_at text r.0.value in
    let m = read_whole frame.Array value in
    let part = subst (λ (n : Member). IsMemberOf text n) (get_is members index r.0 r.0 r.1) (parts index r.0 (slice_get_within members index r.0 r.1)) in
    let utf8 = part.value.utf8 in
    let a = r.2 in
    subst (λ (l : List Span). IsArrayCutInto 127 value l) (sym a.cut)
    (record {
      found = finds_array value m refl utf8 a.done 127 a.shallow;
      only = finds_only_array value m refl 127 a.shallow;
      parts = are_elements value m.deepest m.cutter.elements (read_array value m refl utf8 a.done);
    })
  where
    get_is : (xs : List Member) (k : ℕ) (m d : Member) → slice_get xs k ≡ Some m → get_or xs k d ≡ m
    get_is [] k m d e = absurd (cc e)
    get_is (x ∷ xs) zero m d e = cc
    get_is (x ∷ xs) (suc k) m d e = get_is xs k m d e
