-- What the reader of both levels keeps: the machine over a value that was read alone, and the members of such values.
use Rattle.std.proofs.Common.{◌≡◌, ◌≢◌, ℕ, zero, suc, ◌+◌, ◌-◌, ◌<◌, ◌≤◌, ◌⊎◌, inl, inr, max, Bool, true, false, cond, List, [], ◌∷◌, ◌++◌, length, get_or, take, drop, refl, sym, ap, subst, ◌∙◌, arith, append-nil, append_assoc, length-append, length-drop, Option, None, Some, Result, Ok, Err}
use Rattle.std.specs.Prelude.{IfOk, OnOk}
use Rattle.std.specs.List.{slice_get}
use Rattle.std.specs.Option.{is_some}
use Rattle.std.proofs.lemmas.List.{length-take-le, get_or-drop}
use Rattle.std.proofs.lemmas.Option.{slice_get_within}
use Rattle.json_span.specs.Grammar as json
use Rattle.json_span.specs.Grammar.{Space, space_byte, space_text, Value, value_text, depth}
use Rattle.json_span.specs.Members.{IsObjectValue, IsSomeObject, IsValue, IsDeeper, text_at}
use Rattle.json_span.specs.Machine.{key_begun, key_ended, value_begun, ending, value_ended, broken, shut, outer, is_innermost, made, moved, stepped, over, between, read_to, read_whole, initial, run, IsDone, IsSkipped, IsTaken}
use Rattle.json_span.specs.Table.{class_of, move_of, after_move}
use Rattle.json_span.specs.Levels.{IsInside, AreInside}
use Rattle.json_span.specs.Reading.{passed, IsReadAlone, AreReadInside, IsPadded}
use Rattle.json_span.specs.declared.Member.{Member}
use Rattle.json_span.specs.declared.phase.Frame.{Frame}
use Rattle.json_span.specs.declared.phase.Frame.TheVariants as frame
use Rattle.json_span.specs.declared.phase.Phase.TheVariants as phase
use Rattle.json_span.specs.declared.table.Move.{Move}
use Rattle.json_span.specs.declared.table.Move.TheVariants as moves
use Rattle.json_span.specs.declared.cutter.Cutter.{Cutter}
use Rattle.json_span.specs.declared.machine.Machine.{Machine}
use Rattle.json_span.specs.declared.phase.Run.TheVariants as runs
use Rattle.json_span.proofs.Spelling.{blanks, value_then, value_then-is}
use Rattle.json_span.proofs.Steps.{state}
use Rattle.json_span.proofs.Sound.{deepened, value_cut, run-braces}
use Rattle.json_span.proofs.Places.{braces_deepened}
use Rattle.json_span.proofs.Complete.{is_spelled}
use Rattle.json_span.proofs.Run.{over-append, over-run, between-join, length-between}
use Rattle.json_span.proofs.Inside.{each_more}
use Rattle.json_span.proofs.Theorems.{finds, finds_only, finds_deeper, read_object, has_read}
use Rattle.json_span.proofs.Parts.{are_parts}

-- nothing but None behind the others
pub none_more : (xs : List (Option (List Member))) (k : ℕ) (members : List Member) → slice_get (xs ++ None ∷ []) k ≡ Some (Some members) → slice_get xs k ≡ Some (Some members)
none_more [] zero members e = absurd (cc)
none_more [] (suc k) members e = absurd (cc)
none_more (x ∷ xs) zero members e = e
none_more (x ∷ xs) (suc k) members e = none_more xs k members e

-- Members that were read alone are those of the value.
pub alone_inside : (value : List ℕ) → IsValue value → (IsDeeper 127 value → ⊥) → (members : List Member) → IsReadAlone value members → IsInside 127 value (Some members)
alone_inside value h shallow members a =
    let m = read_whole frame.Object value in
    let low : m.deepest ≤ 127 = within (m.deepest) (λ (high : 127 < m.deepest). shallow (finds_deeper value m refl h.utf8 a.done 127 high)) in
    subst (λ (l : List Member). IsInside 127 value (Some l)) (sym a.cut)
    (record {
      found = finds value m refl h.utf8 a.done 127 low;
      only = finds_only value m refl 127 low;
      parts = are_parts value m.deepest m.cutter.members (read_object value m refl h.utf8 a.done);
    })
  where
    within : (n : ℕ) → (127 < n → ⊥) → n ≤ 127
    within n low = omega (arith, low)

-- what completes one value
pub some_inside : (value : List ℕ) → IsValue value → (IsDeeper 127 value → ⊥) → (found : Option (List Member)) → is_some found ≡ true → ((members : List Member) → found ≡ Some members → IsReadAlone value members) → IsInside 127 value found
some_inside value h shallow None some alone = absurd (cc some)
some_inside value h shallow (Some members) some alone = alone_inside value h shallow members (alone members refl)

pub no_inside : (value : List ℕ) (found : Option (List Member)) → is_some found ≡ false → (IsSomeObject value → ⊥) → IsInside 127 value found
no_inside value None none other = other
no_inside value (Some members) none other = absurd (cc none)

pub set_same : (xs : List (Option (List Member))) (index : ℕ) (x : Option (List Member)) (found : Option (List Member)) → index < length xs → slice_get (lib.ListN.set xs index x) index ≡ Some found → x ≡ found
set_same [] index x found h e = absurd (omega arith)
set_same (y ∷ ys) zero x found h e = cc
set_same (y ∷ ys) (suc index) x found h e = set_same ys index x found (omega arith) e

pub set_other : (xs : List (Option (List Member))) (index : ℕ) (x : Option (List Member)) (k : ℕ) → k ≢ index → slice_get (lib.ListN.set xs index x) k ≡ slice_get xs k
set_other [] index x k ne = refl
set_other (y ∷ ys) zero x zero ne = absurd (ne refl)
set_other (y ∷ ys) zero x (suc k) ne = refl
set_other (y ∷ ys) (suc index) x zero ne = refl
set_other (y ∷ ys) (suc index) x (suc k) ne = set_other ys index x k (λ e. ne (ap suc e))

-- what has been completed up to an index
pub record IsComplete (text : List ℕ) (outer : List Member) (inner : List (Option (List Member))) (index : ℕ) : Type 0 where
  pub as_many : length inner ≡ length outer
  pub complete : (k : ℕ) (m : Member) → k < index → slice_get outer k ≡ Some m → (found : Option (List Member)) → slice_get inner k ≡ Some found → IsInside 127 (text_at text m.value) found
  pub alone : (k : ℕ) (m : Member) → index ≤ k → slice_get outer k ≡ Some m → (members : List Member) → slice_get inner k ≡ Some (Some members) → IsReadAlone (text_at text m.value) members

pub begins_complete : (text : List ℕ) (outer : List Member) (old new : List (Option (List Member))) → AreReadInside text outer old → IsPadded (length outer) old new → IsComplete text outer new 0
begins_complete text outer old new r p =
    let few = r.as_few in
    let size = p.size in
    record {
      as_many = omega arith;
      complete = λ k m low. absurd (omega arith);
      alone = λ k m low at members e. r.each k m at members (p.same k members e);
    }

pub more_complete : (text : List ℕ) (outer : List Member) (old new : List (Option (List Member))) (index : ℕ) (m : Member) (value : List ℕ) → IsComplete text outer old index → slice_get outer index ≡ Some m → value ≡ text_at text m.value
    → ((found : Option (List Member)) → slice_get new index ≡ Some found → IsInside 127 value found)
    → ((k : ℕ) → k ≢ index → slice_get new k ≡ slice_get old k) → length new ≡ length old → IsComplete text outer new (index + 1)
more_complete text outer old new index m value c at is inside others size = record {
  as_many = size ∙ c.as_many;
  complete = λ k n low there found e. by_order k n low there found e (same_or k index);
  alone = λ k n low there members e. c.alone k n (omega arith) there members (sym (others k (λ (q : k ≡ index). omega arith)) ∙ e);
}
  where
    same_or : (k index : ℕ) → (k ≡ index) ⊎ (k ≢ index)
    same_or zero zero = inl refl
    same_or zero (suc i) = inr (λ e. omega arith)
    same_or (suc k) zero = inr (λ e. omega arith)
    same_or (suc k) (suc i) = elim (same_or k i) [ inl e ↦ inl (ap suc e) | inr n ↦ inr (λ (e : suc k ≡ suc i). n (omega arith)) ]

    by_order : (k : ℕ) (n : Member) → k < index + 1 → slice_get outer k ≡ Some n → (found : Option (List Member)) → slice_get new k ≡ Some found → (k ≡ index) ⊎ (k ≢ index) → IsInside 127 (text_at text n.value) found
    by_order k n low there found e (inl q) =
        let here : slice_get outer index ≡ Some n = ap (λ (i : ℕ). slice_get outer i) (sym q) ∙ there in
        let one : m ≡ n = cc (at, here) in
        subst (λ (v : Member). IsInside 127 (text_at text v.value) found) one (subst (λ (t : List ℕ). IsInside 127 t found) is (inside found (ap (λ (i : ℕ). slice_get new i) (sym q) ∙ e)))
    by_order k n low there found e (inr ne) =
        let less : k < index = below k index low ne in
        c.complete k n less there found (sym (others k ne) ∙ e)
      where
        below : (k index : ℕ) → k < index + 1 → k ≢ index → k < index
        below k index low ne = omega (arith, ne)

pub all_complete : (text : List ℕ) (outer : List Member) (inner : List (Option (List Member))) (index : ℕ) → length outer ≤ index → IsComplete text outer inner index → AreInside 127 text outer inner
all_complete text outer inner index h c = record {
  as_many = c.as_many;
  each = λ k m at found e. c.complete k m (let low : k < length outer = slice_get_within outer k m at in omega arith) at found e;
}

-- The members that are cut stay in front of those that are cut later.
pub record Extends (before after : List Member) : Type 0 where
  pub more : List Member
  pub is : after ≡ before ++ more

extends_none : (xs ys : List Member) → ys ≡ xs → Extends xs ys
extends_none xs ys e = record { more = []; is = e ∙ sym (append-nil xs) }

extends_on : (xs ys zs : List Member) → Extends xs ys → Extends ys zs → Extends xs zs
extends_on xs ys zs e f = record { more = e.more ++ f.more; is = f.is ∙ ap (λ (l : List Member). l ++ f.more) e.is ∙ append_assoc xs e.more f.more }

key_begun_extends : (k : List Frame) (c : Cutter) (p : ℕ) → Extends c.members (key_begun k c p).members
key_begun_extends [] c p = extends_none c.members c.members refl
key_begun_extends (f ∷ []) c p = extends_none c.members c.members refl
key_begun_extends (f ∷ g ∷ k) c p = extends_none c.members c.members refl

key_ended_extends : (k : List Frame) (c : Cutter) (p : ℕ) → Extends c.members (key_ended k c p).members
key_ended_extends [] c p = extends_none c.members c.members refl
key_ended_extends (f ∷ []) c p = extends_none c.members c.members refl
key_ended_extends (f ∷ g ∷ k) c p = extends_none c.members c.members refl

value_begun_extends : (k : List Frame) (c : Cutter) (p : ℕ) → Extends c.members (value_begun k c p).members
value_begun_extends [] c p = extends_none c.members c.members refl
value_begun_extends (f ∷ []) c p = extends_none c.members c.members refl
value_begun_extends (f ∷ g ∷ k) c p = extends_none c.members c.members refl

value_ended_extends : (k : List Frame) (c : Cutter) (p : ℕ) → Extends c.members (value_ended k c p).members
value_ended_extends [] c p = extends_none c.members c.members refl
value_ended_extends (frame.Array ∷ []) c p = extends_none c.members c.members refl
value_ended_extends (frame.Object ∷ []) c p = record { more = ending c p ∷ []; is = refl }
value_ended_extends (f ∷ g ∷ k) c p = extends_none c.members c.members refl

closed_extends : (t : Bool) (m : Machine) (k : List Frame) (behind : ℕ) → Extends m.cutter.members (cond t (shut m k behind) (broken m)).cutter.members
closed_extends true m k behind = value_ended_extends k m.cutter behind
closed_extends false m k behind = extends_none m.cutter.members m.cutter.members refl

made_extends : (mv : Move) (m : Machine) (here behind : ℕ) → Extends m.cutter.members (made mv m here behind).cutter.members
made_extends (moves.Go p) m here behind = extends_none m.cutter.members m.cutter.members refl
made_extends moves.BeginKey m here behind = key_begun_extends m.frames m.cutter here
made_extends moves.EndKey m here behind = key_ended_extends m.frames m.cutter behind
made_extends (moves.Begin p) m here behind = value_begun_extends m.frames m.cutter here
made_extends moves.End m here behind = value_ended_extends m.frames m.cutter behind
made_extends moves.EndNumber m here behind = extends_none m.cutter.members m.cutter.members refl
made_extends (moves.Open f) m here behind = value_begun_extends m.frames m.cutter here
made_extends (moves.Close f) m here behind = closed_extends (is_innermost f m.frames) m (outer m.frames) behind
made_extends moves.Comma m here behind = extends_none m.cutter.members m.cutter.members refl

moved_extends : (mv : Move) (m : Machine) (b here behind : ℕ) → Extends m.cutter.members (moved mv m b here behind).cutter.members
moved_extends moves.EndNumber m b here behind =
    let ended = record m { cutter = value_ended m.frames m.cutter here } in
    extends_on m.cutter.members ended.cutter.members (made (after_move (class_of b)) ended here behind).cutter.members (value_ended_extends m.frames m.cutter here) (made_extends (after_move (class_of b)) ended here behind)
moved_extends (moves.Go p) m b here behind = made_extends (moves.Go p) m here behind
moved_extends moves.BeginKey m b here behind = made_extends moves.BeginKey m here behind
moved_extends moves.EndKey m b here behind = made_extends moves.EndKey m here behind
moved_extends (moves.Begin p) m b here behind = made_extends (moves.Begin p) m here behind
moved_extends moves.End m b here behind = made_extends moves.End m here behind
moved_extends (moves.Open f) m b here behind = made_extends (moves.Open f) m here behind
moved_extends (moves.Close f) m b here behind = made_extends (moves.Close f) m here behind
moved_extends moves.Comma m b here behind = made_extends moves.Comma m here behind

over_extends : (bs : List ℕ) (at : ℕ) (m : Machine) → Extends m.cutter.members (over at m bs).cutter.members
over_extends [] at m = extends_none m.cutter.members m.cutter.members refl
over_extends (b ∷ bs) at m =
    extends_on m.cutter.members (stepped m b at (at + 1)).cutter.members (over at m (b ∷ bs)).cutter.members
    (moved_extends (move_of m.phase b) m b at (at + 1)) (over_extends bs (at + 1) (stepped m b at (at + 1)))

pub read_to_extends : (text : List ℕ) (m : Machine) (from to : ℕ) → Extends m.cutter.members (read_to text m from to).cutter.members
unfolding read_to
read_to_extends text m from to = over_extends (between text from to) from m

pub get_before : (xs more : List Member) (k : ℕ) → k < length xs → slice_get (xs ++ more) k ≡ slice_get xs k
get_before [] more k h = absurd (omega arith)
get_before (x ∷ xs) more zero h = refl
get_before (x ∷ xs) more (suc k) h = get_before xs more k (omega arith)

pub get_at : (xs : List Member) (x : Member) → slice_get (xs ++ x ∷ []) (length xs) ≡ Some x
get_at [] x = refl
get_at (y ∷ ys) x = get_at ys x

-- what was read alone is so still
inside_extends : (text : List ℕ) (outer later : List Member) (inner : List (Option (List Member))) → AreReadInside text outer inner → Extends outer later → AreReadInside text later inner
inside_extends text outer later inner r e =
    let few = r.as_few in
    let long : length later ≡ length outer + length e.more = ap (λ (l : List Member). length l) e.is ∙ length-append outer e.more in
    record {
      as_few = omega arith;
      each = λ k m at members found.
          let low : k < length inner = slice_get_within inner k (Some members) found in
          let below : k < length outer = omega arith in
          r.each k m (sym (get_before outer e.more k below) ∙ ap (λ (l : List Member). slice_get l k) (sym e.is) ∙ at) members found;
    }

pub taken_inside : (text : List ℕ) (m after : Machine) (from to : ℕ) (inner : List (Option (List Member))) → IsTaken text m from after to → AreReadInside text m.cutter.members inner → AreReadInside text after.cutter.members inner
taken_inside text m after from to inner t r =
    inside_extends text m.cutter.members after.cutter.members inner r
    (subst (λ (n : Machine). Extends m.cutter.members n.cutter.members) (sym t.made) (read_to_extends text m from to))

-- A text that is an object and no more.
pub record IsBraces (bytes : List ℕ) (n : Machine) : Type 0 where
  pub value : Value
  pub is : IsObjectValue value
  pub spelled : bytes ≡ value_then value []
  pub deep : n.deepest ≡ depth value

space_not : (s : Space) (b : ℕ) → (b ≡ 123) ⊎ (b ≡ 125) → b ≡ space_byte s → ⊥
space_not json.blank b (inl e) f = omega arith
space_not json.blank b (inr e) f = omega arith
space_not json.tab b (inl e) f = omega arith
space_not json.tab b (inr e) f = omega arith
space_not json.newline b (inl e) f = omega arith
space_not json.newline b (inr e) f = omega arith
space_not json.carriage_return b (inl e) f = omega arith
space_not json.carriage_return b (inr e) f = omega arith

-- the last byte by its place
pub ends_in : (front : List ℕ) (b : ℕ) → get_or (front ++ b ∷ []) (length (front ++ b ∷ []) - 1) 0 ≡ b
ends_in front b =
    let size : length (front ++ b ∷ []) - 1 ≡ length front = omega (arith, length-append front (b ∷ [])) in
    ap (λ (i : ℕ). get_or (front ++ b ∷ []) i 0) size ∙ at front b
  where
    at : (front : List ℕ) (b : ℕ) → get_or (front ++ b ∷ []) (length front) 0 ≡ b
    at [] b = refl
    at (x ∷ xs) b = at xs b

pub blanks_end : (s : Space) (ss : List Space) → (front : List ℕ) × (last : Space) × (blanks (s ∷ ss) [] ≡ front ++ space_byte last ∷ [])
blanks_end s [] = ([], s, refl)
blanks_end s (t ∷ ts) = let e = blanks_end t ts in (space_byte s ∷ e.0, e.1, ap (λ (l : List ℕ). space_byte s ∷ l) e.2)

no_blanks_behind : (v : Value) (ss : List Space) (bytes : List ℕ) → bytes ≡ value_then v (blanks ss []) → get_or bytes (length bytes - 1) 0 ≡ 125 → bytes ≡ value_then v []
no_blanks_behind v [] bytes e last = e
no_blanks_behind v (s ∷ ss) bytes e last =
    let b = blanks_end s ss in
    let split : bytes ≡ (value_text v ++ b.0) ++ space_byte b.1 ∷ [] = e ∙ value_then-is v (blanks (s ∷ ss) []) ∙ ap (λ (l : List ℕ). value_text v ++ l) b.2 ∙ sym (append_assoc (value_text v) b.0 (space_byte b.1 ∷ [])) in
    let white : get_or bytes (length bytes - 1) 0 ≡ space_byte b.1 = ap (λ (l : List ℕ). get_or l (length l - 1) 0) split ∙ ends_in (value_text v ++ b.0) (space_byte b.1) in
    absurd (space_not b.1 (get_or bytes (length bytes - 1) 0) (inr last) white)

no_blanks_before : (ss : List Space) (rest bytes : List ℕ) → bytes ≡ blanks ss rest → get_or bytes 0 0 ≡ 123 → bytes ≡ rest
no_blanks_before [] rest bytes e first = e
no_blanks_before (s ∷ ss) rest bytes e first = absurd (space_not s (get_or bytes 0 0) (inl first) (ap (λ (l : List ℕ). get_or l 0 0) e))

pub braces : (bytes : List ℕ) (n : Machine) → n ≡ read_whole frame.Object bytes → IsDone n.phase → get_or bytes 0 0 ≡ 123 → get_or bytes (length bytes - 1) 0 ≡ 125 → IsBraces bytes n
braces bytes n is done first last =
    let o = is_spelled bytes (length bytes) (subst (λ (m : Machine). IsDone m.phase) is done) in
    let e = o.more in
    let full : bytes ≡ blanks o.spaces (value_then o.value (blanks e.spaces [])) = o.spelled ∙ ap (λ (r : List ℕ). blanks o.spaces (value_then o.value r)) e.spelled in
    let spelled = no_blanks_behind o.value e.spaces bytes (no_blanks_before o.spaces (value_then o.value (blanks e.spaces [])) bytes full first) last in
    let read = has_read [] o.value [] o.is in
    record { value = o.value; is = o.is; spelled = spelled; deep = ap (λ (m : Machine). m.deepest) is ∙ ap (λ (l : List ℕ). (read_whole frame.Object l).deepest) spelled ∙ read.deepest }

-- the outer machine over the object
pub passes : (m n : Machine) (at : ℕ) (bytes : List ℕ) → m.phase ≡ phase.Value → m.frames ≡ frame.Object ∷ [] → IsBraces bytes n → over at m bytes ≡ passed m at (at + length bytes) n.deepest
passes m n at bytes p k b =
    let size = at + length bytes in
    let v = b.value in
    let d = m.deepest in
    let c = m.cutter in
    let f = frame.Object in
    let same : m ≡ state phase.Value (f ∷ []) d c = ap (λ t. state t m.frames d c) p ∙ ap (λ (l : List Frame). state phase.Value l d c) k in
    let begin : size - length (value_then v []) ≡ at = omega (arith, ap (λ (l : List ℕ). length l) b.spelled) in
    let deep : deepened v (length (f ∷ [])) d ≡ max d (suc n.deepest) = braces_deepened v b.is (length (f ∷ [])) d ∙ level d (depth v) n.deepest b.deep in
    over-run size bytes m at refl
    ∙ ap (λ (s : Machine). run size s bytes) same
    ∙ ap (λ (l : List ℕ). run size (state phase.Value (f ∷ []) d c) l) b.spelled
    ∙ run-braces v b.is size f [] d c []
    ∙ ap (λ (i : ℕ). state phase.After (f ∷ []) i (value_cut size (f ∷ []) c (value_then v []) [])) deep
    ∙ ap (λ (i : ℕ). state phase.After (f ∷ []) (max d (suc n.deepest)) (value_ended (f ∷ []) (value_begun (f ∷ []) c i) (size - 0))) begin
    ∙ ap (λ (i : ℕ). state phase.After (f ∷ []) (max d (suc n.deepest)) (value_ended (f ∷ []) (value_begun (f ∷ []) c at) i)) (whole size)
    ∙ ap (λ (l : List Frame). state phase.After l (max d (suc n.deepest)) (value_ended l (value_begun l c at) size)) (sym k)
  where
    level : (d v n : ℕ) → n ≡ v → max d (1 + v) ≡ max d (suc n)
    level d v n e = omega arith

    whole : (n : ℕ) → n - 0 ≡ n
    whole n = omega arith

object_made : (text : List ℕ) (m after : Machine) (at size to : ℕ) (deep : ℕ) → over at m (between text at (at + size)) ≡ passed m at (at + size) deep → after ≡ passed m at (at + size) deep → at + size ≤ to → to ≤ length text
    → IsSkipped runs.Blanks (between text (at + size) to) → after ≡ read_to text m at to
unfolding read_to
object_made text m after at size to deep e is low high skipped =
    let middle = at + size in
    let place : middle ≡ at + length (between text at middle) = omega (arith, length-between text at middle (omega arith)) in
    is
    ∙ sym (skipped middle (passed m at middle deep) refl)
    ∙ ap (λ (s : Machine). over middle s (between text middle to)) (sym e)
    ∙ ap (λ (p : ℕ). over p (over at m (between text at middle)) (between text middle to)) place
    ∙ sym (over-append (between text at middle) (between text middle to) at m)
    ∙ ap (λ (l : List ℕ). over at m l) (sym (between-join text at middle to (omega arith) low))

-- the token that an object is
pub object_taken : (text : List ℕ) (m after : Machine) (at size to : ℕ) (deep : ℕ) → over at m (between text at (at + size)) ≡ passed m at (at + size) deep → after ≡ passed m at (at + size) deep → at + size ≤ to → to ≤ length text
    → IsSkipped runs.Blanks (between text (at + size) to) → IsTaken text m at after to
object_taken text m after at size to deep e is low high skipped = record { ordered = omega arith; inside = high; made = object_made text m after at size to deep e is low high skipped }

-- the bytes that the inner machine has read
pub front_read : (value : List ℕ) (n : Machine) (size : ℕ) → n ≡ read_to value (initial frame.Object) 0 size → size ≤ length value → n ≡ read_whole frame.Object (take size value)
unfolding read_to
front_read value n size is h =
    let e : size - 0 ≡ size = omega arith in
    is
    ∙ ap (λ (i : ℕ). over 0 (initial frame.Object) (take i value)) e
    ∙ over-run (length (take size value)) (take size value) (initial frame.Object) 0 (omega arith)

-- one more value that was read alone
pub one_more_inside : (text : List ℕ) (m : Machine) (at to deep : ℕ) (old padded new : List (Option (List Member))) (members : List Member) → m.frames ≡ frame.Object ∷ [] → AreReadInside text m.cutter.members old → IsPadded (length m.cutter.members) old padded
    → new ≡ padded ++ Some members ∷ [] → IsReadAlone (between text at to) members → AreReadInside text (passed m at to deep).cutter.members new
one_more_inside text m at to deep old padded new members k r p e alone =
    let outer = m.cutter.members in
    let one = ending (value_begun (frame.Object ∷ []) m.cutter at) to in
    let few = r.as_few in
    let size = p.size in
    let same : length padded ≡ length outer = omega arith in
    let now : (passed m at to deep).cutter.members ≡ outer ++ one ∷ [] = ap (λ (l : List Frame). (value_ended l (value_begun l m.cutter at) to).members) k in
    subst (λ (l : List Member). AreReadInside text l new) (sym now)
    (subst (λ (l : List (Option (List Member))). AreReadInside text (outer ++ one ∷ []) l) (sym e)
    (record {
      as_few = omega (arith, length-append padded (Some members ∷ []), length-append outer (one ∷ []));
      each = λ i n there found f.
          each_more (λ v x. (l : List Member) → x ≡ Some l → IsReadAlone (text_at text v.value) l) (outer ++ one ∷ []) padded one (Some members)
          (λ j v at_j x x_at l is. r.each j v
          (sym (get_before outer (one ∷ []) j (let low : j < length padded = slice_get_within padded j x x_at in omega arith)) ∙ at_j) l
          (p.same j l (x_at ∙ ap Some is)))
          (ap (λ (i : ℕ). slice_get (outer ++ one ∷ []) i) same ∙ get_at outer one)
          (λ l is. subst (λ (l : List Member). IsReadAlone (between text at to) l) (cc is) alone)
          i n there (Some found) f found refl;
    }))

-- a token that the outer machine reads
pub tail_inside : {E : Type 0} (r : Result ℕ E) (text : List ℕ) (m after : Machine) (at : ℕ) (inner : List (Option (List Member))) → IfOk r (λ to. IsTaken text m at after to) → AreReadInside text m.cutter.members inner → OnOk r (AreReadInside text after.cutter.members inner)
tail_inside (Ok to) text m after at inner t r = taken_inside text m after at to inner t r
tail_inside (Err e) text m after at inner t r = tt

-- where a value begins
pub value_between : (text : List ℕ) (at size : ℕ) → between text at (at + size) ≡ take size (drop at text)
value_between text at size = let e : at + size - at ≡ size = omega arith in ap (λ (i : ℕ). take i (drop at text)) e

pub none_inside_yet : (text : List ℕ) (outer : List Member) (inner : List (Option (List Member))) → inner ≡ [] → AreReadInside text outer inner
none_inside_yet text outer inner e =
    subst (λ (l : List (Option (List Member))). AreReadInside text outer l) (sym e) (record { as_few = omega arith; each = λ k m at members f. absurd (cc f) })

first_of : (text : List ℕ) (at size : ℕ) → get_or (take size (drop at text)) (length (take size (drop at text)) - 1) 0 ≡ 125 → get_or (take size (drop at text)) 0 0 ≡ get_or text at 0
first_of text at size last = by_rest size (drop at text) last (get_or-drop at text 0 0 ∙ ap (λ (i : ℕ). get_or text i 0) (none_more_place at))
  where
    none_more_place : (n : ℕ) → n + 0 ≡ n
    none_more_place n = omega arith

    by_rest : (size : ℕ) (rest : List ℕ) → get_or (take size rest) (length (take size rest) - 1) 0 ≡ 125 → get_or rest 0 0 ≡ get_or text at 0 → get_or (take size rest) 0 0 ≡ get_or text at 0
    by_rest zero rest last e = absurd (omega (arith, last))
    by_rest (suc n) [] last e = absurd (omega (arith, last))
    by_rest (suc n) (x ∷ xs) last e = e

-- An object that the inner machine has read, to its last bracket: the outer machine passes over it, and it is read alone.
pub record IsObjectRead (text : List ℕ) (m n : Machine) (at size : ℕ) : Type 0 where
  pub outside : over at m (between text at (at + size)) ≡ passed m at (at + size) n.deepest
  pub alone : IsReadAlone (between text at (at + size)) n.cutter.members

pub object_read : (text : List ℕ) (m n : Machine) (at size : ℕ) → get_or text at 0 ≡ 123 → m.phase ≡ phase.Value → m.frames ≡ frame.Object ∷ [] → n ≡ read_to (drop at text) (initial frame.Object) 0 size → size ≤ length (drop at text)
    → IsDone n.phase → get_or (take size (drop at text)) (length (take size (drop at text)) - 1) 0 ≡ 125 → IsObjectRead text m n at size
object_read text m n at size first p k is low done last =
    let bytes = take size (drop at text) in
    let whole = front_read (drop at text) n size is low in
    let same = value_between text at size in
    let long : length bytes ≡ size = length-take-le size (drop at text) low in
    let b = braces bytes n whole done (first_of text at size last ∙ first) last in
    record {
      outside = ap (λ (l : List ℕ). over at m l) same ∙ passes m n at bytes p k b ∙ ap (λ (i : ℕ). passed m at (at + i) n.deepest) long;
      alone = subst (λ (l : List ℕ). IsReadAlone l n.cutter.members) (sym same)
          (record { done = subst (λ (s : Machine). IsDone s.phase) whole done; cut = ap (λ (s : Machine). s.cutter.members) whole });
    }

-- where the value is the rest of the text
pub rest_read : (text value : List ℕ) (m n : Machine) (at size : ℕ) → value ≡ take (length text - at) (drop at text) → get_or text at 0 ≡ 123 → m.phase ≡ phase.Value → m.frames ≡ frame.Object ∷ [] → n ≡ read_to value (initial frame.Object) 0 size → size ≤ length value
    → IsDone n.phase → get_or (take size value) (length (take size value) - 1) 0 ≡ 125 → IsObjectRead text m n at size
rest_read text value m n at size e first p k is low done last =
    let rest : value ≡ drop at text = e ∙ ap (λ (i : ℕ). take i (drop at text)) (sym (length-drop at text)) ∙ take-all (drop at text) in
    object_read text m n at size first p k
    (subst (λ (l : List ℕ). n ≡ read_to l (initial frame.Object) 0 size) rest is)
    (subst (λ (l : List ℕ). size ≤ length l) rest low) done
    (subst (λ (l : List ℕ). get_or (take size l) (length (take size l) - 1) 0 ≡ 125) rest last)
  where
    take-all : (xs : List ℕ) → take (length xs) xs ≡ xs
    take-all [] = refl
    take-all (x ∷ xs) = ap (λ (l : List ℕ). x ∷ l) (take-all xs)
