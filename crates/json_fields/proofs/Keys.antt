-- Keys that are compared in place, from the last member back.
use Rattle.std.proofs.Common.{◌≡◌, inl, inr, ℕ, zero, suc, ◌+◌, ◌-◌, ◌<◌, ◌≤◌, true, List, [], ◌∷◌, ◌++◌, length, take, drop, slice_get, slice_index_or, slice_range, Option, None, Some, All, IsTrue, refl, sym, ap, ◌∙◌, subst, arith, length-append, add-one, drop-cons}
use Rattle.std.proofs.Math.Seq.{take-append_seam}
use Rattle.std.proofs.lemmas.Bool.{and_parts}
use Rattle.std.proofs.lemmas.List.{take-append-drop}
use Rattle.std.proofs.lemmas.List.Elements.{All-cons}
use Rattle.json_scalar.specs.Text.{IsString, is_plain}
use Rattle.json_scalar.specs.Quotes.{in_quotes}
use Rattle.json_scalar.proofs.Contents.{one_meaning}
use Rattle.json_scalar.proofs.Plain.{plain_string}
use Rattle.json_span.specs.Members.{text_at}
use Rattle.json_span.specs.declared.Member.{Member}
use Rattle.json_fields.specs.Answer.{IsOnly}
use Rattle.json_fields.specs.Fields.{Holds}
use Rattle.json_fields.specs.Words.{IsSomeString, IsPlace, is_word}
use Rattle.json_fields.proofs.FieldLemmas.{Holds-only, Some-injective}

-- ---- one key

-- a string is what stands between its quotation marks
pub record Inside (key : List ℕ) : Type 0 where
  pub inside : List ℕ
  pub spelled : key ≡ in_quotes inside

pub inside_of : (key : List ℕ) → IsSomeString key → Inside key
inside_of key s = record { inside = _; spelled = s.is.spelled }

pub key_long : (key : List ℕ) → IsSomeString key → 2 ≤ length key
key_long key s =
    let i = inside_of key s in
    let size : length key ≡ length (in_quotes i.inside) = ap (λ (l : List ℕ). length l) i.spelled in
    let more = length-append i.inside (34 ∷ []) in
    omega arith

pub inside_is : (key inside : List ℕ) → key ≡ in_quotes inside → slice_range key 1 (length key - 1) ≡ inside
inside_is key inside e =
    let size : length key ≡ length (in_quotes inside) = ap (λ (l : List ℕ). length l) e in
    let more = length-append inside (34 ∷ []) in
    let n : length key - 1 - 1 ≡ length inside = omega arith in
    ap (λ (k : ℕ). take k (drop 1 key)) n ∙ ap (λ (t : List ℕ). take (length inside) (drop 1 t)) e ∙ take-append_seam inside (34 ∷ [])

plain_word : (name : List ℕ) → is_word name ≡ true → All (λ byte. IsTrue (is_plain byte)) name
plain_word [] e = λ k d h. absurd (omega arith)
plain_word (b ∷ bs) e = let p = and_parts (is_plain b) (is_word bs) e in All-cons (λ byte. IsTrue (is_plain byte)) b bs p.0 (plain_word bs p.1)

module _ (key name : List ℕ) (s : IsSomeString key) where
  spelled_by : slice_range key 1 (length key - 1) ≡ name → key ≡ in_quotes name
  spelled_by e = let i = inside_of key s in i.spelled ∙ ap in_quotes (sym (inside_is key i.inside i.spelled) ∙ e)

  pub key_same : is_word name ≡ true → slice_range key 1 (length key - 1) ≡ name → IsString key name
  key_same word e = plain_string key name s.is.utf8 (spelled_by e) (plain_word name word)

-- ---- the last member

-- what stands behind a front holds for the whole
pub holds_behind : (text name : List ℕ) (front back : List Member) (value : List ℕ) → Holds text name back (Some value) → Holds text name (front ++ back) (Some value)
holds_behind text name [] back value h = h
holds_behind text name (m ∷ front) back value h = (Some value, holds_behind text name front back value h, refl)

pub holds_found : (text name : List ℕ) (members : List Member) (i : ℕ) (d : Member) (key value : List ℕ) → i < length members → key ≡ text_at text (slice_index_or members i d).key → IsString key name → value ≡ text_at text (slice_index_or members i d).value → Holds text name (drop (i + 1) members) None → Holds text name members (Some value)
holds_found text name members i d key value lt is named v none =
    let m = slice_index_or members i d in
    let cut : drop i members ≡ m ∷ drop (i + 1) members = ap (λ (k : ℕ). drop k members) refl ∙ drop-cons members i d lt ∙ ap (λ (k : ℕ). m ∷ drop k members) (sym (add-one i)) in
    let here : Holds text name (m ∷ drop (i + 1) members) (Some value) = (None, none, inl (subst (λ (k : List ℕ). IsString k name) is named, ap (λ (x : List ℕ). Some x) v)) in
    let back : Holds text name (drop i members) (Some value) = subst (λ (ms : List Member). Holds text name ms (Some value)) (sym cut) here in
    subst (λ (ms : List Member). Holds text name ms (Some value)) (take-append-drop i members) (holds_behind text name (take i members) (drop i members) value back)

pub holds_not : (text name : List ℕ) (members : List Member) (i : ℕ) (d : Member) (key : List ℕ) → i < length members → key ≡ text_at text (slice_index_or members i d).key → ¬ IsString key name → Holds text name (drop (i + 1) members) None → Holds text name (drop i members) None
holds_not text name members i d key lt is other none =
    let m = slice_index_or members i d in
    let cut : drop i members ≡ m ∷ drop (i + 1) members = drop-cons members i d lt ∙ ap (λ (k : ℕ). m ∷ drop k members) (sym (add-one i)) in
    subst (λ (ms : List Member). Holds text name ms None) (sym cut) (None, none, inr (λ named. other (subst (λ (k : List ℕ). IsString k name) (sym is) named), refl))

pub only_holds : (text name : List ℕ) (members : List Member) (found : Option (List ℕ)) → Holds text name members found → IsOnly (Holds text name members) found
only_holds text name members found h = record { is = h; only = λ other g. Holds-only text name members other found g h }

-- a string has one meaning
pub string_only : (text meaning : List ℕ) → IsString text meaning → IsOnly (IsString text) meaning
string_only text meaning s = record { is = s; only = λ other g. one_meaning text other meaning g s }

-- an element by its place
pub get_at : (members : List Member) (i : ℕ) (d : Member) → i < length members → slice_get members i ≡ Some (slice_index_or members i d)
get_at [] i d lt = absurd (omega arith)
get_at (m ∷ members) zero d lt = refl
get_at (m ∷ members) (suc i) d lt = get_at members i d (omega arith)

pub value_at : (text name : List ℕ) (members : List Member) (place : ℕ) (d : Member) (value : List ℕ) → IsPlace text name members place → value ≡ text_at text (slice_index_or members place d).value → IsOnly (Holds text name members) (Some value)
value_at text name members place d value is e =
    let same : Some (slice_index_or members place d) ≡ Some is.member = sym (get_at members place d is.below) ∙ is.at in
    let member : slice_index_or members place d ≡ is.member = Some-injective (slice_index_or members place d) is.member same in
    subst (λ (found : Option (List ℕ)). IsOnly (Holds text name members) found) (ap (λ (m : Member). Some (text_at text m.value)) (sym member) ∙ ap (λ (v : List ℕ). Some v) (sym e)) is.holds
