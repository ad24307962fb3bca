-- Names and the strings that hold them: places, growth, and that each stands once.
use Rattle.std.proofs.Common.{arith, ◌≡◌, ◌+◌, ℕ, zero, suc, List, [], ◌∷◌, ◌++◌, map, Option, None, Some, slice_get, Bool, true, false, cond, refl, sym, ◌∙◌, ap, subst, ◌||◌, position, IfSome, IfNone, is_some, string_bytes, String}
use Rattle.std.proofs.Common.{Global}
use Rattle.std.specs.List.{AllByRecursion, IsDistinct, list_any, position_from}
use Rattle.std.specs.Str.{bytes_eq}
use Rattle.std.specs.String.{string_eq}
use Rattle.std.proofs.lemmas.Slice.Eq.{bytes_eq-Decides}
use Rattle.std.proofs.lemmas.Map.Keys.{IsDistinct-head, IsDistinct-tail}
use Rattle.std.proofs.lemmas.Iterator.Adapters.{position_from-zero}
use Rattle.name_index.specs.Named.{with_name}

abbrev pub Text : Type 0
Text = String Global

-- the names that strings hold
abbrev pub held : List Text → List (List ℕ)
held keys = map (λ (s : Text). string_bytes s) keys

-- the test of a key
abbrev pub is : List ℕ → Text → Bool
is name key = bytes_eq name (string_bytes key)

true_false : true ≡ false → ⊥
true_false e = cc

None-Some : {A : Type 0} (a : A) → None ≡ Some a → ⊥
None-Some a e = cc

Some-injective : {A : Type 0} (a b : A) → Some a ≡ Some b → a ≡ b
Some-injective a b e = cc

by_cases : {P : Type 0} (b : Bool) → (b ≡ true → P) → (b ≡ false → P) → P
by_cases true passed failed = passed refl
by_cases false passed failed = failed refl

-- a test of keys and the test of their names
any_held : (name : List ℕ) (keys : List Text) → list_any (is name) keys ≡ list_any (bytes_eq name) (held keys)
any_held name [] = refl
any_held name (key ∷ keys) = ap (λ (b : Bool). is name key || b) (any_held name keys)

any_at : (name : List ℕ) (keys : List Text) (i : ℕ) → slice_get (held keys) i ≡ Some name → list_any (is name) keys ≡ true
any_at name [] i at = absurd (None-Some name at)
any_at name (key ∷ keys) zero at = ap (λ (b : Bool). b || list_any (is name) keys) ((bytes_eq-Decides name (string_bytes key)).1 (sym (Some-injective (string_bytes key) name at)))
any_at name (key ∷ keys) (suc i) at = by_cases (is name key) (λ e. ap (λ (b : Bool). b || list_any (is name) keys) e) (λ e. ap (λ (b : Bool). b || list_any (is name) keys) e ∙ any_at name keys i at)

record Passes (name : List ℕ) (keys : List Text) (from found : ℕ) : Type 0 where
  pub offset : ℕ
  pub is_at : found ≡ from + offset
  pub at : slice_get (held keys) offset ≡ Some name

passes : (name : List ℕ) (keys : List Text) (from found : ℕ) → position_from (is name) from keys ≡ Some found → Passes name keys from found
passes name [] from found e = absurd (None-Some found e)
passes name (key ∷ keys) from found e = by_cases (is name key)
    (λ passed. record {
      offset = 0;
      is_at = let r = Some-injective from found (sym (ap (λ (b : Bool). cond b (Some from) (position_from (is name) (from + 1) keys)) passed) ∙ e) in omega arith;
      at = ap (λ (x : List ℕ). Some x) (sym ((bytes_eq-Decides name (string_bytes key)).0 passed));
    })
    (λ failed. let r = passes name keys (from + 1) found (sym (ap (λ (b : Bool). cond b (Some from) (position_from (is name) (from + 1) keys)) failed) ∙ e) in
    record { offset = suc r.offset; is_at = let h = r.is_at in omega arith; at = r.at })

place_at : (name : List ℕ) (keys : List Text) (found : ℕ) → position (is name) keys ≡ Some found → slice_get (held keys) found ≡ Some name
place_at name keys found e =
    let r = passes name keys 0 found (sym (position_from-zero (is name) keys) ∙ e) in
    let at : found ≡ r.offset = let h = r.is_at in omega arith in
    subst (λ (i : ℕ). slice_get (held keys) i ≡ Some name) (sym at) r.at

-- what is found is the place, and nothing is found where there is none
pub found_is : (name : List ℕ) (keys : List Text) (found : Option ℕ) → found ≡ position (is name) keys → IfSome found (λ place. slice_get (held keys) place ≡ Some name)
found_is name keys None e = tt
found_is name keys (Some place) e = place_at name keys place (sym e)

pub none_is : (name : List ℕ) (keys : List Text) (found : Option ℕ) → is_some found ≡ list_any (is name) keys → IfNone found ((place : ℕ) → ¬ (slice_get (held keys) place ≡ Some name))
none_is name keys None e = λ place at. true_false (sym (any_at name keys place at) ∙ sym e)
none_is name keys (Some place) e = tt

-- names grow as keys do
held-append : (keys others : List Text) → held (keys ++ others) ≡ held keys ++ held others
held-append [] others = refl
held-append (key ∷ keys) others = ap (λ (l : List (List ℕ)). string_bytes key ∷ l) (held-append keys others)

pub grown : (keys : List Text) (key : Text) (name : List ℕ) → string_bytes key ≡ name → held (cond (list_any (string_eq key) keys) keys (keys ++ key ∷ [])) ≡ with_name (held keys) name
grown keys key name e = by_cases (list_any (is (string_bytes key)) keys)
    (λ there. ap (λ (b : Bool). held (cond b keys (keys ++ key ∷ []))) there ∙ sym (ap (λ (b : Bool). cond b (held keys) (held keys ++ name ∷ [])) (ap (λ (n : List ℕ). list_any (bytes_eq n) (held keys)) (sym e) ∙ sym (any_held (string_bytes key) keys) ∙ there)))
    (λ absent. ap (λ (b : Bool). held (cond b keys (keys ++ key ∷ []))) absent ∙ held-append keys (key ∷ []) ∙ ap (λ (n : List ℕ). held keys ++ n ∷ []) e ∙ sym (ap (λ (b : Bool). cond b (held keys) (held keys ++ name ∷ [])) (ap (λ (n : List ℕ). list_any (bytes_eq n) (held keys)) (sym e) ∙ sym (any_held (string_bytes key) keys) ∙ absent)))

all_held : (name : List ℕ) (key : Text) (keys : List Text) → string_bytes key ≡ name → AllByRecursion (λ (k : Text). string_eq key k ≡ false) keys → AllByRecursion (λ n. bytes_eq name n ≡ false) (held keys)
all_held name key [] e all = tt
all_held name key (k ∷ keys) e all = (subst (λ (n : List ℕ). bytes_eq n (string_bytes k) ≡ false) e all.0, all_held name key keys e all.1)

-- keys that differ hold names that differ
pub distinct : (keys : List Text) → IsDistinct string_eq keys → IsDistinct bytes_eq (held keys)
unfolding IsDistinct
distinct [] unique = unique
distinct (key ∷ keys) unique = (all_held (string_bytes key) key keys refl (IsDistinct-head string_eq key keys unique), distinct keys (IsDistinct-tail string_eq key keys unique))

-- what stands at a place of the keys
pub stored : (keys : List Text) (key k : Text) (place : ℕ) (name : List ℕ) → string_bytes key ≡ name → slice_get keys place ≡ Some k → string_eq key k ≡ true → slice_get (held keys) place ≡ Some name
stored [] key k place name e at same = absurd (None-Some k at)
stored (x ∷ keys) key k zero name e at same = ap (λ (y : Text). Some (string_bytes y)) (Some-injective x k at) ∙ ap (λ (n : List ℕ). Some n) (sym ((bytes_eq-Decides (string_bytes key) (string_bytes k)).0 same) ∙ e)
stored (x ∷ keys) key k (suc place) name e at same = stored keys key k place name e at same

all_at : (name : List ℕ) (names : List (List ℕ)) (i : ℕ) (other : List ℕ) → AllByRecursion (λ n. bytes_eq name n ≡ false) names → slice_get names i ≡ Some other → bytes_eq name other ≡ false
all_at name [] i other all at = absurd (None-Some other at)
all_at name (n ∷ names) zero other all at = subst (λ (x : List ℕ). bytes_eq name x ≡ false) (Some-injective n other at) all.0
all_at name (n ∷ names) (suc i) other all at = all_at name names i other all.1 at

differs : (name other : List ℕ) → bytes_eq name other ≡ false → ¬ (name ≡ other)
differs name other unlike same = true_false (sym ((bytes_eq-Decides name other).1 same) ∙ unlike)

-- a name stands at one place
pub one_place : (names : List (List ℕ)) (i j : ℕ) (name : List ℕ) → IsDistinct bytes_eq names → slice_get names i ≡ Some name → slice_get names j ≡ Some name → i ≡ j
one_place [] i j name unique at also = absurd (None-Some name at)
one_place (n ∷ names) zero zero name unique at also = refl
one_place (n ∷ names) zero (suc j) name unique at also = absurd (differs n name (all_at n names j name (IsDistinct-head bytes_eq n names unique) also) (Some-injective n name at))
one_place (n ∷ names) (suc i) zero name unique at also = absurd (differs n name (all_at n names i name (IsDistinct-head bytes_eq n names unique) at) (Some-injective n name also))
one_place (n ∷ names) (suc i) (suc j) name unique at also = ap suc (one_place names i j name (IsDistinct-tail bytes_eq n names unique) at also)

-- what stood at a place stands there when a name was put behind
pub place_before : (names others : List (List ℕ)) (i : ℕ) (name : List ℕ) → slice_get names i ≡ Some name → slice_get (names ++ others) i ≡ Some name
place_before [] others i name at = absurd (None-Some name at)
place_before (n ∷ names) others zero name at = at
place_before (n ∷ names) others (suc i) name at = place_before names others i name at

pub place_kept : (names : List (List ℕ)) (added : List ℕ) (i : ℕ) (name : List ℕ) → slice_get names i ≡ Some name → slice_get (with_name names added) i ≡ Some name
place_kept names added i name at = by_cases (list_any (bytes_eq added) names)
    (λ there. ap (λ (b : Bool). slice_get (cond b names (names ++ added ∷ [])) i) there ∙ at)
    (λ absent. ap (λ (b : Bool). slice_get (cond b names (names ++ added ∷ [])) i) absent ∙ place_before names (added ∷ []) i name at)
