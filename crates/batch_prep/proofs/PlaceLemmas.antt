-- Places of names: they stay as names grow, and grow with columns and paths.
use Rattle.std.proofs.Common.{arith, ◌≡◌, ◌<◌, ◌≤◌, ◌+◌, ℕ, zero, suc, inl, inr, ◌⊎◌, IfSome, IfNone, List, [], ◌∷◌, ◌++◌, Option, None, Some, length, take, slice_get, slice_index_or, refl, sym, ◌∙◌, ap, subst}
use Rattle.json.specs.Print.{quoted}
use Rattle.json_scalar.specs.Text.{IsString}
use Rattle.json_fields.specs.Answer.{IsOnly}
use Rattle.std.proofs.lemmas.List.{take_more, take_all}
use Rattle.std.proofs.lemmas.Option.{slice_get-get_or, slice_get_within}
use Rattle.column_types.specs.declared.column.Column.{Column}
use Rattle.name_index.specs.Named.{with_name}
use Rattle.name_index.proofs.NameLemmas.{place_kept}
use Rattle.batch_prep.specs.declared.layout.Start.{Start}
use Rattle.batch_prep.specs.Places.{AreKept, AreLabels, AreSlots, AreStarts, IsFirst, IsOptionalStart, IsSlotOf, IsStart}

pub None-Some : {A : Type 0} (a : A) → None ≡ Some a → ⊥
None-Some a e = cc

pub Some-None : {A : Type 0} (a : A) → Some a ≡ None → ⊥
Some-None a e = cc

pub Some-injective : {A : Type 0} (a b : A) → Some a ≡ Some b → a ≡ b
Some-injective a b e = cc

-- names that stay where they are
pub kept_same : (names others : List (List ℕ)) → others ≡ names → AreKept names others
kept_same names others e = λ place name at. ap (λ (l : List (List ℕ)). slice_get l place) e ∙ at

pub kept_along : (a b c : List (List ℕ)) → AreKept a b → AreKept b c → AreKept a c
kept_along a b c ab bc = λ place name at. bc place name (ab place name at)

pub kept_grown : (names new : List (List ℕ)) (added : List ℕ) → new ≡ with_name names added → AreKept names new
kept_grown names new added e = λ place name at. ap (λ (l : List (List ℕ)). slice_get l place) e ∙ place_kept names added place name at

-- the places of columns
pub slots_kept : (old new : List (List ℕ)) (columns : List Column) (slots : List ℕ) → AreKept old new → AreSlots old columns slots → AreSlots new columns slots
slots_kept old new [] [] kept are = tt
slots_kept old new (column ∷ columns) (slot ∷ slots) kept are = (kept slot column.name are.0, slots_kept old new columns slots kept are.1)
slots_kept old new [] (slot ∷ slots) kept are = absurd are
slots_kept old new (column ∷ columns) [] kept are = absurd are

slots_behind : (names : List (List ℕ)) (columns : List Column) (slots : List ℕ) (column : Column) (slot : ℕ) → AreSlots names columns slots → slice_get names slot ≡ Some column.name → AreSlots names (columns ++ column ∷ []) (slots ++ slot ∷ [])
slots_behind names [] [] column slot are at = (at, tt)
slots_behind names (c ∷ columns) (s ∷ slots) column slot are at = (are.0, slots_behind names columns slots column slot are.1 at)
slots_behind names [] (s ∷ slots) column slot are at = absurd are
slots_behind names (c ∷ columns) [] column slot are at = absurd are

pub slots_more : (names : List (List ℕ)) (columns : List Column) (i : ℕ) (d : Column) (slots new : List ℕ) (slot : ℕ) → i < length columns → AreSlots names (take i columns) slots → slice_get names slot ≡ Some (slice_index_or columns i d).name → new ≡ slots ++ slot ∷ [] → AreSlots names (take (i + 1) columns) new
slots_more names columns i d slots new slot lt are at e =
    subst (λ (l : List ℕ). AreSlots names (take (i + 1) columns) l) (sym e)
    (subst (λ (l : List Column). AreSlots names l (slots ++ slot ∷ [])) (sym (take_more columns i d lt)) (slots_behind names (take i columns) slots (slice_index_or columns i d) slot are at))

pub slot_at : (names : List (List ℕ)) (columns : List Column) (slots : List ℕ) (i : ℕ) (d : Column) (slot : ℕ) → AreSlots names columns slots → i < length columns → slice_get slots i ≡ Some slot → slice_get names slot ≡ Some (slice_index_or columns i d).name
slot_at names [] slots i d slot are lt at = absurd (omega (arith, lt))
slot_at names (c ∷ columns) [] i d slot are lt at = absurd are
slot_at names (c ∷ columns) (s ∷ slots) zero d slot are lt at = ap (λ (n : ℕ). slice_get names n) (sym (Some-injective s slot at)) ∙ are.0
slot_at names (c ∷ columns) (s ∷ slots) (suc i) d slot are lt at = slot_at names columns slots i d slot are.1 (omega (arith, lt)) at

pub slots_long : (names : List (List ℕ)) (columns : List Column) (slots : List ℕ) → AreSlots names columns slots → length slots ≡ length columns
slots_long names [] [] are = refl
slots_long names (c ∷ columns) (s ∷ slots) are = ap suc (slots_long names columns slots are.1)
slots_long names [] (s ∷ slots) are = absurd are
slots_long names (c ∷ columns) [] are = absurd are

-- where paths begin
pub first_kept : (old new : List (List ℕ)) (path : List (List ℕ)) (slot : Option ℕ) → AreKept old new → IsFirst old path slot → IsFirst new path slot
first_kept old new [] slot kept first = first
first_kept old new (name ∷ rest) None kept first = first
first_kept old new (name ∷ rest) (Some slot) kept first = kept slot name first

pub start_kept : (old new : List (List ℕ)) (columns : List Column) (path : List (List ℕ)) (start : Start) → AreKept old new → IsStart old columns path start → IsStart new columns path start
start_kept old new columns path start kept is = record { first = first_kept old new path start.slot kept is.first; instant = is.instant }

pub starts_kept : (old new : List (List ℕ)) (columns : List Column) (paths : List (List (List ℕ))) (starts : List Start) → AreKept old new → AreStarts old columns paths starts → AreStarts new columns paths starts
starts_kept old new columns [] [] kept are = tt
starts_kept old new columns (path ∷ paths) (start ∷ starts) kept are = (start_kept old new columns path start kept are.0, starts_kept old new columns paths starts kept are.1)
starts_kept old new columns [] (start ∷ starts) kept are = absurd are
starts_kept old new columns (path ∷ paths) [] kept are = absurd are

starts_behind : (names : List (List ℕ)) (columns : List Column) (paths : List (List (List ℕ))) (starts : List Start) (path : List (List ℕ)) (start : Start) → AreStarts names columns paths starts → IsStart names columns path start → AreStarts names columns (paths ++ path ∷ []) (starts ++ start ∷ [])
starts_behind names columns [] [] path start are is = (is, tt)
starts_behind names columns (p ∷ paths) (s ∷ starts) path start are is = (are.0, starts_behind names columns paths starts path start are.1 is)
starts_behind names columns [] (s ∷ starts) path start are is = absurd are
starts_behind names columns (p ∷ paths) [] path start are is = absurd are

pub starts_more : (names : List (List ℕ)) (columns : List Column) (paths : List (List (List ℕ))) (i : ℕ) (d : List (List ℕ)) (starts new : List Start) (start : Start) → i < length paths → AreStarts names columns (take i paths) starts → IsStart names columns (slice_index_or paths i d) start → new ≡ starts ++ start ∷ [] → AreStarts names columns (take (i + 1) paths) new
starts_more names columns paths i d starts new start lt are is e =
    subst (λ (l : List Start). AreStarts names columns (take (i + 1) paths) l) (sym e)
    (subst (λ (l : List (List (List ℕ))). AreStarts names columns l (starts ++ start ∷ [])) (sym (take_more paths i d lt)) (starts_behind names columns (take i paths) starts (slice_index_or paths i d) start are is))

pub start_at : (names : List (List ℕ)) (columns : List Column) (paths : List (List (List ℕ))) (starts : List Start) (i : ℕ) (d : List (List ℕ)) (start : Start) → AreStarts names columns paths starts → i < length paths → slice_get starts i ≡ Some start → IsStart names columns (slice_index_or paths i d) start
start_at names columns [] starts i d start are lt at = absurd (omega (arith, lt))
start_at names columns (p ∷ paths) [] i d start are lt at = absurd are
start_at names columns (p ∷ paths) (s ∷ starts) zero d start are lt at = subst (λ (x : Start). IsStart names columns p x) (Some-injective s start at) are.0
start_at names columns (p ∷ paths) (s ∷ starts) (suc i) d start are lt at = start_at names columns paths starts i d start are.1 (omega (arith, lt)) at

pub starts_long : (names : List (List ℕ)) (columns : List Column) (paths : List (List (List ℕ))) (starts : List Start) → AreStarts names columns paths starts → length starts ≡ length paths
starts_long names columns [] [] are = refl
starts_long names columns (p ∷ paths) (s ∷ starts) are = ap suc (starts_long names columns paths starts are.1)
starts_long names columns [] (s ∷ starts) are = absurd are
starts_long names columns (p ∷ paths) [] are = absurd are

pub optional_kept : (old new : List (List ℕ)) (columns : List Column) (path : Option (List (List ℕ))) (start : Option Start) → AreKept old new → IsOptionalStart old columns path start → IsOptionalStart new columns path start
optional_kept old new columns None start kept is = is
optional_kept old new columns (Some path) None kept is = is
optional_kept old new columns (Some path) (Some start) kept is = start_kept old new columns path start kept is

-- ---- labels

-- what stands at a place of a list with one more element
place_behind : {A : Type 0} (xs : List A) (x : A) (i : ℕ) (item : A) → slice_get (xs ++ x ∷ []) i ≡ Some item → (slice_get xs i ≡ Some item) ⊎ ((i ≡ length xs) × (x ≡ item))
place_behind [] x zero item at = inr (refl, Some-injective x item at)
place_behind [] x (suc i) item at = absurd (None-Some item at)
place_behind (y ∷ ys) x zero item at = inl at
place_behind (y ∷ ys) x (suc i) item at = elim (place_behind ys x i item at) [ inl before ↦ inl before | inr last ↦ inr (ap suc last.0, last.1) ]

long_behind : {A : Type 0} (xs : List A) (x : A) → length (xs ++ x ∷ []) ≡ suc (length xs)
long_behind [] x = refl
long_behind (y ∷ ys) x = ap suc (long_behind ys x)

labels_behind : (names labels : List (List ℕ)) (name label : List ℕ) → AreLabels names labels → label ≡ quoted name → IsString label name → AreLabels (names ++ name ∷ []) (labels ++ label ∷ [])
labels_behind names labels name label are text string = record {
  as_many = long_behind labels label ∙ ap suc are.as_many ∙ sym (long_behind names name);
  text = λ place n l at there. both place n l (place_behind names name place n at) (place_behind labels label place l there);
  string = λ place n l at there. both_strings place n l (place_behind names name place n at) (place_behind labels label place l there);
}
  where
    apart : {P : Type 0} (place : ℕ) (n l : List ℕ) → slice_get names place ≡ Some n → place ≡ length labels → P
    apart place n l at e = let a = slice_get_within names place n at in let b = are.as_many in absurd (omega (arith, a, b, e))

    apart_too : {P : Type 0} (place : ℕ) (n l : List ℕ) → slice_get labels place ≡ Some l → place ≡ length names → P
    apart_too place n l at e = let a = slice_get_within labels place l at in let b = are.as_many in absurd (omega (arith, a, b, e))

    both : (place : ℕ) (n l : List ℕ) → (slice_get names place ≡ Some n) ⊎ ((place ≡ length names) × (name ≡ n)) → (slice_get labels place ≡ Some l) ⊎ ((place ≡ length labels) × (label ≡ l)) → l ≡ quoted n
    both place n l (inl a) (inl b) = are.text place n l a b
    both place n l (inl a) (inr b) = apart place n l a b.0
    both place n l (inr a) (inl b) = apart_too place n l b a.0
    both place n l (inr a) (inr b) = sym b.1 ∙ text ∙ ap quoted a.1

    both_strings : (place : ℕ) (n l : List ℕ) → (slice_get names place ≡ Some n) ⊎ ((place ≡ length names) × (name ≡ n)) → (slice_get labels place ≡ Some l) ⊎ ((place ≡ length labels) × (label ≡ l)) → IsString l n
    both_strings place n l (inl a) (inl b) = are.string place n l a b
    both_strings place n l (inl a) (inr b) = apart place n l a b.0
    both_strings place n l (inr a) (inl b) = apart_too place n l b a.0
    both_strings place n l (inr a) (inr b) = subst (λ (x : List ℕ). IsString x n) b.1 (subst (λ (x : List ℕ). IsString label x) a.1 string)

take_at : (names : List (List ℕ)) (i : ℕ) (name : List ℕ) → slice_get names i ≡ Some name → take (i + 1) names ≡ take i names ++ name ∷ []
take_at names i name at =
    take_more names i name (slice_get_within names i name at)
    ∙ ap (λ (n : List ℕ). take i names ++ n ∷ []) (Some-injective (slice_index_or names i name) name (sym (slice_get-get_or names i name (slice_get_within names i name at)) ∙ at))

pub labels_more : (names labels new : List (List ℕ)) (i : ℕ) (name label : List ℕ) → slice_get names i ≡ Some name → AreLabels (take i names) labels → label ≡ quoted name → IsString label name → new ≡ labels ++ label ∷ [] → AreLabels (take (i + 1) names) new
labels_more names labels new i name label at are text string e =
    subst (λ (l : List (List ℕ)). AreLabels (take (i + 1) names) l) (sym e)
    (subst (λ (l : List (List ℕ)). AreLabels l (labels ++ label ∷ [])) (sym (take_at names i name at)) (labels_behind (take i names) labels name label are text string))

pub labels_all : (names labels : List (List ℕ)) (i : ℕ) → length names ≤ i → AreLabels (take i names) labels → AreLabels names labels
labels_all names labels i past are = subst (λ (l : List (List ℕ)). AreLabels l labels) (take_all i names past) are

pub label_of : (names labels : List (List ℕ)) (slot : ℕ) (name : List ℕ) → AreLabels names labels → slice_get names slot ≡ Some name → slot < length labels
label_of names labels slot name are at = let a = slice_get_within names slot name at in let b = are.as_many in omega (arith, a, b)

-- a key that is a name's label is that of the name
pub slot_by_label : (names labels : List (List ℕ)) (key label : List ℕ) (slot : ℕ) → AreLabels names labels → slice_get labels slot ≡ Some label → key ≡ label → IsSlotOf names key (Some slot)
slot_by_label names labels key label slot are at e =
    let lt : slot < length names = let a = slice_get_within labels slot label at in let b = are.as_many in omega (arith, a, b) in
    let name = slice_get-get_or names slot [] lt in
    (slice_index_or names slot [], name, subst (λ (k : List ℕ). IsString k (slice_index_or names slot [])) (sym e) (are.string slot (slice_index_or names slot []) label name at))

-- and where the place of what a key stands for was looked for
pub slot_found : (names : List (List ℕ)) (key meaning : List ℕ) (found : Option ℕ) → IsOnly (IsString key) meaning → IfSome found (λ place. slice_get names place ≡ Some meaning) → IfNone found ((place : ℕ) → ¬ (slice_get names place ≡ Some meaning)) → IsSlotOf names key found
slot_found names key meaning None only some none = λ slot name at string. none slot (at ∙ ap (λ (n : List ℕ). Some n) (only.only name string))
slot_found names key meaning (Some slot) only some none = (meaning, some, only.is)
