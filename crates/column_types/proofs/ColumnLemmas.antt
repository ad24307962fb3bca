-- Columns by name: those that have a name, from the first on and from the last on.
use Rattle.std.proofs.Common.{◌≡◌, ℕ, zero, suc, List, [], ◌∷◌, ◌++◌, map, reverse, Option, None, Some, slice_get, Bool, true, false, cond, refl, sym, ◌∙◌, ap, subst, ◌||◌}
use Rattle.std.specs.List.{list_any}
use Rattle.std.specs.Str.{bytes_eq}
use Rattle.std.proofs.lemmas.List.{reverse-append}
use Rattle.std.proofs.lemmas.List.Sorted.{IsPermutation-reverse, list_any-IsPermutation}
use Rattle.std.proofs.lemmas.Slice.Eq.{bytes_eq-Decides}
use Rattle.name_index.specs.Named.{with_name}
use Rattle.column_types.specs.declared.column.Column.{Column}
use Rattle.column_types.specs.Columns.{IsAddedTo, has_name, names_of}

true_false : true ≡ false → ⊥
true_false e = cc

None-Some : {A : Type 0} (a : A) → None ≡ Some a → ⊥
None-Some a e = cc

Some-injective : {A : Type 0} (a b : A) → Some a ≡ Some b → a ≡ b
Some-injective a b e = cc

by_cases : {P : Type 0} (b : Bool) → (b ≡ true → P) → (b ≡ false → P) → P
by_cases true passed failed = passed refl
by_cases false passed failed = failed refl

-- a name that stands at a place is a column's
pub named_at : (columns : List Column) (name : List ℕ) (place : ℕ) → slice_get (names_of columns) place ≡ Some name → has_name name columns ≡ true
named_at [] name place at = absurd (None-Some name at)
named_at (c ∷ columns) name zero at = ap (λ (b : Bool). b || has_name name columns) ((bytes_eq-Decides c.name name).1 (Some-injective c.name name at))
named_at (c ∷ columns) name (suc place) at = by_cases (bytes_eq c.name name)
    (λ e. ap (λ (b : Bool). b || has_name name columns) e)
    (λ e. ap (λ (b : Bool). b || has_name name columns) e ∙ named_at columns name place at)

-- and one that stands nowhere is none's
pub named_not : (columns : List Column) (name : List ℕ) → ((place : ℕ) → ¬ (slice_get (names_of columns) place ≡ Some name)) → has_name name columns ≡ false
named_not [] name none = refl
named_not (c ∷ columns) name none = by_cases (bytes_eq c.name name)
    (λ e. absurd (none 0 (ap (λ (n : List ℕ). Some n) ((bytes_eq-Decides c.name name).0 e))))
    (λ e. ap (λ (b : Bool). b || has_name name columns) e ∙ named_not columns name (λ place at. none (suc place) at))

absent : (names : List (List ℕ)) (name : List ℕ) → ((place : ℕ) → ¬ (slice_get names place ≡ Some name)) → list_any (bytes_eq name) names ≡ false
absent [] name none = refl
absent (n ∷ names) name none = by_cases (bytes_eq name n)
    (λ e. absurd (none 0 (ap (λ (x : List ℕ). Some x) (sym ((bytes_eq-Decides name n).0 e)))))
    (λ e. ap (λ (b : Bool). b || list_any (bytes_eq name) names) e ∙ absent names name (λ place at. none (suc place) at))

reversed : (columns : List Column) (name : List ℕ) → has_name name (reverse columns) ≡ has_name name columns
reversed columns name = sym (list_any-IsPermutation (λ (c : Column). bytes_eq c.name name) columns (reverse columns) (IsPermutation-reverse columns))

names_behind : (columns : List Column) (column : Column) → names_of (columns ++ column ∷ []) ≡ names_of columns ++ column.name ∷ []
names_behind [] column = refl
names_behind (c ∷ columns) column = ap (λ (l : List (List ℕ)). c.name ∷ l) (names_behind columns column)

-- a column whose name another has is left out
pub left_out : (columns : List Column) (column : Column) (place : ℕ) → slice_get (names_of columns) place ≡ Some column.name → IsAddedTo (reverse columns) column (reverse columns)
left_out columns column place at =
    sym (ap (λ (b : Bool). cond b (reverse columns) (column ∷ reverse columns)) (reversed columns column.name ∙ named_at columns column.name place at))

-- and another is put in front of those that stand behind it
pub put_in : (columns new : List Column) (column : Column) → ((place : ℕ) → ¬ (slice_get (names_of columns) place ≡ Some column.name)) → new ≡ columns ++ column ∷ [] → IsAddedTo (reverse columns) column (reverse new)
put_in columns new column none e =
    ap reverse e ∙ reverse-append columns (column ∷ [])
    ∙ sym (ap (λ (b : Bool). cond b (reverse columns) (column ∷ reverse columns)) (reversed columns column.name ∙ named_not columns column.name none))

pub names_grown : (columns new : List Column) (column : Column) (names : List (List ℕ)) → ((place : ℕ) → ¬ (slice_get (names_of columns) place ≡ Some column.name)) → names ≡ with_name (names_of columns) column.name → new ≡ columns ++ column ∷ [] → names ≡ names_of new
names_grown columns new column names none grown e =
    grown ∙ ap (λ (b : Bool). cond b (names_of columns) (names_of columns ++ column.name ∷ [])) (absent (names_of columns) column.name none)
    ∙ sym (ap names_of e ∙ names_behind columns column)
