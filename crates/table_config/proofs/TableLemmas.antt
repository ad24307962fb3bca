-- Tables by name.
use Rattle.std.proofs.Common.{◌≡◌, ◌∙◌, ℕ, zero, suc, List, [], ◌∷◌, ◌++◌, slice_get, Bool, true, false, cond, ◌||◌, Option, None, Some, is_some, refl, sym, ap, subst}
use Rattle.std.specs.List.{AllByRecursion, IsDistinct, list_any}
use Rattle.std.specs.Str.{bytes_eq}
use Rattle.std.specs.Cmp.Lexicographic.{nat_list_eq_equiv}
use Rattle.std.proofs.lemmas.Slice.Eq.{bytes_eq-Decides}
use Rattle.std.proofs.lemmas.Map.Keys.{IsDistinct-head, IsDistinct-tail, IsDistinct-push}
use Rattle.std.proofs.lemmas.List.{map-append}
use Rattle.name_index.specs.Named.{with_name}
use Rattle.table_config.specs.Tables.{FirstsCount, HoldsTables, firsts, names_of, table_named, with_table, with_tables}
use Rattle.table_config.specs.declared.config.TableEntry.{TableEntry}

None-Some : {A : Type 0} (a : A) → None ≡ Some a → ⊥
None-Some a e = cc

Some-injective : {A : Type 0} (a b : A) → Some a ≡ Some b → a ≡ b
Some-injective a b e = cc

true_false : true ≡ false → ⊥
true_false e = cc

by_cases : {P : Type 0} (b : Bool) → (b ≡ true → P) → (b ≡ false → P) → P
by_cases true passed failed = passed refl
by_cases false passed failed = failed refl

-- a name that stands at a place is there
pub some_any : (name : List ℕ) (names : List (List ℕ)) (place : ℕ) → slice_get names place ≡ Some name → list_any (bytes_eq name) names ≡ true
some_any name [] place at = absurd (None-Some name at)
some_any name (first ∷ names) zero at = ap (λ (b : Bool). b || list_any (bytes_eq name) names) ((bytes_eq-Decides name first).1 (sym (Some-injective first name at)))
some_any name (first ∷ names) (suc place) at =
    by_cases (bytes_eq name first) (λ e. ap (λ (b : Bool). b || list_any (bytes_eq name) names) e) (λ e. ap (λ (b : Bool). b || list_any (bytes_eq name) names) e ∙ some_any name names place at)

-- and one that stands nowhere is not
pub none_any : (name : List ℕ) (names : List (List ℕ)) → ((place : ℕ) → ¬ (slice_get names place ≡ Some name)) → list_any (bytes_eq name) names ≡ false
none_any name [] none = refl
none_any name (first ∷ names) none =
    by_cases (bytes_eq name first)
    (λ e. absurd (none zero (ap (λ (n : List ℕ). Some n) (sym ((bytes_eq-Decides name first).0 e)))))
    (λ e. ap (λ (b : Bool). b || list_any (bytes_eq name) names) e ∙ none_any name names (λ place. none (suc place)))

all_at : {A : Type 0} (P : A → Type 0) (xs : List A) (place : ℕ) (x : A) → AllByRecursion P xs → slice_get xs place ≡ Some x → P x
all_at P [] place x all at = absurd (None-Some x at)
all_at P (y ∷ xs) zero x all at = subst P (Some-injective y x at) all.0
all_at P (y ∷ xs) (suc place) x all at = all_at P xs place x all.1 at

-- the table at the place of a name is the first of that name, where no name stands twice
pub named_at : (name : List ℕ) (tables : List TableEntry) (place : ℕ) (table : TableEntry) → IsDistinct bytes_eq (names_of tables)
    → slice_get (names_of tables) place ≡ Some name → slice_get tables place ≡ Some table → table_named name tables ≡ Some table
named_at name [] place table once at here = absurd (None-Some table here)
named_at name (first ∷ tables) zero table once at here =
    ap (λ (b : Bool). cond b (Some first) (table_named name tables)) ((bytes_eq-Decides name first.name).1 (sym (Some-injective first.name name at))) ∙ here
named_at name (first ∷ tables) (suc place) table once at here =
    let apart : bytes_eq first.name name ≡ false = all_at (λ (n : List ℕ). bytes_eq first.name n ≡ false) (names_of tables) place name (IsDistinct-head bytes_eq first.name (names_of tables) once) at in
    ap (λ (b : Bool). cond b (Some first) (table_named name tables)) (nat_list_eq_equiv.symm name first.name ∙ apart)
    ∙ named_at name tables place table (IsDistinct-tail bytes_eq first.name (names_of tables) once) at here

-- whether a name is one of the tables'
pub any_named : (name : List ℕ) (tables : List TableEntry) → list_any (bytes_eq name) (names_of tables) ≡ is_some (table_named name tables)
any_named name [] = refl
any_named name (table ∷ tables) =
    by_cases (bytes_eq name table.name)
    (λ e. ap (λ (b : Bool). b || list_any (bytes_eq name) (names_of tables)) e ∙ sym (ap (λ (b : Bool). is_some (cond b (Some table) (table_named name tables))) e))
    (λ e. ap (λ (b : Bool). b || list_any (bytes_eq name) (names_of tables)) e ∙ any_named name tables ∙ sym (ap (λ (b : Bool). is_some (cond b (Some table) (table_named name tables))) e))

none_of : {A : Type 0} (found : Option A) → is_some found ≡ false → found ≡ None
none_of None e = refl
none_of (Some a) e = absurd (true_false e)

pub none_named : (name : List ℕ) (tables : List TableEntry) → list_any (bytes_eq name) (names_of tables) ≡ false → table_named name tables ≡ None
none_named name tables none = none_of (table_named name tables) (sym (any_named name tables) ∙ none)

-- ---- one table more

pub passed_over : (tables : List TableEntry) (table : TableEntry) → list_any (bytes_eq table.name) (names_of tables) ≡ true → with_table tables table ≡ tables
passed_over tables table there = ap (λ (b : Bool). cond b tables (tables ++ table ∷ [])) there

pub put_behind : (tables : List TableEntry) (table : TableEntry) → list_any (bytes_eq table.name) (names_of tables) ≡ false → with_table tables table ≡ tables ++ table ∷ []
put_behind tables table none = ap (λ (b : Bool). cond b tables (tables ++ table ∷ [])) none

-- the index of the names goes along
pub holds_more : (tables : List TableEntry) (table : TableEntry) (names now : List (List ℕ)) (after : List TableEntry) → HoldsTables tables names → ((place : ℕ) → ¬ (slice_get names place ≡ Some table.name))
    → now ≡ with_name names table.name → after ≡ tables ++ table ∷ [] → HoldsTables after now
holds_more tables table names now after holds none now_is after_is =
    let apart : list_any (bytes_eq table.name) names ≡ false = none_any table.name names none in
    let apart_here : list_any (bytes_eq table.name) (names_of tables) ≡ false = ap (list_any (bytes_eq table.name)) (sym holds.named) ∙ apart in
    let more : names_of after ≡ names_of tables ++ table.name ∷ [] = ap names_of after_is ∙ map-append (λ (t : TableEntry). t.name) tables (table ∷ []) in
    record {
      named = now_is ∙ ap (λ (b : Bool). cond b names (names ++ table.name ∷ [])) apart ∙ ap (λ (l : List (List ℕ)). l ++ table.name ∷ []) holds.named ∙ sym more;
      once = subst (λ (l : List (List ℕ)). IsDistinct bytes_eq l) (sym more) (IsDistinct-push nat_list_eq_equiv (names_of tables) table.name holds.once apart_here);
    }

pub holds_none : HoldsTables [] []
unfolding IsDistinct
holds_none = record { named = refl; once = tt }

-- ---- tables one by one

with_more : (tables others : List TableEntry) (table : TableEntry) → with_tables tables (others ++ table ∷ []) ≡ with_table (with_tables tables others) table
with_more tables [] table = refl
with_more tables (other ∷ others) table = with_more (with_table tables other) others table

pub firsts_more : (tables : List TableEntry) (table : TableEntry) → firsts (tables ++ table ∷ []) ≡ with_table (firsts tables) table
firsts_more tables table = with_more [] tables table

-- ---- the law

abbrev first_of : Option TableEntry → Option TableEntry → Option TableEntry
first_of None second = second
first_of (Some first) second = Some first

first_alone : (first : Option TableEntry) → first_of first None ≡ first
first_alone None = refl
first_alone (Some first) = refl

first_there : (first second : Option TableEntry) → is_some first ≡ true → first_of first second ≡ first
first_there None second e = absurd (true_false (sym e))
first_there (Some first) second e = refl

first_first : (one two three : Option TableEntry) → first_of (first_of one two) three ≡ first_of one (first_of two three)
first_first None two three = refl
first_first (Some one) two three = refl

named_append : (name : List ℕ) (tables others : List TableEntry) → table_named name (tables ++ others) ≡ first_of (table_named name tables) (table_named name others)
named_append name [] others = refl
named_append name (table ∷ tables) others =
    by_cases (bytes_eq name table.name)
    (λ e. ap (λ (b : Bool). cond b (Some table) (table_named name (tables ++ others))) e ∙ sym (ap (λ (b : Bool). first_of (cond b (Some table) (table_named name tables)) (table_named name others)) e))
    (λ e. ap (λ (b : Bool). cond b (Some table) (table_named name (tables ++ others))) e ∙ named_append name tables others
    ∙ sym (ap (λ (b : Bool). first_of (cond b (Some table) (table_named name tables)) (table_named name others)) e))

named_with : (name : List ℕ) (tables : List TableEntry) (table : TableEntry) → table_named name (with_table tables table) ≡ first_of (table_named name tables) (table_named name (table ∷ []))
named_with name tables table =
    by_cases (list_any (bytes_eq table.name) (names_of tables))
    (λ there. ap (table_named name) (passed_over tables table there) ∙ sym (by_cases (bytes_eq name table.name) (same there) apart))
    (λ none. ap (table_named name) (put_behind tables table none) ∙ named_append name tables (table ∷ []))
  where
    same : list_any (bytes_eq table.name) (names_of tables) ≡ true → bytes_eq name table.name ≡ true → first_of (table_named name tables) (table_named name (table ∷ [])) ≡ table_named name tables
    same there e =
        let name_is : name ≡ table.name = (bytes_eq-Decides name table.name).0 e in
        let found : is_some (table_named name tables) ≡ true = sym (any_named name tables) ∙ ap (λ (n : List ℕ). list_any (bytes_eq n) (names_of tables)) name_is ∙ there in
        first_there (table_named name tables) (table_named name (table ∷ [])) found

    apart : bytes_eq name table.name ≡ false → first_of (table_named name tables) (table_named name (table ∷ [])) ≡ table_named name tables
    apart e = ap (λ (b : Bool). first_of (table_named name tables) (cond b (Some table) None)) e ∙ first_alone (table_named name tables)

named_all : (name : List ℕ) (tables others : List TableEntry) → table_named name (with_tables tables others) ≡ first_of (table_named name tables) (table_named name others)
named_all name tables [] = sym (first_alone (table_named name tables))
named_all name tables (table ∷ others) =
    named_all name (with_table tables table) others ∙ ap (λ (f : Option TableEntry). first_of f (table_named name others)) (named_with name tables table)
    ∙ first_first (table_named name tables) (table_named name (table ∷ [])) (table_named name others)
    ∙ ap (first_of (table_named name tables)) (sym (named_append name (table ∷ []) others))

once_with : (tables : List TableEntry) (table : TableEntry) → IsDistinct bytes_eq (names_of tables) → IsDistinct bytes_eq (names_of (with_table tables table))
once_with tables table once =
    by_cases (list_any (bytes_eq table.name) (names_of tables))
    (λ there. subst (λ (l : List TableEntry). IsDistinct bytes_eq (names_of l)) (sym (passed_over tables table there)) once)
    (λ none. subst (λ (l : List TableEntry). IsDistinct bytes_eq (names_of l)) (sym (put_behind tables table none))
    (subst (λ (l : List (List ℕ)). IsDistinct bytes_eq l) (sym (map-append (λ (t : TableEntry). t.name) tables (table ∷ []))) (IsDistinct-push nat_list_eq_equiv (names_of tables) table.name once none)))

once_all : (tables others : List TableEntry) → IsDistinct bytes_eq (names_of tables) → IsDistinct bytes_eq (names_of (with_tables tables others))
once_all tables [] once = once
once_all tables (table ∷ others) once = once_all (with_table tables table) others (once_with tables table once)

pub firsts_count : FirstsCount
firsts_count tables = record { named = λ name. named_all name [] tables; once = once_all [] tables holds_none.once }
