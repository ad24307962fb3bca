-- Whether records fit their header, one by one.
use Rattle.std.proofs.Common.{◌≡◌, ◌∙◌, ◌&&◌, ◌++◌, ℕ, zero, suc, ◌+◌, ◌<◌, List, [], ◌∷◌, length, drop, Bool, true, false, cond, Option, None, Some, Ok, Err, nat_eq, refl, sym, ap, arith}
use Rattle.std.specs.Str.{is_utf8}
use Rattle.std.proofs.lemmas.Str.{IsUtf8-from_is_utf8, is_utf8-from_IsUtf8}
use Rattle.std.proofs.lemmas.List.{append_assoc}
use Rattle.csv.specs.Records.{AllText, field_at}
use Rattle.csv_sheet.specs.Sheet.{Fields, are_texts, first_misfit, fits, sheet_of, sheet_unless}

by_cases : {P : Type 0} (b : Bool) → (b ≡ true → P) → (b ≡ false → P) → P
by_cases true met unmet = met refl
by_cases false met unmet = unmet refl

-- ---- texts

both_true : (a b : Bool) → a ≡ true → b ≡ true → a && b ≡ true
both_true true b first second = second
both_true false b first second = first

pub texts_are : (fields : Fields) → AllText fields → are_texts fields ≡ true
unfolding AllText
texts_are [] all = refl
texts_are (field ∷ fields) all = both_true (is_utf8 field) (are_texts fields) (is_utf8-from_IsUtf8 field all.0) (texts_are fields all.1)

first_true : (a b : Bool) → a && b ≡ true → a ≡ true
first_true true b both = refl
first_true false b both = both

second_true : (a b : Bool) → a && b ≡ true → b ≡ true
second_true true b both = both
second_true false b both = absurd (cc)

all_texts : (fields : Fields) → are_texts fields ≡ true → AllText fields
unfolding AllText
all_texts [] are = tt
all_texts (field ∷ fields) are = (IsUtf8-from_is_utf8 field (first_true (is_utf8 field) (are_texts fields) are), all_texts fields (second_true (is_utf8 field) (are_texts fields) are))

pub no_texts : (fields : Fields) → ¬ AllText fields → are_texts fields ≡ false
no_texts fields not = by_cases (are_texts fields) (λ are. absurd (not (all_texts fields are))) (λ unmet. unmet)

-- ---- a record of other records

some_is : {A : Type 0} (a b : A) → Some a ≡ Some b → a ≡ b
some_is a b e = cc

none_some : {A : Type 0} (a : A) → ¬ (None ≡ Some a)
none_some a e = cc

pub field_there : (fields : Fields) (place : ℕ) → place < length fields → ¬ (None ≡ field_at fields place)
unfolding field_at
field_there [] place within none = omega (arith, within)
field_there (field ∷ fields) zero within none = none_some field none
field_there (field ∷ fields) (suc place) within none = field_there fields place (omega (arith, within)) none

pub field_drop : (fields : Fields) (place : ℕ) (field : List ℕ) → Some field ≡ field_at fields place → drop place fields ≡ field ∷ drop (place + 1) fields
unfolding field_at
field_drop [] place field at = absurd (none_some field (sym at))
field_drop (first ∷ fields) zero field at = ap (λ (f : List ℕ). f ∷ fields) (some_is first field (sym at))
field_drop (first ∷ fields) (suc place) field at =
    let more : suc (place + 1) ≡ suc place + 1 = omega arith in
    field_drop fields place field at ∙ ap (λ (n : ℕ). field ∷ drop n (first ∷ fields)) more

-- a field more of those of a record
pub pushed : (cells now row : Fields) (place : ℕ) (field : List ℕ) (all : Fields) → Some field ≡ field_at row place → now ≡ cells ++ field ∷ [] → cells ++ drop place row ≡ all → now ++ drop (place + 1) row ≡ all
pushed cells now row place field all at is so_far =
    ap (λ (l : Fields). l ++ drop (place + 1) row) is ∙ append_assoc cells (field ∷ []) (drop (place + 1) row)
    ∙ ap (λ (l : Fields). cells ++ l) (sym (field_drop row place field at)) ∙ so_far

-- ---- records under their header

cond_true : {A : Type 0} (b : Bool) (x y : A) → b ≡ true → cond b x y ≡ x
cond_true true x y is = refl
cond_true false x y is = absurd (cc)

cond_false : {A : Type 0} (b : Bool) (x y : A) → b ≡ false → cond b x y ≡ y
cond_false true x y is = absurd (cc)
cond_false false x y is = refl

none_fits : (header : Fields) (number : ℕ) (fields : Fields) (rows : List Fields) → first_misfit header number (fields ∷ rows) ≡ None → (fits header fields ≡ true) × (first_misfit header (number + 1) rows ≡ None)
none_fits header number fields rows none = by_cases (fits header fields)
    (λ met. (met, sym (cond_true (fits header fields) (first_misfit header (number + 1) rows) (Some number) met) ∙ none))
    (λ unmet. absurd (none_some number (sym none ∙ cond_false (fits header fields) (first_misfit header (number + 1) rows) (Some number) unmet)))

fit_next : (header : Fields) (number : ℕ) (fields : Fields) (rows : List Fields) → fits header fields ≡ true → first_misfit header number (fields ∷ rows) ≡ first_misfit header (number + 1) rows
fit_next header number fields rows met = cond_true (fits header fields) (first_misfit header (number + 1) rows) (Some number) met

-- the first that does not fit stands behind those that do
pub misfit_behind : (header : Fields) (number : ℕ) (rows : List Fields) (fields : Fields) (others : List Fields) → first_misfit header number rows ≡ None → fits header fields ≡ false
    → first_misfit header number (rows ++ fields ∷ others) ≡ Some (number + length rows)
misfit_behind header number [] fields others none unfit =
    let same : number ≡ number + 0 = omega arith in
    cond_false (fits header fields) (first_misfit header (number + 1) others) (Some number) unfit ∙ ap (λ (n : ℕ). Some n) same
misfit_behind header number (row ∷ rows) fields others none unfit =
    let fit = none_fits header number row rows none in
    let same : (number + 1) + length rows ≡ number + length (row ∷ rows) = omega arith in
    fit_next header number row (rows ++ fields ∷ others) fit.0 ∙ misfit_behind header (number + 1) rows fields others fit.1 unfit ∙ ap (λ (n : ℕ). Some n) same

-- one more that fits
pub fit_behind : (header : Fields) (number : ℕ) (rows : List Fields) (fields : Fields) → first_misfit header number rows ≡ None → fits header fields ≡ true
    → first_misfit header number (rows ++ fields ∷ []) ≡ None
fit_behind header number [] fields none fit = fit_next header number fields [] fit
fit_behind header number (row ∷ rows) fields none fit =
    let first = none_fits header number row rows none in
    fit_next header number row (rows ++ fields ∷ []) first.0 ∙ fit_behind header (number + 1) rows fields first.1 fit

-- ---- sheets

pub all_fit : (header : Fields) (rows : List Fields) → are_texts header ≡ true → first_misfit header 1 rows ≡ None → sheet_of (header ∷ rows) ≡ Ok (record { header = header; records = rows })
all_fit header rows are none =
    cond_true (are_texts header) (sheet_unless (first_misfit header 1 rows) header rows) (Err 0) are ∙ ap (λ (m : Option ℕ). sheet_unless m header rows) none

pub one_unfit : (header : Fields) (rows : List Fields) (number : ℕ) → are_texts header ≡ true → first_misfit header 1 rows ≡ Some number → sheet_of (header ∷ rows) ≡ Err number
one_unfit header rows number are is =
    cond_true (are_texts header) (sheet_unless (first_misfit header 1 rows) header rows) (Err 0) are ∙ ap (λ (m : Option ℕ). sheet_unless m header rows) is

pub header_unfit : (header : Fields) (rows : List Fields) → are_texts header ≡ false → sheet_of (header ∷ rows) ≡ Err 0
header_unfit header rows not = cond_false (are_texts header) (sheet_unless (first_misfit header 1 rows) header rows) (Err 0) not

second_false : (a b : Bool) → b ≡ false → a && b ≡ false
second_false true b is = is
second_false false b is = refl

first_false : (a b : Bool) → a ≡ false → a && b ≡ false
first_false true b is = absurd (cc)
first_false false b is = refl

pub unfit_text : (header fields : Fields) → are_texts fields ≡ false → fits header fields ≡ false
unfit_text header fields not = second_false (nat_eq (length fields) (length header)) (are_texts fields) not

pub unfit_count : (header fields : Fields) → nat_eq (length fields) (length header) ≡ false → fits header fields ≡ false
unfit_count header fields not = first_false (nat_eq (length fields) (length header)) (are_texts fields) not

pub fit_whole : (header fields : Fields) → nat_eq (length fields) (length header) ≡ true → are_texts fields ≡ true → fits header fields ≡ true
fit_whole header fields same are = both_true (nat_eq (length fields) (length header)) (are_texts fields) same are
