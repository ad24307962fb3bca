-- The records of a sheet, whose fields stand one behind the other.
use Rattle.std.proofs.Common.{◌≡◌, ◌∙◌, ℕ, zero, suc, ◌+◌, ◌*◌, ◌<◌, ◌≤◌, List, [], ◌∷◌, ◌++◌, length, take, drop, None, Some, slice_get, refl, sym, ap, arith}
use Rattle.std.proofs.lemmas.List.{take_all, take-append-le, drop-append-le, length-drop}
use Rattle.std.proofs.lemmas.Nat.{mul-add-lt}
use Rattle.csv.specs.Records.{field_at}
use Rattle.csv_sheet.specs.Sheet.{Fields}
use Rattle.csv_sheet.specs.Cells.{records_cut}

pub cut_length : (columns count : ℕ) (cells : Fields) → length (records_cut columns count cells) ≡ count
cut_length columns zero cells = refl
cut_length columns (suc count) cells = ap (λ (n : ℕ). suc n) (cut_length columns count (drop columns cells))

times_more : (count columns : ℕ) → suc count * columns ≡ columns + count * columns
times_more count columns = omega arith

empty_is : (cells : Fields) → length cells ≡ 0 → cells ≡ []
empty_is [] none = refl
empty_is (cell ∷ cells) none = absurd (omega (arith, none))

-- a record more
pub cut_more : (columns count : ℕ) (cells row : Fields) → length cells ≡ count * columns → length row ≡ columns → records_cut columns (count + 1) (cells ++ row) ≡ records_cut columns count cells ++ row ∷ []
cut_more columns zero cells row size whole =
    ap (λ (l : Fields). take columns (l ++ row) ∷ []) (empty_is cells (omega (arith, size))) ∙ ap (λ (l : Fields). l ∷ []) (take_all columns row (omega (arith, whole)))
cut_more columns (suc count) cells row size whole =
    let more : suc count + 1 ≡ suc (count + 1) = omega arith in
    let within : columns ≤ length cells = omega (arith, size, times_more count columns) in
    let left : length (drop columns cells) ≡ count * columns = omega (arith, size, times_more count columns, length-drop columns cells) in
    ap (λ (n : ℕ). records_cut columns n (cells ++ row)) more
    ∙ ap (λ (l : Fields). l ∷ records_cut columns (count + 1) (drop columns (cells ++ row))) (take-append-le columns cells row within)
    ∙ ap (λ (l : Fields). take columns cells ∷ records_cut columns (count + 1) l) (drop-append-le columns cells row within)
    ∙ ap (λ (l : List Fields). take columns cells ∷ l) (cut_more columns count (drop columns cells) row left whole)

pub size_more : (columns count : ℕ) (cells row : Fields) → length cells ≡ count * columns → length row ≡ columns → length cells + length row ≡ (count + 1) * columns
size_more columns count cells row size whole =
    let more : (count + 1) * columns ≡ columns + count * columns = omega arith in
    omega (arith, size, whole, more)

pub cell_within : (columns count row column : ℕ) → row < count → column < columns → row * columns + column < count * columns
cell_within columns count row column first second = omega (arith, mul-add-lt row columns column count first second)

some_is : (a b : Fields) → Some a ≡ Some b → a ≡ b
some_is a b same = cc

none_some : (a : Fields) → ¬ (None ≡ Some a)
none_some a same = cc

get_take : (n at : ℕ) (cells : Fields) → at < n → slice_get (take n cells) at ≡ slice_get cells at
get_take zero at cells within = absurd (omega (arith, within))
get_take (suc n) at [] within = refl
get_take (suc n) zero (cell ∷ cells) within = refl
get_take (suc n) (suc at) (cell ∷ cells) within = get_take n at cells (omega (arith, within))

get_none : (at : ℕ) → slice_get {X = List ℕ} [] at ≡ None
get_none zero = refl
get_none (suc at) = refl

get_drop : (n at : ℕ) (cells : Fields) → slice_get (drop n cells) at ≡ slice_get cells (n + at)
get_drop zero at cells = let same : at ≡ 0 + at = omega arith in ap (slice_get cells) same
get_drop (suc n) at [] = get_none at ∙ sym (get_none (suc n + at))
get_drop (suc n) at (cell ∷ cells) =
    let same : suc (n + at) ≡ suc n + at = omega arith in
    get_drop n at cells ∙ ap (slice_get (cell ∷ cells)) same

-- a field of a record among all fields
pub cell_of : (columns count row column : ℕ) (cells fields : Fields) → column < columns → slice_get (records_cut columns count cells) row ≡ Some fields → slice_get fields column ≡ slice_get cells (row * columns + column)
cell_of columns zero row column cells fields within at = absurd (none_some fields (sym (none row) ∙ at))
  where
    none : (row : ℕ) → slice_get {X = Fields} [] row ≡ None
    none zero = refl
    none (suc row) = refl
cell_of columns (suc count) zero column cells fields within at =
    let same : column ≡ 0 * columns + column = omega arith in
    ap (λ (f : Fields). slice_get f column) (sym (some_is (take columns cells) fields at)) ∙ get_take columns column cells within ∙ ap (slice_get cells) same
cell_of columns (suc count) (suc row) column cells fields within at =
    let more : columns + (row * columns + column) ≡ suc row * columns + column = omega (arith, times_more row columns) in
    cell_of columns count row column (drop columns cells) fields within at ∙ get_drop columns (row * columns + column) cells ∙ ap (slice_get cells) more

pub field_is : (fields : Fields) (place : ℕ) → field_at fields place ≡ slice_get fields place
unfolding field_at
field_is [] zero = refl
field_is [] (suc place) = refl
field_is (field ∷ fields) zero = refl
field_is (field ∷ fields) (suc place) = field_is fields place
