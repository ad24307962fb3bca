-- The rows of a file that stand behind so many records.
use Rattle.std.proofs.Common.{◌≡◌, ◌∙◌, ℕ, zero, suc, ◌+◌, ◌-◌, ◌<◌, List, [], ◌∷◌, length, drop, true, None, Some, slice_get, refl, sym, ap, arith}
use Rattle.std.proofs.lemmas.List.{length-drop}
use Rattle.source_lines.specs.Checkpoints.{Row}
use Rattle.csv_sheet.specs.Sheet.{Fields}
use Rattle.file_source.specs.Blob.{row_blob}
use Rattle.file_source.specs.Rows.{RowsSeen, body_of, rows_behind, rows_from, rows_of}
use Rattle.file_source.proofs.ResumeLemmas.{length-rows}

some_is : (a b : Row) → Some a ≡ Some b → a ≡ b
some_is a b same = cc

none_some : (a : Row) → ¬ (None ≡ Some a)
none_some a same = cc

get_none : (at : ℕ) → slice_get {X = Row} [] at ≡ None
get_none zero = refl
get_none (suc at) = refl

get_drop : (n at : ℕ) (rows : List Row) → slice_get (drop n rows) at ≡ slice_get rows (n + at)
get_drop zero at rows = let same : at ≡ 0 + at = omega arith in ap (slice_get rows) same
get_drop (suc n) at [] = get_none at ∙ sym (get_none (suc n + at))
get_drop (suc n) at (row ∷ rows) =
    let same : suc (n + at) ≡ suc n + at = omega arith in
    get_drop n at rows ∙ ap (slice_get (row ∷ rows)) same

-- the row of a record
pub record IsRowOf (header : Fields) (number : ℕ) (records : List Fields) (at : ℕ) (row : Row) : Type 0 where
  pub fields : Fields
  pub there : slice_get records at ≡ Some fields
  pub body : row.body ≡ body_of header fields
  pub blob : row.blob ≡ row_blob (number + at)
  pub closes : row.closes ≡ true

rows_at : (header : Fields) (number : ℕ) (records : List Fields) (at : ℕ) (row : Row) → slice_get (rows_from header number records) at ≡ Some row → IsRowOf header number records at row
rows_at header number [] at row is = absurd (none_some row (sym (get_none at) ∙ is))
rows_at header number (fields ∷ records) zero row is =
    let made : Row = record { body = body_of header fields; blob = row_blob number; closes = true } in
    let same = some_is made row is in
    let first : number ≡ number + 0 = omega arith in
    record {
      fields = fields;
      there = refl;
      body = ap (λ (r : Row). r.body) (sym same);
      blob = ap (λ (r : Row). r.blob) (sym same) ∙ ap row_blob first;
      closes = ap (λ (r : Row). r.closes) (sym same);
    }
rows_at header number (fields ∷ records) (suc at) row is =
    let found = rows_at header (number + 1) records at row is in
    let next : (number + 1) + at ≡ number + suc at = omega arith in
    record { fields = found.fields; there = found.there; body = found.body; blob = found.blob ∙ ap row_blob next; closes = found.closes }

pub row_behind : (rows : RowsSeen) (place : ℕ) (row : Row) → slice_get (rows_behind rows) place ≡ Some row → IsRowOf rows.sheet.header 1 rows.sheet.records (rows.behind + place) row
row_behind rows place row is = rows_at rows.sheet.header 1 rows.sheet.records (rows.behind + place) row (sym (get_drop rows.behind place (rows_of rows.sheet)) ∙ is)

pub count_behind : (rows : RowsSeen) → length (rows_behind rows) ≡ length rows.sheet.records - rows.behind
count_behind rows = length-drop rows.behind (rows_of rows.sheet) ∙ ap (λ (n : ℕ). n - rows.behind) (length-rows rows.sheet.header 1 rows.sheet.records)

pub place_within : (rows : RowsSeen) (place : ℕ) → place < length (rows_behind rows) → rows.behind + place < length rows.sheet.records
place_within rows place within = omega (arith, within, count_behind rows)
