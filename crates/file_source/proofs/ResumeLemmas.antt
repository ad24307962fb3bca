-- A file's rows behind one of its states.
use Rattle.std.proofs.Common.{◌≡◌, ◌≢◌, ◌∙◌, ℕ, zero, suc, ◌+◌, List, [], ◌∷◌, ◌++◌, drop, length, refl, sym, ap, subst, arith}
use Rattle.std.proofs.lemmas.List.{drop-drop, length-drop, length-append, drop_at}
use Rattle.source_lines.specs.Checkpoints.{Row, stretches, rows_in}
use Rattle.source_lines.specs.Streams.{blob_behind}
use Rattle.source_lines.proofs.CutLemmas.{cuts_alike}
use Rattle.csv_sheet.specs.Sheet.{Fields}
use Rattle.file_source.specs.Blob.{row_blob}
use Rattle.file_source.specs.Rows.{rows_from, rows_of}
use Rattle.file_source.specs.Laws.{FilesResume}

drop_rows : (header : Fields) (behind number : ℕ) (records : List Fields) → drop behind (rows_from header number records) ≡ rows_from header (number + behind) (drop behind records)
drop_rows header zero number records = let same : number ≡ number + 0 = omega arith in ap (λ (n : ℕ). rows_from header n records) same
drop_rows header (suc behind) number [] = refl
drop_rows header (suc behind) number (fields ∷ records) =
    let same : (number + 1) + behind ≡ number + suc behind = omega arith in
    drop_rows header behind (number + 1) records ∙ ap (λ (n : ℕ). rows_from header n (drop behind records)) same

pub length-rows : (header : Fields) (number : ℕ) (records : List Fields) → length (rows_from header number records) ≡ length records
length-rows header number [] = refl
length-rows header number (fields ∷ records) = ap (λ (n : ℕ). suc n) (length-rows header (number + 1) records)

abbrev blob_of_first : List Row → List ℕ
blob_of_first [] = []
blob_of_first (row ∷ rows) = row.blob

abbrev others : List Row → List Row
others [] = []
others (row ∷ rows) = rows

abbrev IsSome : List Row → Type 0
IsSome [] = ⊥
IsSome (row ∷ rows) = Unit {0}

pub not_none : (row : Row) (rows : List Row) → ¬ ([] ≡ row ∷ rows)
not_none row rows same = let P : List Row → Type 0 = IsSome in subst P (sym same) tt

-- rows from behind a record on carry their numbers
told_behind : (header : Fields) (behind : ℕ) (records : List Fields) (blob : List ℕ) (gone left : List Row) → rows_from header (behind + 1) records ≡ gone ++ left → gone ≢ []
    → blob_behind blob gone ≡ row_blob (behind + length gone)
told_behind header behind records blob [] left is some = absurd (some refl)
told_behind header behind [] blob (row ∷ gone) left is some = absurd (not_none row (gone ++ left) is)
told_behind header behind (fields ∷ records) blob (row ∷ []) left is some = sym (ap blob_of_first is)
told_behind header behind (fields ∷ records) blob (row ∷ next ∷ gone) left is some =
    let count : (behind + 1) + length (next ∷ gone) ≡ behind + length (row ∷ next ∷ gone) = omega arith in
    told_behind header (behind + 1) records row.blob (next ∷ gone) left (ap others is) (λ none. not_none next gone (sym none)) ∙ ap row_blob count

some_stretch : (gone : List (List Row)) → rows_in gone ≢ [] → gone ≢ []
some_stretch gone some none = some (ap rows_in none)

pub resume : FilesResume
resume sheet every behind blob gone left within is some =
    let whole = rows_of sheet in
    let cut = cuts_alike every (drop behind whole) gone left is (some_stretch gone some) in
    let size : length whole ≡ length sheet.records = length-rows sheet.header 1 sheet.records in
    let both : length (drop behind whole) ≡ length (rows_in gone) + length (rows_in left) = ap length cut.whole ∙ length-append (rows_in gone) (rows_in left) in
    let behind_is : drop (behind + length (rows_in gone)) whole ≡ rows_in left =
    sym (drop-drop (length (rows_in gone)) behind whole) ∙ ap (drop (length (rows_in gone))) cut.whole ∙ drop_at (rows_in gone) (rows_in left) (length (rows_in gone)) refl in
    let first : 1 + behind ≡ behind + 1 = omega arith in
    let rows : rows_from sheet.header (behind + 1) (drop behind sheet.records) ≡ rows_in gone ++ rows_in left =
    ap (λ (n : ℕ). rows_from sheet.header n (drop behind sheet.records)) (sym first) ∙ sym (drop_rows sheet.header behind 1 sheet.records) ∙ cut.whole in
    record {
      number = behind + length (rows_in gone);
      place = refl;
      within = omega (arith, within, size, both, length-drop behind whole);
      told = told_behind sheet.header behind (drop behind sheet.records) blob (rows_in gone) (rows_in left) rows some;
      rows = behind_is;
      rest = λ more. ap (stretches every) behind_is ∙ cut.rest more;
    }
