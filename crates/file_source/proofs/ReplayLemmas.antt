-- A file's rows from its start on, and the places of its states.
use Rattle.std.proofs.Common.{◌≡◌, ◌∙◌, ℕ, ◌+◌, ◌≤◌, ◌<◌, ◌^◌, List, [], ◌∷◌, ◌++◌, drop, length, map, nat_lt, if◌then◌else◌, Bool, true, false, Option, None, Some, Result, Ok, Err, refl, sym, subst, arith}
use Rattle.std.proofs.lemmas.List.{drop-map, length-map}
use Rattle.outside.specs.declared.status.Status.{Status}
use Rattle.outside.specs.declared.status.Status.TheVariants as status
use Rattle.outside.specs.declared.faults.StateFault.TheVariants as fault
use Rattle.source_lines.specs.Checkpoints.{Row, rows_in, stretches}
use Rattle.source_lines.specs.Sources.{Listed}
use Rattle.source_lines.specs.Streams.{blob_behind}
use Rattle.csv_sheet.specs.Sheet.{Sheet}
use Rattle.file_source.specs.Blob.{IsRowBlob, StartsBehind, first_blob, row_blob}
use Rattle.file_source.specs.Laws.{FilesReplay, IsReplay}
use Rattle.file_source.specs.Rows.{rows_of}
use Rattle.file_source.specs.declared.source.FileStart.{FileStart}
use Rattle.file_source.proofs.BlobLemmas.{read_back}
use Rattle.file_source.proofs.ResumeLemmas.{length-rows, not_none, resume}

-- before any row a stream has the blob that it was started with, or one of no record
first_reads : (blob : Option (List ℕ)) (behind : ℕ) → StartsBehind blob behind → IsRowBlob (first_blob blob) behind
first_reads None behind none =
    let fits : 0 < 2 ^ 63 = omega arith in
    subst (λ (n : ℕ). IsRowBlob (row_blob 0) n) (sym none) (read_back 0 fits)
first_reads (Some blob) behind is = is

state_reads : (sheet : Sheet) (every : ℕ) (start : FileStart) → length sheet.records < 2 ^ 63 → start.behind ≤ length sheet.records → StartsBehind start.blob start.behind → (gone left : List (List Row))
    → stretches every (drop start.behind (rows_of sheet)) ≡ gone ++ left → IsRowBlob (blob_behind (first_blob start.blob) (rows_in gone)) (start.behind + length (rows_in gone))
state_reads sheet every start fits within starts gone left is = by (rows_in gone) refl
  where
    Reads : List Row → Type 0
    Reads rows = IsRowBlob (blob_behind (first_blob start.blob) rows) (start.behind + length rows)

    by : (rows : List Row) → rows_in gone ≡ rows → Reads (rows_in gone)
    by [] none =
        let same : start.behind ≡ start.behind + 0 = omega arith in
        let first : Reads [] = subst (λ (n : ℕ). IsRowBlob (first_blob start.blob) n) same (first_reads start.blob start.behind starts) in
        subst (λ (rows : List Row). IsRowBlob (blob_behind (first_blob start.blob) rows) (start.behind + length rows)) (sym none) first
    by (row ∷ rows) some =
        let found = resume sheet every start.behind (first_blob start.blob) gone left within is (λ none. not_none row rows (sym none ∙ some)) in
        let number : found.number < 2 ^ 63 = omega (arith, found.within, fits) in
        subst (λ (n : ℕ). IsRowBlob (blob_behind (first_blob start.blob) (rows_in gone)) n) found.place (subst (λ (text : List ℕ). IsRowBlob text found.number) (sym found.told) (read_back found.number number))

pub replay : FilesReplay
replay sheet every start listed fits starts is = by (nat_lt (length sheet.records) start.behind) refl is
  where
    whole : Listed
    whole = record { every = every; blob = first_blob start.blob; rows = drop start.behind (rows_of sheet) }

    bodies : List (List ℕ)
    bodies = map (λ (row : Row). row.body) (rows_of sheet)

    err_not_ok : (why : Status) → ◌≡◌ {A = Result Listed Status} (Err why) (Ok listed) → ⊥
    err_not_ok why e = cc

    the_ok : ◌≡◌ {A = Result Listed Status} (Ok whole) (Ok listed) → whole ≡ listed
    the_ok e = cc

    by : (far : Bool) → nat_lt (length sheet.records) start.behind ≡ far → (if far then Err (status.BadState fault.OutOfRange) else Ok whole) ≡ Ok listed → IsReplay IsRowBlob bodies start.behind listed
    by true there e = absurd (err_not_ok (status.BadState fault.OutOfRange) e)
    by false near e =
        let within : start.behind ≤ length sheet.records = grind (arith, near) in
        let count : length bodies ≡ length sheet.records = length-map (rows_of sheet) (λ (row : Row). row.body) ∙ length-rows sheet.header 1 sheet.records in
        subst (λ (l : Listed). IsReplay IsRowBlob bodies start.behind l) (the_ok e)
        (record {
          within = omega (arith, within, count);
          rest = sym (drop-map (λ (row : Row). row.body) start.behind (rows_of sheet));
          states = λ gone left cut some. state_reads sheet every start fits within starts gone left cut;
        })
