-- Files as the streams of a source.
use Rattle.std.proofs.Common.{◌≡◌, ◌∙◌, ℕ, zero, suc, ◌+◌, ◌<◌, ◌≤◌, List, [], ◌∷◌, length, drop, Bool, cond, Option, None, Some, Ok, Err, get_or, refl, sym, ap, arith}
use Rattle.std.specs.Str.{bytes_eq}
use Rattle.std.proofs.lemmas.Bool.{le-ltb, lt-ltb}
use Rattle.outside.specs.declared.status.Status.TheVariants as status
use Rattle.outside.specs.declared.faults.StateFault.TheVariants as fault
use Rattle.catalog.specs.declared.stream.ConfStream.{ConfStream}
use Rattle.json_fields.specs.Answer.{IsAnswer, IsOnly}
use Rattle.csv_sheet.specs.Sheet.{Sheet}
use Rattle.file_source.specs.Blob.{StartsBehind, first_blob}
use Rattle.file_source.specs.Files.{StartsAt, file_named, listed_in}
use Rattle.file_source.specs.Rows.{rows_behind}
use Rattle.file_source.specs.declared.source.FileText.{FileText}
use Rattle.file_source.specs.declared.source.FileStart.{FileStart}

file_drop : (files : List FileText) (at : ℕ) (default : FileText) → at < length files → drop at files ≡ get_or files at default ∷ drop (at + 1) files
file_drop [] at default within = absurd (omega (arith, within))
file_drop (file ∷ files) zero default within = refl
file_drop (file ∷ files) (suc at) default within =
    let more : suc (at + 1) ≡ suc at + 1 = omega arith in
    file_drop files at default (omega (arith, within)) ∙ ap (λ (n : ℕ). get_or files at default ∷ drop n (file ∷ files)) more

-- the next file is the one of this name, or another
pub named_at : (name : List ℕ) (files : List FileText) (at : ℕ) (file : FileText) (is : Bool) → at < length files → file ≡ get_or files at file → bytes_eq file.name name ≡ is
    → file_named name (drop at files) ≡ cond is (Some file) (file_named name (drop (at + 1) files))
named_at name files at file is within here told =
    ap (file_named name) (file_drop files at file within) ∙ ap (λ (f : FileText). file_named name (f ∷ drop (at + 1) files)) (sym here)
    ∙ ap (λ (b : Bool). cond b (Some file) (file_named name (drop (at + 1) files))) told

no_file : (name : List ℕ) (files : List FileText) (at : ℕ) → length files ≤ at → file_named name (drop at files) ≡ None
no_file name [] zero done = refl
no_file name [] (suc at) done = refl
no_file name (file ∷ files) zero done = absurd (omega (arith, done))
no_file name (file ∷ files) (suc at) done = no_file name files at (omega (arith, done))

pub none_named : (name : List ℕ) (files : List FileText) (at : ℕ) → length files ≤ at → file_named name (drop at files) ≡ None
none_named name files at done = no_file name files at done

-- ---- starts

pub starts_at : (stream : ConfStream) (blob copy : Option (List ℕ)) (behind : ℕ) → copy ≡ blob → IsOnly (StartsBehind blob) behind → IsOnly (StartsAt stream blob) (record { blob = copy; behind = behind })
starts_at stream blob copy behind same only = record {
  is = record { blob_is = same; behind = only.is };
  only = λ other is. λ k. record { blob = (is.blob_is ∙ sym same) k; behind = only.only other.behind is.behind k };
}

pub starts_nowhere : (stream : ConfStream) (blob : Option (List ℕ)) → IsAnswer (StartsBehind blob) None → IsAnswer (StartsAt stream blob) None
starts_nowhere stream blob none = λ start is. none start.behind is.behind

-- ---- what a stream has of a sheet

pub out_of_range : (every : ℕ) (start : FileStart) (sheet : Sheet) → length sheet.records < start.behind → listed_in every start sheet ≡ Err (status.BadState fault.OutOfRange)
out_of_range every start sheet above =
    ap (λ (b : Bool). cond b (Err (status.BadState fault.OutOfRange)) (Ok (record { every = every; blob = first_blob start.blob; rows = rows_behind (record { sheet = sheet; behind = start.behind }) }))) (lt-ltb (length sheet.records) start.behind above)

pub listed : (every : ℕ) (start : FileStart) (sheet : Sheet) → start.behind ≤ length sheet.records
    → listed_in every start sheet ≡ Ok (record { every = every; blob = first_blob start.blob; rows = rows_behind (record { sheet = sheet; behind = start.behind }) })
listed every start sheet within =
    ap (λ (b : Bool). cond b (Err (status.BadState fault.OutOfRange)) (Ok (record { every = every; blob = first_blob start.blob; rows = rows_behind (record { sheet = sheet; behind = start.behind }) }))) (le-ltb (length sheet.records) start.behind within)
