-- Files as the streams of a source: which file a stream is, and what it has.
use Rattle.std.specs.Prelude.{◌≡◌, ℕ, List, [], ◌∷◌, drop, length, nat_lt, if◌then◌else◌, Option, None, Some, Result, Ok, Err}
use Rattle.std.specs.Str.{bytes_eq}
use Rattle.outside.specs.declared.status.Status.{Status}
use Rattle.outside.specs.declared.status.Status.TheVariants as status
use Rattle.outside.specs.declared.faults.CatalogFault.TheVariants as catalog
use Rattle.outside.specs.declared.faults.StateFault.TheVariants as fault
use Rattle.catalog.specs.declared.stream.ConfStream.{ConfStream}
use Rattle.source_lines.specs.Sources.{Listed}
use Rattle.csv_sheet.specs.Sheet.{Sheet, sheet_in}
use Rattle.file_source.specs.Blob.{StartsBehind, first_blob}
use Rattle.file_source.specs.Rows.{rows_of}
use Rattle.file_source.specs.declared.source.FileText.{FileText}
use Rattle.file_source.specs.declared.source.FileStart.{FileStart}

-- the file that is the stream of this name, the first of them
abbrev pub file_named : List ℕ → List FileText → Option FileText
file_named name [] = None
file_named name (file ∷ files) = if bytes_eq file.name name then Some file else file_named name files

-- a stream starts there with this blob
pub record StartsAt (stream : ConfStream) (blob : Option (List ℕ)) (start : FileStart) : Type 0 where
  pub blob_is : start.blob ≡ blob
  pub behind : StartsBehind blob start.behind

-- What a stream has of a sheet, or that it starts behind more records than there are.
abbrev pub listed_in : ℕ → FileStart → Sheet → Result Listed Status
listed_in every start sheet =
    if nat_lt (length sheet.records) start.behind then Err (status.BadState fault.OutOfRange)
    else Ok (record { every = every; blob = first_blob start.blob; rows = drop start.behind (rows_of sheet) })

-- the stream with this number has a sheet, or a record that is refused
abbrev pub opened_sheet : ℕ → ℕ → FileStart → Result Sheet ℕ → Result Listed Status
opened_sheet every number start (Err row) = Err (status.BadRow number row)
opened_sheet every number start (Ok sheet) = listed_in every start sheet

abbrev pub opened_file : ℕ → FileStart → Option FileText → Result Listed Status
opened_file number start None = Err (status.BadCatalog (catalog.Missing number))
opened_file number start (Some file) = opened_sheet file.every number start (sheet_in file.text)

-- What the stream with this number has that starts there. The file is read and checked first.
abbrev pub opening : List FileText → ℕ → ConfStream → FileStart → Result Listed Status
opening files number stream start = opened_file number start (file_named stream.id.name files)
