-- A file's records as the rows of a source's list.
use Rattle.std.specs.Prelude.{ℕ, ◌+◌, List, [], ◌∷◌, ◌++◌, drop, true}
use Rattle.json.specs.Print.{quoted}
use Rattle.json_write.specs.Objects.{Part, named, object_text}
use Rattle.source_lines.specs.Checkpoints.{Row}
use Rattle.csv_sheet.specs.Sheet.{Fields, Sheet}
use Rattle.file_source.specs.Blob.{row_blob}

-- each column's name with its field, in the order of the columns
abbrev pub columns_with : Fields → Fields → List Part
columns_with [] fields = []
columns_with (name ∷ names) [] = []
columns_with (name ∷ names) (field ∷ fields) = named name (quoted field) ∷ columns_with names fields

-- a record's object
abbrev pub body_of : Fields → Fields → List ℕ
body_of header fields = object_text (columns_with header fields)

-- records as rows, the first of them with this number; a state may stand behind each
abbrev pub rows_from : Fields → ℕ → List Fields → List Row
rows_from header number [] = []
rows_from header number (fields ∷ records) =
    record { body = body_of header fields; blob = row_blob number; closes = true } ∷ rows_from header (number + 1) records

-- the rows of a file
abbrev pub rows_of : Sheet → List Row
rows_of sheet = rows_from sheet.header 1 sheet.records

-- What contracts see of the rows of a file that stand behind so many records.
pub record RowsSeen : Type 0 where
  pub sheet : Sheet
  pub behind : ℕ

abbrev pub rows_behind : RowsSeen → List Row
rows_behind rows = drop rows.behind (rows_of rows.sheet)

-- For private clauses: what stands before a field of a column.
abbrev pub key_text : List ℕ → List ℕ
key_text name = quoted name ++ 58 ∷ []
