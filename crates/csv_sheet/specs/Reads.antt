-- For private clauses: how a reader of a text goes from record to record.
use Rattle.std.specs.Prelude.{◌≡◌, ℕ, ◌*◌, List, [], ◌∷◌, ◌++◌, length, Bool, true, false, None, Some, Result, Ok, Err, ⊤}
use Rattle.std.specs.Borrow.{Bor}
use Rattle.csv.specs.Reading.{Reached, Ready, default_config, reader_config, reader_state, reader_trim, records, source_of, strip_bom}
use Rattle.csv.specs.declared.reader.Reader.{Reader}
use Rattle.csv.specs.declared.reader.Trim.TheVariants as trim
use Rattle.csv.specs.declared.parser.State.TheVariants as st
use Rattle.csv.specs.declared.error.ErrorKind.{ErrorKind}
use Rattle.csv.specs.declared.error.ErrorKind.TheVariants as kind
use Rattle.csv_sheet.specs.Sheet.{Fields, are_texts, first_misfit}
use Rattle.csv_sheet.specs.Cells.{records_cut}
use Rattle.csv_sheet.specs.declared.read.SheetFault.{SheetFault}
use Rattle.csv_sheet.specs.declared.read.SheetFault.TheVariants as fault

-- the reader stands behind these records of a text
pub record IsBehind (text : List ℕ) (rows : List Fields) (reader : Reader (Bor (List ℕ))) : Type 0 where
  pub plain : reader_trim reader ≡ trim.None
  pub ready : Ready reader
  pub config : reader_config reader ≡ default_config
  pub rest : List ℕ
  pub source : source_of (λ s. Some s.now) reader ≡ Some rest
  pub reached : Reached default_config st.StartRecord (strip_bom text) rows (reader_state reader) rest

-- behind these records of a text stands one that is no text
pub record BreaksBehind (text : List ℕ) (rows : List Fields) : Type 0 where
  pub fields : Fields
  pub others : List Fields
  pub are : records default_config (strip_bom text) ≡ rows ++ fields ∷ others
  pub unfit : are_texts fields ≡ false

-- the record was read, and is text
pub record ReadsOneMore (text : List ℕ) (rows : List Fields) (row : Fields) (reader : Reader (Bor (List ℕ))) : Type 0 where
  pub behind : IsBehind text (rows ++ row ∷ []) reader
  pub texts : are_texts row ≡ true

-- what the reading of the record with this number does, of which it says whether there was one
abbrev pub ReadsRow : ℕ → Result Bool SheetFault → Reader (Bor (List ℕ)) → Fields → Reader (Bor (List ℕ)) → Type 0
ReadsRow number (Ok true) old row new = (text : List ℕ) (rows : List Fields) → IsBehind text rows old → ReadsOneMore text rows row new
ReadsRow number (Ok false) old row new = (text : List ℕ) (rows : List Fields) → IsBehind text rows old → records default_config (strip_bom text) ≡ rows
ReadsRow number (Err (fault.Misfit at)) old row new = (at ≡ number) × ((text : List ℕ) (rows : List Fields) → IsBehind text rows old → BreaksBehind text rows)
ReadsRow number (Err fault.NoMemory) old row new = ⊤

-- so many records were read behind the header, and all fit
pub record RowsSoFar (text : List ℕ) (header : Fields) (count : ℕ) (cells : Fields) (reader : Reader (Bor (List ℕ))) : Type 0 where
  pub size : length cells ≡ count * length header
  pub behind : IsBehind text (header ∷ records_cut (length header) count cells) reader
  pub texts : are_texts header ≡ true
  pub fit : first_misfit header 1 (records_cut (length header) count cells) ≡ None

-- why the record with this number was not read
abbrev pub fault_at : ℕ → ErrorKind → SheetFault
fault_at number (kind.Io e) = fault.NoMemory
fault_at number (kind.Utf8 pos err) = fault.Misfit number
fault_at number (kind.UnequalLengths pos expected len) = fault.NoMemory
fault_at number kind.OutOfMemory = fault.NoMemory
fault_at number (kind.Serialize text) = fault.NoMemory
fault_at number (kind.Deserialize pos err) = fault.NoMemory
