-- What a text of CSV (RFC 4180) holds: a first record, which names the columns, and the records behind it, each of as many
-- fields. Every field is text.
use Rattle.std.specs.Prelude.{ℕ, ◌+◌, List, [], ◌∷◌, ◌&&◌, length, nat_eq, if◌then◌else◌, Bool, true, Option, None, Some, Result, Ok, Err}
use Rattle.std.specs.Str.{is_utf8}
use Rattle.csv.specs.Reading.{default_config, records, strip_bom}

abbrev pub Fields : Type 0
Fields = List (List ℕ)

pub record Sheet : Type 0 where
  pub header : Fields
  pub records : List Fields

abbrev pub are_texts : Fields → Bool
are_texts [] = true
are_texts (field ∷ fields) = is_utf8 field && are_texts fields

-- the record is one of these columns
abbrev pub fits : Fields → Fields → Bool
fits header fields = nat_eq (length fields) (length header) && are_texts fields

-- the number of the first record that does not fit, where the first has this number
abbrev pub first_misfit : Fields → ℕ → List Fields → Option ℕ
first_misfit header number [] = None
first_misfit header number (fields ∷ others) = if fits header fields then first_misfit header (number + 1) others else Some number

-- these records under their header, or the number of the first that does not fit
abbrev pub sheet_unless : Option ℕ → Fields → List Fields → Result Sheet ℕ
sheet_unless None header others = Ok (record { header = header; records = others })
sheet_unless (Some number) header others = Err number

-- The header has number 0, and the first record behind it 1. A text without records has no columns.
abbrev pub sheet_of : List Fields → Result Sheet ℕ
sheet_of [] = Ok (record { header = []; records = [] })
sheet_of (header ∷ others) = if are_texts header then sheet_unless (first_misfit header 1 others) header others else Err 0

-- what a file's text holds, or the number of the first record that is refused
abbrev pub sheet_in : List ℕ → Result Sheet ℕ
sheet_in text = sheet_of (records default_config (strip_bom text))
