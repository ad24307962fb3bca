-- The laws of a file's states.
use Rattle.std.specs.Prelude.{◌≡◌, ◌≢◌, ℕ, ◌+◌, ◌≤◌, ◌<◌, ◌^◌, List, [], ◌++◌, drop, length, map, Ok}
use Rattle.source_lines.specs.Checkpoints.{Row, stretches, rows_in}
use Rattle.source_lines.specs.Sources.{Listed}
use Rattle.source_lines.specs.Streams.{blob_behind}
use Rattle.csv_sheet.specs.Sheet.{Sheet}
use Rattle.file_source.specs.Blob.{IsRowBlob, StartsBehind, row_blob}
use Rattle.file_source.specs.Files.{listed_in}
use Rattle.file_source.specs.Rows.{rows_of}
use Rattle.file_source.specs.declared.source.FileStart.{FileStart}

-- A state behind these stretches of a file that was started behind so many records has the number of its last record; and
-- the file started behind that record has the rest: its rows, cut where the whole list was.
pub record Resumes (sheet : Sheet) (every behind : ℕ) (blob : List ℕ) (gone left : List (List Row)) : Type 0 where
  pub number : ℕ
  pub place : number ≡ behind + length (rows_in gone)
  pub within : number ≤ length sheet.records
  pub told : blob_behind blob (rows_in gone) ≡ row_blob number
  pub rows : drop number (rows_of sheet) ≡ rows_in left
  pub rest : left ≢ [] → stretches every (drop number (rows_of sheet)) ≡ left

abbrev pub FilesResume : Type 0
FilesResume = (sheet : Sheet) (every behind : ℕ) (blob : List ℕ) (gone left : List (List Row))
    → behind ≤ length sheet.records → stretches every (drop behind (rows_of sheet)) ≡ gone ++ left → rows_in gone ≢ []
    → Resumes sheet every behind blob gone left

-- The rows of a stream are those of the list from its start's place on, and each state stands behind as many of the list's rows as its
-- blob says: so the stream that is started with it has the rest.
pub record IsReplay (IsPlace : List ℕ → ℕ → Type 0) (all : List (List ℕ)) (place : ℕ) (listed : Listed) : Type 0 where
  pub within : place ≤ length all
  pub rest : map (λ row. row.body) listed.rows ≡ drop place all
  pub states : (gone left : List (List Row)) → stretches listed.every listed.rows ≡ gone ++ left → gone ≢ []
      → IsPlace (blob_behind listed.blob (rows_in gone)) (place + length (rows_in gone))

-- One list of rows, and a place in it for each state, whether a row stands before it or none, and whether the file was started anew
-- or from a state.
abbrev pub FilesReplay : Type 0
FilesReplay = (sheet : Sheet) (every : ℕ) (start : FileStart) (listed : Listed)
    → length sheet.records < 2 ^ 63 → StartsBehind start.blob start.behind → listed_in every start sheet ≡ Ok listed
    → IsReplay IsRowBlob (map (λ row. row.body) (rows_of sheet)) start.behind listed
