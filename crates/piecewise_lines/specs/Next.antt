-- What comes next of bytes that were fed, by the pieces between their newlines.
use Rattle.std.specs.Prelude.{◌≡◌, ℕ, ◌+◌, ◌≤◌, List, [], ◌∷◌, ◌++◌, length, drop, nat_lt, Option, None, Some, if◌then◌else◌}
use Rattle.text_lines.specs.Lines.{is_line, pieces_of, lines_of}
use Rattle.piecewise_lines.specs.Unread.{Unread}
use Rattle.piecewise_lines.specs.declared.NextLine.{NextLine}
use Rattle.piecewise_lines.specs.declared.NextLine.TheVariants as answer

-- The first piece that is too long, or the first line that has its newline, whichever comes first; blank pieces are
-- passed over. The last piece has no newline yet, and is no line so far.
abbrev pub next_of : ℕ → List (List ℕ) → NextLine
next_of limit [] = answer.More
next_of limit (last ∷ []) = if nat_lt limit (length last) then answer.TooLong else answer.More
next_of limit (piece ∷ following ∷ pieces) = if nat_lt limit (length piece) then answer.TooLong else if is_line piece then answer.Line piece else next_of limit (following ∷ pieces)

-- How many bytes are given or passed over with that answer: blank pieces and a line, each with its newline.
abbrev pub passed_of : ℕ → List (List ℕ) → ℕ
passed_of limit [] = 0
passed_of limit (last ∷ []) = 0
passed_of limit (piece ∷ following ∷ pieces) = if nat_lt limit (length piece) then 0 else if is_line piece then length piece + 1 else length piece + 1 + passed_of limit (following ∷ pieces)

-- the last piece where it is a line, and all before it was given or is blank, and nothing is too long
abbrev pub torn_of : ℕ → List (List ℕ) → Option (List ℕ)
torn_of limit [] = None
torn_of limit (last ∷ []) = if nat_lt limit (length last) then None else if is_line last then Some last else None
torn_of limit (piece ∷ following ∷ pieces) = if nat_lt limit (length piece) then None else if is_line piece then None else torn_of limit (following ∷ pieces)

-- the same of bytes
abbrev pub answer_of : Unread → NextLine
answer_of unread = next_of unread.limit (pieces_of unread.bytes)

abbrev pub torn_line : Unread → Option (List ℕ)
torn_line unread = torn_of unread.limit (pieces_of unread.bytes)

-- what is left when that answer was given
abbrev pub left_of : Unread → Unread
left_of unread = record unread { bytes = drop (passed_of unread.limit (pieces_of unread.bytes)) unread.bytes }

-- what is left when more was fed
abbrev pub fed : Unread → List ℕ → Unread
fed unread chunk = record unread { bytes = unread.bytes ++ chunk }

-- the lines that an answer gives
abbrev pub given_by : NextLine → List (List ℕ)
given_by (answer.Line line) = line ∷ []
given_by answer.TooLong = []
given_by answer.More = []

-- whatever is fed later, the lines come in their order: those that were given, and those of what is left
abbrev pub IsInOrder : Unread → Unread → List (List ℕ) → Type 0
IsInOrder before after lines = (more : List ℕ) → lines_of (before.bytes ++ more) ≡ lines ++ lines_of (after.bytes ++ more)

-- one piece is left, which has no newline yet and is within the limit
pub record IsTorn (unread : Unread) : Type 0 where
  pub piece : pieces_of unread.bytes ≡ unread.bytes ∷ []
  pub within : length unread.bytes ≤ unread.limit

-- What is too long stays too long, whatever is fed.
abbrev pub StaysTooLong : Type 0
StaysTooLong = (unread : Unread) (more : List ℕ) → answer_of unread ≡ answer.TooLong → answer_of (fed (left_of unread) more) ≡ answer.TooLong
