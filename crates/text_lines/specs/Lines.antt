-- The lines of a text: the pieces between newlines, blank ones left out. The last piece has no newline, and is a
-- line too where it is not blank.
use Rattle.std.specs.Prelude.{ℕ, List, filter, Bool, not, ◌&&◌, ◌==◌}
use Rattle.std.specs.List.{list_any, slice_split}

abbrev pub is_newline : ℕ → Bool
is_newline byte = byte == 10

-- a byte other than a space, a tab and a carriage return
abbrev pub is_shown : ℕ → Bool
is_shown byte = not (byte == 32) && (not (byte == 9) && not (byte == 13))

-- the piece is not blank
abbrev pub is_line : List ℕ → Bool
is_line piece = list_any is_shown piece

-- the pieces between newlines, one more than there are newlines
abbrev pub pieces_of : List ℕ → List (List ℕ)
pieces_of text = slice_split is_newline text

abbrev pub lines_of : List ℕ → List (List ℕ)
lines_of text = filter is_line (pieces_of text)
