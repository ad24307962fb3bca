-- What a contract sees of lines that come in pieces.
use Rattle.std.specs.Prelude.{◌≡◌, ℕ, ◌≤◌, List, length, false, All, slice_range}
use Rattle.text_lines.specs.Lines.{is_newline}

-- the limit of a piece, and the bytes that were fed and not given yet
pub record Unread : Type 0 where
  pub limit : ℕ
  pub bytes : List ℕ

-- from the first place on nothing has been given, and up to the second no newline stands
pub record IsSearched (bytes : List ℕ) (start searched : ℕ) : Type 0 where
  pub ordered : start ≤ searched
  pub inside : searched ≤ length bytes
  pub none : All (λ byte. is_newline byte ≡ false) (slice_range bytes start searched)
