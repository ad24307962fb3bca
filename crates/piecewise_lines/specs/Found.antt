-- What a search of the bytes from a place on finds.
use Rattle.std.specs.Prelude.{◌≡◌, ℕ, ◌+◌, ◌<◌, ◌≤◌, List, length, drop, slice_range}
use Rattle.text_lines.specs.Lines.{pieces_of}
use Rattle.piecewise_lines.specs.Unread.{IsSearched}
use Rattle.piecewise_lines.specs.Next.{next_of, passed_of}
use Rattle.piecewise_lines.specs.declared.NextLine.{NextLine}
use Rattle.piecewise_lines.specs.declared.NextLine.TheVariants as answer
use Rattle.piecewise_lines.specs.declared.Found.{Found}
use Rattle.piecewise_lines.specs.declared.Found.TheVariants as found

-- what comes next of the bytes from one place on, and that they are left from another place on
pub record Gives (limit : ℕ) (bytes : List ℕ) (from to : ℕ) (given : NextLine) : Type 0 where
  pub answer : next_of limit (pieces_of (drop from bytes)) ≡ given
  pub left : drop (passed_of limit (pieces_of (drop from bytes))) (drop from bytes) ≡ drop to bytes

-- a line and the place of its newline
pub record FindsLine (limit : ℕ) (bytes : List ℕ) (from start end : ℕ) : Type 0 where
  pub ordered : start ≤ end
  pub inside : end < length bytes
  pub gives : Gives limit bytes from (end + 1) (answer.Line (slice_range bytes start end))

-- no line, and how far no newline stands
pub record FindsNone (limit : ℕ) (bytes : List ℕ) (from start searched : ℕ) (given : NextLine) : Type 0 where
  pub place : IsSearched bytes start searched
  pub gives : Gives limit bytes from start given

abbrev pub IsFound : ℕ → List ℕ → ℕ → Found → Type 0
IsFound limit bytes from (found.Line start end) = FindsLine limit bytes from start end
IsFound limit bytes from (found.TooLong start searched) = FindsNone limit bytes from start searched answer.TooLong
IsFound limit bytes from (found.More start) = FindsNone limit bytes from start (length bytes) answer.More
