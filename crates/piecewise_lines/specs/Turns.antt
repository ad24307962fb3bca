-- A run of turns in which bytes are fed and lines are asked for, in any order.
use Rattle.std.specs.Prelude.{◌≡◌, ℕ, List, [], ◌∷◌, ◌++◌}
use Rattle.text_lines.specs.Lines.{lines_of}
use Rattle.piecewise_lines.specs.Unread.{Unread}
use Rattle.piecewise_lines.specs.Next.{answer_of, left_of, fed, given_by}

pub data Turn : Type 0 where
  feed : List ℕ → Turn
  ask : Turn

-- all bytes that were fed
abbrev pub fed_in : List Turn → List ℕ
fed_in [] = []
fed_in (feed chunk ∷ turns) = chunk ++ fed_in turns
fed_in (ask ∷ turns) = fed_in turns

-- the lines that were given, from this state on
abbrev pub given_in : Unread → List Turn → List (List ℕ)
given_in unread [] = []
given_in unread (feed chunk ∷ turns) = given_in (fed unread chunk) turns
given_in unread (ask ∷ turns) = given_by (answer_of unread) ++ given_in (left_of unread) turns

-- what is left then
abbrev pub left_after : Unread → List Turn → Unread
left_after unread [] = unread
left_after unread (feed chunk ∷ turns) = left_after (fed unread chunk) turns
left_after unread (ask ∷ turns) = left_after (left_of unread) turns

-- However the bytes are cut and whenever lines are asked for: the lines that were given, and then those of what is
-- left, are the lines of all bytes that were fed.
abbrev pub GivesAllLines : Type 0
GivesAllLines = (limit : ℕ) (turns : List Turn) →
    let unread : Unread = record { limit = limit; bytes = [] } in
    given_in unread turns ++ lines_of (left_after unread turns).bytes ≡ lines_of (fed_in turns)
