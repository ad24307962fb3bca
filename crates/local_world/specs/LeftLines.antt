-- For private clauses: the lines of a text that are left, by their places.
use Rattle.std.specs.Prelude.{◌≡◌, ℕ, ◌≤◌, List, [], ◌∷◌, ◌++◌, drop, length, map, slice_range, Bool, true, false, Option, None, Some}
use Rattle.text_lines.specs.Lines.{lines_of}
use Rattle.local_world.specs.declared.left_lines.Place.{Place}

-- a text, and the lines of it that are left
pub record LeftView : Type 0 where
  pub text : List ℕ
  pub left : List (List ℕ)

abbrev pub line_at : List ℕ → Place → List ℕ
line_at text place = slice_range text place.start place.end

-- the place is within the text
abbrev pub IsPlace : List ℕ → Place → Type 0
IsPlace text place = (place.start ≤ place.end) × (place.end ≤ length text)

-- the lines at these places, and all from here on
abbrev pub lines_left : List ℕ → List Place → ℕ → List (List ℕ)
lines_left text front behind = map (line_at text) front ++ lines_of (drop behind text)

-- a line is the first of those that were left, and none comes where none was
abbrev pub GivesLine : Option (List ℕ) → List (List ℕ) → List (List ℕ) → Type 0
GivesLine None old new = (old ≡ []) × (new ≡ [])
GivesLine (Some line) old new = old ≡ line ∷ new

-- the place of a line stands behind the others, unless it is left out
abbrev pub IsKeptUnless : Bool → Place → List Place → List Place → Type 0
IsKeptUnless true place places now = now ≡ places
IsKeptUnless false place places now = now ≡ places ++ place ∷ []
