-- Where the states of a list of rows stand: as soon as so many rows stand behind the last one and a state may stand there,
-- and behind the last row.
use Rattle.std.specs.Prelude.{◌≡◌, ◌≢◌, ◌&&◌, ℕ, List, [], ◌∷◌, ◌++◌, length, nat_le, Bool, true, false, if◌then◌else◌}

-- A row of a source's list: its body, a JSON object; the blob of a state that stands behind it; and whether one may stand
-- there, before the next row.
pub record Row : Type 0 where
  pub body : List ℕ
  pub blob : List ℕ
  pub closes : Bool

abbrev pub closes_last : List Row → Bool
closes_last [] = false
closes_last (row ∷ []) = row.closes
closes_last (row ∷ next ∷ rows) = closes_last (next ∷ rows)

-- whether a state is due behind these rows, which are all since the last one
abbrev pub is_due : ℕ → List Row → Bool
is_due every rows = nat_le every (length rows) && closes_last rows

-- rows behind the last state, where there are any
abbrev pub last_stretch : List Row → List (List Row)
last_stretch [] = []
last_stretch (row ∷ rows) = (row ∷ rows) ∷ []

-- these rows and those behind them, cut behind each row where a state is due, and behind the last
abbrev pub cut_behind : ℕ → List Row → List Row → List (List Row)
cut_behind every front [] = last_stretch front
cut_behind every front (row ∷ rows) =
    if is_due every (front ++ row ∷ []) then (front ++ row ∷ []) ∷ cut_behind every [] rows
    else cut_behind every (front ++ row ∷ []) rows

-- The list cut at its states, which stand one behind each stretch. A list without rows has one state too.
abbrev pub stretches : ℕ → List Row → List (List Row)
stretches every [] = [] ∷ []
stretches every (row ∷ rows) = cut_behind every [] (row ∷ rows)

-- the rows of stretches, one behind the other
abbrev pub rows_in : List (List Row) → List Row
rows_in [] = []
rows_in (stretch ∷ others) = stretch ++ rows_in others

-- The law of a resumed list: a state before further rows stands behind a row that closes, and cut anew the rows behind it are cut
-- where the whole list was.
pub record CutsAlike (every : ℕ) (rows : List Row) (gone left : List (List Row)) : Type 0 where
  pub whole : rows ≡ rows_in gone ++ rows_in left
  pub closes : left ≢ [] → closes_last (rows_in gone) ≡ true
  pub rest : left ≢ [] → stretches every (rows_in left) ≡ left

abbrev pub CutsAnew : Type 0
CutsAnew = (every : ℕ) (rows : List Row) (gone left : List (List Row)) → stretches every rows ≡ gone ++ left → gone ≢ [] → CutsAlike every rows gone left
