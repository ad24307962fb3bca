-- The winners of a side: of each key one row, in order of their keys.
use Rattle.std.specs.Prelude.{◌≡◌, ℕ, List, [], ◌∷◌, map, fold, Option, None, Some, if◌then◌else◌}
use Rattle.std.specs.Str.{bytes_eq}
use Rattle.std.specs.List.{AllByRecursion}
use Rattle.std.specs.Ordering.{match_ordering, nat_cmp}
use Rattle.std.specs.Cmp.Lexicographic.{slice_cmp}
use Rattle.outside.specs.declared.event.RawRow.{RawRow}

-- the winners with this row in the place of its key's
abbrev pub put_winner : List RawRow → RawRow → List RawRow
put_winner [] row = row ∷ []
put_winner (winner ∷ winners) row = match_ordering (slice_cmp nat_cmp row.key winner.key) (row ∷ winner ∷ winners) (row ∷ winners) (winner ∷ put_winner winners row)

-- the winners with each of these rows in the place of its key's, the first row first
abbrev pub put_winners : List RawRow → List RawRow → List RawRow
put_winners winners rows = fold put_winner winners rows

-- the winner of a key
abbrev pub winner_in : List RawRow → List ℕ → Option RawRow
winner_in [] key = None
winner_in (winner ∷ winners) key = if bytes_eq winner.key key then Some winner else winner_in winners key

-- the winners with rows that wait to be put in their places, of which the last comes next
abbrev pub still_waiting : List RawRow → List RawRow → List RawRow
still_waiting winners [] = winners
still_waiting winners (row ∷ rows) = put_winner (still_waiting winners rows) row
