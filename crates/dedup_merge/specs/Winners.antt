-- Winners: of each key the row that no other row of that key exceeds in cursor, load and sequence.
use Rattle.std.specs.Prelude.{◌≡◌, ◌≢◌, ℕ, List, [], ◌∷◌, ◌++◌, map, filter, fold, length, Bool, not, Option, None, Some, if◌then◌else◌}
use Rattle.std.specs.declared.cmp.Ordering.{Ordering}
use Rattle.std.specs.declared.cmp.Ordering.TheVariants.{Less, Greater}
use Rattle.std.specs.List.{AllByRecursion, list_any}
use Rattle.std.specs.Str.{bytes_eq}
use Rattle.std.specs.Ordering.{nat_cmp, on, then_cmp}
use Rattle.std.specs.Cmp.Lexicographic.{slice_cmp}
use Rattle.outside.specs.declared.event.RawRow.{RawRow}
use Rattle.outside.specs.Winners.{winner_in}
use Rattle.value_order.specs.Order.{order_of}
use Rattle.value_order.specs.declared.value.Value.{Value}
use Rattle.dedup_merge.specs.Cursors.{IsCursor}

-- Candidates: rows with the values of their cursors

pub record Candidate : Type 0 where
  pub row : RawRow
  pub value : Value

abbrev pub candidate_row : Candidate → RawRow
candidate_row candidate = candidate.row

abbrev pub candidate_value : Candidate → Value
candidate_value candidate = candidate.value

abbrev pub load_of : Candidate → ℕ
load_of candidate = candidate.row.load

abbrev pub seq_of : Candidate → ℕ
seq_of candidate = candidate.row.seq

abbrev pub HasCursor : Candidate → Type 0
HasCursor candidate = IsCursor candidate.row.cursor candidate.value

-- by cursor, then by load, then by sequence
abbrev pub rank : Candidate → Candidate → Ordering
rank = then_cmp (on candidate_value order_of) (then_cmp (on load_of nat_cmp) (on seq_of nat_cmp))

abbrev pub IsLess : Candidate → Candidate → Type 0
IsLess winner other = rank other winner ≡ Less

abbrev pub IsNotMore : Candidate → Candidate → Type 0
IsNotMore winner other = rank other winner ≢ Greater

-- The winner among rows is one of them, and no other exceeds it. Of those that are equal to it in all three it is the
-- first.
pub record IsWinnerAmong (rows : List RawRow) (row : RawRow) : Type 0 where
  pub before : List Candidate
  pub winner : Candidate
  pub behind : List Candidate
  pub is : winner.row ≡ row
  pub rows_are : rows ≡ map candidate_row before ++ winner.row ∷ map candidate_row behind
  pub cursors : AllByRecursion HasCursor (before ++ winner ∷ behind)
  pub first : AllByRecursion (IsLess winner) before
  pub unexceeded : AllByRecursion (IsNotMore winner) behind

-- there is none exactly where there is no row
abbrev pub WinsAmong : List RawRow → Option RawRow → Type 0
WinsAmong rows None = rows ≡ []
WinsAmong rows (Some winner) = IsWinnerAmong rows winner

-- Keys

abbrev pub is_of_key : List ℕ → RawRow → Bool
is_of_key key row = bytes_eq row.key key

abbrev pub rows_of_key : List ℕ → List RawRow → List RawRow
rows_of_key key rows = filter (is_of_key key) rows

-- rows with an empty key take no part
abbrev pub has_key : RawRow → Bool
has_key row = not (bytes_eq row.key [])

-- the keys rise by their bytes
abbrev pub IsKeyBelow : RawRow → RawRow → Type 0
IsKeyBelow row other = slice_cmp nat_cmp row.key other.key ≡ Less

abbrev pub KeysRise : List RawRow → Type 0
KeysRise [] = Unit {0}
KeysRise (row ∷ rows) = AllByRecursion (IsKeyBelow row) rows × KeysRise rows

-- one winner for each key of the rows that take part, in order of the keys
pub record AreWinnersOf (rows winners : List RawRow) : Type 0 where
  pub rise : KeysRise winners
  pub each : (key : List ℕ) → WinsAmong (rows_of_key key (filter has_key rows)) (winner_in winners key)

-- the keys of rows, each once, in the order in which they come first
abbrev pub is_key_in : List (List ℕ) → List ℕ → Bool
is_key_in keys key = list_any (bytes_eq key) keys

abbrev pub with_key : List (List ℕ) → RawRow → List (List ℕ)
with_key keys row = if is_key_in keys row.key then keys else keys ++ row.key ∷ []

abbrev pub keys_of : List RawRow → List (List ℕ)
keys_of rows = fold with_key [] rows

abbrev pub key_count : List RawRow → ℕ
key_count rows = length (keys_of rows)
