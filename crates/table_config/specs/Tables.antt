-- The tables of a configuration, by name. Of two with one name the first counts.
use Rattle.std.specs.Prelude.{◌≡◌, ℕ, List, [], ◌∷◌, ◌++◌, map, is_some, Bool, Option, None, Some, if◌then◌else◌}
use Rattle.std.specs.List.{IsDistinct, list_any}
use Rattle.std.specs.Str.{bytes_eq}
use Rattle.table_config.specs.declared.config.TableEntry.{TableEntry}

-- the names of tables, in order
abbrev pub names_of : List TableEntry → List (List ℕ)
names_of tables = map (λ table. table.name) tables

-- the table of this name, the first of them
abbrev pub table_named : List ℕ → List TableEntry → Option TableEntry
table_named name [] = None
table_named name (table ∷ tables) = if bytes_eq name table.name then Some table else table_named name tables

-- whether a table has this name
abbrev pub is_table : List TableEntry → List ℕ → Bool
is_table tables name = is_some (table_named name tables)

-- a table behind the others; it is passed over where one of them has its name
abbrev pub with_table : List TableEntry → TableEntry → List TableEntry
with_table tables table = if list_any (bytes_eq table.name) (names_of tables) then tables else tables ++ table ∷ []

-- these tables behind the others, each of a name only once
abbrev pub with_tables : List TableEntry → List TableEntry → List TableEntry
with_tables tables [] = tables
with_tables tables (table ∷ others) = with_tables (with_table tables table) others

-- the first table of each name, in order
abbrev pub firsts : List TableEntry → List TableEntry
firsts tables = with_tables [] tables

-- Of each name the first table is kept, and no other.
pub record KeepsFirsts (tables : List TableEntry) : Type 0 where
  pub named : (name : List ℕ) → table_named name (firsts tables) ≡ table_named name tables
  pub once : IsDistinct bytes_eq (names_of (firsts tables))

abbrev pub FirstsCount : Type 0
FirstsCount = (tables : List TableEntry) → KeepsFirsts tables

-- For the list of tables: an index of their names, which are distinct.
pub record HoldsTables (tables : List TableEntry) (names : List (List ℕ)) : Type 0 where
  pub named : names ≡ names_of tables
  pub once : IsDistinct bytes_eq (names_of tables)
