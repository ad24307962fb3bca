-- For private clauses: what has been written of a row, and changes of which the array is still open.
use Rattle.std.specs.Prelude.{◌≡◌, ℕ, List, [], ◌∷◌, ◌++◌, Option, None, Some, Bool, true, false, codes}
use Rattle.json.specs.Print.{quoted}
use Rattle.json_write.specs.Objects.{open_list, open_object}
use Rattle.column_types.specs.Rows.{AreCells, CameWith, cell_parts, cell_text, change_text, columns_text, own_changes}
use Rattle.column_types.specs.Typed.{IsTyped}
use Rattle.column_types.specs.declared.kind.ColumnType.{ColumnType}
use Rattle.column_types.specs.declared.column.Column.{Column}
use Rattle.column_types.specs.declared.typed.Typed.{Typed}
use Rattle.column_types.specs.declared.typed.Typed.TheVariants.{Fits, Nulled}
use Rattle.batch_prep.specs.declared.changes.Changes.{Changes}

abbrev pub is_nulled : Typed → Bool
is_nulled (Fits written) = false
is_nulled Nulled = true

-- the change that is told of a column's value, where it was nulled
abbrev pub told_change : List ℕ → Bool → List (List ℕ)
told_change name false = []
told_change name true = change_text name ∷ []

-- what a column of this kind has of what was found
abbrev pub IsCellOf : ColumnType → Option (List ℕ) → Typed → Type 0
IsCellOf kind None cell = cell ≡ Fits (codes "null")
IsCellOf kind (Some held) cell = IsTyped kind held cell

-- a cell was put behind the text, and it was told whether it was nulled
pub record PutsCell (kind : ColumnType) (found : Option (List ℕ)) (old new : List ℕ) (nulled : Bool) : Type 0 where
  pub cell : Typed
  pub is : IsCellOf kind found cell
  pub text : new ≡ old ++ cell_text cell
  pub told : is_nulled cell ≡ nulled

abbrev pub is_empty : List (List ℕ) → Bool
is_empty [] = true
is_empty (item ∷ items) = false

-- the member `changes` up to its value
abbrev pub changes_front : List ℕ
changes_front = 123 ∷ (quoted (codes "changes") ++ 58 ∷ [])

-- the changes so far
pub record AreOpen (items : List (List ℕ)) (changes : Changes) : Type 0 where
  pub text : changes.text ≡ changes_front ++ open_list items
  pub first : changes.is_first ≡ is_empty items

-- what was written of these columns, where the object is open, and their changes behind those that came with the record
pub record AreWritten (body : List ℕ) (columns : List Column) (came : List (List ℕ)) (text : List ℕ) (changes : Changes) : Type 0 where
  pub cells : List Typed
  pub typed : AreCells body columns cells
  pub open_text : text ≡ open_object (cell_parts columns cells)
  pub own : AreOpen (came ++ own_changes columns cells) changes

-- the changes that came with the record were put
pub record HasCome (meta : Option (List ℕ)) (changes : Changes) : Type 0 where
  pub came : List (List ℕ)
  pub with_record : CameWith meta came
  pub opened : AreOpen came changes

-- the columns were written, and their changes put
pub record HasColumns (body : List ℕ) (columns : List Column) (came : List (List ℕ)) (text : List ℕ) (changes : Changes) : Type 0 where
  pub cells : List Typed
  pub typed : AreCells body columns cells
  pub whole : text ≡ columns_text columns cells
  pub own : AreOpen (came ++ own_changes columns cells) changes
