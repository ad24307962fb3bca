-- For private clauses: where the names of a plan are looked for in a record's data, and where they stand there.
use Rattle.std.specs.Prelude.{◌≡◌, ◌⊎◌, ℕ, List, [], ◌∷◌, Option, None, Some, All, length, slice_get, slice_set, drop}
use Rattle.json.specs.Print.{quoted}
use Rattle.json_scalar.specs.Text.{IsString}
use Rattle.json_span.specs.Members.{IsMemberOf, text_at}
use Rattle.json_span.specs.declared.Member.{Member}
use Rattle.json_fields.specs.Answer.{IsAnswer}
use Rattle.json_fields.specs.Fields.{HasField, Holds, IsCut}
use Rattle.column_types.specs.Columns.{is_instant_path}
use Rattle.column_types.specs.Values.{IsData}
use Rattle.column_types.specs.declared.column.Column.{Column}
use Rattle.batch_prep.specs.declared.layout.Layout.{Layout}
use Rattle.batch_prep.specs.declared.layout.Start.{Start}
use Rattle.batch_prep.specs.declared.item.PrepPlan.{PrepPlan}

-- what stands at a place of these names stands there among those
abbrev pub AreKept : List (List ℕ) → List (List ℕ) → Type 0
AreKept old new = (place : ℕ) (name : List ℕ) → slice_get old place ≡ Some name → slice_get new place ≡ Some name

-- each name has at its place the text of its key
pub record AreLabels (names labels : List (List ℕ)) : Type 0 where
  pub as_many : length labels ≡ length names
  pub text : (place : ℕ) (name label : List ℕ) → slice_get names place ≡ Some name → slice_get labels place ≡ Some label → label ≡ quoted name
  pub string : (place : ℕ) (name label : List ℕ) → slice_get names place ≡ Some name → slice_get labels place ≡ Some label → IsString label name

-- each column's name stands at its place among the names
abbrev pub AreSlots : List (List ℕ) → List Column → List ℕ → Type 0
AreSlots names [] [] = Unit {0}
AreSlots names (column ∷ columns) (slot ∷ slots) = (slice_get names slot ≡ Some column.name) × AreSlots names columns slots
AreSlots names [] (slot ∷ slots) = ⊥
AreSlots names (column ∷ columns) [] = ⊥

-- where a path's first name stands among the names, None where the path is empty
abbrev pub IsFirst : List (List ℕ) → List (List ℕ) → Option ℕ → Type 0
IsFirst names [] slot = slot ≡ None
IsFirst names (name ∷ rest) None = ⊥
IsFirst names (name ∷ rest) (Some slot) = slice_get names slot ≡ Some name

-- where a path begins, and whether the value at its end may be an instant
pub record IsStart (names : List (List ℕ)) (columns : List Column) (path : List (List ℕ)) (start : Start) : Type 0 where
  pub first : IsFirst names path start.slot
  pub instant : start.is_instant ≡ is_instant_path columns path

abbrev pub AreStarts : List (List ℕ) → List Column → List (List (List ℕ)) → List Start → Type 0
AreStarts names columns [] [] = Unit {0}
AreStarts names columns (path ∷ paths) (start ∷ starts) = IsStart names columns path start × AreStarts names columns paths starts
AreStarts names columns [] (start ∷ starts) = ⊥
AreStarts names columns (path ∷ paths) [] = ⊥

-- the same of a path that may be absent
abbrev pub IsOptionalStart : List (List ℕ) → List Column → Option (List (List ℕ)) → Option Start → Type 0
IsOptionalStart names columns None start = start ≡ None
IsOptionalStart names columns (Some path) None = ⊥
IsOptionalStart names columns (Some path) (Some start) = IsStart names columns path start

-- the layout of a plan
pub record IsLayout (plan : PrepPlan) (layout : Layout) : Type 0 where
  pub labels : AreLabels layout.names layout.labels
  pub slots : AreSlots layout.names plan.columns layout.slots
  pub key : AreStarts layout.names plan.columns plan.key layout.key
  pub cursor : IsOptionalStart layout.names plan.columns plan.cursor layout.cursor

-- the place of the name of a key
abbrev pub IsSlotOf : List (List ℕ) → List ℕ → Option ℕ → Type 0
IsSlotOf names key None = (slot : ℕ) (name : List ℕ) → slice_get names slot ≡ Some name → ¬ IsString key name
IsSlotOf names key (Some slot) = (name : List ℕ) × (slice_get names slot ≡ Some name) × IsString key name

-- where the last member of this name stands, if it is not before this place; None where there is none
abbrev pub IsHeldFrom : List ℕ → List Member → ℕ → List ℕ → Option ℕ → Type 0
IsHeldFrom body members from name None = Holds body name (drop from members) None
IsHeldFrom body members from name (Some place) =
    (member : Member) × (slice_get members place ≡ Some member) × Holds body name (drop from members) (Some (text_at body member.value))

-- each name has at its place where its last member stands
pub record AreHeldFrom (body : List ℕ) (names : List (List ℕ)) (members : List Member) (from : ℕ) (places : List (Option ℕ)) : Type 0 where
  pub as_many : length places ≡ length names
  pub each : (slot : ℕ) (name : List ℕ) (place : Option ℕ) → slice_get names slot ≡ Some name → slice_get places slot ≡ Some place → IsHeldFrom body members from name place

-- the members of the data, none where it is no object that nests no deeper than a line can
abbrev pub AreDataMembers : List ℕ → List Member → Type 0
AreDataMembers body members = IsCut body members ⊎ ((¬ IsData body) × (members ≡ []))

-- what these names hold is known
pub record AreFound (body : List ℕ) (names : List (List ℕ)) (members : List Member) (places : List (Option ℕ)) : Type 0 where
  pub cut : AreDataMembers body members
  pub parts : All (IsMemberOf body) members
  pub held : AreHeldFrom body names members 0 places

-- what the member of the name at this place holds
abbrev pub IsHeldAt : List ℕ → List (List ℕ) → ℕ → Option (List ℕ) → Type 0
IsHeldAt body names slot found = (name : List ℕ) → slice_get names slot ≡ Some name → IsAnswer (HasField body name) found

-- where a place is noted for a name it stays, and else this one is noted
abbrev pub noted_over : List (Option ℕ) → ℕ → ℕ → Option (Option ℕ) → List (Option ℕ)
noted_over places slot place None = places
noted_over places slot place (Some (Some noted)) = places
noted_over places slot place (Some None) = slice_set places slot (Some place)

abbrev pub noted : List (Option ℕ) → ℕ → ℕ → List (Option ℕ)
noted places slot place = noted_over places slot place (slice_get places slot)

-- no place is noted of so many names
pub record AreUnknown (names : ℕ) (places : List (Option ℕ)) : Type 0 where
  pub as_many : length places ≡ names
  pub none : (slot : ℕ) (place : Option ℕ) → slice_get places slot ≡ Some place → place ≡ None
