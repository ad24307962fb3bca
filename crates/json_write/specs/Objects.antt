-- Objects and arrays as they are written: their parts in order, without white space.
use Rattle.std.specs.Prelude.{ℕ, List, [], ◌∷◌, ◌++◌, Option, None, Some}
use Rattle.json.specs.Print.{quoted}

-- a member: the text of its key, and that of its value
abbrev pub Part : Type 0
Part = List ℕ × List ℕ

-- the member of this name
abbrev pub named : List ℕ → List ℕ → Part
named name value = (quoted name, value)

-- a member that is written where its value is there, and those behind it
abbrev pub optional : List ℕ → Option (List ℕ) → List Part → List Part
optional name None parts = parts
optional name (Some value) parts = named name value ∷ parts

-- a member before what follows it
abbrev pub part_before : Part → List ℕ → List ℕ
part_before part rest = part.0 ++ 58 ∷ (part.1 ++ rest)

-- what follows a member: the closing bracket, or a comma and more
abbrev pub parts_text : List Part → List ℕ
parts_text [] = 125 ∷ []
parts_text (part ∷ parts) = 44 ∷ part_before part (parts_text parts)

-- the object of these members
abbrev pub object_text : List Part → List ℕ
object_text [] = 123 ∷ 125 ∷ []
object_text (part ∷ parts) = 123 ∷ part_before part (parts_text parts)

-- what follows an element: the closing bracket, or a comma and more
abbrev pub items_text : List (List ℕ) → List ℕ
items_text [] = 93 ∷ []
items_text (item ∷ items) = 44 ∷ (item ++ items_text items)

-- the array of these elements
abbrev pub list_text : List (List ℕ) → List ℕ
list_text [] = 91 ∷ 93 ∷ []
list_text (item ∷ items) = 91 ∷ (item ++ items_text items)

-- For clauses of those who write a text bit by bit: the members behind the first, and the elements behind the first,
-- without the closing bracket.
abbrev pub more_text : List Part → List ℕ
more_text [] = []
more_text (part ∷ parts) = 44 ∷ part_before part (more_text parts)

abbrev pub more_items : List (List ℕ) → List ℕ
more_items [] = []
more_items (item ∷ items) = 44 ∷ (item ++ more_items items)

-- an object and an array that are still open
abbrev pub open_object : List Part → List ℕ
open_object [] = 123 ∷ []
open_object (part ∷ parts) = 123 ∷ part_before part (more_text parts)

abbrev pub open_list : List (List ℕ) → List ℕ
open_list [] = 91 ∷ []
open_list (item ∷ items) = 91 ∷ (item ++ more_items items)
