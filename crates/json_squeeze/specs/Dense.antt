-- The tree of a JSON value without its white space, and what squeezing does to a text that spells a value.
use Rattle.std.specs.Prelude.{◌≡◌, ℕ, List, [], ◌++◌, IsUtf8}
use Rattle.json_span.specs.Grammar as json
use Rattle.json_span.specs.Grammar.{Space, space_text, Value, Items, Members, value_text, depth}
use Rattle.json_span.specs.Members.{IsObject, IsObjectValue, IsValue}
use Rattle.json_span.specs.Elements.{IsArray, IsArrayValue}
use Rattle.json_span.specs.declared.Member.{Member}
use Rattle.json_span.specs.declared.Span.{Span}
use Rattle.json_squeeze.specs.Squeeze.{squeezed}

-- the same tree, with no white space in it
abbrev mutual
  pub dense : Value → Value
  dense json.null = json.null
  dense json.yes = json.yes
  dense json.no = json.no
  dense (json.number literal) = json.number literal
  dense (json.string pieces) = json.string pieces
  dense (json.empty_array spaces) = json.empty_array []
  dense (json.array before v after items) = json.array [] (dense v) [] (dense_items items)
  dense (json.empty_object spaces) = json.empty_object []
  dense (json.object before key behind ahead v after members) = json.object [] key [] [] (dense v) [] (dense_members members)

  pub dense_items : Items → Items
  dense_items json.end_array = json.end_array
  dense_items (json.item before v after items) = json.item [] (dense v) [] (dense_items items)

  pub dense_members : Members → Members
  dense_members json.end_object = json.end_object
  dense_members (json.member before key behind ahead v after members) = json.member [] key [] [] (dense v) [] (dense_members members)

-- what that tree spells
abbrev pub dense_text : Value → List ℕ
dense_text v = value_text (dense v)

-- the text spells this value, perhaps between white space
pub record IsSpelling (text : List ℕ) (v : Value) : Type 0 where
  pub before : List Space
  pub after : List Space
  pub spelled : text ≡ space_text before ++ (value_text v ++ space_text after)

-- A value's squeezed text is what the same tree spells without white space: it is a JSON value of the same depth,
-- an object where the value is one, and an array where it is one.
pub record IsSqueezedValue (text : List ℕ) (v : Value) : Type 0 where
  pub spelled : squeezed text ≡ dense_text v
  pub value : IsUtf8 text → IsValue (squeezed text)
  pub same_depth : depth (dense v) ≡ depth v
  pub object : IsObjectValue v → IsObjectValue (dense v)
  pub array : IsArrayValue v → IsArrayValue (dense v)

abbrev pub SqueezesValues : Type 0
SqueezesValues = (text : List ℕ) (v : Value) → IsSpelling text v → IsSqueezedValue text v

-- An object stays one that nests as deep, and so does an array.
abbrev pub StaysObject : List ℕ → List ℕ → Type 0
StaysObject text made = (deep : ℕ) (members : List Member) → IsObject text deep members → (others : List Member) × IsObject made deep others

abbrev pub StaysArray : List ℕ → List ℕ → Type 0
StaysArray text made = (deep : ℕ) (spans : List Span) → IsArray text deep spans → (others : List Span) × IsArray made deep others

-- Spellings of one value that differ in white space alone squeeze to the same bytes.
abbrev pub SqueezesAlike : Type 0
SqueezesAlike = (one other : List ℕ) (v w : Value) → IsSpelling one v → IsSpelling other w → dense v ≡ dense w → squeezed one ≡ squeezed other

-- Squeezing twice is squeezing once.
abbrev pub SqueezesOnce : Type 0
SqueezesOnce = (text : List ℕ) → squeezed (squeezed text) ≡ squeezed text

-- What is UTF-8 stays UTF-8.
abbrev pub KeepsUtf8 : Type 0
KeepsUtf8 = (text : List ℕ) → IsUtf8 text → IsUtf8 (squeezed text)
