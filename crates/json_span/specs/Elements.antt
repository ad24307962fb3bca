-- What a text that is a JSON array has as its elements, and where they stand in it.
use Rattle.std.specs.Prelude.{◌≡◌, ℕ, ◌+◌, ◌<◌, ◌≤◌, List, [], ◌∷◌, ◌++◌, length, IsUtf8}
use Rattle.json_span.specs.Grammar as json
use Rattle.json_span.specs.Grammar.{Space, space_text, Value, Items, value_text, depth}
use Rattle.json_span.specs.Members.{IsWithin, IsValue, text_at}
use Rattle.json_span.specs.declared.Span.{Span}

-- a value from this place on
abbrev pub element_at : ℕ → Value → Span
element_at from v = record { start = from; end = from + length (value_text v) }

-- the place behind it and the white space after it
abbrev pub element_end : ℕ → Value → List Space → ℕ
element_end from v after = (element_at from v).end + length (space_text after)

-- the elements that follow one, where the comma or the bracket stands at this place
abbrev pub elements_from : ℕ → Items → List Span
elements_from from json.end_array = []
elements_from from (json.item before v after items) =
    let start = from + 1 + length (space_text before) in
    element_at start v ∷ elements_from (element_end start v after) items

-- the elements of an array that begins at this place, none where the value is no array
abbrev pub elements_of : ℕ → Value → List Span
elements_of at json.null = []
elements_of at json.yes = []
elements_of at json.no = []
elements_of at (json.number literal) = []
elements_of at (json.string pieces) = []
elements_of at (json.empty_array spaces) = []
elements_of at (json.array before v after items) =
    let start = at + 1 + length (space_text before) in
    element_at start v ∷ elements_from (element_end start v after) items
elements_of at (json.empty_object spaces) = []
elements_of at (json.object before key behind ahead v after members) = []

-- the value is an array
abbrev pub IsArrayValue : Value → Type 0
IsArrayValue json.null = ⊥
IsArrayValue json.yes = ⊥
IsArrayValue json.no = ⊥
IsArrayValue (json.number literal) = ⊥
IsArrayValue (json.string pieces) = ⊥
IsArrayValue (json.empty_array spaces) = Unit {0}
IsArrayValue (json.array before v after items) = Unit {0}
IsArrayValue (json.empty_object spaces) = ⊥
IsArrayValue (json.object before key behind ahead v after members) = ⊥

-- the text is UTF-8 and spells this array, perhaps between white space
pub record SpellsArray (text : List ℕ) (before : List Space) (v : Value) (after : List Space) : Type 0 where
  pub utf8 : IsUtf8 text
  pub array : IsArrayValue v
  pub spelled : text ≡ space_text before ++ (value_text v ++ space_text after)

-- the text is a JSON array that nests this deep and has its elements at these places
pub record IsArray (text : List ℕ) (deep : ℕ) (spans : List Span) : Type 0 where
  pub before : List Space
  pub value : Value
  pub after : List Space
  pub spells : SpellsArray text before value after
  pub deepest : deep ≡ depth value
  pub places : spans ≡ elements_of (length (space_text before)) value

-- the text is a JSON array that nests at most so deep, with its elements at these places
pub record AreElements (limit : ℕ) (text : List ℕ) (spans : List Span) : Type 0 where
  pub deep : ℕ
  pub within : deep ≤ limit
  pub array : IsArray text deep spans

-- the text is no JSON array
abbrev pub IsNoArray : List ℕ → Type 0
IsNoArray text = (deep : ℕ) (spans : List Span) → ¬ IsArray text deep spans

-- the text is a JSON array, and it nests deeper than the limit
pub record IsDeeperArray (limit : ℕ) (text : List ℕ) : Type 0 where
  pub deep : ℕ
  pub spans : List Span
  pub array : IsArray text deep spans
  pub deeper : (other_deep : ℕ) (others : List Span) → IsArray text other_deep others → limit < other_deep

-- whatever array the text is, it nests at most so deep and has its elements at these places
abbrev pub HasOnlyElements : ℕ → List ℕ → List Span → Type 0
HasOnlyElements limit text spans = (deep : ℕ) (others : List Span) → IsArray text deep others → (deep ≤ limit) × (others ≡ spans)

-- the place lies in the text and holds a JSON value
pub record IsElementOf (text : List ℕ) (span : Span) : Type 0 where
  pub place : IsWithin (length text) span
  pub value : IsValue (text_at text span)

-- the text is some JSON array
pub record IsSomeArray (text : List ℕ) : Type 0 where
  pub deep : ℕ
  pub spans : List Span
  pub array : IsArray text deep spans
