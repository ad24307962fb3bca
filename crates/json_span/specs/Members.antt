-- What a text that is a JSON object has as its members, and where they stand in it.
use Rattle.std.specs.Prelude.{◌≡◌, ◌≢◌, ℕ, ◌+◌, ◌<◌, ◌≤◌, List, [], ◌∷◌, ◌++◌, length, slice_range, IsUtf8}
use Rattle.json_scalar.specs.Text.{IsString}
use Rattle.json_span.specs.Grammar as json
use Rattle.json_span.specs.Grammar.{Space, space_byte, space_text, Value, Members, value_text, members_text, depth, member_at, member_end, members_from}
use Rattle.json_span.specs.declared.Span.{Span}
use Rattle.json_span.specs.declared.Member.{Member}

-- the members of an object that begins at this place, none where the value is no object
abbrev pub members_of : ℕ → Value → List Member
members_of at json.null = []
members_of at json.yes = []
members_of at json.no = []
members_of at (json.number literal) = []
members_of at (json.string pieces) = []
members_of at (json.empty_array spaces) = []
members_of at (json.array before v after items) = []
members_of at (json.empty_object spaces) = []
members_of at (json.object before key behind ahead v after members) =
    let key_start = at + 1 + length (space_text before) in
    member_at key_start key behind ahead v ∷ members_from (member_end key_start key behind ahead v after) members

-- the value is an object
abbrev pub IsObjectValue : Value → Type 0
IsObjectValue json.null = ⊥
IsObjectValue json.yes = ⊥
IsObjectValue json.no = ⊥
IsObjectValue (json.number literal) = ⊥
IsObjectValue (json.string pieces) = ⊥
IsObjectValue (json.empty_array spaces) = ⊥
IsObjectValue (json.array before v after items) = ⊥
IsObjectValue (json.empty_object spaces) = Unit {0}
IsObjectValue (json.object before key behind ahead v after members) = Unit {0}

-- the text is UTF-8 and spells this object, perhaps between white space
pub record Spells (text : List ℕ) (before : List Space) (v : Value) (after : List Space) : Type 0 where
  pub utf8 : IsUtf8 text
  pub object : IsObjectValue v
  pub spelled : text ≡ space_text before ++ (value_text v ++ space_text after)

-- the text is a JSON object that nests this deep and has these members
pub record IsObject (text : List ℕ) (deep : ℕ) (members : List Member) : Type 0 where
  pub before : List Space
  pub value : Value
  pub after : List Space
  pub spells : Spells text before value after
  pub deepest : deep ≡ depth value
  pub places : members ≡ members_of (length (space_text before)) value

-- the text is a JSON object that nests at most so deep, with these members
pub record AreMembers (limit : ℕ) (text : List ℕ) (members : List Member) : Type 0 where
  pub deep : ℕ
  pub within : deep ≤ limit
  pub object : IsObject text deep members

-- the text is no JSON object
abbrev pub IsNoObject : List ℕ → Type 0
IsNoObject text = (deep : ℕ) (members : List Member) → ¬ IsObject text deep members

-- the text is a JSON object, and it nests deeper than the limit
pub record IsDeeper (limit : ℕ) (text : List ℕ) : Type 0 where
  pub deep : ℕ
  pub members : List Member
  pub object : IsObject text deep members
  pub deeper : (other_deep : ℕ) (others : List Member) → IsObject text other_deep others → limit < other_deep

-- whatever object the text is, it nests at most so deep and has these members
abbrev pub HasOnlyMembers : ℕ → List ℕ → List Member → Type 0
HasOnlyMembers limit text members = (deep : ℕ) (others : List Member) → IsObject text deep others → (deep ≤ limit) × (others ≡ members)

-- the place lies in a text of this length
pub record IsWithin (size : ℕ) (span : Span) : Type 0 where
  pub ordered : span.start ≤ span.end
  pub inside : span.end ≤ size

-- the text at a place
abbrev pub text_at : List ℕ → Span → List ℕ
text_at text span = slice_range text span.start span.end

-- the key and the value lie in the text
pub record IsMemberWithin (size : ℕ) (m : Member) : Type 0 where
  pub key : IsWithin size m.key
  pub value : IsWithin size m.value

-- the text is a JSON value in UTF-8, without white space around it
pub record IsValue (text : List ℕ) : Type 0 where
  pub utf8 : IsUtf8 text
  pub value : Value
  pub spelled : text ≡ value_text value

-- the text is some JSON object
pub record IsSomeObject (text : List ℕ) : Type 0 where
  pub deep : ℕ
  pub members : List Member
  pub object : IsObject text deep members

-- the key and the value lie in the text, the key is a JSON string, and the value a JSON value
pub record IsMemberOf (text : List ℕ) (m : Member) : Type 0 where
  pub place : IsMemberWithin (length text) m
  pub name : List ℕ
  pub key : IsString (text_at text m.key) name
  pub value : IsValue (text_at text m.value)

-- A text in front of the end of an object is no object, where the end is no white space.
abbrev pub NoObjectInFront : Type 0
NoObjectInFront = (text rest : List ℕ) (last : ℕ) → IsSomeObject (text ++ (rest ++ last ∷ [])) → ((s : Space) → last ≢ space_byte s) → ¬ IsSomeObject text
