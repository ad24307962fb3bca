-- What is written reads back as it was.
use Rattle.std.specs.Prelude.{◌≡◌, ℕ, ◌+◌, ◌<◌, ◌^◌, List, [], ◌∷◌, Option, None, Some, Bool, true, false, map, IsUtf8, bytes_eq, decimal}
use Rattle.json.specs.Print.{quoted}
use Rattle.json_scalar.specs.Text.{IsString}
use Rattle.json_scalar.specs.Number.{IsWhole}
use Rattle.json_span.specs.Members.{AreMembers, HasOnlyMembers, text_at}
use Rattle.json_span.specs.Elements.{AreElements, HasOnlyElements}
use Rattle.json_span.specs.declared.Member.{Member}
use Rattle.json_span.specs.declared.Span.{Span}
use Rattle.json_fields.specs.Fields.{HasField, Holds}
use Rattle.json_write.specs.Values.{IsValueWithin}
use Rattle.json_write.specs.Objects.{Part, object_text, list_text}

-- ---- texts and numbers

-- The string of a text stands for that text and for no other; and what any string stands for is UTF-8.
pub record TextsReadBack : Type 0 where
  pub string : (text : List ℕ) → IsUtf8 text → IsString (quoted text) text
  pub only : (text meaning : List ℕ) → IsUtf8 text → IsString (quoted text) meaning → meaning ≡ text
  pub flat : (text : List ℕ) → IsUtf8 text → IsValueWithin 0 (quoted text)
  pub utf8 : (string meaning : List ℕ) → IsString string meaning → IsUtf8 meaning

-- The digits of a number are a JSON number with that value.
pub record NumbersReadBack : Type 0 where
  pub whole : (n : ℕ) → n < 2 ^ 64 → IsWhole (decimal n) n
  pub flat : (n : ℕ) → n < 2 ^ 64 → IsValueWithin 0 (decimal n)

-- ---- objects

-- a key that is a JSON string, and a value that nests at most so deep
pub record IsSound (limit : ℕ) (part : Part) : Type 0 where
  pub name : List ℕ
  pub key : IsString part.0 name
  pub value : IsValueWithin limit part.1

abbrev pub AreSound : ℕ → List Part → Type 0
AreSound limit [] = Unit {0}
AreSound limit (part ∷ parts) = IsSound limit part × AreSound limit parts

-- a member of an object as it stands there
abbrev pub part_at : List ℕ → Member → Part
part_at text member = (text_at text member.key, text_at text member.value)

-- the text is an object of exactly these members, whichever way it is read
pub record IsObjectOf (limit : ℕ) (text : List ℕ) (parts : List Part) : Type 0 where
  pub value : IsValueWithin limit text
  pub members : List Member
  pub are : AreMembers limit text members
  pub only : HasOnlyMembers limit text members
  pub cut : map (part_at text) members ≡ parts

-- An object that is written nests one deeper than its members, and has these members and no others.
abbrev pub ObjectsReadBack : Type 0
ObjectsReadBack = (limit : ℕ) (parts : List Part) → AreSound limit parts → IsObjectOf (limit + 1) (object_text parts) parts

-- what the last member of a name holds, where each key is the string of a name
abbrev pub or_here : Option (List ℕ) → Bool → List ℕ → Option (List ℕ)
or_here (Some later) same value = Some later
or_here None true value = Some value
or_here None false value = None

abbrev pub last_of : List ℕ → List Part → Option (List ℕ)
last_of name [] = None
last_of name (part ∷ parts) = or_here (last_of name parts) (bytes_eq part.0 (quoted name)) part.1

-- the key is the string of a name as it is written
pub record IsNamedPart (part : Part) : Type 0 where
  pub name : List ℕ
  pub utf8 : IsUtf8 name
  pub key : part.0 ≡ quoted name

abbrev pub AreNamed : List Part → Type 0
AreNamed [] = Unit {0}
AreNamed (part ∷ parts) = IsNamedPart part × AreNamed parts

-- A name holds in an object what the last of its members with this name holds.
abbrev pub NamesHold : Type 0
NamesHold = (text name : List ℕ) (members : List Member) (parts : List Part) → AreNamed parts → map (part_at text) members ≡ parts → Holds text name members (last_of name parts)

-- A member of an object nests less deep than the object.
abbrev pub FieldsNestLess : Type 0
FieldsNestLess = (limit : ℕ) (text name held : List ℕ) → IsValueWithin (limit + 1) text → HasField text name held → IsValueWithin limit held

-- ---- arrays

abbrev pub AreWithin : ℕ → List (List ℕ) → Type 0
AreWithin limit [] = Unit {0}
AreWithin limit (item ∷ items) = IsValueWithin limit item × AreWithin limit items

-- the text is an array of exactly these elements, whichever way it is read
pub record IsListOf (limit : ℕ) (text : List ℕ) (items : List (List ℕ)) : Type 0 where
  pub value : IsValueWithin limit text
  pub spans : List Span
  pub are : AreElements limit text spans
  pub only : HasOnlyElements limit text spans
  pub cut : map (text_at text) spans ≡ items

-- An array that is written nests one deeper than its elements, and has these elements and no others.
abbrev pub ListsReadBack : Type 0
ListsReadBack = (limit : ℕ) (items : List (List ℕ)) → AreWithin limit items → IsListOf (limit + 1) (list_text items) items
