-- The grammar of JSON (RFC 8259) as trees that keep their layout: what each tree spells, how deep it nests, and
-- where the members of an object stand. A text is JSON where some tree spells it; nothing here reads a text.
use Rattle.std.specs.Prelude.{ℕ, suc, ◌+◌, max, List, [], ◌∷◌, ◌++◌, map, length, codes}
use Rattle.json_scalar.specs.Text.{Piece, string_text}
use Rattle.json_scalar.specs.Number.{Literal, literal_text}
use Rattle.json_span.specs.declared.Member.{Member}

-- the white space of section 2
pub data Space : Type 0 where
  blank : Space
  tab : Space
  newline : Space
  carriage_return : Space

abbrev pub space_byte : Space → ℕ
space_byte blank = 32
space_byte tab = 9
space_byte newline = 10
space_byte carriage_return = 13

abbrev pub space_text : List Space → List ℕ
space_text spaces = map space_byte spaces

-- A value (section 3), an array (section 5) and an object (section 4). Items and Members are what follows an item
-- or a member: the closing bracket, or a comma and more. A key has the white space before and behind it.
mutual
  pub data Value : Type 0 where
    null : Value
    yes : Value
    no : Value
    number : Literal → Value
    string : List Piece → Value
    empty_array : List Space → Value
    array : List Space → Value → List Space → Items → Value
    empty_object : List Space → Value
    object : List Space → List Piece → List Space → List Space → Value → List Space → Members → Value

  pub data Items : Type 0 where
    end_array : Items
    item : List Space → Value → List Space → Items → Items

  pub data Members : Type 0 where
    end_object : Members
    member : List Space → List Piece → List Space → List Space → Value → List Space → Members → Members

abbrev mutual
  pub value_text : Value → List ℕ
  value_text null = codes "null"
  value_text yes = codes "true"
  value_text no = codes "false"
  value_text (number literal) = literal_text literal
  value_text (string pieces) = string_text pieces
  value_text (empty_array spaces) = 91 ∷ (space_text spaces ++ 93 ∷ [])
  value_text (array before v after items) = 91 ∷ (space_text before ++ (value_text v ++ (space_text after ++ items_text items)))
  value_text (empty_object spaces) = 123 ∷ (space_text spaces ++ 125 ∷ [])
  value_text (object before key behind ahead v after members) = 123 ∷ (space_text before ++ (string_text key ++ (space_text behind ++ 58 ∷ (space_text ahead ++ (value_text v ++ (space_text after ++ members_text members))))))

  pub items_text : Items → List ℕ
  items_text end_array = 93 ∷ []
  items_text (item before v after items) = 44 ∷ (space_text before ++ (value_text v ++ (space_text after ++ items_text items)))

  pub members_text : Members → List ℕ
  members_text end_object = 125 ∷ []
  members_text (member before key behind ahead v after members) = 44 ∷ (space_text before ++ (string_text key ++ (space_text behind ++ 58 ∷ (space_text ahead ++ (value_text v ++ (space_text after ++ members_text members))))))

-- how many arrays and objects are open at the deepest place
abbrev mutual
  pub depth : Value → ℕ
  depth null = 0
  depth yes = 0
  depth no = 0
  depth (number literal) = 0
  depth (string pieces) = 0
  depth (empty_array spaces) = 1
  depth (array before v after items) = suc (max (depth v) (items_depth items))
  depth (empty_object spaces) = 1
  depth (object before key behind ahead v after members) = suc (max (depth v) (members_depth members))

  pub items_depth : Items → ℕ
  items_depth end_array = 0
  items_depth (item before v after items) = max (depth v) (items_depth items)

  pub members_depth : Members → ℕ
  members_depth end_object = 0
  members_depth (member before key behind ahead v after members) = max (depth v) (members_depth members)

-- a key from this place on, and its value, without the white space around them
abbrev pub member_at : ℕ → List Piece → List Space → List Space → Value → Member
member_at from key behind ahead v =
    let key_end = from + length (string_text key) in
    let value_start = key_end + length (space_text behind) + 1 + length (space_text ahead) in
    record { key = record { start = from; end = key_end }; value = record { start = value_start; end = value_start + length (value_text v) } }

-- the place behind that member and the white space after it
abbrev pub member_end : ℕ → List Piece → List Space → List Space → Value → List Space → ℕ
member_end from key behind ahead v after = (member_at from key behind ahead v).value.end + length (space_text after)

-- the members that follow one, where the comma or the bracket stands at this place
abbrev pub members_from : ℕ → Members → List Member
members_from from end_object = []
members_from from (member before key behind ahead v after members) =
    let key_start = from + 1 + length (space_text before) in
    member_at key_start key behind ahead v ∷ members_from (member_end key_start key behind ahead v after) members
