-- What the blob of a saved state says of a table: behind which values of a cursor and a key its stream starts.
use Rattle.std.specs.Prelude.{◌≡◌, ◌⊎◌, ℕ, List, [], ◌∷◌, length, map, codes, Bool, false, Option, None, Some}
use Rattle.json_write.specs.Objects.{object_text}
use Rattle.json_span.specs.Members.{AreMembers, text_at}
use Rattle.json_span.specs.Elements.{AreElements}
use Rattle.json_span.specs.declared.Member.{Member}
use Rattle.json_span.specs.declared.Span.{Span}
use Rattle.json_fields.specs.Fields.{HasField, line_depth}
use Rattle.value_order.specs.declared.value.Value.{Value}
use Rattle.catalog.specs.Entry.{PathNames}
use Rattle.column_types.specs.Columns.{is_instant_path}
use Rattle.column_types.specs.Values.{IsValueOf}
use Rattle.column_types.specs.declared.column.Column.{Column}
use Rattle.table_source.specs.declared.keying.Keying.{Keying}

-- The texts of a blob: that of its cursor, and that of its key, an array with its elements at these places.
pub record Place : Type 0 where
  pub cursor : List ℕ
  pub key : List ℕ
  pub spans : List Span

-- the blob is an object of two members, `cursor`, and `key`, an array
pub record IsPlaceCut (text : List ℕ) (place : Place) : Type 0 where
  pub members : List Member
  pub object : AreMembers line_depth text members
  pub two : length members ≡ 2
  pub cursor : HasField text (codes "cursor") place.cursor
  pub key : HasField text (codes "key") place.key
  pub elements : AreElements line_depth place.key place.spans

-- the texts of the key's values
abbrev pub key_texts : Place → List (List ℕ)
key_texts place = map (text_at place.key) place.spans

-- whether the cursor may be an instant; without a path it is none
abbrev pub instant_at : List Column → Option PathNames → Bool
instant_at columns None = false
instant_at columns (Some path) = is_instant_path columns path

-- the values that these texts stand for, one for each path of the key
abbrev pub AreKeyValues : List Column → List PathNames → List (List ℕ) → List Value → Type 0
AreKeyValues columns [] [] [] = Unit {0}
AreKeyValues columns (path ∷ paths) (text ∷ texts) (value ∷ values) = IsValueOf (is_instant_path columns path) text value × AreKeyValues columns paths texts values
AreKeyValues columns [] [] (value ∷ values) = ⊥
AreKeyValues columns [] (text ∷ texts) values = ⊥
AreKeyValues columns (path ∷ paths) [] values = ⊥
AreKeyValues columns (path ∷ paths) (text ∷ texts) [] = ⊥

-- the values of such texts, the cursor's first, where the key has as many elements as it has paths
pub record AreValuesAt (keying : Keying) (place : Place) (values : List Value) : Type 0 where
  pub cursor : Value
  pub cursor_value : IsValueOf (instant_at keying.columns keying.cursor) place.cursor cursor
  pub key : List Value
  pub key_values : AreKeyValues keying.columns keying.key (key_texts place) key
  pub is : values ≡ cursor ∷ key

-- The blob is such an object, and these are its values.
pub record IsPlaceBlob (keying : Keying) (text : List ℕ) (values : List Value) : Type 0 where
  pub place : Place
  pub cut : IsPlaceCut text place
  pub are : AreValuesAt keying place values

-- the blob is an object without members
abbrev pub IsEmptyBlob : List ℕ → Type 0
IsEmptyBlob text = AreMembers line_depth text []

-- Behind which values a stream with this blob starts: before all rows without a blob, and with one that has no members.
abbrev pub StartsBehind : Keying → Option (List ℕ) → Option (List Value) → Type 0
StartsBehind keying None behind = behind ≡ None
StartsBehind keying (Some text) None = IsEmptyBlob text
StartsBehind keying (Some text) (Some values) = IsPlaceBlob keying text values

-- the blob is such an object, with so many values in its key
pub record IsPlaceOf (count : ℕ) (text : List ℕ) : Type 0 where
  pub place : Place
  pub cut : IsPlaceCut text place
  pub counted : length place.spans ≡ count

-- a stream whose key has so many paths can start with this blob, or without one
abbrev pub IsStartBlob : ℕ → Option (List ℕ) → Type 0
IsStartBlob count None = Unit {0}
IsStartBlob count (Some text) = IsEmptyBlob text ⊎ IsPlaceOf count text

-- the blob that a state carries before any row was written: `{}`, or the one that the stream was started with
abbrev pub first_blob : Option (List ℕ) → List ℕ
first_blob None = object_text []
first_blob (Some text) = text
