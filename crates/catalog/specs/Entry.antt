-- An entry of a configured catalog (Airbyte Protocol, version 0: ConfiguredAirbyteStream, AirbyteStream): the members that
-- are read, and the form that each has. An optional member that is `null` counts as absent.
use Rattle.std.specs.Prelude.{◌≡◌, ◌≢◌, ◌↔◌, ℕ, ◌≤◌, List, [], length, Option, None, Some, IsTrue, codes, unwrap_or}
use Rattle.std.specs.List.{AllZip}
use Rattle.json_scalar.specs.Text.{IsString}
use Rattle.json_span.specs.Members.{text_at}
use Rattle.json_span.specs.Elements.{AreElements}
use Rattle.json_span.specs.declared.Span.{Span}
use Rattle.json_fields.specs.Fields.{HasField, HasOptional, HasText, HasOptionalText, line_depth}
use Rattle.json_fields.specs.Parts.{HasOptionalCount}
use Rattle.basics.specs.declared.limits.TheConstants.{LONGEST_NAME}
use Rattle.basics.specs.declared.stream.StreamId.{StreamId}
use Rattle.catalog.specs.declared.entry.Entry.{Entry}
use Rattle.catalog.specs.declared.entry.Ids.{Ids}
use Rattle.catalog.specs.declared.entry.StreamPart.{StreamPart}

-- the place of a value in a record: the names of the members that lead to it, the outermost first
abbrev pub PathNames : Type 0
PathNames = List (List ℕ)

-- the text is an array of strings that stand for these names
pub record IsPath (text : List ℕ) (path : PathNames) : Type 0 where
  pub spans : List Span
  pub elements : AreElements line_depth text spans
  pub names : AllZip (λ span name. IsString (text_at text span) name) spans path

-- a path of a key has at least one name
pub record IsKeyPath (text : List ℕ) (path : PathNames) : Type 0 where
  pub is : IsPath text path
  pub named : path ≢ []

-- the text is an array of such paths
pub record IsKey (text : List ℕ) (key : List PathNames) : Type 0 where
  pub spans : List Span
  pub elements : AreElements line_depth text spans
  pub paths : AllZip (λ span path. IsKeyPath (text_at text span) path) spans key

-- a list of this form, or nothing, which counts as the empty list
abbrev pub IsOptionalList : {A : Type 0} → (List ℕ → List A → Type 0) → Option (List ℕ) → List A → Type 0
IsOptionalList Form None items = items ≡ []
IsOptionalList Form (Some held) items = Form held items

-- the optional member of this name is such a list
pub record HasOptionalList {A : Type 0} (Form : List ℕ → List A → Type 0) (text name : List ℕ) (items : List A) : Type 0 where
  pub held : Option (List ℕ)
  pub optional : HasOptional text name held
  pub list : IsOptionalList Form held items

-- a namespace, where there is one, has no more bytes than a name may have
abbrev pub IsOptionalShortName : Option (List ℕ) → Type 0
IsOptionalShortName None = Unit {0}
IsOptionalShortName (Some name) = length name ≤ LONGEST_NAME

-- the stream's name and its namespace, neither too long
pub record HasStreamId (stream : List ℕ) (id : StreamId) : Type 0 where
  pub name : HasText stream (codes "name") id.name
  pub name_fits : length id.name ≤ LONGEST_NAME
  pub namespace : HasOptionalText stream (codes "namespace") id.namespace
  pub namespace_fits : IsOptionalShortName id.namespace

-- the stream's schema, any JSON value; `{}` where it is absent
pub record HasSchema (stream schema : List ℕ) : Type 0 where
  pub held : Option (List ℕ)
  pub optional : HasOptional stream (codes "json_schema") held
  pub is : schema ≡ unwrap_or held (codes "{}")

-- An entry's `stream` says this. It is resumable only where `is_resumable` is `true`.
pub record IsStream (stream : List ℕ) (part : StreamPart) : Type 0 where
  pub id : HasStreamId stream part.id
  pub cursor : HasOptionalList IsPath stream (codes "default_cursor_field") part.cursor
  pub key : HasOptionalList IsKey stream (codes "source_defined_primary_key") part.key
  pub resumable : IsTrue part.resumable ↔ HasField stream (codes "is_resumable") (codes "true")
  pub schema : HasSchema stream part.schema

-- the entry's member `stream` says this
pub record HasStream (text : List ℕ) (part : StreamPart) : Type 0 where
  pub held : List ℕ
  pub field : HasField text (codes "stream") held
  pub is : IsStream held part

-- the generation, the minimum generation and the sync's id
pub record HasIds (text : List ℕ) (ids : Ids) : Type 0 where
  pub generation : HasOptionalCount text (codes "generation_id") ids.generation
  pub minimum : HasOptionalCount text (codes "minimum_generation_id") ids.minimum
  pub sync_id : HasOptionalCount text (codes "sync_id") ids.sync_id

-- The entry's members say this: each that is required is there, and each has its form.
pub record IsEntry (text : List ℕ) (entry : Entry) : Type 0 where
  pub stream : HasStream text entry.stream
  pub sync : HasText text (codes "sync_mode") entry.sync
  pub dest : HasText text (codes "destination_sync_mode") entry.dest
  pub cursor : HasOptionalList IsPath text (codes "cursor_field") entry.cursor
  pub key : HasOptionalList IsKey text (codes "primary_key") entry.key
  pub ids : HasIds text entry.ids
