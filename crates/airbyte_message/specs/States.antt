-- The `state` of a STATE line (Airbyte Protocol, version 0: AirbyteStateMessage).
use Rattle.std.specs.Prelude.{◌≡◌, ◌⊎◌, ℕ, List, [], ◌∷◌, Option, None, Some, codes}
use Rattle.json_span.specs.Members.{text_at}
use Rattle.json_span.specs.Elements.{AreElements}
use Rattle.json_span.specs.declared.Span.{Span}
use Rattle.json_fields.specs.Fields.{HasField, HasOptional, HasOptionalText, line_depth}
use Rattle.json_fields.specs.Parts.{HasOptionalCount, NestsWithin}
pub use Rattle.airbyte_message.specs.Depths.{state_depth, IsOneLine}
use Rattle.airbyte_message.specs.Parts.{HasDescriptor}
use Rattle.airbyte_message.specs.State.{State}
use Rattle.airbyte_message.specs.declared.message.StateKind.{StateKind}
use Rattle.airbyte_message.specs.declared.message.StateKind.TheVariants as kind
use Rattle.airbyte_message.specs.declared.message.StreamBlob.{StreamBlob}
use Rattle.airbyte_message.specs.declared.state_message.StateType.{StateType}
use Rattle.airbyte_message.specs.declared.state_message.StateType.TheVariants as types

-- the `recordCount` of `sourceStats`, either of which may be absent
abbrev pub AreOptionalStats : Option (List ℕ) → Option ℕ → Type 0
AreOptionalStats None count = count ≡ None
AreOptionalStats (Some stats) count = HasOptionalCount stats (codes "recordCount") count

pub record HasStats (text : List ℕ) (count : Option ℕ) : Type 0 where
  pub held : Option (List ℕ)
  pub optional : HasOptional text (codes "sourceStats") held
  pub stats : AreOptionalStats held count

-- the `type` of a state; a state without type is of the form before states had types
abbrev pub IsStateType : Option (List ℕ) → StateType → Type 0
IsStateType name types.Stream = name ≡ Some (codes "STREAM")
IsStateType name types.Global = name ≡ Some (codes "GLOBAL")
IsStateType name types.Legacy = (name ≡ None) ⊎ (name ≡ Some (codes "LEGACY"))

pub record HasStateType (text : List ℕ) (type : StateType) : Type 0 where
  pub name : Option (List ℕ)
  pub optional : HasOptionalText text (codes "type") name
  pub named : IsStateType name type

-- a stream and its blob, which is the source's own
pub record IsStreamBlob (text : List ℕ) (part : StreamBlob) : Type 0 where
  pub id : HasDescriptor text part.id
  pub blob : HasOptional text (codes "stream_state") part.blob

-- the `stream` of a state of type STREAM
pub record IsStreamState (text : List ℕ) (part : StreamBlob) : Type 0 where
  pub stream : List ℕ
  pub field : HasField text (codes "stream") stream
  pub blob : IsStreamBlob stream part

-- the elements of an array at these places are these streams and their blobs, in this order
abbrev pub AreStreamBlobs : List ℕ → List Span → List StreamBlob → Type 0
AreStreamBlobs text [] parts = parts ≡ []
AreStreamBlobs text (span ∷ spans) [] = ⊥
AreStreamBlobs text (span ∷ spans) (part ∷ parts) = IsStreamBlob (text_at text span) part × AreStreamBlobs text spans parts

-- the `stream_states` of a state of type GLOBAL
pub record HasStreamBlobs (text : List ℕ) (parts : List StreamBlob) : Type 0 where
  pub list : List ℕ
  pub field : HasField text (codes "stream_states") list
  pub spans : List Span
  pub elements : AreElements line_depth list spans
  pub are : AreStreamBlobs list spans parts

-- the `global` of a state of type GLOBAL
pub record IsGlobalState (text : List ℕ) (blob : Option (List ℕ)) (parts : List StreamBlob) : Type 0 where
  pub global : List ℕ
  pub field : HasField text (codes "global") global
  pub shared : HasOptional global (codes "shared_state") blob
  pub streams : HasStreamBlobs global parts

-- what a state of this type is of
abbrev pub IsKind : StateType → List ℕ → StateKind → Type 0
IsKind types.Stream text (kind.Stream id blob) = IsStreamState text (record { id = id; blob = blob })
IsKind types.Global text (kind.Global shared streams) = IsGlobalState text shared streams
IsKind types.Legacy text kind.Legacy = Unit {0}
IsKind _ text _ = ⊥

-- the text, which stands on one line, is this state
pub record IsState (text : List ℕ) (state : State) : Type 0 where
  pub object : state.object ≡ text
  pub line : IsOneLine text
  pub nests : NestsWithin state_depth text
  pub type : StateType
  pub typed : HasStateType text type
  pub kind : IsKind type text state.kind
  pub count : HasStats text state.source_count
