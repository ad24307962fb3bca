-- A stream in the members of an object.
use Rattle.std.specs.Prelude.{ℕ, List, codes}
use Rattle.basics.specs.declared.stream.StreamId.{StreamId}
use Rattle.json_fields.specs.Fields.{HasField, HasText, HasOptionalText}

-- a stream's name, in the member of this name, and perhaps its namespace
pub record IsStreamId (text name_member : List ℕ) (id : StreamId) : Type 0 where
  pub name : HasText text name_member id.name
  pub namespace : HasOptionalText text (codes "namespace") id.namespace

-- the `stream_descriptor` is a stream
pub record HasDescriptor (text : List ℕ) (id : StreamId) : Type 0 where
  pub descriptor : List ℕ
  pub field : HasField text (codes "stream_descriptor") descriptor
  pub stream : IsStreamId descriptor (codes "name") id
