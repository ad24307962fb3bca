-- Which states are the same: how a state that a destination sends back is known again. White space outside strings
-- does not count, an absent blob counts as `null`, and record counts are not compared.
use Rattle.std.specs.Prelude.{◌≡◌, ◌≢◌, ℕ, List, Option, None, Some, map, codes}
use Rattle.basics.specs.declared.stream.StreamId.{StreamId}
use Rattle.json_squeeze.specs.Squeeze.{squeezed}
use Rattle.airbyte_message.specs.State.{State}
use Rattle.airbyte_message.specs.declared.message.StateKind.{StateKind}
use Rattle.airbyte_message.specs.declared.message.StateKind.TheVariants as kind
use Rattle.airbyte_message.specs.declared.message.StreamBlob.{StreamBlob}

-- what counts of a blob
abbrev pub blob_form : Option (List ℕ) → List ℕ
blob_form None = codes "null"
blob_form (Some blob) = squeezed blob

-- what counts of a stream and its blob
abbrev pub part_form : StreamBlob → StreamId × List ℕ
part_form part = (part.id, blob_form part.blob)

-- one stream with one blob, or all streams with the same blobs in the same order; a Legacy state is the same as nothing
abbrev pub IsSameKind : StateKind → StateKind → Type 0
IsSameKind (kind.Stream id blob) (kind.Stream other_id other_blob) = (id ≡ other_id) × (blob_form blob ≡ blob_form other_blob)
IsSameKind (kind.Global shared streams) (kind.Global other_shared others) = (blob_form shared ≡ blob_form other_shared) × (map part_form streams ≡ map part_form others)
IsSameKind _ _ = ⊥

abbrev pub Same : State → State → Type 0
Same a b = IsSameKind a.kind b.kind

-- A state that is not Legacy is the same as itself, and being the same goes both ways and from one to the next.
pub record SameLaws : Type 0 where
  pub itself : (a : State) → a.kind ≢ kind.Legacy → Same a a
  pub turned : (a b : State) → Same a b → Same b a
  pub onward : (a b c : State) → Same a b → Same b c → Same a c
