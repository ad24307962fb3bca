-- The configured catalogs that are taken: one stream without namespace, read incrementally into an append table
-- (Airbyte Protocol: ConfiguredAirbyteCatalog, ConfiguredAirbyteStream, AirbyteStream).
use Rattle.std.specs.Prelude.{◌≡◌, ℕ, List, [], ◌∷◌, ◌++◌, None, codes}
use Rattle.json_fields.specs.Fields.{HasField, HasOptional, HasText}

-- an array of one entry, which may have white space around it
abbrev pub one_entry : List ℕ → List ℕ
one_entry entry = 91 ∷ (entry ++ 93 ∷ [])

-- a stream of this name, without namespace
pub record IsNamedStream (text name : List ℕ) : Type 0 where
  pub name_text : HasText text (codes "name") name
  pub no_namespace : HasOptional text (codes "namespace") None

-- an entry whose stream is appended incrementally
pub record IsAppendEntry (entry : List ℕ) : Type 0 where
  pub sync_mode : HasText entry (codes "sync_mode") (codes "incremental")
  pub destination_sync_mode : HasText entry (codes "destination_sync_mode") (codes "append")
  pub no_generation : HasOptional entry (codes "generation_id") None

-- the entry of the only stream
pub record IsEntry (entry name : List ℕ) : Type 0 where
  pub append : IsAppendEntry entry
  pub stream : List ℕ
  pub field : HasField entry (codes "stream") stream
  pub named : IsNamedStream stream name

-- the text is a catalog with this stream alone
pub record IsCatalog (text name : List ℕ) : Type 0 where
  pub streams : List ℕ
  pub field : HasField text (codes "streams") streams
  pub entry : List ℕ
  pub single : streams ≡ one_entry entry
  pub holds : IsEntry entry name
