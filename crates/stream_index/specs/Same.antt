-- Which names are those of one stream.
use Rattle.std.specs.Prelude.{ℕ, List, Option, None, Some, Bool, true, false, ◌&&◌}
use Rattle.std.specs.Str.{bytes_eq}
use Rattle.basics.specs.declared.stream.StreamId.{StreamId}

-- an empty namespace is a namespace
abbrev pub is_same_namespace : Option (List ℕ) → Option (List ℕ) → Bool
is_same_namespace None None = true
is_same_namespace (Some namespace) (Some other) = bytes_eq namespace other
is_same_namespace _ _ = false

-- the same name and the same namespace
abbrev pub is_same_stream : StreamId → StreamId → Bool
is_same_stream id other = bytes_eq id.name other.name && is_same_namespace id.namespace other.namespace
