-- The text of the state store with one stream, and the array of states that an attempt starts with.
use Rattle.std.specs.Prelude.{ℕ, List, ◌++◌, Option, None, Some, codes}
use Rattle.json.specs.Print.{quoted}

-- the state object that is held, or null
abbrev pub held_text : Option (List ℕ) → List ℕ
held_text None = codes "null"
held_text (Some object) = object

abbrev pub store_front : List ℕ → List ℕ
store_front name = codes "{\"version\":1,\"streams\":[{\"name\":" ++ (quoted name ++ codes ",\"generation\":0,\"state\":")

abbrev pub store_back : List ℕ
store_back = codes "}],\"global\":null}"

-- the store's text for a stream of this name
abbrev pub store_text : List ℕ → Option (List ℕ) → List ℕ
store_text name held = store_front name ++ (held_text held ++ store_back)

-- the array of the states that are held
abbrev pub states_text : Option (List ℕ) → List ℕ
states_text None = codes "[]"
states_text (Some object) = codes "[" ++ (object ++ codes "]")
