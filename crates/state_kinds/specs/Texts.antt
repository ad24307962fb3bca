-- The text of the state store, and the array of states that a source is started with.
use Rattle.std.specs.Prelude.{◌≡◌, ℕ, List, [], ◌∷◌, ◌++◌, map, Option, None, Some, Bool, false, option_map, codes, decimal, if◌then◌else◌}
use Rattle.std.specs.List.{filter_map}
use Rattle.json.specs.Print.{quoted}
use Rattle.json_write.specs.Objects.{Part, named, optional, object_text, list_text}
use Rattle.basics.specs.declared.stream.StreamId.{StreamId}
use Rattle.state_kinds.specs.declared.entry.SavedEntry.{SavedEntry}
use Rattle.state_kinds.specs.Saved.{Saved, state_of}

-- a state's object, or null
abbrev pub held_text : Option (List ℕ) → List ℕ
held_text None = codes "null"
held_text (Some object) = object

abbrev pub entry_parts : SavedEntry → List Part
entry_parts entry =
    named (codes "name") (quoted entry.id.name)
    ∷ optional (codes "namespace") (option_map quoted entry.id.namespace)
    (named (codes "generation") (decimal entry.generation) ∷ named (codes "state") (held_text entry.state) ∷ [])

-- the store's text
abbrev pub store_text : Saved → List ℕ
store_text set = object_text (
    named (codes "version") (decimal 1)
    ∷ named (codes "streams") (list_text (map (λ entry. object_text (entry_parts entry)) set.entries))
    ∷ named (codes "global") (held_text set.global)
    ∷ [])

-- the objects that a source of these streams is started with: the state of all streams alone, or the streams' in their order
abbrev pub listed_beside : List SavedEntry → List StreamId → Option (List ℕ) → List (List ℕ)
listed_beside entries ids (Some object) = object ∷ []
listed_beside entries ids None = filter_map (state_of entries) ids

abbrev pub states_text : Saved → List StreamId → List ℕ
states_text set ids = list_text (listed_beside set.entries ids set.global)

-- For private clauses: an element, where there is one, was put behind others, and whether the next is the first is known.
abbrev pub AddsItem : Bool → Option (List ℕ) → List ℕ → Bool → List ℕ → Type 0
AddsItem is_first None old first now = (first ≡ is_first) × (now ≡ old)
AddsItem is_first (Some item) old first now = (first ≡ false) × (now ≡ (old ++ (if is_first then [] else 44 ∷ [])) ++ item)
