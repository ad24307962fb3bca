-- Places that rise, as they are read one after another.
use Rattle.std.specs.Prelude.{ℕ, ◌<◌, ◌≤◌, List, [], ◌∷◌}
use Rattle.outside.specs.declared.table.PlacedRow.{PlacedRow}

-- the places of these rows rise from above this one, up to the last that was given
abbrev pub RiseFrom : ℕ → ℕ → List PlacedRow → Type 0
RiseFrom places before [] = Unit {0}
RiseFrom places before (placed ∷ rows) = (before < placed.place) × (placed.place ≤ places) × RiseFrom places placed.place rows
