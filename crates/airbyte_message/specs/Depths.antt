-- What the texts that messages hold keep to.
use Rattle.std.specs.Prelude.{◌≢◌, ℕ, List, All}

-- how deep a state object may nest, so that the state store, which holds it, still can be read
abbrev pub state_depth : ℕ
state_depth = 124

-- a text without line feeds, so that a line that holds it is one
abbrev pub IsOneLine : List ℕ → Type 0
IsOneLine text = All (λ byte. byte ≢ 10) text
