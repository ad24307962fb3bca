-- What a text begins with.
use Rattle.std.specs.Prelude.{◌≡◌, ℕ, List, take, length}

-- the text begins with this
abbrev pub IsFrontOf : List ℕ → List ℕ → Type 0
IsFrontOf front text = take (length front) text ≡ front
