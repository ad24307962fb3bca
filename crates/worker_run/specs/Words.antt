-- The words of the worker's command.
use Rattle.std.specs.Prelude.{ℕ, List, [], ◌∷◌, Bool, false, not, ◌&&◌, ◌==◌, if◌then◌else◌, Option, None, Some, codes}
use Rattle.std.specs.Str.{bytes_eq}

-- the names of two texts: the file of messages and the configured catalog
pub record TextNames : Type 0 where
  pub messages : List ℕ
  pub catalog : List ℕ

-- a value is not empty and begins with no hyphen
abbrev pub is_value : List ℕ → Bool
is_value [] = false
is_value (byte ∷ bytes) = not (byte == 45)

abbrev pub are_values : List ℕ → List ℕ → Bool
are_values a b = is_value a && is_value b

-- two pairs of option and value, each option once, in either order
abbrev pub pairs : List ℕ → List ℕ → List ℕ → List ℕ → Option TextNames
pairs a x b y =
    if bytes_eq a (codes "--messages") && (bytes_eq b (codes "--catalog") && are_values x y) then Some (record { messages = x; catalog = y })
    else (if bytes_eq a (codes "--catalog") && (bytes_eq b (codes "--messages") && are_values x y) then Some (record { messages = y; catalog = x }) else None)

-- what the words ask for, None where they have another form
abbrev pub asked : List (List ℕ) → Option TextNames
asked (command ∷ a ∷ x ∷ b ∷ y ∷ []) = if bytes_eq command (codes "local") then pairs a x b y else None
asked words = None
