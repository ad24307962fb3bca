-- JSON values by how deep they nest.
use Rattle.std.specs.Prelude.{ℕ, ◌≤◌, List, Option, None, Some, IsUtf8}
use Rattle.json_span.specs.Grammar.{depth}
use Rattle.json_span.specs.Members.{IsValue}

-- the text is a JSON value in UTF-8, without white space around it, that nests at most so deep
pub record IsValueWithin (limit : ℕ) (text : List ℕ) : Type 0 where
  pub is : IsValue text
  pub within : depth is.value ≤ limit

-- absent, or such a value
abbrev pub IsOptionalWithin : ℕ → Option (List ℕ) → Type 0
IsOptionalWithin limit None = Unit {0}
IsOptionalWithin limit (Some text) = IsValueWithin limit text

-- absent, or a text
abbrev pub IsOptionalUtf8 : Option (List ℕ) → Type 0
IsOptionalUtf8 None = Unit {0}
IsOptionalUtf8 (Some text) = IsUtf8 text
