-- For private clauses: quotation marks at both ends.
use Rattle.std.specs.Prelude.{◌≡◌, ℕ, List, [], ◌∷◌, ◌++◌}

abbrev pub in_quotes : List ℕ → List ℕ
in_quotes inside = 34 ∷ (inside ++ 34 ∷ [])

-- a quotation mark stands at the front and another at the end
pub record IsQuoted (text : List ℕ) : Type 0 where
  pub inside : List ℕ
  pub spelled : text ≡ in_quotes inside
