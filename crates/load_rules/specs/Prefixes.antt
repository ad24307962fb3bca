-- Lists judged element by element, and their fronts.
use Rattle.std.specs.Prelude.{◌≡◌, List, [], ◌∷◌, ◌++◌}

-- each element fits those before it, `before` being in front of all
abbrev pub EachFits : {A : Type 0} → (List A → A → Type 0) → List A → List A → Type 0
EachFits fits before [] = Unit {0}
EachFits fits before (next ∷ more) = fits before next × EachFits fits (before ++ next ∷ []) more

abbrev pub IsPrefix : {A : Type 0} → List A → List A → Type 0
IsPrefix {A} front whole = (rest : List A) × (whole ≡ front ++ rest)

-- the first element, changed; where there is none, nothing
abbrev pub with_first : {A : Type 0} → (A → A) → List A → List A
with_first change [] = []
with_first change (first ∷ rest) = change first ∷ rest
