-- What it is to answer a question that has at most one answer.
use Rattle.std.specs.Prelude.{◌≡◌, Option, None, Some}

-- the value has P, and no other has
pub record IsOnly {A : Type 0} (P : A → Type 0) (value : A) : Type 0 where
  pub is : P value
  pub only : (other : A) → P other → other ≡ value

-- the answer is the one value with P, and None where no value has it
abbrev pub IsAnswer : {A : Type 0} → (A → Type 0) → Option A → Type 0
IsAnswer {A} P None = (value : A) → ¬ P value
IsAnswer P (Some value) = IsOnly P value
