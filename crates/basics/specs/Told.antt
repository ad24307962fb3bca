-- What an object of the outside may tell of itself, and counts that never fall.
use Rattle.std.specs.Prelude.{◌≡◌, ℕ, ◌+◌, ◌-◌, ◌^◌, ◌≤◌, min, List, ◌++◌, Option, None, Some}

-- what was told has grown by what the function makes of it
abbrev pub told_by : {A : Type 0} → (List A → List A) → Option (List A) → Option (List A)
told_by more None = None
told_by more (Some before) = Some (before ++ more before)

-- what was told has grown by these
abbrev pub told_more : {A : Type 0} → List A → Option (List A) → Option (List A)
told_more more None = None
told_more more (Some before) = Some (before ++ more)

-- a count has risen by n, or stands at the end of its type
abbrev pub RoseBy : ℕ → ℕ → ℕ → Type 0
RoseBy n before now = min (before + n) (2 ^ 64 - 1) ≤ now

abbrev pub Rose : ℕ → ℕ → Type 0
Rose before now = RoseBy 1 before now

-- a count has not fallen, and rose where this happened
pub record RoseIf (happened : Type 0) (before now : ℕ) : Type 0 where
  pub kept : before ≤ now
  pub rose : happened → Rose before now

-- what was told has grown by a front of the whole
pub record GrewByFront {A : Type 0} (whole : List A) (before now : Option (List A)) : Type 0 where
  pub front : List A
  pub rest : List A
  pub splits : whole ≡ front ++ rest
  pub grew : now ≡ told_more front before
