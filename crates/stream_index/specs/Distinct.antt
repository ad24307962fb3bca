-- Lists in which nothing stands twice.
use Rattle.std.specs.Prelude.{◌≡◌, ℕ, List, Option, Some, slice_get}

-- whatever stands at two places stands at one
abbrev pub AreDistinct : {A : Type 0} → List A → Type 0
AreDistinct {A} items = (i j : ℕ) (item : A) → slice_get items i ≡ Some item → slice_get items j ≡ Some item → i ≡ j
