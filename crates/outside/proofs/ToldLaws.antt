-- What was told in parts was told as a whole, and counts that rose in a part rose in the whole.
use Rattle.std.proofs.Common.{◌≡◌, ℕ, ◌+◌, ◌-◌, ◌^◌, ◌≤◌, min, List, [], ◌∷◌, ◌++◌, Option, None, Some, refl, sym, ◌∙◌, ap, append_assoc, arith}
use Rattle.std.specs.List.{AllByRecursion}
use Rattle.std.proofs.lemmas.List.{append-nil}
use Rattle.basics.specs.Told.{told_more, Rose, RoseIf}

pub told_none : {A : Type 0} (before : Option (List A)) → told_more [] before ≡ before
told_none None = refl
told_none (Some before) = ap Some (append-nil before)

told_twice : {A : Type 0} (a b : List A) (before : Option (List A)) → told_more b (told_more a before) ≡ told_more (a ++ b) before
told_twice a b None = refl
told_twice a b (Some before) = ap Some (append_assoc before a b)

pub told_both : {A : Type 0} (a b : List A) (before mid now : Option (List A)) → mid ≡ told_more a before → now ≡ told_more b mid → now ≡ told_more (a ++ b) before
told_both a b before mid now first second = second ∙ (ap (λ (t : Option (List _)). told_more b t) first ∙ told_twice a b before)

pub all_both : {A : Type 0} (P : A → Type 0) (xs ys : List A) → AllByRecursion P xs → AllByRecursion P ys → AllByRecursion P (xs ++ ys)
all_both P [] ys p q = q
all_both P (x ∷ xs) ys p q = (p.0, all_both P xs ys p.1 q)

pub all_map : {A : Type 0} (P Q : A → Type 0) (xs : List A) → ((x : A) → P x → Q x) → AllByRecursion P xs → AllByRecursion Q xs
all_map P Q [] f p = tt
all_map P Q (x ∷ xs) f p = (f x p.0, all_map P Q xs f p.1)

pub rose_later : (a b c : ℕ) → a ≤ b → Rose b c → Rose a c
rose_later a b c p q = omega arith

pub rose_sooner : (a b c : ℕ) → Rose a b → b ≤ c → Rose a c
rose_sooner a b c p q = omega arith

-- a count that did not fall, where what would have raised it did not happen
pub rose_never : (happened : Type 0) (before now : ℕ) → before ≤ now → (happened → ⊥) → RoseIf happened before now
rose_never happened before now kept never = record { kept = kept; rose = λ h. absurd (never h) }
