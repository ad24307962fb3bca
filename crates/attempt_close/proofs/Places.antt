-- Elements of lists by their places.
use Rattle.std.proofs.Common.{arith, ◌≡◌, ◌⊎◌, inl, inr, ℕ, zero, suc, ◌+◌, ◌-◌, ◌<◌, ◌≤◌, List, [], ◌∷◌, Bool, true, false, cond, Option, None, Some, refl, sym, ◌∙◌, ap, subst, filter, drop, take, length, add-one}
use Rattle.std.specs.Prelude.{slice_get}
use Rattle.std.specs.List.{AllByRecursion}

-- an element is there, or the list ends before
pub by_place : {A P : Type 0} (list : List A) (n : ℕ) → ((a : A) → slice_get list n ≡ Some a → P) → (slice_get list n ≡ None → P) → P
by_place {A} {P} list n there past = at (slice_get list n) refl
  where
    at : (found : Option A) → slice_get list n ≡ found → P
    at None is = past is
    at (Some a) is = there a is

none_some : {A : Type 0} {a : A} → None ≡ Some a → ⊥
none_some e = cc

some_is : {A : Type 0} {a b : A} → Some a ≡ Some b → a ≡ b
some_is e = cc

-- one is there below the length
pub within_some : {A : Type 0} (list : List A) (n : ℕ) → n < length list → (a : A) × (slice_get list n ≡ Some a)
within_some [] n less = absurd (omega (arith, less))
within_some (x ∷ list) zero less = (x, refl)
within_some (x ∷ list) (suc n) less = within_some list n (omega (arith, less))

pub some_within : {A : Type 0} (list : List A) (n : ℕ) (a : A) → slice_get list n ≡ Some a → n < length list
some_within [] n a is = absurd (none_some is)
some_within (x ∷ list) zero a is = omega arith
some_within (x ∷ list) (suc n) a is = let less = some_within list n a is in omega (arith, less)

drop_suc : {A : Type 0} (list : List A) (n : ℕ) (a : A) → slice_get list n ≡ Some a → drop n list ≡ a ∷ drop (suc n) list
drop_suc [] n a is = absurd (none_some is)
drop_suc (x ∷ list) zero a is = ap (λ it. it ∷ list) (some_is is)
drop_suc (x ∷ list) (suc n) a is = drop_suc list n a is

drop_past : {A : Type 0} (list : List A) (n : ℕ) → slice_get list n ≡ None → drop n list ≡ []
drop_past [] zero is = refl
drop_past [] (suc n) is = refl
drop_past (x ∷ list) zero is = absurd (none_some (sym is))
drop_past (x ∷ list) (suc n) is = drop_past list n is

drop_past_suc : {A : Type 0} (list : List A) (n : ℕ) → slice_get list n ≡ None → drop (suc n) list ≡ []
drop_past_suc [] n is = refl
drop_past_suc (x ∷ list) zero is = absurd (none_some (sym is))
drop_past_suc (x ∷ list) (suc n) is = drop_past_suc list n is

pub drop_at : {A : Type 0} (list : List A) (n : ℕ) (a : A) → slice_get list n ≡ Some a → drop n list ≡ a ∷ drop (n + 1) list
drop_at list n a is = drop_suc list n a is ∙ ap (λ m. a ∷ drop m list) (sym (add-one n))

pub drop_end : {A : Type 0} (list : List A) (n : ℕ) → length list ≤ n → drop n list ≡ []
drop_end list n past = by_place list n (λ a is. absurd (let less = some_within list n a is in omega (arith, less, past))) (drop_past list n)

-- elements that do not pass are left out
skip_one : {A : Type 0} (p : A → Bool) (list : List A) (n : ℕ) → ((a : A) → slice_get list n ≡ Some a → p a ≡ false) → filter p (drop n list) ≡ filter p (drop (suc n) list)
skip_one p list n none = by_place list n
    (λ a is. ap (filter p) (drop_suc list n a is) ∙ ap (λ b. cond b (a ∷ filter p (drop (suc n) list)) (filter p (drop (suc n) list))) (none a is))
    (λ past. ap (filter p) (drop_past list n past ∙ sym (drop_past_suc list n past)))

skip_many : {A : Type 0} (p : A → Bool) (list : List A) (from more : ℕ) → ((k : ℕ) (a : A) → from ≤ k → k < from + more → slice_get list k ≡ Some a → p a ≡ false) → filter p (drop from list) ≡ filter p (drop (from + more) list)
skip_many p list from zero none = ap (λ m. filter p (drop m list)) (omega arith)
skip_many p list from (suc more) none =
    skip_one p list from (λ a is. none from a (omega arith) (omega arith) is)
    ∙ (skip_many p list (suc from) more (λ k a low high is. none k a (omega (arith, low)) (omega (arith, high)) is)
    ∙ ap (λ m. filter p (drop m list)) (omega arith))

pub skip : {A : Type 0} (p : A → Bool) (list : List A) (from to : ℕ) → from ≤ to → ((k : ℕ) (a : A) → from ≤ k → k < to → slice_get list k ≡ Some a → p a ≡ false) → filter p (drop from list) ≡ filter p (drop to list)
skip p list from to within none =
    let gap : to ≡ from + (to - from) = omega (arith, within) in
    skip_many p list from (to - from) (λ k a low high is. none k a low (omega (arith, high, gap)) is) ∙ ap (λ m. filter p (drop m list)) (sym gap)

-- what holds of each element by its place holds of all
pub all_places : {A : Type 0} (P : A → Type 0) (list : List A) → ((n : ℕ) (a : A) → slice_get list n ≡ Some a → P a) → AllByRecursion P list
all_places P [] each = tt
all_places P (x ∷ list) each = (each zero x refl, all_places P list (λ n a is. each (suc n) a is))

pub take_places : {A : Type 0} (P : A → Type 0) (list : List A) (to : ℕ) → ((n : ℕ) (a : A) → n < to → slice_get list n ≡ Some a → P a) → AllByRecursion P (take to list)
take_places P list zero each = tt
take_places P [] (suc to) each = tt
take_places P (x ∷ list) (suc to) each = (each zero x (omega arith) refl, take_places P list to (λ n a less is. each (suc n) a (omega (arith, less)) is))

pub at_place : {A : Type 0} (P : A → Type 0) (list : List A) (n : ℕ) (a : A) → AllByRecursion P list → slice_get list n ≡ Some a → P a
at_place P [] n a each is = absurd (none_some is)
at_place P (x ∷ list) zero a each is = subst P (some_is is) each.0
at_place P (x ∷ list) (suc n) a each is = at_place P list n a each.1 is
