-- The first state that is the same.
use Rattle.std.proofs.Common.{arith, ◌≡◌, ℕ, zero, suc, ◌+◌, ◌<◌, ◌≤◌, List, [], ◌∷◌, ◌++◌, length, take, drop, slice_get, None, Some, refl, sym, ◌∙◌, ap, subst}
use Rattle.std.specs.List.{AllByRecursion}
use Rattle.airbyte_message.specs.Same.{Same}
use Rattle.airbyte_message.specs.State.{State}
use Rattle.sync_ledger.specs.Takes.{DiffersFrom, IsFirstSame, LeavesPending}
use Rattle.sync_ledger.specs.declared.pending.Pending.{Pending}

no_first : {A : Type 0} (a : A) → None ≡ Some a → ⊥
no_first a e = cc

-- what a walk along a list has seen: its front differs, and this is left
pub record HasPassed (pending rest : List Pending) (got : State) (place : ℕ) : Type 0 where
  pub left : rest ≡ drop place pending
  pub within : place ≤ length pending
  pub others : AllByRecursion (DiffersFrom got) (take place pending)

pub none_passed : (pending : List Pending) (got : State) → HasPassed pending pending got 0
none_passed pending got = record { left = refl; within = omega arith; others = tt }

all_push : (P : Pending → Type 0) (xs : List Pending) (x : Pending) → AllByRecursion P xs → P x → AllByRecursion P (xs ++ x ∷ [])
all_push P [] x ps p = (p, tt)
all_push P (y ∷ ys) x ps p = (ps.0, all_push P ys x ps.1 p)

-- the front of what is left stands at the place, and the rest is left behind it
pub front_at : (pending more : List Pending) (place : ℕ) (first : Pending) → first ∷ more ≡ drop place pending → slice_get pending place ≡ Some first
front_at [] more zero first is = absurd (let e : first ∷ more ≡ [] = is in cc)
front_at [] more (suc place) first is = absurd (let e : first ∷ more ≡ [] = is in cc)
front_at (p ∷ ps) more zero first is = let e : first ∷ more ≡ p ∷ ps = is in cc
front_at (p ∷ ps) more (suc place) first is = front_at ps more place first is

rest_at : (pending more : List Pending) (place : ℕ) (first : Pending) → first ∷ more ≡ drop place pending → more ≡ drop (suc place) pending
rest_at [] more zero first is = absurd (let e : first ∷ more ≡ [] = is in cc)
rest_at [] more (suc place) first is = absurd (let e : first ∷ more ≡ [] = is in cc)
rest_at (p ∷ ps) more zero first is = let e : first ∷ more ≡ p ∷ ps = is in cc
rest_at (p ∷ ps) more (suc place) first is = rest_at ps more place first is

within_at : (pending more : List Pending) (place : ℕ) (first : Pending) → first ∷ more ≡ drop place pending → suc place ≤ length pending
within_at [] more zero first is = absurd (let e : first ∷ more ≡ [] = is in cc)
within_at [] more (suc place) first is = absurd (let e : first ∷ more ≡ [] = is in cc)
within_at (p ∷ ps) more zero first is = omega arith
within_at (p ∷ ps) more (suc place) first is = omega (arith, within_at ps more place first is)

take_at : (pending more : List Pending) (place : ℕ) (first : Pending) → first ∷ more ≡ drop place pending → take (suc place) pending ≡ take place pending ++ first ∷ []
take_at [] more zero first is = absurd (let e : first ∷ more ≡ [] = is in cc)
take_at [] more (suc place) first is = absurd (let e : first ∷ more ≡ [] = is in cc)
take_at (p ∷ ps) more zero first is = let e : first ∷ more ≡ p ∷ ps = is in cc
take_at (p ∷ ps) more (suc place) first is = ap (λ (l : List Pending). p ∷ l) (take_at ps more place first is)

-- one more is passed
pub one_passed : (pending rest more : List Pending) (got : State) (place : ℕ) (first : Pending) → HasPassed pending rest got place → rest ≡ first ∷ more → ¬ Same first.state got → HasPassed pending more got (place + 1)
one_passed pending rest more got place first passed is differs =
    let at : first ∷ more ≡ drop place pending = sym is ∙ passed.left in
    subst (λ (n : ℕ). HasPassed pending more got n) (next place) (record {
      left = rest_at pending more place first at;
      within = within_at pending more place first at;
      others = subst (AllByRecursion (DiffersFrom got)) (sym (take_at pending more place first at)) (all_push (DiffersFrom got) (take place pending) first passed.others differs);
    })
  where
    next : (n : ℕ) → suc n ≡ n + 1
    next n = omega arith

take_all : (xs : List Pending) (n : ℕ) → [] ≡ drop n xs → take n xs ≡ xs
take_all [] zero is = refl
take_all [] (suc n) is = refl
take_all (x ∷ xs) zero is = absurd (let e : [] ≡ x ∷ xs = is in cc)
take_all (x ∷ xs) (suc n) is = ap (λ (l : List Pending). x ∷ l) (take_all xs n is)

-- all are passed
pub all_passed : (pending rest : List Pending) (got : State) (place : ℕ) → HasPassed pending rest got place → rest ≡ [] → AllByRecursion (DiffersFrom got) pending
all_passed pending rest got place passed is = subst (AllByRecursion (DiffersFrom got)) (take_all pending place (sym is ∙ passed.left)) passed.others

-- this one is the same
pub first_found : (pending rest more : List Pending) (got : State) (place : ℕ) (first : Pending) → HasPassed pending rest got place → rest ≡ first ∷ more → Same first.state got → IsFirstSame pending got place
first_found pending rest more got place first passed is same = record { first = first; at = front_at pending more place first (sym is ∙ passed.left); others = passed.others; same = same }

split_at : (pending : List Pending) (place : ℕ) (first : Pending) → slice_get pending place ≡ Some first → pending ≡ take place pending ++ first ∷ drop (suc place) pending
split_at [] place first at = absurd (no_first first at)
split_at (p ∷ ps) zero first at = ap (λ (x : Pending). x ∷ ps) (let e : Some p ≡ Some first = at in cc)
split_at (p ∷ ps) (suc place) first at = ap (λ (l : List Pending). p ∷ l) (split_at ps place first at)

pub place_within : (pending : List Pending) (got : State) (place : ℕ) → IsFirstSame pending got place → place < length pending
place_within pending got place found = within pending place found.first found.at
  where
    within : (ps : List Pending) (n : ℕ) (first : Pending) → slice_get ps n ≡ Some first → n < length ps
    within [] n first at = absurd (no_first first at)
    within (p ∷ ps) zero first at = omega arith
    within (p ∷ ps) (suc n) first at = omega (arith, within ps n first at)

drop_split : (pending : List Pending) (place : ℕ) (first : Pending) → slice_get pending place ≡ Some first → drop place pending ≡ first ∷ drop (suc place) pending
drop_split [] place first at = absurd (no_first first at)
drop_split (p ∷ ps) zero first at = ap (λ (x : Pending). x ∷ ps) (let e : Some p ≡ Some first = at in cc)
drop_split (p ∷ ps) (suc place) first at = drop_split ps place first at

-- what is left behind the first that is the same
pub first_taken : (pending left : List Pending) (got : State) (place : ℕ) (taken : Pending) → IsFirstSame pending got place → drop place pending ≡ taken ∷ left → LeavesPending pending got (Some taken.state) left
first_taken pending left got place taken found is =
    let whole : taken ∷ left ≡ found.first ∷ drop (suc place) pending = sym is ∙ drop_split pending place found.first found.at in
    let one : found.first ≡ taken = cc in
    let rest : drop (suc place) pending ≡ left = cc in
    record {
      first = taken;
      takes = record {
        over = take place pending;
        splits = split_at pending place found.first found.at ∙ (ap (λ (x : Pending). take place pending ++ x ∷ drop (suc place) pending) one ∙ ap (λ (l : List Pending). take place pending ++ taken ∷ l) rest);
        others = found.others;
        same = subst (λ (x : Pending). Same x.state got) one found.same;
      };
      is = refl;
    }
