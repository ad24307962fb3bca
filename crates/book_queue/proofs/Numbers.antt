-- The numbers of batches, by their chains.
use Rattle.std.proofs.Common.{arith, ◌≡◌, ◌≢◌, ℕ, ◌<◌, ◌==◌, List, [], ◌∷◌, ◌++◌, true, false, refl, sym, ◌∙◌, inl, inr, ◌⊎◌}
use Rattle.std.specs.List.{AllByRecursion, list_any}
use Rattle.std.proofs.lemmas.Bool.{cases_Bool, false≢true}
use Rattle.book_queue.specs.declared.batch.Batch.{Batch}
use Rattle.book_queue.specs.Views.{number_in, AreApart}
use Rattle.book_queue.proofs.Lists.{all_as, all_push, all_without, all_middle}

pub same_true : (a b : ℕ) → a ≡ b → (a == b) ≡ true
same_true a b same = rw same (grind arith)

pub true_same : (a b : ℕ) → (a == b) ≡ true → a ≡ b
true_same a b is = grind (arith, is)

pub apart_false : (a b : ℕ) → a ≢ b → (a == b) ≡ false
apart_false a b apart = at (cases_Bool (a == b))
  where
    at : ((a == b) ≡ true) ⊎ ((a == b) ≡ false) → (a == b) ≡ false
    at (inl is) = absurd (apart (true_same a b is))
    at (inr is) = is

pub false_apart : (a b : ℕ) → (a == b) ≡ false → a ≢ b
false_apart a b is same = false≢true (sym is ∙ same_true a b same)

-- Batches apart

pub apart_without : (front rest : List Batch) (batch : Batch) → AreApart (front ++ batch ∷ rest) → AreApart (front ++ rest)
apart_without [] rest batch apart = apart.1
apart_without (other ∷ front) rest batch apart = (all_without (λ one. (other.number < one.number) × (other.chain ≢ one.chain)) front rest batch apart.0, apart_without front rest batch apart.1)

pub push_apart : (out : List Batch) (batch : Batch) → AreApart out → AllByRecursion (λ other. (other.number < batch.number) × (other.chain ≢ batch.chain)) out → AreApart (out ++ batch ∷ [])
push_apart [] batch apart all = (tt, tt)
push_apart (other ∷ out) batch apart all = (all_push (λ one. (other.number < one.number) × (other.chain ≢ one.chain)) out batch apart.0 all.0, push_apart out batch apart.1 all.1)

-- the others have other chains
pub others_apart : (front rest : List Batch) (batch : Batch) → AreApart (front ++ batch ∷ rest) → AllByRecursion (λ other. other.chain ≢ batch.chain) (front ++ rest)
others_apart [] rest batch apart = all_as (λ other. (batch.number < other.number) × (batch.chain ≢ other.chain)) (λ other. other.chain ≢ batch.chain) rest (λ other is same. is.1 (sym same)) apart.0
others_apart (other ∷ front) rest batch apart = ((all_middle (λ one. (other.number < one.number) × (other.chain ≢ one.chain)) front rest batch apart.0).1, others_apart front rest batch apart.1)

-- Numbers

step_own : (batch : Batch) (more : List Batch) (chain : ℕ) → (batch.chain == chain) ≡ true → number_in (batch ∷ more) chain ≡ batch.number
step_own batch more chain is = rw is refl

step_past : (batch : Batch) (more : List Batch) (chain : ℕ) → (batch.chain == chain) ≡ false → number_in (batch ∷ more) chain ≡ number_in more chain
step_past batch more chain is = rw is refl

pub number_own : (front rest : List Batch) (batch : Batch) → AreApart (front ++ batch ∷ rest) → number_in (front ++ batch ∷ rest) batch.chain ≡ batch.number
number_own [] rest batch apart = step_own batch rest batch.chain (same_true batch.chain batch.chain refl)
number_own (other ∷ front) rest batch apart = step_past other (front ++ batch ∷ rest) batch.chain (apart_false other.chain batch.chain (all_middle (λ one. (other.number < one.number) × (other.chain ≢ one.chain)) front rest batch apart.0).1) ∙ number_own front rest batch apart.1

pub number_without : (front rest : List Batch) (batch : Batch) (chain : ℕ) → chain ≢ batch.chain → number_in (front ++ rest) chain ≡ number_in (front ++ batch ∷ rest) chain
number_without [] rest batch chain apart = sym (step_past batch rest chain (apart_false batch.chain chain (λ same. apart (sym same))))
number_without (other ∷ front) rest batch chain apart = at (cases_Bool (other.chain == chain)) (number_without front rest batch chain apart)
  where
    at : ((other.chain == chain) ≡ true) ⊎ ((other.chain == chain) ≡ false) → number_in (front ++ rest) chain ≡ number_in (front ++ batch ∷ rest) chain → number_in (other ∷ front ++ rest) chain ≡ number_in (other ∷ front ++ batch ∷ rest) chain
    at (inl is) deeper = rw is refl
    at (inr is) deeper = rw is deeper

-- a batch that is there stays what it is when one comes behind
pub number_push : (out : List Batch) (batch : Batch) (chain : ℕ) → list_any (λ one. one.chain == chain) out ≡ true → number_in (out ++ batch ∷ []) chain ≡ number_in out chain
number_push [] batch chain is = absurd (false≢true is)
number_push (other ∷ out) batch chain is = at (cases_Bool (other.chain == chain)) (number_push out batch chain)
  where
    at : ((other.chain == chain) ≡ true) ⊎ ((other.chain == chain) ≡ false) → (list_any (λ one. one.chain == chain) out ≡ true → number_in (out ++ batch ∷ []) chain ≡ number_in out chain) → number_in (other ∷ out ++ batch ∷ []) chain ≡ number_in (other ∷ out) chain
    at (inl own) deeper = rw own refl
    at (inr past) deeper = rw past (deeper (rw past at is))

-- a chain of a batch: what holds of all batches' numbers holds of its number
pub number_all : (P : ℕ → Type 0) (out : List Batch) (chain : ℕ) → list_any (λ one. one.chain == chain) out ≡ true → AllByRecursion (λ batch. batch.chain ≡ chain → P batch.number) out → P (number_in out chain)
number_all P [] chain is all = absurd (false≢true is)
number_all P (other ∷ out) chain is all = at (cases_Bool (other.chain == chain)) (number_all P out chain)
  where
    at : ((other.chain == chain) ≡ true) ⊎ ((other.chain == chain) ≡ false) → (list_any (λ one. one.chain == chain) out ≡ true → AllByRecursion (λ batch. batch.chain ≡ chain → P batch.number) out → P (number_in out chain)) → P (number_in (other ∷ out) chain)
    at (inl own) deeper = rw own (all.0 (true_same other.chain chain own))
    at (inr past) deeper = rw past (deeper (rw past at is) all.1)

-- each other batch has another number
pub numbers_apart : (front rest : List Batch) (batch : Batch) → AreApart (front ++ batch ∷ rest) → AllByRecursion (λ other. other.chain ≢ batch.chain → other.number ≢ batch.number) (front ++ batch ∷ rest)
numbers_apart [] rest batch apart = ((λ differ. absurd (differ refl)), all_as (λ other. (batch.number < other.number) × (batch.chain ≢ other.chain)) (λ other. other.chain ≢ batch.chain → other.number ≢ batch.number) rest (λ other is differ same. omega (arith, is.0, same)) apart.0)
numbers_apart (other ∷ front) rest batch apart = ((λ differ same. let less = (all_middle (λ one. (other.number < one.number) × (other.chain ≢ one.chain)) front rest batch apart.0).0 in omega (arith, less, same)), numbers_apart front rest batch apart.1)

pub number_other : (front rest : List Batch) (batch : Batch) (chain : ℕ) → AreApart (front ++ batch ∷ rest) → list_any (λ one. one.chain == chain) (front ++ batch ∷ rest) ≡ true → chain ≢ batch.chain → number_in (front ++ batch ∷ rest) chain ≢ batch.number
number_other front rest batch chain apart is differ =
    number_all (λ number. number ≢ batch.number) (front ++ batch ∷ rest) chain is
    (all_as (λ other. other.chain ≢ batch.chain → other.number ≢ batch.number) (λ other. other.chain ≡ chain → other.number ≢ batch.number) (front ++ batch ∷ rest) (λ other apart_from same. apart_from (λ own. differ (sym same ∙ own))) (numbers_apart front rest batch apart))
