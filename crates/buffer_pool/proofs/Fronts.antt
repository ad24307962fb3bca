-- Each chain has a number of its own.
use Rattle.std.proofs.Common.{arith, ◌≡◌, ℕ, zero, suc, ◌+◌, ◌-◌, ◌<◌, ◌≤◌, ◌==◌, List, [], ◌∷◌, ◌++◌, Bool, true, false, refl, sym, ◌∙◌, ap, subst, inl, inr, ◌⊎◌, ◌&&◌, ◌||◌, not, nat_lt, take, Option, None, Some, unwrap_or}
use Rattle.std.specs.List.{AllByRecursion, list_any}
use Rattle.std.proofs.lemmas.Bool.{cases_Bool, false≢true}
use Rattle.std.proofs.lemmas.Grind.{common_steps}
use Rattle.std.proofs.lemmas.Option.{none-some}
use Rattle.std.proofs.lemmas.List.Folds.{list_any-append}
use Rattle.buffer_pool.specs.declared.slot.Slot.{Slot}
use Rattle.buffer_pool.specs.Content.{RiseFrom, is_of_chain, is_in_chain, is_queued_of, in_chain, line_of, queue_of, chain_of, with_chain, detached_for, with_front_detached, first_of, with_restored, without_chain, stands_apart, IsNamed, AreNamed}
use Rattle.buffer_pool.proofs.Chains.{none_detached}
use Rattle.buffer_pool.proofs.Keeping.{alike_chain, alike_rise}

-- Records above a number

above_apart : (chain : ℕ) (slot : Slot) → chain < slot.seq → stands_apart chain slot ≡ false
above_apart chain slot above = at (slot.seq == chain) refl
  where
    at : (same : Bool) → slot.seq == chain ≡ same → (same && not (is_in_chain chain slot)) ≡ false
    at false is = refl
    at true is = absurd (grind (arith, is, above))

none_apart : (chain low : ℕ) (held : List Slot) → RiseFrom low held → chain < low → list_any (stands_apart chain) held ≡ false
none_apart chain low [] rise below = refl
none_apart chain low (slot ∷ more) rise below = let first = above_apart chain slot (omega (arith, rise.0, below)) in let rest = none_apart chain (slot.seq + 1) more rise.1 (omega (arith, rise.0, below)) in rw first rest

all_from : (low : ℕ) (held : List Slot) → RiseFrom low held → AllByRecursion (λ slot. low ≤ slot.seq) held
all_from low [] rise = tt
all_from low (slot ∷ more) rise = (rise.0, at more (all_from (slot.seq + 1) more rise.1))
  where
    at : (rest : List Slot) → AllByRecursion (λ other. slot.seq + 1 ≤ other.seq) rest → AllByRecursion (λ other. low ≤ other.seq) rest
    at [] all = tt
    at (other ∷ others) all = (omega (arith, all.0, rise.0), at others all.1)

or_false : (a b : Bool) → a ≡ false → b ≡ false → (a || b) ≡ false
or_false a b first second = rw first second

or_first : (a b : Bool) → (a || b) ≡ false → a ≡ false
or_first false b none = refl
or_first true b none = none

or_second : (a b : Bool) → (a || b) ≡ false → b ≡ false
or_second false b none = none
or_second true b none = absurd (false≢true (sym none))

-- A record more

all_push : (P : Slot → Type 0) (held : List Slot) (slot : Slot) → AllByRecursion P held → P slot → AllByRecursion P (held ++ slot ∷ [])
all_push P [] slot all last = (last, tt)
all_push P (other ∷ more) slot all last = (all.0, all_push P more slot all.1 last)

any_push : (test : Slot → Bool) (held : List Slot) (slot : Slot) → list_any test held ≡ false → test slot ≡ false → list_any test (held ++ slot ∷ []) ≡ false
any_push test held slot none fails = list_any-append test held (slot ∷ []) ∙ (rw none (rw fails refl))

named_push : (held part : List Slot) (slot : Slot) → AreNamed held part → AllByRecursion (λ other. other.seq < slot.seq) part → AreNamed (held ++ slot ∷ []) part
named_push held [] slot named below = tt
named_push held (other ∷ more) slot named below = (at other.chain named.0, named_push held more slot named.1 below.1)
  where
    at : (chain : Option ℕ) → IsNamed held other.seq chain → IsNamed (held ++ slot ∷ []) other.seq chain
    at None is = tt
    at (Some chain) is = (is.0, any_push (stands_apart chain) held slot is.1 (above_apart chain slot (omega (arith, is.0, below.0))))

pub push_named : (held : List Slot) (slot : Slot) → slot.chain ≡ None → AreNamed held held → AllByRecursion (λ other. other.seq < slot.seq) held → AreNamed (held ++ slot ∷ []) (held ++ slot ∷ [])
push_named held slot queued named below = all_push (λ other. IsNamed (held ++ slot ∷ []) other.seq other.chain) held slot (named_push held held slot named below) (rw queued tt)

-- The front of a queue

queued_apart : (stream : ℕ) (slot : Slot) → is_queued_of stream slot ≡ true → stands_apart slot.seq slot ≡ true
queued_apart stream slot queued = at slot.chain refl
  where
    at : (chain : Option ℕ) → slot.chain ≡ chain → ((slot.seq == slot.seq) && not (is_of_chain slot.seq slot.chain)) ≡ true
    at None is = rw is (grind arith)
    at (Some chain) is = absurd (let bad = rw is at queued in grind (arith, bad))

first_apart : (stream front : ℕ) (held : List Slot) → first_of stream held ≡ Some front → list_any (stands_apart front) held ≡ true
first_apart stream front [] is = absurd (none-some front is)
first_apart stream front (slot ∷ more) is = at (cases_Bool (is_queued_of stream slot)) (first_apart stream front more)
  where
    at : (is_queued_of stream slot ≡ true) ⊎ (is_queued_of stream slot ≡ false) → (first_of stream more ≡ Some front → list_any (stands_apart front) more ≡ true) → list_any (stands_apart front) (slot ∷ more) ≡ true
    at (inl queued) deeper = let same = ap (λ first. unwrap_or first 0) (rw queued at is) in subst (λ number. (stands_apart number slot || list_any (stands_apart number) more) ≡ true) same (rw (queued_apart stream slot queued) refl)
    at (inr passed) deeper = let rest = deeper (rw passed at is) in grind (arith, rest)

-- the front is the least of its queue
first_least : (stream front low : ℕ) (held : List Slot) → RiseFrom low held → first_of stream held ≡ Some front → AllByRecursion (λ slot. is_queued_of stream slot ≡ true → front ≤ slot.seq) held
first_least stream front low [] rise is = tt
first_least stream front low (slot ∷ more) rise is = at (cases_Bool (is_queued_of stream slot)) (first_least stream front (slot.seq + 1) more rise.1)
  where
    behind : (rest : List Slot) → AllByRecursion (λ other. slot.seq + 1 ≤ other.seq) rest → slot.seq ≡ front → AllByRecursion (λ other. is_queued_of stream other ≡ true → front ≤ other.seq) rest
    behind [] all same = tt
    behind (other ∷ others) all same = ((λ queued. omega (arith, all.0, same)), behind others all.1 same)

    at : (is_queued_of stream slot ≡ true) ⊎ (is_queued_of stream slot ≡ false) → (first_of stream more ≡ Some front → AllByRecursion (λ other. is_queued_of stream other ≡ true → front ≤ other.seq) more) → AllByRecursion (λ other. is_queued_of stream other ≡ true → front ≤ other.seq) (slot ∷ more)
    at (inl queued) deeper = let same = ap (λ first. unwrap_or first 0) (rw queued at is) in ((λ here. omega (arith, same)), behind more (all_from (slot.seq + 1) more rise.1) same)
    at (inr passed) deeper = ((λ queued. absurd (false≢true (sym passed ∙ queued))), deeper (rw passed at is))

first_above : (stream front low : ℕ) (held : List Slot) → RiseFrom low held → first_of stream held ≡ Some front → low ≤ front
first_above stream front low [] rise is = absurd (none-some front is)
first_above stream front low (slot ∷ more) rise is = at (cases_Bool (is_queued_of stream slot)) (first_above stream front (slot.seq + 1) more rise.1)
  where
    at : (is_queued_of stream slot ≡ true) ⊎ (is_queued_of stream slot ≡ false) → (first_of stream more ≡ Some front → slot.seq + 1 ≤ front) → low ≤ front
    at (inl queued) deeper = let same = ap (λ first. unwrap_or first 0) (rw queued at is) in omega (arith, same, rise.0)
    at (inr passed) deeper = omega (arith, rise.0, deeper (rw passed at is))

-- What is detached

below_apart : (chain : ℕ) (slot : Slot) → slot.seq < chain → stands_apart chain slot ≡ false
below_apart chain slot below = at (slot.seq == chain) refl
  where
    at : (same : Bool) → slot.seq == chain ≡ same → (same && not (is_in_chain chain slot)) ≡ false
    at false is = refl
    at true is = absurd (grind (arith, is, below))

and_false : (b : Bool) → b && false ≡ false
and_false true = refl
and_false false = refl

in_own : (chain : ℕ) (slot : Slot) → stands_apart chain (in_chain chain slot) ≡ false
in_own chain slot = let own : chain == chain ≡ true = grind arith in rw own (and_false (slot.seq == chain))

step_goes : (chain stream most : ℕ) (slot : Slot) (more : List Slot) → is_queued_of stream slot ≡ true → with_chain chain stream (suc most) (slot ∷ more) ≡ in_chain chain slot ∷ with_chain chain stream most more
step_goes chain stream most slot more queued = grind (arith, common_steps, queued)

step_stays : (chain stream most : ℕ) (slot : Slot) (more : List Slot) → is_queued_of stream slot ≡ false → with_chain chain stream most (slot ∷ more) ≡ slot ∷ with_chain chain stream most more
step_stays chain stream most slot more passed = rw passed refl

and_first : (a b : Bool) → a && b ≡ true → a ≡ true
and_first true b both = refl
and_first false b both = both

queued_free : (stream chain : ℕ) (slot : Slot) → is_queued_of stream slot ≡ true → is_in_chain chain slot ≡ false
queued_free stream chain slot queued = at slot.chain refl
  where
    at : (own : Option ℕ) → slot.chain ≡ own → is_of_chain chain slot.chain ≡ false
    at None is = rw is refl
    at (Some number) is = absurd (let bad = rw is at queued in grind (arith, bad))

-- the front stands in its own chain
front_in : (stream front most low : ℕ) (held : List Slot) → RiseFrom low held → first_of stream held ≡ Some front → list_any (stands_apart front) (with_chain front stream (suc most) held) ≡ false
front_in stream front most low [] rise is = refl
front_in stream front most low (slot ∷ more) rise is = at (cases_Bool (is_queued_of stream slot)) (front_in stream front most (slot.seq + 1) more rise.1) (first_above stream front (slot.seq + 1) more rise.1)
  where
    at : (is_queued_of stream slot ≡ true) ⊎ (is_queued_of stream slot ≡ false) → (first_of stream more ≡ Some front → list_any (stands_apart front) (with_chain front stream (suc most) more) ≡ false) → (first_of stream more ≡ Some front → slot.seq + 1 ≤ front) → list_any (stands_apart front) (with_chain front stream (suc most) (slot ∷ more)) ≡ false
    at (inl queued) deeper above =
        let same = ap (λ first. unwrap_or first 0) (rw queued at is)
        in let rest = none_apart front (slot.seq + 1) (with_chain front stream most more) (alike_rise (slot.seq + 1) more (with_chain front stream most more) (alike_chain front stream most more) rise.1) (omega (arith, same))
        in rw (step_goes front stream most slot more queued) (or_false _ _ (in_own front slot) rest)
    at (inr passed) deeper above = let behind = rw passed at is in rw (step_stays front stream (suc most) slot more passed) (or_false _ _ (below_apart front slot (omega (arith, above behind))) (deeper behind))

-- a record that is queued stands apart from every chain, and from every other chain when it is detached
any_other : (chain front stream most : ℕ) (held : List Slot) → front == chain ≡ false → list_any (stands_apart chain) (with_chain front stream most held) ≡ list_any (stands_apart chain) held
any_other chain front stream most [] other = refl
any_other chain front stream most (slot ∷ more) other = at (cases_Bool (is_queued_of stream slot && nat_lt 0 most)) (any_other chain front stream (most - 1) more other) (any_other chain front stream most more other)
  where
    at : (is_queued_of stream slot && nat_lt 0 most ≡ true) ⊎ (is_queued_of stream slot && nat_lt 0 most ≡ false) → list_any (stands_apart chain) (with_chain front stream (most - 1) more) ≡ list_any (stands_apart chain) more → list_any (stands_apart chain) (with_chain front stream most more) ≡ list_any (stands_apart chain) more → list_any (stands_apart chain) (with_chain front stream most (slot ∷ more)) ≡ list_any (stands_apart chain) (slot ∷ more)
    at (inl goes) first second =
        let free = queued_free stream chain slot (and_first (is_queued_of stream slot) (nat_lt 0 most) goes)
        in rw goes (rw other (rw first (rw free refl)))
    at (inr stays) first second = rw stays (rw second refl)

-- no record stood in the chain before
named_other : (held : List Slot) (front : ℕ) (slot : Slot) (chain : Option ℕ) → list_any (stands_apart front) held ≡ true → IsNamed held slot.seq chain → is_of_chain front chain ≡ false
named_other held front slot None there named = refl
named_other held front slot (Some chain) there named = at (cases_Bool (chain == front))
  where
    at : (chain == front ≡ true) ⊎ (chain == front ≡ false) → chain == front ≡ false
    at (inl same) = absurd (let is : chain ≡ front = grind (arith, same) in false≢true (sym named.1 ∙ subst (λ number. list_any (stands_apart number) held ≡ true) (sym is) there))
    at (inr differs) = differs

pub none_in_front : (held part : List Slot) (front : ℕ) → list_any (stands_apart front) held ≡ true → AreNamed held part → AllByRecursion (λ slot. is_in_chain front slot ≡ false) part
none_in_front held [] front there named = tt
none_in_front held (slot ∷ more) front there named = (named_other held front slot slot.chain there named.0, none_in_front held more front there named.1)

named_more : (held now : List Slot) (front seq : ℕ) (chain : Option ℕ) → ((number : ℕ) → front == number ≡ false → list_any (stands_apart number) now ≡ list_any (stands_apart number) held) → is_of_chain front chain ≡ false → IsNamed held seq chain → IsNamed now seq chain
named_more held now front seq None same other named = tt
named_more held now front seq (Some chain) same other named = (named.0, same chain (let apart = other in grind (arith, apart)) ∙ named.1)

named_with : (held now part : List Slot) (front stream most : ℕ) → ((number : ℕ) → front == number ≡ false → list_any (stands_apart number) now ≡ list_any (stands_apart number) held) → list_any (stands_apart front) now ≡ false → AreNamed held part → AllByRecursion (λ slot. is_in_chain front slot ≡ false) part → AllByRecursion (λ slot. is_queued_of stream slot ≡ true → front ≤ slot.seq) part → AreNamed now (with_chain front stream most part)
named_with held now [] front stream most same own named other least = tt
named_with held now (slot ∷ more) front stream most same own named other least = at (cases_Bool (is_queued_of stream slot && nat_lt 0 most)) (named_with held now more front stream (most - 1) same own named.1 other.1 least.1) (named_with held now more front stream most same own named.1 other.1 least.1)
  where
    at : (is_queued_of stream slot && nat_lt 0 most ≡ true) ⊎ (is_queued_of stream slot && nat_lt 0 most ≡ false) → AreNamed now (with_chain front stream (most - 1) more) → AreNamed now (with_chain front stream most more) → AreNamed now (with_chain front stream most (slot ∷ more))
    at (inl goes) first second = rw goes ((least.0 (and_first (is_queued_of stream slot) (nat_lt 0 most) goes), own), first)
    at (inr stays) first second = rw stays (named_more held now front slot.seq slot.chain same other.0 named.0, second)

pub detached_named : (stream front most : ℕ) (held : List Slot) → RiseFrom 0 held → first_of stream held ≡ Some front → AreNamed held held → AreNamed (with_chain front stream (suc most) held) (with_chain front stream (suc most) held)
detached_named stream front most held rise is named =
    named_with held (with_chain front stream (suc most) held) held front stream (suc most) (λ number differs. any_other number front stream (suc most) held differs) (front_in stream front most 0 held rise is) named (none_in_front held held front (first_apart stream front held is) named) (first_least stream front 0 held rise is)

none_of : (front : ℕ) (held : List Slot) → AllByRecursion (λ slot. is_in_chain front slot ≡ false) held → chain_of front held ≡ []
none_of front [] other = refl
none_of front (slot ∷ more) other = rw other.0 (none_of front more other.1)

-- what is detached is the front of the queue
pub chain_taken : (front stream most : ℕ) (held : List Slot) → AllByRecursion (λ slot. is_in_chain front slot ≡ false) held → chain_of front (with_chain front stream most held) ≡ take most (queue_of stream held)
chain_taken front stream zero held other = rw (none_detached front stream held) (none_of front held other)
chain_taken front stream (suc most) [] other = refl
chain_taken front stream (suc most) (slot ∷ more) other = at (cases_Bool (is_queued_of stream slot)) (chain_taken front stream most more other.1) (chain_taken front stream (suc most) more other.1)
  where
    at : (is_queued_of stream slot ≡ true) ⊎ (is_queued_of stream slot ≡ false) → chain_of front (with_chain front stream most more) ≡ take most (queue_of stream more) → chain_of front (with_chain front stream (suc most) more) ≡ take (suc most) (queue_of stream more) → chain_of front (with_chain front stream (suc most) (slot ∷ more)) ≡ take (suc most) (queue_of stream (slot ∷ more))
    at (inl queued) first second = let own : front == front ≡ true = grind arith in rw (step_goes front stream most slot more queued) (rw own (rw queued (ap (λ rest. line_of slot ∷ rest) first)))
    at (inr passed) first second = rw (step_stays front stream (suc most) slot more passed) (rw other.0 (rw passed second))

not_in_other : (chain number : ℕ) (slot : Slot) → is_in_chain chain slot ≡ true → chain == number ≡ false → is_in_chain number slot ≡ false
not_in_other chain number slot own differs = at slot.chain refl
  where
    at : (held : Option ℕ) → slot.chain ≡ held → is_of_chain number slot.chain ≡ false
    at None is = rw is refl
    at (Some other) is = let same = rw is at own in rw is (grind (arith, same, differs))

-- a chain that goes: its records are queued again, or dropped
restored_other : (chain number : ℕ) (held : List Slot) → chain == number ≡ false → list_any (stands_apart number) (with_restored chain held) ≡ list_any (stands_apart number) held
restored_other chain number [] differs = refl
restored_other chain number (slot ∷ more) differs = at (cases_Bool (is_in_chain chain slot)) (restored_other chain number more differs)
  where
    at : (is_in_chain chain slot ≡ true) ⊎ (is_in_chain chain slot ≡ false) → list_any (stands_apart number) (with_restored chain more) ≡ list_any (stands_apart number) more → list_any (stands_apart number) (with_restored chain (slot ∷ more)) ≡ list_any (stands_apart number) (slot ∷ more)
    at (inl own) rest = rw own (rw rest (rw (not_in_other chain number slot own differs) refl))
    at (inr other) rest = rw other (rw rest refl)

restored_with : (chain : ℕ) (held part : List Slot) → AreNamed held part → AreNamed (with_restored chain held) (with_restored chain part)
restored_with chain held [] named = tt
restored_with chain held (slot ∷ more) named = at (cases_Bool (is_in_chain chain slot)) (restored_with chain held more named.1)
  where
    at : (is_in_chain chain slot ≡ true) ⊎ (is_in_chain chain slot ≡ false) → AreNamed (with_restored chain held) (with_restored chain more) → AreNamed (with_restored chain held) (with_restored chain (slot ∷ more))
    at (inl own) rest = rw own (tt, rest)
    at (inr other) rest = rw other (named_more held (with_restored chain held) chain slot.seq slot.chain (λ number differs. restored_other chain number held differs) other named.0, rest)

pub restored_named : (chain : ℕ) (held : List Slot) → AreNamed held held → AreNamed (with_restored chain held) (with_restored chain held)
restored_named chain held named = restored_with chain held held named

any_without : (test : Slot → Bool) (chain : ℕ) (held : List Slot) → list_any test held ≡ false → list_any test (without_chain chain held) ≡ false
any_without test chain [] none = refl
any_without test chain (slot ∷ more) none = at (cases_Bool (is_in_chain chain slot)) (any_without test chain more (or_second (test slot) _ none))
  where
    at : (is_in_chain chain slot ≡ true) ⊎ (is_in_chain chain slot ≡ false) → list_any test (without_chain chain more) ≡ false → list_any test (without_chain chain (slot ∷ more)) ≡ false
    at (inl own) rest = rw own rest
    at (inr other) rest = rw other (or_false _ _ (or_first (test slot) (list_any test more) none) rest)

freed_with : (chain : ℕ) (held part : List Slot) → AreNamed held part → AreNamed (without_chain chain held) (without_chain chain part)
freed_with chain held [] named = tt
freed_with chain held (slot ∷ more) named = at (cases_Bool (is_in_chain chain slot)) (freed_with chain held more named.1)
  where
    left : (own : Option ℕ) → IsNamed held slot.seq own → IsNamed (without_chain chain held) slot.seq own
    left None is = tt
    left (Some number) is = (is.0, any_without (stands_apart number) chain held is.1)

    at : (is_in_chain chain slot ≡ true) ⊎ (is_in_chain chain slot ≡ false) → AreNamed (without_chain chain held) (without_chain chain more) → AreNamed (without_chain chain held) (without_chain chain (slot ∷ more))
    at (inl own) rest = rw own rest
    at (inr other) rest = rw other (left slot.chain named.0, rest)

pub freed_named : (chain : ℕ) (held : List Slot) → AreNamed held held → AreNamed (without_chain chain held) (without_chain chain held)
freed_named chain held named = freed_with chain held held named

-- the front of a queue is detached, or there is none
pub front_named : (stream most : ℕ) (held : List Slot) → 1 ≤ most → RiseFrom 0 held → AreNamed held held → AreNamed (with_front_detached stream most held) (with_front_detached stream most held)
front_named stream zero held one rise named = absurd (omega (arith, one))
front_named stream (suc most) held one rise named = at (first_of stream held) (λ front is. detached_named stream front most held rise is named)
  where
    at : (front : Option ℕ) → ((number : ℕ) → front ≡ Some number → AreNamed (with_chain number stream (suc most) held) (with_chain number stream (suc most) held)) → AreNamed (detached_for front stream (suc most) held) (detached_for front stream (suc most) held)
    at None detached = named
    at (Some number) detached = detached number refl

pub front_taken : (stream most front : ℕ) (held : List Slot) → first_of stream held ≡ Some front → AreNamed held held → chain_of front (with_front_detached stream most held) ≡ take most (queue_of stream held)
front_taken stream most front held is named = rw is (chain_taken front stream most held (none_in_front held held front (first_apart stream front held is) named))
