-- The records of a pool, when some of them are detached, put back or freed.
use Rattle.std.proofs.Common.{arith, ◌≡◌, ◌≢◌, ℕ, zero, suc, ◌+◌, ◌-◌, ◌<◌, ◌≤◌, ◌==◌, List, [], ◌∷◌, filter, true, false, nat_lt, refl, sym, ◌∙◌, ap, inl, inr, ◌⊎◌, Option, None, Some, unwrap_or}
use Rattle.std.specs.List.{AllByRecursion}
use Rattle.std.proofs.lemmas.Bool.{cases_Bool, cases_lt, false≢true}
use Rattle.std.proofs.lemmas.Option.{none-some}
use Rattle.buffer_pool.specs.declared.slot.Slot.{Slot}
use Rattle.buffer_pool.specs.Content.{RiseFrom, first_of, in_chain, is_free, is_in_chain, is_of_chain, is_queued, is_queued_of, released, with_chain, with_restored, without_chain}
use Rattle.book_queue.specs.Views.{count_if, is_sealed_below}
use Rattle.book_queue.proofs.Lists.{and_first, and_second, and_false, count_none}

-- Queued or detached

pub queued_chain : (slot : Slot) → is_queued slot ≡ true → slot.chain ≡ None
queued_chain slot is = at slot.chain refl
  where
    at : (chain : Option ℕ) → slot.chain ≡ chain → slot.chain ≡ None
    at None same = same
    at (Some chain) same = absurd (false≢true (ap is_free (sym same) ∙ is))

pub queued_of_chain : (stream : ℕ) (slot : Slot) → is_queued_of stream slot ≡ true → slot.chain ≡ None
queued_of_chain stream slot is = queued_chain slot (and_second (slot.stream == stream) (is_queued slot) is)

pub queued_of_stream : (stream : ℕ) (slot : Slot) → is_queued_of stream slot ≡ true → slot.stream ≡ stream
queued_of_stream stream slot is = let same = and_first (slot.stream == stream) (is_queued slot) is in grind (arith, same)

pub chain_own : (chain : ℕ) (slot : Slot) → is_in_chain chain slot ≡ true → slot.chain ≡ Some chain
chain_own chain slot is = at slot.chain refl
  where
    at : (own : Option ℕ) → slot.chain ≡ own → slot.chain ≡ Some chain
    at None same = absurd (false≢true (ap (is_of_chain chain) (sym same) ∙ is))
    at (Some own) same = same ∙ (let is_own : (own == chain) ≡ true = ap (is_of_chain chain) (sym same) ∙ is in let equal : own ≡ chain = grind (arith, is_own) in ap (λ number. Some number) equal)

pub chain_not_queued : (chain stream : ℕ) (slot : Slot) → is_in_chain chain slot ≡ true → is_queued_of stream slot ≡ false
chain_not_queued chain stream slot is = at (cases_Bool (is_queued_of stream slot))
  where
    at : (is_queued_of stream slot ≡ true) ⊎ (is_queued_of stream slot ≡ false) → is_queued_of stream slot ≡ false
    at (inl queued) = absurd (false≢true (ap (is_of_chain chain) (sym (queued_of_chain stream slot queued)) ∙ is))
    at (inr fails) = fails

pub queued_not_in : (chain stream : ℕ) (slot : Slot) → is_queued_of stream slot ≡ true → is_in_chain chain slot ≡ false
queued_not_in chain stream slot is = ap (is_of_chain chain) (queued_of_chain stream slot is)

pub detached_not_queued : (chain stream : ℕ) (slot : Slot) → is_queued_of stream (in_chain chain slot) ≡ false
detached_not_queued chain stream slot = and_false (slot.stream == stream)

-- Steps of the change that detaches

pub step_goes : (chain stream most : ℕ) (slot : Slot) (more : List Slot) → is_queued_of stream slot ≡ true → with_chain chain stream (suc most) (slot ∷ more) ≡ in_chain chain slot ∷ with_chain chain stream most more
step_goes chain stream most slot more queued = rw queued (let less : nat_lt 0 (suc most) ≡ true = grind arith in rw less (let same : suc most - 1 ≡ most = omega arith in rw same refl))

pub step_stays : (chain stream most : ℕ) (slot : Slot) (more : List Slot) → is_queued_of stream slot ≡ false → with_chain chain stream most (slot ∷ more) ≡ slot ∷ with_chain chain stream most more
step_stays chain stream most slot more passed = rw passed refl

pub none_goes : (chain stream : ℕ) (held : List Slot) → with_chain chain stream 0 held ≡ held
none_goes chain stream [] = refl
none_goes chain stream (slot ∷ more) = at (none_goes chain stream more) (cases_Bool (is_queued_of stream slot))
  where
    at : with_chain chain stream 0 more ≡ more → (is_queued_of stream slot ≡ true) ⊎ (is_queued_of stream slot ≡ false) → with_chain chain stream 0 (slot ∷ more) ≡ slot ∷ more
    at rest (inl is) = rw is (rw rest refl)
    at rest (inr is) = rw is (rw rest refl)

-- behind a bound no queued record is below it
pub none_below : (behind stream low : ℕ) (held : List Slot) → RiseFrom low held → behind ≤ low → count_if (is_sealed_below behind stream) held ≡ 0
none_below behind stream low [] rise above = refl
none_below behind stream low (slot ∷ more) rise above =
    let rest = none_below behind stream (slot.seq + 1) more rise.1 (omega (arith, rise.0, above))
    in let not_below : nat_lt slot.seq behind ≡ false = grind (arith, rise.0, above)
    in rw not_below (rw (and_false (is_queued_of stream slot)) (omega (arith, rest)))

-- By the records of a pool: none is left, none is to go, one stays, or one goes, where no more are to go than are sealed.
pub by_steps : (P : ℕ → List Slot → Type 0) (stream behind low most : ℕ) (held : List Slot) → P 0 [] → ((slot : Slot) (more : List Slot) → P 0 (slot ∷ more)) → ((left : ℕ) (slot : Slot) (more : List Slot) → is_queued_of stream slot ≡ false → P left more → P left (slot ∷ more)) → ((left : ℕ) (slot : Slot) (more : List Slot) → is_queued_of stream slot ≡ true → slot.seq < behind → P left more → P (suc left) (slot ∷ more)) → RiseFrom low held → most ≤ count_if (is_sealed_below behind stream) held → P most held
by_steps P stream behind low zero [] none stops passes takes rise few = none
by_steps P stream behind low (suc left) [] none stops passes takes rise few = absurd (omega (arith, few))
by_steps P stream behind low zero (slot ∷ more) none stops passes takes rise few = stops slot more
by_steps P stream behind low (suc left) (slot ∷ more) none stops passes takes rise few = at (cases_Bool (is_queued_of stream slot)) (cases_lt slot.seq behind) (by_steps P stream behind (slot.seq + 1) left more none stops passes takes rise.1) (by_steps P stream behind (slot.seq + 1) (suc left) more none stops passes takes rise.1)
  where
    at : (is_queued_of stream slot ≡ true) ⊎ (is_queued_of stream slot ≡ false) → (slot.seq < behind) ⊎ (behind ≤ slot.seq) → (left ≤ count_if (is_sealed_below behind stream) more → P left more) → (suc left ≤ count_if (is_sealed_below behind stream) more → P (suc left) more) → P (suc left) (slot ∷ more)
    at (inl queued) (inl below) one all = takes left slot more queued below (one (let is : nat_lt slot.seq behind ≡ true = grind (arith, below) in let counted = rw is at (rw queued at few) in omega (arith, counted)))
    at (inl queued) (inr above) one all = absurd (let empty = none_below behind stream slot.seq (slot ∷ more) (omega arith, rise.1) above in omega (arith, few, empty))
    at (inr passed) either one all = passes (suc left) slot more passed (all (let counted = rw passed at few in omega (arith, counted)))

-- The counts of what was detached

pub chain_counts : (chain stream behind low most : ℕ) (held : List Slot) → RiseFrom low held → most ≤ count_if (is_sealed_below behind stream) held → (count_if (is_queued_of stream) (with_chain chain stream most held) + most ≡ count_if (is_queued_of stream) held) × (count_if (is_sealed_below behind stream) (with_chain chain stream most held) + most ≡ count_if (is_sealed_below behind stream) held)
chain_counts chain stream behind low most held rise few = by_steps P stream behind low most held none stops passes takes rise few
  where
    P : ℕ → List Slot → Type 0
    P left slots = (count_if (is_queued_of stream) (with_chain chain stream left slots) + left ≡ count_if (is_queued_of stream) slots) × (count_if (is_sealed_below behind stream) (with_chain chain stream left slots) + left ≡ count_if (is_sealed_below behind stream) slots)

    none : P 0 []
    none = (omega arith, omega arith)

    stops : (slot : Slot) (more : List Slot) → P 0 (slot ∷ more)
    stops slot more = rw (none_goes chain stream (slot ∷ more)) (omega arith, omega arith)

    passes : (left : ℕ) (slot : Slot) (more : List Slot) → is_queued_of stream slot ≡ false → P left more → P left (slot ∷ more)
    passes left slot more passed rest = rw (step_stays chain stream left slot more passed) (rw passed (omega (arith, rest.0), omega (arith, rest.1)))

    takes : (left : ℕ) (slot : Slot) (more : List Slot) → is_queued_of stream slot ≡ true → slot.seq < behind → P left more → P (suc left) (slot ∷ more)
    takes left slot more queued below rest =
        let is : nat_lt slot.seq behind ≡ true = grind (arith, below)
        in rw (step_goes chain stream left slot more queued) (rw (detached_not_queued chain stream slot) (rw queued (rw is (omega (arith, rest.0), omega (arith, rest.1)))))

pub chain_count : (chain stream behind low most : ℕ) (held : List Slot) → RiseFrom low held → most ≤ count_if (is_sealed_below behind stream) held → AllByRecursion (λ slot. is_in_chain chain slot ≡ false) held → count_if (is_in_chain chain) (with_chain chain stream most held) ≡ most
chain_count chain stream behind low most held rise few = by_steps P stream behind low most held none stops passes takes rise few
  where
    P : ℕ → List Slot → Type 0
    P left slots = AllByRecursion (λ slot. is_in_chain chain slot ≡ false) slots → count_if (is_in_chain chain) (with_chain chain stream left slots) ≡ left

    none : P 0 []
    none apart = refl

    stops : (slot : Slot) (more : List Slot) → P 0 (slot ∷ more)
    stops slot more apart = rw (none_goes chain stream (slot ∷ more)) (count_none (is_in_chain chain) (slot ∷ more) apart)

    passes : (left : ℕ) (slot : Slot) (more : List Slot) → is_queued_of stream slot ≡ false → P left more → P left (slot ∷ more)
    passes left slot more passed rest apart = rw (step_stays chain stream left slot more passed) (rw apart.0 (let same = rest apart.1 in omega (arith, same)))

    takes : (left : ℕ) (slot : Slot) (more : List Slot) → is_queued_of stream slot ≡ true → slot.seq < behind → P left more → P (suc left) (slot ∷ more)
    takes left slot more queued below rest apart =
        let own : (chain == chain) ≡ true = grind arith
        in rw (step_goes chain stream left slot more queued) (rw own (let same = rest apart.1 in omega (arith, same)))

-- a detached record is in its chain alone
pub chain_others : (chain other stream behind low most : ℕ) (held : List Slot) → other ≢ chain → RiseFrom low held → most ≤ count_if (is_sealed_below behind stream) held → count_if (is_in_chain other) (with_chain chain stream most held) ≡ count_if (is_in_chain other) held
chain_others chain other stream behind low most held differ rise few = by_steps P stream behind low most held none stops passes takes rise few
  where
    P : ℕ → List Slot → Type 0
    P left slots = count_if (is_in_chain other) (with_chain chain stream left slots) ≡ count_if (is_in_chain other) slots

    none : P 0 []
    none = refl

    stops : (slot : Slot) (more : List Slot) → P 0 (slot ∷ more)
    stops slot more = rw (none_goes chain stream (slot ∷ more)) refl

    passes : (left : ℕ) (slot : Slot) (more : List Slot) → is_queued_of stream slot ≡ false → P left more → P left (slot ∷ more)
    passes left slot more passed rest = rw (step_stays chain stream left slot more passed) (rw rest refl)

    takes : (left : ℕ) (slot : Slot) (more : List Slot) → is_queued_of stream slot ≡ true → slot.seq < behind → P left more → P (suc left) (slot ∷ more)
    takes left slot more queued below rest =
        let misses : (chain == other) ≡ false = grind (arith, differ)
        in rw (step_goes chain stream left slot more queued) (rw misses (rw (queued_not_in other stream slot queued) (rw rest refl)))

-- Queues of other streams

abbrev pub queue_in : ℕ → List Slot → List Slot
queue_in stream held = filter (is_queued_of stream) held

apart_queued : (stream other : ℕ) (slot : Slot) → other ≢ stream → is_queued_of stream slot ≡ true → is_queued_of other slot ≡ false
apart_queued stream other slot differ queued = let own = queued_of_stream stream slot queued in let misses : (slot.stream == other) ≡ false = grind (arith, own, differ) in rw misses refl

pub chain_queues : (chain stream other behind low most : ℕ) (held : List Slot) → other ≢ stream → RiseFrom low held → most ≤ count_if (is_sealed_below behind stream) held → queue_in other (with_chain chain stream most held) ≡ queue_in other held
chain_queues chain stream other behind low most held differ rise few = by_steps P stream behind low most held none stops passes takes rise few
  where
    P : ℕ → List Slot → Type 0
    P left slots = queue_in other (with_chain chain stream left slots) ≡ queue_in other slots

    none : P 0 []
    none = refl

    stops : (slot : Slot) (more : List Slot) → P 0 (slot ∷ more)
    stops slot more = rw (none_goes chain stream (slot ∷ more)) refl

    passes : (left : ℕ) (slot : Slot) (more : List Slot) → is_queued_of stream slot ≡ false → P left more → P left (slot ∷ more)
    passes left slot more passed rest = rw (step_stays chain stream left slot more passed) (at (cases_Bool (is_queued_of other slot)))
      where
        at : (is_queued_of other slot ≡ true) ⊎ (is_queued_of other slot ≡ false) → queue_in other (slot ∷ with_chain chain stream left more) ≡ queue_in other (slot ∷ more)
        at (inl is) = rw is (ap (λ slots. slot ∷ slots) rest)
        at (inr is) = rw is rest

    takes : (left : ℕ) (slot : Slot) (more : List Slot) → is_queued_of stream slot ≡ true → slot.seq < behind → P left more → P (suc left) (slot ∷ more)
    takes left slot more queued below rest = rw (step_goes chain stream left slot more queued) (rw (detached_not_queued chain other slot) (rw (apart_queued stream other slot differ queued) rest))

-- The front

pub first_above : (stream front low : ℕ) (held : List Slot) → RiseFrom low held → first_of stream held ≡ Some front → low ≤ front
first_above stream front low [] rise is = absurd (none-some front is)
first_above stream front low (slot ∷ more) rise is = at (cases_Bool (is_queued_of stream slot)) (first_above stream front (slot.seq + 1) more rise.1)
  where
    at : (is_queued_of stream slot ≡ true) ⊎ (is_queued_of stream slot ≡ false) → (first_of stream more ≡ Some front → slot.seq + 1 ≤ front) → low ≤ front
    at (inl queued) deeper = let same = ap (λ first. unwrap_or first 0) (rw queued at is) in omega (arith, same, rise.0)
    at (inr passed) deeper = omega (arith, rise.0, deeper (rw passed at is))

-- what holds of records, and of detached ones in their chain, where the front goes
all_stay : (F G : Slot → Type 0) (front low : ℕ) (held : List Slot) → ((slot : Slot) → F slot → slot.seq ≢ front → G slot) → RiseFrom low held → front < low → AllByRecursion F held → AllByRecursion G held
all_stay F G front low [] stay rise above all = tt
all_stay F G front low (slot ∷ more) stay rise above all = (stay slot all.0 (λ same. omega (arith, same, rise.0, above)), all_stay F G front (slot.seq + 1) more stay rise.1 (omega (arith, rise.0, above)) all.1)

pub chain_all : (F G : Slot → Type 0) (front stream behind low most : ℕ) (held : List Slot) → ((slot : Slot) → F slot → slot.seq ≢ front → G slot) → ((slot : Slot) → F slot → is_queued_of stream slot ≡ true → slot.seq < behind → G (in_chain front slot)) → RiseFrom low held → most ≤ count_if (is_sealed_below behind stream) held → first_of stream held ≡ Some front → 1 ≤ most → AllByRecursion F held → AllByRecursion G (with_chain front stream most held)
chain_all F G front stream behind low most held stay goes rise few first some all = (by_steps P stream behind low most held none stops passes takes rise few).1 low rise first some all
  where
    P : ℕ → List Slot → Type 0
    P left slots = ((base : ℕ) → RiseFrom base slots → front < base → AllByRecursion F slots → AllByRecursion G (with_chain front stream left slots)) × ((base : ℕ) → RiseFrom base slots → first_of stream slots ≡ Some front → 1 ≤ left → AllByRecursion F slots → AllByRecursion G (with_chain front stream left slots))

    none : P 0 []
    none = ((λ base rises above fits. tt), (λ base rises is one fits. tt))

    stops : (slot : Slot) (more : List Slot) → P 0 (slot ∷ more)
    stops slot more = ((λ base rises above fits. rw (none_goes front stream (slot ∷ more)) (all_stay F G front base (slot ∷ more) stay rises above fits)), (λ base rises is one fits. absurd (omega (arith, one))))

    passes : (left : ℕ) (slot : Slot) (more : List Slot) → is_queued_of stream slot ≡ false → P left more → P left (slot ∷ more)
    passes left slot more passed rest = (
      (λ base rises above fits. rw (step_stays front stream left slot more passed) (stay slot fits.0 (λ same. omega (arith, same, rises.0, above)), rest.0 (slot.seq + 1) rises.1 (omega (arith, rises.0, above)) fits.1)),
      (λ base rises is one fits. let later : first_of stream more ≡ Some front = rw passed at is in let higher = first_above stream front (slot.seq + 1) more rises.1 later in rw (step_stays front stream left slot more passed) (stay slot fits.0 (λ same. omega (arith, same, higher)), rest.1 (slot.seq + 1) rises.1 later one fits.1)),
    )

    takes : (left : ℕ) (slot : Slot) (more : List Slot) → is_queued_of stream slot ≡ true → slot.seq < behind → P left more → P (suc left) (slot ∷ more)
    takes left slot more queued below rest = (
      (λ base rises above fits. rw (step_goes front stream left slot more queued) (goes slot fits.0 queued below, rest.0 (slot.seq + 1) rises.1 (omega (arith, rises.0, above)) fits.1)),
      (λ base rises is one fits. let same = ap (λ first. unwrap_or first 0) (rw queued at is) in rw (step_goes front stream left slot more queued) (goes slot fits.0 queued below, rest.0 (slot.seq + 1) rises.1 (omega (arith, same)) fits.1)),
    )

-- the front of a queue is one of the records
pub first_has : (F : Slot → Type 0) (stream front : ℕ) (held : List Slot) → first_of stream held ≡ Some front → AllByRecursion F held → (slot : Slot) × (slot.seq ≡ front) × (is_queued_of stream slot ≡ true) × F slot
first_has F stream front [] is all = absurd (none-some front is)
first_has F stream front (slot ∷ more) is all = at (cases_Bool (is_queued_of stream slot)) (first_has F stream front more)
  where
    at : (is_queued_of stream slot ≡ true) ⊎ (is_queued_of stream slot ≡ false) → (first_of stream more ≡ Some front → AllByRecursion F more → (found : Slot) × (found.seq ≡ front) × (is_queued_of stream found ≡ true) × F found) → (found : Slot) × (found.seq ≡ front) × (is_queued_of stream found ≡ true) × F found
    at (inl queued) deeper = let same = ap (λ first. unwrap_or first 0) (rw queued at is) in (slot, same, queued, all.0)
    at (inr passed) deeper = deeper (rw passed at is) all.1

-- What is put back

pub restored_in : (chain : ℕ) (slot : Slot) → is_in_chain chain slot ≡ true → released chain slot ≡ record slot { chain = None }
restored_in chain slot is = rw is refl

pub restored_out : (chain : ℕ) (slot : Slot) → is_in_chain chain slot ≡ false → released chain slot ≡ slot
restored_out chain slot is = rw is refl

-- the queue of the stream has so many records more, which are sealed
pub restored_counts : (chain stream behind : ℕ) (held : List Slot) → AllByRecursion (λ slot. is_in_chain chain slot ≡ true → (slot.stream ≡ stream) × (slot.seq < behind)) held → (count_if (is_queued_of stream) (with_restored chain held) ≡ count_if (is_queued_of stream) held + count_if (is_in_chain chain) held) × (count_if (is_sealed_below behind stream) (with_restored chain held) ≡ count_if (is_sealed_below behind stream) held + count_if (is_in_chain chain) held)
restored_counts chain stream behind [] all = (omega arith, omega arith)
restored_counts chain stream behind (slot ∷ more) all = at (cases_Bool (is_in_chain chain slot)) (restored_counts chain stream behind more all.1)
  where
    at : (is_in_chain chain slot ≡ true) ⊎ (is_in_chain chain slot ≡ false) → (count_if (is_queued_of stream) (with_restored chain more) ≡ count_if (is_queued_of stream) more + count_if (is_in_chain chain) more) × (count_if (is_sealed_below behind stream) (with_restored chain more) ≡ count_if (is_sealed_below behind stream) more + count_if (is_in_chain chain) more) → (count_if (is_queued_of stream) (with_restored chain (slot ∷ more)) ≡ count_if (is_queued_of stream) (slot ∷ more) + count_if (is_in_chain chain) (slot ∷ more)) × (count_if (is_sealed_below behind stream) (with_restored chain (slot ∷ more)) ≡ count_if (is_sealed_below behind stream) (slot ∷ more) + count_if (is_in_chain chain) (slot ∷ more))
    at (inl is) rest =
        let own : (slot.stream == stream) ≡ true = let same = (all.0 is).0 in grind (arith, same)
        in let below : nat_lt slot.seq behind ≡ true = let less = (all.0 is).1 in grind (arith, less)
        in rw (restored_in chain slot is) (rw (chain_not_queued chain stream slot is) (rw is (rw own (rw below (omega (arith, rest.0), omega (arith, rest.1))))))
    at (inr is) rest = rw (restored_out chain slot is) (rw is (omega (arith, rest.0), omega (arith, rest.1)))

pub restored_queues : (chain stream other : ℕ) (held : List Slot) → other ≢ stream → AllByRecursion (λ slot. is_in_chain chain slot ≡ true → slot.stream ≡ stream) held → queue_in other (with_restored chain held) ≡ queue_in other held
restored_queues chain stream other [] differ all = refl
restored_queues chain stream other (slot ∷ more) differ all = at (cases_Bool (is_in_chain chain slot)) (restored_queues chain stream other more differ all.1)
  where
    at : (is_in_chain chain slot ≡ true) ⊎ (is_in_chain chain slot ≡ false) → queue_in other (with_restored chain more) ≡ queue_in other more → queue_in other (with_restored chain (slot ∷ more)) ≡ queue_in other (slot ∷ more)
    at (inl is) rest =
        let own : (slot.stream == other) ≡ false = let same = all.0 is in grind (arith, same, differ)
        in rw (restored_in chain slot is) (rw own rest)
    at (inr is) rest = rw (restored_out chain slot is) (again (cases_Bool (is_queued_of other slot)))
      where
        again : (is_queued_of other slot ≡ true) ⊎ (is_queued_of other slot ≡ false) → queue_in other (slot ∷ with_restored chain more) ≡ queue_in other (slot ∷ more)
        again (inl queued) = rw queued (ap (λ slots. slot ∷ slots) rest)
        again (inr passed) = rw passed rest

pub restored_others : (chain other : ℕ) (held : List Slot) → other ≢ chain → count_if (is_in_chain other) (with_restored chain held) ≡ count_if (is_in_chain other) held
restored_others chain other [] differ = refl
restored_others chain other (slot ∷ more) differ = at (cases_Bool (is_in_chain chain slot)) (restored_others chain other more differ)
  where
    at : (is_in_chain chain slot ≡ true) ⊎ (is_in_chain chain slot ≡ false) → count_if (is_in_chain other) (with_restored chain more) ≡ count_if (is_in_chain other) more → count_if (is_in_chain other) (with_restored chain (slot ∷ more)) ≡ count_if (is_in_chain other) (slot ∷ more)
    at (inl is) rest =
        let misses : (chain == other) ≡ false = grind (arith, differ)
        in let not_other : is_in_chain other slot ≡ false = ap (is_of_chain other) (chain_own chain slot is) ∙ misses
        in rw (restored_in chain slot is) (rw not_other (omega (arith, rest)))
    at (inr is) rest = rw (restored_out chain slot is) (rw rest refl)

pub restored_all : (F G : Slot → Type 0) (chain : ℕ) (held : List Slot) → ((slot : Slot) → F slot → G (released chain slot)) → AllByRecursion F held → AllByRecursion G (with_restored chain held)
restored_all F G chain [] step all = tt
restored_all F G chain (slot ∷ more) step all = (step slot all.0, restored_all F G chain more step all.1)

-- what was detached and is put back stands as it did
pub back_again : (chain stream most : ℕ) (held : List Slot) → AllByRecursion (λ slot. is_in_chain chain slot ≡ false) held → with_restored chain (with_chain chain stream most held) ≡ held
back_again chain stream most [] apart = refl
back_again chain stream zero (slot ∷ more) apart = rw (none_goes chain stream (slot ∷ more)) (rw (restored_out chain slot apart.0) (ap (λ slots. slot ∷ slots) (ap (with_restored chain) (sym (none_goes chain stream more)) ∙ back_again chain stream zero more apart.1)))
back_again chain stream (suc left) (slot ∷ more) apart = at (cases_Bool (is_queued_of stream slot)) (back_again chain stream left more apart.1) (back_again chain stream (suc left) more apart.1)
  where
    at : (is_queued_of stream slot ≡ true) ⊎ (is_queued_of stream slot ≡ false) → with_restored chain (with_chain chain stream left more) ≡ more → with_restored chain (with_chain chain stream (suc left) more) ≡ more → with_restored chain (with_chain chain stream (suc left) (slot ∷ more)) ≡ slot ∷ more
    at (inl queued) one all =
        let own : (chain == chain) ≡ true = grind arith
        in let free = queued_of_chain stream slot queued
        in rw (step_goes chain stream left slot more queued) (rw own (rw one (ap (λ number. record slot { chain = number } ∷ more) (sym free))))
    at (inr passed) one all = rw (step_stays chain stream (suc left) slot more passed) (rw (restored_out chain slot apart.0) (rw all refl))

-- What is freed

pub freed_queues : (chain other : ℕ) (held : List Slot) → queue_in other (without_chain chain held) ≡ queue_in other held
freed_queues chain other [] = refl
freed_queues chain other (slot ∷ more) = at (cases_Bool (is_in_chain chain slot)) (freed_queues chain other more)
  where
    at : (is_in_chain chain slot ≡ true) ⊎ (is_in_chain chain slot ≡ false) → queue_in other (without_chain chain more) ≡ queue_in other more → queue_in other (without_chain chain (slot ∷ more)) ≡ queue_in other (slot ∷ more)
    at (inl is) rest = rw is (rw (chain_not_queued chain other slot is) rest)
    at (inr is) rest = rw is (again (cases_Bool (is_queued_of other slot)))
      where
        again : (is_queued_of other slot ≡ true) ⊎ (is_queued_of other slot ≡ false) → queue_in other (slot ∷ without_chain chain more) ≡ queue_in other (slot ∷ more)
        again (inl queued) = rw queued (ap (λ slots. slot ∷ slots) rest)
        again (inr passed) = rw passed rest
