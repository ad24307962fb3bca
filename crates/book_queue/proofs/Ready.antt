-- Whose sealed records are the oldest.
use Rattle.std.proofs.Common.{arith, ◌≡◌, ℕ, ◌+◌, ◌<◌, ◌≤◌, ◌==◌, List, [], ◌∷◌, map, find, length, Bool, true, false, ◌&&◌, ◌||◌, nat_lt, refl, sym, ◌∙◌, ap, subst, inl, inr, ◌⊎◌, Option, None, Some, IsSome, option_map, unwrap_or}
use Rattle.std.specs.List.{AllByRecursion, list_any}
use Rattle.std.proofs.lemmas.Bool.{cases_Bool, cases_lt, false≢true}
use Rattle.std.proofs.lemmas.Option.{none-some}
use Rattle.buffer_pool.specs.declared.slot.Slot.{Slot}
use Rattle.buffer_pool.specs.Content.{RiseFrom, first_of}
use Rattle.buffer_pool.specs.Content.{is_queued as is_queued_free, is_queued_of as is_queued_slot}
use Rattle.book_queue.specs.declared.lane.Lane.{Lane}
use Rattle.book_queue.specs.declared.batch.Batch.{Batch}
use Rattle.book_queue.specs.Content.{is_ready, ready_of}
use Rattle.book_queue.specs.Views.{AreKept, IsOldestBelow, SlotFits, count_if, front_of, held_of, is_sealed_below, lane_at}
use Rattle.book_queue.proofs.Lists.{all_as, all_both, all_of_all, and_first, and_second, count_any, count_fewer}
use Rattle.book_queue.proofs.Numbers.{same_true, true_same}
use Rattle.book_queue.proofs.Places.{and_true, find_map, held_sealed_of, option_map_twice}
use Rattle.book_queue.proofs.Slots.{queued_of_stream}

-- a record is seen as sealed where it is queued below its stream's bound
ready_slot : (lanes : List Lane) (out : List Batch) (slot : Slot) → is_ready (held_of lanes out slot) ≡ is_sealed_below (lane_at lanes slot.stream).behind slot.stream slot
ready_slot lanes out slot = sym (and_true (is_ready (held_of lanes out slot))) ∙ (ap (λ same. is_ready (held_of lanes out slot) && same) (sym (same_true slot.stream slot.stream refl)) ∙ held_sealed_of lanes out slot.stream slot)

ready_found : (lanes : List Lane) (out : List Batch) (held : List Slot) → ready_of (map (held_of lanes out) held) ≡ option_map (λ slot. slot.stream) (find (λ slot. is_ready (held_of lanes out slot)) held)
ready_found lanes out held = ap (option_map (λ first. first.stream)) (find_map is_ready (λ slot. is_ready (held_of lanes out slot)) (held_of lanes out) held (λ slot. refl)) ∙ option_map_twice (λ first. first.stream) (held_of lanes out) (find (λ slot. is_ready (held_of lanes out slot)) held)

-- None is sealed

count_zero : (t : Slot → Bool) (held : List Slot) → count_if t held ≡ 0 → AllByRecursion (λ slot. t slot ≡ false) held
count_zero t [] none = tt
count_zero t (slot ∷ more) none = at (cases_Bool (t slot)) (count_zero t more)
  where
    at : (t slot ≡ true) ⊎ (t slot ≡ false) → (count_if t more ≡ 0 → AllByRecursion (λ one. t one ≡ false) more) → AllByRecursion (λ one. t one ≡ false) (slot ∷ more)
    at (inl is) deeper = absurd (let some = rw is at none in omega (arith, some))
    at (inr is) deeper = (is, deeper (let rest = rw is at none in omega (arith, rest)))

each_own : (T : ℕ → Slot → Bool) (streams : ℕ) (held : List Slot) → ((stream : ℕ) → stream < streams → AllByRecursion (λ slot. T stream slot ≡ false) held) → AllByRecursion (λ slot. slot.stream < streams) held → AllByRecursion (λ slot. T slot.stream slot ≡ false) held
each_own T streams [] every within = tt
each_own T streams (slot ∷ more) every within = ((every slot.stream within.0).0, each_own T streams more (λ stream less. (every stream less).1) within.1)

find_none : (t : Slot → Bool) (held : List Slot) → AllByRecursion (λ slot. t slot ≡ false) held → find t held ≡ None
find_none t [] none = refl
find_none t (slot ∷ more) none = rw none.0 (find_none t more none.1)

ready_none : (held : List Slot) (streams next : ℕ) (lanes : List Lane) (out : List Batch) (next_batch : ℕ) → AreKept held streams next lanes out next_batch → ((stream : ℕ) → stream < streams → (lane_at lanes stream).sealed ≡ 0) → None ≡ ready_of (map (held_of lanes out) held)
ready_none held streams next lanes out next_batch kept none =
    let every : (stream : ℕ) → stream < streams → AllByRecursion (λ slot. is_sealed_below (lane_at lanes stream).behind stream slot ≡ false) held = λ stream less. count_zero (is_sealed_below (lane_at lanes stream).behind stream) held (sym ((kept.lanes_fit stream less).sealed_is) ∙ none stream less)
    in let own = each_own (λ stream slot. is_sealed_below (lane_at lanes stream).behind stream slot) streams held every (all_as (SlotFits lanes out next) (λ slot. slot.stream < streams) held (λ slot fits. let less = fits.within in omega (arith, less, kept.long)) kept.slots_fit)
    in let none_ready = find_none (λ slot. is_ready (held_of lanes out slot)) held (all_as (λ slot. is_sealed_below (lane_at lanes slot.stream).behind slot.stream slot ≡ false) (λ slot. is_ready (held_of lanes out slot) ≡ false) held (λ slot misses. ready_slot lanes out slot ∙ misses) own)
    in sym (ready_found lanes out held ∙ ap (option_map (λ slot. slot.stream)) none_ready)

-- The front of a queue is its least

all_above : (low : ℕ) (held : List Slot) → RiseFrom low held → AllByRecursion (λ slot. low ≤ slot.seq) held
all_above low [] rise = tt
all_above low (slot ∷ more) rise = (rise.0, all_as (λ one. slot.seq + 1 ≤ one.seq) (λ one. low ≤ one.seq) more (λ one above. omega (arith, above, rise.0)) (all_above (slot.seq + 1) more rise.1))

first_least : (stream front low : ℕ) (held : List Slot) → RiseFrom low held → first_of stream held ≡ Some front → AllByRecursion (λ slot. is_queued_slot stream slot ≡ true → front ≤ slot.seq) held
first_least stream front low [] rise is = tt
first_least stream front low (slot ∷ more) rise is = at (cases_Bool (is_queued_slot stream slot)) (first_least stream front (slot.seq + 1) more rise.1)
  where
    at : (is_queued_slot stream slot ≡ true) ⊎ (is_queued_slot stream slot ≡ false) → (first_of stream more ≡ Some front → AllByRecursion (λ one. is_queued_slot stream one ≡ true → front ≤ one.seq) more) → AllByRecursion (λ one. is_queued_slot stream one ≡ true → front ≤ one.seq) (slot ∷ more)
    at (inl queued) deeper = let same = ap (λ first. unwrap_or first 0) (rw queued at is) in ((λ own. omega (arith, same)), all_as (λ one. slot.seq + 1 ≤ one.seq) (λ one. is_queued_slot stream one ≡ true → front ≤ one.seq) more (λ one above own. omega (arith, above, same)) (all_above (slot.seq + 1) more rise.1))
    at (inr passed) deeper = ((λ own. absurd (false≢true (sym passed ∙ own))), deeper (rw passed at is))

pub some_first : (stream : ℕ) (held : List Slot) → 1 ≤ count_if (is_queued_slot stream) held → IsSome (first_of stream held)
some_first stream [] some = absurd (omega (arith, some))
some_first stream (slot ∷ more) some = at (cases_Bool (is_queued_slot stream slot)) (some_first stream more)
  where
    at : (is_queued_slot stream slot ≡ true) ⊎ (is_queued_slot stream slot ≡ false) → (1 ≤ count_if (is_queued_slot stream) more → IsSome (first_of stream more)) → IsSome (first_of stream (slot ∷ more))
    at (inl is) deeper = rw is refl
    at (inr is) deeper = rw is (deeper (let counted = rw is at some in omega (arith, counted)))

pub first_is : (stream : ℕ) (held : List Slot) → IsSome (first_of stream held) → first_of stream held ≡ Some (unwrap_or (first_of stream held) 0)
first_is stream held some = at (first_of stream held) some
  where
    at : (first : Option ℕ) → IsSome first → first ≡ Some (unwrap_or first 0)
    at None is = absurd (false≢true is)
    at (Some front) is = refl

-- The oldest is found

-- each that passes makes the count positive
each_counts : (t : Slot → Bool) (held : List Slot) → AllByRecursion (λ slot. t slot ≡ true → 1 ≤ count_if t held) held
each_counts t [] = tt
each_counts t (slot ∷ more) = ((λ is. rw is (omega arith)), all_as (λ one. t one ≡ true → 1 ≤ count_if t more) (λ one. t one ≡ true → 1 ≤ count_if t (slot ∷ more)) more (λ one some is. let least = some is in omega (arith, least)) (each_counts t more))

-- what holds of each record for each stream holds of it for its own
each_of : (T : ℕ → Slot → Type 0) (streams : ℕ) (held : List Slot) → ((stream : ℕ) → stream < streams → AllByRecursion (T stream) held) → AllByRecursion (λ slot. slot.stream < streams) held → AllByRecursion (λ slot. T slot.stream slot) held
each_of T streams [] every within = tt
each_of T streams (slot ∷ more) every within = ((every slot.stream within.0).0, each_of T streams more (λ stream less. (every stream less).1) within.1)

abbrev is_front : ℕ → ℕ → (Slot → Bool) → Slot → Bool
is_front stream front t slot = ((slot.seq == front) && (slot.stream == stream)) && t slot

find_least : (stream front low : ℕ) (t : Slot → Bool) (held : List Slot) → RiseFrom low held → AllByRecursion (λ slot. t slot ≡ true → front ≤ slot.seq) held → list_any (is_front stream front t) held ≡ true → Some stream ≡ option_map (λ slot. slot.stream) (find t held)
find_least stream front low t [] rise least there = absurd (false≢true there)
find_least stream front low t (slot ∷ more) rise least there = at (cases_Bool (t slot)) (cases_Bool (is_front stream front t slot)) (find_least stream front (slot.seq + 1) t more rise.1 least.1)
  where
    none_later : front < slot.seq + 1 → list_any (is_front stream front t) more ≡ true → ⊥
    none_later above later = false≢true (sym (none_there more (all_above (slot.seq + 1) more rise.1)) ∙ later)
      where
        none_there : (held : List Slot) → AllByRecursion (λ one. slot.seq + 1 ≤ one.seq) held → list_any (is_front stream front t) held ≡ false
        none_there [] all = refl
        none_there (one ∷ rest) all = let misses : (one.seq == front) ≡ false = let higher = all.0 in grind (arith, higher, above) in rw misses (none_there rest all.1)

    at : (t slot ≡ true) ⊎ (t slot ≡ false) → (is_front stream front t slot ≡ true) ⊎ (is_front stream front t slot ≡ false) → (list_any (is_front stream front t) more ≡ true → Some stream ≡ option_map (λ one. one.stream) (find t more)) → Some stream ≡ option_map (λ one. one.stream) (find t (slot ∷ more))
    at (inl is) (inl own) deeper = let same = true_same slot.stream stream (and_second (slot.seq == front) (slot.stream == stream) (and_first ((slot.seq == front) && (slot.stream == stream)) (t slot) own)) in rw is (ap (λ number. Some number) (sym same))
    at (inl is) (inr misses) deeper = absurd (none_later (let low_front = least.0 is in omega (arith, low_front)) (rw misses at there))
    at (inr is) (inl own) deeper = absurd (false≢true (sym is ∙ and_second ((slot.seq == front) && (slot.stream == stream)) (t slot) own))
    at (inr is) (inr misses) deeper = rw is (deeper (rw misses at there))

any_found : (stream front : ℕ) (t : Slot → Bool) (held : List Slot) → first_of stream held ≡ Some front → AllByRecursion (λ slot. is_queued_slot stream slot ≡ true → slot.seq ≡ front → t slot ≡ true) held → list_any (is_front stream front t) held ≡ true
any_found stream front t [] first all = absurd (none-some front first)
any_found stream front t (slot ∷ more) first all = at (cases_Bool (is_queued_slot stream slot)) (any_found stream front t more)
  where
    or_true : (b : Bool) → b || true ≡ true
    or_true true = refl
    or_true false = refl

    at : (is_queued_slot stream slot ≡ true) ⊎ (is_queued_slot stream slot ≡ false) → (first_of stream more ≡ Some front → AllByRecursion (λ one. is_queued_slot stream one ≡ true → one.seq ≡ front → t one ≡ true) more → list_any (is_front stream front t) more ≡ true) → list_any (is_front stream front t) (slot ∷ more) ≡ true
    at (inl queued) deeper =
        let same = ap (λ one. unwrap_or one 0) (rw queued at first)
        in let own : (slot.seq == front) ≡ true = same_true slot.seq front same
        in let of_stream : (slot.stream == stream) ≡ true = and_first (slot.stream == stream) (is_queued_free slot) queued
        in let passes : t slot ≡ true = all.0 queued same
        in rw own (rw of_stream (rw passes refl))
    at (inr passed) deeper = rw (deeper (rw passed at first) all.1) (or_true (is_front stream front t slot))

ready_some : (held : List Slot) (streams next : ℕ) (lanes : List Lane) (out : List Batch) (next_batch found : ℕ) → AreKept held streams next lanes out next_batch → RiseFrom 0 held → found < streams → 1 ≤ (lane_at lanes found).sealed → ((stream : ℕ) → stream < streams → 1 ≤ (lane_at lanes stream).sealed → front_of (lane_at lanes found) ≤ front_of (lane_at lanes stream)) → Some found ≡ ready_of (map (held_of lanes out) held)
ready_some held streams next lanes out next_batch found kept rise below some least = find_least found front 0 t held rise all_least there ∙ sym (ready_found lanes out held)
  where
    t : Slot → Bool
    t slot = is_ready (held_of lanes out slot)

    front : ℕ
    front = front_of (lane_at lanes found)

    has_first : (stream : ℕ) → stream < streams → 1 ≤ count_if (is_sealed_below (lane_at lanes stream).behind stream) held → first_of stream held ≡ Some (front_of (lane_at lanes stream))
    has_first stream less one =
        let fewer = count_fewer (is_sealed_below (lane_at lanes stream).behind stream) (is_queued_slot stream) held (λ slot is. and_first (is_queued_slot stream slot) (nat_lt slot.seq (lane_at lanes stream).behind) is)
        in first_is stream held (some_first stream held (omega (arith, one, fewer))) ∙ ap (λ first. Some (unwrap_or first 0)) (sym (kept.lanes_fit stream less).front_is)

    -- a sealed record of a stream is not below the front that was found
    of_stream : (stream : ℕ) → stream < streams → AllByRecursion (λ slot. is_sealed_below (lane_at lanes stream).behind stream slot ≡ true → front ≤ slot.seq) held
    of_stream stream less = all_both (λ slot. is_sealed_below (lane_at lanes stream).behind stream slot ≡ true → 1 ≤ count_if (is_sealed_below (lane_at lanes stream).behind stream) held) (λ slot. is_sealed_below (lane_at lanes stream).behind stream slot ≡ true → front_of (lane_at lanes stream) ≤ slot.seq) (λ slot. is_sealed_below (lane_at lanes stream).behind stream slot ≡ true → front ≤ slot.seq) held
        (λ slot counts low is. let one = counts is in let sealed = (kept.lanes_fit stream less).sealed_is in let first = least stream less (omega (arith, one, sealed)) in let above = low is in omega (arith, first, above))
        (each_counts (is_sealed_below (lane_at lanes stream).behind stream) held)
        (from_front (cases_lt (count_if (is_sealed_below (lane_at lanes stream).behind stream) held) 1))
      where
        from_front : (count_if (is_sealed_below (lane_at lanes stream).behind stream) held < 1) ⊎ (1 ≤ count_if (is_sealed_below (lane_at lanes stream).behind stream) held) → AllByRecursion (λ slot. is_sealed_below (lane_at lanes stream).behind stream slot ≡ true → front_of (lane_at lanes stream) ≤ slot.seq) held
        from_front (inl none) = all_as (λ slot. is_sealed_below (lane_at lanes stream).behind stream slot ≡ true → 1 ≤ count_if (is_sealed_below (lane_at lanes stream).behind stream) held) (λ slot. is_sealed_below (lane_at lanes stream).behind stream slot ≡ true → front_of (lane_at lanes stream) ≤ slot.seq) held (λ slot counts is. absurd (let one = counts is in omega (arith, one, none))) (each_counts (is_sealed_below (lane_at lanes stream).behind stream) held)
        from_front (inr one) = all_as (λ slot. is_queued_slot stream slot ≡ true → front_of (lane_at lanes stream) ≤ slot.seq) (λ slot. is_sealed_below (lane_at lanes stream).behind stream slot ≡ true → front_of (lane_at lanes stream) ≤ slot.seq) held (λ slot low is. low (and_first (is_queued_slot stream slot) (nat_lt slot.seq (lane_at lanes stream).behind) is)) (first_least stream (front_of (lane_at lanes stream)) 0 held rise (has_first stream less one))

    all_least : AllByRecursion (λ slot. t slot ≡ true → front ≤ slot.seq) held
    all_least = all_as (λ slot. is_sealed_below (lane_at lanes slot.stream).behind slot.stream slot ≡ true → front ≤ slot.seq) (λ slot. t slot ≡ true → front ≤ slot.seq) held (λ slot low is. low (sym (ready_slot lanes out slot) ∙ is))
        (each_of (λ stream slot. is_sealed_below (lane_at lanes stream).behind stream slot ≡ true → front ≤ slot.seq) streams held of_stream (all_as (SlotFits lanes out next) (λ slot. slot.stream < streams) held (λ slot fits. let less = fits.within in omega (arith, less, kept.long)) kept.slots_fit))

    some_sealed : 1 ≤ count_if (is_sealed_below (lane_at lanes found).behind found) held
    some_sealed = let sealed = (kept.lanes_fit found below).sealed_is in omega (arith, some, sealed)

    -- the front is sealed, since some record of its queue is
    front_below : front < (lane_at lanes found).behind
    front_below = from_any held (first_least found front 0 held rise (has_first found below some_sealed)) (count_any (is_sealed_below (lane_at lanes found).behind found) held some_sealed)
      where
        from_any : (slots : List Slot) → AllByRecursion (λ slot. is_queued_slot found slot ≡ true → front ≤ slot.seq) slots → list_any (is_sealed_below (lane_at lanes found).behind found) slots ≡ true → front < (lane_at lanes found).behind
        from_any [] low any = absurd (false≢true any)
        from_any (slot ∷ more) low any = at (cases_Bool (is_sealed_below (lane_at lanes found).behind found slot)) (from_any more low.1)
          where
            at : (is_sealed_below (lane_at lanes found).behind found slot ≡ true) ⊎ (is_sealed_below (lane_at lanes found).behind found slot ≡ false) → (list_any (is_sealed_below (lane_at lanes found).behind found) more ≡ true → front < (lane_at lanes found).behind) → front < (lane_at lanes found).behind
            at (inl is) deeper = let above = low.0 (and_first (is_queued_slot found slot) (nat_lt slot.seq (lane_at lanes found).behind) is) in let less = and_second (is_queued_slot found slot) (nat_lt slot.seq (lane_at lanes found).behind) is in grind (arith, above, less)
            at (inr misses) deeper = deeper (rw misses at any)

    there : list_any (is_front found front t) held ≡ true
    there = any_found found front t held (has_first found below some_sealed) (all_of_all (λ slot. is_queued_slot found slot ≡ true → slot.seq ≡ front → t slot ≡ true) held
        (λ slot queued same.
        let of_own : slot.stream ≡ found = queued_of_stream found slot queued
        in let is_below : nat_lt slot.seq (lane_at lanes found).behind ≡ true = let less = front_below in grind (arith, same, less)
        in ready_slot lanes out slot ∙ subst (λ number. is_sealed_below (lane_at lanes number).behind number slot ≡ true) (sym of_own) (rw queued is_below)))

pub ready_is : (held : List Slot) (streams next : ℕ) (lanes : List Lane) (out : List Batch) (next_batch : ℕ) (result : Option ℕ) → AreKept held streams next lanes out next_batch → RiseFrom 0 held → IsOldestBelow lanes streams result → result ≡ ready_of (map (held_of lanes out) held)
ready_is held streams next lanes out next_batch None kept rise oldest = ready_none held streams next lanes out next_batch kept oldest
ready_is held streams next lanes out next_batch (Some found) kept rise oldest = ready_some held streams next lanes out next_batch found kept rise oldest.0 oldest.1 oldest.2

-- A stream with a sealed record

-- the stream of the first sealed record has one, and is there
pub ready_has : (lanes : List Lane) (out : List Batch) (next stream : ℕ) (held : List Slot) → AllByRecursion (SlotFits lanes out next) held → ready_of (map (held_of lanes out) held) ≡ Some stream → (stream < length lanes) × (1 ≤ count_if (is_sealed_below (lane_at lanes stream).behind stream) held)
ready_has lanes out next stream [] fits is = absurd (none-some stream is)
ready_has lanes out next stream (slot ∷ more) fits is = at (cases_Bool (is_ready (held_of lanes out slot))) (ready_has lanes out next stream more fits.1)
  where
    at : (is_ready (held_of lanes out slot) ≡ true) ⊎ (is_ready (held_of lanes out slot) ≡ false) → (ready_of (map (held_of lanes out) more) ≡ Some stream → (stream < length lanes) × (1 ≤ count_if (is_sealed_below (lane_at lanes stream).behind stream) more)) → (stream < length lanes) × (1 ≤ count_if (is_sealed_below (lane_at lanes stream).behind stream) (slot ∷ more))
    at (inl ready) deeper =
        let same : slot.stream ≡ stream = ap (λ one. unwrap_or one 0) (rw ready at is)
        in let passes : is_sealed_below (lane_at lanes stream).behind stream slot ≡ true = subst (λ number. is_sealed_below (lane_at lanes number).behind number slot ≡ true) same (sym (ready_slot lanes out slot) ∙ ready)
        in (let within = fits.0.within in omega (arith, same, within), rw passes (omega arith))
    at (inr misses) deeper = let rest = deeper (rw misses at is) in (rest.0, let some = rest.1 in omega (arith, some))
