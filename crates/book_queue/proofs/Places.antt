-- The places of records, as contracts see them, through each change.
use Rattle.std.proofs.Common.{arith, ◌≡◌, ℕ, suc, ◌-◌, ◌<◌, ◌≤◌, ◌==◌, List, [], ◌∷◌, ◌++◌, map, filter, find, length, Bool, true, false, not, ◌&&◌, nat_lt, refl, sym, ◌∙◌, ap, subst, inl, inr, ◌⊎◌, Option, None, Some, option_map}
use Rattle.std.specs.Prelude.{if◌then◌else◌}
use Rattle.std.specs.List.{AllByRecursion, list_any}
use Rattle.std.proofs.lemmas.Bool.{cases_Bool, cases_eq, false≢true}
use Rattle.buffer_pool.specs.declared.slot.Slot.{Slot}
use Rattle.buffer_pool.specs.Content.{RiseFrom, chain_of, in_chain, is_free, is_in_chain, is_of_chain, released, with_chain, with_restored, without_chain}
use Rattle.buffer_pool.specs.Content.{is_queued as is_queued_free, is_queued_of as is_queued_slot, queued as queued_slot, line_of as line_of_slot, oldest_of as oldest_slot}
use Rattle.book_queue.specs.declared.lane.Lane.{Lane}
use Rattle.book_queue.specs.declared.batch.Batch.{Batch}
use Rattle.book_queue.specs.Content.{Held, Place, Sealed, Out, batch_of, count_of, is_in_batch, is_in_queue, is_out, is_queued, is_queued_of, is_sealed, is_sealed_of, line_of, move, move_first, oldest_of, put_in, queued, sealed_whole}
use Rattle.book_queue.specs.Views.{AreApart, AreKept, ChainFits, SlotFits, changed, count_if, held_of, is_sealed_below, lane_at, number_in, place_at, sealed_to}
use Rattle.book_queue.proofs.Lists.{all_as, all_of_all, and_false, any_none, count_as, count_length, count_map, map_as}
use Rattle.book_queue.proofs.Lanes.{SameBehind, lane_other, lane_same, lane_sealed}
use Rattle.book_queue.proofs.Numbers.{apart_false, false_apart, number_all, number_other, number_own, number_push, number_without, same_true, true_same}
use Rattle.book_queue.proofs.Slots.{by_steps, chain_own, none_goes, restored_in, restored_out, step_goes, step_stays}

-- A record at a place

abbrev held_at : Slot → Place → Held
held_at slot place = record { seq = slot.seq; stream = slot.stream; line = slot.line; place = place }

pub and_true : (b : Bool) → b && true ≡ b
and_true true = refl
and_true false = refl

place_queued : (behind : ℕ) (out : List Batch) (seq : ℕ) (chain : Option ℕ) → is_queued (place_at behind out seq chain) ≡ is_free chain
place_queued behind out seq None = at (cases_Bool (nat_lt seq behind))
  where
    at : (nat_lt seq behind ≡ true) ⊎ (nat_lt seq behind ≡ false) → is_queued (place_at behind out seq None) ≡ true
    at (inl is) = rw is refl
    at (inr is) = rw is refl
place_queued behind out seq (Some chain) = refl

place_sealed : (behind : ℕ) (out : List Batch) (seq : ℕ) (chain : Option ℕ) → is_sealed (place_at behind out seq chain) ≡ is_free chain && nat_lt seq behind
place_sealed behind out seq None = at (cases_Bool (nat_lt seq behind))
  where
    at : (nat_lt seq behind ≡ true) ⊎ (nat_lt seq behind ≡ false) → is_sealed (place_at behind out seq None) ≡ nat_lt seq behind
    at (inl is) = rw is refl
    at (inr is) = rw is refl
place_sealed behind out seq (Some chain) = refl

and_swap : (a b : Bool) → a && b ≡ b && a
and_swap true true = refl
and_swap true false = refl
and_swap false true = refl
and_swap false false = refl

pub held_queued : (lanes : List Lane) (out : List Batch) (slot : Slot) → is_in_queue (held_of lanes out slot) ≡ is_queued_free slot
held_queued lanes out slot = place_queued (lane_at lanes slot.stream).behind out slot.seq slot.chain

pub held_queued_of : (lanes : List Lane) (out : List Batch) (stream : ℕ) (slot : Slot) → is_queued_of stream (held_of lanes out slot) ≡ is_queued_slot stream slot
held_queued_of lanes out stream slot = ap (λ free. free && (slot.stream == stream)) (held_queued lanes out slot) ∙ and_swap (is_queued_free slot) (slot.stream == stream)

pub held_sealed_of : (lanes : List Lane) (out : List Batch) (stream : ℕ) (slot : Slot) → is_sealed_of stream (held_of lanes out slot) ≡ is_sealed_below (lane_at lanes stream).behind stream slot
held_sealed_of lanes out stream slot = at (cases_Bool (slot.stream == stream)) (place_sealed (lane_at lanes slot.stream).behind out slot.seq slot.chain)
  where
    at : ((slot.stream == stream) ≡ true) ⊎ ((slot.stream == stream) ≡ false) → is_sealed (place_at (lane_at lanes slot.stream).behind out slot.seq slot.chain) ≡ is_free slot.chain && nat_lt slot.seq (lane_at lanes slot.stream).behind → is_sealed_of stream (held_of lanes out slot) ≡ is_sealed_below (lane_at lanes stream).behind stream slot
    at (inl is) place = rw is (and_true (is_sealed (place_at (lane_at lanes slot.stream).behind out slot.seq slot.chain)) ∙ (place ∙ ap (λ number. is_free slot.chain && nat_lt slot.seq (lane_at lanes number).behind) (true_same slot.stream stream is)))
    at (inr misses) place = rw misses (and_false (is_sealed (place_at (lane_at lanes slot.stream).behind out slot.seq slot.chain)))

pub count_queued : (lanes : List Lane) (out : List Batch) (stream : ℕ) (held : List Slot) → count_of stream (map (held_of lanes out) held) ≡ count_if (is_queued_slot stream) held
count_queued lanes out stream held = count_length (is_queued_of stream) (map (held_of lanes out) held) ∙ (count_map (is_queued_of stream) (held_of lanes out) held ∙ count_as (λ slot. is_queued_of stream (held_of lanes out slot)) (is_queued_slot stream) held (all_of_all (λ slot. is_queued_of stream (held_of lanes out slot) ≡ is_queued_slot stream slot) held (held_queued_of lanes out stream)))

pub count_sealed : (lanes : List Lane) (out : List Batch) (stream : ℕ) (held : List Slot) → count_if (is_sealed_of stream) (map (held_of lanes out) held) ≡ count_if (is_sealed_below (lane_at lanes stream).behind stream) held
count_sealed lanes out stream held = count_map (is_sealed_of stream) (held_of lanes out) held ∙ count_as (λ slot. is_sealed_of stream (held_of lanes out slot)) (is_sealed_below (lane_at lanes stream).behind stream) held (all_of_all (λ slot. is_sealed_of stream (held_of lanes out slot) ≡ is_sealed_below (lane_at lanes stream).behind stream slot) held (held_sealed_of lanes out stream))

-- the first that passes, among what is seen of records
pub find_map : {A B : Type 0} (t : B → Bool) (u : A → Bool) (f : A → B) (xs : List A) → ((x : A) → t (f x) ≡ u x) → find t (map f xs) ≡ option_map f (find u xs)
find_map t u f [] same = refl
find_map t u f (x ∷ xs) same = at (cases_Bool (u x)) (find_map t u f xs same)
  where
    at : (u x ≡ true) ⊎ (u x ≡ false) → find t (map f xs) ≡ option_map f (find u xs) → find t (map f (x ∷ xs)) ≡ option_map f (find u (x ∷ xs))
    at (inl is) rest = rw (same x ∙ is) (rw is refl)
    at (inr is) rest = rw (same x ∙ is) (rw is rest)

pub option_map_twice : {A B C : Type 0} (g : B → C) (f : A → B) (one : Option A) → option_map g (option_map f one) ≡ option_map (λ x. g (f x)) one
option_map_twice g f None = refl
option_map_twice g f (Some x) = refl

pub oldest_is : (lanes : List Lane) (out : List Batch) (held : List Slot) → oldest_of (map (held_of lanes out) held) ≡ oldest_slot held
oldest_is lanes out held = ap (option_map (λ first. first.stream)) (find_map is_in_queue is_queued_free (held_of lanes out) held (held_queued lanes out)) ∙ option_map_twice (λ first. first.stream) (held_of lanes out) (find is_queued_free held)

-- What is seen of each record, when some change

map_move : (f g : Slot → Held) (test : Held → Bool) (place : Place) (held : List Slot) → AllByRecursion (λ slot. g slot ≡ (if test (f slot) then put_in place (f slot) else f slot)) held → map g held ≡ move test place (map f held)
map_move f g test place [] all = refl
map_move f g test place (slot ∷ more) all = rw all.0 (ap (λ rest. (if test (f slot) then put_in place (f slot) else f slot) ∷ rest) (map_move f g test place more all.1))

map_filter : (f g : Slot → Held) (p : Slot → Bool) (q : Held → Bool) (held : List Slot) → AllByRecursion (λ slot. (q (f slot) ≡ p slot) × (p slot ≡ true → g slot ≡ f slot)) held → map g (filter p held) ≡ filter q (map f held)
map_filter f g p q [] all = refl
map_filter f g p q (slot ∷ more) all = at (cases_Bool (p slot)) (map_filter f g p q more all.1)
  where
    at : (p slot ≡ true) ⊎ (p slot ≡ false) → map g (filter p more) ≡ filter q (map f more) → map g (filter p (slot ∷ more)) ≡ filter q (map f (slot ∷ more))
    at (inl is) rest = rw is (rw (all.0.0 ∙ is) (rw (all.0.1 is) (ap (λ others. f slot ∷ others) rest)))
    at (inr is) rest = rw is (rw (all.0.0 ∙ is) rest)

same_place : (behind later : ℕ) (out : List Batch) (slot : Slot) → later ≡ behind → held_at slot (place_at later out slot.seq slot.chain) ≡ held_at slot (place_at behind out slot.seq slot.chain)
same_place behind later out slot same = ap (λ bound. held_at slot (place_at bound out slot.seq slot.chain)) same

-- A record is pushed

pub pushed_view : (lanes others : List Lane) (out : List Batch) (stream seq : ℕ) (line : List ℕ) (held : List Slot) → SameBehind lanes others → (lane_at lanes stream).behind ≤ seq → map (held_of others out) (held ++ queued_slot stream seq line ∷ []) ≡ map (held_of lanes out) held ++ queued seq stream line ∷ []
pushed_view lanes others out stream seq line [] same above = let misses : nat_lt seq (lane_at others stream).behind ≡ false = let bound = same stream in grind (arith, bound, above) in rw misses refl
pushed_view lanes others out stream seq line (slot ∷ more) same above = rw (same_place (lane_at lanes slot.stream).behind (lane_at others slot.stream).behind out slot (same slot.stream)) (ap (λ rest. held_of lanes out slot ∷ rest) (pushed_view lanes others out stream seq line more same above))

-- A queue is sealed

place_none : (behind : ℕ) (out : List Batch) (seq : ℕ) → seq < behind → place_at behind out seq None ≡ Sealed
place_none behind out seq below = let is : nat_lt seq behind ≡ true = grind (arith, below) in rw is refl

sealed_place : (behind later : ℕ) (out : List Batch) (slot : Slot) (test : Bool) → test ≡ is_free slot.chain → slot.seq < later → held_at slot (place_at later out slot.seq slot.chain) ≡ (if test then held_at slot Sealed else held_at slot (place_at behind out slot.seq slot.chain))
sealed_place behind later out slot test is below = at slot.chain refl
  where
    at : (chain : Option ℕ) → slot.chain ≡ chain → held_at slot (place_at later out slot.seq slot.chain) ≡ (if test then held_at slot Sealed else held_at slot (place_at behind out slot.seq slot.chain))
    at None none = rw is (rw none (ap (held_at slot) (place_none later out slot.seq below)))
    at (Some chain) some = rw is (rw some refl)

pub sealed_view : (lanes : List Lane) (out : List Batch) (next stream : ℕ) (held : List Slot) → stream < length lanes → AllByRecursion (λ slot. slot.seq < next) held → map (held_of (changed stream (sealed_to next) lanes) out) held ≡ sealed_whole stream (map (held_of lanes out) held)
sealed_view lanes out next stream held within all = map_move (held_of lanes out) (held_of (changed stream (sealed_to next) lanes) out) (is_queued_of stream) Sealed held (all_as (λ slot. slot.seq < next) (λ slot. held_of (changed stream (sealed_to next) lanes) out slot ≡ (if is_queued_of stream (held_of lanes out slot) then put_in Sealed (held_of lanes out slot) else held_of lanes out slot)) held step all)
  where
    step : (slot : Slot) → slot.seq < next → held_of (changed stream (sealed_to next) lanes) out slot ≡ (if is_queued_of stream (held_of lanes out slot) then put_in Sealed (held_of lanes out slot) else held_of lanes out slot)
    step slot below = at (cases_eq slot.stream stream)
      where
        at : (slot.stream ≡ stream) ⊎ (slot.stream ≡ stream → ⊥) → held_of (changed stream (sealed_to next) lanes) out slot ≡ (if is_queued_of stream (held_of lanes out slot) then put_in Sealed (held_of lanes out slot) else held_of lanes out slot)
        at (inl is) =
            let bound : (lane_at (changed stream (sealed_to next) lanes) slot.stream).behind ≡ next = ap (λ number. (lane_at (changed stream (sealed_to next) lanes) number).behind) is ∙ ap (λ lane. lane.behind) (lane_same lanes stream (sealed_to next (lane_at lanes stream)) within)
            in let free : is_queued_of stream (held_of lanes out slot) ≡ is_free slot.chain = held_queued_of lanes out stream slot ∙ ap (λ same. same && is_free slot.chain) (same_true slot.stream stream is)
            in same_place next (lane_at (changed stream (sealed_to next) lanes) slot.stream).behind out slot bound ∙ sealed_place (lane_at lanes slot.stream).behind next out slot (is_queued_of stream (held_of lanes out slot)) free below
        at (inr differ) =
            let misses : is_queued_of stream (held_of lanes out slot) ≡ false = held_queued_of lanes out stream slot ∙ ap (λ same. same && is_free slot.chain) (apart_false slot.stream stream differ)
            in same_place (lane_at lanes slot.stream).behind (lane_at (changed stream (sealed_to next) lanes) slot.stream).behind out slot (ap (λ lane. lane.behind) (lane_other lanes stream slot.stream (sealed_to next (lane_at lanes stream)) differ)) ∙ not_moved misses
          where
            not_moved : is_queued_of stream (held_of lanes out slot) ≡ false → held_of lanes out slot ≡ (if is_queued_of stream (held_of lanes out slot) then put_in Sealed (held_of lanes out slot) else held_of lanes out slot)
            not_moved misses = rw misses refl

pub all_sealed_view : (lanes : List Lane) (out : List Batch) (next : ℕ) (held : List Slot) → AllByRecursion (SlotFits lanes out next) held → map (held_of (map (sealed_to next) lanes) out) held ≡ move is_in_queue Sealed (map (held_of lanes out) held)
all_sealed_view lanes out next held all = map_move (held_of lanes out) (held_of (map (sealed_to next) lanes) out) is_in_queue Sealed held (all_as (SlotFits lanes out next) (λ slot. held_of (map (sealed_to next) lanes) out slot ≡ (if is_in_queue (held_of lanes out slot) then put_in Sealed (held_of lanes out slot) else held_of lanes out slot)) held
    (λ slot fits. same_place next (lane_at (map (sealed_to next) lanes) slot.stream).behind out slot (ap (λ lane. lane.behind) (lane_sealed next lanes slot.stream fits.within)) ∙ sealed_place (lane_at lanes slot.stream).behind next out slot (is_in_queue (held_of lanes out slot)) (held_queued lanes out slot) fits.below) all)

-- The records of a batch

place_in_batch : (behind : ℕ) (front rest : List Batch) (batch : Batch) (stream seq : ℕ) (chain : Option ℕ) → AreApart (front ++ batch ∷ rest) → ChainFits behind (front ++ batch ∷ rest) stream seq chain → is_out batch.number (place_at behind (front ++ batch ∷ rest) seq chain) ≡ is_of_chain batch.chain chain
place_in_batch behind front rest batch stream seq None apart fits = at (cases_Bool (nat_lt seq behind))
  where
    at : (nat_lt seq behind ≡ true) ⊎ (nat_lt seq behind ≡ false) → is_out batch.number (place_at behind (front ++ batch ∷ rest) seq None) ≡ false
    at (inl is) = rw is refl
    at (inr is) = rw is refl
place_in_batch behind front rest batch stream seq (Some chain) apart fits = at (cases_eq chain batch.chain)
  where
    at : (chain ≡ batch.chain) ⊎ (chain ≡ batch.chain → ⊥) → (number_in (front ++ batch ∷ rest) chain == batch.number) ≡ (chain == batch.chain)
    at (inl is) = same_true (number_in (front ++ batch ∷ rest) chain) batch.number (ap (number_in (front ++ batch ∷ rest)) is ∙ number_own front rest batch apart) ∙ sym (same_true chain batch.chain is)
    at (inr differ) = apart_false (number_in (front ++ batch ∷ rest) chain) batch.number (number_other front rest batch chain apart fits.1 differ) ∙ sym (apart_false chain batch.chain differ)

pub in_batch : (held : List Slot) (streams next : ℕ) (lanes : List Lane) (front rest : List Batch) (batch : Batch) (next_batch : ℕ) → AreKept held streams next lanes (front ++ batch ∷ rest) next_batch → AllByRecursion (λ slot. is_in_batch batch.number (held_of lanes (front ++ batch ∷ rest) slot) ≡ is_in_chain batch.chain slot) held
in_batch held streams next lanes front rest batch next_batch kept = all_as (SlotFits lanes (front ++ batch ∷ rest) next) (λ slot. is_in_batch batch.number (held_of lanes (front ++ batch ∷ rest) slot) ≡ is_in_chain batch.chain slot) held (λ slot fits. place_in_batch (lane_at lanes slot.stream).behind front rest batch slot.stream slot.seq slot.chain kept.apart fits.chained) kept.slots_fit

place_stranger : (behind number : ℕ) (out : List Batch) (stream seq : ℕ) (chain : Option ℕ) → AllByRecursion (λ batch. (batch.number == number) ≡ false) out → ChainFits behind out stream seq chain → is_out number (place_at behind out seq chain) ≡ false
place_stranger behind number out stream seq None strange fits = at (cases_Bool (nat_lt seq behind))
  where
    at : (nat_lt seq behind ≡ true) ⊎ (nat_lt seq behind ≡ false) → is_out number (place_at behind out seq None) ≡ false
    at (inl is) = rw is refl
    at (inr is) = rw is refl
place_stranger behind number out stream seq (Some chain) strange fits = number_all (λ own. (own == number) ≡ false) out chain fits.1 (all_as (λ batch. (batch.number == number) ≡ false) (λ batch. batch.chain ≡ chain → (batch.number == number) ≡ false) out (λ batch misses is. misses) strange)

-- no record is in a batch that is not handed out
pub in_no_batch : (held : List Slot) (streams next : ℕ) (lanes : List Lane) (out : List Batch) (next_batch number : ℕ) → AreKept held streams next lanes out next_batch → list_any (λ batch. batch.number == number) out ≡ false → AllByRecursion (λ slot. is_in_batch number (held_of lanes out slot) ≡ false) held
in_no_batch held streams next lanes out next_batch number kept none = all_as (SlotFits lanes out next) (λ slot. is_in_batch number (held_of lanes out slot) ≡ false) held (λ slot fits. place_stranger (lane_at lanes slot.stream).behind number out slot.stream slot.seq slot.chain (any_none (λ batch. batch.number == number) out none) fits.chained) kept.slots_fit

-- the lines of a batch are those of its chain
pub batch_lines : (f : Slot → Held) (number chain : ℕ) (held : List Slot) → AllByRecursion (λ slot. is_in_batch number (f slot) ≡ is_in_chain chain slot) held → ((slot : Slot) → line_of (f slot) ≡ line_of_slot slot) → chain_of chain held ≡ batch_of number (map f held)
batch_lines f number chain [] all same = refl
batch_lines f number chain (slot ∷ more) all same = at (cases_Bool (is_in_chain chain slot)) (batch_lines f number chain more all.1 same)
  where
    at : (is_in_chain chain slot ≡ true) ⊎ (is_in_chain chain slot ≡ false) → chain_of chain more ≡ batch_of number (map f more) → chain_of chain (slot ∷ more) ≡ batch_of number (map f (slot ∷ more))
    at (inl is) rest = rw is (rw (all.0 ∙ is) (rw (same slot) (ap (λ lines. line_of_slot slot ∷ lines) rest)))
    at (inr is) rest = rw is (rw (all.0 ∙ is) rest)

-- A batch is handed out

pub handed_view : (f g : Slot → Held) (chain stream behind low most : ℕ) (place : Place) (held : List Slot) → RiseFrom low held → most ≤ count_if (is_sealed_below behind stream) held → AllByRecursion (λ slot. g slot ≡ f slot) held → ((slot : Slot) → g (in_chain chain slot) ≡ put_in place (f slot)) → ((slot : Slot) → is_sealed_of stream (f slot) ≡ is_sealed_below behind stream slot) → map g (with_chain chain stream most held) ≡ move_first (is_sealed_of stream) place most (map f held)
handed_view f g chain stream behind low most place held rise few same goes_out sealed = by_steps P stream behind low most held none stops passes takes rise few same
  where
    P : ℕ → List Slot → Type 0
    P left slots = AllByRecursion (λ slot. g slot ≡ f slot) slots → map g (with_chain chain stream left slots) ≡ move_first (is_sealed_of stream) place left (map f slots)

    none : P 0 []
    none alike = refl

    none_moved : (helds : List Held) → move_first (is_sealed_of stream) place 0 helds ≡ helds
    none_moved [] = refl
    none_moved (one ∷ more) = at (cases_Bool (is_sealed_of stream one)) (none_moved more)
      where
        at : (is_sealed_of stream one ≡ true) ⊎ (is_sealed_of stream one ≡ false) → move_first (is_sealed_of stream) place 0 more ≡ more → move_first (is_sealed_of stream) place 0 (one ∷ more) ≡ one ∷ more
        at (inl is) rest = rw is (rw rest refl)
        at (inr is) rest = rw is (rw rest refl)

    stops : (slot : Slot) (more : List Slot) → P 0 (slot ∷ more)
    stops slot more alike = rw (none_goes chain stream (slot ∷ more)) (map_as g f (slot ∷ more) alike ∙ sym (none_moved (map f (slot ∷ more))))

    passes : (left : ℕ) (slot : Slot) (more : List Slot) → is_queued_slot stream slot ≡ false → P left more → P left (slot ∷ more)
    passes left slot more passed rest alike =
        let misses : is_sealed_of stream (f slot) ≡ false = sealed slot ∙ ap (λ own. own && nat_lt slot.seq behind) passed
        in rw (step_stays chain stream left slot more passed) (rw misses (rw alike.0 (ap (λ others. f slot ∷ others) (rest alike.1))))

    takes : (left : ℕ) (slot : Slot) (more : List Slot) → is_queued_slot stream slot ≡ true → slot.seq < behind → P left more → P (suc left) (slot ∷ more)
    takes left slot more queued_is below rest alike =
        let is_below : nat_lt slot.seq behind ≡ true = grind (arith, below)
        in let is : is_sealed_of stream (f slot) ≡ true = sealed slot ∙ (ap (λ own. own && nat_lt slot.seq behind) queued_is ∙ is_below)
        in let some : nat_lt 0 (suc left) ≡ true = grind arith
        in let one_less : suc left - 1 ≡ left = omega arith
        in rw (step_goes chain stream left slot more queued_is) (rw is (rw some (rw one_less (rw (goes_out slot) (ap (λ others. put_in place (f slot) ∷ others) (rest alike.1))))))

-- more than there are move as all that there are
pub move_all : (test : Held → Bool) (place : Place) (most other : ℕ) (held : List Held) → count_if test held ≤ most → count_if test held ≤ other → move_first test place most held ≡ move_first test place other held
move_all test place most other [] few fewer = refl
move_all test place most other (one ∷ more) few fewer = at (cases_Bool (test one)) (move_all test place (most - 1) (other - 1) more) (move_all test place most other more)
  where
    at : (test one ≡ true) ⊎ (test one ≡ false) → (count_if test more ≤ most - 1 → count_if test more ≤ other - 1 → move_first test place (most - 1) more ≡ move_first test place (other - 1) more) → (count_if test more ≤ most → count_if test more ≤ other → move_first test place most more ≡ move_first test place other more) → move_first test place most (one ∷ more) ≡ move_first test place other (one ∷ more)
    at (inl is) goes stays =
        let first = rw is at few in let second = rw is at fewer
        in let some : nat_lt 0 most ≡ true = grind (arith, first) in let others : nat_lt 0 other ≡ true = grind (arith, second)
        in rw is (rw some (rw others (rw (goes (omega (arith, first)) (omega (arith, second))) refl)))
    at (inr is) goes stays = let first = rw is at few in let second = rw is at fewer in rw is (rw (stays (omega (arith, first)) (omega (arith, second))) refl)

-- a batch more: what is seen of the records that were there
place_push : (behind later : ℕ) (out : List Batch) (batch : Batch) (stream : ℕ) (slot : Slot) → later ≡ behind → ChainFits behind out stream slot.seq slot.chain → held_at slot (place_at later (out ++ batch ∷ []) slot.seq slot.chain) ≡ held_at slot (place_at behind out slot.seq slot.chain)
place_push behind later out batch stream slot same fits = ap (held_at slot) (at slot.chain fits)
  where
    at : (chain : Option ℕ) → ChainFits behind out stream slot.seq chain → place_at later (out ++ batch ∷ []) slot.seq chain ≡ place_at behind out slot.seq chain
    at None is = ap (λ bound. place_at bound out slot.seq None) same
    at (Some chain) is = ap Out (number_push out batch chain is.1)

pub places_push : (lanes others : List Lane) (out : List Batch) (batch : Batch) (next : ℕ) (held : List Slot) → SameBehind lanes others → AllByRecursion (SlotFits lanes out next) held → AllByRecursion (λ slot. held_of others (out ++ batch ∷ []) slot ≡ held_of lanes out slot) held
places_push lanes others out batch next held same all = all_as (SlotFits lanes out next) (λ slot. held_of others (out ++ batch ∷ []) slot ≡ held_of lanes out slot) held (λ slot fits. place_push (lane_at lanes slot.stream).behind (lane_at others slot.stream).behind out batch slot.stream slot (same slot.stream) fits.chained) all

-- A batch is taken out

place_without : (behind later : ℕ) (front rest : List Batch) (batch : Batch) (seq : ℕ) (chain : Option ℕ) → later ≡ behind → is_of_chain batch.chain chain ≡ false → place_at later (front ++ rest) seq chain ≡ place_at behind (front ++ batch ∷ rest) seq chain
place_without behind later front rest batch seq None same misses = ap (λ bound. place_at bound front seq None) same
place_without behind later front rest batch seq (Some chain) same misses = ap Out (number_without front rest batch chain (false_apart chain batch.chain misses))

pub restored_view : (held : List Slot) (streams next : ℕ) (lanes others : List Lane) (front rest : List Batch) (batch : Batch) (next_batch : ℕ) → AreKept held streams next lanes (front ++ batch ∷ rest) next_batch → SameBehind lanes others → map (held_of others (front ++ rest)) (with_restored batch.chain held) ≡ move (is_in_batch batch.number) Sealed (map (held_of lanes (front ++ batch ∷ rest)) held)
restored_view held streams next lanes others front rest batch next_batch kept same = map_twice (released batch.chain) (held_of others (front ++ rest)) held ∙ map_move (held_of lanes (front ++ batch ∷ rest)) (λ slot. held_of others (front ++ rest) (released batch.chain slot)) (is_in_batch batch.number) Sealed held (all_as (SlotFits lanes (front ++ batch ∷ rest) next) (λ slot. held_of others (front ++ rest) (released batch.chain slot) ≡ (if is_in_batch batch.number (held_of lanes (front ++ batch ∷ rest) slot) then put_in Sealed (held_of lanes (front ++ batch ∷ rest) slot) else held_of lanes (front ++ batch ∷ rest) slot)) held step kept.slots_fit)
  where
    map_twice : (f : Slot → Slot) (g : Slot → Held) (slots : List Slot) → map g (map f slots) ≡ map (λ slot. g (f slot)) slots
    map_twice f g [] = refl
    map_twice f g (slot ∷ more) = rw (map_twice f g more) refl

    step : (slot : Slot) → SlotFits lanes (front ++ batch ∷ rest) next slot → held_of others (front ++ rest) (released batch.chain slot) ≡ (if is_in_batch batch.number (held_of lanes (front ++ batch ∷ rest) slot) then put_in Sealed (held_of lanes (front ++ batch ∷ rest) slot) else held_of lanes (front ++ batch ∷ rest) slot)
    step slot fits = at (cases_Bool (is_in_chain batch.chain slot)) (place_in_batch (lane_at lanes slot.stream).behind front rest batch slot.stream slot.seq slot.chain kept.apart fits.chained)
      where
        at : (is_in_chain batch.chain slot ≡ true) ⊎ (is_in_chain batch.chain slot ≡ false) → is_in_batch batch.number (held_of lanes (front ++ batch ∷ rest) slot) ≡ is_in_chain batch.chain slot → held_of others (front ++ rest) (released batch.chain slot) ≡ (if is_in_batch batch.number (held_of lanes (front ++ batch ∷ rest) slot) then put_in Sealed (held_of lanes (front ++ batch ∷ rest) slot) else held_of lanes (front ++ batch ∷ rest) slot)
        at (inl is) inside =
            let chained = subst (ChainFits (lane_at lanes slot.stream).behind (front ++ batch ∷ rest) slot.stream slot.seq) (chain_own batch.chain slot is) fits.chained
            in let below : slot.seq < (lane_at others slot.stream).behind = let bound = same slot.stream in omega (arith, chained.0, bound)
            in rw (restored_in batch.chain slot is) (rw (inside ∙ is) (ap (held_at slot) (place_none (lane_at others slot.stream).behind (front ++ rest) slot.seq below)))
        at (inr misses) inside = rw (restored_out batch.chain slot misses) (rw (inside ∙ misses) (ap (held_at slot) (place_without (lane_at lanes slot.stream).behind (lane_at others slot.stream).behind front rest batch slot.seq slot.chain (same slot.stream) misses)))

pub freed_view : (held : List Slot) (streams next : ℕ) (lanes : List Lane) (front rest : List Batch) (batch : Batch) (next_batch : ℕ) → AreKept held streams next lanes (front ++ batch ∷ rest) next_batch → map (held_of lanes (front ++ rest)) (without_chain batch.chain held) ≡ filter (λ one. not (is_in_batch batch.number one)) (map (held_of lanes (front ++ batch ∷ rest)) held)
freed_view held streams next lanes front rest batch next_batch kept = map_filter (held_of lanes (front ++ batch ∷ rest)) (held_of lanes (front ++ rest)) (λ slot. not (is_in_chain batch.chain slot)) (λ one. not (is_in_batch batch.number one)) held (all_as (SlotFits lanes (front ++ batch ∷ rest) next) (λ slot. (not (is_in_batch batch.number (held_of lanes (front ++ batch ∷ rest) slot)) ≡ not (is_in_chain batch.chain slot)) × (not (is_in_chain batch.chain slot) ≡ true → held_of lanes (front ++ rest) slot ≡ held_of lanes (front ++ batch ∷ rest) slot)) held
    (λ slot fits. (
      ap not (place_in_batch (lane_at lanes slot.stream).behind front rest batch slot.stream slot.seq slot.chain kept.apart fits.chained),
      (λ is. ap (held_at slot) (place_without (lane_at lanes slot.stream).behind (lane_at lanes slot.stream).behind front rest batch slot.seq slot.chain refl (not_so (is_in_chain batch.chain slot) is))),
    )) kept.slots_fit)
  where
    not_so : (b : Bool) → not b ≡ true → b ≡ false
    not_so true is = absurd (false≢true is)
    not_so false is = refl

-- Nothing happens

pub none_moves : (test : Held → Bool) (place : Place) (held : List Held) → AllByRecursion (λ one. test one ≡ false) held → held ≡ move test place held
none_moves test place [] none = refl
none_moves test place (one ∷ more) none = rw none.0 (ap (λ rest. one ∷ rest) (none_moves test place more none.1))

pub none_leaves : (test : Held → Bool) (held : List Held) → AllByRecursion (λ one. test one ≡ false) held → held ≡ filter (λ one. not (test one)) held
none_leaves test [] none = refl
none_leaves test (one ∷ more) none = rw none.0 (ap (λ rest. one ∷ rest) (none_leaves test more none.1))

pub none_lines : (number : ℕ) (held : List Held) → AllByRecursion (λ one. is_in_batch number one ≡ false) held → [] ≡ batch_of number held
none_lines number [] none = refl
none_lines number (one ∷ more) none = rw none.0 (none_lines number more none.1)
