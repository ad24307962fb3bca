-- What every change of a pool keeps.
use Rattle.std.proofs.Common.{arith, ◌≡◌, ℕ, ◌+◌, ◌<◌, ◌≤◌, List, [], ◌∷◌, ◌++◌, length, true, false, refl, sym, ◌∙◌, inl, inr, ◌⊎◌, Option, None, Some, ◌-◌, ◌&&◌, nat_lt, length-append}
use Rattle.std.specs.List.{AllByRecursion}
use Rattle.std.proofs.lemmas.Bool.{cases_Bool}
use Rattle.std.proofs.lemmas.List.Sums.{sum_by-cons, sum_by_push}
use Rattle.buffer_pool.specs.declared.slot.Slot.{Slot}
use Rattle.buffer_pool.specs.Content.{first_of, detached_for, with_front_detached, RiseFrom, bytes_of, is_in_chain, is_queued_of, with_chain, with_restored, without_chain, AreNamed, IsPool}

abbrev line_length : Slot → ℕ
line_length slot = length slot.line

-- the same records, detached or not
abbrev pub AreAlike : List Slot → List Slot → Type 0
AreAlike [] [] = Unit {0}
AreAlike [] (other ∷ others) = ⊥
AreAlike (slot ∷ more) [] = ⊥
AreAlike (slot ∷ more) (other ∷ others) = (slot.seq ≡ other.seq) × (length slot.line ≡ length other.line) × AreAlike more others

alike_itself : (held : List Slot) → AreAlike held held
alike_itself [] = tt
alike_itself (slot ∷ more) = (refl, refl, alike_itself more)

pub alike_chain : (chain stream most : ℕ) (held : List Slot) → AreAlike held (with_chain chain stream most held)
alike_chain chain stream most [] = tt
alike_chain chain stream most (slot ∷ more) = at (alike_chain chain stream (most - 1) more) (alike_chain chain stream most more) (cases_Bool (is_queued_of stream slot && nat_lt 0 most))
  where
    at : AreAlike more (with_chain chain stream (most - 1) more) → AreAlike more (with_chain chain stream most more) → (is_queued_of stream slot && nat_lt 0 most ≡ true) ⊎ (is_queued_of stream slot && nat_lt 0 most ≡ false) → AreAlike (slot ∷ more) (with_chain chain stream most (slot ∷ more))
    at goes stays (inl is) = rw is (refl, refl, goes)
    at goes stays (inr is) = rw is (refl, refl, stays)

pub alike_detached : (stream most : ℕ) (held : List Slot) → AreAlike held (with_front_detached stream most held)
alike_detached stream most held = at (first_of stream held)
  where
    at : (front : Option ℕ) → AreAlike held (detached_for front stream most held)
    at None = alike_itself held
    at (Some chain) = alike_chain chain stream most held

pub alike_restored : (chain : ℕ) (held : List Slot) → AreAlike held (with_restored chain held)
alike_restored chain [] = tt
alike_restored chain (slot ∷ more) = at (alike_restored chain more) (cases_Bool (is_in_chain chain slot))
  where
    at : AreAlike more (with_restored chain more) → (is_in_chain chain slot ≡ true) ⊎ (is_in_chain chain slot ≡ false) → AreAlike (slot ∷ more) (with_restored chain (slot ∷ more))
    at rest (inl is) = rw is (refl, refl, rest)
    at rest (inr is) = rw is (refl, refl, rest)

pub alike_rise : (low : ℕ) (held others : List Slot) → AreAlike held others → RiseFrom low held → RiseFrom low others
alike_rise low [] [] alike rise = tt
alike_rise low [] (other ∷ others) alike rise = absurd alike
alike_rise low (slot ∷ more) [] alike rise = absurd alike
alike_rise low (slot ∷ more) (other ∷ others) alike rise = (omega (arith, alike.0, rise.0), rw (sym alike.0) (alike_rise (slot.seq + 1) more others alike.2 rise.1))

alike_length : (held others : List Slot) → AreAlike held others → length held ≡ length others
alike_length [] [] alike = refl
alike_length [] (other ∷ others) alike = absurd alike
alike_length (slot ∷ more) [] alike = absurd alike
alike_length (slot ∷ more) (other ∷ others) alike = let rest = alike_length more others alike.2 in omega (arith, rest)

alike_bytes : (held others : List Slot) → AreAlike held others → bytes_of held ≡ bytes_of others
alike_bytes [] [] alike = refl
alike_bytes [] (other ∷ others) alike = absurd alike
alike_bytes (slot ∷ more) [] alike = absurd alike
alike_bytes (slot ∷ more) (other ∷ others) alike = let rest = alike_bytes more others alike.2 in sum_by-cons line_length slot more ∙ (let same = sum_by-cons line_length other others in omega (arith, rest, alike.1, same))

alike_below : (next : ℕ) (held others : List Slot) → AreAlike held others → AllByRecursion (λ slot. slot.seq < next) held → AllByRecursion (λ slot. slot.seq < next) others
alike_below next [] [] alike all = tt
alike_below next [] (other ∷ others) alike all = absurd alike
alike_below next (slot ∷ more) [] alike all = absurd alike
alike_below next (slot ∷ more) (other ∷ others) alike all = (omega (arith, alike.0, all.0), alike_below next more others alike.2 all.1)

pub alike_pool : (held others : List Slot) (slots bytes sum next : ℕ) → AreAlike held others → AreNamed others others → IsPool held slots bytes sum next → IsPool others slots bytes sum next
alike_pool held others slots bytes sum next alike named pool = record {
  rise = alike_rise 0 held others alike pool.rise;
  few = rw (sym (alike_length held others alike)) pool.few;
  sum_is = rw (sym (alike_bytes held others alike)) pool.sum_is;
  small = rw (sym (alike_bytes held others alike)) pool.small;
  below = alike_below next held others alike pool.below;
  named = named;
}

rise_push : (low : ℕ) (held : List Slot) (slot : Slot) → RiseFrom low held → low ≤ slot.seq → AllByRecursion (λ other. other.seq < slot.seq) held → RiseFrom low (held ++ slot ∷ [])
rise_push low [] slot rise above all = (above, tt)
rise_push low (other ∷ more) slot rise above all = (rise.0, rise_push (other.seq + 1) more slot rise.1 (omega (arith, all.0)) all.1)

bytes_push : (held : List Slot) (slot : Slot) → bytes_of (held ++ slot ∷ []) ≡ bytes_of held + length slot.line
bytes_push held slot = sum_by_push line_length held slot

pub below_next : (next seq : ℕ) (held : List Slot) → next ≤ seq → AllByRecursion (λ slot. slot.seq < next) held → AllByRecursion (λ slot. slot.seq < seq) held
below_next next seq [] above all = tt
below_next next seq (slot ∷ more) above all = (omega (arith, above, all.0), below_next next seq more above all.1)

below_push : (next : ℕ) (slot : Slot) (held : List Slot) → next ≤ slot.seq → AllByRecursion (λ other. other.seq < next) held → AllByRecursion (λ other. other.seq < slot.seq + 1) (held ++ slot ∷ [])
below_push next slot [] above all = (omega arith, tt)
below_push next slot (other ∷ more) above all = (omega (arith, above, all.0), below_push next slot more above all.1)

pub push_pool : (held : List Slot) (slot : Slot) (slots bytes sum next : ℕ) → IsPool held slots bytes sum next → next ≤ slot.seq → length held < slots → sum + length slot.line ≤ bytes → AreNamed (held ++ slot ∷ []) (held ++ slot ∷ []) → IsPool (held ++ slot ∷ []) slots bytes (sum + length slot.line) (slot.seq + 1)
push_pool held slot slots bytes sum next pool above free fits named = record {
  rise = rise_push 0 held slot pool.rise (omega arith) (below_next next slot.seq held above pool.below);
  few = let longer = length-append held (slot ∷ []) in omega (arith, longer, free);
  sum_is = let more = bytes_push held slot in omega (arith, more, pool.sum_is);
  small = let more = bytes_push held slot in omega (arith, more, pool.sum_is, fits);
  below = below_push next slot held above pool.below;
  named = named;
}

rise_lower : (low low' : ℕ) (held : List Slot) → low' ≤ low → RiseFrom low held → RiseFrom low' held
rise_lower low low' [] below rise = tt
rise_lower low low' (slot ∷ more) below rise = (omega (arith, below, rise.0), rise.1)

rise_without : (chain low : ℕ) (held : List Slot) → RiseFrom low held → RiseFrom low (without_chain chain held)
rise_without chain low [] rise = tt
rise_without chain low (slot ∷ more) rise = at (rise_without chain (slot.seq + 1) more rise.1) (cases_Bool (is_in_chain chain slot))
  where
    at : RiseFrom (slot.seq + 1) (without_chain chain more) → (is_in_chain chain slot ≡ true) ⊎ (is_in_chain chain slot ≡ false) → RiseFrom low (without_chain chain (slot ∷ more))
    at rest (inl is) = rw is (rise_lower (slot.seq + 1) low (without_chain chain more) (omega (arith, rise.0)) rest)
    at rest (inr is) = rw is (rise.0, rest)

length_without : (chain : ℕ) (held : List Slot) → length (without_chain chain held) ≤ length held
length_without chain [] = omega arith
length_without chain (slot ∷ more) = at (length_without chain more) (cases_Bool (is_in_chain chain slot))
  where
    at : length (without_chain chain more) ≤ length more → (is_in_chain chain slot ≡ true) ⊎ (is_in_chain chain slot ≡ false) → length (without_chain chain (slot ∷ more)) ≤ length (slot ∷ more)
    at rest (inl is) = rw is (omega (arith, rest))
    at rest (inr is) = rw is (omega (arith, rest))

below_without : (chain next : ℕ) (held : List Slot) → AllByRecursion (λ slot. slot.seq < next) held → AllByRecursion (λ slot. slot.seq < next) (without_chain chain held)
below_without chain next [] all = tt
below_without chain next (slot ∷ more) all = at (below_without chain next more all.1) (cases_Bool (is_in_chain chain slot))
  where
    at : AllByRecursion (λ other. other.seq < next) (without_chain chain more) → (is_in_chain chain slot ≡ true) ⊎ (is_in_chain chain slot ≡ false) → AllByRecursion (λ other. other.seq < next) (without_chain chain (slot ∷ more))
    at rest (inl is) = rw is rest
    at rest (inr is) = rw is (all.0, rest)

pub free_pool : (chain freed : ℕ) (held : List Slot) (slots bytes sum next : ℕ) → IsPool held slots bytes sum next → freed + bytes_of (without_chain chain held) ≡ bytes_of held → AreNamed (without_chain chain held) (without_chain chain held) → IsPool (without_chain chain held) slots bytes (sum - freed) next
free_pool chain freed held slots bytes sum next pool is named = record {
  rise = rise_without chain 0 held pool.rise;
  few = let fewer = length_without chain held in omega (arith, fewer, pool.few);
  sum_is = omega (arith, is, pool.sum_is);
  small = omega (arith, is, pool.small);
  below = below_without chain next held pool.below;
  named = named;
}
