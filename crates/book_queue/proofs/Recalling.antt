-- Batches that are all put back.
use Rattle.std.proofs.Common.{arith, ◌≡◌, ℕ, zero, suc, ◌-◌, ◌<◌, ◌≤◌, List, [], ◌∷◌, map, length, true, false, refl, sym, ◌∙◌, ap, subst, inl, inr, ◌⊎◌, Option, None, Some, IfSome, IfNone, is_some, slice_get, unwrap_or, get_or}
use Rattle.std.specs.List.{list_any}
use Rattle.std.proofs.lemmas.Bool.{cases_Bool, false≢true}
use Rattle.std.proofs.lemmas.Option.{none-some, slice_get_cases}
use Rattle.buffer_pool.specs.Content.{PoolView}
use Rattle.book_queue.specs.declared.lane.Lane.{Lane}
use Rattle.book_queue.specs.declared.batch.Batch.{Batch}
use Rattle.book_queue.specs.declared.batch.Parked.{Parked}
use Rattle.book_queue.specs.Content.{Held, Sealed, is_handed_out, is_in_batch, move, put_in}
use Rattle.book_queue.specs.Views.{AreKept, IsKept, count_if, held_of}
use Rattle.book_queue.proofs.Lists.{any_none}
use Rattle.book_queue.proofs.Handing.{any_out, in_batch_out, none_out}
use Rattle.book_queue.proofs.Places.{none_moves}
use Rattle.book_queue.proofs.Standing.{StandsAmong, batch_stands}

-- The last batch

get_stands : (index : ℕ) (out : List Batch) (one : Batch) → Some one ≡ slice_get out index → StandsAmong one.number out
get_stands index [] one is = absurd (none-some one (sym is))
get_stands zero (batch ∷ more) one is = record { front = []; rest = more; batch = batch; splits = refl; numbered = ap (λ found. found.number) (ap (λ found. unwrap_or found one) (sym is)) }
get_stands (suc index) (batch ∷ more) one is = let found = get_stands index more one is in record { front = batch ∷ found.front; rest = found.rest; batch = found.batch; splits = ap (λ out. batch ∷ out) found.splits; numbered = found.numbered }

pub some_handed : (pool : PoolView) (lanes : List Lane) (out : List Batch) (parked : Option Parked) (batch next_batch index : ℕ) (one : Batch) → IsKept pool lanes out parked batch next_batch → Some one ≡ slice_get out index → list_any (is_in_batch one.number) (map (held_of lanes out) pool.held) ≡ true
some_handed pool lanes out parked batch next_batch index one kept is = (batch_stands pool.held pool.streams pool.next lanes out next_batch one.number kept.are (get_stands index out one is)).some

none_there : (out : List Batch) → None ≡ slice_get out (length out - 1) → out ≡ []
none_there [] is = refl
none_there (batch ∷ more) is = at (slice_get_cases (batch ∷ more) (length (batch ∷ more) - 1)).1
  where
    at : ((x : Batch) × (length (batch ∷ more) - 1 < length (batch ∷ more)) × (slice_get (batch ∷ more) (length (batch ∷ more) - 1) ≡ Some x) × (get_or (batch ∷ more) (length (batch ∷ more) - 1) x ≡ x)) ⊎ ((length (batch ∷ more) ≤ length (batch ∷ more) - 1) × (slice_get (batch ∷ more) (length (batch ∷ more) - 1) ≡ None)) → batch ∷ more ≡ []
    at (inl found) = absurd (none-some found.0 (is ∙ found.2))
    at (inr past) = absurd (let high = past.0 in omega (arith, high))

pub none_handed : (pool : PoolView) (lanes : List Lane) (out : List Batch) (parked : Option Parked) (batch next_batch : ℕ) → IsKept pool lanes out parked batch next_batch → None ≡ slice_get out (length out - 1) → list_any is_handed_out (map (held_of lanes out) pool.held) ≡ false
none_handed pool lanes out parked batch next_batch kept is =
    let empty = none_there out is
    in subst (λ ones. list_any is_handed_out (map (held_of lanes ones) pool.held) ≡ false) (sym empty) (none_out pool.held pool.streams pool.next lanes next_batch (subst (λ ones. AreKept pool.held pool.streams pool.next lanes ones next_batch) empty kept.are))

pub has_out_is : (found : Option ℕ) (held : List Held) → IfNone found (list_any is_handed_out held ≡ false) → IfSome found (λ number. list_any (is_in_batch number) held ≡ true) → is_some found ≡ list_any is_handed_out held
has_out_is None held none some = sym none
has_out_is (Some number) held none some = sym (any_out number held some)

-- One after another

-- what is handed out is put back, whether in one step or in two
pub moved_again : (number : ℕ) (held : List Held) → move is_handed_out Sealed (move (is_in_batch number) Sealed held) ≡ move is_handed_out Sealed held
moved_again number [] = refl
moved_again number (one ∷ more) = at (cases_Bool (is_in_batch number one)) (moved_again number more)
  where
    at : (is_in_batch number one ≡ true) ⊎ (is_in_batch number one ≡ false) → move is_handed_out Sealed (move (is_in_batch number) Sealed more) ≡ move is_handed_out Sealed more → move is_handed_out Sealed (move (is_in_batch number) Sealed (one ∷ more)) ≡ move is_handed_out Sealed (one ∷ more)
    at (inl inside) rest = rw inside (rw (in_batch_out number one.place inside) (ap (λ others. put_in Sealed one ∷ others) rest))
    at (inr outside) rest = rw outside (rw rest refl)

out_less : (number : ℕ) (held : List Held) → count_if is_handed_out (move (is_in_batch number) Sealed held) ≤ count_if is_handed_out held
out_less number [] = omega arith
out_less number (one ∷ more) = at (cases_Bool (is_in_batch number one)) (out_less number more)
  where
    at : (is_in_batch number one ≡ true) ⊎ (is_in_batch number one ≡ false) → count_if is_handed_out (move (is_in_batch number) Sealed more) ≤ count_if is_handed_out more → count_if is_handed_out (move (is_in_batch number) Sealed (one ∷ more)) ≤ count_if is_handed_out (one ∷ more)
    at (inl inside) rest = rw inside (omega (arith, rest))
    at (inr outside) rest = rw outside (omega (arith, rest))

pub fewer_out : (number : ℕ) (held : List Held) → list_any (is_in_batch number) held ≡ true → count_if is_handed_out (move (is_in_batch number) Sealed held) < count_if is_handed_out held
fewer_out number [] is = absurd (false≢true is)
fewer_out number (one ∷ more) is = at (cases_Bool (is_in_batch number one)) (out_less number more) (fewer_out number more)
  where
    at : (is_in_batch number one ≡ true) ⊎ (is_in_batch number one ≡ false) → count_if is_handed_out (move (is_in_batch number) Sealed more) ≤ count_if is_handed_out more → (list_any (is_in_batch number) more ≡ true → count_if is_handed_out (move (is_in_batch number) Sealed more) < count_if is_handed_out more) → count_if is_handed_out (move (is_in_batch number) Sealed (one ∷ more)) < count_if is_handed_out (one ∷ more)
    at (inl inside) less deeper = rw inside (rw (in_batch_out number one.place inside) (omega (arith, less)))
    at (inr outside) less deeper = rw outside (let rest = deeper (rw outside at is) in omega (arith, rest))

pub none_moved_back : (held : List Held) → list_any is_handed_out held ≡ false → held ≡ move is_handed_out Sealed held
none_moved_back held none = none_moves is_handed_out Sealed held (any_none is_handed_out held none)
