-- What the calls of a queue find, as contracts see it.
use Rattle.std.proofs.Common.{◌≡◌, ℕ, suc, ◌<◌, List, [], ◌∷◌, ◌++◌, map, find, length, take, drop, Bool, true, false, refl, sym, ◌∙◌, ap, subst, inl, inr, ◌⊎◌, Option, None, Some, IfSome, is_some, option_map, option_to_list, slice_index_or, remove}
use Rattle.std.specs.List.{AllByRecursion, list_any}
use Rattle.std.proofs.Math.Seq.{split_at}
use Rattle.std.proofs.lemmas.Bool.{cases_Bool, false≢true}
use Rattle.std.proofs.lemmas.List.{append-nil}
use Rattle.buffer_pool.specs.declared.slot.Slot.{Slot}
use Rattle.buffer_pool.specs.Content.{PoolView, first_of, is_in_chain, with_front_detached, with_restored, detached_for}
use Rattle.buffer_pool.specs.Content.{is_queued as is_queued_free, oldest_of as oldest_slot}
use Rattle.book_queue.specs.declared.lane.Lane.{Lane}
use Rattle.book_queue.specs.declared.batch.Batch.{Batch}
use Rattle.book_queue.specs.declared.batch.Parked.{Parked}
use Rattle.book_queue.specs.Content.{is_in_queue}
use Rattle.book_queue.specs.Views.{IsTakenOut, held_of, parked_of}
use Rattle.book_queue.proofs.Lists.{all_of_all, any_as, any_map}
use Rattle.book_queue.proofs.Places.{held_queued}
use Rattle.book_queue.proofs.Slots.{back_again}

-- what was detached and is put back
pub detached_back : (pool : PoolView) (stream most front : ℕ) → Some front ≡ first_of stream pool.held → IfSome (first_of stream pool.held) (λ first. AllByRecursion (λ slot. is_in_chain first slot ≡ false) pool.held) → with_restored front (with_front_detached stream most pool.held) ≡ pool.held
detached_back pool stream most front is apart =
    let own = subst (λ first. IfSome first (λ number. AllByRecursion (λ slot. is_in_chain number slot ≡ false) pool.held)) (sym is) apart
    in ap (λ first. with_restored front (detached_for first stream most pool.held)) (sym is) ∙ back_again front stream most pool.held own

pub taken_out : (number index : ℕ) (out new : List Batch) (batch : Batch) → index < length out → ((d : Batch) → (slice_index_or out index d).number ≡ number) → batch ≡ slice_index_or out index batch → new ≡ remove out index → IsTakenOut number out new batch
taken_out number index out new batch within numbered is left = record {
  front = take index out;
  rest = drop (suc index) out;
  splits = split_at out index batch within ∙ ap (λ one. take index out ++ one ∷ drop (suc index) out) (sym is);
  left = left;
  numbered = ap (λ one. one.number) is ∙ numbered batch;
}

some_any : (test : Slot → Bool) (held : List Slot) → is_some (option_map (λ slot. slot.stream) (find test held)) ≡ list_any test held
some_any test [] = refl
some_any test (slot ∷ more) = at (cases_Bool (test slot)) (some_any test more)
  where
    at : (test slot ≡ true) ⊎ (test slot ≡ false) → is_some (option_map (λ one. one.stream) (find test more)) ≡ list_any test more → is_some (option_map (λ one. one.stream) (find test (slot ∷ more))) ≡ list_any test (slot ∷ more)
    at (inl is) rest = rw is refl
    at (inr fails) rest = rw fails rest

pub queued_any : (lanes : List Lane) (out : List Batch) (parked : Option Parked) (held : List Slot) → is_some parked ≡ false → is_some (oldest_slot held) ≡ list_any is_in_queue (map (held_of lanes out) held ++ option_to_list (parked_of parked))
queued_any lanes out None held none = some_any is_queued_free held ∙ (sym (any_as (λ slot. is_in_queue (held_of lanes out slot)) is_queued_free held (all_of_all (λ slot. is_in_queue (held_of lanes out slot) ≡ is_queued_free slot) held (held_queued lanes out))) ∙ (sym (any_map is_in_queue (held_of lanes out) held) ∙ ap (list_any is_in_queue) (sym (append-nil (map (held_of lanes out) held)))))
queued_any lanes out (Some parked) held none = absurd (false≢true (sym none))
