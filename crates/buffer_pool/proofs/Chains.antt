-- Queues and chains.
use Rattle.std.proofs.Common.{arith, ◌≡◌, ℕ, List, [], ◌∷◌, ◌++◌, Bool, true, false, refl, sym, ◌∙◌, ap, inl, inr, ◌⊎◌, ◌&&◌, drop, take, Option, None, Some, slice_index_or, zero, suc}
use Rattle.std.proofs.lemmas.Bool.{cases_Bool}
use Rattle.std.proofs.lemmas.Grind.{common_steps}
use Rattle.std.proofs.lemmas.List.{take-append-drop}
use Rattle.std.proofs.Math.Seq.{drop-nil}
use Rattle.buffer_pool.specs.declared.slot.Slot.{Slot}
use Rattle.buffer_pool.specs.Content.{detached_for, is_queued_of, queue_of, with_chain, first_of, IsFrontAt, with_front_detached}

pub none_detached : (chain stream : ℕ) (held : List Slot) → with_chain chain stream 0 held ≡ held
none_detached chain stream [] = refl
none_detached chain stream (slot ∷ more) = at (none_detached chain stream more) (cases_Bool (is_queued_of stream slot))
  where
    at : with_chain chain stream 0 more ≡ more → (is_queued_of stream slot ≡ true) ⊎ (is_queued_of stream slot ≡ false) → with_chain chain stream 0 (slot ∷ more) ≡ slot ∷ more
    at rest (inl is) = rw is (rw rest refl)
    at rest (inr is) = rw is (rw rest refl)

and_false : (b : Bool) → b && false ≡ false
and_false true = refl
and_false false = refl

-- what is detached at the front of the queue leaves the rest of it
pub queue_left : (chain stream most : ℕ) (held : List Slot) → queue_of stream (with_chain chain stream most held) ≡ drop most (queue_of stream held)
queue_left chain stream zero held = rw (none_detached chain stream held) refl
queue_left chain stream (suc most) [] = refl
queue_left chain stream (suc most) (slot ∷ more) = at (queue_left chain stream most more) (queue_left chain stream (suc most) more) (cases_Bool (is_queued_of stream slot))
  where
    at : queue_of stream (with_chain chain stream most more) ≡ drop most (queue_of stream more) → queue_of stream (with_chain chain stream (suc most) more) ≡ drop (suc most) (queue_of stream more) → (is_queued_of stream slot ≡ true) ⊎ (is_queued_of stream slot ≡ false) → queue_of stream (with_chain chain stream (suc most) (slot ∷ more)) ≡ drop (suc most) (queue_of stream (slot ∷ more))
    at goes stays (inl is) = grind (arith, common_steps, goes, is, and_false)
    at goes stays (inr is) = grind (arith, common_steps, stays, is)

-- a queue without a first record is empty
pub none_queued : (stream : ℕ) (held : List Slot) → first_of stream held ≡ None → queue_of stream held ≡ []
none_queued stream [] none = refl
none_queued stream (slot ∷ more) none = at (none_queued stream more) (cases_Bool (is_queued_of stream slot))
  where
    at : (first_of stream more ≡ None → queue_of stream more ≡ []) → (is_queued_of stream slot ≡ true) ⊎ (is_queued_of stream slot ≡ false) → queue_of stream (slot ∷ more) ≡ []
    at deeper (inl is) = let found = rw is at none in cc
    at deeper (inr is) = rw is (deeper (rw is at none))

-- the front that was detached
pub front_detached : (stream index most : ℕ) (held : List Slot) (first : Slot) → IsFrontAt stream held index → first ≡ slice_index_or held index first → take index held ++ with_chain first.seq stream most (drop index held) ≡ with_front_detached stream most held
front_detached stream index most held first front is = sym (front.detached first.seq most) ∙ ap (λ chain. detached_for chain stream most held) (sym (front.first first ∙ ap (λ slot. Some slot.seq) (sym is)))

-- a queue is empty, or has a first record: what is left of it
pub queue_left_behind : (stream most : ℕ) (held : List Slot) → queue_of stream (with_front_detached stream most held) ≡ drop most (queue_of stream held)
queue_left_behind stream most held = at (first_of stream held) (none_queued stream held)
  where
    at : (front : Option ℕ) → (front ≡ None → queue_of stream held ≡ []) → queue_of stream (detached_for front stream most held) ≡ drop most (queue_of stream held)
    at None none = let empty = none refl in rw empty (sym (drop-nil most))
    at (Some chain) none = queue_left chain stream most held

-- where nothing more is to be detached
pub none_left : (chain stream left index : ℕ) (held initial target : List Slot) → left ≡ 0 → drop index held ≡ drop index initial → take index held ++ with_chain chain stream left (drop index initial) ≡ target → held ≡ target
none_left chain stream left index held initial target none behind so_far = sym (take-append-drop index held) ∙ (ap (λ rest. take index held ++ rest) (behind ∙ (sym (none_detached chain stream (drop index initial)) ∙ ap (λ most. with_chain chain stream most (drop index initial)) (sym none))) ∙ so_far)

pub queue_none : (stream most : ℕ) (held : List Slot) → first_of stream held ≡ None → queue_of stream held ≡ drop most (queue_of stream held)
queue_none stream most held none = let empty = none_queued stream held none in rw empty (sym (drop-nil most))
