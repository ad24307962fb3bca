-- The end of a load: what is held, and merges one after another.
use Rattle.std.proofs.Common.{◌≡◌, ℕ, suc, List, [], ◌∷◌, ◌++◌, Option, None, Some, Bool, true, false, Ok, refl, sym, ◌∙◌, ap, subst}
use Rattle.std.specs.Prelude.{◌||◌, not, option_to_list, IfSome}
use Rattle.std.specs.List.{list_any}
use Rattle.std.proofs.lemmas.Bool.{false≢true}
use Rattle.std.proofs.lemmas.List.{append-nil}
use Rattle.std.proofs.lemmas.List.Folds.{list_any-append}
use Rattle.outside.specs.Dock.{DockSeen}
use Rattle.dedup_merge.specs.declared.pages.Merged.TheVariants as merged
use Rattle.book_queue.specs.Content.{Held, IsQueue, Out, Place, Queued, QueueView, Sealed, all_of, is_handed_out, is_in_queue}
use Rattle.book_rules.specs.Finishes.{MergesOne, has_none}
use Rattle.book_parts.specs.Finishing.{MergesSoFar, NextMerge}

none_held : (held : List Held) → list_any is_in_queue held ≡ false → not (list_any is_handed_out held) ≡ has_none held
none_held [] none = refl
none_held (one ∷ more) none = at one.place refl
  where
    at : (place : Place) → one.place ≡ place → not (list_any is_handed_out (one ∷ more)) ≡ false
    at (Out batch) is = rw is refl
    at Queued is = absurd (false≢true (sym none ∙ rw is refl))
    at Sealed is = absurd (false≢true (sym none ∙ rw is refl))

both_none : (a b : Bool) → (a || b) ≡ false → a ≡ false
both_none false b none = refl
both_none true b none = absurd (false≢true (sym none))

second_none : (a b : Bool) → (a || b) ≡ false → b ≡ false
second_none false b none = none
second_none true b none = absurd (false≢true (sym none))

-- where none is in a queue, none is held exactly where none is handed out
pub nothing_held : (queue : QueueView) (queued out : Bool) → IsQueue queue → queued ≡ list_any is_in_queue (all_of queue) → out ≡ list_any is_handed_out queue.held → queued ≡ false → not out ≡ has_none (all_of queue)
nothing_held queue queued out is queued_is out_is absent = at queue.parked refl
  where
    parts : (list_any is_in_queue queue.held || list_any is_in_queue (option_to_list queue.parked)) ≡ false
    parts = sym (list_any-append is_in_queue queue.held (option_to_list queue.parked)) ∙ (sym queued_is ∙ absent)

    at : (parked : Option Held) → queue.parked ≡ parked → not out ≡ has_none (all_of queue)
    at None none =
        ap not out_is
        ∙ (none_held queue.held (both_none (list_any is_in_queue queue.held) (list_any is_in_queue (option_to_list queue.parked)) parts)
        ∙ ap has_none (sym (append-nil queue.held) ∙ ap (λ (one : Option Held). queue.held ++ option_to_list one) (sym none)))
    at (Some one) some =
        let place : one.place ≡ Queued = subst (λ (it : Option Held). IfSome it (λ parked. parked.place ≡ Queued)) some is.parked_is in
        let fails = second_none (list_any is_in_queue queue.held) (list_any is_in_queue (option_to_list queue.parked)) parts in
        absurd (false≢true (sym fails ∙ (ap (λ (it : Option Held). list_any is_in_queue (option_to_list it)) some ∙ rw place refl)))

pub next_merged : (more : Bool) (stream page : ℕ) (old new : DockSeen) → NextMerge (Ok more) stream page old new → more ≡ true → MergesOne (Ok merged.More) stream page old new
next_merged true stream page old new next is = next
next_merged false stream page old new next is = absurd (false≢true is)

pub one_more_page : (stream page : ℕ) (old mid new : DockSeen) → MergesSoFar stream page old mid → MergesOne (Ok merged.More) stream page mid new → MergesSoFar stream page old new
one_more_page stream page old mid new so_far one = record { count = suc so_far.count; merges = (mid, so_far.merges, one) }
