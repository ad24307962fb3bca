-- Events with counts beside them.
use Rattle.std.proofs.Common.{◌≡◌, ℕ, zero, suc, List, [], ◌∷◌, ◌++◌, map, length, take, refl, ap, arith}
use Rattle.outside.specs.Dock.{event_of}
use Rattle.outside.specs.declared.dock.DockTally.{DockTally}
use Rattle.outside.specs.declared.event.Event.{Event}
use Rattle.outside_mem.specs.MemDock.{ToldEvent, told, told_with}

pub events_are : (events : List Event) (counts : List DockTally) → length counts ≡ length events → events ≡ map event_of (told_with events counts)
events_are [] counts e = refl
events_are (event ∷ events) [] e = absurd (omega arith)
events_are (event ∷ events) (count ∷ counts) e = ap (λ (es : List Event). event ∷ es) (events_are events counts (omega arith))

pub told_push : (events : List Event) (counts : List DockTally) (event : Event) (count : DockTally) → length counts ≡ length events → told_with (events ++ event ∷ []) (counts ++ count ∷ []) ≡ told_with events counts ++ told event count ∷ []
told_push [] [] event count e = refl
told_push [] (c ∷ counts) event count e = absurd (omega arith)
told_push (own ∷ events) [] event count e = absurd (omega arith)
told_push (own ∷ events) (c ∷ counts) event count e = ap (λ (ts : List ToldEvent). told own c ∷ ts) (told_push events counts event count (omega arith))

pub told_length : (events : List Event) (counts : List DockTally) → length counts ≡ length events → length events ≡ length (told_with events counts)
told_length [] counts e = refl
told_length (event ∷ events) [] e = absurd (omega arith)
told_length (event ∷ events) (count ∷ counts) e = ap suc (told_length events counts (omega arith))

pub told_take : (n : ℕ) (events : List Event) (counts : List DockTally) → length counts ≡ length events → told_with (take n events) (take n counts) ≡ take n (told_with events counts)
told_take zero events counts e = refl
told_take (suc n) [] [] e = refl
told_take (suc n) [] (count ∷ counts) e = absurd (omega arith)
told_take (suc n) (event ∷ events) [] e = absurd (omega arith)
told_take (suc n) (event ∷ events) (count ∷ counts) e = ap (λ (ts : List ToldEvent). told event count ∷ ts) (told_take n events counts (omega arith))

pub length_both : (n : ℕ) (events : List Event) (counts : List DockTally) → length counts ≡ length events → length (take n counts) ≡ length (take n events)
length_both zero events counts e = refl
length_both (suc n) [] [] e = refl
length_both (suc n) [] (count ∷ counts) e = absurd (omega arith)
length_both (suc n) (event ∷ events) [] e = absurd (omega arith)
length_both (suc n) (event ∷ events) (count ∷ counts) e = ap suc (length_both n events counts (omega arith))

-- what was put behind is dropped again
pub take_back : {A : Type 0} (xs : List A) (x : A) → take (length xs) (xs ++ x ∷ []) ≡ xs
take_back [] x = refl
take_back (y ∷ ys) x = ap (λ (zs : List _). y ∷ zs) (take_back ys x)
