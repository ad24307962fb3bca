-- The state store holds the text of the saved set.
use Rattle.std.proofs.Common.{◌≡◌, inl, inr, ℕ, List, [], ◌∷◌, ◌++◌, Option, None, Some, refl, sym, ap, subst}
use Rattle.std.specs.Prelude.{fold}
use Rattle.outside.specs.Event.{stored_after}
use Rattle.outside.specs.declared.event.Event.{Event}
use Rattle.outside.specs.declared.event.Event.TheVariants.{Opened, Took, TookEnd, Committed, Emitted, Merged, Shown, Started, ReadLine, ReadEnd, Given, Closed, Got, GotEnd, Saved, Ended}
use Rattle.catalog.specs.declared.stream.ConfStream.{ConfStream}
use Rattle.load_rules.specs.Lines.{Reading}
use Rattle.load_rules.specs.Taken.{LaneState}
use Rattle.sync_rules.specs.Sync.{Running, Sync, no_sync}
use Rattle.sync_rules.specs.Steps.{Step, InAttempt, Gets}
use Rattle.sync_rules.specs.SafeSync.{Asked, Goes, IsAsked}
use Rattle.sync_rules.specs.Laws.{IsStoreOf, StoreHolds}

same_store : (text : List ℕ) (sync now : Sync) → now.set ≡ sync.set → IsStoreOf text sync.set → IsStoreOf text now.set
same_store text sync now same holds = subst (IsStoreOf text) (sym same) holds

set_of : {x y : Sync} → x ≡ y → x.set ≡ y.set
set_of e = ap (λ (it : Sync). it.set) e

got_set : (read : Reading) (sync : Sync) (text : List ℕ) (now : Sync) (own : Option Running) → InAttempt own (Gets read sync text now) → now.set ≡ sync.set
got_set read sync text now None gets = absurd gets
got_set read sync text now (Some attempt) gets = set_of gets.1.is

store_step : (streams : List ConfStream) (read : Reading) (P : LaneState → Type 0) (sync : Sync) (event : Event) (now : Sync) (text : List ℕ) → Step streams read P sync event now → IsStoreOf text sync.set → IsStoreOf (stored_after text event) now.set
store_step streams read P sync (Opened x y z) now text step holds = same_store text sync now (set_of step) holds
store_step streams read P sync (Took x) now text step holds = same_store text sync now (set_of step) holds
store_step streams read P sync TookEnd now text step holds = same_store text sync now (set_of step) holds
store_step streams read P sync (Committed x y) now text step holds = same_store text sync now (set_of step) holds
store_step streams read P sync (Emitted x) now text step holds = same_store text sync now (set_of step) holds
store_step streams read P sync (Merged x y z) now text step holds = same_store text sync now (set_of step) holds
store_step streams read P sync (Shown x y z) now text step holds = same_store text sync now (set_of step) holds
store_step streams read P sync (Started x) now text step holds = same_store text sync now (set_of step.1) holds
store_step streams read P sync (ReadLine x) now text step holds = same_store text sync now (set_of step.1) holds
store_step streams read P sync ReadEnd now text step holds = same_store text sync now (set_of step.1) holds
store_step streams read P sync (Given x) now text step holds = same_store text sync now (set_of step.1) holds
store_step streams read P sync Closed now text step holds = same_store text sync now (set_of step.1) holds
store_step streams read P sync (Got x) now text step holds = same_store text sync now (got_set read sync x now sync.attempt step) holds
store_step streams read P sync GotEnd now text step holds = same_store text sync now (set_of step.1) holds
store_step streams read P sync (Saved x) now text step holds = subst (IsStoreOf x) (sym (set_of step.is)) (inr step.text_is)
store_step streams read P sync (Ended x) now text step holds = same_store text sync now (set_of step.1) holds

store_along : (streams : List ConfStream) (read : Reading) (asked : Asked) (before events : List Event) (sync now : Sync) (text : List ℕ) → Goes streams read asked before sync events now → IsStoreOf text sync.set → IsStoreOf (fold stored_after text events) now.set
store_along streams read asked before [] sync now text goes holds = same_store text sync now (set_of goes) holds
store_along streams read asked before (event ∷ events) sync now text (middle, step, rest) holds =
    store_along streams read asked (before ++ event ∷ []) events middle now (stored_after text event) rest (store_step streams read (IsAsked streams asked before) sync event middle text step holds)

pub store_holds : StoreHolds
store_holds streams read asked trace now leads = store_along streams read asked [] trace no_sync now [] leads (inl (refl, refl))
