-- An honest call is safe.
use Rattle.std.proofs.Common.{◌≡◌, ◌⊎◌, inl, inr, ℕ, List, [], ◌∷◌, ◌++◌, Bool, true, false, Option, refl, subst}
use Rattle.std.specs.Prelude.{is_none, ◌==◌}
use Rattle.outside.specs.declared.event.Event.{Event}
use Rattle.outside.specs.declared.event.Event.TheVariants.{Opened, Took, TookEnd, Committed, Emitted, Merged, Shown, Started, ReadLine, ReadEnd, Given, Closed, Got, GotEnd, Saved, Ended}
use Rattle.catalog.specs.declared.stream.ConfStream.{ConfStream}
use Rattle.catalog.specs.declared.stream.Gen.{Gen}
use Rattle.load_rules.specs.Prefixes.{EachFits}
use Rattle.load_rules.specs.Lines.{Reading}
use Rattle.load_rules.specs.Taken.{LaneState}
use Rattle.load_rules.specs.Honest.{AddedFits}
use Rattle.sync_rules.specs.Generations.{Begins}
use Rattle.sync_rules.specs.Sync.{Sync}
use Rattle.sync_rules.specs.Steps.{Step, Saves}
use Rattle.sync_rules.specs.SafeSync.{commits, nothing, IsAsked, IsCovered}
use Rattle.sync_rules.specs.Calls.{Call, Called, Standing, called_after, standing_after, CallGoes, CallStep, SavesRightly, begins_next}
use Rattle.sync_rules.specs.Laws.{Knows, HonestCallsAreSafe}
use Rattle.sync_rules.proofs.Honest.{Honored, honored_step, knows_step, nothing_owed, got_next, owed_of, saves_safe}
use Rattle.sync_rules.proofs.KindLemmas.{or_left}
use Rattle.sync_rules.proofs.CallLemmas.{set_of}

-- no attempt was started yet, or what is owed is covered
abbrev pub IsHonored : List ConfStream → List Event → Called → Option LaneState → Type 0
IsHonored streams before called owed = ((called.number == 0) ≡ true) ⊎ Honored streams before owed

begins_so : (streams : List ConfStream) (b : Bool) (sync now : Sync) → b ≡ true → SavesRightly streams b sync now → (gens : List Gen) × Begins streams sync.set gens now.set
begins_so streams true sync now is fits = fits
begins_so streams false sync now is fits = absurd (let h : false ≡ true = is in cc)

saved_safe : (call : Call) (streams : List ConfStream) (read : Reading) (before : List Event) (called : Called) (sync : Sync) (text : List ℕ) (now : Sync)
    → IsHonored streams before called sync.owed → CallStep call streams called sync (Saved text) now → Saves streams read (IsAsked streams nothing before) sync text now → Saves streams read (IsCovered streams before) sync text now
saved_safe call streams read before called sync text now (inr honored) fits saves = saves_safe streams read before sync text now honored saves
saved_safe call streams read before called sync text now (inl none) fits saves =
    let begins = begins_so streams (begins_next called sync) sync now (or_left (called.number == 0) (is_none sync.owed) none) fits in
    record { set = saves.set; text_is = saves.text_is; by = inl (begins.0, subst (λ it. Begins streams sync.set begins.0 it) (set_of saves.is) begins.1); is = saves.is }

step_called : (call : Call) (streams : List ConfStream) (read : Reading) (before : List Event) (called : Called) (sync : Sync) (event : Event) (now : Sync) → IsHonored streams before called sync.owed → CallStep call streams called sync event now → Step streams read (IsAsked streams nothing before) sync event now → Step streams read (IsAsked streams commits before) sync event now
step_called call streams read before called sync (Opened x y z) now honored fits step = step
step_called call streams read before called sync (Took x) now honored fits step = step
step_called call streams read before called sync TookEnd now honored fits step = step
step_called call streams read before called sync (Committed x y) now honored fits step = step
step_called call streams read before called sync (Emitted x) now honored fits step = step
step_called call streams read before called sync (Merged x y z) now honored fits step = step
step_called call streams read before called sync (Shown x y z) now honored fits step = step
step_called call streams read before called sync (Started x) now honored fits step = step
step_called call streams read before called sync (ReadLine x) now honored fits step = step
step_called call streams read before called sync ReadEnd now honored fits step = step
step_called call streams read before called sync (Given x) now honored fits step = step
step_called call streams read before called sync Closed now honored fits step = step
step_called call streams read before called sync (Got x) now honored fits step = step
step_called call streams read before called sync GotEnd now honored fits step = step
step_called call streams read before called sync (Saved x) now honored fits step = saved_safe call streams read before called sync x now honored fits step
step_called call streams read before called sync (Ended x) now honored fits step = step

honored_called : (streams : List ConfStream) (read : Reading) (before : List Event) (called : Called) (sync : Sync) (event : Event) (now : Sync) → Knows sync before → IsHonored streams before called sync.owed → AddedFits streams read before event → Step streams read (IsAsked streams nothing before) sync event now → IsHonored streams (before ++ event ∷ []) (called_after sync called event) now.owed
honored_called streams read before called sync (Opened x y z) now knows (inl none) fits step = inl none
honored_called streams read before called sync (Opened x y z) now knows (inr honored) fits step = inr (honored_step streams read before sync (Opened x y z) now knows honored fits step)
honored_called streams read before called sync (Took x) now knows (inl none) fits step = inl none
honored_called streams read before called sync (Took x) now knows (inr honored) fits step = inr (honored_step streams read before sync (Took x) now knows honored fits step)
honored_called streams read before called sync TookEnd now knows (inl none) fits step = inl none
honored_called streams read before called sync TookEnd now knows (inr honored) fits step = inr (honored_step streams read before sync TookEnd now knows honored fits step)
honored_called streams read before called sync (Committed x y) now knows (inl none) fits step = inl none
honored_called streams read before called sync (Committed x y) now knows (inr honored) fits step = inr (honored_step streams read before sync (Committed x y) now knows honored fits step)
honored_called streams read before called sync (Emitted x) now knows (inl none) fits step = inl none
honored_called streams read before called sync (Emitted x) now knows (inr honored) fits step = inr (honored_step streams read before sync (Emitted x) now knows honored fits step)
honored_called streams read before called sync (Merged x y z) now knows (inl none) fits step = inl none
honored_called streams read before called sync (Merged x y z) now knows (inr honored) fits step = inr (honored_step streams read before sync (Merged x y z) now knows honored fits step)
honored_called streams read before called sync (Shown x y z) now knows (inl none) fits step = inl none
honored_called streams read before called sync (Shown x y z) now knows (inr honored) fits step = inr (honored_step streams read before sync (Shown x y z) now knows honored fits step)
honored_called streams read before called sync (Started x) now knows honored fits step = inr (nothing_owed streams (before ++ (Started x) ∷ []) now (owed_of step.1))
honored_called streams read before called sync (ReadLine x) now knows (inl none) fits step = inl none
honored_called streams read before called sync (ReadLine x) now knows (inr honored) fits step = inr (honored_step streams read before sync (ReadLine x) now knows honored fits step)
honored_called streams read before called sync ReadEnd now knows (inl none) fits step = inl none
honored_called streams read before called sync ReadEnd now knows (inr honored) fits step = inr (honored_step streams read before sync ReadEnd now knows honored fits step)
honored_called streams read before called sync (Given x) now knows (inl none) fits step = inl none
honored_called streams read before called sync (Given x) now knows (inr honored) fits step = inr (honored_step streams read before sync (Given x) now knows honored fits step)
honored_called streams read before called sync Closed now knows (inl none) fits step = inl none
honored_called streams read before called sync Closed now knows (inr honored) fits step = inr (honored_step streams read before sync Closed now knows honored fits step)
honored_called streams read before called sync (Got x) now knows honored fits step = inr (got_next streams read before x sync now sync.attempt knows step fits)
honored_called streams read before called sync GotEnd now knows (inl none) fits step = inl none
honored_called streams read before called sync GotEnd now knows (inr honored) fits step = inr (honored_step streams read before sync GotEnd now knows honored fits step)
honored_called streams read before called sync (Saved x) now knows honored fits step = inr (nothing_owed streams (before ++ (Saved x) ∷ []) now (owed_of step.is))
honored_called streams read before called sync (Ended x) now knows (inl none) fits step = inl none
honored_called streams read before called sync (Ended x) now knows (inr honored) fits step = inr (honored_step streams read before sync (Ended x) now knows honored fits step)

safe_on : (call : Call) (streams : List ConfStream) (read : Reading) (before more : List Event) (here there : Standing) → Knows here.sync before → IsHonored streams before here.called here.sync.owed
    → CallGoes call streams read nothing before here more there → EachFits (AddedFits streams read) before more → CallGoes call streams read commits before here more there
safe_on call streams read before [] here there knows honored goes fits = goes
safe_on call streams read before (event ∷ more) here there knows honored (middle, step, so, rest) fits = (
  middle,
  step_called call streams read before here.called here.sync event middle honored so step,
  so,
  safe_on call streams read (before ++ event ∷ []) more (standing_after here event middle) there (knows_step streams read (IsAsked streams nothing before) before here.sync event middle knows step) (honored_called streams read before here.called here.sync event middle knows honored fits.0 step) rest fits.1,
)

pub honest_calls_are_safe : HonestCallsAreSafe
honest_calls_are_safe call streams read before more sync there knows goes honest = safe_on call streams read before more (record { called = record { begun = 0; number = 0 }; sync = sync }) there knows (inl refl) goes honest
