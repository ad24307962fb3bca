-- How ways join and part, and what a plain one is known by.
use Rattle.std.proofs.Common.{ℕ, List, [], ◌∷◌, ◌++◌, refl, sym, subst, append_assoc, append-nil, ◌⊎◌, inl, inr}
use Rattle.outside.specs.declared.event.Event.{Event}
use Rattle.outside.specs.declared.event.Event.TheVariants.{Opened, Took, TookEnd, Committed, Emitted, Merged, Shown, Started, ReadLine, ReadEnd, Given, Closed, Got, GotEnd, Saved, Ended}
use Rattle.catalog.specs.declared.stream.ConfStream.{ConfStream}
use Rattle.load_rules.specs.Lines.{Reading}
use Rattle.load_rules.specs.Taken.{LaneState}
use Rattle.catalog.specs.declared.stream.Gen.{Gen}
use Rattle.state_kinds.specs.Saved.{Saved as SavedStates}
use Rattle.sync_rules.specs.Generations.{Begins}
use Rattle.sync_rules.specs.Sync.{Sync, no_sync}
use Rattle.sync_rules.specs.Steps.{Step, Saves, Puts}
use Rattle.sync_rules.specs.SafeSync.{Asked, commits, nothing, Goes, IsAsked}
use Rattle.sync_rules.specs.Laws.{WaysJoin, WaysPart, FrontsAreSafe, StaysSafe, SafeIsPlain, OwnEventsTell}

pub ways_join : WaysJoin
ways_join streams read asked before [] more sync between now first then =
    subst (λ own. Goes streams read asked before own more now) first (subst (λ list. Goes streams read asked list between more now) (append-nil before) then)
ways_join streams read asked before (event ∷ events) more sync between now (middle, step, rest) then = (
  middle,
  step,
  ways_join streams read asked (before ++ event ∷ []) events more middle between now rest (subst (λ list. Goes streams read asked list between more now) (sym (append_assoc before (event ∷ []) events)) then),
)

pub ways_part : WaysPart
ways_part streams read asked before [] more sync now goes =
    record { between = sync; first = refl; then = subst (λ list. Goes streams read asked list sync more now) (sym (append-nil before)) goes }
ways_part streams read asked before (event ∷ events) more sync now (middle, step, rest) =
    let parted = ways_part streams read asked (before ++ event ∷ []) events more middle now rest in
    record {
      between = parted.between;
      first = (middle, step, parted.first);
      then = subst (λ list. Goes streams read asked list parted.between more now) (append_assoc before (event ∷ []) events) parted.then;
    }

pub fronts_are_safe : FrontsAreSafe
fronts_are_safe streams read front rest (now, goes) =
    let parted = ways_part streams read commits [] front rest no_sync now goes in (parted.between, parted.first)

pub one_step : (streams : List ConfStream) (read : Reading) (asked : Asked) (before : List Event) (sync : Sync) (event : Event) (now : Sync)
    → Step streams read (IsAsked streams asked before) sync event now → Goes streams read asked before sync (event ∷ []) now
one_step streams read asked before sync event now step = (now, step, refl)

pub stays_safe : StaysSafe
stays_safe streams read trace sync event now leads step =
    ways_join streams read commits [] trace (event ∷ []) no_sync sync now leads (one_step streams read commits trace sync event now step)

-- what is asked beside may be weakened
pub puts_weaker : (streams : List ConfStream) (read : Reading) (P Q : LaneState → Type 0) (sync : Sync) (set : SavedStates) → ((state : LaneState) → P state → Q state) → Puts streams read P sync set → Puts streams read Q sync set
puts_weaker streams read P Q sync set weaker puts =
    record { attempt = puts.attempt; in_attempt = puts.in_attempt; state = puts.state; owed = puts.owed; passed_on = puts.passed_on; kept = puts.kept; put = puts.put; beside = weaker puts.state puts.beside }

by_weaker : (streams : List ConfStream) (read : Reading) (P Q : LaneState → Type 0) (sync : Sync) (set : SavedStates) → ((state : LaneState) → P state → Q state)
    → ((gens : List Gen) × Begins streams sync.set gens set) ⊎ Puts streams read P sync set → ((gens : List Gen) × Begins streams sync.set gens set) ⊎ Puts streams read Q sync set
by_weaker streams read P Q sync set weaker (inl begins) = inl begins
by_weaker streams read P Q sync set weaker (inr puts) = inr (puts_weaker streams read P Q sync set weaker puts)

pub saves_weaker : (streams : List ConfStream) (read : Reading) (P Q : LaneState → Type 0) (sync : Sync) (text : List ℕ) (now : Sync) → ((state : LaneState) → P state → Q state) → Saves streams read P sync text now → Saves streams read Q sync text now
saves_weaker streams read P Q sync text now weaker saves = record { set = saves.set; text_is = saves.text_is; by = by_weaker streams read P Q sync saves.set weaker saves.by; is = saves.is }

pub step_weaker : (streams : List ConfStream) (read : Reading) (P Q : LaneState → Type 0) (sync : Sync) (event : Event) (now : Sync) → ((state : LaneState) → P state → Q state) → Step streams read P sync event now → Step streams read Q sync event now
step_weaker streams read P Q sync (Opened x y z) now weaker step = step
step_weaker streams read P Q sync (Took x) now weaker step = step
step_weaker streams read P Q sync TookEnd now weaker step = step
step_weaker streams read P Q sync (Committed x y) now weaker step = step
step_weaker streams read P Q sync (Emitted x) now weaker step = step
step_weaker streams read P Q sync (Merged x y z) now weaker step = step
step_weaker streams read P Q sync (Shown x y z) now weaker step = step
step_weaker streams read P Q sync (Started x) now weaker step = step
step_weaker streams read P Q sync (ReadLine x) now weaker step = step
step_weaker streams read P Q sync ReadEnd now weaker step = step
step_weaker streams read P Q sync (Given x) now weaker step = step
step_weaker streams read P Q sync Closed now weaker step = step
step_weaker streams read P Q sync (Got x) now weaker step = step
step_weaker streams read P Q sync GotEnd now weaker step = step
step_weaker streams read P Q sync (Saved x) now weaker step = saves_weaker streams read P Q sync x now weaker step
step_weaker streams read P Q sync (Ended x) now weaker step = step

pub safe_is_plain : SafeIsPlain
safe_is_plain streams read before [] sync now goes = goes
safe_is_plain streams read before (event ∷ events) sync now (middle, step, rest) =
    (middle, step_weaker streams read (IsAsked streams commits before) (IsAsked streams nothing before) sync event middle (λ state held. tt) step, safe_is_plain streams read (before ++ event ∷ []) events middle now rest)

-- a store's event leaves the sync where it is
pub own_events_tell : OwnEventsTell
own_events_tell streams read before behind [] sync now goes = goes
own_events_tell streams read before behind ((Opened x y z) ∷ events) sync now goes = (sync, refl, own_events_tell streams read before (behind ++ (Opened x y z) ∷ []) events sync now goes)
own_events_tell streams read before behind ((Took x) ∷ events) sync now goes = (sync, refl, own_events_tell streams read before (behind ++ (Took x) ∷ []) events sync now goes)
own_events_tell streams read before behind (TookEnd ∷ events) sync now goes = (sync, refl, own_events_tell streams read before (behind ++ TookEnd ∷ []) events sync now goes)
own_events_tell streams read before behind ((Committed x y) ∷ events) sync now goes = (sync, refl, own_events_tell streams read before (behind ++ (Committed x y) ∷ []) events sync now goes)
own_events_tell streams read before behind ((Emitted x) ∷ events) sync now goes = (sync, refl, own_events_tell streams read before (behind ++ (Emitted x) ∷ []) events sync now goes)
own_events_tell streams read before behind ((Merged x y z) ∷ events) sync now goes = (sync, refl, own_events_tell streams read before (behind ++ (Merged x y z) ∷ []) events sync now goes)
own_events_tell streams read before behind ((Shown x y z) ∷ events) sync now goes = (sync, refl, own_events_tell streams read before (behind ++ (Shown x y z) ∷ []) events sync now goes)
own_events_tell streams read before behind ((Started x) ∷ events) sync now (middle, step, rest) = (middle, step, own_events_tell streams read (before ++ (Started x) ∷ []) (behind ++ (Started x) ∷ []) events middle now rest)
own_events_tell streams read before behind ((ReadLine x) ∷ events) sync now (middle, step, rest) = (middle, step, own_events_tell streams read (before ++ (ReadLine x) ∷ []) (behind ++ (ReadLine x) ∷ []) events middle now rest)
own_events_tell streams read before behind (ReadEnd ∷ events) sync now (middle, step, rest) = (middle, step, own_events_tell streams read (before ++ ReadEnd ∷ []) (behind ++ ReadEnd ∷ []) events middle now rest)
own_events_tell streams read before behind ((Given x) ∷ events) sync now (middle, step, rest) = (middle, step, own_events_tell streams read (before ++ (Given x) ∷ []) (behind ++ (Given x) ∷ []) events middle now rest)
own_events_tell streams read before behind (Closed ∷ events) sync now (middle, step, rest) = (middle, step, own_events_tell streams read (before ++ Closed ∷ []) (behind ++ Closed ∷ []) events middle now rest)
own_events_tell streams read before behind ((Got x) ∷ events) sync now (middle, step, rest) = (middle, step, own_events_tell streams read (before ++ (Got x) ∷ []) (behind ++ (Got x) ∷ []) events middle now rest)
own_events_tell streams read before behind (GotEnd ∷ events) sync now (middle, step, rest) = (middle, step, own_events_tell streams read (before ++ GotEnd ∷ []) (behind ++ GotEnd ∷ []) events middle now rest)
own_events_tell streams read before behind ((Saved x) ∷ events) sync now (middle, step, rest) = (middle, step, own_events_tell streams read (before ++ (Saved x) ∷ []) (behind ++ (Saved x) ∷ []) events middle now rest)
own_events_tell streams read before behind ((Ended x) ∷ events) sync now (middle, step, rest) = (middle, step, own_events_tell streams read (before ++ (Ended x) ∷ []) (behind ++ (Ended x) ∷ []) events middle now rest)
