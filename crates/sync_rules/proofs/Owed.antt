-- What is owed is what the last line took that came back.
use Rattle.std.proofs.Common.{◌≡◌, ℕ, List, [], ◌∷◌, ◌++◌, Bool, true, false, Option, None, Some, refl, sym, ◌∙◌, ap, subst, append_assoc}
use Rattle.std.specs.Prelude.{option_map, ◌||◌}
use Rattle.std.specs.List.{list_any}
use Rattle.outside.specs.declared.event.Event.{Event}
use Rattle.outside.specs.declared.event.Event.TheVariants.{Opened, Took, TookEnd, Committed, Emitted, Merged, Shown, Started, ReadLine, ReadEnd, Given, Closed, Got, GotEnd, Saved, Ended}
use Rattle.catalog.specs.declared.stream.ConfStream.{ConfStream}
use Rattle.load_rules.specs.Lines.{Reading}
use Rattle.load_rules.specs.Taken.{LaneState}
use Rattle.sync_rules.specs.Sync.{Running, Sync, no_sync, Takes, and_event, got}
use Rattle.sync_rules.specs.Steps.{Step, InAttempt, Gets}
use Rattle.sync_rules.specs.SafeSync.{Asked, Goes, IsAsked}
use Rattle.sync_rules.specs.Laws.{got_or_saved, LastTook, LastTookIn, OwedWasTaken}
use Rattle.sync_rules.proofs.KindLemmas.{some_none}
use Rattle.sync_rules.proofs.CallLemmas.{owed_of}

abbrev pub TookIn : Reading → Option LaneState → Option Running → Type 0
TookIn read owed own = (state : LaneState) → owed ≡ Some state → LastTookIn read state own

none_took : (read : Reading) (owed : Option LaneState) (own : Option Running) → owed ≡ None → TookIn read owed own
none_took read owed own none state is = absurd (some_none (sym is ∙ none))

any_none : {A : Type 0} (p : A → Bool) (xs ys : List A) → list_any p xs ≡ false → list_any p ys ≡ false → list_any p (xs ++ ys) ≡ false
any_none p [] ys none rest = rest
any_none p (x ∷ xs) ys none rest = at (p x) none (λ e. any_none p xs ys e rest)
  where
    at : (b : Bool) → (b || list_any p xs) ≡ false → (list_any p xs ≡ false → list_any p (xs ++ ys) ≡ false) → (b || list_any p (xs ++ ys)) ≡ false
    at true e onward = e
    at false e onward = onward e

one_none : {A : Type 0} (p : A → Bool) (x : A) → p x ≡ false → list_any p (x ∷ []) ≡ false
one_none p x none = ap (λ b. b || false) none

took_more : (read : Reading) (state : LaneState) (event : Event) (events : List Event) → got_or_saved event ≡ false → LastTook read state events → LastTook read state (events ++ event ∷ [])
took_more read state event events quiet last = record {
  front = last.front;
  text = last.text;
  back = last.back ++ event ∷ [];
  splits = ap (λ list. list ++ event ∷ []) last.splits ∙ append_assoc last.front (Got last.text ∷ last.back) (event ∷ []);
  took = last.took;
  last = any_none got_or_saved last.back (event ∷ []) last.last (one_none got_or_saved event quiet);
}

took_in_more : (read : Reading) (event : Event) (owed : Option LaneState) (own : Option Running) → got_or_saved event ≡ false → TookIn read owed own → TookIn read owed (option_map (and_event event) own)
took_in_more read event owed None quiet took state is = took state is
took_in_more read event owed (Some own) quiet took state is = took_more read state event own.events quiet (took state is)

took_at : (read : Reading) (sync now : Sync) → now ≡ sync → TookIn read sync.owed sync.attempt → TookIn read now.owed now.attempt
took_at read sync now same took = subst (λ (it : Sync). TookIn read it.owed it.attempt) (sym same) took

got_took : (read : Reading) (sync : Sync) (text : List ℕ) (now : Sync) (own : Option Running) → own ≡ sync.attempt → InAttempt own (Gets read sync text now) → TookIn read now.owed now.attempt
got_took read sync text now None at gets = absurd gets
got_took read sync text now (Some own) at gets = took_at read (got text gets.1.owed sync) now gets.1.is (subst (λ it. TookIn read gets.1.owed (option_map (and_event (Got text)) it)) at last)
  where
    last : TookIn read gets.1.owed (Some (and_event (Got text) own))
    last state is = record { front = own.events; text = text; back = []; splits = refl; took = subst (λ it. Takes read own.events text it) is gets.1.takes; last = refl }

took_step : (streams : List ConfStream) (read : Reading) (P : LaneState → Type 0) (sync : Sync) (event : Event) (now : Sync) → Step streams read P sync event now → TookIn read sync.owed sync.attempt → TookIn read now.owed now.attempt
took_step streams read P sync (Opened x y z) now step took = took_at read sync now step took
took_step streams read P sync (Took x) now step took = took_at read sync now step took
took_step streams read P sync TookEnd now step took = took_at read sync now step took
took_step streams read P sync (Committed x y) now step took = took_at read sync now step took
took_step streams read P sync (Emitted x) now step took = took_at read sync now step took
took_step streams read P sync (Merged x y z) now step took = took_at read sync now step took
took_step streams read P sync (Shown x y z) now step took = took_at read sync now step took
took_step streams read P sync (Started x) now step took = none_took read now.owed now.attempt (owed_of step.1)
took_step streams read P sync (ReadLine x) now step took = subst (λ (it : Sync). TookIn read it.owed it.attempt) (sym step.1) (took_in_more read (ReadLine x) sync.owed sync.attempt refl took)
took_step streams read P sync ReadEnd now step took = subst (λ (it : Sync). TookIn read it.owed it.attempt) (sym step.1) (took_in_more read ReadEnd sync.owed sync.attempt refl took)
took_step streams read P sync (Given x) now step took = subst (λ (it : Sync). TookIn read it.owed it.attempt) (sym step.1) (took_in_more read (Given x) sync.owed sync.attempt refl took)
took_step streams read P sync Closed now step took = subst (λ (it : Sync). TookIn read it.owed it.attempt) (sym step.1) (took_in_more read Closed sync.owed sync.attempt refl took)
took_step streams read P sync (Got x) now step took = got_took read sync x now sync.attempt refl step
took_step streams read P sync GotEnd now step took = subst (λ (it : Sync). TookIn read it.owed it.attempt) (sym step.1) (took_in_more read GotEnd sync.owed sync.attempt refl took)
took_step streams read P sync (Saved x) now step took = none_took read now.owed now.attempt (owed_of step.is)
took_step streams read P sync (Ended x) now step took = subst (λ (it : Sync). TookIn read it.owed it.attempt) (sym step.1) (took_in_more read (Ended x) sync.owed sync.attempt refl took)

took_along : (streams : List ConfStream) (read : Reading) (asked : Asked) (before events : List Event) (sync now : Sync) → Goes streams read asked before sync events now → TookIn read sync.owed sync.attempt → TookIn read now.owed now.attempt
took_along streams read asked before [] sync now goes took = took_at read sync now goes took
took_along streams read asked before (event ∷ events) sync now (middle, step, rest) took =
    took_along streams read asked (before ++ event ∷ []) events middle now rest (took_step streams read (IsAsked streams asked before) sync event middle step took)

pub owed_was_taken : OwedWasTaken
owed_was_taken streams read asked trace now state leads is = took_along streams read asked [] trace no_sync now leads (λ other none. absurd (some_none (sym none))) state is
