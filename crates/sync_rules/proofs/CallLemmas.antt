-- How what calls do joins, what a call is known by, and that it saves what is owed.
use Rattle.std.proofs.Common.{arith, ◌≡◌, ℕ, ◌<◌, List, [], ◌∷◌, ◌++◌, Bool, true, false, Option, None, Some, refl, sym, ◌∙◌, ap, subst, append_assoc, ne_eqb}
use Rattle.std.specs.Prelude.{Ok, is_none, ◌==◌, ◌||◌}
use Rattle.std.specs.List.{list_any}
use Rattle.std.proofs.lemmas.List.{append-nil}
use Rattle.outside.specs.declared.event.Event.{Event}
use Rattle.outside.specs.declared.event.Event.TheVariants.{Opened, Took, TookEnd, Committed, Emitted, Merged, Shown, Started, ReadLine, ReadEnd, Given, Closed, Got, GotEnd, Saved, Ended}
use Rattle.catalog.specs.declared.stream.ConfStream.{ConfStream}
use Rattle.load_rules.specs.Lines.{Reading}
use Rattle.load_rules.specs.Taken.{LaneState}
use Rattle.state_kinds.specs.Saved.{Saved as SavedStates}
use Rattle.state_kinds.specs.Changes.{put_into}
use Rattle.state_kinds.specs.Texts.{store_text}
use Rattle.sync_rules.specs.Sync.{Running, Sync}
use Rattle.sync_rules.specs.Steps.{InAttempt, Gets}
use Rattle.sync_rules.specs.Calls.{Called, Standing, standing_after, CallGoes, HasStarted, SavesRightly, begins_next}
use Rattle.sync_rules.specs.Laws.{CallsLead, CallsJoin, CallsTell, settles, IsPut, OwedIsPut}
use Rattle.sync_rules.proofs.KindLemmas.{some_none, some_is}

pub calls_lead : CallsLead
calls_lead call streams read asked before [] here there goes = ap (λ (it : Standing). it.sync) goes
calls_lead call streams read asked before (event ∷ events) here there (middle, step, fits, rest) =
    (middle, step, calls_lead call streams read asked (before ++ event ∷ []) events (standing_after here event middle) there rest)

pub calls_join : CallsJoin
calls_join call streams read asked before [] more here between there first then =
    subst (λ it. CallGoes call streams read asked before it more there) first (subst (λ list. CallGoes call streams read asked list between more there) (append-nil before) then)
calls_join call streams read asked before (event ∷ events) more here between there (middle, step, fits, rest) then = (
  middle,
  step,
  fits,
  calls_join call streams read asked (before ++ event ∷ []) events more (standing_after here event middle) between there rest (subst (λ list. CallGoes call streams read asked list between more there) (sym (append_assoc before (event ∷ []) events)) then),
)

-- a store's event leaves all where it is
pub calls_tell : CallsTell
calls_tell call streams read before behind [] here there goes = goes
calls_tell call streams read before behind (Opened x y z ∷ events) here there goes = (here.sync, refl, tt, calls_tell call streams read before (behind ++ Opened x y z ∷ []) events here there goes)
calls_tell call streams read before behind (Took x ∷ events) here there goes = (here.sync, refl, tt, calls_tell call streams read before (behind ++ Took x ∷ []) events here there goes)
calls_tell call streams read before behind (TookEnd ∷ events) here there goes = (here.sync, refl, tt, calls_tell call streams read before (behind ++ TookEnd ∷ []) events here there goes)
calls_tell call streams read before behind (Committed x y ∷ events) here there goes = (here.sync, refl, tt, calls_tell call streams read before (behind ++ Committed x y ∷ []) events here there goes)
calls_tell call streams read before behind (Emitted x ∷ events) here there goes = (here.sync, refl, tt, calls_tell call streams read before (behind ++ Emitted x ∷ []) events here there goes)
calls_tell call streams read before behind (Merged x y z ∷ events) here there goes = (here.sync, refl, tt, calls_tell call streams read before (behind ++ Merged x y z ∷ []) events here there goes)
calls_tell call streams read before behind (Shown x y z ∷ events) here there goes = (here.sync, refl, tt, calls_tell call streams read before (behind ++ Shown x y z ∷ []) events here there goes)
calls_tell call streams read before behind (Started x ∷ events) here there (middle, step, fits, rest) = (middle, step, fits, calls_tell call streams read (before ++ Started x ∷ []) (behind ++ Started x ∷ []) events (standing_after here (Started x) middle) there rest)
calls_tell call streams read before behind (ReadLine x ∷ events) here there (middle, step, fits, rest) = (middle, step, fits, calls_tell call streams read (before ++ ReadLine x ∷ []) (behind ++ ReadLine x ∷ []) events (standing_after here (ReadLine x) middle) there rest)
calls_tell call streams read before behind (ReadEnd ∷ events) here there (middle, step, fits, rest) = (middle, step, fits, calls_tell call streams read (before ++ ReadEnd ∷ []) (behind ++ ReadEnd ∷ []) events (standing_after here ReadEnd middle) there rest)
calls_tell call streams read before behind (Given x ∷ events) here there (middle, step, fits, rest) = (middle, step, fits, calls_tell call streams read (before ++ Given x ∷ []) (behind ++ Given x ∷ []) events (standing_after here (Given x) middle) there rest)
calls_tell call streams read before behind (Closed ∷ events) here there (middle, step, fits, rest) = (middle, step, fits, calls_tell call streams read (before ++ Closed ∷ []) (behind ++ Closed ∷ []) events (standing_after here Closed middle) there rest)
calls_tell call streams read before behind (Got x ∷ events) here there (middle, step, fits, rest) = (middle, step, fits, calls_tell call streams read (before ++ Got x ∷ []) (behind ++ Got x ∷ []) events (standing_after here (Got x) middle) there rest)
calls_tell call streams read before behind (GotEnd ∷ events) here there (middle, step, fits, rest) = (middle, step, fits, calls_tell call streams read (before ++ GotEnd ∷ []) (behind ++ GotEnd ∷ []) events (standing_after here GotEnd middle) there rest)
calls_tell call streams read before behind (Saved x ∷ events) here there (middle, step, fits, rest) = (middle, step, fits, calls_tell call streams read (before ++ Saved x ∷ []) (behind ++ Saved x ∷ []) events (standing_after here (Saved x) middle) there rest)
calls_tell call streams read before behind (Ended x ∷ events) here there (middle, step, fits, rest) = (middle, step, fits, calls_tell call streams read (before ++ Ended x ∷ []) (behind ++ Ended x ∷ []) events (standing_after here (Ended x) middle) there rest)

-- ---- what is owed is put

settles_not : (event : Event) (set now : SavedStates) (state : LaneState) (events : List Event) → settles event ≡ false → now ≡ set → IsPut now state events → IsPut set state (event ∷ events)
settles_not event set now state events quiet same put = record {
  front = event ∷ put.front;
  now = put.now;
  back = put.back;
  splits = ap (λ list. event ∷ list) put.splits;
  first = ap (λ b. b || list_any settles put.front) quiet ∙ put.first;
  put = subst (λ it. put_into state.state it ≡ Ok put.now) same put.put;
}

got_none : (read : Reading) (sync : Sync) (text : List ℕ) (now : Sync) (own : Option Running) → InAttempt own (Gets read sync text now) → sync.owed ≡ None
got_none read sync text now None gets = absurd gets
got_none read sync text now (Some attempt) gets = gets.1.none_owed

not_zero : (n : ℕ) → 0 < n → (n == 0) ≡ false
not_zero n lt = ne_eqb n 0 (λ e. omega (arith, e, lt))

owes : (called : Called) (sync : Sync) (state : LaneState) → HasStarted called → sync.owed ≡ Some state → begins_next called sync ≡ false
owes called sync state started owed = ap (λ b. b || is_none sync.owed) (not_zero called.number started) ∙ ap is_none owed

saved_put : (streams : List ConfStream) (sync now : Sync) (state : LaneState) (b : Bool) → b ≡ false → sync.owed ≡ Some state → SavesRightly streams b sync now → put_into state.state sync.set ≡ Ok now.set
saved_put streams sync now state true is_false owed fits = absurd (let h : true ≡ false = is_false in cc)
saved_put streams sync now state false is_false owed (other, is, put) = subst (λ (it : LaneState). put_into it.state sync.set ≡ Ok now.set) (some_is (sym is ∙ owed)) put

pub set_of : {x y : Sync} → x ≡ y → x.set ≡ y.set
set_of e = ap (λ (it : Sync). it.set) e

pub owed_of : {x y : Sync} → x ≡ y → x.owed ≡ y.owed
owed_of e = ap (λ (it : Sync). it.owed) e

pub owed_is_put : OwedIsPut
owed_is_put call streams read asked before [] here there state started owed goes none =
    absurd (some_none (sym owed ∙ (sym (ap (λ (it : Standing). it.sync.owed) goes) ∙ none)))
owed_is_put call streams read asked before (Opened x y z ∷ events) here there state started owed (middle, step, fits, rest) none =
    settles_not (Opened x y z) here.sync.set middle.set state events refl (set_of step) (owed_is_put call streams read asked (before ++ Opened x y z ∷ []) events (standing_after here (Opened x y z) middle) there state started (owed_of step ∙ owed) rest none)
owed_is_put call streams read asked before (Took x ∷ events) here there state started owed (middle, step, fits, rest) none =
    settles_not (Took x) here.sync.set middle.set state events refl (set_of step) (owed_is_put call streams read asked (before ++ Took x ∷ []) events (standing_after here (Took x) middle) there state started (owed_of step ∙ owed) rest none)
owed_is_put call streams read asked before (TookEnd ∷ events) here there state started owed (middle, step, fits, rest) none =
    settles_not TookEnd here.sync.set middle.set state events refl (set_of step) (owed_is_put call streams read asked (before ++ TookEnd ∷ []) events (standing_after here TookEnd middle) there state started (owed_of step ∙ owed) rest none)
owed_is_put call streams read asked before (Committed x y ∷ events) here there state started owed (middle, step, fits, rest) none =
    settles_not (Committed x y) here.sync.set middle.set state events refl (set_of step) (owed_is_put call streams read asked (before ++ Committed x y ∷ []) events (standing_after here (Committed x y) middle) there state started (owed_of step ∙ owed) rest none)
owed_is_put call streams read asked before (Emitted x ∷ events) here there state started owed (middle, step, fits, rest) none =
    settles_not (Emitted x) here.sync.set middle.set state events refl (set_of step) (owed_is_put call streams read asked (before ++ Emitted x ∷ []) events (standing_after here (Emitted x) middle) there state started (owed_of step ∙ owed) rest none)
owed_is_put call streams read asked before (Merged x y z ∷ events) here there state started owed (middle, step, fits, rest) none =
    settles_not (Merged x y z) here.sync.set middle.set state events refl (set_of step) (owed_is_put call streams read asked (before ++ Merged x y z ∷ []) events (standing_after here (Merged x y z) middle) there state started (owed_of step ∙ owed) rest none)
owed_is_put call streams read asked before (Shown x y z ∷ events) here there state started owed (middle, step, fits, rest) none =
    settles_not (Shown x y z) here.sync.set middle.set state events refl (set_of step) (owed_is_put call streams read asked (before ++ Shown x y z ∷ []) events (standing_after here (Shown x y z) middle) there state started (owed_of step ∙ owed) rest none)
owed_is_put call streams read asked before (Started x ∷ events) here there state started owed (middle, step, fits, rest) none = absurd (some_none (sym owed ∙ fits.none_owed))
owed_is_put call streams read asked before (ReadLine x ∷ events) here there state started owed (middle, step, fits, rest) none =
    settles_not (ReadLine x) here.sync.set middle.set state events refl (set_of step.1) (owed_is_put call streams read asked (before ++ ReadLine x ∷ []) events (standing_after here (ReadLine x) middle) there state started (owed_of step.1 ∙ owed) rest none)
owed_is_put call streams read asked before (ReadEnd ∷ events) here there state started owed (middle, step, fits, rest) none =
    settles_not ReadEnd here.sync.set middle.set state events refl (set_of step.1) (owed_is_put call streams read asked (before ++ ReadEnd ∷ []) events (standing_after here ReadEnd middle) there state started (owed_of step.1 ∙ owed) rest none)
owed_is_put call streams read asked before (Given x ∷ events) here there state started owed (middle, step, fits, rest) none =
    settles_not (Given x) here.sync.set middle.set state events refl (set_of step.1) (owed_is_put call streams read asked (before ++ Given x ∷ []) events (standing_after here (Given x) middle) there state started (owed_of step.1 ∙ owed) rest none)
owed_is_put call streams read asked before (Closed ∷ events) here there state started owed (middle, step, fits, rest) none =
    settles_not Closed here.sync.set middle.set state events refl (set_of step.1) (owed_is_put call streams read asked (before ++ Closed ∷ []) events (standing_after here Closed middle) there state started (owed_of step.1 ∙ owed) rest none)
owed_is_put call streams read asked before (Got x ∷ events) here there state started owed (middle, step, fits, rest) none = absurd (some_none (sym owed ∙ got_none read here.sync x middle here.sync.attempt step))
owed_is_put call streams read asked before (GotEnd ∷ events) here there state started owed (middle, step, fits, rest) none =
    settles_not GotEnd here.sync.set middle.set state events refl (set_of step.1) (owed_is_put call streams read asked (before ++ GotEnd ∷ []) events (standing_after here GotEnd middle) there state started (owed_of step.1 ∙ owed) rest none)
owed_is_put call streams read asked before (Saved x ∷ events) here there state started owed (middle, step, fits, rest) none = record {
  front = [];
  now = middle.set;
  back = events;
  splits = ap (λ text. Saved text ∷ events) (step.text_is ∙ ap store_text (sym (set_of step.is)));
  first = refl;
  put = saved_put streams here.sync middle state (begins_next here.called here.sync) (owes here.called here.sync state started owed) owed fits;
}
owed_is_put call streams read asked before (Ended x ∷ events) here there state started owed (middle, step, fits, rest) none =
    settles_not (Ended x) here.sync.set middle.set state events refl (set_of step.1) (owed_is_put call streams read asked (before ++ Ended x ∷ []) events (standing_after here (Ended x) middle) there state started (owed_of step.1 ∙ owed) rest none)
