-- A safe sync: each event fits where the sync stands before it. It is asked event by event, so it holds in every prefix.
use Rattle.std.specs.Prelude.{◌≡◌, List, [], ◌∷◌, ◌++◌, true}
use Rattle.std.specs.List.{AllByRecursion}
use Rattle.outside.specs.declared.event.Event.{Event}
use Rattle.catalog.specs.declared.stream.ConfStream.{ConfStream}
use Rattle.load_rules.specs.Lines.{Reading}
use Rattle.load_rules.specs.Taken.{LaneState, entries, covers}
use Rattle.load_rules.specs.Honest.{IsCommitted}
use Rattle.load_rules.specs.Attempts.{attempts, attempt_events}
use Rattle.sync_rules.specs.Sync.{Sync, no_sync}
use Rattle.sync_rules.specs.Steps.{Step}

-- Each record that was passed on before the state and that it covers stands committed in the attempt, as the row of its own line, in
-- every field, with its number among the attempt's passed records as sequence.
abbrev pub IsCovered : List ConfStream → List Event → LaneState → Type 0
IsCovered streams before state =
    AllByRecursion (λ entry. covers state.lane entry.content.id ≡ true → IsCommitted streams (attempt_events (attempts before)) entry) (entries state.before)

-- what is asked of a state that is put, behind these events: that what it covers is committed, or nothing
pub data Asked : Type 0 where
  commits : Asked
  nothing : Asked

abbrev pub IsAsked : List ConfStream → Asked → List Event → LaneState → Type 0
IsAsked streams commits before state = IsCovered streams before state
IsAsked streams nothing before state = Unit {0}

-- the events lead from where the sync stands to there, `before` being in front of all
abbrev pub Goes : List ConfStream → Reading → Asked → List Event → Sync → List Event → Sync → Type 0
Goes streams read asked before sync [] now = now ≡ sync
Goes streams read asked before sync (event ∷ events) now =
    (between : Sync) × Step streams read (IsAsked streams asked before) sync event between × Goes streams read asked (before ++ event ∷ []) between events now

-- From an empty state store the events of a trace lead to where the sync stands.
abbrev pub Leads : List ConfStream → Reading → Asked → List Event → Sync → Type 0
Leads streams read asked trace now = Goes streams read asked [] no_sync trace now

-- a safe sync
abbrev pub IsSafeSync : List ConfStream → Reading → List Event → Type 0
IsSafeSync streams read trace = (now : Sync) × Leads streams read commits trace now

-- the same, whatever is committed: it is known by what the link adds by itself
abbrev pub IsPlainSync : List ConfStream → Reading → List Event → Type 0
IsPlainSync streams read trace = (now : Sync) × Leads streams read nothing trace now
