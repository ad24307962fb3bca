-- A sound trace: from an empty store and an empty state store on a safe sync, a run of the write engine, and attempts of one source
-- that can be replayed.
use Rattle.std.specs.Prelude.{◌≡◌, List, [], not}
use Rattle.std.specs.List.{AllByRecursion, take_while}
use Rattle.outside.specs.declared.event.Event.{Event}
use Rattle.catalog.specs.Reading.{ids_of}
use Rattle.catalog.specs.declared.stream.ConfStream.{ConfStream}
use Rattle.load_rules.specs.Lines.{Reading}
use Rattle.load_rules.specs.Loads.{store_events}
use Rattle.load_rules.specs.Attempts.{attempts}
use Rattle.load_rules.specs.Engine.{IsEngineRun}
use Rattle.load_rules.specs.Laws.{is_started}
use Rattle.sync_rules.specs.SafeSync.{IsSafeSync}
use Rattle.replay_rules.specs.Sources.{Source}
use Rattle.replay_rules.specs.Replayed.{IsReplayable}

-- a store has done nothing before the first attempt
abbrev pub BeginsUnopened : List Event → Type 0
BeginsUnopened trace = store_events (take_while (λ event. not (is_started event)) trace) ≡ []

-- That each attempt is started with the catalog and the generations that the set before its beginning gives is part of a safe sync.
pub record IsSound (streams : List ConfStream) (read : Reading) (source : Source) (trace : List Event) : Type 0 where
  pub unopened : BeginsUnopened trace
  pub safe : IsSafeSync streams read trace
  pub engine : IsEngineRun streams read trace
  pub replayable : AllByRecursion (IsReplayable (ids_of streams) read source) (attempts trace)
