-- How ways of a worker go on.
use Rattle.std.specs.Prelude.{List, ◌++◌}
use Rattle.outside.specs.declared.event.Event.{Event}
use Rattle.catalog.specs.declared.stream.ConfStream.{ConfStream}
use Rattle.load_rules.specs.Lines.{Reading}
use Rattle.sync_rules.specs.SafeSync.{nothing}
use Rattle.sync_rules.specs.Calls.{Call, CallGoes}
use Rattle.attempt_turns.specs.Acts.{Act, Place, Going, events_in}

-- The events of a way are those of a call, whatever was before; and what leads somewhere, and on from there, leads on.
pub record WaysGoOn : Type 0 where
  pub calls : (call : Call) (streams : List ConfStream) (read : Reading) (before : List Event) (here there : Place) (acts : List Act)
      → Going call streams read here acts there → CallGoes call streams read nothing before here.standing (events_in acts) there.standing
  pub join : (call : Call) (streams : List ConfStream) (read : Reading) (here between there : Place) (acts more : List Act)
      → Going call streams read here acts between → Going call streams read between more there → Going call streams read here (acts ++ more) there
