-- Which worlds are reached by steps: lines were taken, one after another, since the world began.
use Rattle.std.specs.Prelude.{◌≡◌, List, [], ◌++◌, Bool, true, if◌then◌else◌}
use Rattle.outside.specs.declared.event.Event.{Event}
use Rattle.worker_run.specs.TakenLines.{TakenLine, none_counted, counted_through, AreTaken}
use Rattle.worker_run.specs.World.{World, first_events, all_taken_events, last_events}

-- the events behind the last line, where the attempt has ended
abbrev pub ending_events : Bool → List Event
ending_events is_over = if is_over then last_events else []

pub record IsReached (world : World) : Type 0 where
  pub taken_lines : List TakenLine
  pub fits : AreTaken world.stream none_counted taken_lines
  pub counted : world.counted ≡ counted_through none_counted taken_lines
  pub events : world.events ≡ (first_events world.stream ++ all_taken_events world.stream none_counted taken_lines) ++ ending_events world.is_over
  pub over : world.is_over ≡ true → world.lines ≡ []
