-- An attempt that ends well.
use Rattle.std.specs.Prelude.{◌≡◌, List, ◌∷◌, filter, true, Contains, Some}
use Rattle.basics.specs.declared.stream.StreamId.{StreamId}
use Rattle.outside.specs.Event.{is_links}
use Rattle.outside.specs.declared.event.Codes.{Codes}
use Rattle.outside.specs.declared.event.Event.{Event}
use Rattle.outside.specs.declared.event.Event.TheVariants as event
use Rattle.outside.specs.declared.event.Exit.TheVariants.{Code}
use Rattle.load_rules.specs.Lines.{Reading, lines_read, is_known}
use Rattle.load_rules.specs.Finished.{last_status}
use Rattle.load_rules.specs.Attempts.{Attempt, attempts, reads}
use Rattle.sync_rules.specs.Calls.{IsThrough}
use Rattle.replay_rules.specs.Replayed.{IsFine}

-- The last attempt of the trace went through: the source's output was read to its end, all that is to be given was given, then the
-- destination's input was closed, and then its output was read to its end. Both ended with code 0, and no stream is incomplete.
pub record EndsWell (ids : List StreamId) (read : Reading) (trace : List Event) : Type 0 where
  pub attempt : Attempt
  pub older : List Attempt
  pub last : attempts trace ≡ attempt ∷ older
  pub through : IsThrough ids read (filter is_links attempt.events)
  pub codes : Codes
  pub ended : Contains attempt.events (event.Ended codes)
  pub source : codes.source ≡ Some (Code 0)
  pub dest : codes.dest ≡ Some (Code 0)
  pub fine : (id : StreamId) → is_known ids id ≡ true → IsFine (last_status id (lines_read read (reads attempt.events)))
