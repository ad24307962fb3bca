-- What one call on a dock did, as far as a book tells of it.
use Rattle.std.specs.Prelude.{◌≡◌, ℕ, List, Result, IsErrOf}
use Rattle.basics.specs.Told.{RoseIf}
use Rattle.outside.specs.Link.{AddsOn, kind_of, QuietPoll}
use Rattle.outside.specs.Hand.{HandPolls, HandEmits}
use Rattle.outside.specs.Dock.{DockSeen, DockGrew, DockMoves, dock_events, TookAdds, IsWithinLimit}
use Rattle.outside.specs.declared.event.Event.TheVariants.{Emitted}
use Rattle.outside.specs.declared.fault.Fault.{Fault}
use Rattle.outside.specs.declared.fault.Fault.TheVariants.{Failed}
use Rattle.outside.specs.declared.link.Polled.{Polled}
use Rattle.outside.specs.declared.link.Polled.TheVariants as polled

-- the input was polled, and gave this
pub record Polls (given : Polled) (old new : DockSeen) : Type 0 where
  pub grew : DockGrew old new
  pub moves : DockMoves old new
  pub events : TookAdds given (dock_events old) (dock_events new)
  pub within : IsWithinLimit given
  pub face : new.face ≡ record (old.face) { poll = kind_of given; hand = new.face.hand }
  pub hand : HandPolls given old.face.hand new.face.hand
  pub rows_read : new.rows_read ≡ old.rows_read
  pub quiet : QuietPoll given old.counts.quiet new.counts.quiet
  pub faults : RoseIf (given ≡ polled.Failed) old.counts.read_faults new.counts.read_faults
  pub counts : new.counts ≡ record (old.counts) { read_faults = new.counts.read_faults; quiet = new.counts.quiet }

-- a line was emitted, or not
pub record Emits {T : Type 0} (result : Result T Fault) (line : List ℕ) (old new : DockSeen) : Type 0 where
  pub grew : DockGrew old new
  pub moves : DockMoves old new
  pub events : AddsOn result (Emitted line) (dock_events old) (dock_events new)
  pub face : new.face ≡ record (old.face) { hand = new.face.hand }
  pub hand : HandEmits result line old.face.hand new.face.hand
  pub rows_read : new.rows_read ≡ old.rows_read
  pub faults : RoseIf (IsErrOf result Failed) old.counts.write_faults new.counts.write_faults
  pub counts : new.counts ≡ record (old.counts) { write_faults = new.counts.write_faults }
