-- For private clauses: the steps of a start.
use Rattle.std.specs.Prelude.{◌≡◌, List, [], None, false, length, replicate}
use Rattle.outside.specs.Dock.{DockSeen, DockGrew, HasOwnIds, OpensFace, OpenedAs, dock_events}
use Rattle.outside.specs.declared.event.StreamPlan.{StreamPlan}
use Rattle.outside.specs.declared.fault.Fault.{Fault}
use Rattle.outside.specs.declared.fault.Fault.TheVariants as fault
use Rattle.outside.specs.declared.load.Limits.{Limits}
use Rattle.outside.specs.declared.load.Marks.{Marks}
use Rattle.outside.specs.declared.status.Status.{Status}
use Rattle.outside.specs.declared.status.Status.TheVariants as status
use Rattle.catalog.specs.Reading.{ids_of}
use Rattle.catalog.specs.declared.stream.ConfStream.{ConfStream}
use Rattle.state_gate.specs.Content.{nothing_for}
use Rattle.state_gate.specs.Views.{Stands}
use Rattle.book_rules.specs.Starts.{AreColumnsOf, AreMarks, ArePlansOf, KeepsDock}
use Rattle.book_parts.specs.Opened.{OpenedView}
use Rattle.book_parts.specs.declared.start.Room.{Room}

abbrev pub store_stop : Fault → Status
store_stop fault.Failed = status.StoreFault
store_stop fault.NoMemory = status.NoMemory

-- the marks were read, and this is the plan by them
pub record PlansLoad (streams : List ConfStream) (before now : DockSeen) (plan : List StreamPlan) : Type 0 where
  pub marks : List Marks
  pub marks_are : AreMarks before (ids_of streams) marks
  pub plans : ArePlansOf marks streams plan
  pub own_ids : HasOwnIds plan
  pub keeps : KeepsDock before now
  pub same : dock_events now ≡ dock_events before

-- the load of the catalog was opened
pub record Opens (streams : List ConfStream) (before now : DockSeen) (opened : OpenedView) : Type 0 where
  pub catalog_is : opened.catalog ≡ streams
  pub marks : List Marks
  pub marks_are : AreMarks before (ids_of streams) marks
  pub plans : ArePlansOf marks streams opened.opening.plan
  pub opened_as : OpenedAs (record { load = opened.opening.load; moment = opened.opening.moment }) opened.opening.plan before.face.moment (dock_events before) (dock_events now)
  pub face : OpensFace opened.opening.plan before.face now.face
  pub grew : DockGrew before now
  pub rows_read : now.rows_read ≡ before.rows_read
  pub counts : now.counts ≡ record (before.counts) { store_faults = now.counts.store_faults }

-- a copy of the catalog, and room for so much
pub record HasRoom (streams : List ConfStream) (limits : Limits) (room : Room) : Type 0 where
  pub catalog_is : room.catalog ≡ streams
  pub columns_are : AreColumnsOf streams room.columns
  pub gate_is : room.gate ≡ record { kept = room.gate.kept; streams = length streams; next = 0; states = 0; record_room = 0; state_room = 0 }
  pub content : Stands (nothing_for (length streams)) room.gate
  pub queue_is : room.queue ≡ record { held = []; parked = None; streams = length streams; slots = limits.slots; bytes = limits.bytes; batch = limits.batch; next = 0; next_batch = 0 }
  pub statuses_are : room.statuses.items ≡ replicate (length streams) None
  pub shown_are : room.shown.items ≡ replicate (length streams) false
