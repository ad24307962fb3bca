-- How a book is started.
use Rattle.std.specs.Prelude.{◌≡◌, ◌⊎◌, ℕ, ◌<◌, List, [], ◌∷◌, map, length, replicate, slice_get, nat_lt, false, None, Some, IfSome}
use Rattle.basics.specs.Told.{Rose}
use Rattle.basics.specs.declared.stream.StreamId.{StreamId}
use Rattle.outside.specs.Dock.{DockSeen, DockGrew, OpensFace, OpenedAs, dock_events, tables, AddsOpened}
use Rattle.outside.specs.Tables.{marks_in}
use Rattle.outside.specs.declared.event.StreamPlan.{StreamPlan}
use Rattle.outside.specs.declared.faults.CatalogFault.{CatalogFault}
use Rattle.outside.specs.declared.faults.CatalogFault.TheVariants.{GenerationsSpent}
use Rattle.outside.specs.declared.load.Limits.{Limits}
use Rattle.outside.specs.declared.load.Marks.{Marks}
use Rattle.outside.specs.declared.status.Status.{Status}
use Rattle.outside.specs.declared.status.Status.TheVariants as status
use Rattle.catalog.specs.Reading.{ids_of}
use Rattle.catalog.specs.declared.modes.DestMode.TheVariants.{Overwrite}
use Rattle.catalog.specs.declared.stream.ConfStream.{ConfStream}
use Rattle.catalog.specs.declared.stream.Gen.{Gen}
use Rattle.column_types.specs.Columns.{AreColumns}
use Rattle.column_types.specs.declared.column.Column.{Column}
use Rattle.state_gate.specs.Content.{nothing_for}
use Rattle.state_gate.specs.Views.{Stands}
use Rattle.generation_rules.specs.Generations.{next_of}
use Rattle.load_rules.specs.Engine.{HasGeneration, PlanFits}
use Rattle.book_rules.specs.Views.{BookView}

-- the marks that the store has of these streams, in their order
pub record AreMarks (seen : DockSeen) (ids : List StreamId) (marks : List Marks) : Type 0 where
  pub one_each : length marks ≡ length ids
  pub told : IfSome (tables seen) (λ store. marks ≡ map (marks_in store) ids)

-- no generation is left for a stream that is to have one above all others
pub record LacksGeneration (marks : Marks) (stream : ConfStream) : Type 0 where
  pub absent : stream.generation ≡ None
  pub overwrites : stream.dest ≡ Overwrite
  pub spent : next_of None marks.greatest ≡ None

-- the plan of a stream, by the marks that the store has of it
pub record IsPlanOf (marks : Marks) (stream : ConfStream) (plan : StreamPlan) : Type 0 where
  pub fits : PlanFits stream plan
  pub has : HasGeneration marks stream plan stream.generation
  pub hidden : plan.hidden ≡ nat_lt marks.floor plan.minimum

abbrev pub ArePlansOf : List Marks → List ConfStream → List StreamPlan → Type 0
ArePlansOf [] [] [] = Unit {0}
ArePlansOf (mark ∷ marks) (stream ∷ streams) (plan ∷ plans) = IsPlanOf mark stream plan × ArePlansOf marks streams plans
ArePlansOf _ _ _ = ⊥

-- the plan has these generations of the stream
abbrev pub HasGens : Marks → ConfStream → Gen → Type 0
HasGens marks stream gen = HasGeneration marks stream (record { id = stream.id; dedup = false; generation = gen.generation; minimum = gen.minimum; hidden = false }) stream.generation

-- the first stream for which no generation is left
pub record LacksAt (number : ℕ) (marks : List Marks) (streams : List ConfStream) : Type 0 where
  pub mark : Marks
  pub marked : slice_get marks number ≡ Some mark
  pub stream : ConfStream
  pub configured : slice_get streams number ≡ Some stream
  pub lacks : LacksGeneration mark stream
  pub others : (other : ℕ) (one : Marks) (before : ConfStream) → other < number → slice_get marks other ≡ Some one → slice_get streams other ≡ Some before → ¬ LacksGeneration one before

abbrev pub LacksFirst : CatalogFault → List Marks → List ConfStream → Type 0
LacksFirst (GenerationsSpent number) marks streams = LacksAt number marks streams
LacksFirst _ marks streams = ⊥

abbrev pub AreColumnsOf : List ConfStream → List (List Column) → Type 0
AreColumnsOf [] [] = Unit {0}
AreColumnsOf (stream ∷ streams) (columns ∷ more) = AreColumns stream.schema columns × AreColumnsOf streams more
AreColumnsOf _ _ = ⊥

-- The load that was opened has the catalog's plan, and the book is new.
pub record Starts (streams : List ConfStream) (limits : Limits) (before : DockSeen) (book : BookView) : Type 0 where
  pub marks : List Marks
  pub marks_are : AreMarks before (ids_of streams) marks
  pub plans : ArePlansOf marks streams book.opening.plan
  pub opened : OpenedAs (record { load = book.opening.load; moment = book.opening.moment }) book.opening.plan before.face.moment (dock_events before) (dock_events book.seen)
  pub face : OpensFace book.opening.plan before.face book.seen.face
  pub grew : DockGrew before book.seen
  pub rows_read : book.seen.rows_read ≡ before.rows_read
  pub counts : book.seen.counts ≡ record (before.counts) { store_faults = book.seen.counts.store_faults }
  pub catalog : book.catalog ≡ streams
  pub limits_are : book.limits ≡ limits
  pub queue : book.queue ≡ record { held = []; parked = None; streams = length streams; slots = limits.slots; bytes = limits.bytes; batch = limits.batch; next = 0; next_batch = 0 }
  pub gate : Stands (nothing_for (length streams)) book.gate
  pub gate_is : book.gate ≡ record { kept = book.gate.kept; streams = length streams; next = 0; states = 0; record_room = 0; state_room = 0 }
  pub tally : book.tally ≡ record { lines = 0; emitted = 0; lanes = None; is_ended = false; broken = None }
  pub statuses : book.statuses ≡ replicate (length streams) None
  pub shown : book.shown ≡ replicate (length streams) false

-- a start that is refused has read marks, and opened a load at most
pub record KeepsDock (before now : DockSeen) : Type 0 where
  pub grew : DockGrew before now
  pub face : now.face ≡ before.face
  pub rows_read : now.rows_read ≡ before.rows_read
  pub counts : now.counts ≡ record (before.counts) { store_faults = now.counts.store_faults }

-- the load of these streams and their marks was opened
pub record OpenedFor (streams : List ConfStream) (before now : DockSeen) : Type 0 where
  pub marks : List Marks
  pub marks_are : AreMarks before (ids_of streams) marks
  pub plan : List StreamPlan
  pub plans : ArePlansOf marks streams plan
  pub added : AddsOpened plan before.face.moment (dock_events before) (dock_events now)

-- why none was started: at StoreFault the count rose, and the load may have been opened
abbrev pub RefusedFor : Status → List ConfStream → DockSeen → DockSeen → Type 0
RefusedFor (status.BadCatalog why) streams before now = (marks : List Marks) × AreMarks before (ids_of streams) marks × LacksFirst why marks streams × (dock_events now ≡ dock_events before)
RefusedFor status.StoreFault streams before now = Rose before.counts.store_faults now.counts.store_faults × ((dock_events now ≡ dock_events before) ⊎ OpenedFor streams before now)
RefusedFor status.NoMemory streams before now = dock_events now ≡ dock_events before
RefusedFor _ streams before now = ⊥

abbrev pub RefusedBy : Status → List ConfStream → DockSeen → DockSeen → Type 0
RefusedBy stop streams before now = RefusedFor stop streams before now × KeepsDock before now
