-- For private clauses: a load that was opened, and how the rows of its streams are made.
use Rattle.std.specs.Prelude.{◌≡◌, ℕ, List, slice_get, Some}
use Rattle.outside.specs.declared.event.StreamPlan.{StreamPlan}
use Rattle.outside.specs.declared.load.Load.{Load}
use Rattle.batch_prep.specs.declared.item.PrepPlan.{PrepPlan}
use Rattle.catalog.specs.declared.stream.ConfStream.{ConfStream}
use Rattle.column_types.specs.Columns.{AreColumns}
use Rattle.column_types.specs.declared.column.Column.{Column}
use Rattle.load_rules.specs.Loads.{Opening}

pub record OpenedView : Type 0 where
  pub catalog : List ConfStream
  pub opening : Opening

-- the plan of this stream
pub record IsPrepPlan (opened : OpenedView) (number : ℕ) (plan : PrepPlan) : Type 0 where
  pub stream : ConfStream
  pub configured : slice_get opened.catalog number ≡ Some stream
  pub own : StreamPlan
  pub planned : slice_get opened.opening.plan number ≡ Some own
  pub columns : AreColumns stream.schema plan.columns
  pub is : plan ≡ record { stream = number; load = opened.opening.load; moment = opened.opening.moment; generation = own.generation; columns = plan.columns; key = stream.key; cursor = stream.cursor }

pub record IsNumbered (number : ℕ) (load : Load) (generation : ℕ) (plan : PrepPlan) : Type 0 where
  pub stream : plan.stream ≡ number
  pub load_is : plan.load ≡ load.load
  pub moment : plan.moment ≡ load.moment
  pub generation_is : plan.generation ≡ generation

pub record HasPlaces (columns : List Column) (stream : ConfStream) (plan : PrepPlan) : Type 0 where
  pub columns_are : plan.columns ≡ columns
  pub key : plan.key ≡ stream.key
  pub cursor : plan.cursor ≡ stream.cursor
