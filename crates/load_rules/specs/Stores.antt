-- How the events of a store fit one another, whatever the catalogs of its loads: each behind those before it.
use Rattle.std.specs.Prelude.{◌≡◌, ℕ, ◌<◌, List, [], ◌∷◌, map, true, false, nat_lt, Some}
use Rattle.std.specs.List.{AllByRecursion}
use Rattle.outside.specs.Dock.{HasOwnIds}
use Rattle.outside.specs.Tables.{tables_of, plan_at}
use Rattle.outside.specs.declared.event.Event.{Event}
use Rattle.outside.specs.declared.event.Event.TheVariants.{Opened, Committed, Merged, Shown}
use Rattle.outside.specs.declared.event.RawRow.{RawRow}
use Rattle.outside.specs.declared.event.StreamPlan.{StreamPlan}
use Rattle.dedup_merge.specs.Merges.{FitsMerge}
use Rattle.load_rules.specs.Prefixes.{EachFits}
use Rattle.load_rules.specs.Taken.{is_in}
use Rattle.load_rules.specs.Loads.{Load, loads, committed_in}
use Rattle.load_rules.specs.Marks.{marks_of}

-- a stream is hidden where its minimum generation is above its floor
abbrev pub HidesRight : List Event → StreamPlan → Type 0
HidesRight before plan = plan.hidden ≡ nat_lt (marks_of before plan.id).floor plan.minimum

-- each load has a greater number than the one before, and names no stream twice
pub record OpenedFits (before : List Event) (load : ℕ) (plans : List StreamPlan) : Type 0 where
  pub later : (tables_of before).load < load
  pub own : HasOwnIds plans
  pub hidden : AllByRecursion (HidesRight before) plans

-- none of these is among those, and none stands here twice
abbrev pub AreNew : List ℕ → List ℕ → Type 0
AreNew old [] = Unit {0}
AreNew old (seq ∷ seqs) = (is_in seq old ≡ false) × AreNew (seq ∷ old) seqs

-- the sequences that the last load committed
abbrev pub last_committed : List Load → List ℕ
last_committed [] = []
last_committed (load ∷ older) = committed_in load.events

-- each row has the number of its load, and a sequence that no other row of that load has
pub record CommittedFits (before : List Event) (rows : List RawRow) : Type 0 where
  pub own : AllByRecursion (λ row. row.load ≡ (tables_of before).load) rows
  pub new : AreNew (last_committed (loads before)) (map (λ row. row.seq) rows)

-- a stream is shown that is hidden in its load and not shown yet
pub record ShownFits (before : List Event) (number : ℕ) : Type 0 where
  pub plan : StreamPlan
  pub planned : plan_at (tables_of before) number ≡ Some plan
  pub hidden : plan.hidden ≡ true

abbrev pub StoreFits : List Event → Event → Type 0
StoreFits before (Opened load moment plans) = OpenedFits before load plans
StoreFits before (Committed number rows) = CommittedFits before rows
StoreFits before (Merged number winners mark) = FitsMerge before number winners mark
StoreFits before (Shown number floor top) = ShownFits before number
StoreFits before event = Unit {0}

abbrev pub IsStoreRun : List Event → Type 0
IsStoreRun trace = EachFits StoreFits [] trace
