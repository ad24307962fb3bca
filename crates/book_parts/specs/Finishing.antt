-- For private clauses: one turn of a merge.
use Rattle.std.specs.Prelude.{ℕ, Bool, true, false, Result, Ok, Err}
use Rattle.outside.specs.Dock.{DockSeen}
use Rattle.dedup_merge.specs.declared.pages.MergeFault.{MergeFault}
use Rattle.dedup_merge.specs.declared.pages.Merged.TheVariants as merged
use Rattle.book_rules.specs.Finishes.{MergesOne, MergesTo}

-- a page was merged, and the answer is whether rows are left
abbrev pub NextMerge : Result Bool MergeFault → ℕ → ℕ → DockSeen → DockSeen → Type 0
NextMerge (Ok true) stream page old new = MergesOne (Ok merged.More) stream page old new
NextMerge (Ok false) stream page old new = MergesOne (Ok merged.Done) stream page old new
NextMerge (Err stop) stream page old new = MergesOne (Err stop) stream page old new

-- so many pages were merged so far
pub record MergesSoFar (stream page : ℕ) (old new : DockSeen) : Type 0 where
  pub count : ℕ
  pub merges : MergesTo count stream page old new
