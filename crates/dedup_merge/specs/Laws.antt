-- Laws of merges.
use Rattle.std.specs.Prelude.{◌≡◌, ℕ, ◌≤◌, List, [], ◌∷◌, map}
use Rattle.outside.specs.declared.event.Event.{Event}
use Rattle.outside.specs.declared.event.RawRow.{RawRow}
use Rattle.outside.specs.declared.table.Tables.{Tables}
use Rattle.outside.specs.declared.event.Event.TheVariants.{Merged}
use Rattle.outside.specs.Tables.{tables_of, tables_after, winners_at, row_of}
use Rattle.dedup_merge.specs.Winners.{AreWinnersOf}
use Rattle.dedup_merge.specs.Merges.{SideStands, HasOneOfAStamp, HasWinners, MergesFit, FitsMerge, unmerged_at, parts_at, mark_at}
use Rattle.dedup_merge.specs.Pages.{IsPageMerge}
use Rattle.dedup_merge.specs.Examples.{two_row_events, exceeded_row}

-- Behind events whose merges fit, the winners of the load's side are those of all rows that were merged into it, and
-- its mark is at most the number of committed rows.
pub record SideIsMerged (events : List Event) (stream : ℕ) : Type 0 where
  pub winners_are : HasWinners events stream
  pub within : mark_at (tables_of events) stream ≤ (tables_of events).places

abbrev pub FittingMergesHaveWinners : Type 0
FittingMergesHaveWinners = (events : List Event) (stream : ℕ) → MergesFit events → SideIsMerged events stream

-- Where a side stands and no row is left to merge, its winners are those of all rows that take part, if rows with the
-- same load and sequence are the same.
abbrev pub AllMerged : Type 0
AllMerged = (store : Tables) (stream : ℕ) (merged : List RawRow) → SideStands store stream merged → unmerged_at store stream ≡ [] → HasOneOfAStamp (map row_of (parts_at store stream)) → AreWinnersOf (map row_of (parts_at store stream)) (winners_at store stream)

-- One merge of a page: how many rows it merges at most, the winners it writes, and its mark
pub record PageMerge : Type 0 where
  pub most : ℕ
  pub written : List RawRow
  pub mark : ℕ

-- pages of a stream that were merged one after another, from one store to another
abbrev pub ArePageMerges : ℕ → Tables → List PageMerge → Tables → Type 0
ArePageMerges stream store [] last = last ≡ store
ArePageMerges stream store (page ∷ pages) last = IsPageMerge store stream page.most page.written page.mark × ArePageMerges stream (tables_after store (Merged stream page.written page.mark)) pages last

-- So behind any number of pages, whatever their sizes: where nothing is left, the winners are those of all rows that
-- take part.
abbrev pub PagesMergeAll : Type 0
PagesMergeAll = (store last : Tables) (stream : ℕ) (merged : List RawRow) (pages : List PageMerge) → SideStands store stream merged → ArePageMerges stream store pages last → unmerged_at last stream ≡ [] → HasOneOfAStamp (map row_of (parts_at last stream)) → AreWinnersOf (map row_of (parts_at last stream)) (winners_at last stream)

-- Of two rows of one key, the merge of the one that the other exceeds does not fit.
abbrev pub ExceededRowDoesNotFit : Type 0
ExceededRowDoesNotFit = FitsMerge two_row_events 0 (exceeded_row ∷ []) 2 → ⊥
