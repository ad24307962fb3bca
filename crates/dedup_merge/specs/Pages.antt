-- What a merge of one page does.
use Rattle.std.specs.Prelude.{◌≡◌, ◌≢◌, ◌⊎◌, ℕ, ◌+◌, List, [], ◌∷◌, ◌++◌, map, length, drop, option_to_list, slice_set, Option, IfSome, IsSome, Result, Ok, Err}
use Rattle.basics.specs.Told.{told_more}
use Rattle.outside.specs.declared.event.Event.TheVariants as event
use Rattle.outside.specs.declared.event.RawRow.{RawRow}
use Rattle.outside.specs.declared.table.Tables.{Tables}
use Rattle.outside.specs.Dock.{DockSeen, dock_events, tables}
use Rattle.outside.specs.declared.event.Event.{Event}
use Rattle.outside.specs.Tables.{page_of, plan_at, winners_at, tables_after, tables_of, row_of}
use Rattle.outside.specs.Winners.{put_winners, winner_in}
use Rattle.dedup_merge.specs.Winners.{WinsAmong, AreWinnersOf, rows_of_key, key_count}
use Rattle.dedup_merge.specs.Merges.{unmerged_at, parts_at, SideStands, HasOneOfAStamp, FitsMerge, MergesFit}
use Rattle.dedup_merge.specs.declared.pages.Merged.{Merged}
use Rattle.dedup_merge.specs.declared.pages.Merged.TheVariants as merged
use Rattle.dedup_merge.specs.declared.pages.MergeFault.{MergeFault}
use Rattle.dedup_merge.specs.declared.pages.MergeFault.TheVariants as fault

-- Of each key that the page has, the winner is now that among the winner before and the page's rows of the key. Every
-- other key keeps its winner.
abbrev pub NowWins : Option RawRow → List RawRow → Option RawRow → Type 0
NowWins before [] now = now ≡ before
NowWins before (row ∷ rows) now = WinsAmong (option_to_list before ++ row ∷ rows) now

abbrev pub TakesIn : List RawRow → List RawRow → List RawRow → Type 0
TakesIn page before now = (key : List ℕ) → NowWins (winner_in before key) (rows_of_key key page) (winner_in now key)

-- These winners take in the next page, and the mark moves over exactly that page: what was unmerged behind it is left,
-- and a side that stands with the rows merged before stands with these and the page.
pub record IsPageMerge (store : Tables) (stream most : ℕ) (written : List RawRow) (mark : ℕ) : Type 0 where
  pub mark_is : mark ≡ (page_of store stream most).mark
  pub winners : TakesIn (page_of store stream most).rows (winners_at store stream) (put_winners (winners_at store stream) written)
  pub left : unmerged_at (tables_after store (event.Merged stream written mark)) stream ≡ drop most (unmerged_at store stream)
  pub stands : (merged : List RawRow) → SideStands store stream merged → SideStands (tables_after store (event.Merged stream written mark)) stream (merged ++ (page_of store stream most).rows)

-- the merge fits behind events whose merges fit, where the stream is one of the load
abbrev pub FitsBehind : ℕ → List RawRow → ℕ → List Event → Type 0
FitsBehind stream written mark events = IsSome (plan_at (tables_of events) stream) → MergesFit events → FitsMerge events stream written mark

-- one merge was added, and nothing else
pub record MergesPage (stream most : ℕ) (old new : DockSeen) : Type 0 where
  pub written : List RawRow
  pub mark : ℕ
  pub added : dock_events new ≡ told_more (event.Merged stream written mark ∷ []) (dock_events old)
  pub merge : IfSome (tables old) (λ store. IsPageMerge store stream most written mark)
  pub fits : IfSome (dock_events old) (FitsBehind stream written mark)

-- The page was merged, and the side's mark is at its end. At a fault it was merged or not, and what is known of the
-- sides is that from before.
pub record PageDone (stream most : ℕ) (old new : DockSeen) : Type 0 where
  pub merges : MergesPage stream most old new
  pub face : new.face ≡ record (old.face) { side_marks = slice_set old.face.side_marks stream merges.mark }

pub record PageFailed (stream most : ℕ) (old new : DockSeen) : Type 0 where
  pub merges : (dock_events new ≡ dock_events old) ⊎ MergesPage stream most old new
  pub face : new.face ≡ old.face

pub record PageLeft (old new : DockSeen) : Type 0 where
  pub events : dock_events new ≡ dock_events old
  pub face : new.face ≡ old.face

abbrev pub PageAdds : Result Merged MergeFault → ℕ → ℕ → DockSeen → DockSeen → Type 0
PageAdds (Ok answer) stream most old new = PageDone stream most old new
PageAdds (Err fault.StoreFault) stream most old new = PageFailed stream most old new
PageAdds (Err fault.NoMemory) stream most old new = PageLeft old new

-- Rows that take part are left, or none is. Where none is, the winners of a side that stands are those of all rows that
-- take part, if rows with the same load and sequence are the same.
pub record IsMergedWhole (store : Tables) (stream : ℕ) : Type 0 where
  pub none_left : unmerged_at store stream ≡ []
  pub winners_are : (merged : List RawRow) → SideStands store stream merged → HasOneOfAStamp (map row_of (parts_at store stream)) → AreWinnersOf (map row_of (parts_at store stream)) (winners_at store stream)

abbrev pub IsAnswer : Merged → Tables → ℕ → Type 0
IsAnswer merged.More store stream = unmerged_at store stream ≢ []
IsAnswer merged.Done store stream = IsMergedWhole store stream

-- the page's rows, and one winner for each key among them
abbrev pub rows_of_page : Tables → ℕ → ℕ → ℕ
rows_of_page store stream most = length (page_of store stream most).rows + key_count (page_of store stream most).rows
