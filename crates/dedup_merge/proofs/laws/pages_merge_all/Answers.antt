use Rattle.std.proofs.Common.{◌≡◌, ℕ, List, [], ◌∷◌, ◌++◌, map, sym, subst}
use Rattle.outside.specs.declared.event.Event.TheVariants.{Merged}
use Rattle.outside.specs.declared.event.RawRow.{RawRow}
use Rattle.outside.specs.declared.table.Tables.{Tables}
use Rattle.outside.specs.Tables.{tables_after, page_of, winners_at, row_of}
use Rattle.dedup_merge.specs.Winners.{AreWinnersOf}
use Rattle.dedup_merge.specs.Merges.{SideStands, HasOneOfAStamp, unmerged_at, parts_at}
use Rattle.dedup_merge.specs.Laws.{PageMerge, ArePageMerges}
use Rattle.dedup_merge.proofs.StandLemmas.{all_merged}
use Rattle.dedup_merge.proofs.laws.pages_merge_all.Goals as goal

-- page by page
by_pages : (store last : Tables) (stream : ℕ) (merged : List RawRow) (pages : List PageMerge) → SideStands store stream merged → ArePageMerges stream store pages last → unmerged_at last stream ≡ [] → HasOneOfAStamp (map row_of (parts_at last stream)) → AreWinnersOf (map row_of (parts_at last stream)) (winners_at last stream)
by_pages store last stream merged [] stands same none stamps = all_merged last stream merged (subst (λ (t : Tables). SideStands t stream merged) (sym same) stands) none stamps
by_pages store last stream merged (page ∷ pages) stands are none stamps = by_pages (tables_after store (Merged stream page.written page.mark)) last stream (merged ++ (page_of store stream page.most).rows) pages (are.0.stands merged stands) are.1 none stamps

pub returns : goal.returns
returns c = by_pages
