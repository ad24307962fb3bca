use Rattle.std.proofs.Common.{◌≡◌, ◌*◌, ℕ, List, [], ◌∷◌, Option, Result, Ok, Err, ap, sym, ◌∙◌, subst}
use Rattle.std.specs.Prelude.{IfSome, option_map, slice_set, slice_index, IsErr, IsErrAnd}
use Rattle.basics.specs.Told.{told_more}
use Rattle.outside.specs.Dock.{DockFace, DockSeen, dock_events, tables, ReadAtMost}
use Rattle.outside.specs.Link.{AddsOn}
use Rattle.outside.specs.declared.fault.Fault.{Fault}
use Rattle.dedup_merge.specs.Faults.{fault_of}
use Rattle.dedup_merge.specs.Pages.{PageAdds}
use Rattle.dedup_merge.specs.declared.pages.MergeFault.{MergeFault}
use Rattle.dedup_merge.specs.declared.pages.Merged.{Merged as Merges}
use Rattle.outside.specs.Tables.{tables_of}
use Rattle.outside.specs.Winners.{put_winners}
use Rattle.outside.specs.declared.event.Event.{Event}
use Rattle.outside.specs.declared.event.Event.TheVariants.{Merged}
use Rattle.outside.specs.declared.event.RawRow.{RawRow}
use Rattle.outside.proofs.DockLaws.{dock_grew_trans}
use Rattle.dedup_merge.specs.Steps.{side_of_store}
use Rattle.dedup_merge.specs.Pages.{TakesIn}
use Rattle.dedup_merge.proofs.PageLemmas.{page_reads, page_merge, page_behind, page_failed, answer_more, answer_done}
use Rattle.dedup_merge.proofs.pages.merge_page.Goals as goal

pub returns-in_err-winners-clause-grew : goal.returns-in_err-winners-clause-grew
returns-in_err-winners-clause-grew g c = dock_grew_trans (g.D.Dock.seen c.args.dock.now) (g.D.Dock.seen c.read_unmerged.new.self) (g.D.Dock.seen c.winners_of_page.new.dock) c.read_unmerged.ensures.grew c.winners_of_page.ensures.only.grew

pub returns-in_err-winners-clause-rows_capped : goal.returns-in_err-winners-clause-rows_capped
returns-in_err-winners-clause-rows_capped g c = page_reads c.in_ok-next.next c.as_slice.result.now (slice_index (g.D.Dock.seen c.args.dock.now).face.side_marks c.args.stream) c.args.page (g.D.Dock.seen c.args.dock.now).rows_read (g.D.Dock.seen c.read_unmerged.new.self).rows_read (g.D.Dock.seen c.winners_of_page.new.dock).rows_read c.in_ok-next.ensures.is_page c.in_ok-next.ensures.rows_read c.as_slice.ensures c.winners_of_page.ensures.read

pub returns-in_err-merge-clause-grew : goal.returns-in_err-merge-clause-grew
returns-in_err-merge-clause-grew g c = dock_grew_trans (g.D.Dock.seen c.args.dock.now) (g.D.Dock.seen c.winners_of_page.new.dock) (g.D.Dock.seen c.merge.new.self) (dock_grew_trans (g.D.Dock.seen c.args.dock.now) (g.D.Dock.seen c.read_unmerged.new.self) (g.D.Dock.seen c.winners_of_page.new.dock) c.read_unmerged.ensures.grew c.winners_of_page.ensures.only.grew) c.merge.ensures.grew

pub returns-in_err-merge-clause-rows_capped : goal.returns-in_err-merge-clause-rows_capped
returns-in_err-merge-clause-rows_capped g c = subst (λ n. ReadAtMost (2 * c.args.page) (g.D.Dock.seen c.args.dock.now).rows_read n) (sym c.merge.ensures.rows_read) (page_reads c.in_ok-next.next c.as_slice.result.now (slice_index (g.D.Dock.seen c.args.dock.now).face.side_marks c.args.stream) c.args.page (g.D.Dock.seen c.args.dock.now).rows_read (g.D.Dock.seen c.read_unmerged.new.self).rows_read (g.D.Dock.seen c.winners_of_page.new.dock).rows_read c.in_ok-next.ensures.is_page c.in_ok-next.ensures.rows_read c.as_slice.ensures c.winners_of_page.ensures.read)

pub returns-then-next-clause-grew : goal.returns-then-next-clause-grew
returns-then-next-clause-grew g c = dock_grew_trans (g.D.Dock.seen c.args.dock.now) (g.D.Dock.seen c.winners_of_page.new.dock) (g.D.Dock.seen c.merge.new.self) (dock_grew_trans (g.D.Dock.seen c.args.dock.now) (g.D.Dock.seen c.read_unmerged.new.self) (g.D.Dock.seen c.winners_of_page.new.dock) c.read_unmerged.ensures.grew c.winners_of_page.ensures.only.grew) c.merge.ensures.grew

pub returns-then-next-clause-rows_capped : goal.returns-then-next-clause-rows_capped
returns-then-next-clause-rows_capped g c = subst (λ n. ReadAtMost (2 * c.args.page) (g.D.Dock.seen c.args.dock.now).rows_read n) (sym c.merge.ensures.rows_read) (page_reads c.in_ok-next.next c.as_slice.result.now (slice_index (g.D.Dock.seen c.args.dock.now).face.side_marks c.args.stream) c.args.page (g.D.Dock.seen c.args.dock.now).rows_read (g.D.Dock.seen c.read_unmerged.new.self).rows_read (g.D.Dock.seen c.winners_of_page.new.dock).rows_read c.in_ok-next.ensures.is_page c.in_ok-next.ensures.rows_read c.as_slice.ensures c.winners_of_page.ensures.read)

pub returns-then-next-clause-merges : goal.returns-then-next-clause-merges
returns-then-next-clause-merges g c =
    let old = g.D.Dock.seen c.args.dock.now in
    let read = g.D.Dock.seen c.read_unmerged.new.self in
    let mid = g.D.Dock.seen c.winners_of_page.new.dock in
    let next = c.in_ok-next.next in
    let written = c.in_ok-winners.winners in
    let events : dock_events mid ≡ dock_events old = c.winners_of_page.ensures.only.events ∙ c.read_unmerged.ensures.events in
    let face : mid.face ≡ old.face = c.winners_of_page.ensures.only.face ∙ c.read_unmerged.ensures.face in
    let side : side_of_store c.args.stream (tables read) ≡ side_of_store c.args.stream (tables old) = ap (λ (es : Option (List Event)). side_of_store c.args.stream (option_map tables_of es)) c.read_unmerged.ensures.events in
    let merge = page_merge (dock_events old) c.args.stream c.args.page next c.as_slice.result.now written c.in_ok-next.ensures.page c.as_slice.ensures (subst (λ (s : Option (List RawRow)). IfSome s (λ before. TakesIn c.as_slice.result.now before (put_winners before written))) side c.in_ok-winners.ensures.winners) in
    record {
      merges = record {
        written = written;
        mark = next.mark;
        added = c.in_ok-merge.ensures.events ∙ ap (λ (es : Option (List Event)). told_more (Merged c.args.stream written next.mark ∷ []) es) events;
        merge = merge;
        fits = page_behind (dock_events old) c.args.stream c.args.page next written c.in_ok-next.ensures.page merge;
      };
      face = c.in_ok-merge.ensures.face ∙ ap (λ (f : DockFace). record f { side_marks = slice_set f.side_marks c.args.stream next.mark }) face;
    }

pub returns-clause-grew : goal.returns-clause-grew
returns-clause-grew g c = dock_grew_trans (g.D.Dock.seen c.args.dock.now) (g.D.Dock.seen c.winners_of_page.new.dock) (g.D.Dock.seen c.merge.new.self) (dock_grew_trans (g.D.Dock.seen c.args.dock.now) (g.D.Dock.seen c.read_unmerged.new.self) (g.D.Dock.seen c.winners_of_page.new.dock) c.read_unmerged.ensures.grew c.winners_of_page.ensures.only.grew) c.merge.ensures.grew

pub returns-clause-rows_capped : goal.returns-clause-rows_capped
returns-clause-rows_capped g c = subst (λ n. ReadAtMost (2 * c.args.page) (g.D.Dock.seen c.args.dock.now).rows_read n) (sym c.merge.ensures.rows_read) (page_reads c.in_ok-next.next c.as_slice.result.now (slice_index (g.D.Dock.seen c.args.dock.now).face.side_marks c.args.stream) c.args.page (g.D.Dock.seen c.args.dock.now).rows_read (g.D.Dock.seen c.read_unmerged.new.self).rows_read (g.D.Dock.seen c.winners_of_page.new.dock).rows_read c.in_ok-next.ensures.is_page c.in_ok-next.ensures.rows_read c.as_slice.ensures c.winners_of_page.ensures.read)

pub returns-clause-merges : goal.returns-clause-merges
returns-clause-merges g c =
    let old = g.D.Dock.seen c.args.dock.now in
    let read = g.D.Dock.seen c.read_unmerged.new.self in
    let mid = g.D.Dock.seen c.winners_of_page.new.dock in
    let next = c.in_ok-next.next in
    let written = c.in_ok-winners.winners in
    let events : dock_events mid ≡ dock_events old = c.winners_of_page.ensures.only.events ∙ c.read_unmerged.ensures.events in
    let face : mid.face ≡ old.face = c.winners_of_page.ensures.only.face ∙ c.read_unmerged.ensures.face in
    let side : side_of_store c.args.stream (tables read) ≡ side_of_store c.args.stream (tables old) = ap (λ (es : Option (List Event)). side_of_store c.args.stream (option_map tables_of es)) c.read_unmerged.ensures.events in
    let merge = page_merge (dock_events old) c.args.stream c.args.page next c.as_slice.result.now written c.in_ok-next.ensures.page c.as_slice.ensures (subst (λ (s : Option (List RawRow)). IfSome s (λ before. TakesIn c.as_slice.result.now before (put_winners before written))) side c.in_ok-winners.ensures.winners) in
    record {
      merges = record {
        written = written;
        mark = next.mark;
        added = c.in_ok-merge.ensures.events ∙ ap (λ (es : Option (List Event)). told_more (Merged c.args.stream written next.mark ∷ []) es) events;
        merge = merge;
        fits = page_behind (dock_events old) c.args.stream c.args.page next written c.in_ok-next.ensures.page merge;
      };
      face = c.in_ok-merge.ensures.face ∙ ap (λ (f : DockFace). record f { side_marks = slice_set f.side_marks c.args.stream next.mark }) face;
    }

pub returns-then-next-clause-answer : goal.returns-then-next-clause-answer
returns-then-next-clause-answer g c =
    let old = g.D.Dock.seen c.args.dock.now in
    let next = c.in_ok-next.next in
    let written = c.in_ok-winners.winners in
    let events : dock_events (g.D.Dock.seen c.winners_of_page.new.dock) ≡ dock_events old = c.winners_of_page.ensures.only.events ∙ c.read_unmerged.ensures.events in
    answer_more (dock_events old) (dock_events (g.D.Dock.seen c.merge.new.self)) c.args.stream c.args.page next written (c.in_ok-merge.ensures.events ∙ ap (λ (es : Option (List Event)). told_more (Merged c.args.stream written next.mark ∷ []) es) events) c.in_ok-next.ensures.page c.if-next.true

pub returns-clause-answer : goal.returns-clause-answer
returns-clause-answer g c =
    let old = g.D.Dock.seen c.args.dock.now in
    let next = c.in_ok-next.next in
    let written = c.in_ok-winners.winners in
    let events : dock_events (g.D.Dock.seen c.winners_of_page.new.dock) ≡ dock_events old = c.winners_of_page.ensures.only.events ∙ c.read_unmerged.ensures.events in
    answer_done (dock_events old) (dock_events (g.D.Dock.seen c.merge.new.self)) c.args.stream c.args.page next written (c.in_ok-merge.ensures.events ∙ ap (λ (es : Option (List Event)). told_more (Merged c.args.stream written next.mark ∷ []) es) events) c.in_ok-next.ensures.page c.if-next.false

failed_by : (result : Result Merges MergeFault) (why : Fault) (stream page : ℕ) (old new : DockSeen) → IsErr result → IsErrAnd result (λ fault. fault ≡ fault_of why) → PageAdds (Err (fault_of why)) stream page old new → PageAdds result stream page old new
failed_by (Ok answer) why stream page old new failed is adds = absurd (cc)
failed_by (Err fault) why stream page old new failed is adds = subst (λ (f : MergeFault). PageAdds (Err f) stream page old new) (sym is) adds

pub returns-in_err-merge-clause-merges : goal.returns-in_err-merge-clause-merges
returns-in_err-merge-clause-merges g c =
    let old = g.D.Dock.seen c.args.dock.now in
    let read = g.D.Dock.seen c.read_unmerged.new.self in
    let mid = g.D.Dock.seen c.winners_of_page.new.dock in
    let new = g.D.Dock.seen c.merge.new.self in
    let next = c.in_ok-next.next in
    let written = c.in_ok-winners.winners in
    let events : dock_events mid ≡ dock_events old = c.winners_of_page.ensures.only.events ∙ c.read_unmerged.ensures.events in
    let face : mid.face ≡ old.face = c.winners_of_page.ensures.only.face ∙ c.read_unmerged.ensures.face in
    let side : side_of_store c.args.stream (tables read) ≡ side_of_store c.args.stream (tables old) = ap (λ (es : Option (List Event)). side_of_store c.args.stream (option_map tables_of es)) c.read_unmerged.ensures.events in
    let merge = page_merge (dock_events old) c.args.stream c.args.page next c.as_slice.result.now written c.in_ok-next.ensures.page c.as_slice.ensures (subst (λ (s : Option (List RawRow)). IfSome s (λ before. TakesIn c.as_slice.result.now before (put_winners before written))) side c.in_ok-winners.ensures.winners) in
    let why : Fault = c.in_err-merge.field-0.0 in
    let adds : AddsOn {T = Unit {0}} (Err why) (Merged c.args.stream written next.mark) (dock_events old) (dock_events new) = subst (λ (es : Option (List Event)). AddsOn {T = Unit {0}} (Err why) (Merged c.args.stream written next.mark) es (dock_events new)) events c.in_err-merge.ensures.events in
    failed_by c.from_residual-in_err-merge.result why c.args.stream c.args.page old new c.from_residual-in_err-merge.ensures.0 c.from_residual-in_err-merge.ensures.1 (page_failed why c.args.stream c.args.page next.mark written old new adds (c.in_err-merge.ensures.face ∙ face) merge (page_behind (dock_events old) c.args.stream c.args.page next written c.in_ok-next.ensures.page merge))
