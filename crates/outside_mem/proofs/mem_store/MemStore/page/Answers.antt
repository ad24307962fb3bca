use Rattle.std.proofs.Common.{List, ◌<◌, length, slice_index, map, subst}
use Rattle.outside.specs.Dock.{IsPage, event_of}
use Rattle.outside.specs.Tables.{side_marks_of, page_of}
use Rattle.outside_mem.specs.MemDock.{ToldEvent, trace_tables}
use Rattle.outside_mem.proofs.StoreLemmas.{page_known, store_rises}
use Rattle.outside_mem.proofs.mem_store.MemStore.page.Goals as goal

pub returns-clause-known : goal.returns-clause-known
returns-clause-known c = subst (λ (t : List ToldEvent). c.args.stream < length (side_marks_of (trace_tables t)) → IsPage (slice_index (side_marks_of (trace_tables t)) c.args.stream) c.args.most (page_of (trace_tables t) c.args.stream c.args.most)) c.self.view_is (page_known c.self.inside.tables c.self.inside.input_over c.self.inside.trace c.args.stream c.args.most c.self.invariant c.requires)

pub read_page-requires : goal.read_page-requires
read_page-requires c = store_rises c.self.inside.tables c.self.inside.input_over (map event_of c.self.inside.trace) c.self.invariant
