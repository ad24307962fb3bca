use Rattle.std.proofs.Common.{◌∙◌, ◌+◌, List, Some, slice_get, length, ap, subst, arith, ◌≡◌}
use Rattle.std.specs.Ordering.{is_ne}
use Rattle.table_source.specs.declared.keyed.KeyedRow.{KeyedRow}
use Rattle.table_source.proofs.RowLemmas.{closes_end, closes_next, length_rows, some_at}
use Rattle.table_source.proofs.table_rows.TableRowsListedRows.closes.Goals as goal

pub overflow_add-next : goal.overflow_add-next
overflow_add-next c = omega (arith, c.len-count.ensures, c.len-count.type_inv, c.requires, length_rows c.args.self.now, ap length c.self.view_is)

pub returns-then-next-count : goal.returns-then-next-count
returns-then-next-count c row made =
    let last : c.args.place + 1 ≡ length c.args.self.now = c.if-next-count.true ∙ c.len-count.ensures ∙ ap length c.self.view_is in
    let found = some_at c.args.self.now c.args.place (omega (arith, last)) in
    closes_end c.args.self.now c.args.place found.0 row found.1 made last

pub at-requires : goal.at-requires
at-requires c = omega (arith, c.requires, length_rows c.args.self.now, ap length c.self.view_is)

pub at-requires-2 : goal.at-requires-2
at-requires-2 c = omega (arith, c.if-next-count.false, c.len-count.ensures, c.requires, length_rows c.args.self.now, ap length c.self.view_is)

pub returns : goal.returns
returns c row made =
    let here = subst (λ (rows : List KeyedRow). slice_get rows c.args.place ≡ Some c.at.result.now) c.self.view_is c.at.ensures in
    let after = subst (λ (rows : List KeyedRow). slice_get rows (c.args.place + 1) ≡ Some c.at-2.result.now) c.self.view_is c.at-2.ensures in
    let differs = closes_next c.args.self.now c.args.place c.at.result.now c.at-2.result.now row here after made in
    c.is_ne.ensures ∙ ap is_ne c.compare_values.ensures ∙ differs
