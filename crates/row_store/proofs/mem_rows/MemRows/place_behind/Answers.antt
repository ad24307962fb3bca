use Rattle.std.proofs.Common.{◌≡◌, ◌<◌, ◌-◌, sym, ◌∙◌, ap, subst, arith, List, ℕ, length, slice_get, get_or, Option, Some}
use Rattle.std.specs.Str.{bytes_eq}
use Rattle.std.proofs.lemmas.Option.{slice_get-get_or}
use Rattle.row_store.specs.MemRows.{RowsState, AreTables}
use Rattle.row_store.specs.declared.mem_rows.TableRow.{TableRow}
use Rattle.row_store.proofs.MemLemmas.{behind}
use Rattle.row_store.proofs.mem_rows.MemRows.place_behind.Goals as goal

pub returns-then-eq-clause-same : goal.returns-then-eq-clause-same
returns-then-eq-clause-same c =
    let entry = c.index-entries-self.result in
    let entries = c.args.self.now.entries in
    let same : c.self.inside.entries ≡ entries = ap (λ (s : RowsState). s.entries) c.self.view_is in
    let all : AreTables entries = subst (λ (es : List TableRow). AreTables es) same c.self.invariant in
    let place = c.self.inside.given - 1 in
    let listed : c.as_slice-entries.result.now ≡ entries = c.as_slice-entries.ensures ∙ same in
    let within : place < length entries = omega (arith, c.if-self-eq0.false, c.if-self-entries.false, ap length listed) in
    let found : slice_get entries (c.self.inside.given - 1) ≡ Some entry = slice_get-get_or entries place entry within ∙ ap (λ (e : TableRow). let o : Option TableRow = Some e in o) (ap (λ (es : List TableRow). get_or es place entry) (sym listed) ∙ sym c.index-entries-self.is) in
    behind c.args.table.now entries c.args.after c.self.inside.given entry (all c.args.table.now) (omega (arith, c.if-self-eq0.false)) found
    (ap (λ (name : List ℕ). bytes_eq name c.args.table.now) (sym c.as_str.ensures) ∙ sym c.if-eq.ensures) c.if-last-after.true
