use Rattle.std.proofs.Common.{◌∷◌, ◌++◌, [], List, ℕ, sym, ◌∙◌, ap, arith}
use Rattle.std.specs.Str.{bytes_eq}
use Rattle.outside.specs.declared.line.NumberedRow.{NumberedRow}
use Rattle.row_store.proofs.MemLemmas.{keeps}
use Rattle.row_store.proofs.mem_rows.copy_page.Goals as goal

pub loop-at-preserved-then-eq : goal.loop-at-preserved-then-eq
loop-at-preserved-then-eq c =
    let entry = c.index-entries-at.result in
    keeps c.args.entries.now c.args.table.now c.args.after c.args.most c.args.from c.loop-at.at c.loop-at.page c.push.new.self entry c.loop-at.invariant c.loop-at-test.true c.index-entries-at.is
    (ap (λ (name : List ℕ). bytes_eq name c.args.table.now) (sym c.as_str.ensures) ∙ sym c.if-eq.ensures) c.if-entry-after.true (omega (arith, c.len.ensures, c.if-len-most.true))
    (c.in_ok-push.ensures.ok ∙ ap (λ (row : NumberedRow). c.loop-at.page ++ row ∷ []) c.in_ok-copy.ensures.copied)
