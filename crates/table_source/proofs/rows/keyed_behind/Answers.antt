use Rattle.std.proofs.Common.{◌∙◌, ℕ, ap, subst, sym, append-nil, true, false}
use Rattle.table_source.specs.Table.{IsFirstUnfit}
use Rattle.table_source.proofs.ListLemmas.{more, unfit_at, unfit_id}
use Rattle.table_source.proofs.rows.keyed_behind.Goals as goal
use Rattle.table_source.proofs.rows.keyed_behind.Goals.{then-stands_behind+in_ok-push-in-Some, else-stands_behind}

pub returns-in-None-clause-unfit : goal.returns-in-None-clause-unfit
returns-in-None-clause-unfit c =
    let none = rw c.in-None.is at c.in_ok-keyed.ensures.none in
    λ id same. subst (λ (n : ℕ). IsFirstUnfit c.args.rows.now n) (ap unfit_id same)
    (unfit_at c.args.keying.now c.args.behind.now c.args.rows.now c.loop-row.row-index c.row-item.result c.loop-row.kept c.loop-row-test.true c.row-item.is none c.loop-row.invariant)

pub loop-row-preserved : goal.loop-row-preserved
loop-row-preserved c =
    let keyed = rw c.in-Some.is at c.in_ok-keyed.ensures.keyed in
    elim c.if-stands_behind.branch [
      | then-stands_behind+in_ok-push-in-Some w ↦
          more c.args.keying.now c.args.behind.now c.args.rows.now c.loop-row.row-index c.row-item.result c.loop-row.kept c.if-stands_behind.kept c.in-Some.keyed true
          c.loop-row-test.true c.row-item.is keyed (sym c.stands_behind.ensures ∙ w.if-stands_behind.true) (w.kept-is ∙ w.in_ok-push-in-Some.ensures.ok) c.loop-row.invariant
      | else-stands_behind w ↦
          more c.args.keying.now c.args.behind.now c.args.rows.now c.loop-row.row-index c.row-item.result c.loop-row.kept c.if-stands_behind.kept c.in-Some.keyed false
          c.loop-row-test.true c.row-item.is keyed (sym c.stands_behind.ensures ∙ w.if-stands_behind.false) (w.kept-is ∙ sym (append-nil c.loop-row.kept)) c.loop-row.invariant
    ]
