use Rattle.std.proofs.Common.{inl, inr, get_or, ap, sym, ◌∙◌, ◌⊎◌, ◌≤◌, length}
use Rattle.value_order.specs.Order.{order_of}
use Rattle.table_source.specs.declared.keyed.RowPart.{RowPart}
use Rattle.table_source.proofs.CompareLemmas.{by_parts, differs, ends}
use Rattle.table_source.proofs.keyed.compare_parts.Goals as goal
use Rattle.table_source.proofs.keyed.compare_parts.Goals.{then-loop-at-test+else-at-b, else-loop-at-test}

pub returns-in_default : goal.returns-in_default
returns-in_default c =
    c.compare.ensures
    ∙ sym (differs (λ (x y : RowPart). order_of x.value y.value) c.args.a.now c.args.b.now c.loop-at.at (get_or c.args.a.now c.loop-at.at c.index-a-at.result) (get_or c.args.b.now c.loop-at.at c.index-b-at.result)
    c.loop-at-test.true (ap (get_or c.args.a.now c.loop-at.at) c.index-a-at.is) c.if-at-b.true (ap (get_or c.args.b.now c.loop-at.at) c.index-b-at.is) (λ same. c.in_default.not-Equal (c.compare.ensures ∙ same)) c.loop-at.invariant.same)
    ∙ sym (by_parts order_of (λ (part : RowPart). part.value) (λ (part : RowPart). part.value) c.args.a.now c.args.b.now)

pub returns : goal.returns
returns c =
    let over : (length c.args.a.now ≤ c.loop-at.at) ⊎ (length c.args.b.now ≤ c.loop-at.at) = elim c.loop-at-test.branch [
      | then-loop-at-test+else-at-b w ↦ inr w.if-at-b.false
      | else-loop-at-test w ↦ inl w.loop-at-test.false
    ] in
    c.cmp.ensures
    ∙ sym (ends (λ (x y : RowPart). order_of x.value y.value) c.args.a.now c.args.b.now c.loop-at.at c.loop-at.invariant.in_a c.loop-at.invariant.in_b over)
    ∙ sym c.loop-at.invariant.same
    ∙ sym (by_parts order_of (λ (part : RowPart). part.value) (λ (part : RowPart). part.value) c.args.a.now c.args.b.now)
