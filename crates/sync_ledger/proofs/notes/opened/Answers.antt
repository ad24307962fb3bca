use Rattle.std.proofs.Common.{◌≡◌, Some, slice_get, sym, ◌∙◌, ap, true, false}
use Rattle.basics.specs.declared.stream.StreamId.{StreamId}
use Rattle.catalog.specs.Reading.{ids_of}
use Rattle.sync_ledger.proofs.OpenLemmas.{absent_before, accounts_more, id_at, index_more}
use Rattle.sync_ledger.proofs.notes.opened.Goals as goal

true_false : true ≡ false → ⊥
true_false e = cc

pub unreachable-requires : goal.unreachable-requires
unreachable-requires c =
    let ids = ids_of c.args.configured.now in
    let at : slice_get ids c.loop-n.n ≡ Some c.in_ok-id.id = id_at c.args.configured.now c.loop-n.n c.stream.result.now c.stream.ensures.stream ∙ ap (λ (x : StreamId). Some x) (sym c.in_ok-id.ensures.copied) in
    let absent = absent_before ids c.loop-n.index c.loop-n.n c.in_ok-id.id c.stream.ensures.configured.distinct at c.loop-n.invariant.index in
    true_false (sym (c.in_ok-add.ensures.new.1 absent) ∙ c.if-not-branch.true)

pub loop-n-preserved : goal.loop-n-preserved
loop-n-preserved c =
    let ids = ids_of c.args.configured.now in
    let at : slice_get ids c.loop-n.n ≡ Some c.in_ok-id.id = id_at c.args.configured.now c.loop-n.n c.stream.result.now c.stream.ensures.stream ∙ ap (λ (x : StreamId). Some x) (sym c.in_ok-id.ensures.copied) in
    record {
      index = index_more ids c.loop-n.index c.add.new.self c.loop-n.n c.in_ok-id.id at c.loop-n.invariant.index (c.in_ok-add.ensures.added c.if-not-branch.false);
      accounts = accounts_more ids c.loop-n.accounts c.add-in-loop-n.new.self c.loop-n.n c.in_ok-id.id at c.loop-n.invariant.accounts c.in_ok-add-2.ensures.ok;
    }
