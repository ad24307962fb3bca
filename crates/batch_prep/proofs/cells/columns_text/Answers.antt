use Rattle.std.proofs.Common.{arith, List, ◌≡◌, ◌∙◌, length, sym, ap, subst, slice_index_or}
use Rattle.std.specs.Option.{option_copied}
use Rattle.std.proofs.lemmas.Option.{slice_get_within}
use Rattle.column_types.specs.declared.column.Column.{Column}
use Rattle.batch_prep.specs.Places.{AreSlots}
use Rattle.batch_prep.specs.Written.{HasColumns, PutsCell}
use Rattle.batch_prep.proofs.PlaceLemmas.{label_of, slot_at, slots_long}
use Rattle.batch_prep.proofs.WrittenLemmas.{IsPut, written_all, written_more}
use Rattle.batch_prep.proofs.cells.columns_text.Goals as goal

pub at-slot-requires : goal.at-slot-requires
at-slot-requires c =
    let plan = c.args.plan.now in
    let layout = c.args.layout.now in
    let long : length layout.slots ≡ length plan.columns = slots_long layout.names plan.columns layout.slots c.requires.layout.slots in
    let items : length c.as_slice-column-items.result.now ≡ length plan.columns = ap (λ (l : List Column). length l) c.as_slice-column-items.ensures in
    let test = c.loop-i-test.true in
    omega (arith, long, items, test)

pub at-requires : goal.at-requires
at-requires c =
    let layout = c.args.layout.now in
    let columns = c.as_slice-column-items.result.now in
    let are = subst (λ (l : List Column). AreSlots layout.names l layout.slots) (sym c.as_slice-column-items.ensures) c.requires.layout.slots in
    let at = slot_at layout.names columns layout.slots c.loop-i.i c.column-item.result c.at-slot.result.now are c.loop-i-test.true c.at-slot.ensures in
    label_of layout.names layout.labels c.at-slot.result.now (slice_index_or columns c.loop-i.i c.column-item.result).name c.requires.layout.labels at

pub held-requires-clause-slot : goal.held-requires-clause-slot
held-requires-clause-slot c =
    let layout = c.args.layout.now in
    let columns = c.as_slice-column-items.result.now in
    let are = subst (λ (l : List Column). AreSlots layout.names l layout.slots) (sym c.as_slice-column-items.ensures) c.requires.layout.slots in
    let at = slot_at layout.names columns layout.slots c.loop-i.i c.column-item.result c.at-slot.result.now are c.loop-i-test.true c.at-slot.ensures in
    slice_get_within layout.names c.at-slot.result.now (slice_index_or columns c.loop-i.i c.column-item.result).name at

pub loop-i-preserved : goal.loop-i-preserved
loop-i-preserved c = λ came opened.
    let layout = c.args.layout.now in
    let columns = c.as_slice-column-items.result.now in
    let column = slice_index_or columns c.loop-i.i c.column-item.result in
    let are = subst (λ (l : List Column). AreSlots layout.names l layout.slots) (sym c.as_slice-column-items.ensures) c.requires.layout.slots in
    let at = slot_at layout.names columns layout.slots c.loop-i.i c.column-item.result c.at-slot.result.now are c.loop-i-test.true c.at-slot.ensures in
    let label = c.as_slice-label.ensures ∙ c.requires.layout.labels.text c.at-slot.result.now column.name c.at.result.now at c.at.ensures in
    let put : IsPut c.args.body.now columns c.loop-i.i c.column-item.result c.loop-i.text c.put_cell.new.text c.in_ok-nulled.nulled = record {
      after_mark = c.put_comma.new.text;
      after_label = c.extend.new.self;
      after_colon = c.push-in-loop-i.new.self;
      label = c.as_slice-label.result.now;
      found = option_copied c.held.result;
      marked = c.in_ok-put_comma.ensures.ok;
      labelled = c.in_ok-extend.ensures.ok;
      is_label = label;
      colon = c.in_ok-push-2.ensures.ok;
      cell = subst (λ (x : Column). PutsCell x.kind (option_copied c.held.result) c.push-in-loop-i.new.self c.put_cell.new.text c.in_ok-nulled.nulled) c.column-item.is c.in_ok-nulled.ensures;
      answer = c.held.ensures.held column.name at;
    } in
    written_more c.args.body.now columns c.loop-i.i c.column-item.result came c.loop-i.text c.put_cell.new.text c.in_ok-nulled.nulled c.loop-i.changes c.tell.new.changes c.loop-i-test.true put (c.loop-i.invariant came opened)
    (λ items was. c.in_ok-tell.ensures items column.name label was)

pub returns : goal.returns
returns c = λ came opened.
    let columns = c.as_slice-column-items.result.now in
    subst (λ (l : List Column). HasColumns c.args.body.now l came c.push-2.new.self c.loop-i.changes) c.as_slice-column-items.ensures
    (written_all c.args.body.now columns c.loop-i.i came c.loop-i.text c.push-2.new.self c.loop-i.changes c.loop-i-test.false (c.loop-i.invariant came opened) c.in_ok-push-3.ensures.ok)
