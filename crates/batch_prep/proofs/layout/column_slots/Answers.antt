use Rattle.std.proofs.Common.{ap, ◌∙◌, List, ℕ, Some}
use Rattle.batch_prep.proofs.PlaceLemmas.{kept_along, kept_grown, slots_kept, slots_more}
use Rattle.batch_prep.proofs.layout.column_slots.Goals as goal

pub loop-column-preserved : goal.loop-column-preserved
loop-column-preserved c =
    let columns = c.as_slice-column-items.result.now in
    let kept = kept_grown c.loop-column.names c.add.new.self c.as_str.result.now c.in_ok-slot.ensures.grown in
    let at = c.in_ok-slot.ensures.place ∙ ap (λ (n : List ℕ). Some n) (c.as_str.ensures ∙ ap (λ x. x.name) c.column-item.is) in (
      slots_more c.add.new.self columns c.loop-column.column-index c.column-item.result c.loop-column.slots c.push.new.self c.in_ok-slot.slot c.loop-column-test.true
          (slots_kept c.loop-column.names c.add.new.self _ c.loop-column.slots kept c.loop-column.invariant.0) at c.in_ok-push.ensures.ok,
      kept_along c.args.names.now c.loop-column.names c.add.new.self c.loop-column.invariant.1 kept,
    )
