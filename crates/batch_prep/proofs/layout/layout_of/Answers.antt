use Rattle.batch_prep.proofs.PlaceLemmas.{kept_along, slots_kept, starts_kept}
use Rattle.batch_prep.proofs.layout.layout_of.Goals as goal

pub returns : goal.returns
returns c =
    let plan = c.args.plan.now in
    record {
      labels = c.in_ok-labels.ensures;
      slots = slots_kept c.column_slots.new.names c.optional_start.new.names plan.columns c.in_ok-slots.slots (kept_along c.column_slots.new.names c.starts_of.new.names c.optional_start.new.names c.in_ok-key.ensures.kept c.in_ok-cursor.ensures.kept) c.in_ok-slots.ensures.slots;
      key = starts_kept c.starts_of.new.names c.optional_start.new.names plan.columns plan.key c.in_ok-key.key c.in_ok-cursor.ensures.kept c.in_ok-key.ensures.starts;
      cursor = c.in_ok-cursor.ensures.start;
    }
