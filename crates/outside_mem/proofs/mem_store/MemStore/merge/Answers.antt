use Rattle.std.proofs.Common.{◌≡◌, ◌<◌, List, length, set, subst, ap, sym, ◌∙◌}
use Rattle.outside.specs.declared.event.Event.TheVariants.{Merged}
use Rattle.outside.specs.declared.event.RawRow.{RawRow}
use Rattle.outside.specs.Tables.{plan_at, tables_merged, side_marks_of}
use Rattle.outside_mem.specs.MemDock.{ToldEvent, trace_tables}
use Rattle.outside_mem.proofs.StoreLemmas.{store_merged, tables_now, marks_at_merge}
use Rattle.outside_mem.proofs.mem_store.MemStore.merge.Goals as goal

pub invariant_of-self-in-Ok : goal.invariant_of-self-in-Ok
invariant_of-self-in-Ok c =
    let tables = c.self.inside.tables in
    let same : c.in_ok-merging.merging ≡ c.in_ok-copy.field-0 = c.in_ok-merging.ensures.copied ∙ sym c.in_ok-copy.ensures.copied in
    store_merged tables c.self.inside.input_over c.self.inside.trace c.push.new.self c.args.counts c.self.invariant c.merge.new.tables c.args.stream c.in_ok-copy.field-0 c.args.mark c.requires (c.in-Ok.ensures.ok ∙ ap (λ (rs : List RawRow). tables_merged (plan_at tables c.args.stream) rs c.args.mark tables) same) c.in_ok-push.ensures.ok

pub returns-in-Ok-clause-marks : goal.returns-in-Ok-clause-marks
returns-in-Ok-clause-marks c =
    let tables = c.self.inside.tables in
    let same : c.in_ok-merging.merging ≡ c.in_ok-copy.field-0 = c.in_ok-merging.ensures.copied ∙ sym c.in_ok-copy.ensures.copied in
    let made = c.in-Ok.ensures.ok ∙ ap (λ (rs : List RawRow). tables_merged (plan_at tables c.args.stream) rs c.args.mark tables) same in
    let after = tables_now tables c.self.inside.input_over c.self.inside.trace c.push.new.self c.args.counts c.self.invariant (Merged c.args.stream c.in_ok-copy.field-0 c.args.mark) c.merge.new.tables made c.in_ok-push.ensures.ok in
    subst (λ (t : List ToldEvent). c.args.stream < length (side_marks_of (trace_tables t)) → side_marks_of (trace_tables c.push.new.self) ≡ set (side_marks_of (trace_tables t)) c.args.stream c.args.mark) c.self.view_is (marks_at_merge tables c.merge.new.tables c.self.inside.input_over c.self.inside.trace c.push.new.self c.args.stream c.in_ok-copy.field-0 c.args.mark c.self.invariant after made)
