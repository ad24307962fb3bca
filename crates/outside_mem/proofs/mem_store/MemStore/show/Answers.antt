use Rattle.std.proofs.Common.{◌≡◌, ◌<◌, List, [], ◌∷◌, ◌++◌, length, subst, ap, ◌∙◌}
use Rattle.outside.specs.declared.event.Event.{Event}
use Rattle.outside.specs.Tables.{side_marks_of}
use Rattle.outside_mem.specs.MemDock.{ToldEvent, told, trace_tables}
use Rattle.outside_mem.proofs.StoreLemmas.{store_showing, marks_at_show}
use Rattle.outside_mem.proofs.mem_store.MemStore.show.Goals as goal

pub invariant_of-self-in-Ok : goal.invariant_of-self-in-Ok
invariant_of-self-in-Ok c = store_showing c.self.inside.tables c.self.inside.input_over c.self.inside.trace c.push.new.self c.args.counts c.self.invariant c.show.new.tables c.args.stream c.in-Ok.ensures.ok (c.in_ok-push.ensures.ok ∙ ap (λ (e : Event). c.self.inside.trace ++ told e c.args.counts ∷ []) c.showing-event.ensures)

pub returns-in-Ok-clause-marks : goal.returns-in-Ok-clause-marks
returns-in-Ok-clause-marks c =
    let after = store_showing c.self.inside.tables c.self.inside.input_over c.self.inside.trace c.push.new.self c.args.counts c.self.invariant c.show.new.tables c.args.stream c.in-Ok.ensures.ok (c.in_ok-push.ensures.ok ∙ ap (λ (e : Event). c.self.inside.trace ++ told e c.args.counts ∷ []) c.showing-event.ensures) in
    subst (λ (t : List ToldEvent). c.args.stream < length (side_marks_of (trace_tables t)) → side_marks_of (trace_tables c.push.new.self) ≡ side_marks_of (trace_tables t)) c.self.view_is (marks_at_show c.self.inside.tables c.show.new.tables c.self.inside.input_over c.self.inside.trace c.push.new.self c.args.stream c.self.invariant after.tables_are c.in-Ok.ensures.ok)
