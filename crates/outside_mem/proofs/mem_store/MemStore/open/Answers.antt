use Rattle.std.proofs.Common.{◌≡◌, List, ap, sym, ◌∙◌, subst}
use Rattle.outside.specs.declared.event.StreamPlan.{StreamPlan}
use Rattle.outside.specs.Dock.{HasOwnIds, HasStreams}
use Rattle.outside.specs.Tables.{tables_of, side_marks_of}
use Rattle.outside_mem.specs.MemDock.{trace_tables}
use Rattle.outside_mem.proofs.StoreLemmas.{store_opened, streams_opened}
use Rattle.outside_mem.proofs.mem_store.MemStore.open.Goals as goal

pub invariant_of-self-in-Ok : goal.invariant_of-self-in-Ok
invariant_of-self-in-Ok c =
    let plan : c.args.plan.now ≡ c.in_ok-copy.field-0 = sym c.in_ok-copy.ensures.copied in
    store_opened c.self.inside.tables c.self.inside.input_over c.self.inside.trace c.push.new.self c.args.counts c.self.invariant c.in-Ok.tables c.in-Some.load c.args.moment c.in_ok-copy.field-0 (subst (λ (ps : List StreamPlan). HasOwnIds ps) plan c.requires) c.in_ok-push.ensures.ok (c.in-Ok.ensures ∙ ap tables_of c.events.ensures)

pub returns-in-Ok-clause-streams : goal.returns-in-Ok-clause-streams
returns-in-Ok-clause-streams c =
    let plan : c.args.plan.now ≡ c.in_ok-copy.field-0 = sym c.in_ok-copy.ensures.copied in
    let after = store_opened c.self.inside.tables c.self.inside.input_over c.self.inside.trace c.push.new.self c.args.counts c.self.invariant c.in-Ok.tables c.in-Some.load c.args.moment c.in_ok-copy.field-0 (subst (λ (ps : List StreamPlan). HasOwnIds ps) plan c.requires) c.in_ok-push.ensures.ok (c.in-Ok.ensures ∙ ap tables_of c.events.ensures) in
    subst (λ (ps : List StreamPlan). HasStreams ps (side_marks_of (trace_tables c.push.new.self))) (sym plan) (streams_opened c.self.inside.tables c.in-Ok.tables c.self.inside.input_over _ c.self.inside.trace c.push.new.self c.in-Some.load c.args.moment c.in_ok-copy.field-0 c.args.counts c.self.invariant after c.in_ok-push.ensures.ok)
