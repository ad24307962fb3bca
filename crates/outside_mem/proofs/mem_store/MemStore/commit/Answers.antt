use Rattle.std.proofs.Common.{List, ap, sym, ◌∙◌}
use Rattle.outside.specs.declared.event.RawRow.{RawRow}
use Rattle.outside.specs.Tables.{plan_at, tables_committed}
use Rattle.outside_mem.proofs.StoreLemmas.{store_committed}
use Rattle.outside_mem.proofs.mem_store.MemStore.commit.Goals as goal

pub invariant_of-self-in-Ok : goal.invariant_of-self-in-Ok
invariant_of-self-in-Ok c =
    let tables = c.self.inside.tables in
    store_committed tables c.self.inside.input_over c.self.inside.trace c.push.new.self c.args.counts c.self.invariant c.commit.new.tables c.args.stream c.in_ok-copy.field-0 (c.in-Ok.ensures.ok ∙ ap (λ (rs : List RawRow). tables_committed (plan_at tables c.args.stream) rs tables) (sym c.in_ok-copy.ensures.copied)) c.in-Ok.ensures.places c.in_ok-push.ensures.ok
