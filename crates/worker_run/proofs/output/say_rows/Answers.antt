use Rattle.std.proofs.Common.{rules, arith, ℕ, List, [], ◌∷◌, ◌∙◌, ap, subst, length}
use Rattle.std.proofs.lemmas.Grind.{common_steps}
use Rattle.outside.specs.declared.event.Event.{Event}
use Rattle.basics.specs.Told.{told_more, GrewByFront}
use Rattle.outside.specs.Desk.{SaidLines}
use Rattle.outside.proofs.Says.{front_second}
use Rattle.worker_run.specs.Output.{table_line, committed_lines}
use Rattle.worker_run.proofs.output.say_rows.Goals as goal

pub returns-clause-front : goal.returns-clause-front
returns-clause-front g c =
    let old = g.K.Desk.seen c.args.desk.now in
    let mid = g.K.Desk.seen c.say_table.new.desk in
    let new = g.K.Desk.seen c.say_committed.new.desk in
    let world = c.args.world.now in
    let said : SaidLines (table_line world.stream (length (committed_lines world.events)) ∷ []) old mid = c.in_ok-say_table.ensures.ok ∙ (ap (λ (stream : List ℕ). told_more (table_line stream c.records.result ∷ []) old.said) c.stream.ensures ∙ ap (λ (rows : ℕ). told_more (table_line world.stream rows ∷ []) old.said) c.records.ensures.rows) in
    let grew = subst (λ (events : List Event). GrewByFront (committed_lines events) mid.said new.said) (c.as_slice.ensures ∙ c.events.ensures.events) c.say_committed.ensures.front.front in
    record {
      front = front_second (table_line world.stream (length (committed_lines world.events)) ∷ []) (committed_lines world.events) old.said mid.said new.said said grew;
      only = first_of (search rules, grind (arith, common_steps));
    }
