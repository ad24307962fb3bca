use Rattle.std.proofs.Common.{rules, arith, ℕ, List, [], ◌∷◌, ◌<◌, length, subst}
use Rattle.std.proofs.lemmas.Grind.{common_steps}
use Rattle.basics.specs.Told.{GrewByFront}
use Rattle.worker_run.specs.Output.{row_line}
use Rattle.worker_run.proofs.SayLemmas.{front_body}
use Rattle.worker_run.proofs.output.say_bodies.Goals as goal

pub returns-in_err-say_row-clause-front : goal.returns-in_err-say_row-clause-front
returns-in_err-say_row-clause-front g c =
    let old = g.K.Desk.seen c.args.desk.now in
    let mid = g.K.Desk.seen c.loop-row.desk in
    let new = g.K.Desk.seen c.say_row.new.desk in
    let within : c.loop-row.row-index < length c.args.rows.now = search rules in
    record {
      front = front_body c.args.rows.now c.loop-row.row-index c.row-item.result old mid new within c.row-item.is c.loop-row.invariant.said (subst (λ (body : List ℕ). GrewByFront (row_line body ∷ []) mid.said new.said) c.as_slice.ensures c.in_err-say_row.ensures.front.front);
      only = first_of (search rules, grind (arith, common_steps));
    }
