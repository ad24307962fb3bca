use Rattle.std.proofs.Common.{rules, arith, [], ◌∷◌, subst}
use Rattle.std.proofs.lemmas.Grind.{common_steps}
use Rattle.outside.specs.declared.status.Status.{Status}
use Rattle.basics.specs.Told.{GrewByFront}
use Rattle.outside.specs.Desk.{SaidLines}
use Rattle.outside.proofs.Says.{front_first, front_second}
use Rattle.worker_run.specs.Ends.{status_of}
use Rattle.worker_run.specs.Output.{attempt_line, table_at, committed_lines}
use Rattle.worker_run.proofs.SayLemmas.{said_second}
use Rattle.worker_run.proofs.output.say_end.Goals as goal

pub returns-in_err-say_attempt-clause-front : goal.returns-in_err-say_attempt-clause-front
returns-in_err-say_attempt-clause-front g c =
    let old = g.K.Desk.seen c.args.desk.now in
    let new = g.K.Desk.seen c.say_attempt.new.desk in
    let grew = subst (λ (s : Status). GrewByFront (attempt_line s ∷ []) old.said new.said) c.status.ensures c.in_err-say_attempt.ensures.front.front in
    record {
      front = front_first (attempt_line (status_of c.args.end) ∷ []) (table_at c.args.world.now.stream (committed_lines c.args.world.now.events) c.args.end) old.said new.said grew;
      only = first_of (search rules, grind (arith, common_steps));
    }

pub returns-clause-ok : goal.returns-clause-ok
returns-clause-ok g c =
    let old = g.K.Desk.seen c.args.desk.now in
    let mid = g.K.Desk.seen c.say_attempt.new.desk in
    let new = g.K.Desk.seen c.say_table_at.new.desk in
    let said : SaidLines (attempt_line (status_of c.args.end) ∷ []) old mid = subst (λ (s : Status). SaidLines (attempt_line s ∷ []) old mid) c.status.ensures c.in_ok-say_attempt.ensures.ok in
    said_second c.say_table_at.result (attempt_line (status_of c.args.end) ∷ []) (table_at c.args.world.now.stream (committed_lines c.args.world.now.events) c.args.end) old mid new said c.say_table_at.ensures.ok

pub returns-clause-front : goal.returns-clause-front
returns-clause-front g c =
    let old = g.K.Desk.seen c.args.desk.now in
    let mid = g.K.Desk.seen c.say_attempt.new.desk in
    let new = g.K.Desk.seen c.say_table_at.new.desk in
    let said : SaidLines (attempt_line (status_of c.args.end) ∷ []) old mid = subst (λ (s : Status). SaidLines (attempt_line s ∷ []) old mid) c.status.ensures c.in_ok-say_attempt.ensures.ok in
    record {
      front = front_second (attempt_line (status_of c.args.end) ∷ []) (table_at c.args.world.now.stream (committed_lines c.args.world.now.events) c.args.end) old.said mid.said new.said said c.say_table_at.ensures.front.front;
      only = first_of (search rules, grind (arith, common_steps));
    }
