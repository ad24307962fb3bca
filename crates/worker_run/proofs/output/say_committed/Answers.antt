use Rattle.std.proofs.Common.{◌∙◌, rules, arith, ◌<◌, List, length, subst}
use Rattle.std.proofs.lemmas.Grind.{common_steps}
use Rattle.basics.specs.Told.{GrewByFront}
use Rattle.outside.specs.declared.event.RawRow.{RawRow}
use Rattle.outside.specs.Desk.{SaidLines}
use Rattle.outside.proofs.Says.{only_then, only_where}
use Rattle.worker_run.specs.Output.{body_lines}
use Rattle.worker_run.proofs.SayLemmas.{front_rows, said_rows}
use Rattle.worker_run.proofs.output.say_committed.Goals as goal

pub returns-in_err-say_bodies-clause-front : goal.returns-in_err-say_bodies-clause-front
returns-in_err-say_bodies-clause-front g c =
    let old = g.K.Desk.seen c.args.desk.now in
    let mid = g.K.Desk.seen c.loop-event.desk in
    let new = g.K.Desk.seen c.say_bodies.new.desk in
    let within : c.loop-event.event-index < length c.args.events.now = search rules in
    record {
      front = front_rows c.args.events.now c.loop-event.event-index c.event-item.result old mid new within c.event-item.is c.loop-event.invariant.said (subst (λ (rows : List RawRow). GrewByFront (body_lines rows) mid.said new.said) c.rows_in.ensures c.in_err-say_bodies.ensures.front.front);
      only = first_of (search rules, grind (arith, common_steps));
    }

pub loop-event-preserved : goal.loop-event-preserved
loop-event-preserved g c =
    let old = g.K.Desk.seen c.args.desk.now in
    let mid = g.K.Desk.seen c.loop-event.desk in
    let new = g.K.Desk.seen c.say_bodies.new.desk in
    let within : c.loop-event.event-index < length c.args.events.now = search rules in
    let done = c.in_ok-say_bodies.ensures in
    record {
      said = said_rows c.args.events.now c.loop-event.event-index c.event-item.result old mid new within c.event-item.is c.loop-event.invariant.said (subst (λ (rows : List RawRow). SaidLines (body_lines rows) mid new) c.rows_in.ensures done.ok);
      only = only_then ⊥ ⊥ old mid new c.loop-event.invariant.only (only_where _ ⊥ mid new (λ b. absurd b) done.front.only);
      stays = done.stays ∙ c.loop-event.invariant.stays;
    }
