use Rattle.std.proofs.Common.{◌≡◌, Ok, sym, subst, ap, ◌∙◌, List, ℕ, [], ◌∷◌}
use Rattle.basics.specs.Told.{told_more, GrewByFront}
use Rattle.outside.specs.Desk.{SaysOnly}
use Rattle.outside.proofs.Says.{only_then, only_where}
use Rattle.worker_run.specs.Output.{saved_line}
use Rattle.worker_run.specs.declared.plain_world.Step.{Step}
use Rattle.worker_run.specs.Steps.{Steps}
use Rattle.worker_run.specs.Reading.{SaysLines, ReadsSome}
use Rattle.worker_run.proofs.ReadingLemmas.{says_record, says_state, says_other, says_some, says_some_other, on_err}
use Rattle.worker_run.proofs.top.take_lines.Goals as goal
use Rattle.worker_run.proofs.top.take_lines.Goals.{in-Record, in-Saved+in_ok-say_saved-in-Saved, in-Other+in_ok-say_other-in-Other}

pub lines-preserved : goal.lines-preserved
lines-preserved g c =
    let start = g.K.Desk.seen c.args.desk.now in
    let before = start.said in
    let now = (g.K.Desk.seen c.lines.desk).said in
    elim c.match-branch-2.branch [
      | in-Record w ↦ record {
        says = subst (λ (d : _). SaysLines c.args.world.now c.step.new.self before (g.K.Desk.seen d).said) (sym w.desk-is) (says_record c.args.world.now c.lines.world c.step.new.self before now c.lines.invariant.says (subst (λ (s : Step). Steps c.lines.world (Ok s) c.step.new.self) w.in-Record.is c.in_ok-step.ensures.steps));
        only = subst (λ (d : _). SaysOnly ⊥ start (g.K.Desk.seen d)) (sym w.desk-is) c.lines.invariant.only;
        stays = subst (λ (d : _). (g.K.Desk.seen d).say_faults ≡ start.say_faults) (sym w.desk-is) c.lines.invariant.stays;
      }
      | in-Saved+in_ok-say_saved-in-Saved w ↦
          let said = w.in_ok-say_saved-in-Saved.ensures in
          record {
            says = subst (λ (d : _). SaysLines c.args.world.now c.step.new.self before (g.K.Desk.seen d).said) (sym w.desk-is) (says_state c.args.world.now c.lines.world c.step.new.self w.in-Saved.object before now (g.K.Desk.seen w.say_saved.new.desk).said c.lines.invariant.says (subst (λ (s : Step). Steps c.lines.world (Ok s) c.step.new.self) w.in-Saved.is c.in_ok-step.ensures.steps) (said.ok ∙ ap (λ (o : List ℕ). told_more (saved_line o ∷ []) now) w.as_slice.ensures));
            only = subst (λ (d : _). SaysOnly ⊥ start (g.K.Desk.seen d)) (sym w.desk-is) (only_then ⊥ ⊥ start (g.K.Desk.seen c.lines.desk) (g.K.Desk.seen w.say_saved.new.desk) c.lines.invariant.only (only_where _ ⊥ (g.K.Desk.seen c.lines.desk) (g.K.Desk.seen w.say_saved.new.desk) (λ b. absurd b) said.front.only));
            stays = subst (λ (d : _). (g.K.Desk.seen d).say_faults ≡ start.say_faults) (sym w.desk-is) (said.stays ∙ c.lines.invariant.stays);
          }
      | in-Other+in_ok-say_other-in-Other w ↦
          let said = w.in_ok-say_other-in-Other.ensures in
          record {
            says = subst (λ (d : _). SaysLines c.args.world.now c.step.new.self before (g.K.Desk.seen d).said) (sym w.desk-is) (says_other c.args.world.now c.lines.world c.step.new.self w.in-Other.said before now (g.K.Desk.seen w.say_other.new.desk).said c.lines.invariant.says (subst (λ (s : Step). Steps c.lines.world (Ok s) c.step.new.self) w.in-Other.is c.in_ok-step.ensures.steps) said.ok);
            only = subst (λ (d : _). SaysOnly ⊥ start (g.K.Desk.seen d)) (sym w.desk-is) (only_then ⊥ ⊥ start (g.K.Desk.seen c.lines.desk) (g.K.Desk.seen w.say_other.new.desk) c.lines.invariant.only (only_where _ ⊥ (g.K.Desk.seen c.lines.desk) (g.K.Desk.seen w.say_other.new.desk) (λ b. absurd b) said.front.only));
            stays = subst (λ (d : _). (g.K.Desk.seen d).say_faults ≡ start.say_faults) (sym w.desk-is) (said.stays ∙ c.lines.invariant.stays);
          }
    ]

pub returns-in_err-say_saved-in-Saved-clause-fault : goal.returns-in_err-say_saved-in-Saved-clause-fault
returns-in_err-say_saved-in-Saved-clause-fault g c =
    let before = (g.K.Desk.seen c.args.desk.now).said in
    let now = (g.K.Desk.seen c.lines.desk).said in
    let after = (g.K.Desk.seen c.say_saved.new.desk).said in
    on_err c.from_residual-in_err-say_saved-in-Saved.result (ReadsSome c.args.world.now before after) (says_some c.args.world.now c.lines.world c.step.new.self c.in-Saved.object before now after c.lines.invariant.says (subst (λ (s : Step). Steps c.lines.world (Ok s) c.step.new.self) c.in-Saved.is c.in_ok-step.ensures.steps) (subst (λ (o : List ℕ). GrewByFront (saved_line o ∷ []) now after) c.as_slice.ensures c.in_err-say_saved-in-Saved.ensures.front.front))

pub returns-in_err-say_other-in-Other-clause-fault : goal.returns-in_err-say_other-in-Other-clause-fault
returns-in_err-say_other-in-Other-clause-fault g c =
    let before = (g.K.Desk.seen c.args.desk.now).said in
    let now = (g.K.Desk.seen c.lines.desk).said in
    let after = (g.K.Desk.seen c.say_other.new.desk).said in
    on_err c.from_residual-in_err-say_other-in-Other.result (ReadsSome c.args.world.now before after) (says_some_other c.args.world.now c.lines.world c.step.new.self c.in-Other.said before now after c.lines.invariant.says (subst (λ (s : Step). Steps c.lines.world (Ok s) c.step.new.self) c.in-Other.is c.in_ok-step.ensures.steps) c.in_err-say_other-in-Other.ensures.front.front)
