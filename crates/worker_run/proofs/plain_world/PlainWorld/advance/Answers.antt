use Rattle.std.proofs.Common.{refl, subst, slice_range, Ok, ◌+◌}
use Rattle.worker_run.specs.declared.judge.Judged.{Judged}
use Rattle.worker_run.specs.declared.plain_world.Step.TheVariants as step
use Rattle.worker_run.specs.Steps.{IsJudged}
use Rattle.worker_run.proofs.StepLemmas.{world_of, bounded_record, bounded_state, bounded_other, next_is, takes_record, takes_state, takes_other, refuses}
use Rattle.worker_run.proofs.ReachedLemmas.{reached_step}
use Rattle.worker_run.proofs.plain_world.PlainWorld.advance.Goals as goal

pub invariant_of-self-in-Record : goal.invariant_of-self-in-Record
invariant_of-self-in-Record c =
    let w = c.self.inside in
    let place = c.in-Some.place in
    let line = slice_range c.as_slice-2.result.now place.start place.end in
    let old = world_of w.stream w.text w.at w.number w.records w.since w.events w.is_over in
    let new = world_of w.stream w.text place.end (w.number + 1) (w.records + 1) (w.since + 1) c.push_record.new.events w.is_over in (
      bounded_record w.text c.as_slice.result.now w.at w.number w.records w.since place.start place.end c.as_slice.ensures c.self.invariant.0 c.in-Some.ensures.place,
      reached_step old new (Ok step.Record) c.self.invariant.1 (takes_record w.stream w.text line w.at place.end w.number w.records w.since w.events c.push_record.new.events w.is_over c.in-Record.content old refl
          (next_is w.text c.as_slice.result.now c.as_slice-2.result.now w.at place.start place.end c.as_slice.ensures c.as_slice-2.ensures c.in-Some.ensures.line)
          (subst (λ (j : Judged). IsJudged w.stream w.since line j) c.in-Record.is c.in_ok-content.ensures)
          c.in_ok-push_record-in-Record.ensures.ok),
    )

pub invariant_of-self-in-State : goal.invariant_of-self-in-State
invariant_of-self-in-State c =
    let w = c.self.inside in
    let place = c.in-Some.place in
    let line = slice_range c.as_slice-2.result.now place.start place.end in
    let old = world_of w.stream w.text w.at w.number w.records w.since w.events w.is_over in
    let new = world_of w.stream w.text place.end (w.number + 1) w.records 0 c.push_state.new.events w.is_over in (
      bounded_state w.text c.as_slice.result.now w.at w.number w.records w.since place.start place.end c.as_slice.ensures c.self.invariant.0 c.in-Some.ensures.place,
      reached_step old new (Ok (step.Saved c.in_ok-object-in-State.object)) c.self.invariant.1 (takes_state w.stream w.text line c.in_ok-object-in-State.object w.at place.end w.number w.records w.since w.events c.push_state.new.events w.is_over c.in-State.state old refl
          (next_is w.text c.as_slice.result.now c.as_slice-2.result.now w.at place.start place.end c.as_slice.ensures c.as_slice-2.ensures c.in-Some.ensures.line)
          (subst (λ (j : Judged). IsJudged w.stream w.since line j) c.in-State.is c.in_ok-content.ensures)
          c.in_ok-object-in-State.ensures.ok c.in_ok-object-in-State.ensures.object),
    )

pub invariant_of-self-in-Other : goal.invariant_of-self-in-Other
invariant_of-self-in-Other c =
    let w = c.self.inside in
    let place = c.in-Some.place in
    let line = slice_range c.as_slice-2.result.now place.start place.end in
    let old = world_of w.stream w.text w.at w.number w.records w.since w.events w.is_over in
    let new = world_of w.stream w.text place.end (w.number + 1) w.records w.since c.push_other.new.events w.is_over in (
      bounded_other w.text c.as_slice.result.now w.at w.number w.records w.since place.start place.end c.as_slice.ensures c.self.invariant.0 c.in-Some.ensures.place,
      reached_step old new (Ok (step.Other c.in-Other.said)) c.self.invariant.1 (takes_other w.stream w.text line w.at place.end w.number w.records w.since w.events c.push_other.new.events w.is_over c.in-Other.said old refl
          (next_is w.text c.as_slice.result.now c.as_slice-2.result.now w.at place.start place.end c.as_slice.ensures c.as_slice-2.ensures c.in-Some.ensures.line)
          (subst (λ (j : Judged). IsJudged w.stream w.since line j) c.in-Other.is c.in_ok-content.ensures)
          c.in_ok-push_other-in-Other.ensures.ok),
    )

pub returns-in_ok-push_other-in-Other : goal.returns-in_ok-push_other-in-Other
returns-in_ok-push_other-in-Other c =
    let w = c.self.inside in
    let place = c.in-Some.place in
    let line = slice_range c.as_slice-2.result.now place.start place.end in
    takes_other w.stream w.text line w.at place.end w.number w.records w.since w.events c.push_other.new.events w.is_over c.in-Other.said c.args.self.now c.self.view_is
    (next_is w.text c.as_slice.result.now c.as_slice-2.result.now w.at place.start place.end c.as_slice.ensures c.as_slice-2.ensures c.in-Some.ensures.line)
    (subst (λ (j : Judged). IsJudged w.stream w.since line j) c.in-Other.is c.in_ok-content.ensures)
    c.in_ok-push_other-in-Other.ensures.ok

pub returns-in_ok-push_record-in-Record : goal.returns-in_ok-push_record-in-Record
returns-in_ok-push_record-in-Record c =
    let w = c.self.inside in
    let place = c.in-Some.place in
    let line = slice_range c.as_slice-2.result.now place.start place.end in
    takes_record w.stream w.text line w.at place.end w.number w.records w.since w.events c.push_record.new.events w.is_over c.in-Record.content c.args.self.now c.self.view_is
    (next_is w.text c.as_slice.result.now c.as_slice-2.result.now w.at place.start place.end c.as_slice.ensures c.as_slice-2.ensures c.in-Some.ensures.line)
    (subst (λ (j : Judged). IsJudged w.stream w.since line j) c.in-Record.is c.in_ok-content.ensures)
    c.in_ok-push_record-in-Record.ensures.ok

pub returns-in_ok-object-in-State : goal.returns-in_ok-object-in-State
returns-in_ok-object-in-State c =
    let w = c.self.inside in
    let place = c.in-Some.place in
    let line = slice_range c.as_slice-2.result.now place.start place.end in
    takes_state w.stream w.text line c.in_ok-object-in-State.object w.at place.end w.number w.records w.since w.events c.push_state.new.events w.is_over c.in-State.state c.args.self.now c.self.view_is
    (next_is w.text c.as_slice.result.now c.as_slice-2.result.now w.at place.start place.end c.as_slice.ensures c.as_slice-2.ensures c.in-Some.ensures.line)
    (subst (λ (j : Judged). IsJudged w.stream w.since line j) c.in-State.is c.in_ok-content.ensures)
    c.in_ok-object-in-State.ensures.ok c.in_ok-object-in-State.ensures.object

pub returns-in-Unbuilt : goal.returns-in-Unbuilt
returns-in-Unbuilt c =
    let w = c.self.inside in
    let place = c.in-Some.place in
    let line = slice_range c.as_slice-2.result.now place.start place.end in (
      refuses w.stream w.text line w.at place.end w.number w.records w.since w.events w.is_over c.args.self.now c.self.view_is
          (next_is w.text c.as_slice.result.now c.as_slice-2.result.now w.at place.start place.end c.as_slice.ensures c.as_slice-2.ensures c.in-Some.ensures.line)
          (subst (λ (j : Judged). IsJudged w.stream w.since line j) c.in-Unbuilt.is c.in_ok-content.ensures),
      c.self.view_is,
    )
