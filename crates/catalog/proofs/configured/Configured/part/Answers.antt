use Rattle.std.proofs.Common.{sym, ◌∙◌, ap, subst, ◌<◌, ◌≤◌, length, Some, arith}
use Rattle.json_fields.proofs.AnswerLemmas.{true_false}
use Rattle.catalog.specs.Configured.{IsConfigured}
use Rattle.catalog.specs.declared.stream.ConfStream.{ConfStream}
use Rattle.catalog.proofs.ConfiguredLemmas.{lane_step, lane_skip, lane_done, lane_room, lane_absent, configured_at}
use Rattle.catalog.proofs.configured.Configured.part.Goals as goal
use Rattle.catalog.proofs.configured.Configured.part.Goals.{then-n-lanes+in_ok-stream+in_ok-add+else-not-branch, else-n-lanes}

pub add-requires-clause-room : goal.add-requires-clause-room
add-requires-clause-room c =
    let lt : c.loop-n.n < length c.args.self.now = let h = c.loop-n-test.true in let e = c.len-n-end.ensures.len in omega arith in
    lane_room c.args.lanes c.args.lane c.loop-n.n c.args.self.now c.loop-n.part lt c.len-n-end.ensures.configured.few c.loop-n.invariant

pub add-requires-clause-configured : goal.add-requires-clause-configured
add-requires-clause-configured c =
    subst IsConfigured (sym c.in_ok-stream.ensures.copied) (configured_at c.args.self.now c.loop-n.n c.stream.result.now c.len-n-end.ensures.configured.each c.stream.ensures.stream)

pub unreachable-requires : goal.unreachable-requires
unreachable-requires c =
    let at = c.stream.ensures.stream ∙ ap (λ (s : ConfStream). Some s) (sym c.in_ok-stream.ensures.copied) in
    let absent = lane_absent c.args.lanes c.args.lane c.loop-n.n c.args.self.now c.loop-n.part c.in_ok-stream.stream c.len-n-end.ensures.configured.distinct at c.loop-n.invariant in
    true_false (sym (c.in_ok-add.ensures.new.1 absent) ∙ c.if-not-branch.true)

pub returns : goal.returns
returns c =
    let done : length c.args.self.now ≤ c.loop-n.n = let h = c.loop-n-test.false in let e = c.len-n-end.ensures.len in omega arith in
    lane_done c.args.lanes c.args.lane c.loop-n.n c.args.self.now c.loop-n.part done c.loop-n.invariant

pub loop-n-preserved : goal.loop-n-preserved
loop-n-preserved c =
    let lt : c.loop-n.n < length c.args.self.now = let h = c.loop-n-test.true in let e = c.len-n-end.ensures.len in omega arith in
    elim c.if-n-lanes.branch [
      | then-n-lanes+in_ok-stream+in_ok-add+else-not-branch w ↦ (
          let at = w.stream.ensures.stream ∙ ap (λ (s : ConfStream). Some s) (sym w.in_ok-stream.ensures.copied) in
          lane_step c.args.lanes c.args.lane c.loop-n.n c.args.self.now c.loop-n.part c.if-n-lanes.part w.in_ok-stream.stream lt w.if-n-lanes.true at c.loop-n.invariant (w.part-is ∙ w.in_ok-add.ensures.added w.if-not-branch.false))
      | else-n-lanes w ↦
          w.part-is ∙ lane_skip c.args.lanes c.args.lane c.loop-n.n c.args.self.now c.loop-n.part lt w.if-n-lanes.false c.loop-n.invariant
    ]
