use Rattle.std.proofs.Common.{◌-◌, refl, ◌∙◌}
use Rattle.line_streams.proofs.OutputLemmas.{taken_more, taken_within, cut_here, none_here}
use Rattle.line_streams.proofs.output.write_through.Goals as goal

pub loop-at-preserved : goal.loop-at-preserved
loop-at-preserved g c = record {
  within = taken_within c.loop-at.at c.in-Ok.count (c.min-end.result - c.loop-at.at) c.args.text.now c.loop-at.invariant.within c.in-Ok.ensures.within;
  taken = taken_more c.loop-at.at c.in-Ok.count (c.min-end.result - c.loop-at.at) c.args.text.now _ _ _ _ c.loop-at.invariant.taken refl c.in-Ok.ensures.within c.in-Ok.ensures.taken;
  faults = c.in-Ok.ensures.stays ∙ c.loop-at.invariant.faults;
}

pub returns-in-Err-clause-failed : goal.returns-in-Err-clause-failed
returns-in-Err-clause-failed g c e =
    cut_here c.args.text.now c.loop-at.at _ c.in-Err.fault _ _ _ _ _ _ c.cut_at.ensures.part c.loop-at-test.true c.loop-at.invariant.taken c.in-Err.ensures.kept c.loop-at.invariant.faults c.in-Err.ensures.rose (c.cut_at.ensures.failed e)
