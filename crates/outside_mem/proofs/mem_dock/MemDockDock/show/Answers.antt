use Rattle.std.proofs.Common.{subst}
use Rattle.outside_mem.specs.MemDock.{DockState, FailsOnly}
use Rattle.outside_mem.proofs.DockLemmas.{fails_only}
use Rattle.outside_mem.proofs.mem_dock.MemDockDock.show.Goals as goal

pub returns-then-is_failing-clause-failed : goal.returns-then-is_failing-clause-failed
returns-then-is_failing-clause-failed c = λ e. subst (λ (d : DockState). FailsOnly d c.fail_store.new.self) c.self.view_is (fails_only _ c.fail_store.new.self c.is_failing.new.self _ c.is_failing.ensures.counted (c.is_failing.ensures.fails.0 c.if-is_failing.true) c.fail_store.ensures.others)
