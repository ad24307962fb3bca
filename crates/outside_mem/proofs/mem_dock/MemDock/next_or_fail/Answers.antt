use Rattle.std.proofs.Common.{◌≡◌, ◌∙◌, ap, subst}
use Rattle.std.specs.Prelude.{Contains}
use Rattle.outside.specs.declared.dock.DockTally.{DockTally}
use Rattle.outside_mem.specs.Calls.{Calls, call_made, next_call}
use Rattle.outside_mem.specs.MemDock.{DockState}
use Rattle.outside_mem.proofs.mem_dock.MemDock.next_or_fail.Goals as goal

pub returns-then-is_failing-clause-passes : goal.returns-then-is_failing-clause-passes
returns-then-is_failing-clause-passes c = λ passes. absurd (passes (subst (λ (d : DockState). Contains d.calls.fails (next_call d.calls)) c.self.view_is (c.is_failing.ensures.fails.0 c.if-is_failing.true)))

pub returns-then-is_failing-clause-failed : goal.returns-then-is_failing-clause-failed
returns-then-is_failing-clause-failed c =
    let calls : Calls = c.is_failing.new.self in
    let tally : DockTally = record (c.self.inside.tally) { read_faults = c.saturating_add-self-inside.result } in
    let counted : calls ≡ call_made c.args.self.now.calls = subst (λ (d : DockState). calls ≡ call_made d.calls) c.self.view_is c.is_failing.ensures.counted in
    let numbered : Contains c.args.self.now.calls.fails (next_call c.args.self.now.calls) = subst (λ (d : DockState). Contains d.calls.fails (next_call d.calls)) c.self.view_is (c.is_failing.ensures.fails.0 c.if-is_failing.true) in
    λ e. record {
      numbered = numbered;
      state = ap (λ (d : DockState). record d { calls = calls; tally = tally }) c.self.view_is ∙ ap (λ (cs : Calls). record (c.args.self.now) { calls = cs; tally = tally }) counted;
    }
