use Rattle.std.proofs.Common.{◌≡◌, sym, ◌∙◌, true, false}
use Rattle.sync_ledger.proofs.TakeLemmas.{all_passed, first_found, one_passed}
use Rattle.sync_ledger.proofs.pending.first_same.Goals as goal

true_false : true ≡ false → ⊥
true_false e = cc

pub returns-then-branch-clause-some : goal.returns-then-branch-clause-some
returns-then-branch-clause-some c = first_found c.args.pending.now c.loop-other.rest c.next.new.self c.args.got.now c.loop-other.place c.in-Some.other.now c.loop-other.invariant c.in-Some.ensures.steps (c.in_ok-same_state.ensures.0 c.if-branch.true)

pub loop-other-preserved : goal.loop-other-preserved
loop-other-preserved c = one_passed c.args.pending.now c.loop-other.rest c.next.new.self c.args.got.now c.loop-other.place c.in-Some.other.now c.loop-other.invariant c.in-Some.ensures.steps (λ same. true_false (sym (c.in_ok-same_state.ensures.1 same) ∙ c.if-branch.false))

pub returns-clause-none : goal.returns-clause-none
returns-clause-none c = all_passed c.args.pending.now c.loop-other.rest c.args.got.now c.loop-other.place c.loop-other.invariant c.in_default.ensures.steps.0
