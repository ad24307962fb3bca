use Rattle.std.proofs.Common.{arith, ◌∙◌, refl, sym, subst}
use Rattle.outside.specs.declared.status.Status.TheVariants as status
use Rattle.attempt_close.proofs.Ways.{still_way}
use Rattle.attempt_turns.proofs.Ways.{grew_none, ran_then}
use Rattle.attempt_close.proofs.Counting.{Quiet, row_begins}
use Rattle.attempt_close.proofs.Running.{awaits_by, behind_way, ended_way, few_turns, fits_first, row_turn, settled_first, silent_so, silent_way}
use Rattle.attempt_close.proofs.run.run_turns.Goals as goal

pub turns-init : goal.turns-init
turns-init g c = record {
  ran = still_way _ _ _;
  live = c.requires.live;
  fits = fits_first _ _ _ c.requires.begins;
  settled = settled_first _ _ _ c.requires.begins;
  known = sym c.requires.begins.no_code;
  quiet = row_begins _ _ _ (grew_none _);
  few = omega arith;
  number = refl;
  running = refl;
}

pub returns-in-Some-clause-ran : goal.returns-in-Some-clause-ran
returns-in-Some-clause-ran g c = ran_then _ _ _ _ _ _ _ _ _ c.turns.invariant.ran (ended_way _ _ _ _ _ _ c.turns.invariant.known c.in-Some.ensures c.turns.invariant.fits c.turns.invariant.live)

pub returns-in-Err-clause-ran : goal.returns-in-Err-clause-ran
returns-in-Err-clause-ran g c = ran_then _ _ _ _ _ _ _ _ _ c.turns.invariant.ran (behind_way _ _ _ _ _ _ _ _ _ c.in-Err.ensures.err c.end_behind.ensures.grew c.end_behind.ensures.events c.end_behind.ensures.keeps c.end_behind.ensures.face c.end_behind.ensures.is)

pub returns-then-quiet-eq-QUIET_TURNS-clause-ran : goal.returns-then-quiet-eq-QUIET_TURNS-clause-ran
returns-then-quiet-eq-QUIET_TURNS-clause-ran g c = ran_then _ _ _ _ _ _ _ _ _ c.turns.invariant.ran (ran_then _ _ _ _ _ _ _ _ _ c.in-Ok.ensures.ok.ran (silent_way 5400 _ _ _ c.in-Ok.ensures.live))

pub returns-then-quiet-eq-QUIET_TURNS-clause-silent : goal.returns-then-quiet-eq-QUIET_TURNS-clause-silent
returns-then-quiet-eq-QUIET_TURNS-clause-silent g c =
    silent_so _ _ _ _ _ _ _ _ _ c.quiet_behind-quiet.ensures c.if-quiet-eq-QUIET_TURNS.true c.turns.invariant.known (awaits_by _ _ _ c.end_of.ensures c.in_default.not-Some) c.turns.invariant.ran.grew c.in-Ok.ensures.ok.ran.grew c.turns.invariant.quiet c.in-Ok.ensures.turned c.in-Ok.ensures.live

pub turns-preserved : goal.turns-preserved
turns-preserved g c = record {
  ran = ran_then _ _ _ _ _ _ _ _ _ c.turns.invariant.ran c.in-Ok.ensures.ok.ran;
  live = c.in-Ok.ensures.live;
  fits = c.in-Ok.ensures.fits;
  settled = c.in-Ok.ensures.settled;
  known = c.turn.ensures.known;
  quiet = subst (λ n. Quiet n c.turn.new.w (g.L.Link.seen c.args.link.now) (g.L.Link.seen c.turn.new.link)) (sym c.quiet_behind-quiet.ensures) (row_turn _ _ _ _ _ _ _ c.turns.invariant.ran.grew c.in-Ok.ensures.ok.ran.grew c.turns.invariant.quiet c.in-Ok.ensures.turned);
  few = few_turns _ _ _ c.turns.invariant.few c.quiet_behind-quiet.ensures c.if-quiet-eq-QUIET_TURNS.false;
  number = c.turn.ensures.number ∙ c.turns.invariant.number;
  running = c.turn.ensures.running ∙ c.turns.invariant.running;
}
