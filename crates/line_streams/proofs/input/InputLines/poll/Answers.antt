use Rattle.std.proofs.Common.{◌≡◌, ℕ, ap, subst, ◌∙◌}
use Rattle.basics.specs.Told.{RoseIf}
use Rattle.outside.specs.declared.link.Polled.TheVariants as polled
use Rattle.line_streams.specs.Input.{Input}
use Rattle.line_streams.proofs.CauseLemmas.{cause_after, cause_at_last}
use Rattle.line_streams.proofs.input.InputLines.poll.Goals as goal

pub returns-in_default : goal.returns-in_default
returns-in_default g c = record {
  order = c.loop.invariant.lines ∙ c.turn.ensures.order;
  within = c.turn.ensures.within;
  end = c.turn.ensures.end;
  cause = cause_after c.turn.result c.args.self.now c.loop.self c.turn.new.self c.loop.invariant.on c.in_default.not-NotYet c.turn.ensures.cause;
  faults = subst (λ (n : ℕ). RoseIf (c.turn.result ≡ polled.Failed) n c.turn.new.self.faults) c.loop.invariant.faults c.turn.ensures.faults;
  stays = λ other. c.turn.ensures.stays other ∙ c.loop.invariant.faults;
}

pub returns-clause-cause : goal.returns-clause-cause
returns-clause-cause g c =
    cause_at_last c.ready.result c.args.self.now c.loop.self c.ready.new.self c.loop.invariant.on (ap (λ (i : Input). i.left) c.ready.ensures.others) c.ready.ensures.cause
