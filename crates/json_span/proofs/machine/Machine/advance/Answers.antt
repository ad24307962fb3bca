use Rattle.std.proofs.Common.{◌+◌, subst}
use Rattle.json_span.specs.Machine.{IsSkipped, between}
use Rattle.json_span.proofs.Run.{taken}
use Rattle.json_span.proofs.machine.Machine.advance.Goals as goal

pub returns-clause-taken : goal.returns-clause-taken
returns-clause-taken c =
    let text = c.args.text.now in
    let range = c.skip.ensures.range in
    taken text c.args.self.now c.step.new.self c.args.at c.skip.result c.requires
    c.in_ok-step.ensures
    range.0 range.1 (subst (λ kind. IsSkipped kind (between text (c.args.at + 1) c.skip.result)) c.run_at.ensures c.skip.ensures.skipped)
