use Rattle.std.proofs.Common.{◌+◌, get_or, subst, ◌∙◌}
use Rattle.json_span.specs.Machine.{IsSkipped, between}
use Rattle.json_span.proofs.Run.{taken, made_stepped}
use Rattle.json_span.proofs.machine.Machine.make_short.Goals as goal

pub returns-clause-taken : goal.returns-clause-taken
returns-clause-taken c =
    let text = c.args.text.now in
    let range = c.skip_blanks_or_none.ensures.range in
    taken text c.args.self.now c.make.new.self c.args.at c.skip_blanks_or_none.result c.requires.place
    (c.in_ok-make.ensures ∙ made_stepped c.args.next c.requires.simple c.args.self.now (get_or text c.args.at 0) c.args.at (c.args.at + 1) c.requires.known)
    range.0 range.1 (subst (λ kind. IsSkipped kind (between text (c.args.at + 1) c.skip_blanks_or_none.result)) c.run_at.ensures c.skip_blanks_or_none.ensures.skipped)
