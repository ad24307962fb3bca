use Rattle.std.proofs.Common.{◌+◌, get_or, subst, ap, ◌∙◌}
use Rattle.json_span.specs.Machine.{IsSkipped, between, made}
use Rattle.json_span.proofs.Run.{taken, ended_stepped}
use Rattle.json_span.proofs.machine.Machine.end_number.Goals as goal

pub returns-clause-taken : goal.returns-clause-taken
returns-clause-taken c =
    let text = c.args.text.now in
    let range = c.skip_blanks_or_none.ensures.range in
    taken text c.args.self.now c.make.new.self c.args.at c.skip_blanks_or_none.result c.requires.place
    (c.in_ok-make.ensures ∙ ap (λ k. made c.args.next (record c.args.self.now { cutter = k }) c.args.at (c.args.at + 1)) c.in_ok-end_value.ensures ∙ ended_stepped c.args.next c.args.self.now (get_or text c.args.at 0) c.args.at (c.args.at + 1) c.requires.known c.requires.behind)
    range.0 range.1 (subst (λ kind. IsSkipped kind (between text (c.args.at + 1) c.skip_blanks_or_none.result)) c.run_at.ensures c.skip_blanks_or_none.ensures.skipped)
