use Rattle.std.proofs.Common.{◌+◌, get_or, ◌∙◌, arith}
use Rattle.json_span.specs.Machine.{run_of}
use Rattle.json_span.proofs.Run.{taken, made_stepped, skipped_none}
use Rattle.json_span.proofs.machine.Machine.make_one.Goals as goal

pub returns-clause-taken : goal.returns-clause-taken
returns-clause-taken c =
    let text = c.args.text.now in
    taken text c.args.self.now c.make.new.self c.args.at (c.args.at + 1) c.requires.place
    (c.in_ok-make.ensures ∙ made_stepped c.args.next c.requires.simple c.args.self.now (get_or text c.args.at 0) c.args.at (c.args.at + 1) c.requires.known)
    (omega arith) (omega arith) (skipped_none (run_of c.make.new.self.phase) text (c.args.at + 1))
