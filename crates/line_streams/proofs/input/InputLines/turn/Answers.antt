use Rattle.std.proofs.Common.{ap}
use Rattle.line_streams.specs.Input.{Input}
use Rattle.line_streams.proofs.CauseLemmas.{turn_reads}
use Rattle.line_streams.proofs.input.InputLines.turn.Goals as goal

pub returns-in-Ok-clause-cause : goal.returns-in-Ok-clause-cause
returns-in-Ok-clause-cause g c =
    turn_reads c.args.self.now c.ready.new.self c.read.new.self c.in-NotYet.ensures.cause (ap (λ (i : Input). i.left) c.in-NotYet.ensures.others) c.in-Ok.ensures.unread c.in-Ok.ensures.read
