use Rattle.std.proofs.Common.{sym}
use Rattle.source_lines.proofs.TurnLemmas.{given}
use Rattle.source_lines.proofs.turn.StreamTurn.new.Goals as goal

pub returns-clause-left : goal.returns-clause-left
returns-clause-left c = λ rows. sym (given (record { id = c.args.id; moment = c.args.moment; every = c.args.every }) c.args.blob rows)
