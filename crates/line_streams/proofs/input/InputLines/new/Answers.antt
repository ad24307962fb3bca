use Rattle.std.proofs.Common.{ap}
use Rattle.piecewise_lines.specs.Unread.{Unread}
use Rattle.line_streams.proofs.InputLemmas.{nothing_read}
use Rattle.line_streams.proofs.input.InputLines.new.Goals as goal

pub returns-clause-to_come : goal.returns-clause-to_come
returns-clause-to_come g c = nothing_read c.new.result.bytes (g.I.Source.left c.args.source) (ap (λ (u : Unread). u.bytes) c.new.ensures)
