use Rattle.std.proofs.Common.{true, false, sym, ◌∙◌}
use Rattle.source_lines.proofs.BeginLemmas.{unknown_at}
use Rattle.source_lines.proofs.begin.unknown_stream.Goals as goal

pub returns-then-not-knows_id : goal.returns-then-not-knows_id
returns-then-not-knows_id g c =
    sym (c.loop-number.invariant ∙ unknown_at (g.S.StreamSource.seen c.args.source.now).is_known c.args.streams.now c.loop-number.number c.stream.result.now false c.stream.ensures.stream (sym c.knows_id.ensures ∙ c.if-not-knows_id.true))

pub loop-number-preserved : goal.loop-number-preserved
loop-number-preserved g c =
    c.loop-number.invariant ∙ unknown_at (g.S.StreamSource.seen c.args.source.now).is_known c.args.streams.now c.loop-number.number c.stream.result.now true c.stream.ensures.stream (sym c.knows_id.ensures ∙ c.if-not-knows_id.false)
