use Rattle.std.proofs.Common.{map, take}
use Rattle.json_span.specs.Members.{text_at}
use Rattle.json_span.specs.declared.Span.{Span}
use Rattle.batch_prep.proofs.WrittenLemmas.{elements_more}
use Rattle.batch_prep.proofs.changes.put_elements.Goals as goal

abbrev no_span : Span
no_span = record { start = 0; end = 0 }

pub loop-span-preserved : goal.loop-span-preserved
loop-span-preserved c =
    elements_more c.args.list.now c.args.spans.now c.loop-span.span-index no_span c.loop-span.changes c.put.new.self c.of.result.now c.loop-span-test.true c.of.ensures
    (c.in_ok-put.ensures (map (text_at c.args.list.now) (take c.loop-span.span-index c.args.spans.now)) c.loop-span.invariant)
