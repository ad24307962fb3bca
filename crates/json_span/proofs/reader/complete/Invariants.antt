use Rattle.json_span.proofs.Reading.{IsComplete}
use Rattle.json_span.proofs.reader.complete.Given as goal

abbrev pub invariant-loop-index : goal.invariant-loop-index
invariant-loop-index l = IsComplete l.text l.outer l.inner l.index
