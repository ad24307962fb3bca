use Rattle.json_span.specs.Lists.{NoArrayBefore}
use Rattle.json_span.proofs.lists.first_array.Given as goal

abbrev pub invariant-loop-index : goal.invariant-loop-index
invariant-loop-index l = NoArrayBefore l.text l.members l.index
