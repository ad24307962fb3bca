use Rattle.name_index.proofs.NameLemmas.{distinct}
use Rattle.name_index.proofs.NameIndex.new.Goals as goal

pub invariant_of-result : goal.invariant_of-result
invariant_of-result c = distinct c.new.result.keys c.new.ensures.unique
