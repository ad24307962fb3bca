use Rattle.std.proofs.Common.{subst, List}
use Rattle.basics.specs.declared.stream.StreamId.{StreamId}
use Rattle.stream_index.specs.Distinct.{AreDistinct}
use Rattle.stream_index.proofs.IndexLemmas.{distinct}
use Rattle.stream_index.proofs.StreamIndex.as_slice.Goals as goal

pub returns-clause-distinct : goal.returns-clause-distinct
returns-clause-distinct c = subst (λ (ids : List StreamId). AreDistinct ids) c.self.view_is (distinct c.self.inside.ids.keys c.as_slice.ensures.unique)
