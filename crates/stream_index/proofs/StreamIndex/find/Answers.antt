use Rattle.std.proofs.Common.{subst, List, ℕ, Some, slice_get, ◌≡◌, IfSome, IfNone}
use Rattle.basics.specs.declared.stream.StreamId.{StreamId}
use Rattle.stream_index.proofs.IndexLemmas.{found_is, none_is}
use Rattle.stream_index.proofs.StreamIndex.find.Goals as goal

pub returns-clause-found : goal.returns-clause-found
returns-clause-found c = subst (λ (ids : List StreamId). IfSome c.get_index_of.result (λ place. slice_get ids place ≡ Some c.args.id.now)) c.self.view_is (found_is c.self.inside.ids.keys c.args.id.now c.get_index_of.result c.get_index_of.ensures.index)

pub returns-clause-none : goal.returns-clause-none
returns-clause-none c = subst (λ (ids : List StreamId). IfNone c.get_index_of.result ((place : ℕ) → ¬ (slice_get ids place ≡ Some c.args.id.now))) c.self.view_is (none_is c.self.inside.ids.keys c.args.id.now c.get_index_of.result c.get_index_of.ensures.found)
