use Rattle.std.proofs.Common.{subst, List, ℕ, Some, slice_get, ◌≡◌, IsTrue}
use Rattle.basics.specs.declared.stream.StreamId.{StreamId}
use Rattle.stream_index.proofs.IndexLemmas.{new_is}
use Rattle.stream_index.proofs.StreamIndex.add.Goals as goal

pub returns-clause-new : goal.returns-clause-new
returns-clause-new c = subst (λ (ids : List StreamId). (IsTrue c.in_ok-added.added → (place : ℕ) → ¬ (slice_get ids place ≡ Some c.args.id)) × (((place : ℕ) → ¬ (slice_get ids place ≡ Some c.args.id)) → IsTrue c.in_ok-added.added)) c.self.view_is (new_is c.self.inside.ids.keys c.args.id c.in_ok-added.added c.in_ok-added.ensures.added)
