use Rattle.std.proofs.Common.{subst, List, ℕ, Some, slice_get, ◌≡◌, IfSome, IfNone}
use Rattle.name_index.proofs.NameLemmas.{found_is, none_is}
use Rattle.name_index.proofs.NameIndex.find.Goals as goal

pub returns-clause-found : goal.returns-clause-found
returns-clause-found c = subst (λ (names : List (List ℕ)). IfSome c.get_index_of.result (λ place. slice_get names place ≡ Some c.args.name.now)) c.self.view_is (found_is c.args.name.now c.self.inside.names.keys c.get_index_of.result c.get_index_of.ensures.index)

pub returns-clause-none : goal.returns-clause-none
returns-clause-none c = subst (λ (names : List (List ℕ)). IfNone c.get_index_of.result ((place : ℕ) → ¬ (slice_get names place ≡ Some c.args.name.now))) c.self.view_is (none_is c.args.name.now c.self.inside.names.keys c.get_index_of.result c.get_index_of.ensures.found)
