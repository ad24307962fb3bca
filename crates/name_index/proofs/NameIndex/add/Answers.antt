use Rattle.std.proofs.Common.{ap, ◌∙◌, List, ℕ}
use Rattle.name_index.specs.Named.{with_name}
use Rattle.name_index.proofs.NameLemmas.{distinct, grown, held, stored}
use Rattle.name_index.proofs.NameIndex.add.Goals as goal

pub invariant_of-self-2 : goal.invariant_of-self-2
invariant_of-self-2 c = distinct c.insert_full.new.self.keys c.insert_full.ensures.unique

pub returns-clause-place : goal.returns-clause-place
returns-clause-place c =
    let at = c.in_ok-place.ensures.stored in
    stored c.insert_full.new.self.keys c.in_ok-from_str.field-0 at.0 c.in_ok-place.place c.args.name.now c.in_ok-from_str.ensures.ok at.1 at.2

pub returns-clause-grown : goal.returns-clause-grown
returns-clause-grown c =
    ap held c.in_ok-place.ensures.keys ∙ grown c.self.inside.names.keys c.in_ok-from_str.field-0 c.args.name.now c.in_ok-from_str.ensures.ok
    ∙ ap (λ (names : List (List ℕ)). with_name names c.args.name.now) c.self.view_is
