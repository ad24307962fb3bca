use Rattle.std.proofs.Common.{◌∙◌, List, ℕ, ◌∷◌, sym, ap}
use Rattle.column_types.proofs.ValueLemmas.{root_walked, root_itself, no_length}
use Rattle.column_types.proofs.value.value_in.Goals as goal

pub returns-in-None-2 : goal.returns-in-None-2
returns-in-None-2 c =
    let none = rw c.in-None-2.is at c.in_ok-held-in-Some.ensures.field in
    root_walked c.args.body.now c.as_str.result.now c.in-Some.names.now c.args.path.now c.args.is_instant c.args.members.now c.requires.are
    (sym c.as_slice.ensures ∙ c.in-Some.ensures.cases.0 ∙ ap (λ (n : List ℕ). n ∷ c.in-Some.names.now) (sym c.as_str.ensures)) none

pub returns-in_ok-squeeze-in-None : goal.returns-in_ok-squeeze-in-None
returns-in_ok-squeeze-in-None c =
    root_itself c.args.body.now c.in_ok-squeeze-in-None.field-0 c.args.path.now c.args.is_instant c.args.members.now c.requires.are (sym c.as_slice.ensures ∙ no_length c.as_slice.result.now c.in-None.ensures.cases) c.in_ok-squeeze-in-None.ensures.squeezed
