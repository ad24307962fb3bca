-- A finished load is not incomplete.
use Rattle.std.proofs.Common.{arith, ◌≡◌, List, ◌∷◌, sym, ◌∙◌, subst}
use Rattle.load_rules.specs.Loads.{Load}
use Rattle.load_rules.specs.Finished.{IsComplete}
use Rattle.load_rules.specs.Laws.{FinishedIsComplete}

same_first : (a b : Load) (xs ys : List Load) → a ∷ xs ≡ b ∷ ys → a ≡ b
same_first a b xs ys e = grind (arith, e)

pub finished_is_complete : FinishedIsComplete
finished_is_complete streams read trace number finished open_one =
    let same = same_first finished.load open_one.load finished.done.older open_one.done.older (sym finished.done.last ∙ open_one.done.last)
    in open_one.incomplete (subst (λ load. IsComplete read load open_one.stream) same (finished.complete number open_one.stream open_one.configured))
