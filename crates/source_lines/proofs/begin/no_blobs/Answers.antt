use Rattle.std.proofs.Common.{List, ℕ, [], ◌∷◌, ◌++◌, Option, None, ◌∙◌, ap}
use Rattle.source_lines.proofs.BeginLemmas.{none_behind}
use Rattle.source_lines.proofs.begin.no_blobs.Goals as goal

pub loop-i-preserved : goal.loop-i-preserved
loop-i-preserved c =
    c.in_ok-push.ensures.ok ∙ ap (λ (blobs : List (Option (List ℕ))). blobs ++ None ∷ []) c.loop-i.invariant ∙ none_behind c.loop-i._i
