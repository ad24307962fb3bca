-- What a text begins with, when it goes on to grow.
use Rattle.std.proofs.Common.{◌≡◌, ℕ, List, ◌++◌, length, take, drop, sym, ap, ◌∙◌, subst, append_assoc}
use Rattle.std.proofs.Math.Seq.{take-append_seam}
use Rattle.std.proofs.lemmas.List.{take-append-drop}
use Rattle.json_write.specs.Fronts.{IsFrontOf}

-- the front of a text that itself begins with a front
pub front_grown : (a more c : List ℕ) → IsFrontOf (a ++ more) c → IsFrontOf a c
front_grown a more c h = go (drop (length (a ++ more)) c) (sym (take-append-drop (length (a ++ more)) c) ∙ ap (λ (t : List ℕ). t ++ drop (length (a ++ more)) c) h)
  where
    go : (rest : List ℕ) → c ≡ (a ++ more) ++ rest → take (length a) c ≡ a
    go rest e = ap (λ (t : List ℕ). take (length a) t) (e ∙ append_assoc a more rest) ∙ take-append_seam a (more ++ rest)

pub front_of_grown : (a b more c : List ℕ) → b ≡ a ++ more → IsFrontOf b c → IsFrontOf a c
front_of_grown a b more c e h = front_grown a more c (subst (λ (t : List ℕ). IsFrontOf t c) e h)
