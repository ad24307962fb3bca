-- Texts that are written part by part.
use Rattle.std.proofs.Common.{◌≡◌, ℕ, List, [], ◌++◌, ap, ◌∙◌, append_assoc}

-- five parts, of which the second and the fourth are known by other names
pub five_parts : (a name' name b held' held d t0 t1 t2 t3 t4 t5 : List ℕ) → t0 ≡ [] → t1 ≡ t0 ++ a → t2 ≡ t1 ++ name' → t3 ≡ t2 ++ b → t4 ≡ t3 ++ held' → t5 ≡ t4 ++ d → name' ≡ name → held' ≡ held → t5 ≡ (a ++ (name ++ b)) ++ (held ++ d)
five_parts a name' name b held' held d t0 t1 t2 t3 t4 t5 e0 e1 e2 e3 e4 e5 en eh =
    let f1 : t1 ≡ a = e1 ∙ ap (λ (t : List ℕ). t ++ a) e0 in
    let f2 : t2 ≡ a ++ name = e2 ∙ (ap (λ (t : List ℕ). t ++ name') f1 ∙ ap (λ (n : List ℕ). a ++ n) en) in
    let f3 : t3 ≡ (a ++ name) ++ b = e3 ∙ ap (λ (t : List ℕ). t ++ b) f2 in
    let f4 : t4 ≡ ((a ++ name) ++ b) ++ held = e4 ∙ (ap (λ (t : List ℕ). t ++ held') f3 ∙ ap (λ (h : List ℕ). ((a ++ name) ++ b) ++ h) eh) in
    e5 ∙ (ap (λ (t : List ℕ). t ++ d) f4 ∙ regrouped)
  where
    regrouped : ((((a ++ name) ++ b) ++ held) ++ d) ≡ (a ++ (name ++ b)) ++ (held ++ d)
    regrouped = simp append_assoc
