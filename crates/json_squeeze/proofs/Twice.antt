-- Squeezing twice is squeezing once.
use Rattle.std.proofs.Common.{◌≡◌, ℕ, List, [], ◌∷◌, Bool, true, false, cond, refl, ap, ◌∙◌}
use Rattle.std.specs.Prelude.{◌==◌}
use Rattle.json_squeeze.specs.Squeeze.{is_space, squeezed, in_string, escaped}
use Rattle.json_squeeze.proofs.Bytes.{squeezed-quote, squeezed-shown, in_string-quote, in_string-backslash, in_string-plain}

outside_again : (b : ℕ) (bs : List ℕ) → squeezed (squeezed bs) ≡ squeezed bs → in_string (in_string bs) ≡ in_string bs → squeezed (squeezed (b ∷ bs)) ≡ squeezed (b ∷ bs)
outside_again b bs outside inside = by_case (b == 34) (is_space b) refl refl
  where
    by_case : (x y : Bool) → (b == 34) ≡ x → is_space b ≡ y → squeezed (cond x (b ∷ in_string bs) (cond y (squeezed bs) (b ∷ squeezed bs))) ≡ cond x (b ∷ in_string bs) (cond y (squeezed bs) (b ∷ squeezed bs))
    by_case true y e f = squeezed-quote b (in_string bs) e ∙ ap (λ (l : List ℕ). b ∷ l) inside
    by_case false true e f = outside
    by_case false false e f = squeezed-shown b (squeezed bs) e f ∙ ap (λ (l : List ℕ). b ∷ l) outside

inside_again : (b : ℕ) (bs : List ℕ) → squeezed (squeezed bs) ≡ squeezed bs → in_string (in_string bs) ≡ in_string bs → escaped (escaped bs) ≡ escaped bs → in_string (in_string (b ∷ bs)) ≡ in_string (b ∷ bs)
inside_again b bs outside inside behind = by_case (b == 34) (b == 92) refl refl
  where
    by_case : (x y : Bool) → (b == 34) ≡ x → (b == 92) ≡ y → in_string (cond x (b ∷ squeezed bs) (cond y (b ∷ escaped bs) (b ∷ in_string bs))) ≡ cond x (b ∷ squeezed bs) (cond y (b ∷ escaped bs) (b ∷ in_string bs))
    by_case true y e f = in_string-quote b (squeezed bs) e ∙ ap (λ (l : List ℕ). b ∷ l) outside
    by_case false true e f = in_string-backslash b (escaped bs) e f ∙ ap (λ (l : List ℕ). b ∷ l) behind
    by_case false false e f = in_string-plain b (in_string bs) e f ∙ ap (λ (l : List ℕ). b ∷ l) inside

mutual
  pub squeezed-twice : (bs : List ℕ) → squeezed (squeezed bs) ≡ squeezed bs
  squeezed-twice [] = refl
  squeezed-twice (b ∷ bs) = outside_again b bs (squeezed-twice bs) (in_string-twice bs)

  in_string-twice : (bs : List ℕ) → in_string (in_string bs) ≡ in_string bs
  in_string-twice [] = refl
  in_string-twice (b ∷ bs) = inside_again b bs (squeezed-twice bs) (in_string-twice bs) (escaped-twice bs)

  escaped-twice : (bs : List ℕ) → escaped (escaped bs) ≡ escaped bs
  escaped-twice [] = refl
  escaped-twice (b ∷ bs) = ap (λ (l : List ℕ). b ∷ l) (in_string-twice bs)
