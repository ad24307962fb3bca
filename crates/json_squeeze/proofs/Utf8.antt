-- What is UTF-8 stays UTF-8 without its white space.
use Rattle.std.proofs.Common.{◌≡◌, ℕ, suc, ◌+◌, ◌<◌, List, [], ◌∷◌, ◌++◌, Bool, true, false, cond, length, take, drop, get_or, refl, sym, ap, subst, ◌∙◌, arith, length-append, append_assoc, add-one}
use Rattle.std.specs.Prelude.{◌==◌, IsUtf8}
use Rattle.std.proofs.Math.Seq.{take-append_seam}
use Rattle.std.proofs.lemmas.Bool.Decides.{nat_tests}
use Rattle.std.proofs.lemmas.Str.{IsUtf8-append, IsUtf8-take, IsUtf8-drop, IsCharBoundary-before_ascii, IsCharBoundary-after_ascii}
use Rattle.json_squeeze.specs.Squeeze.{is_space, squeezed, in_string, escaped}

get_or-seam : (front : List ℕ) (b : ℕ) (back : List ℕ) → get_or (front ++ b ∷ back) (length front) 0 ≡ b
get_or-seam [] b back = refl
get_or-seam (x ∷ front) b back = get_or-seam front b back

drop-past : (front : List ℕ) (b : ℕ) (back : List ℕ) → drop (suc (length front)) (front ++ b ∷ back) ≡ back
drop-past [] b back = refl
drop-past (x ∷ front) b back = drop-past front b back

space_small : (b : ℕ) → is_space b ≡ true → b < 128
space_small b e = grind (arith, nat_tests)

-- a byte below 128 may go
without : (front : List ℕ) (b : ℕ) (back : List ℕ) → b < 128 → IsUtf8 (front ++ b ∷ back) → IsUtf8 (front ++ back)
without front b back small u =
    let text = front ++ b ∷ back in
    let size : length text ≡ length front + suc (length back) = length-append front (b ∷ back) in
    let here : get_or text (length front) 0 < 128 = subst (λ (n : ℕ). n < 128) (sym (get_or-seam front b back)) small in
    let front_is : IsUtf8 (take (length front) text) = IsUtf8-take text (length front) u (IsCharBoundary-before_ascii text (length front) (omega arith) here) in
    let back_is : IsUtf8 (drop (length front + 1) text) = IsUtf8-drop text (length front + 1) u (IsCharBoundary-after_ascii text (length front) u (omega arith) here) in
    let back_eq : drop (length front + 1) text ≡ back = ap (λ (n : ℕ). drop n text) (add-one (length front)) ∙ drop-past front b back in
    IsUtf8-append front back
    (subst (λ (l : List ℕ). IsUtf8 l) (take-append_seam front (b ∷ back)) front_is)
    (subst (λ (l : List ℕ). IsUtf8 l) back_eq back_is)

-- a byte that stays goes to the front
moved_in : (front : List ℕ) (b : ℕ) (bs : List ℕ) → IsUtf8 (front ++ b ∷ bs) → IsUtf8 ((front ++ b ∷ []) ++ bs)
moved_in front b bs u = subst (λ (l : List ℕ). IsUtf8 l) (sym (append_assoc front (b ∷ []) bs)) u

moved_out : (front : List ℕ) (b : ℕ) (bs : List ℕ) → IsUtf8 ((front ++ b ∷ []) ++ bs) → IsUtf8 (front ++ b ∷ bs)
moved_out front b bs u = subst (λ (l : List ℕ). IsUtf8 l) (append_assoc front (b ∷ []) bs) u

-- whatever stands in front
abbrev Keeps : (List ℕ → List ℕ) → List ℕ → Type 0
Keeps f bs = (front : List ℕ) → IsUtf8 (front ++ bs) → IsUtf8 (front ++ f bs)

outside_keeps : (b : ℕ) (bs : List ℕ) → Keeps squeezed bs → Keeps in_string bs → Keeps squeezed (b ∷ bs)
outside_keeps b bs outside inside front u = by_case (b == 34) (is_space b) refl refl
  where
    by_case : (x y : Bool) → (b == 34) ≡ x → is_space b ≡ y → IsUtf8 (front ++ cond x (b ∷ in_string bs) (cond y (squeezed bs) (b ∷ squeezed bs)))
    by_case true y e f = moved_out front b (in_string bs) (inside (front ++ b ∷ []) (moved_in front b bs u))
    by_case false true e f = outside front (without front b bs (space_small b f) u)
    by_case false false e f = moved_out front b (squeezed bs) (outside (front ++ b ∷ []) (moved_in front b bs u))

inside_keeps : (b : ℕ) (bs : List ℕ) → Keeps squeezed bs → Keeps in_string bs → Keeps escaped bs → Keeps in_string (b ∷ bs)
inside_keeps b bs outside inside behind front u = by_case (b == 34) (b == 92)
  where
    by_case : (x y : Bool) → IsUtf8 (front ++ cond x (b ∷ squeezed bs) (cond y (b ∷ escaped bs) (b ∷ in_string bs)))
    by_case true y = moved_out front b (squeezed bs) (outside (front ++ b ∷ []) (moved_in front b bs u))
    by_case false true = moved_out front b (escaped bs) (behind (front ++ b ∷ []) (moved_in front b bs u))
    by_case false false = moved_out front b (in_string bs) (inside (front ++ b ∷ []) (moved_in front b bs u))

mutual
  squeezed-keeps : (bs : List ℕ) → Keeps squeezed bs
  squeezed-keeps [] = λ front u. u
  squeezed-keeps (b ∷ bs) = outside_keeps b bs (squeezed-keeps bs) (in_string-keeps bs)

  in_string-keeps : (bs : List ℕ) → Keeps in_string bs
  in_string-keeps [] = λ front u. u
  in_string-keeps (b ∷ bs) = inside_keeps b bs (squeezed-keeps bs) (in_string-keeps bs) (escaped-keeps bs)

  escaped-keeps : (bs : List ℕ) → Keeps escaped bs
  escaped-keeps [] = λ front u. u
  escaped-keeps (b ∷ bs) = λ front u. moved_out front b (in_string bs) (in_string-keeps bs (front ++ b ∷ []) (moved_in front b bs u))

pub squeezed-utf8 : (text : List ℕ) → IsUtf8 text → IsUtf8 (squeezed text)
squeezed-utf8 text u = squeezed-keeps text [] u
