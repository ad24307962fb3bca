-- Texts of tables, as they are put together.
use Rattle.std.proofs.Common.{◌≡◌, ◌∙◌, ℕ, ◌+◌, ◌<◌, List, [], ◌∷◌, ◌++◌, length, take, get_or, map, Option, None, Some, refl, sym, ap}
use Rattle.std.proofs.lemmas.List.{take_more, map-append}
use Rattle.json_write.specs.Objects.{Part, object_text, open_object, more_text, optional}
use Rattle.json_write.proofs.Texts.{grows, closes}

-- one element more of a mapped list
pub mapped_more : {A B : Type 0} (f : A → B) (xs : List A) (at : ℕ) (x : A) (made now : List B)
    → at < length xs → x ≡ get_or xs at x → made ≡ map f (take at xs) → now ≡ made ++ f x ∷ [] → now ≡ map f (take (at + 1) xs)
mapped_more {A} {B} f xs at x made now within is so_far now_is =
    now_is ∙ ap (λ (l : List B). l ++ f x ∷ []) so_far ∙ sym (map-append f (take at xs) (x ∷ []))
    ∙ ap (map f) (sym (take_more xs at x within ∙ ap (λ (e : A). take at xs ++ e ∷ []) (sym is)))

joined : (one two : List ℕ) (first second : Option (List ℕ)) (last : Part) → (optional one first [] ++ optional two second []) ++ last ∷ [] ≡ optional one first (optional two second (last ∷ []))
joined one two None None last = refl
joined one two None (Some second) last = refl
joined one two (Some first) None last = refl
joined one two (Some first) (Some second) last = refl

-- an object of four members, two that may be absent, and a last one
pub seven : (a b c d e f g h : List ℕ) (p q r s last : Part) (one two : List ℕ) (first second : Option (List ℕ))
    → a ≡ [] ++ open_object (p ∷ []) → b ≡ a ++ more_text (q ∷ []) → c ≡ b ++ more_text (r ∷ []) → d ≡ c ++ more_text (s ∷ [])
    → e ≡ d ++ more_text (optional one first []) → f ≡ e ++ more_text (optional two second []) → g ≡ f ++ more_text (last ∷ []) → h ≡ g ++ 125 ∷ []
    → h ≡ object_text (p ∷ q ∷ r ∷ s ∷ optional one first (optional two second (last ∷ [])))
seven a b c d e f g h p q r s last one two first second a_is b_is c_is d_is e_is f_is g_is h_is =
    let four : d ≡ [] ++ open_object (p ∷ q ∷ r ∷ s ∷ []) = grows [] c d p (q ∷ r ∷ []) (s ∷ []) (grows [] b c p (q ∷ []) (r ∷ []) (grows [] a b p [] (q ∷ []) a_is b_is) c_is) d_is in
    let both : f ≡ [] ++ open_object (p ∷ (q ∷ r ∷ s ∷ optional one first []) ++ optional two second []) =
    grows [] e f p (q ∷ r ∷ s ∷ optional one first []) (optional two second []) (grows [] d e p (q ∷ r ∷ s ∷ []) (optional one first []) four e_is) f_is in
    let whole = grows [] f g p ((q ∷ r ∷ s ∷ optional one first []) ++ optional two second []) (last ∷ []) both g_is in
    closes [] g h p (((q ∷ r ∷ s ∷ optional one first []) ++ optional two second []) ++ last ∷ []) whole h_is
    ∙ ap (λ (parts : List Part). object_text (p ∷ q ∷ r ∷ s ∷ parts)) (joined one two first second last)
