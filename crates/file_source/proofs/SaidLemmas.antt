-- An object of five members.
use Rattle.std.proofs.Common.{◌≡◌, ℕ, List, [], ◌∷◌, ◌++◌}
use Rattle.json_write.specs.Objects.{Part, more_text, object_text, open_object}
use Rattle.json_write.proofs.Texts.{closes, grows}

pub five : (a b c d e f : List ℕ) (p q r s t : Part) → a ≡ [] ++ open_object (p ∷ []) → b ≡ a ++ more_text (q ∷ []) → c ≡ b ++ more_text (r ∷ []) → d ≡ c ++ more_text (s ∷ []) → e ≡ d ++ more_text (t ∷ []) → f ≡ e ++ 125 ∷ []
    → f ≡ object_text (p ∷ q ∷ r ∷ s ∷ t ∷ [])
five a b c d e f p q r s t a_is b_is c_is d_is e_is f_is =
    let two = grows [] a b p [] (q ∷ []) a_is b_is in
    let three = grows [] b c p (q ∷ []) (r ∷ []) two c_is in
    let four = grows [] c d p (q ∷ r ∷ []) (s ∷ []) three d_is in
    closes [] e f p (q ∷ r ∷ s ∷ t ∷ []) (grows [] d e p (q ∷ r ∷ s ∷ []) (t ∷ []) four e_is) f_is
