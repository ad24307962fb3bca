-- What one byte does to a text that is squeezed.
use Rattle.std.proofs.Common.{◌≡◌, ◌≢◌, ℕ, List, ◌∷◌, Bool, true, false, cond, refl, arith, ◌∙◌}
use Rattle.std.specs.Prelude.{◌==◌}
use Rattle.std.proofs.lemmas.Bool.Decides.{nat_tests}
use Rattle.json_squeeze.specs.Squeeze.{is_space, squeezed, in_string, escaped}

pub taken : {A : Type 0} (x : Bool) (a b : A) → x ≡ true → cond x a b ≡ a
taken true a b e = refl
taken false a b e = cc

pub passed : {A : Type 0} (x : Bool) (a b : A) → x ≡ false → cond x a b ≡ b
passed true a b e = cc
passed false a b e = refl

pub equal : (a b : ℕ) → (a == b) ≡ true → a ≡ b
equal a b e = grind (arith, nat_tests)

pub is_equal : (a b : ℕ) → a ≡ b → (a == b) ≡ true
is_equal a b e = grind (arith, nat_tests)

pub unequal : (a b : ℕ) → a ≢ b → (a == b) ≡ false
unequal a b e = grind (arith, nat_tests)

-- white space is below 33
pub small_space : (b : ℕ) → is_space b ≡ true → (b == 34) ≡ false
small_space b e = grind (arith, nat_tests)

pub squeezed-quote : (b : ℕ) (bs : List ℕ) → (b == 34) ≡ true → squeezed (b ∷ bs) ≡ b ∷ in_string bs
squeezed-quote b bs e = taken (b == 34) (b ∷ in_string bs) (cond (is_space b) (squeezed bs) (b ∷ squeezed bs)) e

pub squeezed-space : (b : ℕ) (bs : List ℕ) → is_space b ≡ true → squeezed (b ∷ bs) ≡ squeezed bs
squeezed-space b bs e = passed (b == 34) (b ∷ in_string bs) (cond (is_space b) (squeezed bs) (b ∷ squeezed bs)) (small_space b e) ∙ taken (is_space b) (squeezed bs) (b ∷ squeezed bs) e

pub squeezed-shown : (b : ℕ) (bs : List ℕ) → (b == 34) ≡ false → is_space b ≡ false → squeezed (b ∷ bs) ≡ b ∷ squeezed bs
squeezed-shown b bs e f = passed (b == 34) (b ∷ in_string bs) (cond (is_space b) (squeezed bs) (b ∷ squeezed bs)) e ∙ passed (is_space b) (squeezed bs) (b ∷ squeezed bs) f

pub in_string-quote : (b : ℕ) (bs : List ℕ) → (b == 34) ≡ true → in_string (b ∷ bs) ≡ b ∷ squeezed bs
in_string-quote b bs e = taken (b == 34) (b ∷ squeezed bs) (cond (b == 92) (b ∷ escaped bs) (b ∷ in_string bs)) e

pub in_string-backslash : (b : ℕ) (bs : List ℕ) → (b == 34) ≡ false → (b == 92) ≡ true → in_string (b ∷ bs) ≡ b ∷ escaped bs
in_string-backslash b bs e f = passed (b == 34) (b ∷ squeezed bs) (cond (b == 92) (b ∷ escaped bs) (b ∷ in_string bs)) e ∙ taken (b == 92) (b ∷ escaped bs) (b ∷ in_string bs) f

pub in_string-plain : (b : ℕ) (bs : List ℕ) → (b == 34) ≡ false → (b == 92) ≡ false → in_string (b ∷ bs) ≡ b ∷ in_string bs
in_string-plain b bs e f = passed (b == 34) (b ∷ squeezed bs) (cond (b == 92) (b ∷ escaped bs) (b ∷ in_string bs)) e ∙ passed (b == 92) (b ∷ escaped bs) (b ∷ in_string bs) f
