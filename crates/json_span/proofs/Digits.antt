-- The class of a decimal digit.
use Rattle.std.proofs.Common.{◌≡◌, ℕ, zero, suc, ◌+◌, ◌<◌, ◌⊎◌, inl, inr, refl, arith}
use Rattle.json_span.specs.Table.{class_of}
use Rattle.json_span.specs.declared.class.Class.TheVariants as class

-- a digit is 0, or another
pub digit_class : (v : ℕ) → v < 10 → ((v ≡ 0) × (class_of (48 + v) ≡ class.Zero)) ⊎ ((0 < v) × (class_of (48 + v) ≡ class.Digit))
digit_class zero h = inl (refl, refl)
digit_class (suc zero) h = inr (omega arith, refl)
digit_class (suc (suc zero)) h = inr (omega arith, refl)
digit_class (suc (suc (suc zero))) h = inr (omega arith, refl)
digit_class (suc (suc (suc (suc zero)))) h = inr (omega arith, refl)
digit_class (suc (suc (suc (suc (suc zero))))) h = inr (omega arith, refl)
digit_class (suc (suc (suc (suc (suc (suc zero)))))) h = inr (omega arith, refl)
digit_class (suc (suc (suc (suc (suc (suc (suc zero))))))) h = inr (omega arith, refl)
digit_class (suc (suc (suc (suc (suc (suc (suc (suc zero)))))))) h = inr (omega arith, refl)
digit_class (suc (suc (suc (suc (suc (suc (suc (suc (suc zero))))))))) h = inr (omega arith, refl)
digit_class (suc (suc (suc (suc (suc (suc (suc (suc (suc (suc v)))))))))) h = absurd (omega arith)
