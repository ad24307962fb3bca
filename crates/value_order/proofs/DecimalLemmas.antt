-- Decimals with the same parts are equal.
use Rattle.std.proofs.Common.{◌≡◌, ℕ, ℤ, Bool, ap, subst}
use Rattle.std.proofs.Props.{props}
use Rattle.value_order.specs.Normal.{IsNormal}
use Rattle.value_order.specs.declared.decimal.Decimal.{Decimal}

made : (n : Bool) (d : ℕ) (e : ℤ) → IsNormal n d e → Decimal
made n d e p = record { negative = n; digits = d; exponent = e; normal = p }

normal-prop : (n : Bool) (d : ℕ) (e : ℤ) → IsProp (IsNormal n d e)
normal-prop n d e = hlevel props

same_normal : (n : Bool) (d : ℕ) (e : ℤ) (p q : IsNormal n d e) → made n d e p ≡ made n d e q
unfolding made
same_normal n d e p q = ap (made n d e) (normal-prop n d e p q)

same_made : (n m : Bool) (d f : ℕ) (e g : ℤ) (p : IsNormal n d e) → n ≡ m → d ≡ f → e ≡ g → (q : IsNormal m f g) → made n d e p ≡ made m f g q
same_made n m d f e g p sign digits exponent =
    subst (λ (m : Bool). (q : IsNormal m f g) → made n d e p ≡ made m f g q) sign
    (subst (λ (f : ℕ). (q : IsNormal n f g) → made n d e p ≡ made n f g q) digits
    (subst (λ (g : ℤ). (q : IsNormal n d g) → made n d e p ≡ made n d g q) exponent (same_normal n d e p)))

pub same_decimal : (a b : Decimal) → a.negative ≡ b.negative → a.digits ≡ b.digits → a.exponent ≡ b.exponent → a ≡ b
unfolding made
same_decimal a b sign digits exponent = same_made a.negative b.negative a.digits b.digits a.exponent b.exponent a.normal sign digits exponent b.normal
