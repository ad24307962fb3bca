-- What a known `Option` tells of its parts, and what holds of the value in one.
use Rattle.std.proofs.Common.{◌≡◌, Bool, true, false, cond, Option, Some, None, option_map, option_and_then, refl}
use Rattle.std.specs.Option.{IfSome, IfNone}

pub some_inj : {A : Type 0} (a b : A) → Some a ≡ Some b → a ≡ b
some_inj a b e = cc

pub from_cond : {A : Type 0} (b : Bool) (a r : A) → cond b None (Some a) ≡ Some r → (b ≡ false) × (a ≡ r)
from_cond true a r e = cc
from_cond false a r e = (refl, cc)

pub from_test : {A : Type 0} (b : Bool) (o : Option A) (r : A) → cond b o None ≡ Some r → (b ≡ true) × (o ≡ Some r)
from_test true o r e = (refl, e)
from_test false o r e = cc

pub from_map : {A B : Type 0} (f : A → B) (o : Option A) (r : B) → option_map f o ≡ Some r → (a : A) × (o ≡ Some a) × (f a ≡ r)
from_map f None r e = cc
from_map f (Some a) r e = (a, refl, cc)

pub from_and_then : {A B : Type 0} (f : A → Option B) (o : Option A) (r : B) → option_and_then f o ≡ Some r → (a : A) × (o ≡ Some a) × (f a ≡ Some r)
from_and_then f None r e = cc
from_and_then f (Some a) r e = (a, refl, e)

pub some_both : {A : Type 0} {P Q R : A → Type 0} (o : Option A) → IfSome o P → IfSome o Q → ((a : A) → P a → Q a → R a) → IfSome o R
some_both None p q f = tt
some_both (Some a) p q f = f a p q

pub none_then : {A P Q : Type 0} (o : Option A) → IfNone o P → (P → Q) → IfNone o Q
none_then None p f = f p
none_then (Some a) p f = tt
