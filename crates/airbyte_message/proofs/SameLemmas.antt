-- Two lists are the same, element by element; and what being the same keeps.
use Rattle.std.proofs.Common.{◌≡◌, ◌↔◌, ℕ, ◌<◌, List, length, map, get_or, refl, sym, ◌∙◌, ap, false, IsTrue}
use Rattle.std.proofs.lemmas.List.{get_or-map}
use Rattle.json_fields.proofs.AnswerLemmas.{true_false}
use Rattle.airbyte_message.specs.Same.{IsSameKind}
use Rattle.airbyte_message.specs.declared.message.StateKind.{StateKind}
use Rattle.airbyte_message.specs.declared.message.StateKind.TheVariants as kind

-- a test that fails where the fact does not hold
pub fails : (P : Type 0) → ¬ P → IsTrue false ↔ P
fails P none = (λ yes. absurd (true_false (sym yes)), λ p. absurd (none p))

pub maps_differ : {A B : Type 0} (f : A → B) (xs ys : List A) (i : ℕ) (a b : A) → i < length xs → i < length ys → a ≡ get_or xs i a → b ≡ get_or ys i b → ¬ (f a ≡ f b) → ¬ (map f xs ≡ map f ys)
maps_differ f xs ys i a b lx ly ea eb other = λ same.
    other (ap f ea ∙ (sym (get_or-map f xs i a (f a) lx) ∙ (ap (λ l. get_or l i (f a)) same ∙ (get_or-map f ys i b (f a) ly ∙ ap f (sym eb)))))

-- laws
pub same_itself : (a : StateKind) → ¬ (a ≡ kind.Legacy) → IsSameKind a a
same_itself (kind.Stream id blob) other = (refl, refl)
same_itself (kind.Global shared streams) other = (refl, refl)
same_itself kind.Legacy other = absurd (other refl)

pub same_turned : (a b : StateKind) → IsSameKind a b → IsSameKind b a
same_turned (kind.Stream id blob) (kind.Stream other_id other_blob) same = (sym same.0, sym same.1)
same_turned (kind.Global shared streams) (kind.Global other_shared others) same = (sym same.0, sym same.1)
same_turned _ _ same = absurd same

pub same_onward : (a b c : StateKind) → IsSameKind a b → IsSameKind b c → IsSameKind a c
same_onward (kind.Stream id blob) (kind.Stream i x) (kind.Stream j y) same next = (same.0 ∙ next.0, same.1 ∙ next.1)
same_onward (kind.Stream id blob) (kind.Stream i x) _ same next = absurd next
same_onward (kind.Global shared streams) (kind.Global s l) (kind.Global t m) same next = (same.0 ∙ next.0, same.1 ∙ next.1)
same_onward (kind.Global shared streams) (kind.Global s l) _ same next = absurd next
same_onward _ _ _ same next = absurd same
