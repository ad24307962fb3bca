-- The members whose keys are not left out: one more member at the end, and that there is one such list.
use Rattle.std.proofs.Common.{◌≡◌, ◌⊎◌, inl, inr, ℕ, List, [], ◌∷◌, ◌++◌, refl, sym, ◌∙◌, ap, subst, arith, ◌<◌, ◌+◌, length, take, slice_index_or, All}
use Rattle.std.proofs.lemmas.List.{take_more}
use Rattle.std.proofs.lemmas.List.Elements.{All-append, All-cons}
use Rattle.json_scalar.specs.Text.{IsString}
use Rattle.json_span.specs.Members.{IsMemberOf, text_at}
use Rattle.json_span.specs.declared.Member.{Member}
use Rattle.json_fields.specs.Parts.{Keeps, Without}

module _ (IsLeftOut : List ℕ → Type 0) (text : List ℕ) where
  -- one more member at the end
  dropped : (members kept : List Member) (m : Member) → Keeps IsLeftOut text members kept → IsLeftOut (text_at text m.key) → Keeps IsLeftOut text (members ++ m ∷ []) kept
  dropped [] kept m h out = ([], refl, inl (out, h))
  dropped (x ∷ members) kept m h out = (h.0, dropped members h.0 m h.1 out, h.2)

  more : (x m : Member) (others kept : List Member) → (IsLeftOut (text_at text x.key) × (kept ≡ others)) ⊎ ((¬ IsLeftOut (text_at text x.key)) × (kept ≡ x ∷ others)) → (IsLeftOut (text_at text x.key) × (kept ++ m ∷ [] ≡ others ++ m ∷ [])) ⊎ ((¬ IsLeftOut (text_at text x.key)) × (kept ++ m ∷ [] ≡ x ∷ (others ++ m ∷ [])))
  more x m others kept (inl h) = inl (h.0, ap (λ (k : List Member). k ++ m ∷ []) h.1)
  more x m others kept (inr h) = inr (h.0, ap (λ (k : List Member). k ++ m ∷ []) h.1)

  added : (members kept : List Member) (m : Member) → Keeps IsLeftOut text members kept → ¬ IsLeftOut (text_at text m.key) → Keeps IsLeftOut text (members ++ m ∷ []) (kept ++ m ∷ [])
  added [] kept m h other = ([], refl, inr (other, ap (λ (k : List Member). k ++ m ∷ []) h))
  added (x ∷ members) kept m h other = (h.0 ++ m ∷ [], added members h.0 m h.1 other, more x m h.0 kept h.2)

  -- a loop over the members goes on by one
  pub step_dropped : (members : List Member) (i : ℕ) (d : Member) (key : List ℕ) (kept : List Member) → i < length members → key ≡ text_at text (slice_index_or members i d).key → IsLeftOut key → Keeps IsLeftOut text (take i members) kept → Keeps IsLeftOut text (take (i + 1) members) kept
  step_dropped members i d key kept lt is out h =
      subst (λ (ms : List Member). Keeps IsLeftOut text ms kept) (sym (take_more members i d lt)) (dropped (take i members) kept (slice_index_or members i d) h (subst IsLeftOut is out))

  pub step_added : (members : List Member) (i : ℕ) (d : Member) (key : List ℕ) (kept : List Member) → i < length members → key ≡ text_at text (slice_index_or members i d).key → ¬ IsLeftOut key → Keeps IsLeftOut text (take i members) kept → Keeps IsLeftOut text (take (i + 1) members) (kept ++ slice_index_or members i d ∷ [])
  step_added members i d key kept lt is other h =
      subst (λ (ms : List Member). Keeps IsLeftOut text ms (kept ++ slice_index_or members i d ∷ [])) (sym (take_more members i d lt)) (added (take i members) kept (slice_index_or members i d) h (λ out. other (subst IsLeftOut (sym is) out)))

  -- there is one such list
  pub keeps_only : (members kept others : List Member) → Keeps IsLeftOut text members kept → Keeps IsLeftOut text members others → others ≡ kept
  keeps_only [] kept others h g = g ∙ sym h
  keeps_only (m ∷ members) kept others h g = go h.0 g.0 (keeps_only members h.0 g.0 h.1 g.1) h.2 g.2
    where
      go : (a b : List Member) → b ≡ a → (IsLeftOut (text_at text m.key) × (kept ≡ a)) ⊎ ((¬ IsLeftOut (text_at text m.key)) × (kept ≡ m ∷ a)) → (IsLeftOut (text_at text m.key) × (others ≡ b)) ⊎ ((¬ IsLeftOut (text_at text m.key)) × (others ≡ m ∷ b)) → others ≡ kept
      go a b same (inl x) (inl y) = y.1 ∙ same ∙ sym x.1
      go a b same (inl x) (inr y) = absurd (y.0 x.0)
      go a b same (inr x) (inl y) = absurd (x.0 y.0)
      go a b same (inr x) (inr y) = y.1 ∙ ap (λ (l : List Member). m ∷ l) same ∙ sym x.1

pub Without-only : (text name : List ℕ) (members kept others : List Member) → Without text name members kept → Without text name members others → others ≡ kept
Without-only text name members kept others h g = keeps_only (λ key. IsString key name) text members kept others h g

-- the members that are kept are members of the text
pub parts_more : (text : List ℕ) (kept after : List Member) (m : Member) → after ≡ kept ++ m ∷ [] → IsMemberOf text m → All (IsMemberOf text) kept → All (IsMemberOf text) after
parts_more text kept after m pushed is all =
    subst (λ (ms : List Member). All (IsMemberOf text) ms) (sym pushed) (All-append (IsMemberOf text) kept (m ∷ []) all (All-cons (IsMemberOf text) m [] is (λ k d h. absurd (omega arith))))
