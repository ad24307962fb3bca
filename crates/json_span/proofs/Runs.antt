-- A run of bytes that pass a test, seen some at a time by the mask of those that fail it.
use Rattle.std.proofs.Common.{◌≡◌, ℕ, ◌+◌, ◌*◌, ◌<◌, ◌≤◌, Bool, true, false, not, cond, eqb, List, [], ◌∷◌, map, length, drop, refl, sym, ap, ap₂, ◌∙◌, arith}
use Rattle.std.proofs.lemmas.Simd.{chunk-drop, length-chunk, leading_from_mask_l, trailing_mask_l}
use Rattle.std.proofs.lemmas.List.{length-drop}
use Rattle.std.proofs.lemmas.List.Folds.{prefix_len-append}
use Rattle.std.proofs.lemmas.List.Sums.{prefix_len-le-length}
use Rattle.std.proofs.lemmas.Bool.{eq-eqb, ne_eqb}
use Rattle.std.specs.List.{prefix_len}
use lib.Lanes.{chunk, mask_l}
use lib.Count.{count_trailing_zeros}

pub run_bound : (passes : ℕ → Bool) (text : List ℕ) (at : ℕ) → at ≤ length text → at + prefix_len passes (drop at text) ≤ length text
run_bound passes text at h = omega (arith, prefix_len-le-length passes (drop at text), length-drop at text)

none_fails : (b : Bool) (n l m : ℕ) → n ≤ l → cond (not b) (1 + n) 0 ≡ 1 + l → (n ≡ l → m ≡ 0) → cond b 1 0 + 2 * m ≡ 0
none_fails true n l m le e ih = let no : ⊥ = omega arith in absurd no
none_fails false n l m le e ih = let z = ih (omega arith) in omega arith

module _ (fails passes : ℕ → Bool) (opposite : (x : ℕ) → passes x ≡ not (fails x)) where
  same_run : (xs : List ℕ) → prefix_len passes xs ≡ prefix_len (λ x. not (fails x)) xs
  same_run [] = refl
  same_run (x ∷ xs) = ap₂ (λ b n. cond b (1 + n) 0) (opposite x) (same_run xs)

  all_pass : (xs : List ℕ) → prefix_len (λ x. not (fails x)) xs ≡ length xs → mask_l (map fails xs) ≡ 0
  all_pass [] e = refl
  all_pass (x ∷ xs) e = none_fails (fails x) _ (length xs) _ (prefix_len-le-length (λ y. not (fails y)) xs) (omega arith) (all_pass xs)

  split : (text : List ℕ) (at n : ℕ) → prefix_len passes (drop at text) ≡ cond (eqb (prefix_len passes (chunk at n text)) (length (chunk at n text))) (length (chunk at n text) + prefix_len passes (drop (at + n) text)) (prefix_len passes (chunk at n text))
  split text at n = ap (prefix_len passes) (chunk-drop at n text) ∙ prefix_len-append passes (chunk at n text) (drop (at + n) text)

  -- no byte of these fails
  pub run_through : (text : List ℕ) (at n : ℕ) → at + n ≤ length text → mask_l (map fails (chunk at n text)) ≡ 0 → prefix_len passes (drop at text) ≡ n + prefix_len passes (drop (at + n) text)
  run_through text at n room none =
      let c = chunk at n text in
      split text at n ∙ ap (λ b. cond b (length c + prefix_len passes (drop (at + n) text)) (prefix_len passes c)) (eq-eqb _ _ (same_run c ∙ leading_from_mask_l fails c none))
      ∙ ap (λ k. k + prefix_len passes (drop (at + n) text)) (length-chunk at n text room)

  -- the first that fails
  pub run_stops : (text : List ℕ) (at n : ℕ) → at + n ≤ length text → n ≤ 64 → 0 < mask_l (map fails (chunk at n text)) → prefix_len passes (drop at text) ≡ count_trailing_zeros 64 (mask_l (map fails (chunk at n text)))
  run_stops text at n room short some =
      let c = chunk at n text in
      split text at n ∙ ap (λ b. cond b (length c + prefix_len passes (drop (at + n) text)) (prefix_len passes c)) (ne_eqb _ _ (λ (e : prefix_len passes c ≡ length c). omega (arith, all_pass c (sym (same_run c) ∙ e))))
      ∙ same_run c ∙ sym (trailing_mask_l fails 64 c (omega (arith, length-chunk at n text room)) some)
