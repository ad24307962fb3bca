use Rattle.std.proofs.Common.{◌≡◌, List, [], ◌∷◌, ◌++◌, map, Less, Greater, inl, refl, sym, ◌∙◌, ap, subst, arith}
use Rattle.std.specs.List.{AllByRecursion}
use Rattle.outside.specs.declared.event.RawRow.{RawRow}
use Rattle.value_order.specs.declared.value.Value.TheVariants.{True, False}
use Rattle.dedup_merge.specs.Winners.{Candidate, candidate_row, rank, HasCursor, IsLess, IsWinnerAmong}
use Rattle.dedup_merge.specs.Steps.{candidate_of}
use Rattle.dedup_merge.specs.Examples.{best_row, exceeded_row}
use Rattle.dedup_merge.proofs.JoinLemmas.{one_candidate}
use Rattle.dedup_merge.proofs.laws.exceeded_row_does_not_fit.Goals as goal

-- the second row is the winner, and the first stands before it
by_split : (before : List Candidate) (winner : Candidate) (behind : List Candidate) → winner.row ≡ exceeded_row → best_row ∷ exceeded_row ∷ [] ≡ map candidate_row before ++ winner.row ∷ map candidate_row behind
    → AllByRecursion HasCursor (before ++ winner ∷ behind) → AllByRecursion (IsLess winner) before → ⊥
by_split [] winner behind is rows cursors first =
    let same : best_row ≡ exceeded_row = head best_row winner.row _ _ rows ∙ is in
    let sequences = ap (λ (r : RawRow). r.seq) same in
    omega (arith, sequences)
  where
    head : (a b : RawRow) (xs ys : List RawRow) → a ∷ xs ≡ b ∷ ys → a ≡ b
    head a b xs ys e = cc
by_split (c ∷ []) winner behind is rows cursors first =
    let own : best_row ≡ c.row = head best_row c.row _ _ rows in
    let one : c ≡ candidate_of best_row True = one_candidate c (candidate_of best_row True) (sym own) cursors.0 (inl (record { held = tt; is = refl })) in
    let other : winner ≡ candidate_of exceeded_row False = one_candidate winner (candidate_of exceeded_row False) is cursors.1.0 (inl (record { held = tt; is = refl })) in
    let less : rank (candidate_of best_row True) (candidate_of exceeded_row False) ≡ Less = subst (λ (x : Candidate). rank x (candidate_of exceeded_row False) ≡ Less) one (subst (λ (w : Candidate). rank c w ≡ Less) other first.0) in
    let turned : Greater ≡ Less = less in
    cc
  where
    head : (a b : RawRow) (xs ys : List RawRow) → a ∷ xs ≡ b ∷ ys → a ≡ b
    head a b xs ys e = cc
by_split (c ∷ d ∷ before) winner behind is rows cursors first = no_third (map candidate_row before) winner.row (map candidate_row behind) c.row d.row best_row exceeded_row rows
  where
    no_third : (xs : List RawRow) (w : RawRow) (ys : List RawRow) (a b x y : RawRow) → x ∷ y ∷ [] ≡ a ∷ b ∷ (xs ++ w ∷ ys) → ⊥
    no_third [] w ys a b x y e = cc
    no_third (z ∷ xs) w ys a b x y e = cc

not_among : IsWinnerAmong (best_row ∷ exceeded_row ∷ []) exceeded_row → ⊥
not_among among = by_split among.before among.winner among.behind among.is among.rows_are among.cursors among.first

pub returns : goal.returns
returns c = λ fits. not_among (fits.winners_are.each (107 ∷ []))
