-- One pass beside sequences, and a second one for those that are left, drop the records of all of them.
use Rattle.std.proofs.Common.{arith, ◌≡◌, ℕ, ◌+◌, ◌≤◌, ◌==◌, List, [], ◌∷◌, length, Bool, true, false, refl, sym, ◌∙◌, ap, inl, inr, ◌⊎◌, not, cond, filter, take, drop, ◌-◌}
use Rattle.std.proofs.lemmas.List.{drop_all}
use Rattle.std.proofs.lemmas.Slice.{between_to_end}
use Rattle.std.proofs.lemmas.Bool.{cases_Bool}
use Rattle.state_gate.specs.declared.pending.Accepted.{Accepted}
use Rattle.state_gate.specs.Content.{is_among}
use Rattle.state_gate.specs.Merges.{passed_over, left_over}
use Rattle.state_gate.specs.Views.{RiseFrom}

pub passed_none : (seqs : List ℕ) → passed_over seqs [] ≡ []
passed_none [] = refl
passed_none (seq ∷ seqs) = refl

pub left_none : (seqs : List ℕ) → left_over seqs [] ≡ seqs
left_none [] = refl
left_none (seq ∷ seqs) = refl

lower : (low low' : ℕ) (records : List Accepted) → low' ≤ low → RiseFrom low records → RiseFrom low' records
lower low low' [] below rise = tt
lower low low' (accepted ∷ more) below rise = (omega (arith, below, rise.0), rise.1)

-- a sequence below those of all records is not met
left_stays : (seqs : List ℕ) (records : List Accepted) (first : Accepted) → RiseFrom (first.seq + 1) records → is_among (left_over seqs records) first ≡ is_among seqs first
left_stays [] records first rise = refl
left_stays (seq ∷ seqs) [] first rise = refl
left_stays (seq ∷ seqs) (accepted ∷ more) first rise = let rest = lower (accepted.seq + 1) (first.seq + 1) more (omega (arith, rise.0)) rise.1 in at (left_stays seqs more first rest) (left_stays (seq ∷ seqs) more first rest) (cases_Bool (seq == accepted.seq))
  where
    at : is_among (left_over seqs more) first ≡ is_among seqs first → is_among (left_over (seq ∷ seqs) more) first ≡ is_among (seq ∷ seqs) first → (seq == accepted.seq ≡ true) ⊎ (seq == accepted.seq ≡ false) → is_among (left_over (seq ∷ seqs) (accepted ∷ more)) first ≡ is_among (seq ∷ seqs) first
    at met passed (inl meets) = grind (arith, met, meets, rise.0)
    at met passed (inr misses) = grind (arith, passed, misses)

-- a sequence below those of all records is that of none
filter_more : (seq : ℕ) (seqs : List ℕ) (records : List Accepted) → RiseFrom (seq + 1) records → filter (λ accepted. not (is_among (seq ∷ seqs) accepted)) records ≡ filter (λ accepted. not (is_among seqs accepted)) records
filter_more seq seqs [] rise = refl
filter_more seq seqs (accepted ∷ more) rise = let rest = filter_more seq seqs more (lower (accepted.seq + 1) (seq + 1) more (omega (arith, rise.0)) rise.1) in grind (arith, rest, rise.0)

kept_alike : (goes goes' : Bool) (accepted : Accepted) (more more' : List Accepted) → goes ≡ goes' → more ≡ more' → cond (not goes) (accepted ∷ more) more ≡ cond (not goes') (accepted ∷ more') more'
kept_alike goes goes' accepted more more' same rest = rw same (rw rest refl)

-- of records and sequences, what is left when both are passed in one go is what a filter leaves
abbrev Claim : List ℕ → List Accepted → Type 0
Claim seqs records = filter (λ accepted. not (is_among (left_over seqs records) accepted)) (passed_over seqs records) ≡ filter (λ accepted. not (is_among seqs accepted)) records

pub all_dropped : (low : ℕ) (seqs : List ℕ) (records : List Accepted) → RiseFrom low records → Claim seqs records
all_dropped low [] records rise = refl
all_dropped low (seq ∷ seqs) [] rise = refl
all_dropped low (seq ∷ seqs) (accepted ∷ more) rise = at (all_dropped (accepted.seq + 1) seqs more rise.1) (all_dropped (accepted.seq + 1) (seq ∷ seqs) more rise.1) (cases_Bool (seq == accepted.seq))
  where
    at : Claim seqs more → Claim (seq ∷ seqs) more → (seq == accepted.seq ≡ true) ⊎ (seq == accepted.seq ≡ false) → Claim (seq ∷ seqs) (accepted ∷ more)
    at met passed (inl meets) = let further = filter_more seq seqs more (lower (accepted.seq + 1) (seq + 1) more (grind (arith, meets)) rise.1) in rw meets (met ∙ sym further)
    at met passed (inr misses) = let stays = rw misses at (left_stays (seq ∷ seqs) more accepted rise.1) in rw misses (kept_alike _ _ accepted _ _ stays passed)

-- both passes
pub dropped_in_two : (seqs : List ℕ) (records first second : List Accepted) (met : ℕ) → RiseFrom 0 records → left_over seqs records ≡ drop met seqs → first ≡ passed_over seqs records → second ≡ filter (λ accepted. not (is_among (take (length seqs - met) (drop met seqs)) accepted)) first → second ≡ filter (λ accepted. not (is_among seqs accepted)) records
dropped_in_two seqs records first second met rise left in_order behind = let all = all_dropped 0 seqs records rise in behind ∙ (rw (between_to_end seqs met (length seqs) (omega arith)) (rw (sym left) (rw in_order all)))

filter_all : (records : List Accepted) → filter (λ accepted. not (is_among [] accepted)) records ≡ records
filter_all [] = refl
filter_all (accepted ∷ more) = ap (λ rest. accepted ∷ rest) (filter_all more)

-- the first pass alone, where no sequence is left
pub dropped_in_order : (seqs : List ℕ) (records first : List Accepted) (met : ℕ) → RiseFrom 0 records → left_over seqs records ≡ drop met seqs → length seqs ≤ met → first ≡ passed_over seqs records → first ≡ filter (λ accepted. not (is_among seqs accepted)) records
dropped_in_order seqs records first met rise left all in_order = let none = left ∙ drop_all met seqs all in let dropped = all_dropped 0 seqs records rise in in_order ∙ (sym (filter_all (passed_over seqs records)) ∙ rw none at dropped)
