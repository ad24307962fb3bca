-- Fronts of a text that were taken.
use Rattle.std.specs.Prelude.{IsErrOf, Err}
use Rattle.std.proofs.Common.{◌≡◌, ◌⊎◌, inl, inr, ◌<◌, zero, suc, ℕ, ◌+◌, ◌≤◌, List, [], ◌++◌, length, take, drop, Option, None, Some, refl, sym, ap, subst, ◌∙◌, arith, append_assoc, append-nil}
use Rattle.std.proofs.Math.Seq.{take-add}
use Rattle.std.proofs.lemmas.List.{take-append-drop, take_all, take-take, length-take, length-drop}
use Rattle.basics.specs.Told.{told_more, Rose, GrewByFront}
use Rattle.outside.specs.declared.fault.Fault.{Fault}
use Rattle.outside.specs.declared.fault.Fault.TheVariants as fault
use Rattle.line_streams.specs.Output.{IsCutShort}

pub taken_none : (before : Option (List ℕ)) → told_more [] before ≡ before
taken_none None = refl
taken_none (Some before) = ap Some (append-nil before)

told_twice : (a b : List ℕ) (before : Option (List ℕ)) → told_more b (told_more a before) ≡ told_more (a ++ b) before
told_twice a b None = refl
told_twice a b (Some before) = ap Some (append_assoc before a b)

-- the front that was taken, and the first bytes of a piece behind it
pub taken_more : (at count most : ℕ) (text piece : List ℕ) (before mid now : Option (List ℕ)) → mid ≡ told_more (take at text) before → piece ≡ take most (drop at text) → count ≤ length piece → now ≡ told_more (take count piece) mid → now ≡ told_more (take (at + count) text) before
taken_more at count most text piece before mid now first is within second =
    second ∙ (ap (λ (l : List ℕ). told_more (take count l) mid) is
    ∙ (ap (λ (l : List ℕ). told_more l mid) (take-take count most (drop at text) (few (subst (λ (l : List ℕ). count ≤ length l) is within)))
    ∙ (ap (λ (t : Option (List ℕ)). told_more (take count (drop at text)) t) first
    ∙ (told_twice (take at text) (take count (drop at text)) before ∙ ap (λ (l : List ℕ). told_more l before) (sym (take-add at count text))))))
  where
    few : count ≤ length (take most (drop at text)) → count ≤ most
    few p = omega (arith, p, length-take most (drop at text))

-- so a front of the text was taken
pub taken_front : (at : ℕ) (text : List ℕ) (before now : Option (List ℕ)) → now ≡ told_more (take at text) before → GrewByFront text before now
taken_front at text before now taken = record { front = take at text; rest = drop at text; splits = sym (take-append-drop at text); grew = taken }

-- or all of it
pub taken_all : (at : ℕ) (text : List ℕ) (before now : Option (List ℕ)) → length text ≤ at → now ≡ told_more (take at text) before → now ≡ told_more text before
taken_all at text before now all taken = taken ∙ ap (λ (l : List ℕ). told_more l before) (take_all at text all)

-- what is taken of a piece behind a front stays within the text
pub taken_within : (at count most : ℕ) (text : List ℕ) → at ≤ length text → count ≤ length (take most (drop at text)) → at + count ≤ length text
taken_within at count most text front within = omega (arith, front, within, length-take most (drop at text), length-drop at text)

-- a write that failed behind a front of a text cuts it short
pub cut_here : (text : List ℕ) (at part : ℕ) (given : Fault) (bytes mid now : Option (List ℕ)) (faults faults_mid faults_now : ℕ) → part ≡ at → at < length text → mid ≡ told_more (take at text) bytes → now ≡ mid → faults_mid ≡ faults → (IsErrOf {T = ℕ} (Err given) fault.Failed → Rose faults_mid faults_now) → (given ≡ fault.Failed) ⊎ (0 < at) → IsCutShort text part bytes now faults faults_now
cut_here text at part given bytes mid now faults faults_mid faults_now here within front kept same rose why = record {
  part_is = subst (λ (n : ℕ). n < length text) (sym here) within;
  stands = kept ∙ (front ∙ ap (λ (n : ℕ). told_more (take n text) bytes) (sym here));
  cause = cause why;
}
  where
    cause : (given ≡ fault.Failed) ⊎ (0 < at) → Rose faults faults_now ⊎ (0 < part)
    cause (inl failed) = inl (subst (λ (n : ℕ). Rose n faults_now) same (rose (ap (λ (why : Fault). Err why) failed)))
    cause (inr some) = inr (subst (λ (n : ℕ). 0 < n) (sym here) some)

-- where nothing was written before, nothing stands
pub none_here : (text : List ℕ) (at : ℕ) (bytes mid now : Option (List ℕ)) → at ≡ 0 → mid ≡ told_more (take at text) bytes → now ≡ mid → now ≡ bytes
none_here text at bytes mid now none front kept = kept ∙ (front ∙ (ap (λ (n : ℕ). told_more (take n text) bytes) none ∙ taken_none bytes))
