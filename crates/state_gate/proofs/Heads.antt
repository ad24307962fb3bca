-- The first state that may go.
use Rattle.std.proofs.Common.{arith, ◌≡◌, ℕ, zero, suc, ◌+◌, ◌<◌, ◌≤◌, List, [], ◌∷◌, length, Bool, true, false, refl, sym, ◌∙◌, ap, inl, inr, ◌⊎◌, Option, None, Some, find, IfSome, subst, drop, slice_index_or, unwrap_or}
use Rattle.std.specs.List.{list_any}
use Rattle.std.proofs.lemmas.Bool.{cases_Bool, false≢true}
use Rattle.std.proofs.lemmas.Option.{none-some}
use Rattle.state_gate.specs.declared.pending.Lane.{Lane}
use Rattle.state_gate.specs.declared.pending.Lane.TheVariants.{Stream, Global}
use Rattle.state_gate.specs.declared.pending.Accepted.{Accepted}
use Rattle.state_gate.specs.declared.pending.Waiting.{Waiting}
use Rattle.state_gate.specs.Content.{Content, head_in, without_head, covers, is_same_lane, is_before, is_clear, IsFirstOfLane, without_first}
use Rattle.state_gate.specs.Views.{RiseFrom, BoundsRise}

-- records from a state's sequence on do not stand before it
none_behind : (low : ℕ) (state : Waiting) (records : List Accepted) → RiseFrom low records → state.behind ≤ low → list_any (is_before state) records ≡ false
none_behind low state [] rise behind = refl
none_behind low state (accepted ∷ more) rise behind = let rest = none_behind (accepted.seq + 1) state more rise.1 (omega (arith, rise.0, behind)) in grind (arith, rest, rise.0, behind)

pub none_from : (low : ℕ) (state : Waiting) (records : List Accepted) (index : ℕ) (d : Accepted) → RiseFrom low records → index < length records → state.behind ≤ (slice_index_or records index d).seq → list_any (is_before state) (drop index records) ≡ false
none_from low state [] zero d rise within behind = refl
none_from low state [] (suc index) d rise within behind = refl
none_from low state (accepted ∷ more) zero d rise within behind = none_behind accepted.seq state (accepted ∷ more) (omega arith, rise.1) behind
none_from low state (accepted ∷ more) (suc index) d rise within behind = none_from (accepted.seq + 1) state more index d rise.1 (omega (arith, within)) behind

pub without_none : (test : Waiting → Bool) (states : List Waiting) → find test states ≡ None → without_first test states ≡ states
without_none test [] none = refl
without_none test (state ∷ more) none = at (without_none test more) (cases_Bool (test state))
  where
    at : (find test more ≡ None → without_first test more ≡ more) → (test state ≡ true) ⊎ (test state ≡ false) → without_first test (state ∷ more) ≡ state ∷ more
    at deeper (inl passes) = let found = rw passes at none in cc
    at deeper (inr fails) = let rest = deeper (rw fails at none) in grind (arith, fails, rest)

same_covers : (lane other : Lane) (stream : ℕ) → is_same_lane lane other ≡ true → covers lane stream ≡ covers other stream
same_covers Global Global stream same = refl
same_covers Global (Stream other) stream same = absurd (false≢true same)
same_covers (Stream own) Global stream same = absurd (false≢true same)
same_covers (Stream own) (Stream other) stream same = grind (arith, same)

-- an earlier state of the same lane is clear where a later one is
earlier_clear : (records : List Accepted) (state other : Waiting) → state.behind ≤ other.behind → is_same_lane state.pending.lane other.pending.lane ≡ true → is_clear records other ≡ true → is_clear records state ≡ true
earlier_clear [] state other below same clear = refl
earlier_clear (accepted ∷ more) state other below same clear = let covered = same_covers state.pending.lane other.pending.lane accepted.stream same in let rest = earlier_clear more state other below same (grind (arith, clear)) in grind (arith, clear, covered, rest, below)

same_itself : (lane : Lane) → is_same_lane lane lane ≡ true
same_itself Global = refl
same_itself (Stream own) = grind arith

below_found : (records : List Accepted) (low high : ℕ) (states : List Waiting) (found : Waiting) → BoundsRise low high states → find (is_clear records) states ≡ Some found → low ≤ found.behind
below_found records low high [] found rise is = absurd (none-some found is)
below_found records low high (state ∷ more) found rise is = at (cases_Bool (is_clear records state)) (below_found records state.behind high more found rise.1)
  where
    at : (is_clear records state ≡ true) ⊎ (is_clear records state ≡ false) → (find (is_clear records) more ≡ Some found → state.behind ≤ found.behind) → low ≤ found.behind
    at (inl clear) deeper = let here = rw clear at is in let same = ap (λ found_one. unwrap_or found_one state) here in rw (sym same) rise.0
    at (inr waits) deeper = omega (arith, rise.0, deeper (rw waits at is))

is_clear_found : (records : List Accepted) (states : List Waiting) (found : Waiting) → find (is_clear records) states ≡ Some found → is_clear records found ≡ true
is_clear_found records [] found is = absurd (none-some found is)
is_clear_found records (state ∷ more) found is = at (cases_Bool (is_clear records state)) (is_clear_found records more found)
  where
    at : (is_clear records state ≡ true) ⊎ (is_clear records state ≡ false) → (find (is_clear records) more ≡ Some found → is_clear records found ≡ true) → is_clear records found ≡ true
    at (inl clear) deeper = let here = rw clear at is in let same = ap (λ found_one. unwrap_or found_one state) here in rw (sym same) clear
    at (inr waits) deeper = deeper (rw waits at is)

-- the state that is found is the first of its lane
found_first : (records : List Accepted) (low high : ℕ) (states : List Waiting) (found : Waiting) → BoundsRise low high states → find (is_clear records) states ≡ Some found → IsFirstOfLane states found
found_first records low high [] found rise is = absurd (none-some found is)
found_first records low high (state ∷ more) found rise is = at (cases_Bool (is_clear records state)) (cases_Bool (is_same_lane state.pending.lane found.pending.lane)) (found_first records state.behind high more found rise.1) (below_found records state.behind high more found rise.1) (is_clear_found records (state ∷ more) found is)
  where
    at : (is_clear records state ≡ true) ⊎ (is_clear records state ≡ false) → (is_same_lane state.pending.lane found.pending.lane ≡ true) ⊎ (is_same_lane state.pending.lane found.pending.lane ≡ false) → (find (is_clear records) more ≡ Some found → IsFirstOfLane more found) → (find (is_clear records) more ≡ Some found → state.behind ≤ found.behind) → is_clear records found ≡ true → IsFirstOfLane (state ∷ more) found
    at (inl clear) same deeper below passes = let here = rw clear at is in let is_it = ap (λ found_one. unwrap_or found_one state) here in subst (λ other. IsFirstOfLane (state ∷ more) other) is_it (rw (same_itself state.pending.lane) refl)
    at (inr waits) (inl same) deeper below passes = absurd (false≢true (sym waits ∙ earlier_clear records state found (below (rw waits at is)) same passes))
    at (inr waits) (inr differs) deeper below passes = rw differs (deeper (rw waits at is))

pub first_of_lane : (records : List Accepted) (low high : ℕ) (states : List Waiting) → BoundsRise low high states → IfSome (find (is_clear records) states) (IsFirstOfLane states)
first_of_lane records low high states rise = at (find (is_clear records) states) (λ found is. found_first records low high states found rise is)
  where
    at : (result : Option Waiting) → ((found : Waiting) → result ≡ Some found → IsFirstOfLane states found) → IfSome result (IsFirstOfLane states)
    at None first = tt
    at (Some found) first = first found refl

-- where no state may go, taking out leaves all as it is
pub none_without_head : (content : Content) → head_in content ≡ None → content ≡ without_head content
none_without_head content none = ap (λ waiting. record content { waiting = waiting }) (sym (without_none (is_clear content.uncommitted) content.waiting none))
