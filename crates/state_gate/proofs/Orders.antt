-- Records and states in order.
use Rattle.std.proofs.Common.{arith, ◌≡◌, ℕ, ◌+◌, ◌<◌, ◌≤◌, List, [], ◌∷◌, ◌++◌, length, Bool, true, false, inl, inr, ◌⊎◌, filter, All, slice_set, slice_index}
use Rattle.std.proofs.lemmas.Bool.{cases_Bool, cases_lt}
use Rattle.state_gate.specs.declared.pending.Accepted.{Accepted}
use Rattle.state_gate.specs.declared.pending.Waiting.{Waiting}
use Rattle.state_gate.specs.Content.{without_first}
use Rattle.state_gate.specs.Views.{RiseFrom, RiseBetween, BoundsRise, InOrder, AreCountsTo}
use Rattle.state_gate.specs.Counts.{without_own, without_all}
use Rattle.state_gate.specs.declared.pending.Lane.{Lane}
use Rattle.state_gate.specs.declared.pending.Lane.TheVariants.{Stream, Global}
use Rattle.std.proofs.lemmas.List.{get_or_past}
use Rattle.std.proofs.lemmas.List.Elements.{All-set}

pub rise_from : (low high : ℕ) (records : List Accepted) → RiseBetween low high records → RiseFrom low records
rise_from low high [] between = tt
rise_from low high (accepted ∷ more) between = (between.0, rise_from (accepted.seq + 1) high more between.1)

pub rises : {uncommitted : List Accepted} {waiting : List Waiting} {next : ℕ} → InOrder uncommitted waiting next → RiseFrom 0 uncommitted
rises {uncommitted} {waiting} {next} order = rise_from 0 next uncommitted order.records

-- a record behind the others
pub records_push : (low high : ℕ) (records : List Accepted) (stream seq : ℕ) → RiseBetween low high records → high ≤ seq → RiseBetween low (seq + 1) (records ++ record { seq = seq; stream = stream } ∷ [])
records_push low high [] stream seq between above = (omega arith, omega arith)
records_push low high (accepted ∷ more) stream seq between above = (between.0, records_push (accepted.seq + 1) high more stream seq between.1 above)

records_lower : (low low' high : ℕ) (records : List Accepted) → low' ≤ low → RiseBetween low high records → RiseBetween low' high records
records_lower low low' high [] below between = omega arith
records_lower low low' high (accepted ∷ more) below between = (omega (arith, between.0), between.1)

-- some of the records
pub records_filter : (low high : ℕ) (test : Accepted → Bool) (records : List Accepted) → RiseBetween low high records → RiseBetween low high (filter test records)
records_filter low high test [] between = between
records_filter low high test (accepted ∷ more) between = at (records_filter (accepted.seq + 1) high test more between.1) (cases_Bool (test accepted))
  where
    at : RiseBetween (accepted.seq + 1) high (filter test more) → (test accepted ≡ true) ⊎ (test accepted ≡ false) → RiseBetween low high (filter test (accepted ∷ more))
    at rest (inl passes) = rw passes (between.0, rest)
    at rest (inr fails) = rw fails (records_lower (accepted.seq + 1) low high (filter test more) (omega (arith, between.0)) rest)

pub bounds_higher : (low high high' : ℕ) (states : List Waiting) → high ≤ high' → BoundsRise low high states → BoundsRise low high' states
bounds_higher low high high' [] above rise = omega arith
bounds_higher low high high' (state ∷ more) above rise = (rise.0, bounds_higher state.behind high high' more above rise.1)

bounds_lower : (low low' high : ℕ) (states : List Waiting) → low' ≤ low → BoundsRise low high states → BoundsRise low' high states
bounds_lower low low' high [] below rise = omega arith
bounds_lower low low' high (state ∷ more) below rise = (omega (arith, rise.0), rise.1)

-- a state behind the others
pub bounds_push : (low high : ℕ) (states : List Waiting) (state : Waiting) → BoundsRise low high states → state.behind ≡ high → BoundsRise low high (states ++ state ∷ [])
bounds_push low high [] state rise is = (omega (arith, is, rise), omega (arith, is))
bounds_push low high (other ∷ more) state rise is = (rise.0, bounds_push other.behind high more state rise.1 is)

-- one of the states less
pub bounds_without : (low high : ℕ) (test : Waiting → Bool) (states : List Waiting) → BoundsRise low high states → BoundsRise low high (without_first test states)
bounds_without low high test [] rise = rise
bounds_without low high test (state ∷ more) rise = at (bounds_without state.behind high test more rise.1) (cases_Bool (test state))
  where
    at : BoundsRise state.behind high (without_first test more) → (test state ≡ true) ⊎ (test state ≡ false) → BoundsRise low high (without_first test (state ∷ more))
    at rest (inl passes) = rw passes (bounds_lower state.behind low high more rise.0 rise.1)
    at rest (inr fails) = rw fails (rise.0, rest)

-- one record more is counted
pub counts_add : (most seq : ℕ) (since : List ℕ) (since_all stream : ℕ) → most ≤ seq → AreCountsTo most since since_all → AreCountsTo (seq + 1) (slice_set since stream (slice_index since stream + 1)) (since_all + 1)
counts_add most seq since since_all stream above counts = at (cases_lt stream (length since))
  where
    higher : All (λ count. count ≤ seq + 1) since
    higher = λ k d within. omega (arith, counts.own k d within, above)

    at : (stream < length since) ⊎ (length since ≤ stream) → AreCountsTo (seq + 1) (slice_set since stream (slice_index since stream + 1)) (since_all + 1)
    at (inl within) = record { own = All-set (λ count. count ≤ seq + 1) since stream (slice_index since stream + 1) (omega (arith, counts.own stream 0 within, above)) higher; all = omega (arith, counts.all, above) }
    at (inr past) = record { own = All-set (λ count. count ≤ seq + 1) since stream (slice_index since stream + 1) (let none = get_or_past since stream 0 past in omega (arith, none)) higher; all = omega (arith, counts.all, above) }

-- a lane's count begins anew
pub counts_take : (most : ℕ) (since : List ℕ) (since_all : ℕ) (lane : Lane) → AreCountsTo most since since_all → AreCountsTo most (without_own since lane) (without_all since_all lane)
counts_take most since since_all Global counts = record { own = counts.own; all = omega arith }
counts_take most since since_all (Stream own) counts = record { own = All-set (λ count. count ≤ most) since own 0 (omega arith) counts.own; all = counts.all }
