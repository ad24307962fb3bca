-- A gate as contracts see it.
use Rattle.std.specs.Prelude.{◌≡◌, ℕ, ◌+◌, ◌<◌, ◌≤◌, List, [], ◌∷◌, Bool, length, remove, find, Some, slice_index_or, All}
use Rattle.state_gate.specs.declared.pending.Lane.{Lane}
use Rattle.state_gate.specs.declared.pending.Lane.TheVariants.{Stream, Global}
use Rattle.state_gate.specs.declared.pending.Accepted.{Accepted}
use Rattle.state_gate.specs.declared.pending.Waiting.{Waiting}
use Rattle.state_gate.specs.Content.{Content, without_first}

pub record GateView : Type 0 where
  -- what the gate itself keeps; `Stands` says what that stands for
  pub kept : Content
  pub streams : ℕ
  -- above the sequences of all accepted records
  pub next : ℕ
  -- how many states were accepted
  pub states : ℕ
  -- how many records and how many states can be accepted without taking memory
  pub record_room : ℕ
  pub state_room : ℕ

-- The gate stands for this content: here it keeps the lists themselves.
abbrev pub Stands : Content → GateView → Type 0
Stands content gate = gate.kept ≡ content

abbrev pub HasLane : ℕ → Lane → Type 0
HasLane streams Global = Unit {0}
HasLane streams (Stream own) = own < streams

-- sequences rise, from this one on
abbrev pub RiseFrom : ℕ → List Accepted → Type 0
RiseFrom low [] = Unit {0}
RiseFrom low (accepted ∷ more) = (low ≤ accepted.seq) × RiseFrom (accepted.seq + 1) more

-- sequences rise, from one on and below another
abbrev pub RiseBetween : ℕ → ℕ → List Accepted → Type 0
RiseBetween low high [] = low ≤ high
RiseBetween low high (accepted ∷ more) = (low ≤ accepted.seq) × RiseBetween (accepted.seq + 1) high more

-- no state stands before an earlier one, or behind this sequence
abbrev pub BoundsRise : ℕ → ℕ → List Waiting → Type 0
BoundsRise low high [] = low ≤ high
BoundsRise low high (state ∷ more) = (low ≤ state.behind) × BoundsRise state.behind high more

-- records and states stand in order, none behind the next sequence
pub record InOrder (uncommitted : List Accepted) (waiting : List Waiting) (next : ℕ) : Type 0 where
  pub records : RiseBetween 0 next uncommitted
  pub states : BoundsRise 0 next waiting

-- the first state that passes stands there
pub record IsFoundAt (test : Waiting → Bool) (states : List Waiting) (index : ℕ) : Type 0 where
  pub within : index < length states
  pub first : (d : Waiting) → find test states ≡ Some (slice_index_or states index d)
  pub rest : without_first test states ≡ remove states index

-- no count passes this number
pub record AreCountsTo (most : ℕ) (since : List ℕ) (since_all : ℕ) : Type 0 where
  pub own : All (λ count. count ≤ most) since
  pub all : since_all ≤ most
