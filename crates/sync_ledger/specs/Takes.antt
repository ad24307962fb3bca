-- Which state of the source a state of the destination takes: the first of its lane that is the same, among those that were
-- given. Those of the lane before it are passed over.
use Rattle.std.specs.Prelude.{◌≡◌, ℕ, List, ◌∷◌, ◌++◌, take, slice_get, Option, None, Some}
use Rattle.std.specs.List.{AllByRecursion}
use Rattle.airbyte_message.specs.Same.{Same}
use Rattle.airbyte_message.specs.State.{State}
use Rattle.sync_ledger.specs.declared.pending.Pending.{Pending}

abbrev pub DiffersFrom : State → Pending → Type 0
DiffersFrom got pending = ¬ Same pending.state got

-- the first that is the same, and those behind it
pub record TakesFirst (pending : List Pending) (got : State) (first : Pending) (rest : List Pending) : Type 0 where
  pub over : List Pending
  pub splits : pending ≡ over ++ first ∷ rest
  pub others : AllByRecursion (DiffersFrom got) over
  pub same : Same first.state got

-- what a state takes of the states of its lane, and what is left of them
pub record TakesState (pending : List Pending) (got taken : State) (left : List Pending) : Type 0 where
  pub first : Pending
  pub takes : TakesFirst pending got first left
  pub is : taken ≡ first.state

abbrev pub LeavesPending : List Pending → State → Option State → List Pending → Type 0
LeavesPending pending got None left = AllByRecursion (DiffersFrom got) pending × (left ≡ pending)
LeavesPending pending got (Some taken) left = TakesState pending got taken left

-- For private clauses: where the first stands that is the same.
pub record IsFirstSame (pending : List Pending) (got : State) (place : ℕ) : Type 0 where
  pub first : Pending
  pub at : slice_get pending place ≡ Some first
  pub others : AllByRecursion (DiffersFrom got) (take place pending)
  pub same : Same first.state got
