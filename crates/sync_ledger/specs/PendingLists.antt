-- The states of a lane that are pending: a line of the source leaves them, the state that was held is put behind those of its
-- lane, and what a state of the destination leaves of one lane is of that lane alone.
use Rattle.std.specs.Prelude.{◌≡◌, ◌⊎◌, ℕ, ◌<◌, ◌≤◌, List, [], ◌∷◌, ◌++◌, filter, map, Option, Some, true, if◌then◌else◌, is_some}
use Rattle.basics.specs.declared.stream.StreamId.{StreamId}
use Rattle.airbyte_message.specs.Lanes.{Lane, lane_of}
use Rattle.sync_ledger.specs.Accounts.{lane_in, left_pending, with_lane}
use Rattle.sync_ledger.specs.Lists.{is_lane}
use Rattle.sync_ledger.specs.Noted.{Noted, gave, heard, nothing_noted, pending_in}
use Rattle.sync_ledger.specs.declared.form.StateForm.{StateForm}
use Rattle.sync_ledger.specs.declared.pending.Pending.{Pending}
use Rattle.sync_ledger.specs.declared.told.Told.{Told}

-- the states of a lane among these
abbrev pub of_lane : Lane → List Pending → List Pending
of_lane lane states = filter (λ pending. is_lane lane (lane_of pending.state.kind)) states

-- a lane of the catalog
abbrev pub IsKnown : Noted → Lane → Type 0
IsKnown noted lane = is_some (lane_in noted.ids noted.accounts lane) ≡ true

-- at most one state is held
abbrev pub HoldsOne : List Pending → Type 0
HoldsOne held = (held ≡ []) ⊎ ((pending : Pending) × (held ≡ pending ∷ []))

pub record PendingLaws : Type 0 where
  pub hears : (noted : Noted) (line : Told) (lane : Lane) → pending_in (heard noted line) lane ≡ pending_in noted lane
  pub gives : (noted : Noted) (lane : Lane) → IsKnown noted lane → HoldsOne noted.held → pending_in (gave noted) lane ≡ pending_in noted lane ++ of_lane lane noted.held
  pub takes : (noted : Noted) (lane other : Lane) (left : List Pending) → IsKnown noted other → pending_in (record noted { accounts = with_lane noted.ids noted.accounts lane (left_pending left) }) other ≡ (if is_lane other (Some lane) then left else pending_in noted other)

-- ---- the numbers of their lines

-- numbers that rise from above the one on, up to the other
abbrev pub RiseTo : ℕ → ℕ → List ℕ → Type 0
RiseTo low high [] = low ≤ high
RiseTo low high (number ∷ numbers) = (low < number) × RiseTo number high numbers

abbrev pub lines_of : List Pending → List ℕ
lines_of states = map (λ pending. pending.line) states

-- In each lane the lines of what is pending, and behind it of what is held, rise: the first pending state is the first that was given.
abbrev pub AreNumbered : Noted → Type 0
AreNumbered noted = (lane : Lane) → RiseTo 0 noted.lines (lines_of (pending_in noted lane ++ of_lane lane noted.held))

pub record NumberLaws : Type 0 where
  pub begins : (ids : List StreamId) (saved : Option StateForm) → AreNumbered (nothing_noted ids saved)
  pub hears : (noted : Noted) (line : Told) → AreNumbered noted → AreNumbered (heard noted line)
  pub gives : (noted : Noted) → HoldsOne noted.held → AreNumbered noted → AreNumbered (gave noted)
  pub takes : (noted : Noted) (lane : Lane) (over left : List Pending) (first : Pending) → pending_in noted lane ≡ over ++ first ∷ left → AreNumbered noted
      → AreNumbered (record noted { accounts = with_lane noted.ids noted.accounts lane (left_pending left) })
