-- Which streams have no status, and the worker whose next completion is held.
use Rattle.std.specs.Prelude.{◌≡◌, ◌<◌, ◌≤◌, ℕ, ◌+◌, List, slice_get, option_map, is_none, length, Bool, true, false, Option, None, Some}
use Rattle.basics.specs.declared.stream.StreamId.{StreamId}
use Rattle.sync_ledger.specs.Noted.{Noted}
use Rattle.sync_rules.specs.Sync.{completion}
use Rattle.attempt_turns.specs.declared.worker.Worker.{Worker}

-- whether the stream with this number has no status, where there is one
abbrev pub is_untold_at : Noted → ℕ → Option Bool
is_untold_at noted number = option_map (λ account. is_none account.status) (slice_get noted.accounts.streams number)

-- the first stream from this number on that has no status; `None` where each of them has one
pub record FirstUntold (noted : Noted) (from number : ℕ) : Type 0 where
  pub behind : from ≤ number
  pub within : number < length noted.ids
  pub untold : is_untold_at noted number ≡ Some true
  pub told_before : (other : ℕ) → from ≤ other → other < number → is_untold_at noted other ≡ Some false

abbrev pub IsNextUntold : Noted → ℕ → Option ℕ → Type 0
IsNextUntold noted from None = (other : ℕ) → from ≤ other → other < length noted.ids → is_untold_at noted other ≡ Some false
IsNextUntold noted from (Some number) = FirstUntold noted from number

-- The next completion is held, and it is settled up to its stream; or none is left, and it is settled for all streams.
pub record HoldsNext (ids : List StreamId) (w now : Worker) : Type 0 where
  pub number : ℕ
  pub first : FirstUntold w.ledger w.completed number
  pub id : StreamId
  pub at : slice_get ids number ≡ Some id
  pub is : now ≡ record w { held = Some (completion id); is_completing = true; completed = number + 1 }

pub record LeavesNone (w now : Worker) : Type 0 where
  pub told_all : IsNextUntold w.ledger w.completed None
  pub is : now ≡ record w { completed = length w.ledger.ids }

abbrev pub CompletesNext : List StreamId → Bool → Worker → Worker → Type 0
CompletesNext ids true w now = HoldsNext ids w now
CompletesNext ids false w now = LeavesNone w now
