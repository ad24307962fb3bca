-- How an attempt has ended, by what its worker and the codes say.
use Rattle.std.specs.Prelude.{◌≡◌, ◌⊎◌, ◌<◌, ℕ, slice_get, option_map, length, Bool, true, false, Option, None, Some}
use Rattle.outside.specs.declared.event.Codes.{Codes}
use Rattle.outside.specs.declared.event.Exit.TheVariants.{Code}
use Rattle.outside.specs.declared.status.Status.{Status}
use Rattle.outside.specs.declared.status.Status.TheVariants as status
use Rattle.sync_ledger.specs.Accounts.{all_pending}
use Rattle.sync_ledger.specs.Noted.{Noted, least_line}
use Rattle.attempt_turns.specs.Ends.{IsNotFailed, is_done}
use Rattle.attempt_turns.specs.declared.worker.Worker.{Worker}

-- whether the last status of the stream with this number is that it is complete, or it has none
abbrev pub is_done_at : Noted → ℕ → Option Bool
is_done_at noted number = option_map (λ account. is_done account.status) (slice_get noted.accounts.streams number)

-- the first stream of which this is not so; `None` where it is so of each
pub record FirstUndone (noted : Noted) (number : ℕ) : Type 0 where
  pub within : number < length noted.ids
  pub undone : is_done_at noted number ≡ Some false
  pub done_before : (other : ℕ) → other < number → is_done_at noted other ≡ Some true

abbrev pub AreDone : Noted → Type 0
AreDone noted = (other : ℕ) → other < length noted.ids → is_done_at noted other ≡ Some true

abbrev pub IsFirstUndone : Noted → Option ℕ → Type 0
IsFirstUndone noted None = AreDone noted
IsFirstUndone noted (Some number) = FirstUndone noted number

-- the destination's input was closed, and its output was read to its end
pub record IsOver (w : Worker) : Type 0 where
  pub closed : w.closed ≡ true
  pub got : w.got_over ≡ true

-- its output has ended before that
pub record IsEarly (w : Worker) : Type 0 where
  pub opened : w.closed ≡ false
  pub got : w.got_over ≡ true

-- both children ended well, and each stream is complete
pub record WentWell (w : Worker) (codes : Codes) : Type 0 where
  pub over : IsOver w
  pub source : codes.source ≡ Some (Code 0)
  pub dest : codes.dest ≡ Some (Code 0)
  pub done : AreDone w.ledger

-- The attempt has ended so, which is the first of these that holds: the source failed, a stream is incomplete, the destination failed, a
-- state was not echoed, all went well.
abbrev pub EndedBy : Status → Worker → Codes → Type 0
EndedBy (status.SourceFailed exit) w codes = (w.got_over ≡ true) × (codes.source ≡ Some exit) × (¬ (exit ≡ Code 0))
EndedBy (status.SourceIncomplete stream) w codes = IsOver w × (codes.source ≡ Some (Code 0)) × FirstUndone w.ledger stream
EndedBy (status.DestFailed exit) w codes = (w.got_over ≡ true) × (codes.dest ≡ Some exit) × (¬ (exit ≡ Code 0)) × IsNotFailed codes.source × (w.closed ≡ true → AreDone w.ledger)
EndedBy status.DestEarly w codes = IsEarly w × (codes.dest ≡ Some (Code 0)) × IsNotFailed codes.source
EndedBy (status.DestUnechoed line) w codes = WentWell w codes × (least_line None (all_pending w.ledger.accounts) ≡ Some line)
EndedBy status.Ok w codes = WentWell w codes × (least_line None (all_pending w.ledger.accounts) ≡ None)
EndedBy end w codes = ⊥

-- the end of the destination's output, or its code, is still to come
abbrev pub Awaits : Worker → Codes → Type 0
Awaits w codes = (w.got_over ≡ false) ⊎ (codes.dest ≡ None)

abbrev pub HasEnded : Option Status → Worker → Codes → Type 0
HasEnded None w codes = Awaits w codes
HasEnded (Some end) w codes = EndedBy end w codes
