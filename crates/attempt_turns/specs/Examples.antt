-- Ways of a worker that were worked by hand: the lines that they ask for, and what does not go on.
use Rattle.std.specs.Prelude.{◌≡◌, ℕ, List, [], ◌∷◌, ◌++◌, false, Option, None, Some, codes}
use Rattle.outside.specs.declared.event.Event.TheVariants as event
use Rattle.outside.specs.declared.event.Exit.TheVariants.{Signal}
use Rattle.outside.specs.declared.faults.Breach.TheVariants as breach
use Rattle.outside.specs.declared.status.Status.{Status}
use Rattle.outside.specs.declared.status.Status.TheVariants as status
use Rattle.load_rules.specs.Taken.{LaneState}
use Rattle.sync_rules.specs.Calls.{Standing}
use Rattle.sync_rules.specs.Examples.{call, has_called, held_a, stands, state_back, taken_a, tell, written_a}
use Rattle.attempt_turns.specs.Acts.{does, ends, fails, Place, Going, attempt_line, lines_of}

-- behind a record and a state of `a` that were given, and the state that came back
abbrev pub standing_at : ℕ → ℕ → Option LaneState → Standing
standing_at begun number owed = record { called = has_called begun number; sync = stands (held_a 0 None) state_back owed }

-- so many attempts have ended, the last of them so
abbrev pub place_of : Standing → ℕ → Option Status → Place
place_of standing ended last = record { standing = standing; ended = ended; last = last; failed = false; asked = [] }

-- an attempt has begun and goes on; or it has ended so
abbrev pub going_on : Place
going_on = place_of (standing_at 1 1 None) 0 None

abbrev pub over : Status → Place
over end = place_of (standing_at 1 1 None) 1 (Some end)

pub record WaysAsWorked : Type 0 where
  -- what is no message is said, of either side; a record and a state are not
  pub log_line : lines_of tell (standing_at 1 1 None) (event.ReadLine (99 ∷ [])) ≡ (codes "source: " ++ 99 ∷ []) ∷ []
  pub log_back : lines_of tell (standing_at 1 1 None) (event.Got (99 ∷ [])) ≡ (codes "dest: " ++ 99 ∷ []) ∷ []
  pub no_record : lines_of tell (standing_at 1 1 None) (event.ReadLine (1 ∷ [])) ≡ []
  pub no_state : lines_of tell (standing_at 1 1 None) (event.Got (2 ∷ [])) ≡ []
  -- a state that is saved is said, and a set that an attempt begins with is not
  pub saved_state : (text : List ℕ) → lines_of tell (standing_at 1 1 (Some taken_a)) (event.Saved text) ≡ (codes "saved " ++ 2 ∷ []) ∷ []
  pub begun_set : (text : List ℕ) → lines_of tell (standing_at 1 1 None) (event.Saved text) ≡ []
  pub older_state : (text : List ℕ) → lines_of tell (standing_at 0 0 (Some taken_a)) (event.Saved text) ≡ []
  pub end_line : attempt_line 1 (status.SourceFailed Signal) ≡ codes "attempt 1: 20 SourceFailed signal"
  -- an attempt ends once; nothing is read behind its end, nor is another begun where that is not retried
  pub ends_once : (there : Place) → ¬ Going call written_a tell going_on (ends status.LinkFault ∷ ends status.LinkFault ∷ []) there
  pub then_reads : (there : Place) → ¬ Going call written_a tell (over status.LinkFault) (does (event.ReadLine (1 ∷ [])) ∷ []) there
  pub then_begins : (text : List ℕ) (there : Place) → ¬ Going call written_a tell (over (status.SourceBreach breach.Mixed 2)) (does (event.Saved text) ∷ []) there
  -- a set is not saved anew in the midst of an attempt
  pub begun_twice : (text : List ℕ) (there : Place) → ¬ Going call written_a tell going_on (does (event.Saved text) ∷ []) there
  -- only a save is told though it failed
  pub failed_line : (there : Place) → ¬ Going call written_a tell going_on (fails (event.ReadLine (1 ∷ [])) ∷ []) there
