-- Which ends of an attempt are retried, and up to which number of attempts.
use Rattle.std.specs.Prelude.{ℕ, ◌+◌, ◌-◌, ◌^◌, min, List, [], ◌∷◌, Bool, ◌&&◌, nat_eq, nat_lt, if◌then◌else◌}
use Rattle.std.specs.List.{list_any}
use Rattle.outside.specs.Status.{number_of}
use Rattle.outside.specs.declared.status.Status.{Status}
use Rattle.attempt_loop.specs.declared.Next.{Next}
use Rattle.attempt_loop.specs.declared.Next.TheVariants as next

-- SourceFailed, SourceIncomplete, Silent, DestFailed, DestUnechoed, DestEarly and LinkFault
abbrev pub retried_numbers : List ℕ
retried_numbers = 20 ∷ 22 ∷ 23 ∷ 30 ∷ 32 ∷ 33 ∷ 40 ∷ []

abbrev pub is_retried : Status → Bool
is_retried status = list_any (nat_eq (number_of status)) retried_numbers

-- how many attempts there may be, and how many have ended
pub record Attempts : Type 0 where
  pub limit : ℕ
  pub ended : ℕ

abbrev pub no_attempts : ℕ → Attempts
no_attempts limit = record { limit = limit; ended = 0 }

-- one attempt more has ended; the count stands still at its type's end
abbrev pub one_ended : Attempts → Attempts
one_ended attempts = record attempts { ended = min (attempts.ended + 1) (2 ^ 32 - 1) }

-- Another attempt follows where this end is retried and fewer attempts than the limit have ended: the one with the next number.
abbrev pub next_after : Attempts → Status → Next
next_after attempts end =
    if is_retried end && nat_lt attempts.ended attempts.limit then next.Again (attempts.ended + 1) else next.Stop end
