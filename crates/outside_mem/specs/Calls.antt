-- Which calls of an object in memory are to fail.
use Rattle.std.specs.Prelude.{ℕ, ◌+◌, ◌-◌, ◌^◌, min, List}

pub record Calls : Type 0 where
  pub fails : List ℕ
  -- how many were made
  pub made : ℕ

-- the number of the next call; the count stands still at its type's end
abbrev pub next_call : Calls → ℕ
next_call calls = min (calls.made + 1) (2 ^ 64 - 1)

abbrev pub call_made : Calls → Calls
call_made calls = record calls { made = next_call calls }

abbrev pub first_calls : List ℕ → Calls
first_calls fails = record { fails = fails; made = 0 }
