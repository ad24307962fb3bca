-- The generation of a load that begins anew.
use Rattle.std.specs.Prelude.{ℕ, ◌+◌, max, nat_lt, unwrap_or, if◌then◌else◌, Option, None, Some}
use Rattle.basics.specs.declared.limits.TheConstants.{GREATEST_GENERATION}

-- one above the last, where there is a last
abbrev pub above : Option ℕ → ℕ
above None = 0
above (Some last) = last + 1

-- the larger of the catalog's (0 where it is absent) and the one above the last
abbrev pub larger_of : Option ℕ → Option ℕ → ℕ
larger_of catalog last = max (unwrap_or catalog 0) (above last)

-- none exactly where that passes the greatest generation
abbrev pub within : ℕ → Option ℕ
within generation = if nat_lt GREATEST_GENERATION generation then None else Some generation

abbrev pub next_of : Option ℕ → Option ℕ → Option ℕ
next_of catalog last = within (larger_of catalog last)
