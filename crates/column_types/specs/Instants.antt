-- Which texts are instants. What the kit's `jiff` reads as a timestamp is taken as it is: this is the one place that says
-- so. That it reads what others read is a premise.
use Rattle.std.specs.Prelude.{ℕ, ℤ, List, Option, None, Bool, true, false}
use Rattle.std.specs.Result.{result_ok}
use Rattle.jiff.specs.Words.{parse_timestamp}

-- the nanoseconds since 1970 of a text that is an instant
unfoldable pub read_instant : List ℕ → Option ℤ
read_instant text = result_ok (parse_timestamp text)

-- the same where instants are looked for, and none elsewhere
abbrev pub instant_where : Bool → List ℕ → Option ℤ
instant_where true text = read_instant text
instant_where false text = None
