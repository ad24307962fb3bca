-- Bytes that stand for themselves in a string, and those that do not.
use Rattle.std.specs.Prelude.{ℕ, Bool, not, ◌||◌, ◌==◌, nat_lt}

-- a quotation mark, a backslash or a control character
abbrev pub is_stop : ℕ → Bool
is_stop b = (b == 34) || (b == 92) || nat_lt b 32

abbrev pub is_plain_byte : ℕ → Bool
is_plain_byte b = not (is_stop b)
