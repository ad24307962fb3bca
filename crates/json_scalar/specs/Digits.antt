-- For private clauses: the bytes of digits, and a number as a core with zeros behind it.
use Rattle.std.specs.Prelude.{◌≡◌, ◌≢◌, ◌⊎◌, ℕ, ◌+◌, ◌-◌, ◌*◌, ◌%◌, ◌^◌, ◌<◌, ◌≤◌, List, fold, IsTrue}
use Rattle.std.specs.List.{All}
use Rattle.std.specs.Char.{is_ascii_digit}

-- each byte is a decimal digit
abbrev pub AreDigits : List ℕ → Type 0
AreDigits bytes = All (λ byte. IsTrue (is_ascii_digit byte)) bytes

-- the number that the bytes spell behind the digits of n
abbrev pub spelled_behind : ℕ → List ℕ → ℕ
spelled_behind n bytes = fold (λ m byte. m * 10 + (byte - 48)) n bytes

abbrev pub spelled : List ℕ → ℕ
spelled bytes = spelled_behind 0 bytes

-- the core has at most 38 digits, and ends in no zero
pub record IsTrimmed (core : ℕ) : Type 0 where
  pub small : core < 10 ^ 38
  pub ends : core % 10 ≡ 0 → core ≡ 0

-- without the zeros at its end the number has more than 38 digits
pub record IsLong (n : ℕ) : Type 0 where
  pub core : ℕ
  pub zeros : ℕ
  pub value : n ≡ core * 10 ^ zeros
  pub large : 10 ^ 38 ≤ core
  pub ends : core % 10 ≢ 0

-- the exponent, or where that is past all that a text can have digits, a number that is so too
abbrev pub IsCapped : ℕ → ℕ → Type 0
IsCapped capped n = (capped ≡ n) ⊎ ((2 ^ 66 ≤ capped) × (2 ^ 66 ≤ n))

-- core × 10^zeros × 10^raised is n × 10^lowered
pub record Meets (core zeros raised lowered n : ℕ) : Type 0 where
  pub equal : core * 10 ^ zeros * 10 ^ raised ≡ n * 10 ^ lowered
