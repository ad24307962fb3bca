-- For private clauses: a number's text cut into its parts, all of them bytes.
use Rattle.std.specs.Prelude.{◌≡◌, ℕ, ◌+◌, ◌*◌, ◌^◌, List, [], ◌++◌, length, drop, slice_index, Bool, true, false, not, ◌&&◌, ◌||◌, ◌==◌, nat_lt, if◌then◌else◌, Option, Some, None, option_and_then, option_map}
use Rattle.std.specs.List.{prefix_len, take_while}
use Rattle.std.specs.Char.{is_ascii_digit}
use Rattle.json_scalar.specs.Digits.{AreDigits, spelled}

-- the parts of a number: its sign, the digits before and behind the point, and the exponent's sign and digits
pub record Cut : Type 0 where
  pub is_negative : Bool
  pub whole : List ℕ
  pub fraction : List ℕ
  pub lowers : Bool
  pub exponent : List ℕ

abbrev pub begins : ℕ → List ℕ → Bool
begins byte text = nat_lt 0 (length text) && (slice_index text 0 == byte)

abbrev pub without : ℕ → List ℕ → List ℕ
without byte text = if begins byte text then drop 1 text else text

-- the digits at the front, and what is behind them
abbrev pub front_digits : List ℕ → List ℕ
front_digits text = take_while is_ascii_digit text

abbrev pub behind_digits : List ℕ → List ℕ
behind_digits text = drop (prefix_len is_ascii_digit text) text

-- the digits behind a point, if there is one, and what is behind them
abbrev pub cut_fraction : List ℕ → Option (List ℕ × List ℕ)
cut_fraction text =
    if begins 46 text then (if length (front_digits (drop 1 text)) == 0 then None else Some (front_digits (drop 1 text), behind_digits (drop 1 text))) else Some ([], text)

-- the digits of an exponent, up to the end
abbrev pub cut_digits : Bool → Bool → List ℕ → Option (Bool × List ℕ)
cut_digits has_plus has_minus text =
    if (has_plus && has_minus) || ((length (front_digits text) == 0) || not (length (behind_digits text) == 0)) then None else Some (has_minus, front_digits text)

-- behind the letter: whether there is a minus, and the digits
abbrev pub cut_signed : Bool → List ℕ → Option (Bool × List ℕ)
cut_signed has_plus text = cut_digits has_plus (begins 45 text) (without 45 text)

abbrev pub cut_power : List ℕ → Option (Bool × List ℕ)
cut_power text = cut_signed (begins 43 text) (without 43 text)

abbrev pub cut_exponent : List ℕ → Option (Bool × List ℕ)
cut_exponent text =
    if length text == 0 then Some (false, []) else (if (slice_index text 0 == 101) || (slice_index text 0 == 69) then cut_power (drop 1 text) else None)

-- the digits before the point are there, and 0 stands alone
abbrev pub is_whole_part : List ℕ → Bool
is_whole_part digits = not (length digits == 0) && not (nat_lt 1 (length digits) && (slice_index digits 0 == 48))

abbrev pub cut_behind_fraction : Bool → List ℕ → List ℕ × List ℕ → Option Cut
cut_behind_fraction is_negative whole p =
    option_map (λ e. record { is_negative = is_negative; whole = whole; fraction = p.0; lowers = e.0; exponent = e.1 }) (cut_exponent p.1)

abbrev pub cut_behind_sign : Bool → List ℕ → Option Cut
cut_behind_sign is_negative text =
    if is_whole_part (front_digits text) then option_and_then (cut_behind_fraction is_negative (front_digits text)) (cut_fraction (behind_digits text)) else None

-- the parts of a text that is a number
abbrev pub cut : List ℕ → Option Cut
cut text = cut_behind_sign (begins 45 text) (without 45 text)

-- what an exponent raises by, and what it lowers by
abbrev pub raised_by : Cut → ℕ
raised_by c = if c.lowers then 0 else spelled c.exponent

abbrev pub lowered_by : Cut → ℕ
lowered_by c = if c.lowers then spelled c.exponent else 0

-- the parts have the value n
pub record IsValue (c : Cut) (n : ℕ) : Type 0 where
  pub not_below : c.is_negative ≡ true → n ≡ 0
  pub equal : spelled (c.whole ++ c.fraction) * 10 ^ raised_by c ≡ n * 10 ^ (length c.fraction + lowered_by c)

pub record HasDigits (c : Cut) : Type 0 where
  pub whole : AreDigits c.whole
  pub fraction : AreDigits c.fraction
  pub exponent : AreDigits c.exponent
