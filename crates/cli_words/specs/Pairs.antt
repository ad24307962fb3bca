-- Words behind a command: options, each with its value.
use Rattle.std.specs.Prelude.{ℕ, List, [], ◌∷◌, Bool, true, false, not, ◌&&◌, ◌==◌, ◌^◌, nat_lt, if◌then◌else◌, Option, None, Some, is_none}
use Rattle.std.specs.List.{list_any}
use Rattle.std.specs.Str.{bytes_eq, all_ascii_digits}
use Rattle.std.specs.Str.Parse.{digits_value}

-- a value is not empty and begins with no hyphen
abbrev pub is_value : List ℕ → Bool
is_value [] = false
is_value (byte ∷ bytes) = not (byte == 45)

-- the value of an option, of words that are pairs of an option and its value
abbrev pub value_of : List ℕ → List (List ℕ) → Option (List ℕ)
value_of option [] = None
value_of option (word ∷ []) = None
value_of option (name ∷ value ∷ words) = if bytes_eq name option then Some value else value_of option words

-- the option is one of these and does not stand behind, and its value is one
abbrev pub is_pair_of : List (List ℕ) → List ℕ → List ℕ → List (List ℕ) → Bool
is_pair_of options name value behind = list_any (bytes_eq name) options && (is_value value && is_none (value_of name behind))

-- the words are pairs of an option and its value: each option is one of these, and stands once
abbrev pub are_pairs_of : List (List ℕ) → List (List ℕ) → Bool
are_pairs_of options [] = true
are_pairs_of options (word ∷ []) = false
are_pairs_of options (name ∷ value ∷ words) = if is_pair_of options name value words then are_pairs_of options words else false

-- decimal digits, and no zero in front
abbrev pub is_plain : List ℕ → Bool
is_plain [] = false
is_plain (digit ∷ digits) = not (digit == 48) && all_ascii_digits (digit ∷ digits)

-- a number that 32 bits hold
abbrev pub below_32 : ℕ → Option ℕ
below_32 number = if nat_lt number (2 ^ 32) then Some number else None

-- the number that a word says, where it is between these
abbrev pub number_in : ℕ → ℕ → List ℕ → Option ℕ
number_in low high word =
    if is_plain word && (not (nat_lt (digits_value 10 word) low) && not (nat_lt high (digits_value 10 word))) then Some (digits_value 10 word) else None
