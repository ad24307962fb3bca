-- Words that are pairs, and numbers.
use Rattle.std.proofs.Common.{◌≡◌, ℕ, List, [], ◌∷◌, ◌<◌, ◌==◌, ◌^◌, map, length, Bool, true, false, ◌&&◌, not, nat_lt, if◌then◌else◌, None, Some, Result, Ok, Err, refl, ap, sym, ◌∙◌, arith, true≢false}
use Rattle.std.specs.Result.{result_ok, OkIff}
use Rattle.std.specs.Str.{all_ascii_digits}
use Rattle.std.specs.Str.Parse.{ParsesUnsigned, digits_value}
use Rattle.std.proofs.lemmas.Str.Parse.{parse_digits, numerals_by_value, tells_all_ascii_digits}
use Rattle.std.proofs.lemmas.Bool.Decides.{Decides-ltb}
use Rattle.cli_words.specs.Pairs.{value_of, is_plain, below_32}

-- of one word or none no option has a value
pub none_short : {A : Type 0} (f : A → List ℕ) (option : List ℕ) (words : List A) → length words < 2 → None ≡ value_of option (map f words)
none_short f option [] few = refl
none_short f option (word ∷ []) few = refl
none_short f option (word ∷ next ∷ words) few = absurd (omega arith)

-- what is read of digits
by_bool : {P : Type 0} (b : Bool) → (b ≡ true → P) → (b ≡ false → P) → P
by_bool true passed failed = passed refl
by_bool false passed failed = failed refl

second : (a b : Bool) → (a && b) ≡ true → b ≡ true
second true b both = both
second false b both = absurd (true≢false (sym both))

digits_of : (word : List ℕ) → is_plain word ≡ true → all_ascii_digits word ≡ true
digits_of [] plain = refl
digits_of (digit ∷ digits) plain = second (not (digit == 48)) (all_ascii_digits (digit ∷ digits)) plain

filled : (word : List ℕ) → is_plain word ≡ true → 0 < length word
filled [] plain = absurd (true≢false (sym plain))
filled (digit ∷ digits) plain = omega arith

small : (n : ℕ) → n < 2 ^ 32 → nat_lt n (2 ^ 32) ≡ true
small n lt = (Decides-ltb n (2 ^ 32)).1 lt

large : (n : ℕ) → (n < 2 ^ 32 → ⊥) → nat_lt n (2 ^ 32) ≡ false
large n not_lt = by_bool (nat_lt n (2 ^ 32)) (λ lt. absurd (not_lt ((Decides-ltb n (2 ^ 32)).0 lt))) (λ other. other)

read_as : {E : Type 0} (n long : ℕ) (read : Result ℕ E) → 0 < long → OkIff read ((0 < long) × (n < 2 ^ 32)) n → result_ok read ≡ below_32 n
read_as n long (Ok found) more is = ap Some is.1 ∙ sym (ap (λ b. if b then Some n else None) (small n is.0.1))
read_as n long (Err why) more none = sym (ap (λ b. if b then Some n else None) (large n (λ lt. none (more, lt))))

pub parsed : {E : Type 0} (word : List ℕ) (read : Result ℕ E) → is_plain word ≡ true → ParsesUnsigned 32 10 word read → result_ok read ≡ below_32 (digits_value 10 word)
parsed word read plain parses =
    read_as (digits_value 10 word) (length word) read (filled word plain)
    (parse_digits (numerals_by_value (λ ds. all_ascii_digits ds ≡ true) tells_all_ascii_digits) 32 word read parses (digits_of word plain))
