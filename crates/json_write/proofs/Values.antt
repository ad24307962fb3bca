-- Values that nest little: texts, numbers, objects and arrays.
use Rattle.std.proofs.Common.{ℕ, ◌+◌, ◌<◌, ◌≤◌, ◌^◌, Bool, true, false, List, [], ◌∷◌, ◌++◌, Option, None, Some, option_map, IsUtf8, refl, sym, subst, arith}
use Rattle.std.specs.Prelude.{if◌then◌else◌, decimal}
use Rattle.std.proofs.lemmas.Bool.{lt-ltb}
use Rattle.std.proofs.lemmas.Str.{IsUtf8-append, IsUtf8-nil}
use Rattle.json.specs.Print.{quoted}
use Rattle.json_scalar.specs.Number.{Digit, Digits, Sign, unsigned, plus, minus, Exponent, Literal, digits_text, whole_digits, all_digits, sign_text, fraction_text, exponent_text, literal_text}
use Rattle.json_span.specs.Grammar as json
use Rattle.json_span.specs.Grammar.{depth}
use Rattle.json_span.specs.Members.{IsValue}
use Rattle.json_fields.specs.Parts.{IsNumber, IsOptionalNumber, NestsWithin}
use Rattle.json_write.specs.Values.{IsValueWithin, IsOptionalWithin, IsOptionalUtf8}
use Rattle.json_write.proofs.Depths.{object_within}
use Rattle.json_write.proofs.Numerals.{decimal_literal}
use Rattle.json_write.proofs.Strings.{quoted_string, utf8_before}

pub within_more : (limit outer : ℕ) (text : List ℕ) → limit ≤ outer → IsValueWithin limit text → IsValueWithin outer text
within_more limit outer text le v = record { is = v.is; within = (let h = v.within in omega arith) }

pub text_within : (limit : ℕ) (text : List ℕ) → IsUtf8 text → IsValueWithin limit (quoted text)
text_within limit text u =
    let s = quoted_string text u in
    record { is = record { utf8 = s.utf8; value = json.string s.pieces; spelled = s.spelled }; within = omega arith }

-- ---- numbers

digits_utf8 : (digits : List Digit) → IsUtf8 (digits_text digits)
digits_utf8 [] = IsUtf8-nil
digits_utf8 (d ∷ digits) = let small = d.small in utf8_before (48 + d.value) (digits_text digits) (lt-ltb (48 + d.value) 128 (omega arith)) (digits_utf8 digits)

fraction_utf8 : (f : Option Digits) → IsUtf8 (fraction_text f)
fraction_utf8 None = IsUtf8-nil
fraction_utf8 (Some d) = utf8_before 46 (digits_text (all_digits d)) refl (digits_utf8 (all_digits d))

sign_utf8 : (s : Sign) → IsUtf8 (sign_text s)
sign_utf8 unsigned = IsUtf8-nil
sign_utf8 plus = utf8_before 43 [] refl IsUtf8-nil
sign_utf8 minus = utf8_before 45 [] refl IsUtf8-nil

mark_utf8 : (capital : Bool) (rest : List ℕ) → IsUtf8 rest → IsUtf8 ((if capital then 69 else 101) ∷ rest)
mark_utf8 true rest u = utf8_before 69 rest refl u
mark_utf8 false rest u = utf8_before 101 rest refl u

exponent_utf8 : (e : Option Exponent) → IsUtf8 (exponent_text e)
exponent_utf8 None = IsUtf8-nil
exponent_utf8 (Some e) = mark_utf8 e.is_capital (sign_text e.sign ++ digits_text (all_digits e.digits)) (IsUtf8-append (sign_text e.sign) (digits_text (all_digits e.digits)) (sign_utf8 e.sign) (digits_utf8 (all_digits e.digits)))

minus_utf8 : (negative : Bool) → IsUtf8 (if negative then 45 ∷ [] else [])
minus_utf8 true = utf8_before 45 [] refl IsUtf8-nil
minus_utf8 false = IsUtf8-nil

literal_utf8 : (l : Literal) → IsUtf8 (literal_text l)
literal_utf8 l =
    IsUtf8-append (if l.is_negative then 45 ∷ [] else []) (digits_text (whole_digits l.whole) ++ (fraction_text l.fraction ++ exponent_text l.exponent)) (minus_utf8 l.is_negative)
    (IsUtf8-append (digits_text (whole_digits l.whole)) (fraction_text l.fraction ++ exponent_text l.exponent) (digits_utf8 (whole_digits l.whole))
    (IsUtf8-append (fraction_text l.fraction) (exponent_text l.exponent) (fraction_utf8 l.fraction) (exponent_utf8 l.exponent)))

pub number_within : (limit : ℕ) (text : List ℕ) → IsNumber text → IsValueWithin limit text
number_within limit text number = record {
  is = record { utf8 = subst IsUtf8 (sym number.spelled) (literal_utf8 number.literal); value = json.number number.literal; spelled = number.spelled };
  within = omega arith;
}

pub decimal_within : (limit n : ℕ) → n < 2 ^ 64 → IsValueWithin limit (decimal n)
decimal_within limit n small = let w = decimal_literal n small in number_within limit (decimal n) (record { literal = w.literal; spelled = w.spelled })

-- ---- objects and arrays

pub nested_within : (limit : ℕ) (text : List ℕ) → IsValue text → NestsWithin limit text → IsValueWithin limit text
nested_within limit text value nests = object_within limit text nests.members value nests.object

-- ---- optional values

pub optional_text_within : (limit : ℕ) (text : Option (List ℕ)) → IsOptionalUtf8 text → IsOptionalWithin limit (option_map quoted text)
optional_text_within limit None u = tt
optional_text_within limit (Some text) u = text_within limit text u

pub optional_number_within : (limit : ℕ) (text : Option (List ℕ)) → IsOptionalNumber text → IsOptionalWithin limit text
optional_number_within limit None number = tt
optional_number_within limit (Some text) number = number_within limit text number
