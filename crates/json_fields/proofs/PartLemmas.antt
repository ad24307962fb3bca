-- Members of an object by what they hold.
use Rattle.std.proofs.Common.{◌≡◌, ◌⊎◌, inl, inr, ℕ, suc, List, [], ◌∷◌, ◌++◌, Option, None, Some, refl, sym, ◌∙◌, ap, subst, arith, ◌<◌, ◌+◌, ◌^◌, length, codes, IfSome, IfNone, Bool, true, false, get_or, if◌then◌else◌, cond, All}
use Rattle.std.specs.Char.{is_ascii_digit}
use Rattle.std.specs.Str.{bytes_eq}
use Rattle.json_scalar.specs.Number.{IsWhole, Literal, Whole, nought, counted, literal_text, digits_text, whole_digits, fraction_text, exponent_text}
use Rattle.json_span.specs.Grammar as json
use Rattle.json_span.specs.Grammar.{Value, value_text}
use Rattle.json_span.specs.Members.{IsSomeObject, IsMemberOf, IsValue, text_at}
use Rattle.json_span.specs.Elements.{IsSomeArray}
use Rattle.json_span.specs.declared.Member.{Member}
use Rattle.json_fields.specs.Answer.{IsAnswer, IsOnly}
use Rattle.json_fields.specs.Fields.{HasField, HasOptional, Holds, HoldsBefore, IsCut, present}
use Rattle.json_fields.specs.Parts.{IsCount, HasCount, IsOptionalCount, HasOptionalCount, HasObject, HasArray, IsNumber, IsOptionalNumber, HasOptionalNumber}
use Rattle.json_fields.proofs.AnswerLemmas.{None-Some, Some-injective}

-- what `whole_of` ensures is an answer
pub count_answer : (held : List ℕ) (found : Option ℕ) → IfSome found (IsWhole held) → IfSome found (λ n. n < 2 ^ 63) → IfSome found (λ n. (m : ℕ) → IsWhole held m → m ≡ n) → IfNone found ((n : ℕ) → n < 2 ^ 63 → ¬ IsWhole held n) → IsAnswer (IsCount held) found
count_answer held None whole small only none = λ count is. none count is.small is.whole
count_answer held (Some n) whole small only none = record {
  is = record { whole = whole; small = small };
  only = λ other is. only other is.whole;
}

-- a count in a member
pub has_count : (text name held : List ℕ) (found : Option ℕ) → IsOnly (HasField text name) held → IsAnswer (IsCount held) found → IsAnswer (HasCount text name) found
has_count text name held None field count = λ n has. count n (subst (λ (h : List ℕ). IsCount h n) (field.only has.held has.field) has.is)
has_count text name held (Some n) field count = record {
  is = record { held = held; field = field.is; is = count.is };
  only = λ other has. count.only other (subst (λ (h : List ℕ). IsCount h other) (field.only has.held has.field) has.is);
}

pub count_absent : (text name : List ℕ) → IsAnswer (HasField text name) None → IsAnswer (HasCount text name) None
count_absent text name field = λ n has. field has.held has.field

-- an object in a member
pub object_yes : (text name held : List ℕ) → IsOnly (HasField text name) held → IsSomeObject held → IsOnly (HasObject text name) held
object_yes text name held field object = record {
  is = record { field = field.is; object = object };
  only = λ other has. field.only other has.field;
}

pub object_no : (text name held : List ℕ) → IsOnly (HasField text name) held → ¬ IsSomeObject held → IsAnswer (HasObject text name) None
object_no text name held field none = λ other has. none (subst IsSomeObject (field.only other has.field) has.object)

pub object_absent : (text name : List ℕ) → IsAnswer (HasField text name) None → IsAnswer (HasObject text name) None
object_absent text name field = λ other has. field other has.field

-- an array in a member
pub array_yes : (text name held : List ℕ) → IsOnly (HasField text name) held → IsSomeArray held → IsOnly (HasArray text name) held
array_yes text name held field array = record {
  is = record { field = field.is; array = array };
  only = λ other has. field.only other has.field;
}

pub array_no : (text name held : List ℕ) → IsOnly (HasField text name) held → ¬ IsSomeArray held → IsAnswer (HasArray text name) None
array_no text name held field none = λ other has. none (subst IsSomeArray (field.only other has.field) has.array)

pub array_absent : (text name : List ℕ) → IsAnswer (HasField text name) None → IsAnswer (HasArray text name) None
array_absent text name field = λ other has. field other has.field

-- the first byte of a value tells whether it is a number
abbrev pub IsFirstOfNumber : ℕ → Type 0
IsFirstOfNumber b = (b ≡ 45) ⊎ (is_ascii_digit b ≡ true)

digit_first : (n : ℕ) → n < 10 → is_ascii_digit (48 + n) ≡ true
digit_first n small = grind arith

literal_first : (negative : Bool) (w : Whole) (rest : List ℕ) → (text : List ℕ) → text ≡ (if negative then 45 ∷ [] else []) ++ (digits_text (whole_digits w) ++ rest) → IsFirstOfNumber (get_or text 0 0)
literal_first true w rest text e = inl (ap (λ (t : List ℕ). get_or t 0 0) e)
literal_first false nought rest text e = inr (ap (λ (t : List ℕ). is_ascii_digit (get_or t 0 0)) e)
literal_first false (counted first above others) rest text e = inr (ap (λ (t : List ℕ). is_ascii_digit (get_or t 0 0)) e ∙ digit_first first.value first.small)

number_first : (text : List ℕ) (l : Literal) → text ≡ literal_text l → IsFirstOfNumber (get_or text 0 0)
number_first text l e = literal_first l.is_negative l.whole (fraction_text l.fraction ++ exponent_text l.exponent) text e

pub number_tells : (text : List ℕ) → IsNumber text → IsFirstOfNumber (get_or text 0 0)
number_tells text number = number_first text number.literal number.spelled

not_first : (n : ℕ) → is_ascii_digit n ≡ false → ¬ (n ≡ 45) → (text : List ℕ) → get_or text 0 0 ≡ n → IsFirstOfNumber (get_or text 0 0) → ⊥
not_first n no_digit no_minus text e (inl minus) = no_minus (sym e ∙ minus)
not_first n no_digit no_minus text e (inr digit) = differ (sym digit ∙ (ap is_ascii_digit e ∙ no_digit))
  where
    differ : true ≡ false → ⊥
    differ e = cc

number_value : (text : List ℕ) (v : Value) → text ≡ value_text v → IsFirstOfNumber (get_or text 0 0) → IsNumber text
number_value text (json.number l) e first = record { literal = l; spelled = e }
number_value text json.null e first = absurd (not_first 110 refl (λ i. omega (arith, i)) text (ap (λ (t : List ℕ). get_or t 0 0) e) first)
number_value text json.yes e first = absurd (not_first 116 refl (λ i. omega (arith, i)) text (ap (λ (t : List ℕ). get_or t 0 0) e) first)
number_value text json.no e first = absurd (not_first 102 refl (λ i. omega (arith, i)) text (ap (λ (t : List ℕ). get_or t 0 0) e) first)
number_value text (json.string ps) e first = absurd (not_first 34 refl (λ i. omega (arith, i)) text (ap (λ (t : List ℕ). get_or t 0 0) e) first)
number_value text (json.empty_array ss) e first = absurd (not_first 91 refl (λ i. omega (arith, i)) text (ap (λ (t : List ℕ). get_or t 0 0) e) first)
number_value text (json.array before v after items) e first = absurd (not_first 91 refl (λ i. omega (arith, i)) text (ap (λ (t : List ℕ). get_or t 0 0) e) first)
number_value text (json.empty_object ss) e first = absurd (not_first 123 refl (λ i. omega (arith, i)) text (ap (λ (t : List ℕ). get_or t 0 0) e) first)
number_value text (json.object before key behind ahead v after members) e first = absurd (not_first 123 refl (λ i. omega (arith, i)) text (ap (λ (t : List ℕ). get_or t 0 0) e) first)

pub is_number_if : (text : List ℕ) → IsValue text → IsFirstOfNumber (get_or text 0 0) → IsNumber text
is_number_if text is first = number_value text is.value is.spelled first

none_first : (text : List ℕ) → text ≡ [] → IsFirstOfNumber (get_or text 0 0) → ⊥
none_first text nil first = not_first 0 refl (λ i. omega (arith, i)) text (ap (λ (t : List ℕ). get_or t 0 0) nil) first

value_long : (text : List ℕ) (v : Value) → text ≡ value_text v → ¬ (text ≡ [])
value_long text (json.number l) e nil = none_first text nil (number_first text l e)
value_long text json.null e nil = absurd (cc)
value_long text json.yes e nil = absurd (cc)
value_long text json.no e nil = absurd (cc)
value_long text (json.string ps) e nil = absurd (cc)
value_long text (json.empty_array ss) e nil = absurd (cc)
value_long text (json.array before v after items) e nil = absurd (cc)
value_long text (json.empty_object ss) e nil = absurd (cc)
value_long text (json.object before key behind ahead v after members) e nil = absurd (cc)

long : (text : List ℕ) → ¬ (text ≡ []) → 0 < length text
long [] none = absurd (none refl)
long (b ∷ bs) none = omega arith

pub value_not_empty : (text : List ℕ) → IsValue text → 0 < length text
value_not_empty text is = long text (value_long text is.value is.spelled)

-- what an optional member holds is a value
tail : (text : List ℕ) (m : Member) (members : List Member) → All (IsMemberOf text) (m ∷ members) → All (IsMemberOf text) members
tail text m members all = λ i d lt. all (suc i) d (omega arith)

held_before : (text name : List ℕ) (m : Member) (later found : Option (List ℕ)) → IsValue (text_at text m.value) → IfSome later IsValue → HoldsBefore text name m later found → IfSome found IsValue
held_before text name m (Some later) found here there is = subst (λ (f : Option (List ℕ)). IfSome f IsValue) (sym is) there
held_before text name m None found here there (inl is) = subst (λ (f : Option (List ℕ)). IfSome f IsValue) (sym is.1) here
held_before text name m None found here there (inr is) = subst (λ (f : Option (List ℕ)). IfSome f IsValue) (sym is.1) tt

held_value : (text name : List ℕ) (members : List Member) (found : Option (List ℕ)) → All (IsMemberOf text) members → Holds text name members found → IfSome found IsValue
held_value text name [] found all holds = subst (λ (f : Option (List ℕ)). IfSome f IsValue) (sym holds) tt
held_value text name (m ∷ members) found all holds =
    held_before text name m holds.0 found (all 0 m (omega arith)).value (held_value text name members holds.0 (tail text m members all) holds.1) holds.2

present_if : (b : Bool) (x held : List ℕ) → IsValue x → Some held ≡ cond b None (Some x) → IsValue held
present_if true x held is e = absurd (None-Some held e)
present_if false x held is e = subst IsValue (sym (Some-injective held x e)) is

present_value : (found : Option (List ℕ)) (held : List ℕ) → IfSome found IsValue → Some held ≡ present found → IsValue held
present_value None held is e = absurd (None-Some held e)
present_value (Some x) held is e = present_if (bytes_eq x (codes "null")) x held is e

pub optional_value : (text name : List ℕ) (members : List Member) (held : List ℕ) → IsCut text members → HasOptional text name (Some held) → IsValue held
optional_value text name members held cut optional =
    let holds = subst (λ (ms : List Member). Holds text name ms optional.held) (cut.only optional.members optional.object) optional.holds in
    present_value optional.held held (held_value text name members optional.held cut.parts holds) optional.is

-- an optional number
pub number_yes : (text name held : List ℕ) → IsOnly (HasOptional text name) (Some held) → IsNumber held → IsOnly (HasOptionalNumber text name) (Some held)
number_yes text name held optional number = record {
  is = record { optional = optional.is; number = number };
  only = λ other has. optional.only other has.optional;
}

pub number_no : (text name held : List ℕ) → IsOnly (HasOptional text name) (Some held) → ¬ IsNumber held → IsAnswer (HasOptionalNumber text name) None
number_no text name held optional none = λ other has. none (subst IsOptionalNumber (optional.only other has.optional) has.number)

pub number_absent : (text name : List ℕ) → IsOnly (HasOptional text name) None → IsOnly (HasOptionalNumber text name) None
number_absent text name optional = record {
  is = record { optional = optional.is; number = tt };
  only = λ other has. optional.only other has.optional;
}

-- an optional count
optional_count_none : (held : List ℕ) (count : Option ℕ) → IsAnswer (IsCount held) None → IsOptionalCount (Some held) count → ⊥
optional_count_none held None none is = is
optional_count_none held (Some m) none is = none m is

optional_count_only : (held : List ℕ) (n : ℕ) (count : Option ℕ) → IsOnly (IsCount held) n → IsOptionalCount (Some held) count → count ≡ Some n
optional_count_only held n None only is = absurd is
optional_count_only held n (Some m) only is = ap (λ (k : ℕ). Some k) (only.only m is)

pub optional_count_absent : (text name : List ℕ) → IsOnly (HasOptional text name) None → IsOnly (HasOptionalCount text name) None
optional_count_absent text name optional = record {
  is = record { held = None; optional = optional.is; is = refl };
  only = λ other has. absent has.held other (optional.only has.held has.optional) has.is;
}
  where
    absent : (held : Option (List ℕ)) (count : Option ℕ) → held ≡ None → IsOptionalCount held count → count ≡ None
    absent None count e is = is
    absent (Some held) count e is = absurd (None-Some held e)

pub optional_count_told : (text name held : List ℕ) (n : ℕ) → IsOnly (HasOptional text name) (Some held) → IsOnly (IsCount held) n → IsOnly (HasOptionalCount text name) (Some n)
optional_count_told text name held n optional count = record {
  is = record { held = Some held; optional = optional.is; is = count.is };
  only = λ other has. optional_count_only held n other count (subst (λ (h : Option (List ℕ)). IsOptionalCount h other) (optional.only has.held has.optional) has.is);
}

pub optional_uncounted : (text name held : List ℕ) → IsOnly (HasOptional text name) (Some held) → IsAnswer (IsCount held) None → IsAnswer (HasOptionalCount text name) None
optional_uncounted text name held optional none = λ other has. optional_count_none held other none (subst (λ (h : Option (List ℕ)). IsOptionalCount h other) (optional.only has.held has.optional) has.is)
