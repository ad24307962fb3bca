-- A text that the machine reads to its end is the spelling of some object, or some array.
use Rattle.std.proofs.Common.{◌≡◌, ℕ, ◌+◌, ◌-◌, ◌⊎◌, inl, inr, List, [], ◌∷◌, true, false, Some, None, length, refl, lit<}
use Rattle.json_scalar.specs.Number.{Digit, nought, counted, unsigned, plus, minus}
use Rattle.json_span.specs.Grammar as json
use Rattle.json_span.specs.Grammar.{Space, space_byte, Value, Items, Members}
use Rattle.json_span.specs.Table.{class_of, next_spot, text_move, number_move, value_move, after_move, start_move, table, move_of}
use Rattle.json_span.specs.Machine.{value_ended, made, moved, stepped, run, initial, IsDone}
use Rattle.json_span.specs.declared.class.Class.{Class}
use Rattle.json_span.specs.declared.class.Class.TheVariants as class
use Rattle.json_span.specs.declared.phase.Frame.{Frame}
use Rattle.json_span.specs.declared.phase.Frame.TheVariants as frame
use Rattle.json_span.specs.declared.phase.Role.{Role}
use Rattle.json_span.specs.declared.phase.Role.TheVariants as role
use Rattle.json_span.specs.declared.phase.Spot.{Spot}
use Rattle.json_span.specs.declared.phase.Part.{Part}
use Rattle.json_span.specs.declared.phase.Part.TheVariants as part
use Rattle.json_span.specs.declared.phase.Phase.{Phase}
use Rattle.json_span.specs.declared.phase.Phase.TheVariants as phase
use Rattle.json_span.specs.declared.table.Move.{Move}
use Rattle.json_span.specs.declared.table.Move.TheVariants as moves
use Rattle.json_span.specs.declared.table.TextMove.{TextMove}
use Rattle.json_span.specs.declared.table.TextMove.TheVariants as text
use Rattle.json_span.specs.declared.cutter.Cutter.{Cutter}
use Rattle.json_span.specs.declared.machine.Machine.{Machine}
use Rattle.json_span.proofs.Steps.{state}
use Rattle.json_span.proofs.Classes.{class_fact}
use Rattle.json_span.proofs.Strings.{TextContinues, spot_wants, word_wants}
use Rattle.json_span.proofs.Wants.{SpacesEnd, ItemsEnd, MembersEnd, ValueEnd, ObjectEnd, ArrayEnd, ColonEnd, KeyEnd, ShutEnd, TextEnd, PowerEnd, SignEnd, MarkEnd, FractionEnd, PointEnd, ZeroEnd, WholeEnd, MinusEnd, Then, IsByte, NumberW, RestW, CloseW, TextRoleW, CommaW, Wants, Continues, IsOfClass}

-- behind a value

after_blank : (k : List Frame) (s : Space) (b : ℕ) (bs : List ℕ) → b ≡ space_byte s → RestW k bs → RestW k (b ∷ bs)
after_blank [] s b bs e h = record { spaces = s ∷ h.spaces; spelled = cc }
after_blank (frame.Array ∷ k) s b bs e h = record { spaces = s ∷ h.spaces; items = h.items; rest = h.rest; spelled = cc; more = h.more }
after_blank (frame.Object ∷ k) s b bs e h = record { spaces = s ∷ h.spaces; members = h.members; rest = h.rest; spelled = cc; more = h.more }

after_comma : (k : List Frame) (b : ℕ) (bs : List ℕ) → b ≡ 44 → CommaW k bs → RestW k (b ∷ bs)
after_comma [] b bs e h = absurd h
after_comma (frame.Array ∷ k) b bs e h =
    let n = h.more in
    record { spaces = []; items = json.item h.spaces h.value n.spaces n.items; rest = n.rest; spelled = cc (e, h.spelled, n.spelled); more = n.more }
after_comma (frame.Object ∷ k) b bs e h =
    let n = h.more in
    record { spaces = []; members = json.member h.before h.key h.behind h.ahead h.value n.spaces n.members; rest = n.rest; spelled = cc (e, h.spelled, n.spelled); more = n.more }

after_array : (k : List Frame) (b : ℕ) (bs : List ℕ) → b ≡ 93 → CloseW frame.Array k bs → RestW k (b ∷ bs)
after_array [] b bs e h = absurd h
after_array (frame.Array ∷ k) b bs e h = record { spaces = []; items = json.end_array; rest = bs; spelled = cc; more = h }
after_array (frame.Object ∷ k) b bs e h = absurd h

after_object : (k : List Frame) (b : ℕ) (bs : List ℕ) → b ≡ 125 → CloseW frame.Object k bs → RestW k (b ∷ bs)
after_object [] b bs e h = absurd h
after_object (frame.Array ∷ k) b bs e h = absurd h
after_object (frame.Object ∷ k) b bs e h = record { spaces = []; members = json.end_object; rest = bs; spelled = cc; more = h }

after_wants : (t : Class) (k : List Frame) (b : ℕ) (bs : List ℕ) → IsOfClass t b → Continues (after_move t) k b bs → RestW k (b ∷ bs)
after_wants class.Blank k b bs is h = after_blank k is.0 b bs is.1 h
after_wants class.Comma k b bs is h = after_comma k b bs is h
after_wants class.ArrayEnd k b bs is h = after_array k b bs is h
after_wants class.ObjectEnd k b bs is h = after_object k b bs is h
after_wants _ k b bs is h = absurd h

-- in a number

abbrev nought_digit : Digit
nought_digit = record { value = 0; small = lit< tt }

power_more : (P : List ℕ → Type 0) (d : Digit) (b : ℕ) (bs : List ℕ) → b ≡ 48 + d.value → PowerEnd P bs → PowerEnd P (b ∷ bs)
power_more P d b bs e h = record { digits = d ∷ h.digits; rest = h.rest; spelled = cc; more = h.more }

fraction_more : (P : List ℕ → Type 0) (d : Digit) (b : ℕ) (bs : List ℕ) → b ≡ 48 + d.value → FractionEnd P bs → FractionEnd P (b ∷ bs)
fraction_more P d b bs e h = record { digits = d ∷ h.digits; exponent = h.exponent; rest = h.rest; spelled = cc; more = h.more }

whole_more : (P : List ℕ → Type 0) (d : Digit) (b : ℕ) (bs : List ℕ) → b ≡ 48 + d.value → WholeEnd P bs → WholeEnd P (b ∷ bs)
whole_more P d b bs e h = record { digits = d ∷ h.digits; fraction = h.fraction; exponent = h.exponent; rest = h.rest; spelled = cc; more = h.more }

point_first : (P : List ℕ → Type 0) (d : Digit) (b : ℕ) (bs : List ℕ) → b ≡ 48 + d.value → FractionEnd P bs → PointEnd P (b ∷ bs)
point_first P d b bs e h = record { digits = record { first = d; others = h.digits }; exponent = h.exponent; rest = h.rest; spelled = cc; more = h.more }

sign_first : (P : List ℕ → Type 0) (d : Digit) (b : ℕ) (bs : List ℕ) → b ≡ 48 + d.value → PowerEnd P bs → SignEnd P (b ∷ bs)
sign_first P d b bs e h = record { digits = record { first = d; others = h.digits }; rest = h.rest; spelled = cc; more = h.more }

mark_first : (P : List ℕ → Type 0) (d : Digit) (b : ℕ) (bs : List ℕ) → b ≡ 48 + d.value → PowerEnd P bs → MarkEnd P (b ∷ bs)
mark_first P d b bs e h = record { sign = unsigned; digits = record { first = d; others = h.digits }; rest = h.rest; spelled = cc; more = h.more }

minus_wants : (t : Class) (k : List Frame) (b : ℕ) (bs : List ℕ) → IsOfClass t b → Continues (number_move part.Minus t) k b bs → MinusEnd (RestW k) (b ∷ bs)
minus_wants class.Zero k b bs is h = record { whole = nought; fraction = h.fraction; exponent = h.exponent; rest = h.rest; spelled = cc; more = h.more }
minus_wants class.Digit k b bs is h = let e = is.2 in record { whole = counted is.0 is.1 h.digits; fraction = h.fraction; exponent = h.exponent; rest = h.rest; spelled = cc (e, h.spelled); more = h.more }
minus_wants _ k b bs is h = absurd h

zero_wants : (t : Class) (k : List Frame) (b : ℕ) (bs : List ℕ) → IsOfClass t b → Continues (number_move part.Zero t) k b bs → ZeroEnd (RestW k) (b ∷ bs)
zero_wants class.Point k b bs is h = record { fraction = Some h.digits; exponent = h.exponent; rest = h.rest; spelled = cc; more = h.more }
zero_wants class.Mark k b bs is h = let e = is.1 in record { fraction = None; exponent = Some (record { is_capital = is.0; sign = h.sign; digits = h.digits }); rest = h.rest; spelled = cc (e, h.spelled); more = h.more }
zero_wants _ k b bs is h = record { fraction = None; exponent = None; rest = b ∷ bs; spelled = refl; more = h }

whole_wants : (t : Class) (k : List Frame) (b : ℕ) (bs : List ℕ) → IsOfClass t b → Continues (number_move part.Whole t) k b bs → WholeEnd (RestW k) (b ∷ bs)
whole_wants class.Zero k b bs is h = whole_more (RestW k) nought_digit b bs is h
whole_wants class.Digit k b bs is h = whole_more (RestW k) is.0 b bs is.2 h
whole_wants class.Point k b bs is h = record { digits = []; fraction = Some h.digits; exponent = h.exponent; rest = h.rest; spelled = cc; more = h.more }
whole_wants class.Mark k b bs is h = let e = is.1 in record { digits = []; fraction = None; exponent = Some (record { is_capital = is.0; sign = h.sign; digits = h.digits }); rest = h.rest; spelled = cc (e, h.spelled); more = h.more }
whole_wants _ k b bs is h = record { digits = []; fraction = None; exponent = None; rest = b ∷ bs; spelled = refl; more = h }

point_wants : (t : Class) (k : List Frame) (b : ℕ) (bs : List ℕ) → IsOfClass t b → Continues (number_move part.Point t) k b bs → PointEnd (RestW k) (b ∷ bs)
point_wants class.Zero k b bs is h = point_first (RestW k) nought_digit b bs is h
point_wants class.Digit k b bs is h = point_first (RestW k) is.0 b bs is.2 h
point_wants _ k b bs is h = absurd h

fraction_wants : (t : Class) (k : List Frame) (b : ℕ) (bs : List ℕ) → IsOfClass t b → Continues (number_move part.Fraction t) k b bs → FractionEnd (RestW k) (b ∷ bs)
fraction_wants class.Zero k b bs is h = fraction_more (RestW k) nought_digit b bs is h
fraction_wants class.Digit k b bs is h = fraction_more (RestW k) is.0 b bs is.2 h
fraction_wants class.Mark k b bs is h = let e = is.1 in record { digits = []; exponent = Some (record { is_capital = is.0; sign = h.sign; digits = h.digits }); rest = h.rest; spelled = cc (e, h.spelled); more = h.more }
fraction_wants _ k b bs is h = record { digits = []; exponent = None; rest = b ∷ bs; spelled = refl; more = h }

mark_wants : (t : Class) (k : List Frame) (b : ℕ) (bs : List ℕ) → IsOfClass t b → Continues (number_move part.Mark t) k b bs → MarkEnd (RestW k) (b ∷ bs)
mark_wants class.Plus k b bs is h = record { sign = plus; digits = h.digits; rest = h.rest; spelled = cc; more = h.more }
mark_wants class.Minus k b bs is h = record { sign = minus; digits = h.digits; rest = h.rest; spelled = cc; more = h.more }
mark_wants class.Zero k b bs is h = mark_first (RestW k) nought_digit b bs is h
mark_wants class.Digit k b bs is h = mark_first (RestW k) is.0 b bs is.2 h
mark_wants _ k b bs is h = absurd h

sign_wants : (t : Class) (k : List Frame) (b : ℕ) (bs : List ℕ) → IsOfClass t b → Continues (number_move part.Sign t) k b bs → SignEnd (RestW k) (b ∷ bs)
sign_wants class.Zero k b bs is h = sign_first (RestW k) nought_digit b bs is h
sign_wants class.Digit k b bs is h = sign_first (RestW k) is.0 b bs is.2 h
sign_wants _ k b bs is h = absurd h

power_wants : (t : Class) (k : List Frame) (b : ℕ) (bs : List ℕ) → IsOfClass t b → Continues (number_move part.Exponent t) k b bs → PowerEnd (RestW k) (b ∷ bs)
power_wants class.Zero k b bs is h = power_more (RestW k) nought_digit b bs is h
power_wants class.Digit k b bs is h = power_more (RestW k) is.0 b bs is.2 h
power_wants _ k b bs is h = record { digits = []; rest = b ∷ bs; spelled = refl; more = h }

number_wants : (p : Part) (k : List Frame) (b : ℕ) (bs : List ℕ) → Continues (number_move p (class_of b)) k b bs → NumberW p (RestW k) (b ∷ bs)
number_wants part.Minus k b bs h = minus_wants (class_of b) k b bs (class_fact b) h
number_wants part.Zero k b bs h = zero_wants (class_of b) k b bs (class_fact b) h
number_wants part.Whole k b bs h = whole_wants (class_of b) k b bs (class_fact b) h
number_wants part.Point k b bs h = point_wants (class_of b) k b bs (class_fact b) h
number_wants part.Fraction k b bs h = fraction_wants (class_of b) k b bs (class_fact b) h
number_wants part.Mark k b bs h = mark_wants (class_of b) k b bs (class_fact b) h
number_wants part.Sign k b bs h = sign_wants (class_of b) k b bs (class_fact b) h
number_wants part.Exponent k b bs h = power_wants (class_of b) k b bs (class_fact b) h

-- where a value is wanted

null_ends : (P : List ℕ → Type 0) (b : ℕ) (bs : List ℕ) → b ≡ 110 → Then (IsByte 117) (Then (IsByte 108) (Then (IsByte 108) P)) bs → ValueEnd P (b ∷ bs)
null_ends P b [] e h = absurd h
null_ends P b (u ∷ []) e h = absurd h.1
null_ends P b (u ∷ v ∷ []) e h = absurd h.1.1
null_ends P b (u ∷ v ∷ w ∷ bs) e h = record { spaces = []; value = json.null; rest = bs; spelled = cc (e, h.0, h.1.0, h.1.1.0); more = h.1.1.1 }

true_ends : (P : List ℕ → Type 0) (b : ℕ) (bs : List ℕ) → b ≡ 116 → Then (IsByte 114) (Then (IsByte 117) (Then (IsByte 101) P)) bs → ValueEnd P (b ∷ bs)
true_ends P b [] e h = absurd h
true_ends P b (u ∷ []) e h = absurd h.1
true_ends P b (u ∷ v ∷ []) e h = absurd h.1.1
true_ends P b (u ∷ v ∷ w ∷ bs) e h = record { spaces = []; value = json.yes; rest = bs; spelled = cc (e, h.0, h.1.0, h.1.1.0); more = h.1.1.1 }

false_ends : (P : List ℕ → Type 0) (b : ℕ) (bs : List ℕ) → b ≡ 102 → Then (IsByte 97) (Then (IsByte 108) (Then (IsByte 115) (Then (IsByte 101) P))) bs → ValueEnd P (b ∷ bs)
false_ends P b [] e h = absurd h
false_ends P b (u ∷ []) e h = absurd h.1
false_ends P b (u ∷ v ∷ []) e h = absurd h.1.1
false_ends P b (u ∷ v ∷ w ∷ []) e h = absurd h.1.1.1
false_ends P b (u ∷ v ∷ w ∷ x ∷ bs) e h = record { spaces = []; value = json.no; rest = bs; spelled = cc (e, h.0, h.1.0, h.1.1.0, h.1.1.1.0); more = h.1.1.1.1 }

array_wants : (k : List Frame) (b : ℕ) (bs : List ℕ) → b ≡ 91 → ShutEnd 93 (RestW k) bs ⊎ ValueEnd (ItemsEnd (RestW k)) bs → ArrayEnd (RestW k) (b ∷ bs)
array_wants k b bs e (inl h) = record { spaces = []; value = json.empty_array h.spaces; is = tt; rest = h.rest; spelled = cc; more = h.more }
array_wants k b bs e (inr h) = let n = h.more in record { spaces = []; value = json.array h.spaces h.value n.spaces n.items; is = tt; rest = n.rest; spelled = cc (e, h.spelled, n.spelled); more = n.more }

object_wants : (k : List Frame) (b : ℕ) (bs : List ℕ) → b ≡ 123 → ShutEnd 125 (RestW k) bs ⊎ KeyEnd (MembersEnd (RestW k)) bs → ObjectEnd (RestW k) (b ∷ bs)
object_wants k b bs e (inl h) = record { spaces = []; value = json.empty_object h.spaces; is = tt; rest = h.rest; spelled = cc; more = h.more }
object_wants k b bs e (inr h) = let n = h.more in record { spaces = []; value = json.object h.before h.key h.behind h.ahead h.value n.spaces n.members; is = tt; rest = n.rest; spelled = cc (e, h.spelled, n.spelled); more = n.more }

value_wants : (t : Class) (k : List Frame) (b : ℕ) (bs : List ℕ) → IsOfClass t b → Continues (value_move t) k b bs → ValueEnd (RestW k) (b ∷ bs)
value_wants class.Blank k b bs is h = let e = is.1 in record { spaces = is.0 ∷ h.spaces; value = h.value; rest = h.rest; spelled = cc (e, h.spelled); more = h.more }
value_wants class.Quote k b bs is h = record { spaces = []; value = json.string h.pieces; rest = h.rest; spelled = cc; more = h.more }
value_wants class.ArrayStart k b bs is h = let a = array_wants k b bs is h in record { spaces = a.spaces; value = a.value; rest = a.rest; spelled = a.spelled; more = a.more }
value_wants class.ObjectStart k b bs is h = let o = object_wants k b bs is h in record { spaces = o.spaces; value = o.value; rest = o.rest; spelled = o.spelled; more = o.more }
value_wants class.Minus k b bs is h = record { spaces = []; value = json.number (record { is_negative = true; whole = h.whole; fraction = h.fraction; exponent = h.exponent }); rest = h.rest; spelled = cc; more = h.more }
value_wants class.Zero k b bs is h = record { spaces = []; value = json.number (record { is_negative = false; whole = nought; fraction = h.fraction; exponent = h.exponent }); rest = h.rest; spelled = cc; more = h.more }
value_wants class.Digit k b bs is h = let e = is.2 in record { spaces = []; value = json.number (record { is_negative = false; whole = counted is.0 is.1 h.digits; fraction = h.fraction; exponent = h.exponent }); rest = h.rest; spelled = cc (e, h.spelled); more = h.more }
value_wants class.LetterN k b bs is h = null_ends (RestW k) b bs is h
value_wants class.LetterT k b bs is h = true_ends (RestW k) b bs is h
value_wants class.LetterF k b bs is h = false_ends (RestW k) b bs is h
value_wants _ k b bs is h = absurd h

-- at the other phases

first_item_blank : (k : List Frame) (s : Space) (b : ℕ) (bs : List ℕ) → b ≡ space_byte s → Wants phase.FirstItem k bs → Wants phase.FirstItem k (b ∷ bs)
first_item_blank k s b bs e (inl h) = inl (record { spaces = s ∷ h.spaces; rest = h.rest; spelled = cc; more = h.more })
first_item_blank k s b bs e (inr h) = inr (record { spaces = s ∷ h.spaces; value = h.value; rest = h.rest; spelled = cc; more = h.more })

first_item_wants : (t : Class) (k : List Frame) (b : ℕ) (bs : List ℕ) → IsOfClass t b → Continues (table phase.FirstItem t) k b bs → Wants phase.FirstItem k (b ∷ bs)
first_item_wants class.Blank k b bs is h = first_item_blank k is.0 b bs is.1 h
first_item_wants class.ArrayEnd k b bs is h = inl (record { spaces = []; rest = bs; spelled = cc; more = h })
first_item_wants class.Quote k b bs is h = inr (value_wants class.Quote k b bs is h)
first_item_wants class.Comma k b bs is h = absurd h
first_item_wants class.Colon k b bs is h = absurd h
first_item_wants class.ArrayStart k b bs is h = inr (value_wants class.ArrayStart k b bs is h)
first_item_wants class.ObjectStart k b bs is h = inr (value_wants class.ObjectStart k b bs is h)
first_item_wants class.ObjectEnd k b bs is h = absurd h
first_item_wants class.Minus k b bs is h = inr (value_wants class.Minus k b bs is h)
first_item_wants class.Plus k b bs is h = absurd h
first_item_wants class.Point k b bs is h = absurd h
first_item_wants class.Zero k b bs is h = inr (value_wants class.Zero k b bs is h)
first_item_wants class.Digit k b bs is h = inr (value_wants class.Digit k b bs is h)
first_item_wants class.Mark k b bs is h = absurd h
first_item_wants class.LetterT k b bs is h = inr (value_wants class.LetterT k b bs is h)
first_item_wants class.LetterF k b bs is h = inr (value_wants class.LetterF k b bs is h)
first_item_wants class.LetterN k b bs is h = inr (value_wants class.LetterN k b bs is h)
first_item_wants class.Other k b bs is h = absurd h

key_blank : (P : List ℕ → Type 0) (s : Space) (b : ℕ) (bs : List ℕ) → b ≡ space_byte s → KeyEnd P bs → KeyEnd P (b ∷ bs)
key_blank P s b bs e h = record { before = s ∷ h.before; key = h.key; behind = h.behind; ahead = h.ahead; value = h.value; rest = h.rest; spelled = cc; more = h.more }

key_starts : (P : List ℕ → Type 0) (b : ℕ) (bs : List ℕ) → b ≡ 34 → TextEnd (ColonEnd P) bs → KeyEnd P (b ∷ bs)
key_starts P b bs e h = let n = h.more in record { before = []; key = h.pieces; behind = n.behind; ahead = n.ahead; value = n.value; rest = n.rest; spelled = cc (e, h.spelled, n.spelled); more = n.more }

first_key_blank : (k : List Frame) (s : Space) (b : ℕ) (bs : List ℕ) → b ≡ space_byte s → Wants phase.FirstKey k bs → Wants phase.FirstKey k (b ∷ bs)
first_key_blank k s b bs e (inl h) = inl (record { spaces = s ∷ h.spaces; rest = h.rest; spelled = cc; more = h.more })
first_key_blank k s b bs e (inr h) = inr (key_blank (RestW k) s b bs e h)

first_key_wants : (t : Class) (k : List Frame) (b : ℕ) (bs : List ℕ) → IsOfClass t b → Continues (table phase.FirstKey t) k b bs → Wants phase.FirstKey k (b ∷ bs)
first_key_wants class.Blank k b bs is h = first_key_blank k is.0 b bs is.1 h
first_key_wants class.Quote k b bs is h = inr (key_starts (RestW k) b bs is h)
first_key_wants class.ObjectEnd k b bs is h = inl (record { spaces = []; rest = bs; spelled = cc; more = h })
first_key_wants _ k b bs is h = absurd h

key_wants : (t : Class) (k : List Frame) (b : ℕ) (bs : List ℕ) → IsOfClass t b → Continues (table phase.Key t) k b bs → Wants phase.Key k (b ∷ bs)
key_wants class.Blank k b bs is h = key_blank (RestW k) is.0 b bs is.1 h
key_wants class.Quote k b bs is h = key_starts (RestW k) b bs is h
key_wants _ k b bs is h = absurd h

colon_wants : (t : Class) (k : List Frame) (b : ℕ) (bs : List ℕ) → IsOfClass t b → Continues (table phase.Colon t) k b bs → Wants phase.Colon k (b ∷ bs)
colon_wants class.Blank k b bs is h = let e = is.1 in record { behind = is.0 ∷ h.behind; ahead = h.ahead; value = h.value; rest = h.rest; spelled = cc (e, h.spelled); more = h.more }
colon_wants class.Colon k b bs is h = record { behind = []; ahead = h.spaces; value = h.value; rest = h.rest; spelled = cc; more = h.more }
colon_wants _ k b bs is h = absurd h

start_blank : (f : Frame) (s : Space) (k : List Frame) (b : ℕ) (bs : List ℕ) → b ≡ space_byte s → Wants (phase.Start f) k bs → Wants (phase.Start f) k (b ∷ bs)
start_blank frame.Array s k b bs e h = record { spaces = s ∷ h.spaces; value = h.value; is = h.is; rest = h.rest; spelled = cc (e, h.spelled); more = h.more }
start_blank frame.Object s k b bs e h = record { spaces = s ∷ h.spaces; value = h.value; is = h.is; rest = h.rest; spelled = cc (e, h.spelled); more = h.more }

start_wants : (f : Frame) (t : Class) (k : List Frame) (b : ℕ) (bs : List ℕ) → IsOfClass t b → Continues (start_move f t) k b bs → Wants (phase.Start f) k (b ∷ bs)
start_wants frame.Array class.Blank k b bs is h = start_blank frame.Array is.0 k b bs is.1 h
start_wants frame.Object class.Blank k b bs is h = start_blank frame.Object is.0 k b bs is.1 h
start_wants frame.Array class.ArrayStart k b bs is h = array_wants k b bs is h
start_wants frame.Object class.ObjectStart k b bs is h = object_wants k b bs is h
start_wants frame.Array _ k b bs is h = absurd h
start_wants frame.Object _ k b bs is h = absurd h

done_wants : (t : Class) (k : List Frame) (b : ℕ) (bs : List ℕ) → IsOfClass t b → Continues (table phase.Done t) k b bs → Wants phase.Done k (b ∷ bs)
done_wants class.Blank k b bs is h = let e = is.1 in record { spaces = is.0 ∷ h.spaces; spelled = cc (e, h.spelled) }
done_wants _ k b bs is h = absurd h

text_wants : (r : Role) (s : Spot) (k : List Frame) (b : ℕ) (bs : List ℕ) (m : TextMove) → Continues (text_move r m) k b bs → TextContinues (TextRoleW r k) m bs
text_wants r s k b bs (text.Go next) h = h
text_wants role.Key s k b bs text.End h = h
text_wants role.Value s k b bs text.End h = h
text_wants r s k b bs text.Fail h = absurd h

-- What a byte leaves to be completed, it completes with that byte in front.
wants_more : (p : Phase) (k : List Frame) (b : ℕ) (bs : List ℕ) → Continues (move_of p b) k b bs → Wants p k (b ∷ bs)
wants_more (phase.Start f) k b bs h = start_wants f (class_of b) k b bs (class_fact b) h
wants_more phase.FirstKey k b bs h = first_key_wants (class_of b) k b bs (class_fact b) h
wants_more phase.Key k b bs h = key_wants (class_of b) k b bs (class_fact b) h
wants_more phase.Colon k b bs h = colon_wants (class_of b) k b bs (class_fact b) h
wants_more phase.FirstItem k b bs h = first_item_wants (class_of b) k b bs (class_fact b) h
wants_more phase.Value k b bs h = value_wants (class_of b) k b bs (class_fact b) h
wants_more phase.After k b bs h = after_wants (class_of b) k b bs (class_fact b) h
wants_more phase.Done k b bs h = done_wants (class_of b) k b bs (class_fact b) h
wants_more (phase.Text r s) k b bs h = spot_wants (TextRoleW r k) s b bs (text_wants r s k b bs (next_spot s b) h)
wants_more (phase.Number p) k b bs h = number_wants p k b bs h
wants_more (phase.Word l) k b bs h = word_wants l k b bs h
wants_more phase.Broken k b bs h = absurd h

-- What completes the state behind a move is what the move leaves to be completed.
close_continues : (f : Frame) (p : Phase) (k : List Frame) (d : ℕ) (c : Cutter) (b here behind : ℕ) (bs : List ℕ) →
    Wants (made (moves.Close f) (state p k d c) here behind).phase (made (moves.Close f) (state p k d c) here behind).frames bs → CloseW f k bs
close_continues frame.Array p [] d c b here behind bs h = absurd h
close_continues frame.Object p [] d c b here behind bs h = absurd h
close_continues frame.Array p (frame.Object ∷ k) d c b here behind bs h = absurd h
close_continues frame.Object p (frame.Array ∷ k) d c b here behind bs h = absurd h
close_continues frame.Array p (frame.Array ∷ []) d c b here behind bs h = h
close_continues frame.Array p (frame.Array ∷ f ∷ k) d c b here behind bs h = h
close_continues frame.Object p (frame.Object ∷ []) d c b here behind bs h = h
close_continues frame.Object p (frame.Object ∷ f ∷ k) d c b here behind bs h = h

comma_continues : (p : Phase) (k : List Frame) (d : ℕ) (c : Cutter) (b here behind : ℕ) (bs : List ℕ) →
    Wants (made moves.Comma (state p k d c) here behind).phase k bs → CommaW k bs
comma_continues p [] d c b here behind bs h = absurd h
comma_continues p (frame.Array ∷ k) d c b here behind bs h = h
comma_continues p (frame.Object ∷ k) d c b here behind bs h = h

made_continues : (mv : Move) (p : Phase) (k : List Frame) (d : ℕ) (c : Cutter) (b here behind : ℕ) (bs : List ℕ) →
    Wants (made mv (state p k d c) here behind).phase (made mv (state p k d c) here behind).frames bs → Continues mv k b bs
made_continues (moves.Go next) p k d c b here behind bs h = h
made_continues moves.BeginKey p k d c b here behind bs h = h
made_continues moves.EndKey p k d c b here behind bs h = h
made_continues (moves.Begin next) p k d c b here behind bs h = h
made_continues moves.End p k d c b here behind bs h = h
made_continues moves.EndNumber p k d c b here behind bs h = absurd h
made_continues (moves.Open f) p k d c b here behind bs h = h
made_continues (moves.Close f) p k d c b here behind bs h = close_continues f p k d c b here behind bs h
made_continues moves.Comma p k d c b here behind bs h = comma_continues p k d c b here behind bs h

moved_continues : (mv : Move) (p : Phase) (k : List Frame) (d : ℕ) (c : Cutter) (b here behind : ℕ) (bs : List ℕ) →
    Wants (moved mv (state p k d c) b here behind).phase (moved mv (state p k d c) b here behind).frames bs → Continues mv k b bs
moved_continues moves.EndNumber p k d c b here behind bs h = after_wants (class_of b) k b bs (class_fact b) (made_continues (after_move (class_of b)) p k d (value_ended k c here) b here behind bs h)
moved_continues (moves.Go next) p k d c b here behind bs h = made_continues (moves.Go next) p k d c b here behind bs h
moved_continues moves.BeginKey p k d c b here behind bs h = made_continues moves.BeginKey p k d c b here behind bs h
moved_continues moves.EndKey p k d c b here behind bs h = made_continues moves.EndKey p k d c b here behind bs h
moved_continues (moves.Begin next) p k d c b here behind bs h = made_continues (moves.Begin next) p k d c b here behind bs h
moved_continues moves.End p k d c b here behind bs h = made_continues moves.End p k d c b here behind bs h
moved_continues (moves.Open f) p k d c b here behind bs h = made_continues (moves.Open f) p k d c b here behind bs h
moved_continues (moves.Close f) p k d c b here behind bs h = made_continues (moves.Close f) p k d c b here behind bs h
moved_continues moves.Comma p k d c b here behind bs h = made_continues moves.Comma p k d c b here behind bs h

ended : (p : Phase) (k : List Frame) → IsDone p → Wants p k []
ended phase.Done k h = record { spaces = []; spelled = refl }
ended _ k h = absurd h

-- A text that the machine reads to its end completes the state that it began in.
pub completes : (bs : List ℕ) (size : ℕ) (m : Machine) → IsDone (run size m bs).phase → Wants m.phase m.frames bs
completes [] size m h = ended m.phase m.frames h
completes (b ∷ bs) size m h =
    wants_more m.phase m.frames b bs
    (moved_continues (move_of m.phase b) m.phase m.frames m.deepest m.cutter b (size - length (b ∷ bs)) (size - length bs) bs
    (completes bs size (stepped m b (size - length (b ∷ bs)) (size - length bs)) h))

-- So the text of the whole machine is an object's, or an array's.
pub is_spelled : (text : List ℕ) (size : ℕ) → IsDone (run size (initial frame.Object) text).phase → ObjectEnd (λ bs. SpacesEnd bs) text
is_spelled text size h = completes text size (initial frame.Object) h

pub is_spelled_array : (text : List ℕ) (size : ℕ) → IsDone (run size (initial frame.Array) text).phase → ArrayEnd (λ bs. SpacesEnd bs) text
is_spelled_array text size h = completes text size (initial frame.Array) h
