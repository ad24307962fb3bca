-- What a byte does to the reader of an object or an array, by what is waited for.
use Rattle.std.specs.Prelude.{ℕ, ◌&&◌, ◌==◌, nat_lt, nat_le, if◌then◌else◌}
use Rattle.std.specs.Char.{digit_value, is_digit}
use Rattle.json_span.specs.declared.class.Class.{Class}
use Rattle.json_span.specs.declared.class.Class.TheVariants as class
use Rattle.json_span.specs.declared.class.Hex.{Hex}
use Rattle.json_span.specs.declared.class.Hex.TheVariants as hex
use Rattle.json_span.specs.declared.phase.Frame.{Frame}
use Rattle.json_span.specs.declared.phase.Frame.TheVariants as frame
use Rattle.json_span.specs.declared.phase.Role.{Role}
use Rattle.json_span.specs.declared.phase.Role.TheVariants as role
use Rattle.json_span.specs.declared.phase.Spot.{Spot}
use Rattle.json_span.specs.declared.phase.Spot.TheVariants as spot
use Rattle.json_span.specs.declared.phase.Part.{Part}
use Rattle.json_span.specs.declared.phase.Part.TheVariants as part
use Rattle.json_span.specs.declared.phase.Letter.{Letter}
use Rattle.json_span.specs.declared.phase.Letter.TheVariants as letter
use Rattle.json_span.specs.declared.phase.Phase.{Phase}
use Rattle.json_span.specs.declared.phase.Phase.TheVariants as phase
use Rattle.json_span.specs.declared.table.Move.{Move}
use Rattle.json_span.specs.declared.table.Move.TheVariants as moves
use Rattle.json_span.specs.declared.table.TextMove.{TextMove}
use Rattle.json_span.specs.declared.table.TextMove.TheVariants as text

abbrev pub class_of : ℕ → Class
class_of b =
    if b == 32 then class.Blank else
    if b == 9 then class.Blank else
    if b == 10 then class.Blank else
    if b == 13 then class.Blank else
    if b == 34 then class.Quote else
    if b == 44 then class.Comma else
    if b == 58 then class.Colon else
    if b == 91 then class.ArrayStart else
    if b == 93 then class.ArrayEnd else
    if b == 123 then class.ObjectStart else
    if b == 125 then class.ObjectEnd else
    if b == 45 then class.Minus else
    if b == 43 then class.Plus else
    if b == 46 then class.Point else
    if b == 48 then class.Zero else
    if nat_le 49 b && nat_le b 57 then class.Digit else
    if b == 101 then class.Mark else
    if b == 69 then class.Mark else
    if b == 116 then class.LetterT else
    if b == 102 then class.LetterF else
    if b == 110 then class.LetterN else class.Other

-- the class of a hexadecimal digit, by its value
abbrev pub hex_valued : ℕ → Hex
hex_valued n = if nat_lt n 8 then hex.Below8 else if nat_lt n 12 then hex.From8 else if n == 13 then hex.D else hex.FromC

abbrev pub hex_of : ℕ → Hex
hex_of b = if is_digit b 16 then hex_valued (digit_value b) else hex.None

abbrev pub escape_move : ℕ → TextMove
escape_move b =
    if b == 34 then text.Go spot.Plain else
    if b == 92 then text.Go spot.Plain else
    if b == 47 then text.Go spot.Plain else
    if b == 98 then text.Go spot.Plain else
    if b == 102 then text.Go spot.Plain else
    if b == 110 then text.Go spot.Plain else
    if b == 114 then text.Go spot.Plain else
    if b == 116 then text.Go spot.Plain else
    if b == 117 then text.Go spot.First else text.Fail

abbrev pub plain_move : ℕ → TextMove
plain_move b =
    if b == 34 then text.End else
    if b == 92 then text.Go spot.Escape else
    if nat_lt b 32 then text.Fail else text.Go spot.Plain

abbrev pub first_move : Hex → TextMove
first_move hex.Below8 = text.Go spot.Second
first_move hex.From8 = text.Go spot.Second
first_move hex.D = text.Go spot.SecondOfD
first_move hex.FromC = text.Go spot.Second
first_move hex.None = text.Fail

abbrev pub second_move : Hex → TextMove
second_move hex.Below8 = text.Go spot.Third
second_move hex.From8 = text.Go spot.HighThird
second_move hex.D = text.Fail
second_move hex.FromC = text.Fail
second_move hex.None = text.Fail

abbrev pub low_first_move : Hex → TextMove
low_first_move hex.Below8 = text.Fail
low_first_move hex.From8 = text.Fail
low_first_move hex.D = text.Go spot.LowSecond
low_first_move hex.FromC = text.Fail
low_first_move hex.None = text.Fail

abbrev pub low_second_move : Hex → TextMove
low_second_move hex.Below8 = text.Fail
low_second_move hex.From8 = text.Fail
low_second_move hex.D = text.Go spot.Third
low_second_move hex.FromC = text.Go spot.Third
low_second_move hex.None = text.Fail

abbrev pub any_move : Hex → Spot → TextMove
any_move hex.Below8 next = text.Go next
any_move hex.From8 next = text.Go next
any_move hex.D next = text.Go next
any_move hex.FromC next = text.Go next
any_move hex.None next = text.Fail

abbrev pub exact_move : ℕ → ℕ → Spot → TextMove
exact_move b wanted next = if b == wanted then text.Go next else text.Fail

abbrev pub next_spot : Spot → ℕ → TextMove
next_spot spot.Plain b = plain_move b
next_spot spot.Escape b = escape_move b
next_spot spot.First b = first_move (hex_of b)
next_spot spot.Second b = any_move (hex_of b) spot.Third
next_spot spot.SecondOfD b = second_move (hex_of b)
next_spot spot.Third b = any_move (hex_of b) spot.Fourth
next_spot spot.Fourth b = any_move (hex_of b) spot.Plain
next_spot spot.HighThird b = any_move (hex_of b) spot.HighFourth
next_spot spot.HighFourth b = any_move (hex_of b) spot.LowBackslash
next_spot spot.LowBackslash b = exact_move b 92 spot.LowLetter
next_spot spot.LowLetter b = exact_move b 117 spot.LowFirst
next_spot spot.LowFirst b = low_first_move (hex_of b)
next_spot spot.LowSecond b = low_second_move (hex_of b)

abbrev pub text_end : Role → Move
text_end role.Key = moves.EndKey
text_end role.Value = moves.End

abbrev pub text_move : Role → TextMove → Move
text_move r (text.Go spot) = moves.Go (phase.Text r spot)
text_move r text.End = text_end r
text_move r text.Fail = moves.Go phase.Broken

abbrev pub letter_byte : Letter → ℕ
letter_byte letter.NullSecond = 117
letter_byte letter.NullThird = 108
letter_byte letter.NullLast = 108
letter_byte letter.TrueSecond = 114
letter_byte letter.TrueThird = 117
letter_byte letter.TrueLast = 101
letter_byte letter.FalseSecond = 97
letter_byte letter.FalseThird = 108
letter_byte letter.FalseFourth = 115
letter_byte letter.FalseLast = 101

abbrev pub letter_move : Letter → Move
letter_move letter.NullSecond = moves.Go (phase.Word letter.NullThird)
letter_move letter.NullThird = moves.Go (phase.Word letter.NullLast)
letter_move letter.NullLast = moves.End
letter_move letter.TrueSecond = moves.Go (phase.Word letter.TrueThird)
letter_move letter.TrueThird = moves.Go (phase.Word letter.TrueLast)
letter_move letter.TrueLast = moves.End
letter_move letter.FalseSecond = moves.Go (phase.Word letter.FalseThird)
letter_move letter.FalseThird = moves.Go (phase.Word letter.FalseFourth)
letter_move letter.FalseFourth = moves.Go (phase.Word letter.FalseLast)
letter_move letter.FalseLast = moves.End

abbrev pub word_move : Letter → ℕ → Move
word_move l b = if b == letter_byte l then letter_move l else moves.Go phase.Broken

abbrev pub number_move : Part → Class → Move
number_move part.Minus class.Zero = moves.Go (phase.Number part.Zero)
number_move part.Minus class.Digit = moves.Go (phase.Number part.Whole)
number_move part.Minus _ = moves.Go phase.Broken
number_move part.Zero class.Point = moves.Go (phase.Number part.Point)
number_move part.Zero class.Mark = moves.Go (phase.Number part.Mark)
number_move part.Zero _ = moves.EndNumber
number_move part.Whole class.Zero = moves.Go (phase.Number part.Whole)
number_move part.Whole class.Digit = moves.Go (phase.Number part.Whole)
number_move part.Whole class.Point = moves.Go (phase.Number part.Point)
number_move part.Whole class.Mark = moves.Go (phase.Number part.Mark)
number_move part.Whole _ = moves.EndNumber
number_move part.Point class.Zero = moves.Go (phase.Number part.Fraction)
number_move part.Point class.Digit = moves.Go (phase.Number part.Fraction)
number_move part.Point _ = moves.Go phase.Broken
number_move part.Fraction class.Zero = moves.Go (phase.Number part.Fraction)
number_move part.Fraction class.Digit = moves.Go (phase.Number part.Fraction)
number_move part.Fraction class.Mark = moves.Go (phase.Number part.Mark)
number_move part.Fraction _ = moves.EndNumber
number_move part.Mark class.Plus = moves.Go (phase.Number part.Sign)
number_move part.Mark class.Minus = moves.Go (phase.Number part.Sign)
number_move part.Mark class.Zero = moves.Go (phase.Number part.Exponent)
number_move part.Mark class.Digit = moves.Go (phase.Number part.Exponent)
number_move part.Mark _ = moves.Go phase.Broken
number_move part.Sign class.Zero = moves.Go (phase.Number part.Exponent)
number_move part.Sign class.Digit = moves.Go (phase.Number part.Exponent)
number_move part.Sign _ = moves.Go phase.Broken
number_move part.Exponent class.Zero = moves.Go (phase.Number part.Exponent)
number_move part.Exponent class.Digit = moves.Go (phase.Number part.Exponent)
number_move part.Exponent _ = moves.EndNumber

abbrev pub value_move : Class → Move
value_move class.Blank = moves.Go phase.Value
value_move class.Quote = moves.Begin (phase.Text role.Value spot.Plain)
value_move class.ArrayStart = moves.Open frame.Array
value_move class.ObjectStart = moves.Open frame.Object
value_move class.Minus = moves.Begin (phase.Number part.Minus)
value_move class.Zero = moves.Begin (phase.Number part.Zero)
value_move class.Digit = moves.Begin (phase.Number part.Whole)
value_move class.LetterN = moves.Begin (phase.Word letter.NullSecond)
value_move class.LetterT = moves.Begin (phase.Word letter.TrueSecond)
value_move class.LetterF = moves.Begin (phase.Word letter.FalseSecond)
value_move _ = moves.Go phase.Broken

abbrev pub after_move : Class → Move
after_move class.Blank = moves.Go phase.After
after_move class.Comma = moves.Comma
after_move class.ArrayEnd = moves.Close frame.Array
after_move class.ObjectEnd = moves.Close frame.Object
after_move _ = moves.Go phase.Broken

-- where the text's own array or object is wanted
abbrev pub start_move : Frame → Class → Move
start_move f class.Blank = moves.Go (phase.Start f)
start_move frame.Array class.ArrayStart = moves.Open frame.Array
start_move frame.Object class.ObjectStart = moves.Open frame.Object
start_move frame.Array _ = moves.Go phase.Broken
start_move frame.Object _ = moves.Go phase.Broken

abbrev pub table : Phase → Class → Move
table (phase.Start f) c = start_move f c
table phase.FirstKey class.Blank = moves.Go phase.FirstKey
table phase.FirstKey class.Quote = moves.BeginKey
table phase.FirstKey class.ObjectEnd = moves.Close frame.Object
table phase.FirstKey _ = moves.Go phase.Broken
table phase.Key class.Blank = moves.Go phase.Key
table phase.Key class.Quote = moves.BeginKey
table phase.Key _ = moves.Go phase.Broken
table phase.Colon class.Blank = moves.Go phase.Colon
table phase.Colon class.Colon = moves.Go phase.Value
table phase.Colon _ = moves.Go phase.Broken
table phase.FirstItem class.Blank = moves.Go phase.FirstItem
table phase.FirstItem class.ArrayEnd = moves.Close frame.Array
table phase.FirstItem c = value_move c
table phase.Value c = value_move c
table phase.After c = after_move c
table phase.Done class.Blank = moves.Go phase.Done
table phase.Done _ = moves.Go phase.Broken
table (phase.Text r s) c = moves.Go phase.Broken
table (phase.Number p) c = number_move p c
table (phase.Word l) c = moves.Go phase.Broken
table phase.Broken c = moves.Go phase.Broken

abbrev pub move_of : Phase → ℕ → Move
move_of (phase.Start f) b = start_move f (class_of b)
move_of phase.FirstKey b = table phase.FirstKey (class_of b)
move_of phase.Key b = table phase.Key (class_of b)
move_of phase.Colon b = table phase.Colon (class_of b)
move_of phase.FirstItem b = table phase.FirstItem (class_of b)
move_of phase.Value b = value_move (class_of b)
move_of phase.After b = after_move (class_of b)
move_of phase.Done b = table phase.Done (class_of b)
move_of (phase.Text r s) b = text_move r (next_spot s b)
move_of (phase.Number p) b = number_move p (class_of b)
move_of (phase.Word l) b = word_move l b
move_of phase.Broken b = moves.Go phase.Broken
