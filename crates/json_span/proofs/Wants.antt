-- What completes each phase over what is open: the text that is left is the end of some tree's spelling.
use Rattle.std.proofs.Common.{◌≡◌, ℕ, ◌+◌, ◌<◌, ◌≤◌, ◌≢◌, ◌⊎◌, List, [], ◌∷◌, Bool, true, Option}
use Rattle.std.specs.Char.{digit_value, is_digit}
use Rattle.json_scalar.specs.Text.{Piece, Escape, escape_letter}
use Rattle.json_scalar.specs.Number.{Digit, Digits, Whole, Sign, Exponent}
use Rattle.json_span.specs.Grammar.{Space, space_byte, Value, Items, Members}
use Rattle.json_span.specs.Members.{IsObjectValue}
use Rattle.json_span.specs.Elements.{IsArrayValue}
use Rattle.json_span.specs.Machine.{first_phase}
use Rattle.json_span.specs.declared.class.Class.{Class}
use Rattle.json_span.specs.declared.class.Class.TheVariants as class
use Rattle.json_span.specs.declared.phase.Frame.{Frame}
use Rattle.json_span.specs.declared.phase.Frame.TheVariants as frame
use Rattle.json_span.specs.declared.phase.Role.{Role}
use Rattle.json_span.specs.declared.phase.Role.TheVariants as role
use Rattle.json_span.specs.declared.phase.Spot.{Spot}
use Rattle.json_span.specs.declared.phase.Spot.TheVariants as spot
use Rattle.json_span.specs.declared.phase.Part.{Part}
use Rattle.json_span.specs.declared.phase.Part.TheVariants as part
use Rattle.json_span.specs.declared.phase.Letter.{Letter}
use Rattle.json_span.specs.declared.phase.Letter.TheVariants as letter
use Rattle.json_span.specs.declared.phase.Phase.{Phase}
use Rattle.json_span.specs.declared.phase.Phase.TheVariants as phase
use Rattle.json_span.specs.declared.table.Move.{Move}
use Rattle.json_span.specs.declared.table.Move.TheVariants as moves
use Rattle.json_span.proofs.Spelling.{blanks, digits_then, whole_then, fraction_then, sign_then, mark_byte, exponent_then, pieces_then, string_then, value_then, items_then, members_then}

-- Each record says that the text is the end of something, before a rest that is wanted.
pub record SpacesEnd (bs : List ℕ) : Type 0 where
  pub spaces : List Space
  pub spelled : bs ≡ blanks spaces []

pub record ItemsEnd (P : List ℕ → Type 0) (bs : List ℕ) : Type 0 where
  pub spaces : List Space
  pub items : Items
  pub rest : List ℕ
  pub spelled : bs ≡ blanks spaces (items_then items rest)
  pub more : P rest

pub record MembersEnd (P : List ℕ → Type 0) (bs : List ℕ) : Type 0 where
  pub spaces : List Space
  pub members : Members
  pub rest : List ℕ
  pub spelled : bs ≡ blanks spaces (members_then members rest)
  pub more : P rest

pub record ValueEnd (P : List ℕ → Type 0) (bs : List ℕ) : Type 0 where
  pub spaces : List Space
  pub value : Value
  pub rest : List ℕ
  pub spelled : bs ≡ blanks spaces (value_then value rest)
  pub more : P rest

pub record ObjectEnd (P : List ℕ → Type 0) (bs : List ℕ) : Type 0 where
  pub spaces : List Space
  pub value : Value
  pub is : IsObjectValue value
  pub rest : List ℕ
  pub spelled : bs ≡ blanks spaces (value_then value rest)
  pub more : P rest

pub record ArrayEnd (P : List ℕ → Type 0) (bs : List ℕ) : Type 0 where
  pub spaces : List Space
  pub value : Value
  pub is : IsArrayValue value
  pub rest : List ℕ
  pub spelled : bs ≡ blanks spaces (value_then value rest)
  pub more : P rest

pub record ColonEnd (P : List ℕ → Type 0) (bs : List ℕ) : Type 0 where
  pub behind : List Space
  pub ahead : List Space
  pub value : Value
  pub rest : List ℕ
  pub spelled : bs ≡ blanks behind (58 ∷ blanks ahead (value_then value rest))
  pub more : P rest

pub record KeyEnd (P : List ℕ → Type 0) (bs : List ℕ) : Type 0 where
  pub before : List Space
  pub key : List Piece
  pub behind : List Space
  pub ahead : List Space
  pub value : Value
  pub rest : List ℕ
  pub spelled : bs ≡ blanks before (string_then key (blanks behind (58 ∷ blanks ahead (value_then value rest))))
  pub more : P rest

pub record ShutEnd (byte : ℕ) (P : List ℕ → Type 0) (bs : List ℕ) : Type 0 where
  pub spaces : List Space
  pub rest : List ℕ
  pub spelled : bs ≡ blanks spaces (byte ∷ rest)
  pub more : P rest

pub record TextEnd (P : List ℕ → Type 0) (bs : List ℕ) : Type 0 where
  pub pieces : List Piece
  pub rest : List ℕ
  pub spelled : bs ≡ pieces_then pieces (34 ∷ rest)
  pub more : P rest

-- the parts of a number
pub record PowerEnd (P : List ℕ → Type 0) (bs : List ℕ) : Type 0 where
  pub digits : List Digit
  pub rest : List ℕ
  pub spelled : bs ≡ digits_then digits rest
  pub more : P rest

pub record SignEnd (P : List ℕ → Type 0) (bs : List ℕ) : Type 0 where
  pub digits : Digits
  pub rest : List ℕ
  pub spelled : bs ≡ (48 + digits.first.value) ∷ digits_then digits.others rest
  pub more : P rest

pub record MarkEnd (P : List ℕ → Type 0) (bs : List ℕ) : Type 0 where
  pub sign : Sign
  pub digits : Digits
  pub rest : List ℕ
  pub spelled : bs ≡ sign_then sign ((48 + digits.first.value) ∷ digits_then digits.others rest)
  pub more : P rest

pub record FractionEnd (P : List ℕ → Type 0) (bs : List ℕ) : Type 0 where
  pub digits : List Digit
  pub exponent : Option Exponent
  pub rest : List ℕ
  pub spelled : bs ≡ digits_then digits (exponent_then exponent rest)
  pub more : P rest

pub record PointEnd (P : List ℕ → Type 0) (bs : List ℕ) : Type 0 where
  pub digits : Digits
  pub exponent : Option Exponent
  pub rest : List ℕ
  pub spelled : bs ≡ (48 + digits.first.value) ∷ digits_then digits.others (exponent_then exponent rest)
  pub more : P rest

pub record ZeroEnd (P : List ℕ → Type 0) (bs : List ℕ) : Type 0 where
  pub fraction : Option Digits
  pub exponent : Option Exponent
  pub rest : List ℕ
  pub spelled : bs ≡ fraction_then fraction (exponent_then exponent rest)
  pub more : P rest

pub record WholeEnd (P : List ℕ → Type 0) (bs : List ℕ) : Type 0 where
  pub digits : List Digit
  pub fraction : Option Digits
  pub exponent : Option Exponent
  pub rest : List ℕ
  pub spelled : bs ≡ digits_then digits (fraction_then fraction (exponent_then exponent rest))
  pub more : P rest

pub record MinusEnd (P : List ℕ → Type 0) (bs : List ℕ) : Type 0 where
  pub whole : Whole
  pub fraction : Option Digits
  pub exponent : Option Exponent
  pub rest : List ℕ
  pub spelled : bs ≡ whole_then whole (fraction_then fraction (exponent_then exponent rest))
  pub more : P rest

-- a byte of this kind, and then what is wanted
abbrev pub Then : (ℕ → Type 0) → (List ℕ → Type 0) → List ℕ → Type 0
Then Q P [] = ⊥
Then Q P (b ∷ bs) = Q b × P bs

abbrev pub IsByte : ℕ → ℕ → Type 0
IsByte n b = b ≡ n

abbrev pub IsHex : ℕ → Type 0
IsHex b = is_digit b 16 ≡ true

abbrev pub IsHexBelow8 : ℕ → Type 0
IsHexBelow8 b = IsHex b × (digit_value b < 8)

abbrev pub IsHexFrom8 : ℕ → Type 0
IsHexFrom8 b = IsHex b × (8 ≤ digit_value b) × (digit_value b < 12)

abbrev pub IsHexD : ℕ → Type 0
IsHexD b = IsHex b × (digit_value b ≡ 13)

abbrev pub IsHexNotD : ℕ → Type 0
IsHexNotD b = IsHex b × (digit_value b ≢ 13)

abbrev pub IsHexFromC : ℕ → Type 0
IsHexFromC b = IsHex b × (12 ≤ digit_value b)

abbrev pub IsEscapeLetter : ℕ → Type 0
IsEscapeLetter b = (e : Escape) × (b ≡ escape_letter e)

abbrev pub ThirdW : (List ℕ → Type 0) → List ℕ → Type 0
ThirdW P = Then IsHex (Then IsHex (TextEnd P))

abbrev pub LowW : (List ℕ → Type 0) → List ℕ → Type 0
LowW P = Then IsHexD (Then IsHexFromC (ThirdW P))

abbrev pub LowBackslashW : (List ℕ → Type 0) → List ℕ → Type 0
LowBackslashW P = Then (IsByte 92) (Then (IsByte 117) (LowW P))

abbrev pub HighThirdW : (List ℕ → Type 0) → List ℕ → Type 0
HighThirdW P = Then IsHex (Then IsHex (LowBackslashW P))

abbrev pub SecondOfDW : (List ℕ → Type 0) → List ℕ → Type 0
SecondOfDW P bs = Then IsHexBelow8 (ThirdW P) bs ⊎ Then IsHexFrom8 (HighThirdW P) bs

abbrev pub FirstW : (List ℕ → Type 0) → List ℕ → Type 0
FirstW P bs = Then IsHexNotD (Then IsHex (ThirdW P)) bs ⊎ Then IsHexD (SecondOfDW P) bs

abbrev pub EscapeW : (List ℕ → Type 0) → List ℕ → Type 0
EscapeW P bs = Then IsEscapeLetter (TextEnd P) bs ⊎ Then (IsByte 117) (FirstW P) bs

-- what completes a string from a spot on
abbrev pub SpotW : Spot → (List ℕ → Type 0) → List ℕ → Type 0
SpotW spot.Plain P = TextEnd P
SpotW spot.Escape P = EscapeW P
SpotW spot.First P = FirstW P
SpotW spot.Second P = Then IsHex (ThirdW P)
SpotW spot.SecondOfD P = SecondOfDW P
SpotW spot.Third P = ThirdW P
SpotW spot.Fourth P = Then IsHex (TextEnd P)
SpotW spot.HighThird P = HighThirdW P
SpotW spot.HighFourth P = Then IsHex (LowBackslashW P)
SpotW spot.LowBackslash P = LowBackslashW P
SpotW spot.LowLetter P = Then (IsByte 117) (LowW P)
SpotW spot.LowFirst P = LowW P
SpotW spot.LowSecond P = Then IsHexFromC (ThirdW P)

abbrev pub NumberW : Part → (List ℕ → Type 0) → List ℕ → Type 0
NumberW part.Minus P = MinusEnd P
NumberW part.Zero P = ZeroEnd P
NumberW part.Whole P = WholeEnd P
NumberW part.Point P = PointEnd P
NumberW part.Fraction P = FractionEnd P
NumberW part.Mark P = MarkEnd P
NumberW part.Sign P = SignEnd P
NumberW part.Exponent P = PowerEnd P

abbrev pub WordW : Letter → (List ℕ → Type 0) → List ℕ → Type 0
WordW letter.NullSecond P = Then (IsByte 117) (Then (IsByte 108) (Then (IsByte 108) P))
WordW letter.NullThird P = Then (IsByte 108) (Then (IsByte 108) P)
WordW letter.NullLast P = Then (IsByte 108) P
WordW letter.TrueSecond P = Then (IsByte 114) (Then (IsByte 117) (Then (IsByte 101) P))
WordW letter.TrueThird P = Then (IsByte 117) (Then (IsByte 101) P)
WordW letter.TrueLast P = Then (IsByte 101) P
WordW letter.FalseSecond P = Then (IsByte 97) (Then (IsByte 108) (Then (IsByte 115) (Then (IsByte 101) P)))
WordW letter.FalseThird P = Then (IsByte 108) (Then (IsByte 115) (Then (IsByte 101) P))
WordW letter.FalseFourth P = Then (IsByte 115) (Then (IsByte 101) P)
WordW letter.FalseLast P = Then (IsByte 101) P

-- what completes the text behind a value over these frames
abbrev pub RestW : List Frame → List ℕ → Type 0
RestW [] bs = SpacesEnd bs
RestW (frame.Array ∷ k) bs = ItemsEnd (RestW k) bs
RestW (frame.Object ∷ k) bs = MembersEnd (RestW k) bs

-- what completes it where this kind has just ended
abbrev pub CloseW : Frame → List Frame → List ℕ → Type 0
CloseW f [] bs = ⊥
CloseW frame.Array (frame.Array ∷ k) bs = RestW k bs
CloseW frame.Array (frame.Object ∷ k) bs = ⊥
CloseW frame.Object (frame.Array ∷ k) bs = ⊥
CloseW frame.Object (frame.Object ∷ k) bs = RestW k bs

abbrev pub TextRoleW : Role → List Frame → List ℕ → Type 0
TextRoleW role.Key k = ColonEnd (RestW k)
TextRoleW role.Value k = RestW k

abbrev pub Wants : Phase → List Frame → List ℕ → Type 0
Wants (phase.Start frame.Array) k bs = ArrayEnd (RestW k) bs
Wants (phase.Start frame.Object) k bs = ObjectEnd (RestW k) bs
Wants phase.FirstKey k bs = ShutEnd 125 (CloseW frame.Object k) bs ⊎ KeyEnd (RestW k) bs
Wants phase.Key k bs = KeyEnd (RestW k) bs
Wants phase.Colon k bs = ColonEnd (RestW k) bs
Wants phase.FirstItem k bs = ShutEnd 93 (CloseW frame.Array k) bs ⊎ ValueEnd (RestW k) bs
Wants phase.Value k bs = ValueEnd (RestW k) bs
Wants phase.After k bs = RestW k bs
Wants phase.Done k bs = SpacesEnd bs
Wants (phase.Text r s) k bs = SpotW s (TextRoleW r k) bs
Wants (phase.Number p) k bs = NumberW p (RestW k) bs
Wants (phase.Word l) k bs = WordW l (RestW k) bs
Wants phase.Broken k bs = ⊥

-- what completes it behind a comma
abbrev pub CommaW : List Frame → List ℕ → Type 0
CommaW [] bs = ⊥
CommaW (frame.Array ∷ k) bs = ValueEnd (ItemsEnd (RestW k)) bs
CommaW (frame.Object ∷ k) bs = KeyEnd (MembersEnd (RestW k)) bs

-- what completes it behind a byte that makes this move
abbrev pub Continues : Move → List Frame → ℕ → List ℕ → Type 0
Continues (moves.Go p) k b bs = Wants p k bs
Continues moves.BeginKey k b bs = TextEnd (ColonEnd (RestW k)) bs
Continues moves.EndKey k b bs = ColonEnd (RestW k) bs
Continues (moves.Begin p) k b bs = Wants p k bs
Continues moves.End k b bs = RestW k bs
Continues moves.EndNumber k b bs = RestW k (b ∷ bs)
Continues (moves.Open f) k b bs = Wants (first_phase f) (f ∷ k) bs
Continues (moves.Close f) k b bs = CloseW f k bs
Continues moves.Comma k b bs = CommaW k bs

-- what is known of a byte by its class
abbrev pub IsOfClass : Class → ℕ → Type 0
IsOfClass class.Blank b = (s : Space) × (b ≡ space_byte s)
IsOfClass class.Quote b = b ≡ 34
IsOfClass class.Comma b = b ≡ 44
IsOfClass class.Colon b = b ≡ 58
IsOfClass class.ArrayStart b = b ≡ 91
IsOfClass class.ArrayEnd b = b ≡ 93
IsOfClass class.ObjectStart b = b ≡ 123
IsOfClass class.ObjectEnd b = b ≡ 125
IsOfClass class.Minus b = b ≡ 45
IsOfClass class.Plus b = b ≡ 43
IsOfClass class.Point b = b ≡ 46
IsOfClass class.Zero b = b ≡ 48
IsOfClass class.Digit b = (d : Digit) × (0 < d.value) × (b ≡ 48 + d.value)
IsOfClass class.Mark b = (capital : Bool) × (b ≡ mark_byte capital)
IsOfClass class.LetterT b = b ≡ 116
IsOfClass class.LetterF b = b ≡ 102
IsOfClass class.LetterN b = b ≡ 110
IsOfClass class.Other b = Unit {0}
