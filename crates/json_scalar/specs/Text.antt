-- A JSON string (RFC 8259, section 7): its pieces, how each is spelled, and what it stands for. A surrogate
-- stands only in a pair: an escape of a lone surrogate has no piece.
use Rattle.std.specs.Prelude.{◌≡◌, ℕ, ◌+◌, ◌-◌, ◌*◌, List, [], ◌∷◌, ◌++◌, flat_map, Bool, not, ◌&&◌, ◌==◌, nat_lt, nat_le, IsTrue, IsUtf8, encode_utf8}
use Rattle.std.specs.Char.{digit_value, is_digit}

-- a byte that stands for itself in a string: no control byte, no quotation mark and no backslash
abbrev pub is_plain : ℕ → Bool
is_plain byte = nat_le 32 byte && (not (byte == 34) && not (byte == 92))

-- the escapes of one letter
pub data Escape : Type 0 where
  quotation_mark : Escape
  backslash : Escape
  slash : Escape
  backspace : Escape
  form_feed : Escape
  line_feed : Escape
  carriage_return : Escape
  tab : Escape

-- the letter behind the backslash
abbrev pub escape_letter : Escape → ℕ
escape_letter quotation_mark = 34
escape_letter backslash = 92
escape_letter slash = 47
escape_letter backspace = 98
escape_letter form_feed = 102
escape_letter line_feed = 110
escape_letter carriage_return = 114
escape_letter tab = 116

-- the character that the escape stands for
abbrev pub escape_meaning : Escape → ℕ
escape_meaning quotation_mark = 34
escape_meaning backslash = 92
escape_meaning slash = 47
escape_meaning backspace = 8
escape_meaning form_feed = 12
escape_meaning line_feed = 10
escape_meaning carriage_return = 13
escape_meaning tab = 9

-- four hexadecimal digits, in either case
abbrev pub are_hex : ℕ → ℕ → ℕ → ℕ → Bool
are_hex a b c d = is_digit a 16 && (is_digit b 16 && (is_digit c 16 && is_digit d 16))

-- the code unit that they spell
abbrev pub code_unit : ℕ → ℕ → ℕ → ℕ → ℕ
code_unit a b c d = digit_value a * 4096 + digit_value b * 256 + digit_value c * 16 + digit_value d

abbrev pub is_high_surrogate : ℕ → Bool
is_high_surrogate unit = nat_le 0xd800 unit && nat_lt unit 0xdc00

abbrev pub is_low_surrogate : ℕ → Bool
is_low_surrogate unit = nat_le 0xdc00 unit && nat_lt unit 0xe000

-- four digits of a code unit that is a character by itself
abbrev pub are_whole : ℕ → ℕ → ℕ → ℕ → Bool
are_whole a b c d = are_hex a b c d && (not (is_high_surrogate (code_unit a b c d)) && not (is_low_surrogate (code_unit a b c d)))

-- four digits of the first half of a pair, and of the second
abbrev pub are_high : ℕ → ℕ → ℕ → ℕ → Bool
are_high a b c d = are_hex a b c d && is_high_surrogate (code_unit a b c d)

abbrev pub are_low : ℕ → ℕ → ℕ → ℕ → Bool
are_low a b c d = are_hex a b c d && is_low_surrogate (code_unit a b c d)

-- the character of a pair
abbrev pub pair_meaning : ℕ → ℕ → ℕ
pair_meaning high low = 0x10000 + (high - 0xd800) * 1024 + (low - 0xdc00)

-- what stands between the quotation marks
pub data Piece : Type 0 where
  plain : (byte : ℕ) → IsTrue (is_plain byte) → Piece
  escape : Escape → Piece
  unit : (a b c d : ℕ) → IsTrue (are_whole a b c d) → Piece
  pair : (a b c d : ℕ) → IsTrue (are_high a b c d) → (e f g h : ℕ) → IsTrue (are_low e f g h) → Piece

-- a backslash, u and four digits
abbrev pub unit_text : ℕ → ℕ → ℕ → ℕ → List ℕ
unit_text a b c d = 92 ∷ 117 ∷ a ∷ b ∷ c ∷ d ∷ []

abbrev pub piece_text : Piece → List ℕ
piece_text (plain byte is) = byte ∷ []
piece_text (escape e) = 92 ∷ escape_letter e ∷ []
piece_text (unit a b c d is) = unit_text a b c d
piece_text (pair a b c d high e f g h low) = unit_text a b c d ++ unit_text e f g h

-- the UTF-8 of what the piece stands for
abbrev pub piece_meaning : Piece → List ℕ
piece_meaning (plain byte is) = byte ∷ []
piece_meaning (escape e) = escape_meaning e ∷ []
piece_meaning (unit a b c d is) = encode_utf8 (code_unit a b c d)
piece_meaning (pair a b c d high e f g h low) = encode_utf8 (pair_meaning (code_unit a b c d) (code_unit e f g h))

-- the pieces between quotation marks
abbrev pub string_text : List Piece → List ℕ
string_text pieces = 34 ∷ (flat_map piece_text pieces ++ 34 ∷ [])

-- the text is a JSON string in UTF-8 that stands for these bytes
pub record IsString (text meaning : List ℕ) : Type 0 where
  pub utf8 : IsUtf8 text
  pub pieces : List Piece
  pub spelled : text ≡ string_text pieces
  pub means : meaning ≡ flat_map piece_meaning pieces

-- the text is no JSON string
abbrev pub IsNoString : List ℕ → Type 0
IsNoString text = (meaning : List ℕ) → ¬ IsString text meaning
