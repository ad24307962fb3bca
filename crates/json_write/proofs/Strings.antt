-- Texts between quotation marks are JSON strings.
use Rattle.std.proofs.Common.{◌≡◌, ◌≢◌, ℕ, zero, suc, ◌+◌, ◌-◌, ◌/◌, ◌%◌, ◌<◌, ◌≤◌, Bool, true, cond, not, ◌&&◌, ◌||◌, ◌==◌, nat_lt, nat_le, List, [], ◌∷◌, ◌++◌, flat_map, length, take, drop, get_or, slice_index_or, slice_range, IsUtf8, inl, inr, refl, sym, ap, ◌∙◌, subst, arith, append-nil, length-drop}
use Rattle.std.proofs.Math.Seq.{take-add}
use Rattle.std.proofs.lemmas.Bool.{and_parts, and_from, cases_eq, cases_lt, ne_eqb, le-leb, lt-ltb, le-ltb, eqb-true}
use Rattle.std.proofs.lemmas.Str.{IsUtf8-append, encode_ascii}
use Rattle.std.proofs.lemmas.List.{append_cancel_right, take_more, get_or-drop}
use Rattle.std.proofs.lemmas.Grind.{flat_map-append}
use Rattle.std.specs.Char.{digit_char}
use Rattle.std.specs.Prelude.{encode_utf8}
use Rattle.json.specs.Print.{escape, escape_byte, quoted}
use Rattle.json.specs.Print as print
use Rattle.json.proofs.Printed.Strings.{escape_byte_plain}
use Rattle.json.proofs.Printed.Utf8.{IsUtf8-are_ascii, IsUtf8-quoted}
use Rattle.json_scalar.specs.Text.{Piece, Escape, IsString, escape_meaning, are_whole, code_unit, piece_text, piece_meaning}
use Rattle.json_scalar.specs.Quotes.{in_quotes}
use Rattle.json_scalar.proofs.Contents.{one_meaning}

pub utf8_before : (b : ℕ) (bs : List ℕ) → nat_lt b 128 ≡ true → IsUtf8 bs → IsUtf8 (b ∷ bs)
utf8_before b bs e u = IsUtf8-append (b ∷ []) bs (IsUtf8-are_ascii (b ∷ []) (and_from (nat_lt b 128) true e refl)) u

-- pieces that spell these bytes, and that stand for these
pub record Pieces (spelled_bytes meant_bytes : List ℕ) : Type 0 where
  pub pieces : List Piece
  pub spelled : flat_map piece_text pieces ≡ spelled_bytes
  pub means : flat_map piece_meaning pieces ≡ meant_bytes

pub string_of_pieces : (text meaning : List ℕ) → IsUtf8 (in_quotes text) → Pieces text meaning → IsString (in_quotes text) meaning
string_of_pieces text meaning utf8 p = record { utf8 = utf8; pieces = p.pieces; spelled = ap in_quotes (sym p.spelled); means = sym p.means }

-- ---- texts

-- the control bytes by their code units
is_unit : ℕ → Bool
is_unit x = are_whole 48 48 (digit_char (x / 16)) (digit_char (x % 16)) && (code_unit 48 48 (digit_char (x / 16)) (digit_char (x % 16)) == x)

units_below : ℕ → Bool
units_below zero = true
units_below (suc n) = is_unit n && units_below n

unit_below : (n : ℕ) → units_below n ≡ true → (x : ℕ) → x < n → is_unit x ≡ true
unfolding units_below
unit_below zero e x h = absurd (omega arith)
unit_below (suc n) e x h =
    let p = and_parts (is_unit n) (units_below n) e in
    elim (cases_eq x n) [ inl same ↦ subst (λ (k : ℕ). is_unit k ≡ true) (sym same) p.0 | inr other ↦ unit_below n p.1 x (omega arith) ]

all_units : units_below 32 ≡ true
unfolding units_below is_unit
all_units = refl

-- no letter stands for the other control bytes
no_letter : (x : ℕ) → x ≢ 34 → x ≢ 92 → x ≢ 8 → x ≢ 12 → x ≢ 10 → x ≢ 13 → x ≢ 9 → print.escape_letter x ≡ 0
no_letter x a b c d e f g =
    let ia = ne_eqb x 34 a in
    let ib = ne_eqb x 92 b in
    let ic = ne_eqb x 8 c in
    let id = ne_eqb x 12 d in
    let ie = ne_eqb x 10 e in
    let jf = ne_eqb x 13 f in
    let jg = ne_eqb x 9 g in
    λ i. cond (ia i || ib i) x (cond (ic i) 98 (cond (id i) 102 (cond (ie i) 110 (cond (jf i) 114 (cond (jg i) 116 0)))))

-- a byte is written as a piece
record PieceOf (x : ℕ) : Type 0 where
  piece : Piece
  spelled : piece_text piece ≡ escape_byte x
  means : piece_meaning piece ≡ x ∷ []

unit_piece : (x : ℕ) → x < 32 → print.escape_letter x ≡ 0 → PieceOf x
unfolding escape_byte is_unit
unit_piece x small none =
    let is = and_parts (are_whole 48 48 (digit_char (x / 16)) (digit_char (x % 16))) _ (unit_below 32 all_units x small) in
    let unit = eqb-true _ x is.1 in
    record {
      piece = Piece.unit 48 48 (digit_char (x / 16)) (digit_char (x % 16)) is.0;
      spelled = sym (λ i. cond (nat_lt 0 (none i)) (92 ∷ print.escape_letter x ∷ []) (cond (lt-ltb x 32 small i) (92 ∷ 117 ∷ 48 ∷ 48 ∷ digit_char (x / 16) ∷ digit_char (x % 16) ∷ []) (x ∷ [])));
      means = ap encode_utf8 unit ∙ encode_ascii x (omega arith);
    }

plain_piece : (x : ℕ) → x ≢ 34 → x ≢ 92 → 32 ≤ x → PieceOf x
plain_piece x a b large = record {
  piece = Piece.plain x (and_from (nat_le 32 x) _ (le-leb 32 x large) (and_from (not (x == 34)) (not (x == 92)) (ap not (ne_eqb x 34 a)) (ap not (ne_eqb x 92 b))));
  spelled = sym (escape_byte_plain x a b large);
  means = refl;
}

letter_piece : (k : Escape) → PieceOf (escape_meaning k)
unfolding escape_byte
letter_piece Escape.slash = plain_piece 47 (λ e. omega (arith, e)) (λ e. omega (arith, e)) (omega arith)
letter_piece Escape.quotation_mark = record { piece = Piece.escape Escape.quotation_mark; spelled = refl; means = refl }
letter_piece Escape.backslash = record { piece = Piece.escape Escape.backslash; spelled = refl; means = refl }
letter_piece Escape.backspace = record { piece = Piece.escape Escape.backspace; spelled = refl; means = refl }
letter_piece Escape.form_feed = record { piece = Piece.escape Escape.form_feed; spelled = refl; means = refl }
letter_piece Escape.line_feed = record { piece = Piece.escape Escape.line_feed; spelled = refl; means = refl }
letter_piece Escape.carriage_return = record { piece = Piece.escape Escape.carriage_return; spelled = refl; means = refl }
letter_piece Escape.tab = record { piece = Piece.escape Escape.tab; spelled = refl; means = refl }

letter_at : (k : Escape) (x : ℕ) → x ≡ escape_meaning k → PieceOf x
letter_at k x e = subst PieceOf (sym e) (letter_piece k)

piece_of : (x : ℕ) → PieceOf x
piece_of x = elim (cases_eq x 34) [
  | inl e ↦ letter_at Escape.quotation_mark x e
  | inr a ↦ elim (cases_eq x 92) [
    | inl e ↦ letter_at Escape.backslash x e
    | inr b ↦ elim (cases_lt x 32) [ inl small ↦ control_piece x a b small | inr large ↦ plain_piece x a b large ]
  ]
]
  where
    control_piece : (x : ℕ) → x ≢ 34 → x ≢ 92 → x < 32 → PieceOf x
    control_piece x a b small = elim (cases_eq x 8) [
      | inl e ↦ letter_at Escape.backspace x e
      | inr c ↦ elim (cases_eq x 12) [
        | inl e ↦ letter_at Escape.form_feed x e
        | inr d ↦ elim (cases_eq x 10) [
          | inl e ↦ letter_at Escape.line_feed x e
          | inr h ↦ elim (cases_eq x 13) [
            | inl e ↦ letter_at Escape.carriage_return x e
            | inr f ↦ elim (cases_eq x 9) [ inl e ↦ letter_at Escape.tab x e | inr g ↦ unit_piece x small (no_letter x a b c d h f g) ]
          ]
        ]
      ]
    ]

text_pieces : (text : List ℕ) → Pieces (escape text) text
text_pieces [] = record { pieces = []; spelled = refl; means = refl }
text_pieces (x ∷ xs) =
    let p = piece_of x in
    let more = text_pieces xs in
    record { pieces = p.piece ∷ more.pieces; spelled = λ i. p.spelled i ++ more.spelled i; means = λ i. p.means i ++ more.means i }

-- what is quoted reads back
pub quoted_string : (text : List ℕ) → IsUtf8 text → IsString (quoted text) text
quoted_string text u = string_of_pieces (escape text) text (IsUtf8-quoted text u) (text_pieces text)

-- and stands for nothing else
pub quoted_only : (text meaning : List ℕ) → IsUtf8 text → IsString (quoted text) meaning → meaning ≡ text
quoted_only text meaning u s = one_meaning (quoted text) meaning text s (quoted_string text u)

-- two texts that are quoted alike are the same
pub quoted_same : (text other : List ℕ) → IsUtf8 text → quoted other ≡ quoted text → other ≡ text
quoted_same text other u e =
    let s = quoted_string text u in
    quoted_only text other u (string_of_pieces (escape text) other s.utf8 (subst (λ (t : List ℕ). Pieces t other) (inside e) (text_pieces other)))
  where
    tail : List ℕ → List ℕ
    tail [] = []
    tail (x ∷ xs) = xs

    inside : quoted other ≡ quoted text → escape other ≡ escape text
    inside e = append_cancel_right (escape other) (escape text) (34 ∷ []) (ap tail e)

-- ---- a byte is written

pub escape_lettered : (x : ℕ) → 0 < print.escape_letter x → escape_byte x ≡ 92 ∷ print.escape_letter x ∷ []
unfolding escape_byte
escape_lettered x some = ap (λ (b : Bool). cond b (92 ∷ print.escape_letter x ∷ []) (cond (nat_lt x 32) (92 ∷ 117 ∷ 48 ∷ 48 ∷ digit_char (x / 16) ∷ digit_char (x % 16) ∷ []) (x ∷ []))) (lt-ltb 0 (print.escape_letter x) some)

pub escape_control : (x : ℕ) → print.escape_letter x ≡ 0 → x < 32 → escape_byte x ≡ 92 ∷ 117 ∷ 48 ∷ 48 ∷ digit_char (x / 16) ∷ digit_char (x % 16) ∷ []
unfolding escape_byte
escape_control x none small = λ i. cond (nat_lt 0 (none i)) (92 ∷ print.escape_letter x ∷ []) (cond (lt-ltb x 32 small i) (92 ∷ 117 ∷ 48 ∷ 48 ∷ digit_char (x / 16) ∷ digit_char (x % 16) ∷ []) (x ∷ []))

pub escape_other : (x : ℕ) → print.escape_letter x ≡ 0 → 32 ≤ x → escape_byte x ≡ x ∷ []
unfolding escape_byte
escape_other x none large = λ i. cond (nat_lt 0 (none i)) (92 ∷ print.escape_letter x ∷ []) (cond (le-ltb x 32 large i) (92 ∷ 117 ∷ 48 ∷ 48 ∷ digit_char (x / 16) ∷ digit_char (x % 16) ∷ []) (x ∷ []))

-- ranges of a text
range_more : (bytes : List ℕ) (from end : ℕ) → from ≤ end → end < length bytes → slice_range bytes from (end + 1) ≡ slice_range bytes from end ++ slice_index_or bytes end 0 ∷ []
range_more bytes from end after lt =
    let n = end - from in
    let size : length (drop from bytes) ≡ length bytes - from = length-drop from bytes in
    let here : n < length (drop from bytes) = omega arith in
    let e : end + 1 - from ≡ n + 1 = omega arith in
    let f : from + n ≡ end = omega arith in
    ap (λ (k : ℕ). take k (drop from bytes)) e ∙ take_more (drop from bytes) n 0 here ∙ ap (λ (x : ℕ). take n (drop from bytes) ++ x ∷ []) (get_or-drop from bytes n 0 ∙ ap (λ (k : ℕ). get_or bytes k 0) f)

take_range : (bytes : List ℕ) (at end : ℕ) → at ≤ end → take end bytes ≡ take at bytes ++ slice_range bytes at end
take_range bytes at end after =
    let e : end ≡ at + (end - at) = omega arith in
    ap (λ (k : ℕ). take k bytes) e ∙ take-add at (end - at) bytes

-- one more byte that stands for itself
pub plain_more : (bytes : List ℕ) (from end : ℕ) → from ≤ end → end < length bytes → slice_index_or bytes end 0 ≢ 34 → slice_index_or bytes end 0 ≢ 92 → 32 ≤ slice_index_or bytes end 0 → escape (slice_range bytes from end) ≡ slice_range bytes from end → escape (slice_range bytes from (end + 1)) ≡ slice_range bytes from (end + 1)
plain_more bytes from end after lt a b large plain =
    let x = slice_index_or bytes end 0 in
    let more : slice_range bytes from (end + 1) ≡ slice_range bytes from end ++ x ∷ [] = range_more bytes from end after lt in
    ap escape more ∙ flat_map-append escape_byte (slice_range bytes from end) (x ∷ []) ∙ (λ i. plain i ++ (escape_byte_plain x a b large i ++ [])) ∙ sym more

-- the bytes up to a place, and those from there on
pub escape_range : (bytes : List ℕ) (at end : ℕ) → at ≤ end → end ≤ length bytes → escape (slice_range bytes at end) ≡ slice_range bytes at end → escape (take end bytes) ≡ escape (take at bytes) ++ slice_range bytes at end
escape_range bytes at end after within plain =
    ap escape (take_range bytes at end after) ∙ flat_map-append escape_byte (take at bytes) (slice_range bytes at end) ∙ ap (λ (l : List ℕ). escape (take at bytes) ++ l) plain

pub escape_more : (bytes : List ℕ) (at : ℕ) → at < length bytes → escape (take (at + 1) bytes) ≡ escape (take at bytes) ++ escape_byte (slice_index_or bytes at 0)
escape_more bytes at lt =
    ap escape (take_more bytes at 0 lt) ∙ flat_map-append escape_byte (take at bytes) (slice_index_or bytes at 0 ∷ []) ∙ ap (λ (l : List ℕ). escape (take at bytes) ++ l) (append-nil (escape_byte (slice_index_or bytes at 0)))
