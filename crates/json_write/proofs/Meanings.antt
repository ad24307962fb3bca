-- What a JSON string stands for is UTF-8.
use Rattle.std.proofs.Common.{◌≡◌, ℕ, suc, ◌+◌, ◌-◌, ◌*◌, ◌<◌, ◌≤◌, Bool, true, false, cond, not, ◌&&◌, nat_lt, nat_le, List, [], ◌∷◌, ◌++◌, flat_map, length, take, drop, get_or, IsTrue, IsUtf8, inl, inr, refl, sym, ap, ◌∙◌, subst, arith, append_assoc, append-nil, length-append, add-one}
use Rattle.std.proofs.Math.Seq.{take-append_seam}
use Rattle.std.proofs.lemmas.Bool.{and_parts, and_from, cases_lt, true≢false, not-true, lt-ltb, le-ltb, le-leb, ltb-true, ltb-false}
use Rattle.std.proofs.lemmas.Str.{IsUtf8-append, IsUtf8-take, IsUtf8-drop, IsUtf8-encode, IsCharBoundary-before_ascii, IsCharBoundary-after_ascii}
use Rattle.std.specs.Char.{digit_value, is_digit}
use Rattle.std.specs.Prelude.{encode_utf8}
use Rattle.json.proofs.Printed.Utf8.{are_ascii, IsUtf8-are_ascii}
use Rattle.json_scalar.specs.Text.{Piece, Escape, IsString, escape_letter, escape_meaning, are_hex, code_unit, is_high_surrogate, is_low_surrogate, are_whole, are_high, are_low, pair_meaning, piece_text, piece_meaning}
use lib.Utf8.{scalar, low_scalar}

-- ---- a text is cut at a byte below 128

get_or-seam : (front : List ℕ) (b : ℕ) (back : List ℕ) → get_or (front ++ b ∷ back) (length front) 0 ≡ b
get_or-seam [] b back = refl
get_or-seam (x ∷ front) b back = get_or-seam front b back

drop-past : (front : List ℕ) (b : ℕ) (back : List ℕ) → drop (suc (length front)) (front ++ b ∷ back) ≡ back
drop-past [] b back = refl
drop-past (x ∷ front) b back = drop-past front b back

apart : (front : List ℕ) (b : ℕ) (back : List ℕ) → b < 128 → IsUtf8 (front ++ b ∷ back) → IsUtf8 front × IsUtf8 back
apart front b back small u =
    let text = front ++ b ∷ back in
    let size : length text ≡ length front + suc (length back) = length-append front (b ∷ back) in
    let here : get_or text (length front) 0 < 128 = subst (λ (n : ℕ). n < 128) (sym (get_or-seam front b back)) small in
    let front_is : IsUtf8 (take (length front) text) = IsUtf8-take text (length front) u (IsCharBoundary-before_ascii text (length front) (omega arith) here) in
    let back_is : IsUtf8 (drop (length front + 1) text) = IsUtf8-drop text (length front + 1) u (IsCharBoundary-after_ascii text (length front) u (omega arith) here) in
    let back_eq : drop (length front + 1) text ≡ back = ap (λ (n : ℕ). drop n text) (add-one (length front)) ∙ drop-past front b back in (
      subst (λ (l : List ℕ). IsUtf8 l) (take-append_seam front (b ∷ back)) front_is,
      subst (λ (l : List ℕ). IsUtf8 l) back_eq back_is,
    )

past : (text rest : List ℕ) → are_ascii text ≡ true → IsUtf8 (text ++ rest) → IsUtf8 rest
past [] rest e u = u
past (b ∷ bs) rest e u = let p = and_parts (nat_lt b 128) (are_ascii bs) e in past bs rest p.1 (apart [] b (bs ++ rest) (ltb-true b 128 p.0) u).1

-- ---- four digits

hex_ascii : (a : ℕ) → is_digit a 16 ≡ true → nat_lt a 128 ≡ true
hex_ascii a is = elim (cases_lt a 128) [ inl small ↦ lt-ltb a 128 small | inr large ↦ absurd (true≢false (sym is ∙ none large)) ]
  where
    none : 128 ≤ a → is_digit a 16 ≡ false
    none large =
        let t0 = le-ltb a 48 (omega arith) in
        let t1 = le-ltb a 58 (omega arith) in
        let t2 = le-ltb a 65 (omega arith) in
        let t3 = le-ltb a 91 (omega arith) in
        let t4 = le-ltb a 97 (omega arith) in
        let t5 = le-ltb a 123 (omega arith) in
        λ i. nat_lt (cond (t0 i) 36 (cond (t1 i) (a - 48) (cond (t2 i) 36 (cond (t3 i) (a - 55) (cond (t4 i) 36 (cond (t5 i) (a - 87) 36)))))) 16

record Hex (a b c d : ℕ) : Type 0 where
  ascii : are_ascii (a ∷ b ∷ c ∷ d ∷ []) ≡ true
  small : code_unit a b c d < 65536

hex : (a b c d : ℕ) → are_hex a b c d ≡ true → Hex a b c d
hex a b c d is =
    let p = and_parts (is_digit a 16) _ is in
    let q = and_parts (is_digit b 16) _ p.1 in
    let r = and_parts (is_digit c 16) _ q.1 in
    let ha = ltb-true (digit_value a) 16 p.0 in
    let hb = ltb-true (digit_value b) 16 q.0 in
    let hc = ltb-true (digit_value c) 16 r.0 in
    let hd = ltb-true (digit_value d) 16 r.1 in
    record {
      ascii = and_from (nat_lt a 128) _ (hex_ascii a p.0) (and_from (nat_lt b 128) _ (hex_ascii b q.0) (and_from (nat_lt c 128) _ (hex_ascii c r.0) (and_from (nat_lt d 128) true (hex_ascii d r.1) refl)));
      small = below (digit_value a) (digit_value b) (digit_value c) (digit_value d) ha hb hc hd;
    }
  where
    below : (x y z w : ℕ) → x < 16 → y < 16 → z < 16 → w < 16 → x * 4096 + y * 256 + z * 16 + w < 65536
    below x y z w h i j k = omega arith

-- ---- characters

or_else : (b x : Bool) → x ≡ true → cond b true x ≡ true
or_else true x e = refl
or_else false x e = e

high_scalar : (u : ℕ) → 57344 ≤ u → u < 1114112 → scalar u ≡ true
high_scalar u low high = or_else (nat_lt u 55296) _ (and_from (nat_le 57344 u) (nat_lt u 1114112) (le-leb 57344 u low) (lt-ltb u 1114112 high))

second_false : (x y : Bool) → x ≡ true → (x && y) ≡ false → y ≡ false
second_false true y e f = f
second_false false y e f = absurd (true≢false (sym e))

whole_scalar : (u : ℕ) → u < 65536 → is_high_surrogate u ≡ false → is_low_surrogate u ≡ false → scalar u ≡ true
whole_scalar u small no_high no_low = elim (cases_lt u 55296) [
  | inl low ↦ low_scalar u low
  | inr above ↦
      let past_high : 56320 ≤ u = ltb-false u 56320 (second_false (nat_le 0xd800 u) (nat_lt u 0xdc00) (le-leb 55296 u above) no_high) in
      let past_low : 57344 ≤ u = ltb-false u 57344 (second_false (nat_le 0xdc00 u) (nat_lt u 0xe000) (le-leb 56320 u past_high) no_low) in
      high_scalar u past_low (omega arith)
]

pair_scalar : (high low : ℕ) → high < 56320 → low < 57344 → scalar (pair_meaning high low) ≡ true
pair_scalar high low h l = high_scalar (pair_meaning high low) (omega arith) (omega arith)

-- ---- the pieces

-- a piece is ASCII behind its first byte, which is one too, or it stands for itself
escape_ascii : (e : Escape) → are_ascii (escape_letter e ∷ []) ≡ true
escape_ascii Escape.quotation_mark = refl
escape_ascii Escape.backslash = refl
escape_ascii Escape.slash = refl
escape_ascii Escape.backspace = refl
escape_ascii Escape.form_feed = refl
escape_ascii Escape.line_feed = refl
escape_ascii Escape.carriage_return = refl
escape_ascii Escape.tab = refl

meaning_ascii : (e : Escape) → are_ascii (escape_meaning e ∷ []) ≡ true
meaning_ascii Escape.quotation_mark = refl
meaning_ascii Escape.backslash = refl
meaning_ascii Escape.slash = refl
meaning_ascii Escape.backspace = refl
meaning_ascii Escape.form_feed = refl
meaning_ascii Escape.line_feed = refl
meaning_ascii Escape.carriage_return = refl
meaning_ascii Escape.tab = refl

-- behind a backslash: what follows is ASCII, and what it means is UTF-8
behind : (front more meaning rest rest_meaning : List ℕ) → are_ascii more ≡ true → IsUtf8 meaning → (IsUtf8 rest → IsUtf8 rest_meaning) → IsUtf8 (front ++ 92 ∷ (more ++ rest)) → IsUtf8 (front ++ (meaning ++ rest_meaning))
behind front more meaning rest rest_meaning ascii means next u =
    let a = apart front 92 (more ++ rest) (omega arith) u in
    IsUtf8-append front (meaning ++ rest_meaning) a.0 (IsUtf8-append meaning rest_meaning means (next (past more rest ascii a.1)))

unit_utf8 : (a b c d : ℕ) → IsTrue (are_whole a b c d) → IsUtf8 (encode_utf8 (code_unit a b c d))
unit_utf8 a b c d is =
    let p = and_parts (are_hex a b c d) _ is in
    let q = and_parts (not (is_high_surrogate (code_unit a b c d))) _ p.1 in
    IsUtf8-encode (code_unit a b c d) (whole_scalar (code_unit a b c d) (hex a b c d p.0).small (not-true _ q.0) (not-true _ q.1))

pair_utf8 : (a b c d : ℕ) → IsTrue (are_high a b c d) → (e f g h : ℕ) → IsTrue (are_low e f g h) → IsUtf8 (encode_utf8 (pair_meaning (code_unit a b c d) (code_unit e f g h)))
pair_utf8 a b c d high e f g h low =
    let p = and_parts (are_hex a b c d) _ high in
    let q = and_parts (nat_le 0xd800 (code_unit a b c d)) (nat_lt (code_unit a b c d) 0xdc00) p.1 in
    let r = and_parts (are_hex e f g h) _ low in
    let s = and_parts (nat_le 0xdc00 (code_unit e f g h)) (nat_lt (code_unit e f g h) 0xe000) r.1 in
    IsUtf8-encode (pair_meaning (code_unit a b c d) (code_unit e f g h)) (pair_scalar (code_unit a b c d) (code_unit e f g h) (ltb-true (code_unit a b c d) 0xdc00 q.1) (ltb-true (code_unit e f g h) 0xe000 s.1))

eleven_ascii : (a b c d e f g h : ℕ) → are_ascii (a ∷ b ∷ c ∷ d ∷ []) ≡ true → are_ascii (e ∷ f ∷ g ∷ h ∷ []) ≡ true → are_ascii (117 ∷ a ∷ b ∷ c ∷ d ∷ 92 ∷ 117 ∷ e ∷ f ∷ g ∷ h ∷ []) ≡ true
eleven_ascii a b c d e f g h first second =
    let p = and_parts (nat_lt a 128) _ first in
    let q = and_parts (nat_lt b 128) _ p.1 in
    let r = and_parts (nat_lt c 128) _ q.1 in
    let s = and_parts (nat_lt d 128) _ r.1 in
    and_from (nat_lt a 128) _ p.0 (and_from (nat_lt b 128) _ q.0 (and_from (nat_lt c 128) _ r.0 (and_from (nat_lt d 128) _ s.0 second)))

pieces_utf8 : (pieces : List Piece) (front : List ℕ) → IsUtf8 (front ++ (flat_map piece_text pieces ++ 34 ∷ [])) → IsUtf8 (front ++ flat_map piece_meaning pieces)
pieces_utf8 [] front u = subst (λ (l : List ℕ). IsUtf8 l) (sym (append-nil front)) (apart front 34 [] (omega arith) u).0
pieces_utf8 (Piece.plain b is ∷ ps) front u =
    let moved : IsUtf8 ((front ++ b ∷ []) ++ (flat_map piece_text ps ++ 34 ∷ [])) = subst (λ (l : List ℕ). IsUtf8 l) (sym (append_assoc front (b ∷ []) (flat_map piece_text ps ++ 34 ∷ []))) u in
    subst (λ (l : List ℕ). IsUtf8 l) (append_assoc front (b ∷ []) (flat_map piece_meaning ps)) (pieces_utf8 ps (front ++ b ∷ []) moved)
pieces_utf8 (Piece.escape k ∷ ps) front u = behind front (escape_letter k ∷ []) (escape_meaning k ∷ []) (flat_map piece_text ps ++ 34 ∷ []) (flat_map piece_meaning ps) (escape_ascii k) (IsUtf8-are_ascii (escape_meaning k ∷ []) (meaning_ascii k)) (pieces_utf8 ps []) u
pieces_utf8 (Piece.unit a b c d is ∷ ps) front u = behind front (117 ∷ a ∷ b ∷ c ∷ d ∷ []) (encode_utf8 (code_unit a b c d)) (flat_map piece_text ps ++ 34 ∷ []) (flat_map piece_meaning ps) (hex a b c d (and_parts (are_hex a b c d) _ is).0).ascii (unit_utf8 a b c d is) (pieces_utf8 ps []) u
pieces_utf8 (Piece.pair a b c d high e f g h low ∷ ps) front u = behind front (117 ∷ a ∷ b ∷ c ∷ d ∷ 92 ∷ 117 ∷ e ∷ f ∷ g ∷ h ∷ []) (encode_utf8 (pair_meaning (code_unit a b c d) (code_unit e f g h))) (flat_map piece_text ps ++ 34 ∷ []) (flat_map piece_meaning ps)
    (eleven_ascii a b c d e f g h (hex a b c d (and_parts (are_hex a b c d) _ high).0).ascii (hex e f g h (and_parts (are_hex e f g h) _ low).0).ascii) (pair_utf8 a b c d high e f g h low) (pieces_utf8 ps []) u

pub meaning_utf8 : (text meaning : List ℕ) → IsString text meaning → IsUtf8 meaning
meaning_utf8 text meaning s =
    let spelled : IsUtf8 (34 ∷ (flat_map piece_text s.pieces ++ 34 ∷ [])) = subst (λ (l : List ℕ). IsUtf8 l) s.spelled s.utf8 in
    let inside = (apart [] 34 (flat_map piece_text s.pieces ++ 34 ∷ []) (omega arith) spelled).1 in
    subst (λ (l : List ℕ). IsUtf8 l) (sym s.means) (pieces_utf8 s.pieces [] inside)
