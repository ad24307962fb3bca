-- The pieces of a string, and what the reader of `json` makes of them.
use Rattle.std.proofs.Common.{◌≡◌, ℕ, zero, suc, ◌+◌, ◌*◌, ◌≤◌, Bool, true, false, cond, not, ◌&&◌, ◌||◌, ◌==◌, nat_lt, List, [], ◌∷◌, ◌++◌, length, drop, flat_map, Option, Some, None, option_and_then, IsTrue, refl, sym, ap, ◌∙◌, subst, arith, append_assoc}
use Rattle.std.proofs.lemmas.Bool.{and_parts, and_from, eqb-true, not-true, le-ltb, leb-true, le-leb, ltb-false}
use Rattle.std.specs.Char.{digit_value, is_digit, encode_utf8}
use Rattle.json.specs.Text.{Within, after_backslash, after_u, after_high, content, short_escape, prepend, surrogate_pair}
use Rattle.json.specs.Text as json
use Rattle.json_scalar.proofs.Options.{some_inj, from_and_then}
use Rattle.json_scalar.specs.Text.{Piece, Escape, IsString, is_plain, escape_letter, escape_meaning, are_hex, code_unit, is_high_surrogate, is_low_surrogate, are_whole, are_high, are_low, pair_meaning, piece_text, piece_meaning}

-- ---- each piece is read as what it means

pub plain_tests : (x : ℕ) → IsTrue (is_plain x) → (32 ≤ x) × ((x == 34) ≡ false) × ((x == 92) ≡ false)
plain_tests x is =
    let p = and_parts _ _ is in
    let q = and_parts _ _ p.1 in
    (leb-true 32 x p.0, not-true _ q.0, not-true _ q.1)

content-plain_byte : (x : ℕ) (r : List ℕ) → IsTrue (is_plain x) → content json.plain (x ∷ r) ≡ prepend (x ∷ []) (content json.plain r)
unfolding content
content-plain_byte x r is =
    let t = plain_tests x is in
    let l = le-ltb x 32 t.0 in
    λ i. cond (t.1 i) (Some []) (cond (t.2 i) (content after_backslash r) (cond (l i) None (prepend (x ∷ []) (content json.plain r))))

content-escape_letter : (e : Escape) (r : List ℕ) → content json.plain (92 ∷ escape_letter e ∷ r) ≡ prepend (escape_meaning e ∷ []) (content json.plain r)
unfolding content short_escape
content-escape_letter Escape.quotation_mark r = refl
content-escape_letter Escape.backslash r = refl
content-escape_letter Escape.slash r = refl
content-escape_letter Escape.backspace r = refl
content-escape_letter Escape.form_feed r = refl
content-escape_letter Escape.line_feed r = refl
content-escape_letter Escape.carriage_return r = refl
content-escape_letter Escape.tab r = refl

-- the tests of four digits
pub record Hex (a b c d : ℕ) : Type 0 where
  pub first : is_digit a 16 ≡ true
  pub second : is_digit b 16 ≡ true
  pub third : is_digit c 16 ≡ true
  pub fourth : is_digit d 16 ≡ true

pub hex_tests : (a b c d : ℕ) → are_hex a b c d ≡ true → Hex a b c d
hex_tests a b c d is =
    let p = and_parts (is_digit a 16) _ is in
    let q = and_parts (is_digit b 16) _ p.1 in
    let r = and_parts (is_digit c 16) _ q.1 in
    record { first = p.0; second = q.0; third = r.0; fourth = r.1 }

are_hex_from : (a b c d : ℕ) → Hex a b c d → are_hex a b c d ≡ true
are_hex_from a b c d h = and_from _ _ h.first (and_from _ _ h.second (and_from _ _ h.third h.fourth))

code_unit-hex : (a b c d : ℕ) → Hex a b c d → json.code_unit a b c d ≡ Some (code_unit a b c d)
unfolding json.code_unit
code_unit-hex a b c d h =
    λ i. cond (((h.first i && h.second i) && h.third i) && h.fourth i) (Some (digit_value a * 4096 + digit_value b * 256 + digit_value c * 16 + digit_value d)) None

content-unit : (a b c d : ℕ) (r : List ℕ) → IsTrue (are_whole a b c d) → content json.plain (92 ∷ 117 ∷ a ∷ b ∷ c ∷ d ∷ r) ≡ prepend (encode_utf8 (code_unit a b c d)) (content json.plain r)
unfolding content
content-unit a b c d r is =
    let p = and_parts (are_hex a b c d) _ is in
    let q = and_parts (not (is_high_surrogate (code_unit a b c d))) _ p.1 in
    let high = not-true _ q.0 in
    let low = not-true _ q.1 in
    let unit = code_unit-hex a b c d (hex_tests a b c d p.0) in
    let whole = λ (u : ℕ). cond (json.is_high_surrogate u) (content (after_high u) r) (cond (json.is_low_surrogate u) None (prepend (encode_utf8 u) (content json.plain r))) in
    ap (option_and_then whole) unit
    ∙ (λ i. cond (high i) (content (after_high (code_unit a b c d)) r) (cond (low i) None (prepend (encode_utf8 (code_unit a b c d)) (content json.plain r))))

content-pair : (a b c d : ℕ) → IsTrue (are_high a b c d) → (e f g h : ℕ) → IsTrue (are_low e f g h) → (r : List ℕ)
    → content json.plain (92 ∷ 117 ∷ a ∷ b ∷ c ∷ d ∷ 92 ∷ 117 ∷ e ∷ f ∷ g ∷ h ∷ r) ≡ prepend (encode_utf8 (pair_meaning (code_unit a b c d) (code_unit e f g h))) (content json.plain r)
unfolding content
content-pair a b c d is e f g h be r =
    let p = and_parts (are_hex a b c d) _ is in
    let q = and_parts (are_hex e f g h) _ be in
    let u = code_unit a b c d in
    let l = code_unit e f g h in
    let second = 92 ∷ 117 ∷ e ∷ f ∷ g ∷ h ∷ r in
    let first = λ (u : ℕ). cond (json.is_high_surrogate u) (content (after_high u) second) (cond (json.is_low_surrogate u) None (prepend (encode_utf8 u) (content json.plain second))) in
    let last = λ (l : ℕ). cond (json.is_low_surrogate l) (prepend (encode_utf8 (surrogate_pair u l)) (content json.plain r)) None in
    ap (option_and_then first) (code_unit-hex a b c d (hex_tests a b c d p.0))
    ∙ (λ i. cond (p.1 i) (content (after_high u) second) (cond (json.is_low_surrogate u) None (prepend (encode_utf8 u) (content json.plain second))))
    ∙ ap (option_and_then last) (code_unit-hex e f g h (hex_tests e f g h q.0))
    ∙ (λ i. cond (q.1 i) (prepend (encode_utf8 (surrogate_pair u l)) (content json.plain r)) None)

content-piece : (p : Piece) (r : List ℕ) → content json.plain (piece_text p ++ r) ≡ prepend (piece_meaning p) (content json.plain r)
content-piece (Piece.plain byte is) r = content-plain_byte byte r is
content-piece (Piece.escape e) r = content-escape_letter e r
content-piece (Piece.unit a b c d is) r = content-unit a b c d r is
content-piece (Piece.pair a b c d high e f g h low) r = content-pair a b c d high e f g h low r

pub content-pieces : (ps : List Piece) (r : List ℕ) → content json.plain (flat_map piece_text ps ++ 34 ∷ r) ≡ Some (flat_map piece_meaning ps)
unfolding content
content-pieces [] r = refl
content-pieces (p ∷ ps) r =
    ap (content json.plain) (append_assoc (piece_text p) (flat_map piece_text ps) (34 ∷ r)) ∙ content-piece p _ ∙ ap (prepend (piece_meaning p)) (content-pieces ps r)

-- a text has one meaning
content-IsString : (text meaning : List ℕ) → IsString text meaning → content json.plain (drop 1 text) ≡ Some meaning
content-IsString text meaning s = ap (λ t. content json.plain (drop 1 t)) s.spelled ∙ content-pieces s.pieces [] ∙ ap Some (sym s.means)

pub one_meaning : (text m n : List ℕ) → IsString text m → IsString text n → m ≡ n
one_meaning text m n v w = some_inj m n (sym (content-IsString text m v) ∙ content-IsString text n w)

-- ---- what is read is made of pieces

-- pieces, a quotation mark and a rest
pub record Pieced (xs s : List ℕ) : Type 0 where
  pub pieces : List Piece
  pub rest : List ℕ
  pub spelled : xs ≡ flat_map piece_text pieces ++ 34 ∷ rest
  pub means : s ≡ flat_map piece_meaning pieces

piece_first : (p : Piece) (xs s t : List ℕ) → Pieced xs t → s ≡ piece_meaning p ++ t → Pieced (piece_text p ++ xs) s
piece_first p xs s t d e = record {
  pieces = p ∷ d.pieces;
  rest = d.rest;
  spelled = ap (λ l. piece_text p ++ l) d.spelled ∙ sym (append_assoc (piece_text p) (flat_map piece_text d.pieces) (34 ∷ d.rest));
  means = e ∙ ap (λ l. piece_meaning p ++ l) d.means;
}

from_prepend : (front : List ℕ) (o : Option (List ℕ)) (s : List ℕ) → prepend front o ≡ Some s → (t : List ℕ) × (o ≡ Some t) × (s ≡ front ++ t)
from_prepend front None s e = cc
from_prepend front (Some t) s e = (t, refl, some_inj s (front ++ t) (sym e))

from_unit : (a b c d u : ℕ) → json.code_unit a b c d ≡ Some u → (are_hex a b c d ≡ true) × (code_unit a b c d ≡ u)
unfolding json.code_unit
from_unit a b c d u e = go (is_digit a 16) (is_digit b 16) (is_digit c 16) (is_digit d 16) e
  where
    go : (p q r s : Bool) → cond (((p && q) && r) && s) (Some (code_unit a b c d)) None ≡ Some u → ((p && (q && (r && s))) ≡ true) × (code_unit a b c d ≡ u)
    go true true true true e = (refl, some_inj _ _ e)
    go true true true false e = cc
    go true true false s e = cc
    go true false r s e = cc
    go false q r s e = cc

record Escaped (y c : ℕ) : Type 0 where
  escape : Escape
  letter : y ≡ escape_letter escape
  meaning : c ≡ escape_meaning escape

found_escape : (y c : ℕ) → short_escape y ≡ Some c → Escaped y c
unfolding short_escape
found_escape y c e = itself (y == 34) (y == 92) (y == 47) refl refl refl e
  where
    letters : (b f n r t : Bool) → (y == 98) ≡ b → (y == 102) ≡ f → (y == 110) ≡ n → (y == 114) ≡ r → (y == 116) ≡ t
        → cond b (Some 8) (cond f (Some 12) (cond n (Some 10) (cond r (Some 13) (cond t (Some 9) None)))) ≡ Some c → Escaped y c
    letters true f n r t eb ef en er et e = record { escape = Escape.backspace; letter = eqb-true y 98 eb; meaning = some_inj _ _ (sym e) }
    letters false true n r t eb ef en er et e = record { escape = Escape.form_feed; letter = eqb-true y 102 ef; meaning = some_inj _ _ (sym e) }
    letters false false true r t eb ef en er et e = record { escape = Escape.line_feed; letter = eqb-true y 110 en; meaning = some_inj _ _ (sym e) }
    letters false false false true t eb ef en er et e = record { escape = Escape.carriage_return; letter = eqb-true y 114 er; meaning = some_inj _ _ (sym e) }
    letters false false false false true eb ef en er et e = record { escape = Escape.tab; letter = eqb-true y 116 et; meaning = some_inj _ _ (sym e) }
    letters false false false false false eb ef en er et e = cc

    itself : (q b s : Bool) → (y == 34) ≡ q → (y == 92) ≡ b → (y == 47) ≡ s
        → cond ((q || b) || s) (Some y) (cond (y == 98) (Some 8) (cond (y == 102) (Some 12) (cond (y == 110) (Some 10) (cond (y == 114) (Some 13) (cond (y == 116) (Some 9) None))))) ≡ Some c → Escaped y c
    itself true b s eq eb es e = let is = eqb-true y 34 eq in record { escape = Escape.quotation_mark; letter = is; meaning = sym (some_inj _ _ e) ∙ is }
    itself false true s eq eb es e = let is = eqb-true y 92 eb in record { escape = Escape.backslash; letter = is; meaning = sym (some_inj _ _ e) ∙ is }
    itself false false true eq eb es e = let is = eqb-true y 47 es in record { escape = Escape.slash; letter = is; meaning = sym (some_inj _ _ e) ∙ is }
    itself false false false eq eb es e = letters (y == 98) (y == 102) (y == 110) (y == 114) (y == 116) refl refl refl refl refl e

-- texts no longer than n are known
abbrev Known : ℕ → Type 0
Known n = (ys : List ℕ) → length ys ≤ n → (s : List ℕ) → content json.plain ys ≡ Some s → Pieced ys s

-- behind the first half of a pair
paired : (n : ℕ) → Known n → (a b c d : ℕ) → are_high a b c d ≡ true → (r s : List ℕ) → length r ≤ n → content (after_high (code_unit a b c d)) r ≡ Some s → Pieced (92 ∷ 117 ∷ a ∷ b ∷ c ∷ d ∷ r) s
unfolding content
paired n known a b c d high [] s le e = cc
paired n known a b c d high (x ∷ []) s le e = cc
paired n known a b c d high (x ∷ y ∷ []) s le e = cc
paired n known a b c d high (x ∷ y ∷ k ∷ []) s le e = cc
paired n known a b c d high (x ∷ y ∷ k ∷ f ∷ []) s le e = cc
paired n known a b c d high (x ∷ y ∷ k ∷ f ∷ g ∷ []) s le e = cc
paired n known a b c d high (x ∷ y ∷ k ∷ f ∷ g ∷ h ∷ q) s le e = letters ((x == 92) && (y == 117)) refl e
  where
    last : (u : ℕ) → json.code_unit k f g h ≡ Some u → (low : Bool) → json.is_low_surrogate u ≡ low
        → cond low (prepend (encode_utf8 (surrogate_pair (code_unit a b c d) u)) (content json.plain q)) None ≡ Some s → x ≡ 92 → y ≡ 117
        → Pieced (92 ∷ 117 ∷ a ∷ b ∷ c ∷ d ∷ x ∷ y ∷ k ∷ f ∷ g ∷ h ∷ q) s
    last u found true is e first second =
        let unit = from_unit k f g h u found in
        let low : IsTrue (are_low k f g h) = and_from (are_hex k f g h) _ unit.0 (ap is_low_surrogate unit.1 ∙ is) in
        let t = from_prepend (encode_utf8 (surrogate_pair (code_unit a b c d) u)) (content json.plain q) s e in
        let means = t.2 ∙ ap (λ l. encode_utf8 (pair_meaning (code_unit a b c d) l) ++ t.0) (sym unit.1) in
        subst (λ v. Pieced v s) (λ i. 92 ∷ 117 ∷ a ∷ b ∷ c ∷ d ∷ sym first i ∷ sym second i ∷ k ∷ f ∷ g ∷ h ∷ q)
        (piece_first (Piece.pair a b c d high k f g h low) q s t.0 (known q (omega arith) t.0 t.1) means)
    last u found false is e first second = cc

    letters : (there : Bool) → ((x == 92) && (y == 117)) ≡ there
        → cond there (option_and_then (λ l. cond (json.is_low_surrogate l) (prepend (encode_utf8 (surrogate_pair (code_unit a b c d) l)) (content json.plain q)) None) (json.code_unit k f g h)) None ≡ Some s
        → Pieced (92 ∷ 117 ∷ a ∷ b ∷ c ∷ d ∷ x ∷ y ∷ k ∷ f ∷ g ∷ h ∷ q) s
    letters true is e =
        let p = and_parts (x == 92) (y == 117) is in
        let u = from_and_then (λ (l : ℕ). cond (json.is_low_surrogate l) (prepend (encode_utf8 (surrogate_pair (code_unit a b c d) l)) (content json.plain q)) None) (json.code_unit k f g h) s e in
        last u.0 u.1 (json.is_low_surrogate u.0) refl u.2 (eqb-true x 92 p.0) (eqb-true y 117 p.1)
    letters false is e = cc

-- behind the letter u
unicode : (n : ℕ) → Known n → (zs s : List ℕ) → length zs ≤ n → content after_u zs ≡ Some s → Pieced (92 ∷ 117 ∷ zs) s
unfolding content
unicode n known [] s le e = cc
unicode n known (a ∷ []) s le e = cc
unicode n known (a ∷ b ∷ []) s le e = cc
unicode n known (a ∷ b ∷ c ∷ []) s le e = cc
unicode n known (a ∷ b ∷ c ∷ d ∷ r) s le e =
    let u = from_and_then (λ (u : ℕ). cond (json.is_high_surrogate u) (content (after_high u) r) (cond (json.is_low_surrogate u) None (prepend (encode_utf8 u) (content json.plain r)))) (json.code_unit a b c d) s e in
    let unit = from_unit a b c d u.0 u.1 in
    go u.0 unit.0 unit.1 (json.is_high_surrogate u.0) (json.is_low_surrogate u.0) refl refl u.2
  where
    go : (u : ℕ) → are_hex a b c d ≡ true → code_unit a b c d ≡ u → (high low : Bool) → json.is_high_surrogate u ≡ high → json.is_low_surrogate u ≡ low
        → cond high (content (after_high u) r) (cond low None (prepend (encode_utf8 u) (content json.plain r))) ≡ Some s → Pieced (92 ∷ 117 ∷ a ∷ b ∷ c ∷ d ∷ r) s
    go u hex is true low ish isl e =
        let half : are_high a b c d ≡ true = and_from (are_hex a b c d) _ hex (ap is_high_surrogate is ∙ ish) in
        paired n known a b c d half r s (omega arith) (ap (λ k. content (after_high k) r) is ∙ e)
    go u hex is false true ish isl e = cc
    go u hex is false false ish isl e =
        let t = from_prepend (encode_utf8 u) (content json.plain r) s e in
        let whole : IsTrue (are_whole a b c d) = and_from (are_hex a b c d) _ hex (and_from _ _ (ap (λ k. not (is_high_surrogate k)) is ∙ ap not ish) (ap (λ k. not (is_low_surrogate k)) is ∙ ap not isl)) in
        piece_first (Piece.unit a b c d whole) r s t.0 (known r (omega arith) t.0 t.1) (t.2 ∙ ap (λ k. encode_utf8 k ++ t.0) (sym is))

-- behind a backslash
escaped : (n : ℕ) → Known n → (ys s : List ℕ) → length ys ≤ n → content after_backslash ys ≡ Some s → Pieced (92 ∷ ys) s
unfolding content
escaped n known [] s le e = cc
escaped n known (y ∷ zs) s le e = go (y == 117) refl e
  where
    go : (u : Bool) → (y == 117) ≡ u → cond u (content after_u zs) (option_and_then (λ c. prepend (c ∷ []) (content json.plain zs)) (short_escape y)) ≡ Some s → Pieced (92 ∷ y ∷ zs) s
    go true is e = subst (λ k. Pieced (92 ∷ k ∷ zs) s) (sym (eqb-true y 117 is)) (unicode n known zs s (omega arith) e)
    go false is e =
        let c = from_and_then (λ (c : ℕ). prepend (c ∷ []) (content json.plain zs)) (short_escape y) s e in
        let x = found_escape y c.0 c.1 in
        let t = from_prepend (c.0 ∷ []) (content json.plain zs) s c.2 in
        subst (λ k. Pieced (92 ∷ k ∷ zs) s) (sym x.letter)
        (piece_first (Piece.escape x.escape) zs s t.0 (known zs (omega arith) t.0 t.1) (t.2 ∙ ap (λ k. k ∷ t.0) x.meaning))

-- at a byte
first_byte : (n : ℕ) → Known n → (x : ℕ) (xs s : List ℕ) → length xs ≤ n → content json.plain (x ∷ xs) ≡ Some s → Pieced (x ∷ xs) s
unfolding content
first_byte n known x xs s le e = go (x == 34) (x == 92) (nat_lt x 32) refl refl refl e
  where
    go : (q b l : Bool) → (x == 34) ≡ q → (x == 92) ≡ b → nat_lt x 32 ≡ l
        → cond q (Some []) (cond b (content after_backslash xs) (cond l None (prepend (x ∷ []) (content json.plain xs)))) ≡ Some s → Pieced (x ∷ xs) s
    go true b l iq ib il e = record { pieces = []; rest = xs; spelled = ap (λ k. k ∷ xs) (eqb-true x 34 iq); means = sym (some_inj _ _ e) }
    go false true l iq ib il e = subst (λ k. Pieced (k ∷ xs) s) (sym (eqb-true x 92 ib)) (escaped n known xs s le e)
    go false false true iq ib il e = cc
    go false false false iq ib il e =
        let t = from_prepend (x ∷ []) (content json.plain xs) s e in
        let is : IsTrue (is_plain x) = and_from _ _ (le-leb 32 x (ltb-false x 32 il)) (and_from _ _ (ap not iq) (ap not ib)) in
        piece_first (Piece.plain x is) xs s t.0 (known xs le t.0 t.1) t.2

up_to : (n : ℕ) → Known n
unfolding content
up_to zero [] le s e = cc
up_to zero (x ∷ xs) le s e = absurd (omega arith)
up_to (suc n) [] le s e = cc
up_to (suc n) (x ∷ xs) le s e = first_byte n (up_to n) x xs s (omega arith) e

pub pieces-content : (xs s : List ℕ) → content json.plain xs ≡ Some s → Pieced xs s
pieces-content xs s e = up_to (length xs) xs (omega arith) s e
