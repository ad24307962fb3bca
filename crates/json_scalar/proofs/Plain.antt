-- Strings without escapes, and texts that cannot be strings.
use Rattle.std.proofs.Common.{◌≡◌, ◌≢◌, ℕ, Bool, true, false, cond, not, List, [], ◌∷◌, ◌++◌, flat_map, Option, Some, None, IsTrue, IsUtf8, refl, sym, ap, ◌∙◌, arith, ◌≤◌, length, nat_eq, slice_index_or, eq-eqb}
use Rattle.std.proofs.lemmas.Bool.{true≢false}
use Rattle.std.proofs.lemmas.List.Elements.{All-cons, All-tail}
use Rattle.std.specs.List.{find, All}
use Rattle.json_scalar.specs.Text.{Piece, IsString, IsNoString, is_plain, piece_text, piece_meaning, string_text}
use Rattle.json_scalar.specs.Quotes.{in_quotes}

-- the first byte that is not plain
abbrev pub first_other : List ℕ → Option ℕ
first_other bytes = find (λ byte. not (is_plain byte)) bytes

record PlainPieces (bytes : List ℕ) : Type 0 where
  pieces : List Piece
  spelled : bytes ≡ flat_map piece_text pieces
  means : bytes ≡ flat_map piece_meaning pieces

plain_pieces : (bytes : List ℕ) → All (λ byte. IsTrue (is_plain byte)) bytes → PlainPieces bytes
plain_pieces [] all = record { pieces = []; spelled = refl; means = refl }
plain_pieces (x ∷ xs) all =
    let p = plain_pieces xs (All-tail (λ byte. IsTrue (is_plain byte)) x xs all) in
    record { pieces = Piece.plain x (all 0 0 (omega arith)) ∷ p.pieces; spelled = ap (λ l. x ∷ l) p.spelled; means = ap (λ l. x ∷ l) p.means }

pub plain_string : (text inside : List ℕ) → IsUtf8 text → text ≡ in_quotes inside → All (λ byte. IsTrue (is_plain byte)) inside → IsString text inside
plain_string text inside utf8 spelled all =
    let p = plain_pieces inside all in
    record { utf8 = utf8; pieces = p.pieces; spelled = spelled ∙ ap in_quotes p.spelled; means = p.means }

pub all_plain : (bytes : List ℕ) → first_other bytes ≡ None → All (λ byte. IsTrue (is_plain byte)) bytes
all_plain [] e = λ k d h. absurd (omega arith)
all_plain (x ∷ xs) e = go (is_plain x) refl e (all_plain xs)
  where
    go : (b : Bool) → is_plain x ≡ b → cond (not b) (Some x) (first_other xs) ≡ None → (first_other xs ≡ None → All (λ byte. IsTrue (is_plain byte)) xs) → All (λ byte. IsTrue (is_plain byte)) (x ∷ xs)
    go true is e more = All-cons (λ byte. IsTrue (is_plain byte)) x xs is (more e)
    go false is e more = cc

-- a piece that is no plain byte begins with a backslash
backslash_first : (x b : ℕ) (xs : List ℕ) → x ≡ 92 → first_other (x ∷ xs) ≡ Some b → b ≡ 92
backslash_first x b xs e f = let g : Some 92 ≡ Some b = ap (λ k. first_other (k ∷ xs)) (sym e) ∙ f in cc

no_pieces : (ps : List Piece) (inside : List ℕ) (b : ℕ) → first_other inside ≡ Some b → b ≢ 92 → flat_map piece_text ps ++ 34 ∷ [] ≡ inside ++ 34 ∷ [] → ⊥
no_pieces ps [] b f other e = cc
no_pieces [] (x ∷ []) b f other e = cc
no_pieces [] (x ∷ y ∷ ys) b f other e = cc
no_pieces (Piece.plain y is ∷ ps) (x ∷ xs) b f other e =
    let same : y ≡ x = cc in
    let more : flat_map piece_text ps ++ 34 ∷ [] ≡ xs ++ 34 ∷ [] = cc in
    let plain : is_plain x ≡ true = ap is_plain (sym same) ∙ is in
    no_pieces ps xs b (ap (λ k. cond (not k) (Some x) (first_other xs)) (sym plain) ∙ f) other more
no_pieces (Piece.escape k ∷ ps) (x ∷ xs) b f other e = other (backslash_first x b xs (let same : 92 ≡ x = cc in sym same) f)
no_pieces (Piece.unit a c d g is ∷ ps) (x ∷ xs) b f other e = other (backslash_first x b xs (let same : 92 ≡ x = cc in sym same) f)
no_pieces (Piece.pair a c d g high h i j k low ∷ ps) (x ∷ xs) b f other e = other (backslash_first x b xs (let same : 92 ≡ x = cc in sym same) f)

pub no_string : (text inside : List ℕ) (b : ℕ) → text ≡ in_quotes inside → first_other inside ≡ Some b → b ≢ 92 → IsNoString text
no_string text inside b spelled f other = λ meaning s.
    let same : string_text s.pieces ≡ in_quotes inside = sym s.spelled ∙ spelled in
    let tails : flat_map piece_text s.pieces ++ 34 ∷ [] ≡ inside ++ 34 ∷ [] = cc in
    no_pieces s.pieces inside b f other tails

-- the byte behind the quotation mark is a backslash, or the first of what the string stands for
pub first_byte : (rest others : List ℕ) (quotation byte first : ℕ) → byte ≢ first → byte ≢ 92 → IsString (quotation ∷ byte ∷ rest) (first ∷ others) → ⊥
first_byte rest others quotation byte first unlike plain s = among s.pieces s.spelled s.means
  where
    among : (ps : List Piece) → quotation ∷ byte ∷ rest ≡ string_text ps → first ∷ others ≡ flat_map piece_meaning ps → ⊥
    among [] spelled means = cc
    among (Piece.plain y is ∷ ps) spelled means = unlike (let a : byte ≡ y = cc in let b : first ≡ y = cc in a ∙ sym b)
    among (Piece.escape k ∷ ps) spelled means = plain (cc)
    among (Piece.unit a c d g is ∷ ps) spelled means = plain (cc)
    among (Piece.pair a c d g high h i j k low ∷ ps) spelled means = plain (cc)

unlike_bytes : (a b : ℕ) → nat_eq a b ≡ false → a ≢ b
unlike_bytes a b test same = true≢false (sym (eq-eqb a b same) ∙ test)

pub no_name_at : (text name : List ℕ) → 2 ≤ length text → 1 ≤ length name → slice_index_or text 1 0 ≢ slice_index_or name 0 0 → nat_eq (slice_index_or text 1 0) 92 ≡ false → IsString text name → ⊥
no_name_at [] name long some unlike plain s = absurd (omega arith)
no_name_at (q ∷ []) name long some unlike plain s = absurd (omega arith)
no_name_at (q ∷ b ∷ rest) [] long some unlike plain s = absurd (omega arith)
no_name_at (q ∷ b ∷ rest) (first ∷ others) long some unlike plain s = first_byte rest others q b first unlike (unlike_bytes b 92 plain) s
