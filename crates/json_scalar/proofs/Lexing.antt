-- A text in quotation marks, and what `serde_json` reads there.
use Rattle.std.proofs.Common.{◌≡◌, ℕ, Bool, true, false, cond, ◌==◌, List, [], ◌∷◌, ◌++◌, flat_map, Option, Some, None, option_and_then, IsUtf8, refl, sym, ap, ◌∙◌, inl, inr, ◌⊎◌, append_assoc}
use Rattle.std.proofs.lemmas.Bool.{true≢false, and_parts, ne_eqb}
use Rattle.std.specs.Char.{is_digit}
use Rattle.json.specs.Text.{content}
use Rattle.json.specs.Text as json
use Rattle.json.specs.Word.{is_operator, is_space}
use Rattle.json.specs.Token.{Token}
use Rattle.json.specs.Lex.{Lexeme, Mode, Class, Place, class, string_token, lex_byte, lex, begins_colon, punctuate, place_token, if_allowed, may_begin, may_close}
use Rattle.json.specs.Json.{Json, value, if_last}
use Rattle.json.proofs.Grammar.{value_is}
use Rattle.serde_json.specs.Data.{Data}
use Rattle.serde_json.specs.Read.{of_json, read, max_depth}
use Rattle.json_scalar.specs.Text.{Piece, Escape, IsString, escape_letter, piece_text}
use Rattle.json_scalar.specs.Quotes.{IsQuoted}
use Rattle.json_scalar.proofs.Options.{some_inj}
use Rattle.json_scalar.proofs.Contents.{plain_tests, Hex, hex_tests, content-pieces, Pieced, pieces-content}

-- ---- the lexer passes over the pieces

stays_inside : (o s : Bool) (x : ℕ) (r : List ℕ) (k : Mode → List Lexeme) → lex_byte Mode.in_string (cond o Class.operator (cond s Class.space Class.other)) x r k ≡ k Mode.in_string
stays_inside true s x r k = refl
stays_inside false true x r k = refl
stays_inside false false x r k = refl

lex-inside : (x : ℕ) (r : List ℕ) → (x == 34) ≡ false → (x == 92) ≡ false → lex Mode.in_string (x ∷ r) ≡ lex Mode.in_string r
unfolding lex
lex-inside x r q b =
    (λ i. lex_byte Mode.in_string (cond (q i) Class.quote (cond (b i) Class.backslash (cond (is_operator x) Class.operator (cond (is_space x) Class.space Class.other)))) x r (λ m. lex m r))
    ∙ stays_inside (is_operator x) (is_space x) x r (λ m. lex m r)

lex-escape_letter : (e : Escape) (r : List ℕ) → lex Mode.in_string (92 ∷ escape_letter e ∷ r) ≡ lex Mode.in_string r
unfolding lex
lex-escape_letter e r = refl

digit_is_not : (x y : ℕ) → is_digit x 16 ≡ true → is_digit y 16 ≡ false → (x == y) ≡ false
digit_is_not x y is other = ne_eqb x y (λ e. true≢false (sym is ∙ ap (λ k. is_digit k 16) e ∙ other))

lex-digit : (x : ℕ) (r : List ℕ) → is_digit x 16 ≡ true → lex Mode.in_string (x ∷ r) ≡ lex Mode.in_string r
lex-digit x r is = lex-inside x r (digit_is_not x 34 is refl) (digit_is_not x 92 is refl)

lex-unit : (a b c d : ℕ) (r : List ℕ) → Hex a b c d → lex Mode.in_string (92 ∷ 117 ∷ a ∷ b ∷ c ∷ d ∷ r) ≡ lex Mode.in_string r
unfolding lex
lex-unit a b c d r h = lex-digit a (b ∷ c ∷ d ∷ r) h.first ∙ lex-digit b (c ∷ d ∷ r) h.second ∙ lex-digit c (d ∷ r) h.third ∙ lex-digit d r h.fourth

lex-piece : (p : Piece) (r : List ℕ) → lex Mode.in_string (piece_text p ++ r) ≡ lex Mode.in_string r
lex-piece (Piece.plain byte is) r = let t = plain_tests byte is in lex-inside byte r t.1 t.2
lex-piece (Piece.escape e) r = lex-escape_letter e r
lex-piece (Piece.unit a b c d is) r = lex-unit a b c d r (hex_tests a b c d (and_parts _ _ is).0)
lex-piece (Piece.pair a b c d high e f g h low) r =
    lex-unit a b c d (92 ∷ 117 ∷ e ∷ f ∷ g ∷ h ∷ r) (hex_tests a b c d (and_parts _ _ high).0) ∙ lex-unit e f g h r (hex_tests e f g h (and_parts _ _ low).0)

lex-pieces : (ps : List Piece) (r : List ℕ) → lex Mode.in_string (flat_map piece_text ps ++ 34 ∷ r) ≡ lex Mode.between r
unfolding lex
lex-pieces [] r = refl
lex-pieces (p ∷ ps) r = ap (lex Mode.in_string) (append_assoc (piece_text p) (flat_map piece_text ps) (34 ∷ r)) ∙ lex-piece p _ ∙ lex-pieces ps r

lex-quoted : (xs : List ℕ) → lex Mode.between (34 ∷ xs) ≡ Lexeme.token (string_token (content json.plain xs)) ∷ lex Mode.in_string xs
unfolding lex
lex-quoted xs = refl

-- ---- what a string is read as

whole : List Token → Option Json
whole ts = option_and_then (λ p. if_last p.0 p.1) (value max_depth ts)

read-lexemes : (text : List ℕ) (ls : List Lexeme) → lex Mode.between text ≡ ls → read text ≡ option_and_then of_json (whole (punctuate Place.fresh ls))
unfolding whole
read-lexemes text ls e = ap (λ l. option_and_then of_json (option_and_then (λ p. if_last p.0 p.1) (value max_depth (punctuate Place.fresh l)))) e

read-one_string : (s : List ℕ) → option_and_then of_json (whole (punctuate Place.fresh (Lexeme.token (Token.string s) ∷ []))) ≡ Some (Data.string s)
unfolding whole punctuate
read-one_string s = ap (λ v. option_and_then of_json (option_and_then (λ p. if_last p.0 p.1) v)) (value_is max_depth (Token.string s ∷ []))

pub read-IsString : (text meaning : List ℕ) → IsString text meaning → read text ≡ Some (Data.string meaning)
unfolding lex
read-IsString text meaning s =
    let lexed : lex Mode.between text ≡ Lexeme.token (Token.string meaning) ∷ [] =
    ap (lex Mode.between) s.spelled ∙ lex-quoted _ ∙ (λ i. Lexeme.token (string_token (content-pieces s.pieces [] i)) ∷ lex-pieces s.pieces [] i)
    ∙ ap (λ m. Lexeme.token (Token.string m) ∷ []) (sym s.means) in
    read-lexemes text _ lexed ∙ read-one_string meaning

-- ---- what is read as a string, between quotation marks, is one

some_token : (b : Bool) (t : Token) (k : Place → List Token) (p : Place) → if_allowed b t k p ≡ [] → ⊥
some_token true t k p e = cc
some_token false t k p e = cc

some_placed : (p : Place) (t : Token) (b : Bool) (k : Place → List Token) → place_token p t b k ≡ [] → ⊥
some_placed p Token.begin_object b k e = some_token (may_begin p) Token.begin_object k Place.fresh e
some_placed p Token.end_object b k e = some_token (may_close p) Token.end_object k Place.after_value e
some_placed p Token.begin_array b k e = some_token (may_begin p) Token.begin_array k Place.fresh e
some_placed p Token.end_array b k e = some_token (may_close p) Token.end_array k Place.after_value e
some_placed p (Token.key s) b k e = cc
some_placed p (Token.string s) true k e = some_token (may_begin p) (Token.key s) k Place.after_key e
some_placed p (Token.string s) false k e = some_token (may_begin p) (Token.string s) k Place.after_value e
some_placed p (Token.number s) b k e = some_token (may_begin p) (Token.number s) k Place.after_value e
some_placed p (Token.boolean v) b k e = some_token (may_begin p) (Token.boolean v) k Place.after_value e
some_placed p Token.null b k e = some_token (may_begin p) Token.null k Place.after_value e
some_placed p Token.bad b k e = cc

some_after_comma : (ls : List Lexeme) → punctuate Place.after_comma ls ≡ [] → ⊥
unfolding punctuate
some_after_comma [] e = cc
some_after_comma (Lexeme.token t ∷ ls) e = some_placed Place.after_comma t (begins_colon ls) (λ next. punctuate next ls) e
some_after_comma (Lexeme.comma ∷ ls) e = cc
some_after_comma (Lexeme.colon ∷ ls) e = cc

none_after_value : (ls : List Lexeme) → punctuate Place.after_value ls ≡ [] → ls ≡ []
unfolding punctuate
none_after_value [] e = refl
none_after_value (Lexeme.token t ∷ ls) e = absurd (some_placed Place.after_value t (begins_colon ls) (λ next. punctuate next ls) e)
none_after_value (Lexeme.comma ∷ ls) e = absurd (some_after_comma ls e)
none_after_value (Lexeme.colon ∷ ls) e = cc

read-bad : (ls : List Lexeme) → option_and_then of_json (whole (punctuate Place.fresh (Lexeme.token Token.bad ∷ ls))) ≡ None
unfolding whole punctuate
read-bad ls = ap (λ v. option_and_then of_json (option_and_then (λ p. if_last p.0 p.1) v)) (value_is max_depth (Token.bad ∷ []))

first_string : (t : List ℕ) (ls : List Lexeme) (d : Data) → option_and_then of_json (whole (punctuate Place.fresh (Lexeme.token (Token.string t) ∷ ls))) ≡ Some d → (ls ≡ []) × (d ≡ Data.string t)
unfolding whole punctuate
first_string t ls d e = go (begins_colon ls) e
  where
    behind : (ts : List Token) → punctuate Place.after_value ls ≡ ts → option_and_then of_json (if_last (Json.string t) ts) ≡ Some d → (ls ≡ []) × (d ≡ Data.string t)
    behind [] is e = (none_after_value ls is, some_inj d (Data.string t) (sym e))
    behind (u ∷ ts) is e = cc

    go : (b : Bool) → option_and_then of_json (whole (place_token Place.fresh (Token.string t) b (λ next. punctuate next ls))) ≡ Some d → (ls ≡ []) × (d ≡ Data.string t)
    go true e =
        let none = ap (λ v. option_and_then of_json (option_and_then (λ (p : Json × List Token). if_last p.0 p.1) v)) (value_is max_depth (Token.key t ∷ punctuate Place.after_key ls)) in
        let clash : None ≡ Some d = sym none ∙ e in
        cc
    go false e =
        let first = ap (λ v. option_and_then of_json (option_and_then (λ (p : Json × List Token). if_last p.0 p.1) v)) (value_is max_depth (Token.string t ∷ punctuate Place.after_value ls)) in
        behind (punctuate Place.after_value ls) refl (sym first ∙ e)

-- a text that ends in a quotation mark has lexemes
some_lexeme : (c : Class) (x : ℕ) (xs : List ℕ) (k : Mode → List Lexeme) → (k Mode.between ≡ [] → ⊥) → lex_byte Mode.between c x xs k ≡ [] → ⊥
some_lexeme Class.quote x xs k more e = cc
some_lexeme Class.backslash x xs k more e = cc
some_lexeme Class.operator x xs k more e = cc
some_lexeme Class.space x xs k more e = more e
some_lexeme Class.other x xs k more e = cc

some_lexemes : (zs : List ℕ) → lex Mode.between (zs ++ 34 ∷ []) ≡ [] → ⊥
unfolding lex
some_lexemes [] e = cc
some_lexemes (z ∷ zs) e = some_lexeme (class z) z (zs ++ 34 ∷ []) (λ m. lex m (zs ++ 34 ∷ [])) (some_lexemes zs) e

-- what is behind a quotation mark in a text that ends in one
behind_quote : (a inside rest : List ℕ) → inside ++ 34 ∷ [] ≡ a ++ 34 ∷ rest → (rest ≡ []) ⊎ ((zs : List ℕ) × (rest ≡ zs ++ 34 ∷ []))
behind_quote [] [] rest e = inl (let same : [] ≡ rest = cc in sym same)
behind_quote [] (x ∷ xs) rest e = inr (xs, let same : xs ++ 34 ∷ [] ≡ rest = cc in sym same)
behind_quote (y ∷ []) [] rest e = cc
behind_quote (y ∷ z ∷ ys) [] rest e = cc
behind_quote (y ∷ ys) (x ∷ xs) rest e = behind_quote ys xs rest (let same : xs ++ 34 ∷ [] ≡ ys ++ 34 ∷ rest = cc in same)

pub IsString-read : (text : List ℕ) (d : Data) → IsUtf8 text → IsQuoted text → read text ≡ Some d → (s : List ℕ) × (d ≡ Data.string s) × IsString text s
unfolding lex
IsString-read text d utf8 q e =
    let lexed = ap (lex Mode.between) q.spelled ∙ lex-quoted (q.inside ++ 34 ∷ []) in
    go (content json.plain (q.inside ++ 34 ∷ [])) refl (sym (read-lexemes text _ lexed) ∙ e)
  where
    closed : (s : List ℕ) (p : Pieced (q.inside ++ 34 ∷ []) s) → lex Mode.between p.rest ≡ [] → (p.rest ≡ []) ⊎ ((zs : List ℕ) × (p.rest ≡ zs ++ 34 ∷ [])) → p.rest ≡ []
    closed s p none (inl is) = is
    closed s p none (inr z) = absurd (some_lexemes z.0 (ap (lex Mode.between) (sym z.1) ∙ none))

    go : (o : Option (List ℕ)) → content json.plain (q.inside ++ 34 ∷ []) ≡ o
        → option_and_then of_json (whole (punctuate Place.fresh (Lexeme.token (string_token o) ∷ lex Mode.in_string (q.inside ++ 34 ∷ [])))) ≡ Some d
        → (s : List ℕ) × (d ≡ Data.string s) × IsString text s
    go None is e = let clash : None ≡ Some d = sym (read-bad (lex Mode.in_string (q.inside ++ 34 ∷ []))) ∙ e in cc
    go (Some s) is e =
        let f = first_string s (lex Mode.in_string (q.inside ++ 34 ∷ [])) d e in
        let p = pieces-content (q.inside ++ 34 ∷ []) s is in
        let none : lex Mode.between p.rest ≡ [] = sym (ap (lex Mode.in_string) p.spelled ∙ lex-pieces p.pieces p.rest) ∙ f.0 in
        let end = closed s p none (behind_quote (flat_map piece_text p.pieces) q.inside p.rest p.spelled) in (
          s,
          f.1,
          record {
            utf8 = utf8;
            pieces = p.pieces;
            spelled = q.spelled ∙ ap (λ l. 34 ∷ l) (p.spelled ∙ ap (λ r. flat_map piece_text p.pieces ++ 34 ∷ r) end);
            means = p.means;
          },
        )
