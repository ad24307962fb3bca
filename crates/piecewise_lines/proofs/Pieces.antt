-- How the first piece comes off bytes, and off what comes next of them.
use Rattle.std.proofs.Common.{◌≡◌, ℕ, ◌+◌, List, [], ◌∷◌, ◌++◌, length, Bool, true, false, cond, All, filter, None, Some, refl, ap, ◌∙◌, arith}
use Rattle.std.specs.Prelude.{nat_lt, ◌==◌}
use Rattle.std.specs.List.{onto_first}
use Rattle.std.proofs.lemmas.Bool.Decides.{nat_tests}
use Rattle.std.proofs.lemmas.List.Splits.{slice_split_none, slice_split_at}
use Rattle.text_lines.specs.Lines.{is_newline, is_line, pieces_of, lines_of}
use Rattle.piecewise_lines.specs.Next.{next_of, passed_of, torn_of}
use Rattle.piecewise_lines.specs.declared.NextLine.TheVariants as answer

pub equal : (a b : ℕ) → (a == b) ≡ true → a ≡ b
equal a b e = grind (arith, nat_tests)

-- there is a first piece
pub record HasFirst (pieces : List (List ℕ)) : Type 0 where
  pub first : List ℕ
  pub others : List (List ℕ)
  pub are : pieces ≡ first ∷ others

onto : (b : ℕ) (pieces : List (List ℕ)) → HasFirst (onto_first b pieces)
onto b [] = record { first = b ∷ []; others = []; are = refl }
onto b (p ∷ ps) = record { first = b ∷ p; others = ps; are = refl }

pub has_first : (text : List ℕ) → HasFirst (pieces_of text)
has_first [] = record { first = []; others = []; are = refl }
has_first (b ∷ bs) = by_case (is_newline b)
  where
    by_case : (x : Bool) → HasFirst (cond x ([] ∷ pieces_of bs) (onto_first b (pieces_of bs)))
    by_case true = record { first = []; others = pieces_of bs; are = refl }
    by_case false = onto b (pieces_of bs)

-- a first piece that is too long
pub next_of-too_long : (limit : ℕ) (piece : List ℕ) (pieces : List (List ℕ)) → nat_lt limit (length piece) ≡ true → next_of limit (piece ∷ pieces) ≡ answer.TooLong
next_of-too_long limit piece [] e = ap (λ (x : Bool). cond x answer.TooLong answer.More) e
next_of-too_long limit piece (q ∷ ps) e = ap (λ (x : Bool). cond x answer.TooLong (cond (is_line piece) (answer.Line piece) (next_of limit (q ∷ ps)))) e

pub passed_of-too_long : (limit : ℕ) (piece : List ℕ) (pieces : List (List ℕ)) → nat_lt limit (length piece) ≡ true → passed_of limit (piece ∷ pieces) ≡ 0
passed_of-too_long limit piece [] e = refl
passed_of-too_long limit piece (q ∷ ps) e = ap (λ (x : Bool). cond x 0 (cond (is_line piece) (length piece + 1) (length piece + 1 + passed_of limit (q ∷ ps)))) e

pub torn_of-too_long : (limit : ℕ) (piece : List ℕ) (pieces : List (List ℕ)) → nat_lt limit (length piece) ≡ true → torn_of limit (piece ∷ pieces) ≡ None
torn_of-too_long limit piece [] e = ap (λ (x : Bool). cond x None (cond (is_line piece) (Some piece) None)) e
torn_of-too_long limit piece (q ∷ ps) e = ap (λ (x : Bool). cond x None (cond (is_line piece) None (torn_of limit (q ∷ ps)))) e

-- a line with its newline
pub next_of-line : (limit : ℕ) (piece q : List ℕ) (ps : List (List ℕ)) → nat_lt limit (length piece) ≡ false → is_line piece ≡ true → next_of limit (piece ∷ q ∷ ps) ≡ answer.Line piece
next_of-line limit piece q ps e f = ap (λ (x : Bool). cond x answer.TooLong (cond (is_line piece) (answer.Line piece) (next_of limit (q ∷ ps)))) e ∙ ap (λ (x : Bool). cond x (answer.Line piece) (next_of limit (q ∷ ps))) f

pub passed_of-line : (limit : ℕ) (piece q : List ℕ) (ps : List (List ℕ)) → nat_lt limit (length piece) ≡ false → is_line piece ≡ true → passed_of limit (piece ∷ q ∷ ps) ≡ length piece + 1
passed_of-line limit piece q ps e f = ap (λ (x : Bool). cond x 0 (cond (is_line piece) (length piece + 1) (length piece + 1 + passed_of limit (q ∷ ps)))) e ∙ ap (λ (x : Bool). cond x (length piece + 1) (length piece + 1 + passed_of limit (q ∷ ps))) f

pub torn_of-line : (limit : ℕ) (piece q : List ℕ) (ps : List (List ℕ)) → nat_lt limit (length piece) ≡ false → is_line piece ≡ true → torn_of limit (piece ∷ q ∷ ps) ≡ None
torn_of-line limit piece q ps e f = ap (λ (x : Bool). cond x None (cond (is_line piece) None (torn_of limit (q ∷ ps)))) e ∙ ap (λ (x : Bool). cond x None (torn_of limit (q ∷ ps))) f

-- a blank piece with its newline
pub next_of-blank : (limit : ℕ) (piece q : List ℕ) (ps : List (List ℕ)) → nat_lt limit (length piece) ≡ false → is_line piece ≡ false → next_of limit (piece ∷ q ∷ ps) ≡ next_of limit (q ∷ ps)
next_of-blank limit piece q ps e f = ap (λ (x : Bool). cond x answer.TooLong (cond (is_line piece) (answer.Line piece) (next_of limit (q ∷ ps)))) e ∙ ap (λ (x : Bool). cond x (answer.Line piece) (next_of limit (q ∷ ps))) f

pub passed_of-blank : (limit : ℕ) (piece q : List ℕ) (ps : List (List ℕ)) → nat_lt limit (length piece) ≡ false → is_line piece ≡ false → passed_of limit (piece ∷ q ∷ ps) ≡ length piece + 1 + passed_of limit (q ∷ ps)
passed_of-blank limit piece q ps e f = ap (λ (x : Bool). cond x 0 (cond (is_line piece) (length piece + 1) (length piece + 1 + passed_of limit (q ∷ ps)))) e ∙ ap (λ (x : Bool). cond x (length piece + 1) (length piece + 1 + passed_of limit (q ∷ ps))) f

pub torn_of-blank : (limit : ℕ) (piece q : List ℕ) (ps : List (List ℕ)) → nat_lt limit (length piece) ≡ false → is_line piece ≡ false → torn_of limit (piece ∷ q ∷ ps) ≡ torn_of limit (q ∷ ps)
torn_of-blank limit piece q ps e f = ap (λ (x : Bool). cond x None (cond (is_line piece) None (torn_of limit (q ∷ ps)))) e ∙ ap (λ (x : Bool). cond x None (torn_of limit (q ∷ ps))) f

-- a piece, its newline and what follows
pub pieces_of-at : (piece rest : List ℕ) → All (λ b. is_newline b ≡ false) piece → pieces_of (piece ++ 10 ∷ rest) ≡ piece ∷ pieces_of rest
pieces_of-at piece rest none = slice_split_at is_newline piece 10 rest none refl

pub pieces_of-last : (piece : List ℕ) → All (λ b. is_newline b ≡ false) piece → pieces_of piece ≡ piece ∷ []
pieces_of-last piece none = slice_split_none is_newline piece none

pub lines_of-at : (piece rest : List ℕ) → All (λ b. is_newline b ≡ false) piece → lines_of (piece ++ 10 ∷ rest) ≡ cond (is_line piece) (piece ∷ lines_of rest) (lines_of rest)
lines_of-at piece rest none = ap (filter is_line) (pieces_of-at piece rest none)
