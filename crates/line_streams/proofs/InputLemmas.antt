-- What is to come of an input, and what its answers give.
use Rattle.std.proofs.Common.{◌≡◌, ℕ, ◌≤◌, List, [], ◌∷◌, ◌++◌, length, Bool, true, false, cond, Option, None, Some, option_map, refl, sym, ap, subst}
use Rattle.std.specs.Prelude.{nat_lt}
use Rattle.std.proofs.lemmas.Bool.{ltb-false}
use Rattle.text_lines.specs.Lines.{is_line, pieces_of}
use Rattle.piecewise_lines.specs.Unread.{Unread}
use Rattle.piecewise_lines.specs.Next.{next_of, answer_of}
use Rattle.piecewise_lines.specs.declared.NextLine.{NextLine}
use Rattle.piecewise_lines.specs.declared.NextLine.TheVariants as answer
use Rattle.basics.specs.declared.limits.TheConstants.{LONGEST_LINE}
use Rattle.line_streams.specs.Input.{IsShort}

-- where nothing was read, what the source has is to come
pub nothing_read : (bytes : List ℕ) (left : Option (List ℕ)) → bytes ≡ [] → option_map (λ left. bytes ++ ([] ++ left)) left ≡ left
nothing_read bytes None none = refl
nothing_read bytes (Some left) none = ap (λ (l : List ℕ). Some (l ++ left)) none

-- a line that is given is within the limit
pub next_within : (limit : ℕ) (pieces : List (List ℕ)) (line : List ℕ) → answer.Line line ≡ next_of limit pieces → length line ≤ limit
next_within limit [] line e = cc
next_within limit (last ∷ []) line e = by_case (nat_lt limit (length last)) e
  where
    by_case : (b : Bool) → answer.Line line ≡ cond b answer.TooLong answer.More → length line ≤ limit
    by_case true e = cc
    by_case false e = cc
next_within limit (piece ∷ following ∷ pieces) line e = by_case (next_within limit (following ∷ pieces) line) (nat_lt limit (length piece)) refl (is_line piece) e
  where
    by_case : (answer.Line line ≡ next_of limit (following ∷ pieces) → length line ≤ limit) → (b : Bool) → nat_lt limit (length piece) ≡ b → (is : Bool) → answer.Line line ≡ cond b answer.TooLong (cond is (answer.Line piece) (next_of limit (following ∷ pieces))) → length line ≤ limit
    by_case later true t is e = cc
    by_case later false t true e = let same : line ≡ piece = cc (e) in subst (λ (l : List ℕ). length l ≤ limit) (sym same) (ltb-false limit (length piece) t)
    by_case later false t false e = later e

pub line_within : (unread : Unread) (line : List ℕ) → answer.Line line ≡ answer_of unread → length line ≤ unread.limit
line_within unread line e = next_within unread.limit (pieces_of unread.bytes) line e

pub short_next : (unread : Unread) (given : NextLine) → given ≡ answer_of unread → unread.limit ≡ LONGEST_LINE → IsShort given
short_next unread (answer.Line line) e limit = subst (λ (n : ℕ). length line ≤ n) limit (line_within unread line e)
short_next unread answer.TooLong e limit = tt
short_next unread answer.More e limit = tt
