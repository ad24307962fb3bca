-- How a piece and the newline behind it come off the lines of a text.
use Rattle.std.proofs.Common.{◌≡◌, ℕ, ◌+◌, ◌<◌, ◌≤◌, List, [], ◌∷◌, ◌++◌, length, drop, cond, Bool, true, false, All, refl, ap, sym, ◌∙◌, subst, slice_index, slice_range, filter, add-one, suc}
use Rattle.std.proofs.Math.Seq.{drop-cons, drop-length}
use Rattle.std.proofs.lemmas.List.{append-nil}
use Rattle.std.proofs.lemmas.List.Folds.{drop_split}
use Rattle.std.proofs.lemmas.List.Splits.{slice_split_at, slice_split_none}
use Rattle.std.specs.List.{slice_split}
use Rattle.text_lines.specs.Lines.{is_newline, is_line, pieces_of, lines_of}

-- a newline and what follows
pub drop-newline : (text : List ℕ) (end : ℕ) → end < length text → slice_index text end ≡ 10 → drop end text ≡ 10 ∷ drop (end + 1) text
drop-newline text end lt newline =
    drop-cons text end 0 lt ∙ (ap (λ (byte : ℕ). byte ∷ drop (suc end) text) newline ∙ rw add-one refl)

-- a piece, a newline and what follows
pub drop-at_newline : (text : List ℕ) (start end : ℕ) → start ≤ end → end < length text → slice_index text end ≡ 10 → drop start text ≡ slice_range text start end ++ 10 ∷ drop (end + 1) text
drop-at_newline text start end le lt newline =
    drop_split text start end le ∙ ap (λ (rest : List ℕ). slice_range text start end ++ rest) (drop-newline text end lt newline)

pub pieces_of-at_newline : (text : List ℕ) (start end : ℕ) → start ≤ end → end < length text → slice_index text end ≡ 10 → All (λ byte. is_newline byte ≡ false) (slice_range text start end) → pieces_of (drop start text) ≡ slice_range text start end ∷ pieces_of (drop (end + 1) text)
pieces_of-at_newline text start end le lt newline none =
    ap pieces_of (drop-at_newline text start end le lt newline) ∙ slice_split_at is_newline (slice_range text start end) 10 (drop (end + 1) text) none refl

-- the last piece
pub pieces_of-at_end : (text : List ℕ) (start end : ℕ) → start ≤ end → end ≡ length text → All (λ byte. is_newline byte ≡ false) (slice_range text start end) → pieces_of (drop start text) ≡ slice_range text start end ∷ []
pieces_of-at_end text start end le is none =
    let rest : drop end text ≡ [] = ap (λ (n : ℕ). drop n text) is ∙ drop-length text in
    ap pieces_of (drop_split text start end le ∙ (ap (λ (more : List ℕ). slice_range text start end ++ more) rest ∙ append-nil (slice_range text start end))) ∙ slice_split_none is_newline (slice_range text start end) none

-- from a newline on, the lines are those behind it
pub lines_of-newline : (text : List ℕ) (end : ℕ) → end < length text → slice_index text end ≡ 10 → lines_of (drop end text) ≡ lines_of (drop (end + 1) text)
lines_of-newline text end lt newline =
    ap lines_of (drop-newline text end lt newline)

-- a line comes first where its piece does
pub filter-first : (piece : List ℕ) (pieces : List (List ℕ)) → is_line piece ≡ true → filter is_line (piece ∷ pieces) ≡ piece ∷ filter is_line pieces
filter-first piece pieces is = ap (λ (b : Bool). cond b (piece ∷ filter is_line pieces) (filter is_line pieces)) is

pub filter-passed : (piece : List ℕ) (pieces : List (List ℕ)) → is_line piece ≡ false → filter is_line (piece ∷ pieces) ≡ filter is_line pieces
filter-passed piece pieces is = ap (λ (b : Bool). cond b (piece ∷ filter is_line pieces) (filter is_line pieces)) is

-- a line with its newline, and the last one
pub lines_of-line : (text : List ℕ) (start end : ℕ) → start ≤ end → end < length text → slice_index text end ≡ 10 → All (λ byte. is_newline byte ≡ false) (slice_range text start end) → is_line (slice_range text start end) ≡ true → lines_of (drop start text) ≡ slice_range text start end ∷ lines_of (drop end text)
lines_of-line text start end le lt newline none is =
    ap (filter is_line) (pieces_of-at_newline text start end le lt newline none) ∙ (filter-first (slice_range text start end) (pieces_of (drop (end + 1) text)) is ∙ ap (λ (more : List (List ℕ)). slice_range text start end ∷ more) (sym (lines_of-newline text end lt newline)))

pub lines_of-last : (text : List ℕ) (start end : ℕ) → start ≤ end → end ≡ length text → All (λ byte. is_newline byte ≡ false) (slice_range text start end) → is_line (slice_range text start end) ≡ true → lines_of (drop start text) ≡ slice_range text start end ∷ lines_of (drop end text)
lines_of-last text start end le at none is =
    ap (filter is_line) (pieces_of-at_end text start end le at none) ∙ (filter-first (slice_range text start end) [] is ∙ ap (λ (rest : List ℕ). slice_range text start end ∷ lines_of rest) (sym (ap (λ (n : ℕ). drop n text) at ∙ drop-length text)))

-- a blank piece is passed over
pub lines_of-blank : (text : List ℕ) (start end : ℕ) → start ≤ end → end < length text → slice_index text end ≡ 10 → All (λ byte. is_newline byte ≡ false) (slice_range text start end) → is_line (slice_range text start end) ≡ false → lines_of (drop start text) ≡ lines_of (drop (end + 1) text)
lines_of-blank text start end le lt newline none is =
    ap (filter is_line) (pieces_of-at_newline text start end le lt newline none) ∙ filter-passed (slice_range text start end) (pieces_of (drop (end + 1) text)) is

pub lines_of-blank_end : (text : List ℕ) (start end : ℕ) → start ≤ end → end ≡ length text → All (λ byte. is_newline byte ≡ false) (slice_range text start end) → is_line (slice_range text start end) ≡ false → lines_of (drop start text) ≡ []
lines_of-blank_end text start end le at none is =
    ap (filter is_line) (pieces_of-at_end text start end le at none) ∙ filter-passed (slice_range text start end) [] is

-- past the end there is no line
pub lines_of-past : (text : List ℕ) (start : ℕ) → start ≡ length text → lines_of (drop start text) ≡ []
lines_of-past text start at = ap lines_of (ap (λ (n : ℕ). drop n text) at ∙ drop-length text)
