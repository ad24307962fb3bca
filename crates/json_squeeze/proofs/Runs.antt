-- Runs of bytes that are kept as they stand, by their places in the text.
use Rattle.std.proofs.Common.{◌≡◌, ◌≢◌, ℕ, ◌+◌, ◌<◌, ◌≤◌, List, [], ◌∷◌, ◌++◌, true, false, length, drop, get_or, slice_range, refl, sym, ap, ◌∙◌, arith, append_assoc, append-nil, add-one}
use Rattle.std.proofs.Math.Seq.{drop-cons, drop-length}
use Rattle.std.proofs.lemmas.List.{append_cancel_right}
use Rattle.std.proofs.lemmas.List.Folds.{drop_split}
use Rattle.json_squeeze.specs.Squeeze.{is_space, squeezed, in_string, escaped}
use Rattle.json_squeeze.proofs.Bytes.{unequal, is_equal, squeezed-quote, squeezed-space, squeezed-shown, in_string-quote, in_string-backslash, in_string-plain}

-- one byte of the text, and what follows it
pub drop_one : (text : List ℕ) (at : ℕ) → at < length text → drop at text ≡ get_or text at 0 ∷ drop (at + 1) text
drop_one text at h = drop-cons text at 0 h ∙ ap (λ (n : ℕ). get_or text at 0 ∷ drop n text) (sym (add-one at))

pub range_one : (text : List ℕ) (at : ℕ) → at < length text → slice_range text at (at + 1) ≡ get_or text at 0 ∷ []
range_one text at h =
    append_cancel_right (slice_range text at (at + 1)) (get_or text at 0 ∷ []) (drop (at + 1) text)
    (sym (drop_split text at (at + 1) (omega arith)) ∙ drop_one text at h)

-- two ranges that meet
pub range_joins : (text : List ℕ) (from mid to : ℕ) → from ≤ mid → mid ≤ to → slice_range text from mid ++ slice_range text mid to ≡ slice_range text from to
range_joins text from mid to h k =
    append_cancel_right (slice_range text from mid ++ slice_range text mid to) (slice_range text from to) (drop to text)
    (append_assoc (slice_range text from mid) (slice_range text mid to) (drop to text)
    ∙ ap (λ (l : List ℕ). slice_range text from mid ++ l) (sym (drop_split text mid to k))
    ∙ sym (drop_split text from mid h)
    ∙ drop_split text from to (omega arith))

-- nothing lies in an empty range
pub range_none : (text : List ℕ) (at : ℕ) → slice_range text at at ≡ []
range_none text at = append_cancel_right (slice_range text at at) [] (drop at text) (sym (drop_split text at at (omega arith)))

-- a run goes on
pub kept_more : (text whole : List ℕ) (from mid to : ℕ) (g h : List ℕ → List ℕ) → from ≤ mid → mid ≤ to →
    whole ≡ slice_range text from mid ++ g (drop mid text) → g (drop mid text) ≡ slice_range text mid to ++ h (drop to text) → whole ≡ slice_range text from to ++ h (drop to text)
kept_more text whole from mid to g h i j e f =
    e ∙ ap (λ (l : List ℕ). slice_range text from mid ++ l) f
    ∙ sym (append_assoc (slice_range text from mid) (slice_range text mid to) (h (drop to text)))
    ∙ ap (λ (l : List ℕ). l ++ h (drop to text)) (range_joins text from mid to i j)

-- a run of one byte
one_kept : (text : List ℕ) (at : ℕ) (g h : List ℕ → List ℕ) → at < length text → g (get_or text at 0 ∷ drop (at + 1) text) ≡ get_or text at 0 ∷ h (drop (at + 1) text) → g (drop at text) ≡ slice_range text at (at + 1) ++ h (drop (at + 1) text)
one_kept text at g h lt e = ap g (drop_one text at lt) ∙ e ∙ ap (λ (l : List ℕ). l ++ h (drop (at + 1) text)) (sym (range_one text at lt))

pub shown_kept : (text : List ℕ) (at : ℕ) → at < length text → get_or text at 0 ≢ 34 → is_space (get_or text at 0) ≡ false → squeezed (drop at text) ≡ slice_range text at (at + 1) ++ squeezed (drop (at + 1) text)
shown_kept text at lt no_quote shown = one_kept text at squeezed squeezed lt (squeezed-shown (get_or text at 0) (drop (at + 1) text) (unequal (get_or text at 0) 34 no_quote) shown)

pub quote_kept : (text : List ℕ) (at : ℕ) → at < length text → get_or text at 0 ≡ 34 → squeezed (drop at text) ≡ slice_range text at (at + 1) ++ in_string (drop (at + 1) text)
quote_kept text at lt quote = one_kept text at squeezed in_string lt (squeezed-quote (get_or text at 0) (drop (at + 1) text) (is_equal (get_or text at 0) 34 quote))

pub end_kept : (text : List ℕ) (at : ℕ) → at < length text → get_or text at 0 ≡ 34 → in_string (drop at text) ≡ slice_range text at (at + 1) ++ squeezed (drop (at + 1) text)
end_kept text at lt quote = one_kept text at in_string squeezed lt (in_string-quote (get_or text at 0) (drop (at + 1) text) (is_equal (get_or text at 0) 34 quote))

pub plain_kept : (text : List ℕ) (at : ℕ) → at < length text → get_or text at 0 ≢ 34 → get_or text at 0 ≢ 92 → in_string (drop at text) ≡ slice_range text at (at + 1) ++ in_string (drop (at + 1) text)
plain_kept text at lt no_quote no_backslash = one_kept text at in_string in_string lt (in_string-plain (get_or text at 0) (drop (at + 1) text) (unequal (get_or text at 0) 34 no_quote) (unequal (get_or text at 0) 92 no_backslash))

backslash_kept : (text : List ℕ) (at : ℕ) → at < length text → get_or text at 0 ≢ 34 → get_or text at 0 ≡ 92 → in_string (drop at text) ≡ slice_range text at (at + 1) ++ escaped (drop (at + 1) text)
backslash_kept text at lt no_quote backslash = one_kept text at in_string escaped lt (in_string-backslash (get_or text at 0) (drop (at + 1) text) (unequal (get_or text at 0) 34 no_quote) (is_equal (get_or text at 0) 92 backslash))

pub pair_kept : (text : List ℕ) (at : ℕ) → at + 1 < length text → get_or text at 0 ≢ 34 → get_or text at 0 ≡ 92 → in_string (drop at text) ≡ slice_range text at (at + 2) ++ in_string (drop (at + 2) text)
pair_kept text at lt no_quote backslash =
    let second : escaped (drop (at + 1) text) ≡ slice_range text (at + 1) (at + 1 + 1) ++ in_string (drop (at + 1 + 1) text) = one_kept text (at + 1) escaped in_string lt refl in
    let two : at + 1 + 1 ≡ at + 2 = omega arith in
    kept_more text (in_string (drop at text)) at (at + 1) (at + 2) escaped in_string (omega arith) (omega arith) (backslash_kept text at (omega arith) no_quote backslash)
    (second ∙ ap (λ (n : ℕ). slice_range text (at + 1) n ++ in_string (drop n text)) two)

-- a backslash at the end
pub last_kept : (text : List ℕ) (at : ℕ) → at < length text → length text ≤ at + 1 → get_or text at 0 ≢ 34 → get_or text at 0 ≡ 92 → in_string (drop at text) ≡ slice_range text at (at + 1) ++ in_string (drop (at + 1) text)
last_kept text at lt last no_quote backslash =
    let end : at + 1 ≡ length text = omega arith in
    let none : drop (at + 1) text ≡ [] = ap (λ (n : ℕ). drop n text) end ∙ drop-length text in
    backslash_kept text at lt no_quote backslash
    ∙ ap (λ (l : List ℕ). slice_range text at (at + 1) ++ escaped l) none
    ∙ sym (ap (λ (l : List ℕ). slice_range text at (at + 1) ++ in_string l) none)

-- white space goes
pub space_goes : (text : List ℕ) (at : ℕ) → at < length text → is_space (get_or text at 0) ≡ true → squeezed (drop at text) ≡ squeezed (drop (at + 1) text)
space_goes text at lt space = ap squeezed (drop_one text at lt) ∙ squeezed-space (get_or text at 0) (drop (at + 1) text) space

-- at the end all is made
pub all_made : (text made : List ℕ) (at : ℕ) → at ≤ length text → length text ≤ at → made ++ squeezed (drop at text) ≡ squeezed text → made ≡ squeezed text
all_made text made at h k e =
    let end : at ≡ length text = omega arith in
    let none : drop at text ≡ [] = ap (λ (n : ℕ). drop n text) end ∙ drop-length text in
    sym (append-nil made) ∙ ap (λ (l : List ℕ). made ++ squeezed l) (sym none) ∙ e
