-- What a search of the bytes from a place on finds, by places.
use Rattle.std.proofs.Common.{◌≡◌, ℕ, suc, ◌+◌, ◌-◌, ◌<◌, ◌≤◌, List, [], ◌∷◌, ◌++◌, length, drop, get_or, slice_range, Bool, true, false, cond, All, sym, ap, subst, ◌∙◌, inl, inr, arith, add-one, length-append, length-drop, append-nil, append_assoc}
use Rattle.std.specs.Prelude.{nat_lt}
use Rattle.std.proofs.Math.Nat.{eq-or-lt_of_le}
use Rattle.std.proofs.Math.Seq.{drop-cons, drop-length}
use Rattle.std.proofs.lemmas.Bool.Decides.{nat_tests}
use Rattle.std.proofs.lemmas.List.{drop-drop, append_cancel_right}
use Rattle.std.proofs.lemmas.List.Elements.{All-append, All-from_recursion}
use Rattle.std.proofs.lemmas.List.Folds.{drop_split}
use Rattle.text_lines.specs.Lines.{is_newline, is_line, pieces_of}
use Rattle.piecewise_lines.specs.Unread.{IsSearched}
use Rattle.piecewise_lines.specs.Next.{next_of, passed_of}
use Rattle.piecewise_lines.specs.Found.{Gives}
use Rattle.piecewise_lines.specs.declared.NextLine.{NextLine}
use Rattle.piecewise_lines.specs.declared.NextLine.TheVariants as answer
use Rattle.piecewise_lines.proofs.Pieces.{HasFirst, has_first, next_of-too_long, passed_of-too_long, next_of-line, passed_of-line, next_of-blank, passed_of-blank, pieces_of-at, pieces_of-last}

-- two ranges that meet
range_joins : (bytes : List ℕ) (from mid to : ℕ) → from ≤ mid → mid ≤ to → slice_range bytes from mid ++ slice_range bytes mid to ≡ slice_range bytes from to
range_joins bytes from mid to h k =
    append_cancel_right (slice_range bytes from mid ++ slice_range bytes mid to) (slice_range bytes from to) (drop to bytes)
    (append_assoc (slice_range bytes from mid) (slice_range bytes mid to) (drop to bytes)
    ∙ ap (λ (l : List ℕ). slice_range bytes from mid ++ l) (sym (drop_split bytes mid to k))
    ∙ sym (drop_split bytes from mid h)
    ∙ drop_split bytes from to (omega arith))

range_none : (bytes : List ℕ) (at : ℕ) → slice_range bytes at at ≡ []
range_none bytes at = append_cancel_right (slice_range bytes at at) [] (drop at bytes) (sym (drop_split bytes at at (omega arith)))

pub range_rest : (bytes : List ℕ) (at : ℕ) → at ≤ length bytes → slice_range bytes at (length bytes) ≡ drop at bytes
range_rest bytes at h =
    sym (append-nil (slice_range bytes at (length bytes)))
    ∙ ap (λ (l : List ℕ). slice_range bytes at (length bytes) ++ l) (sym (drop-length bytes))
    ∙ sym (drop_split bytes at (length bytes) h)

length-range : (bytes : List ℕ) (from to : ℕ) → from ≤ to → to ≤ length bytes → length (slice_range bytes from to) ≡ to - from
length-range bytes from to h k =
    let split : length (drop from bytes) ≡ length (slice_range bytes from to) + length (drop to bytes) = ap length (drop_split bytes from to h) ∙ length-append (slice_range bytes from to) (drop to bytes) in
    let a : length (drop from bytes) ≡ length bytes - from = length-drop from bytes in
    let b : length (drop to bytes) ≡ length bytes - to = length-drop to bytes in
    omega arith

-- the search goes on
pub searched_more : (bytes : List ℕ) (start searched end : ℕ) → IsSearched bytes start searched → searched ≤ end → end ≤ length bytes → All (λ byte. is_newline byte ≡ false) (slice_range bytes searched end) → IsSearched bytes start end
searched_more bytes start searched end s h k none =
    let ordered = s.ordered in
    record {
      ordered = omega arith;
      inside = k;
      none = subst (λ (l : List ℕ). All (λ byte. is_newline byte ≡ false) l) (range_joins bytes start searched end ordered h) (All-append (λ byte. is_newline byte ≡ false) (slice_range bytes start searched) (slice_range bytes searched end) s.none none);
    }

-- nothing has been searched from here on
pub searched_none : (bytes : List ℕ) (at : ℕ) → at ≤ length bytes → IsSearched bytes at at
searched_none bytes at h = record { ordered = omega arith; inside = h; none = subst (λ (l : List ℕ). All (λ byte. is_newline byte ≡ false) l) (sym (range_none bytes at)) (All-from_recursion (λ byte. is_newline byte ≡ false) [] tt) }

-- the piece that has been searched to its end
module _ (limit : ℕ) (bytes : List ℕ) (start end : ℕ) (s : IsSearched bytes start end) where
  size : length (slice_range bytes start end) ≡ end - start
  size = length-range bytes start end s.ordered s.inside

  is_short : end - start ≤ limit → nat_lt limit (length (slice_range bytes start end)) ≡ false
  is_short h = subst (λ (n : ℕ). nat_lt limit n ≡ false) (sym size) (short (end - start) h)
    where
      short : (n : ℕ) → n ≤ limit → nat_lt limit n ≡ false
      short n h = grind (arith, nat_tests)

  is_long : limit < end - start → nat_lt limit (length (slice_range bytes start end)) ≡ true
  is_long h = subst (λ (n : ℕ). nat_lt limit n ≡ true) (sym size) (long (end - start) h)
    where
      long : (n : ℕ) → limit < n → nat_lt limit n ≡ true
      long n h = grind (arith, nat_tests)

  at_newline : end < length bytes → get_or bytes end 0 ≡ 10 → drop start bytes ≡ slice_range bytes start end ++ 10 ∷ drop (end + 1) bytes
  at_newline lt newline =
      drop_split bytes start end s.ordered
      ∙ ap (λ (l : List ℕ). slice_range bytes start end ++ l) (drop-cons bytes end 0 lt ∙ ap (λ (b : ℕ). b ∷ drop (suc end) bytes) newline ∙ ap (λ (n : ℕ). 10 ∷ drop n bytes) (sym (add-one end)))

  pieces_at_newline : end < length bytes → get_or bytes end 0 ≡ 10 → pieces_of (drop start bytes) ≡ slice_range bytes start end ∷ pieces_of (drop (end + 1) bytes)
  pieces_at_newline lt newline = ap pieces_of (at_newline lt newline) ∙ pieces_of-at (slice_range bytes start end) (drop (end + 1) bytes) s.none

  pieces_at_end : end ≡ length bytes → pieces_of (drop start bytes) ≡ slice_range bytes start end ∷ []
  pieces_at_end is =
      let rest : drop end bytes ≡ [] = ap (λ (n : ℕ). drop n bytes) is ∙ drop-length bytes in
      ap pieces_of (drop_split bytes start end s.ordered ∙ ap (λ (l : List ℕ). slice_range bytes start end ++ l) rest ∙ append-nil (slice_range bytes start end))
      ∙ pieces_of-last (slice_range bytes start end) s.none

  pub finds_long : (end < length bytes → get_or bytes end 0 ≡ 10) → limit < end - start → Gives limit bytes start start answer.TooLong
  finds_long newline h = elim (eq-or-lt_of_le s.inside) [ inl is ↦ by_pieces [] (pieces_at_end is) | inr lt ↦ by_pieces (pieces_of (drop (end + 1) bytes)) (pieces_at_newline lt (newline lt)) ]
    where
      by_pieces : (others : List (List ℕ)) → pieces_of (drop start bytes) ≡ slice_range bytes start end ∷ others → Gives limit bytes start start answer.TooLong
      by_pieces others e = record {
        answer = ap (next_of limit) e ∙ next_of-too_long limit (slice_range bytes start end) others (is_long h);
        left = ap (λ (n : ℕ). drop n (drop start bytes)) (ap (passed_of limit) e ∙ passed_of-too_long limit (slice_range bytes start end) others (is_long h));
      }

  pub finds_more : end ≡ length bytes → end - start ≤ limit → Gives limit bytes start start answer.More
  finds_more is h = record {
    answer = ap (next_of limit) (pieces_at_end is) ∙ ap (λ (x : Bool). cond x answer.TooLong answer.More) (is_short h);
    left = ap (λ (n : ℕ). drop n (drop start bytes)) (ap (passed_of limit) (pieces_at_end is));
  }

  -- past the piece and its newline
  past : drop (length (slice_range bytes start end) + 1) (drop start bytes) ≡ drop (end + 1) bytes
  past = drop-drop (length (slice_range bytes start end) + 1) start bytes ∙ ap (λ (n : ℕ). drop n bytes) (sum (length (slice_range bytes start end)) s.ordered size)
    where
      sum : (n : ℕ) → start ≤ end → n ≡ end - start → start + (n + 1) ≡ end + 1
      sum n h e = omega arith

  past_further : (more : ℕ) → drop (length (slice_range bytes start end) + 1 + more) (drop start bytes) ≡ drop more (drop (end + 1) bytes)
  past_further more = drop-drop (length (slice_range bytes start end) + 1 + more) start bytes ∙ ap (λ (n : ℕ). drop n bytes) (sum (length (slice_range bytes start end)) s.ordered size) ∙ sym (drop-drop more (end + 1) bytes)
    where
      sum : (n : ℕ) → start ≤ end → n ≡ end - start → start + (n + 1 + more) ≡ end + 1 + more
      sum n h e = omega arith

  pub finds_line : end < length bytes → get_or bytes end 0 ≡ 10 → end - start ≤ limit → is_line (slice_range bytes start end) ≡ true → Gives limit bytes start (end + 1) (answer.Line (slice_range bytes start end))
  finds_line lt newline h line = by_first (has_first (drop (end + 1) bytes))
    where
      by_first : HasFirst (pieces_of (drop (end + 1) bytes)) → Gives limit bytes start (end + 1) (answer.Line (slice_range bytes start end))
      by_first f =
          let e : pieces_of (drop start bytes) ≡ slice_range bytes start end ∷ f.first ∷ f.others = pieces_at_newline lt newline ∙ ap (λ (l : List (List ℕ)). slice_range bytes start end ∷ l) f.are in
          record {
            answer = ap (next_of limit) e ∙ next_of-line limit (slice_range bytes start end) f.first f.others (is_short h) line;
            left = ap (λ (n : ℕ). drop n (drop start bytes)) (ap (passed_of limit) e ∙ passed_of-line limit (slice_range bytes start end) f.first f.others (is_short h) line) ∙ past;
          }

  -- a blank piece is passed over
  pub passes : end < length bytes → get_or bytes end 0 ≡ 10 → end - start ≤ limit → is_line (slice_range bytes start end) ≡ false → (to : ℕ) (given : NextLine) → Gives limit bytes (end + 1) to given → Gives limit bytes start to given
  passes lt newline h blank to given g = by_first (has_first (drop (end + 1) bytes))
    where
      by_first : HasFirst (pieces_of (drop (end + 1) bytes)) → Gives limit bytes start to given
      by_first f =
          let e : pieces_of (drop start bytes) ≡ slice_range bytes start end ∷ f.first ∷ f.others = pieces_at_newline lt newline ∙ ap (λ (l : List (List ℕ)). slice_range bytes start end ∷ l) f.are in
          record {
            answer = ap (next_of limit) e ∙ next_of-blank limit (slice_range bytes start end) f.first f.others (is_short h) blank ∙ ap (next_of limit) (sym f.are) ∙ g.answer;
            left =
                ap (λ (n : ℕ). drop n (drop start bytes)) (ap (passed_of limit) e ∙ passed_of-blank limit (slice_range bytes start end) f.first f.others (is_short h) blank ∙ ap (λ (l : List (List ℕ)). length (slice_range bytes start end) + 1 + passed_of limit l) (sym f.are))
                ∙ past_further (passed_of limit (pieces_of (drop (end + 1) bytes)))
                ∙ g.left;
          }
