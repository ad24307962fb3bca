-- What the definitions say of all bytes that are fed.
use Rattle.std.proofs.Common.{◌≡◌, ℕ, suc, ◌+◌, ◌≤◌, List, [], ◌∷◌, ◌++◌, length, drop, slice_range, Bool, true, false, cond, filter, None, Some, refl, sym, ap, subst, ◌∙◌, arith, append_assoc, append-nil, add-one}
use Rattle.std.specs.Prelude.{nat_lt}
use Rattle.std.specs.List.{onto_first, AllByRecursion}
use Rattle.std.proofs.lemmas.Bool.Decides.{nat_tests}
use Rattle.std.proofs.lemmas.List.Elements.{All-from_recursion}
use Rattle.text_lines.specs.Lines.{is_newline, is_line, pieces_of, lines_of}
use Rattle.piecewise_lines.specs.Unread.{Unread}
use Rattle.piecewise_lines.specs.Next.{next_of, passed_of, torn_of, answer_of, torn_line, left_of, fed, given_by, IsInOrder, IsTorn, StaysTooLong}
use Rattle.piecewise_lines.specs.Found.{Gives, IsFound}
use Rattle.piecewise_lines.specs.Turns.{Turn, feed, ask, fed_in, given_in, left_after, GivesAllLines}
use Rattle.piecewise_lines.specs.declared.NextLine.{NextLine}
use Rattle.piecewise_lines.specs.declared.NextLine.TheVariants as answer
use Rattle.piecewise_lines.specs.declared.Found.{Found}
use Rattle.piecewise_lines.specs.declared.Found.TheVariants as found
use Rattle.piecewise_lines.proofs.Pieces.{HasFirst, has_first, equal, next_of-too_long, passed_of-too_long, torn_of-too_long, next_of-line, passed_of-line, torn_of-line, next_of-blank, passed_of-blank, torn_of-blank, pieces_of-at, lines_of-at}

-- the bytes begin with this piece and its newline, and the others follow
record Opens (text piece : List ℕ) (others : List (List ℕ)) : Type 0 where
  rest : List ℕ
  none : AllByRecursion (λ b. is_newline b ≡ false) piece
  splits : text ≡ piece ++ 10 ∷ rest
  are : pieces_of rest ≡ others

opens : (text piece q : List ℕ) (ps : List (List ℕ)) → pieces_of text ≡ piece ∷ q ∷ ps → Opens text piece (q ∷ ps)
opens [] piece q ps e = cc
opens (b ∷ bs) piece q ps e = by_case (λ f r rs g. opens bs f r rs g) (is_newline b) refl e
  where
    more : ((f r : List ℕ) (rs : List (List ℕ)) → pieces_of bs ≡ f ∷ r ∷ rs → Opens bs f (r ∷ rs)) → HasFirst (pieces_of bs) → is_newline b ≡ false → onto_first b (pieces_of bs) ≡ piece ∷ q ∷ ps → Opens (b ∷ bs) piece (q ∷ ps)
    more later f no_newline e =
        let e2 : (b ∷ f.first) ∷ f.others ≡ piece ∷ q ∷ ps = ap (λ (l : List (List ℕ)). onto_first b l) (sym f.are) ∙ e in
        let is_piece : b ∷ f.first ≡ piece = cc (e2) in
        let is_others : f.others ≡ q ∷ ps = cc (e2) in
        let o = later f.first q ps (f.are ∙ ap (λ (l : List (List ℕ)). f.first ∷ l) is_others) in
        record {
          rest = o.rest;
          none = subst (λ (l : List ℕ). AllByRecursion (λ b. is_newline b ≡ false) l) is_piece (no_newline, o.none);
          splits = ap (λ (l : List ℕ). b ∷ l) o.splits ∙ ap (λ (l : List ℕ). l ++ 10 ∷ o.rest) is_piece;
          are = o.are;
        }

    by_case : ((f r : List ℕ) (rs : List (List ℕ)) → pieces_of bs ≡ f ∷ r ∷ rs → Opens bs f (r ∷ rs)) → (x : Bool) → is_newline b ≡ x → cond x ([] ∷ pieces_of bs) (onto_first b (pieces_of bs)) ≡ piece ∷ q ∷ ps → Opens (b ∷ bs) piece (q ∷ ps)
    by_case later true is e =
        let is_piece : [] ≡ piece = cc (e) in
        let is_others : pieces_of bs ≡ q ∷ ps = cc (e) in
        record {
          rest = bs;
          none = subst (λ (l : List ℕ). AllByRecursion (λ b. is_newline b ≡ false) l) is_piece tt;
          splits = ap (λ (n : ℕ). n ∷ bs) (equal b 10 is) ∙ ap (λ (l : List ℕ). l ++ 10 ∷ bs) is_piece;
          are = is_others;
        }
    by_case later false is e = more later (has_first bs) is e

drop_past : (piece rest : List ℕ) → drop (length piece + 1) (piece ++ 10 ∷ rest) ≡ rest
drop_past piece rest = ap (λ (n : ℕ). drop n (piece ++ 10 ∷ rest)) (add-one (length piece)) ∙ past piece
  where
    past : (piece : List ℕ) → drop (suc (length piece)) (piece ++ 10 ∷ rest) ≡ rest
    past [] = refl
    past (b ∷ bs) = past bs

drop_further : (piece rest : List ℕ) (n : ℕ) → drop (length piece + 1 + n) (piece ++ 10 ∷ rest) ≡ drop n rest
drop_further piece rest n = ap (λ (m : ℕ). drop m (piece ++ 10 ∷ rest)) (sum (length piece)) ∙ past piece
  where
    sum : (k : ℕ) → k + 1 + n ≡ suc (k + n)
    sum k = omega arith

    zero_sum : 0 + n ≡ n
    zero_sum = omega arith

    next_sum : (k : ℕ) → suc k + n ≡ suc (k + n)
    next_sum k = omega arith

    past : (piece : List ℕ) → drop (suc (length piece + n)) (piece ++ 10 ∷ rest) ≡ drop n rest
    past [] = ap (λ (m : ℕ). drop m rest) zero_sum
    past (b ∷ bs) = ap (λ (m : ℕ). drop (suc m) ((b ∷ bs) ++ 10 ∷ rest)) (next_sum (length bs)) ∙ past bs

-- bytes of which the first piece has a newline
module _ (limit : ℕ) (text piece q : List ℕ) (ps : List (List ℕ)) (o : Opens text piece (q ∷ ps)) where
  lines_then : (more : List ℕ) → lines_of (text ++ more) ≡ cond (is_line piece) (piece ∷ lines_of (o.rest ++ more)) (lines_of (o.rest ++ more))
  lines_then more =
      ap (λ (l : List ℕ). lines_of (l ++ more)) o.splits
      ∙ ap lines_of (append_assoc piece (10 ∷ o.rest) more)
      ∙ lines_of-at piece (o.rest ++ more) (All-from_recursion (λ b. is_newline b ≡ false) piece o.none)

  left_line : nat_lt limit (length piece) ≡ false → is_line piece ≡ true → drop (passed_of limit (piece ∷ q ∷ ps)) text ≡ o.rest
  left_line e f = ap (λ (n : ℕ). drop n text) (passed_of-line limit piece q ps e f) ∙ ap (λ (l : List ℕ). drop (length piece + 1) l) o.splits ∙ drop_past piece o.rest

  left_blank : nat_lt limit (length piece) ≡ false → is_line piece ≡ false → drop (passed_of limit (piece ∷ q ∷ ps)) text ≡ drop (passed_of limit (q ∷ ps)) o.rest
  left_blank e f = ap (λ (n : ℕ). drop n text) (passed_of-blank limit piece q ps e f) ∙ ap (λ (l : List ℕ). drop (length piece + 1 + passed_of limit (q ∷ ps)) l) o.splits ∙ drop_further piece o.rest (passed_of limit (q ∷ ps))

-- the lines come in their order
abbrev Ordered : ℕ → List ℕ → List (List ℕ) → Type 0
Ordered limit text pieces = (more : List ℕ) → lines_of (text ++ more) ≡ given_by (next_of limit pieces) ++ lines_of (drop (passed_of limit pieces) text ++ more)

nothing_given : (limit : ℕ) (text : List ℕ) (pieces : List (List ℕ)) → given_by (next_of limit pieces) ≡ [] → passed_of limit pieces ≡ 0 → Ordered limit text pieces
nothing_given limit text pieces e f more = sym (ap (λ (l : List (List ℕ)). l ++ lines_of (drop (passed_of limit pieces) text ++ more)) e ∙ ap (λ (n : ℕ). lines_of (drop n text ++ more)) f)

in_order : (limit : ℕ) (pieces : List (List ℕ)) (text : List ℕ) → pieces_of text ≡ pieces → Ordered limit text pieces
in_order limit [] text e = nothing_given limit text [] refl refl
in_order limit (last ∷ []) text e = by_case (nat_lt limit (length last)) refl
  where
    by_case : (x : Bool) → nat_lt limit (length last) ≡ x → Ordered limit text (last ∷ [])
    by_case true long = nothing_given limit text (last ∷ []) (ap given_by (next_of-too_long limit last [] long)) refl
    by_case false short = nothing_given limit text (last ∷ []) (ap (λ (x : Bool). given_by (cond x answer.TooLong answer.More)) short) refl
in_order limit (piece ∷ q ∷ ps) text e = by_case (λ t f. in_order limit (q ∷ ps) t f) (nat_lt limit (length piece)) (is_line piece) refl refl
  where
    o : Opens text piece (q ∷ ps)
    o = opens text piece q ps e

    by_case : ((t : List ℕ) → pieces_of t ≡ q ∷ ps → Ordered limit t (q ∷ ps)) → (x y : Bool) → nat_lt limit (length piece) ≡ x → is_line piece ≡ y → Ordered limit text (piece ∷ q ∷ ps)
    by_case later true y long f = nothing_given limit text (piece ∷ q ∷ ps) (ap given_by (next_of-too_long limit piece (q ∷ ps) long)) (passed_of-too_long limit piece (q ∷ ps) long)
    by_case later false true short line = λ more.
        lines_then limit text piece q ps o more
        ∙ ap (λ (x : Bool). cond x (piece ∷ lines_of (o.rest ++ more)) (lines_of (o.rest ++ more))) line
        ∙ sym (ap (λ (a : NextLine). given_by a ++ lines_of (drop (passed_of limit (piece ∷ q ∷ ps)) text ++ more)) (next_of-line limit piece q ps short line)
        ∙ ap (λ (l : List ℕ). piece ∷ lines_of (l ++ more)) (left_line limit text piece q ps o short line))
    by_case later false false short blank = λ more.
        lines_then limit text piece q ps o more
        ∙ ap (λ (x : Bool). cond x (piece ∷ lines_of (o.rest ++ more)) (lines_of (o.rest ++ more))) blank
        ∙ later o.rest o.are more
        ∙ sym (ap (λ (a : NextLine). given_by a ++ lines_of (drop (passed_of limit (piece ∷ q ∷ ps)) text ++ more)) (next_of-blank limit piece q ps short blank)
        ∙ ap (λ (l : List ℕ). given_by (next_of limit (q ∷ ps)) ++ lines_of (l ++ more)) (left_blank limit text piece q ps o short blank))

pub order : (unread : Unread) → IsInOrder unread (left_of unread) (given_by (answer_of unread))
order unread = in_order unread.limit (pieces_of unread.bytes) unread.bytes refl

-- one piece is the whole text, and has no newline
record Single (text last : List ℕ) : Type 0 where
  is : text ≡ last
  none : AllByRecursion (λ b. is_newline b ≡ false) text

single : (text last : List ℕ) → pieces_of text ≡ last ∷ [] → Single text last
single [] last e = record { is = cc (e); none = tt }
single (b ∷ bs) last e = by_case (λ f g. single bs f g) (is_newline b) refl e
  where
    onto : ((f : List ℕ) → pieces_of bs ≡ f ∷ [] → Single bs f) → HasFirst (pieces_of bs) → is_newline b ≡ false → onto_first b (pieces_of bs) ≡ last ∷ [] → Single (b ∷ bs) last
    onto later f no_newline e =
        let e2 : (b ∷ f.first) ∷ f.others ≡ last ∷ [] = ap (λ (l : List (List ℕ)). onto_first b l) (sym f.are) ∙ e in
        let is_last : b ∷ f.first ≡ last = cc (e2) in
        let no_others : f.others ≡ [] = cc (e2) in
        let s = later f.first (f.are ∙ ap (λ (l : List (List ℕ)). f.first ∷ l) no_others) in
        record { is = ap (λ (l : List ℕ). b ∷ l) s.is ∙ is_last; none = (no_newline, s.none) }

    no_piece : HasFirst (pieces_of bs) → [] ∷ pieces_of bs ≡ last ∷ [] → Single (b ∷ bs) last
    no_piece f e = let e2 : [] ∷ (f.first ∷ f.others) ≡ last ∷ [] = ap (λ (l : List (List ℕ)). [] ∷ l) (sym f.are) ∙ e in cc (e2)

    by_case : ((f : List ℕ) → pieces_of bs ≡ f ∷ [] → Single bs f) → (x : Bool) → is_newline b ≡ x → cond x ([] ∷ pieces_of bs) (onto_first b (pieces_of bs)) ≡ last ∷ [] → Single (b ∷ bs) last
    by_case later true is e = no_piece (has_first bs) e
    by_case later false is e = onto later (has_first bs) is e

within : (limit n : ℕ) → nat_lt limit n ≡ false → n ≤ limit
within limit n e = grind (arith, nat_tests)

-- where more is wanted one torn piece is left
is_torn : (limit : ℕ) (pieces : List (List ℕ)) (text : List ℕ) → pieces_of text ≡ pieces → next_of limit pieces ≡ answer.More → IsTorn record { limit = limit; bytes = drop (passed_of limit pieces) text }
is_torn limit [] text e m = let f = has_first text in let none : [] ≡ f.first ∷ f.others = sym e ∙ f.are in cc (none)
is_torn limit (last ∷ []) text e m = by_case (nat_lt limit (length last)) refl m
  where
    s : Single text last
    s = single text last e

    by_case : (x : Bool) → nat_lt limit (length last) ≡ x → cond x answer.TooLong answer.More ≡ answer.More → IsTorn record { limit = limit; bytes = text }
    by_case true long m = cc (m)
    by_case false short m = record { piece = e ∙ ap (λ (l : List ℕ). l ∷ []) (sym s.is); within = subst (λ (l : List ℕ). length l ≤ limit) (sym s.is) (within limit (length last) short) }
is_torn limit (piece ∷ q ∷ ps) text e m = by_case (λ t f n. is_torn limit (q ∷ ps) t f n) (nat_lt limit (length piece)) (is_line piece) refl refl
  where
    o : Opens text piece (q ∷ ps)
    o = opens text piece q ps e

    by_case : ((t : List ℕ) → pieces_of t ≡ q ∷ ps → next_of limit (q ∷ ps) ≡ answer.More → IsTorn record { limit = limit; bytes = drop (passed_of limit (q ∷ ps)) t }) → (x y : Bool) → nat_lt limit (length piece) ≡ x → is_line piece ≡ y → IsTorn record { limit = limit; bytes = drop (passed_of limit (piece ∷ q ∷ ps)) text }
    by_case later true y long f = let wrong : answer.TooLong ≡ answer.More = sym (next_of-too_long limit piece (q ∷ ps) long) ∙ m in cc (wrong)
    by_case later false true short line = let wrong : answer.Line piece ≡ answer.More = sym (next_of-line limit piece q ps short line) ∙ m in cc (wrong)
    by_case later false false short blank =
        subst (λ (l : List ℕ). IsTorn record { limit = limit; bytes = l }) (sym (left_blank limit text piece q ps o short blank))
        (later o.rest o.are (sym (next_of-blank limit piece q ps short blank) ∙ m))

pub torn_left : (unread : Unread) → answer_of unread ≡ answer.More → IsTorn (left_of unread)
torn_left unread m = is_torn unread.limit (pieces_of unread.bytes) unread.bytes refl m

-- the lines of bytes of which the first piece has a newline
lines_here : (text piece : List ℕ) (others : List (List ℕ)) (o : Opens text piece others) → lines_of text ≡ cond (is_line piece) (piece ∷ lines_of o.rest) (lines_of o.rest)
lines_here text piece others o = ap lines_of o.splits ∙ lines_of-at piece o.rest (All-from_recursion (λ b. is_newline b ≡ false) piece o.none)

-- a torn line is the only line
torn_only : (limit : ℕ) (pieces : List (List ℕ)) (text line : List ℕ) → pieces_of text ≡ pieces → torn_of limit pieces ≡ Some line → lines_of text ≡ line ∷ []
torn_only limit [] text line e t = cc (t)
torn_only limit (last ∷ []) text line e t = ap (filter is_line) e ∙ by_case (nat_lt limit (length last)) (is_line last) t
  where
    by_case : (x y : Bool) → cond x None (cond y (Some last) None) ≡ Some line → cond y (last ∷ []) [] ≡ line ∷ []
    by_case true y t = cc (t)
    by_case false true t = cc (t)
    by_case false false t = cc (t)
torn_only limit (piece ∷ q ∷ ps) text line e t = by_case (λ u f g. torn_only limit (q ∷ ps) u line f g) (nat_lt limit (length piece)) (is_line piece) refl refl
  where
    o : Opens text piece (q ∷ ps)
    o = opens text piece q ps e

    by_case : ((u : List ℕ) → pieces_of u ≡ q ∷ ps → torn_of limit (q ∷ ps) ≡ Some line → lines_of u ≡ line ∷ []) → (x y : Bool) → nat_lt limit (length piece) ≡ x → is_line piece ≡ y → lines_of text ≡ line ∷ []
    by_case later true y long f = let wrong : None ≡ Some line = sym (torn_of-too_long limit piece (q ∷ ps) long) ∙ t in cc (wrong)
    by_case later false true short shown = let wrong : None ≡ Some line = sym (torn_of-line limit piece q ps short shown) ∙ t in cc (wrong)
    by_case later false false short blank =
        lines_here text piece (q ∷ ps) o
        ∙ ap (λ (x : Bool). cond x (piece ∷ lines_of o.rest) (lines_of o.rest)) blank
        ∙ later o.rest o.are (sym (torn_of-blank limit piece q ps short blank) ∙ t)

pub torn_is_only : (unread : Unread) (line : List ℕ) → torn_line unread ≡ Some line → lines_of unread.bytes ≡ line ∷ []
torn_is_only unread line t = torn_only unread.limit (pieces_of unread.bytes) unread.bytes line refl t

-- where more is wanted and no line is torn there is no line
no_torn : (limit : ℕ) (pieces : List (List ℕ)) (text : List ℕ) → pieces_of text ≡ pieces → torn_of limit pieces ≡ None → next_of limit pieces ≡ answer.More → lines_of text ≡ []
no_torn limit [] text e t m = ap (filter is_line) e
no_torn limit (last ∷ []) text e t m = ap (filter is_line) e ∙ by_case (nat_lt limit (length last)) (is_line last) t m
  where
    by_case : (x y : Bool) → cond x None (cond y (Some last) None) ≡ None → cond x answer.TooLong answer.More ≡ answer.More → cond y (last ∷ []) [] ≡ []
    by_case true y t m = cc (m)
    by_case false true t m = cc (t)
    by_case false false t m = refl
no_torn limit (piece ∷ q ∷ ps) text e t m = by_case (λ u f g h. no_torn limit (q ∷ ps) u f g h) (nat_lt limit (length piece)) (is_line piece) refl refl
  where
    o : Opens text piece (q ∷ ps)
    o = opens text piece q ps e

    by_case : ((u : List ℕ) → pieces_of u ≡ q ∷ ps → torn_of limit (q ∷ ps) ≡ None → next_of limit (q ∷ ps) ≡ answer.More → lines_of u ≡ []) → (x y : Bool) → nat_lt limit (length piece) ≡ x → is_line piece ≡ y → lines_of text ≡ []
    by_case later true y long f = let wrong : answer.TooLong ≡ answer.More = sym (next_of-too_long limit piece (q ∷ ps) long) ∙ m in cc (wrong)
    by_case later false true short shown = let wrong : answer.Line piece ≡ answer.More = sym (next_of-line limit piece q ps short shown) ∙ m in cc (wrong)
    by_case later false false short blank =
        lines_here text piece (q ∷ ps) o
        ∙ ap (λ (x : Bool). cond x (piece ∷ lines_of o.rest) (lines_of o.rest)) blank
        ∙ later o.rest o.are (sym (torn_of-blank limit piece q ps short blank) ∙ t) (sym (next_of-blank limit piece q ps short blank) ∙ m)

pub torn_is_blank : (unread : Unread) → torn_line unread ≡ None → answer_of unread ≡ answer.More → lines_of unread.bytes ≡ []
torn_is_blank unread t m = no_torn unread.limit (pieces_of unread.bytes) unread.bytes refl t m

-- nothing is torn unless more is wanted
not_torn : (limit : ℕ) (pieces : List (List ℕ)) → (next_of limit pieces ≡ answer.More → ⊥) → torn_of limit pieces ≡ None
not_torn limit [] h = refl
not_torn limit (last ∷ []) h = by_case (nat_lt limit (length last)) h
  where
    by_case : (x : Bool) → (cond x answer.TooLong answer.More ≡ answer.More → ⊥) → cond x None (cond (is_line last) (Some last) None) ≡ None
    by_case true h = refl
    by_case false h = absurd (h refl)
not_torn limit (piece ∷ q ∷ ps) h = by_case (λ g. not_torn limit (q ∷ ps) g) (nat_lt limit (length piece)) (is_line piece) h
  where
    by_case : ((next_of limit (q ∷ ps) ≡ answer.More → ⊥) → torn_of limit (q ∷ ps) ≡ None) → (x y : Bool) → (cond x answer.TooLong (cond y (answer.Line piece) (next_of limit (q ∷ ps))) ≡ answer.More → ⊥) → cond x None (cond y None (torn_of limit (q ∷ ps))) ≡ None
    by_case later true y h = refl
    by_case later false true h = refl
    by_case later false false h = later h

-- where more is wanted, what is left is torn, if it is a line
torn_by_line : (limit : ℕ) (pieces : List (List ℕ)) (text : List ℕ) → pieces_of text ≡ pieces → next_of limit pieces ≡ answer.More → torn_of limit pieces ≡ cond (is_line (drop (passed_of limit pieces) text)) (Some (drop (passed_of limit pieces) text)) None
torn_by_line limit [] text e m = let f = has_first text in let none : [] ≡ f.first ∷ f.others = sym e ∙ f.are in cc (none)
torn_by_line limit (last ∷ []) text e m = by_case (nat_lt limit (length last)) m ∙ ap (λ (l : List ℕ). cond (is_line l) (Some l) None) (sym s.is)
  where
    s : Single text last
    s = single text last e

    by_case : (x : Bool) → cond x answer.TooLong answer.More ≡ answer.More → cond x None (cond (is_line last) (Some last) None) ≡ cond (is_line last) (Some last) None
    by_case true m = cc (m)
    by_case false m = refl
torn_by_line limit (piece ∷ q ∷ ps) text e m = by_case (λ u f n. torn_by_line limit (q ∷ ps) u f n) (nat_lt limit (length piece)) (is_line piece) refl refl
  where
    o : Opens text piece (q ∷ ps)
    o = opens text piece q ps e

    by_case : ((u : List ℕ) → pieces_of u ≡ q ∷ ps → next_of limit (q ∷ ps) ≡ answer.More → torn_of limit (q ∷ ps) ≡ cond (is_line (drop (passed_of limit (q ∷ ps)) u)) (Some (drop (passed_of limit (q ∷ ps)) u)) None) →
        (x y : Bool) → nat_lt limit (length piece) ≡ x → is_line piece ≡ y → torn_of limit (piece ∷ q ∷ ps) ≡ cond (is_line (drop (passed_of limit (piece ∷ q ∷ ps)) text)) (Some (drop (passed_of limit (piece ∷ q ∷ ps)) text)) None
    by_case later true y long f = let wrong : answer.TooLong ≡ answer.More = sym (next_of-too_long limit piece (q ∷ ps) long) ∙ m in cc (wrong)
    by_case later false true short shown = let wrong : answer.Line piece ≡ answer.More = sym (next_of-line limit piece q ps short shown) ∙ m in cc (wrong)
    by_case later false false short blank =
        torn_of-blank limit piece q ps short blank
        ∙ later o.rest o.are (sym (next_of-blank limit piece q ps short blank) ∙ m)
        ∙ ap (λ (l : List ℕ). cond (is_line l) (Some l) None) (sym (left_blank limit text piece q ps o short blank))

-- what a search found, in the words of the contracts
module _ (limit : ℕ) (bytes : List ℕ) (start : ℕ) (unread : Unread) (view : record { limit = limit; bytes = drop start bytes } ≡ unread) where
  pub in_order_by : (to : ℕ) (given : NextLine) → Gives limit bytes start to given → (more : List ℕ) → lines_of (unread.bytes ++ more) ≡ given_by given ++ lines_of (drop to bytes ++ more)
  in_order_by to given g more =
      ap (λ (u : Unread). lines_of (u.bytes ++ more)) (sym view)
      ∙ order record { limit = limit; bytes = drop start bytes } more
      ∙ ap (λ (a : NextLine). given_by a ++ lines_of (drop (passed_of limit (pieces_of (drop start bytes))) (drop start bytes) ++ more)) g.answer
      ∙ ap (λ (l : List ℕ). given_by given ++ lines_of (l ++ more)) g.left

  pub torn_by : (to : ℕ) → Gives limit bytes start to answer.More → torn_line unread ≡ cond (is_line (drop to bytes)) (Some (drop to bytes)) None
  torn_by to g =
      ap torn_line (sym view)
      ∙ torn_by_line limit (pieces_of (drop start bytes)) (drop start bytes) refl g.answer
      ∙ ap (λ (l : List ℕ). cond (is_line l) (Some l) None) g.left

  not_more : (given : NextLine) → next_of limit (pieces_of (drop start bytes)) ≡ given → (given ≡ answer.More → ⊥) → answer_of unread ≡ answer.More → ⊥
  not_more given e no_more m = no_more (sym e ∙ ap answer_of view ∙ m)

  pub no_answer : (f : Found) → IsFound limit bytes start f → ((s : ℕ) → f ≡ found.More s → ⊥) → answer_of unread ≡ answer.More → ⊥
  no_answer (found.Line s t) h no_more = let g = h.gives in not_more (answer.Line (slice_range bytes s t)) g.answer (λ e. cc (e))
  no_answer (found.TooLong s t) h no_more = let g = h.gives in not_more answer.TooLong g.answer (λ e. cc (e))
  no_answer (found.More s) h no_more = absurd (no_more s refl)

  pub none_torn : (answer_of unread ≡ answer.More → ⊥) → torn_line unread ≡ None
  none_torn h = not_torn unread.limit (pieces_of unread.bytes) h

pub torn_of_found : (limit : ℕ) (bytes : List ℕ) (start to : ℕ) → Gives limit bytes start to answer.More → IsTorn record { limit = limit; bytes = drop to bytes }
torn_of_found limit bytes start to g = subst (λ (l : List ℕ). IsTorn record { limit = limit; bytes = l }) g.left (torn_left record { limit = limit; bytes = drop start bytes } g.answer)

-- a piece without a newline only grows
record Grows (text more : List ℕ) : Type 0 where
  first : List ℕ
  others : List (List ℕ)
  are : pieces_of (text ++ more) ≡ first ∷ others
  longer : length text ≤ length first

grows : (text more : List ℕ) → AllByRecursion (λ b. is_newline b ≡ false) text → Grows text more
grows [] more n = let f = has_first more in record { first = f.first; others = f.others; are = f.are; longer = omega arith }
grows (b ∷ bs) more n =
    let g = grows bs more n.1 in
    let longer = g.longer in
    record {
      first = b ∷ g.first;
      others = g.others;
      are = ap (λ (x : Bool). cond x ([] ∷ pieces_of (bs ++ more)) (onto_first b (pieces_of (bs ++ more)))) n.0 ∙ ap (λ (l : List (List ℕ)). onto_first b l) g.are;
      longer = omega arith;
    }

longer_too : (limit n m : ℕ) → nat_lt limit n ≡ true → n ≤ m → nat_lt limit m ≡ true
longer_too limit n m e h = grind (arith, nat_tests)

stays : (limit : ℕ) (pieces : List (List ℕ)) (text more : List ℕ) → pieces_of text ≡ pieces → next_of limit pieces ≡ answer.TooLong → next_of limit (pieces_of (drop (passed_of limit pieces) text ++ more)) ≡ answer.TooLong
stays limit [] text more e t = cc (t)
stays limit (last ∷ []) text more e t = by_case (nat_lt limit (length last)) refl t
  where
    s : Single text last
    s = single text last e

    by_case : (x : Bool) → nat_lt limit (length last) ≡ x → cond x answer.TooLong answer.More ≡ answer.TooLong → next_of limit (pieces_of (text ++ more)) ≡ answer.TooLong
    by_case true long t =
        let g = grows text more s.none in
        let size : nat_lt limit (length text) ≡ true = subst (λ (l : List ℕ). nat_lt limit (length l) ≡ true) (sym s.is) long in
        ap (next_of limit) g.are ∙ next_of-too_long limit g.first g.others (longer_too limit (length text) (length g.first) size g.longer)
    by_case false short t = cc (t)
stays limit (piece ∷ q ∷ ps) text more e t = by_case (λ u f g. stays limit (q ∷ ps) u more f g) (nat_lt limit (length piece)) (is_line piece) refl refl
  where
    o : Opens text piece (q ∷ ps)
    o = opens text piece q ps e

    first_stays : pieces_of (text ++ more) ≡ piece ∷ pieces_of (o.rest ++ more)
    first_stays =
        ap (λ (l : List ℕ). pieces_of (l ++ more)) o.splits
        ∙ ap pieces_of (append_assoc piece (10 ∷ o.rest) more)
        ∙ pieces_of-at piece (o.rest ++ more) (All-from_recursion (λ b. is_newline b ≡ false) piece o.none)

    by_case : ((u : List ℕ) → pieces_of u ≡ q ∷ ps → next_of limit (q ∷ ps) ≡ answer.TooLong → next_of limit (pieces_of (drop (passed_of limit (q ∷ ps)) u ++ more)) ≡ answer.TooLong) → (x y : Bool) → nat_lt limit (length piece) ≡ x → is_line piece ≡ y → next_of limit (pieces_of (drop (passed_of limit (piece ∷ q ∷ ps)) text ++ more)) ≡ answer.TooLong
    by_case later true y long f =
        ap (λ (n : ℕ). next_of limit (pieces_of (drop n text ++ more))) (passed_of-too_long limit piece (q ∷ ps) long)
        ∙ ap (next_of limit) first_stays
        ∙ next_of-too_long limit piece (pieces_of (o.rest ++ more)) long
    by_case later false true short shown = let wrong : answer.Line piece ≡ answer.TooLong = sym (next_of-line limit piece q ps short shown) ∙ t in cc (wrong)
    by_case later false false short blank =
        ap (λ (l : List ℕ). next_of limit (pieces_of (l ++ more))) (left_blank limit text piece q ps o short blank)
        ∙ later o.rest o.are (sym (next_of-blank limit piece q ps short blank) ∙ t)

pub stays_long : StaysTooLong
stays_long unread more t = stays unread.limit (pieces_of unread.bytes) unread.bytes more refl t

-- over a run of turns
run_of : (turns : List Turn) (unread : Unread) (more : List ℕ) → given_in unread turns ++ lines_of ((left_after unread turns).bytes ++ more) ≡ lines_of (unread.bytes ++ (fed_in turns ++ more))
run_of [] unread more = refl
run_of (feed chunk ∷ turns) unread more =
    run_of turns (fed unread chunk) more
    ∙ ap lines_of (append_assoc unread.bytes chunk (fed_in turns ++ more))
    ∙ ap (λ (l : List ℕ). lines_of (unread.bytes ++ l)) (sym (append_assoc chunk (fed_in turns) more))
run_of (ask ∷ turns) unread more =
    append_assoc (given_by (answer_of unread)) (given_in (left_of unread) turns) (lines_of ((left_after (left_of unread) turns).bytes ++ more))
    ∙ ap (λ (l : List (List ℕ)). given_by (answer_of unread) ++ l) (run_of turns (left_of unread) more)
    ∙ sym (order unread (fed_in turns ++ more))

pub all_given : GivesAllLines
all_given limit turns =
    let unread : Unread = record { limit = limit; bytes = [] } in
    ap (λ (l : List ℕ). given_in unread turns ++ lines_of l) (sym (append-nil (left_after unread turns).bytes))
    ∙ run_of turns unread []
    ∙ ap lines_of (append-nil (fed_in turns))
