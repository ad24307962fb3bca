-- Blank pieces that were passed over change nothing of what comes next, whatever is read behind them.
use Rattle.std.proofs.Common.{◌≡◌, ℕ, suc, ◌+◌, ◌≤◌, List, [], ◌∷◌, ◌++◌, length, drop, Bool, true, false, cond, All, refl, sym, ap, subst, ◌∙◌, arith, append_assoc, append-nil, add-one}
use Rattle.std.specs.Prelude.{nat_lt}
use Rattle.std.specs.List.{onto_first, AllByRecursion}
use Rattle.std.proofs.lemmas.Bool.Decides.{nat_tests}
use Rattle.std.proofs.lemmas.List.Elements.{All-from_recursion}
use Rattle.text_lines.specs.Lines.{is_newline, is_line, pieces_of}
use Rattle.piecewise_lines.specs.Unread.{Unread}
use Rattle.piecewise_lines.specs.Next.{next_of, passed_of, torn_of, answer_of, torn_line, left_of, fed, IsTorn}
use Rattle.piecewise_lines.specs.declared.NextLine.{NextLine}
use Rattle.piecewise_lines.specs.declared.NextLine.TheVariants as answer
use Rattle.piecewise_lines.proofs.Pieces.{HasFirst, has_first, equal, next_of-too_long, next_of-line, next_of-blank, passed_of-blank, torn_of-blank, pieces_of-at}
use Rattle.line_streams.specs.Input.{GivesSame, IsSame}

-- the bytes are this piece, its newline and the rest, whose pieces are the others
record Opens (text piece : List ℕ) (others : List (List ℕ)) : Type 0 where
  rest : List ℕ
  none : AllByRecursion (λ b. is_newline b ≡ false) piece
  splits : text ≡ piece ++ 10 ∷ rest
  are : pieces_of rest ≡ others

opens : (text piece q : List ℕ) (ps : List (List ℕ)) → pieces_of text ≡ piece ∷ q ∷ ps → Opens text piece (q ∷ ps)
opens [] piece q ps e = cc
opens (b ∷ bs) piece q ps e = by_case (λ f r rs g. opens bs f r rs g) (is_newline b) refl e
  where
    more : ((f r : List ℕ) (rs : List (List ℕ)) → pieces_of bs ≡ f ∷ r ∷ rs → Opens bs f (r ∷ rs)) → HasFirst (pieces_of bs) → is_newline b ≡ false → onto_first b (pieces_of bs) ≡ piece ∷ q ∷ ps → Opens (b ∷ bs) piece (q ∷ ps)
    more later f no_newline e =
        let all : (b ∷ f.first) ∷ f.others ≡ piece ∷ q ∷ ps = ap (λ (l : List (List ℕ)). onto_first b l) (sym f.are) ∙ e in
        let is_piece : b ∷ f.first ≡ piece = cc (all) in
        let is_others : f.others ≡ q ∷ ps = cc (all) in
        let o = later f.first q ps (f.are ∙ ap (λ (l : List (List ℕ)). f.first ∷ l) is_others) in
        record {
          rest = o.rest;
          none = subst (λ (l : List ℕ). AllByRecursion (λ b. is_newline b ≡ false) l) is_piece (no_newline, o.none);
          splits = ap (λ (l : List ℕ). b ∷ l) o.splits ∙ ap (λ (l : List ℕ). l ++ 10 ∷ o.rest) is_piece;
          are = o.are;
        }

    by_case : ((f r : List ℕ) (rs : List (List ℕ)) → pieces_of bs ≡ f ∷ r ∷ rs → Opens bs f (r ∷ rs)) → (x : Bool) → is_newline b ≡ x → cond x ([] ∷ pieces_of bs) (onto_first b (pieces_of bs)) ≡ piece ∷ q ∷ ps → Opens (b ∷ bs) piece (q ∷ ps)
    by_case later true is e =
        let is_piece : [] ≡ piece = cc (e) in
        let is_others : pieces_of bs ≡ q ∷ ps = cc (e) in
        record {
          rest = bs;
          none = subst (λ (l : List ℕ). AllByRecursion (λ b. is_newline b ≡ false) l) is_piece tt;
          splits = ap (λ (n : ℕ). n ∷ bs) (equal b 10 is) ∙ ap (λ (l : List ℕ). l ++ 10 ∷ bs) is_piece;
          are = is_others;
        }
    by_case later false is e = more later (has_first bs) is e

drop_behind : (piece rest : List ℕ) (n : ℕ) → drop (length piece + 1 + n) (piece ++ 10 ∷ rest) ≡ drop n rest
drop_behind piece rest n = ap (λ (m : ℕ). drop m (piece ++ 10 ∷ rest)) (sum (length piece)) ∙ past piece
  where
    sum : (k : ℕ) → k + 1 + n ≡ suc (k + n)
    sum k = omega arith

    zero_sum : 0 + n ≡ n
    zero_sum = omega arith

    next_sum : (k : ℕ) → suc k + n ≡ suc (k + n)
    next_sum k = omega arith

    past : (piece : List ℕ) → drop (suc (length piece + n)) (piece ++ 10 ∷ rest) ≡ drop n rest
    past [] = ap (λ (m : ℕ). drop m rest) zero_sum
    past (b ∷ bs) = ap (λ (m : ℕ). drop (suc m) ((b ∷ bs) ++ 10 ∷ rest)) (next_sum (length bs)) ∙ past bs

-- what comes next of bytes, by the limit
abbrev bytes_as : ℕ → List ℕ → Unread
bytes_as limit bytes = record { limit = limit; bytes = bytes }

-- a blank piece in front, with its newline, is passed over
module _ (limit : ℕ) (piece rest : List ℕ) (none : All (λ b. is_newline b ≡ false) piece) (short : nat_lt limit (length piece) ≡ false) (blank : is_line piece ≡ false) where
  front_same : GivesSame (bytes_as limit rest) (bytes_as limit (piece ++ 10 ∷ rest))
  front_same = with_first (has_first rest)
    where
      are : pieces_of (piece ++ 10 ∷ rest) ≡ piece ∷ pieces_of rest
      are = pieces_of-at piece rest none

      with_first : HasFirst (pieces_of rest) → GivesSame (bytes_as limit rest) (bytes_as limit (piece ++ 10 ∷ rest))
      with_first f =
          let all : pieces_of (piece ++ 10 ∷ rest) ≡ piece ∷ f.first ∷ f.others = are ∙ ap (λ (l : List (List ℕ)). piece ∷ l) f.are in
          record {
            answer = ap (λ (l : List (List ℕ)). next_of limit l) f.are ∙ sym (ap (λ (l : List (List ℕ)). next_of limit l) all ∙ next_of-blank limit piece f.first f.others short blank);
            left = ap (λ (l : List ℕ). bytes_as limit l)
                (ap (λ (l : List (List ℕ)). drop (passed_of limit l) rest) f.are
                ∙ sym (ap (λ (l : List (List ℕ)). drop (passed_of limit l) (piece ++ 10 ∷ rest)) all
                ∙ (ap (λ (n : ℕ). drop n (piece ++ 10 ∷ rest)) (passed_of-blank limit piece f.first f.others short blank)
                ∙ drop_behind piece rest (passed_of limit (f.first ∷ f.others)))));
            torn = ap (λ (l : List (List ℕ)). torn_of limit l) f.are ∙ sym (ap (λ (l : List (List ℕ)). torn_of limit l) all ∙ torn_of-blank limit piece f.first f.others short blank);
          }

same_then : (one other third : Unread) → GivesSame one other → GivesSame other third → GivesSame one third
same_then one other third first second = record { answer = first.answer ∙ second.answer; left = first.left ∙ second.left; torn = first.torn ∙ second.torn }

same_refl : (one : Unread) → GivesSame one one
same_refl one = record { answer = refl; left = refl; torn = refl }

-- with more bytes behind them
abbrev SameBehind : ℕ → List ℕ → List (List ℕ) → Type 0
SameBehind limit text pieces = (more : List ℕ) → GivesSame (bytes_as limit (drop (passed_of limit pieces) text ++ more)) (bytes_as limit (text ++ more))

same_behind : (limit : ℕ) (pieces : List (List ℕ)) (text : List ℕ) → pieces_of text ≡ pieces → next_of limit pieces ≡ answer.More → SameBehind limit text pieces
same_behind limit [] text e m more = same_refl (bytes_as limit (text ++ more))
same_behind limit (last ∷ []) text e m more = same_refl (bytes_as limit (text ++ more))
same_behind limit (piece ∷ q ∷ ps) text e m further = by_case (λ t f n. same_behind limit (q ∷ ps) t f n) (nat_lt limit (length piece)) (is_line piece) refl refl further
  where
    o : Opens text piece (q ∷ ps)
    o = opens text piece q ps e

    left_is : nat_lt limit (length piece) ≡ false → is_line piece ≡ false → drop (passed_of limit (piece ∷ q ∷ ps)) text ≡ drop (passed_of limit (q ∷ ps)) o.rest
    left_is short blank = ap (λ (n : ℕ). drop n text) (passed_of-blank limit piece q ps short blank) ∙ (ap (λ (l : List ℕ). drop (length piece + 1 + passed_of limit (q ∷ ps)) l) o.splits ∙ drop_behind piece o.rest (passed_of limit (q ∷ ps)))

    text_is : (more : List ℕ) → piece ++ 10 ∷ (o.rest ++ more) ≡ text ++ more
    text_is more = sym (ap (λ (l : List ℕ). l ++ more) o.splits ∙ append_assoc piece (10 ∷ o.rest) more)

    by_case : ((t : List ℕ) → pieces_of t ≡ q ∷ ps → next_of limit (q ∷ ps) ≡ answer.More → SameBehind limit t (q ∷ ps)) → (x y : Bool) → nat_lt limit (length piece) ≡ x → is_line piece ≡ y → SameBehind limit text (piece ∷ q ∷ ps)
    by_case later true y long f = let wrong : answer.TooLong ≡ answer.More = sym (next_of-too_long limit piece (q ∷ ps) long) ∙ m in cc (wrong)
    by_case later false true short line = let wrong : answer.Line piece ≡ answer.More = sym (next_of-line limit piece q ps short line) ∙ m in cc (wrong)
    by_case later false false short blank = λ more.
        subst (λ (l : List ℕ). GivesSame (bytes_as limit (l ++ more)) (bytes_as limit (text ++ more))) (sym (left_is short blank))
        (subst (λ (l : List ℕ). GivesSame (bytes_as limit (drop (passed_of limit (q ∷ ps)) o.rest ++ more)) (bytes_as limit l)) (text_is more)
        (same_then _ _ _
        (later o.rest o.are (sym (next_of-blank limit piece q ps short blank) ∙ m) more)
        (front_same limit piece (o.rest ++ more) (All-from_recursion (λ b. is_newline b ≡ false) piece o.none) short blank)))

-- what is left, blank pieces passed over, gives the same
pub blank_same : (read : Unread) → answer_of read ≡ answer.More → IsSame (left_of read) read
blank_same read m more = same_behind read.limit (pieces_of read.bytes) read.bytes refl m more

pub same_self : (read : Unread) → IsSame read read
same_self read more = same_refl (fed read more)

pub same_both : (one other third : Unread) → IsSame one other → IsSame other third → IsSame one third
same_both one other third first second more = same_then _ _ _ (first more) (second more)

fed_twice : (read : Unread) (first second : List ℕ) → fed (fed read first) second ≡ fed read (first ++ second)
fed_twice read first second = ap (λ (l : List ℕ). bytes_as read.limit l) (append_assoc read.bytes first second)

fed_none : (read : Unread) → fed read [] ≡ read
fed_none read = ap (λ (l : List ℕ). bytes_as read.limit l) (append-nil read.bytes)

pub same_fed : (one other : Unread) (bytes : List ℕ) → IsSame one other → IsSame (fed one bytes) (fed other bytes)
same_fed one other bytes same more =
    subst (λ (u : Unread). GivesSame u (fed (fed other bytes) more)) (sym (fed_twice one bytes more))
    (subst (λ (u : Unread). GivesSame (fed one (bytes ++ more)) u) (sym (fed_twice other bytes more)) (same (bytes ++ more)))

pub same_now : (one other : Unread) → IsSame one other → GivesSame one other
same_now one other same =
    subst (λ (u : Unread). GivesSame u other) (fed_none one)
    (subst (λ (u : Unread). GivesSame (fed one []) u) (fed_none other) (same []))

pub fed_further : (unread : Unread) (held more : List ℕ) → fed (fed unread held) more ≡ fed unread (held ++ more)
fed_further unread held more = fed_twice unread held more

pub fed_nothing : (unread : Unread) → fed unread [] ≡ unread
fed_nothing unread = fed_none unread
