-- The winner among rows, with one row more.
use Rattle.std.proofs.Common.{◌≡◌, List, [], ◌∷◌, ◌++◌, map, Bool, true, false, Ordering, Less, Equal, Greater, Option, None, Some, refl, sym, ◌∙◌, ap, subst, append_assoc}
use Rattle.std.specs.Prelude.{◌≢◌, if◌then◌else◌, option_to_list}
use Rattle.std.specs.Ordering.{is_gt}
use Rattle.std.specs.List.{AllByRecursion}
use Rattle.std.proofs.lemmas.List.{map-append}
use Rattle.outside.specs.declared.event.RawRow.{RawRow}
use Rattle.outside.proofs.ToldLaws.{all_both, all_map}
use Rattle.value_order.specs.declared.value.Value.{Value}
use Rattle.dedup_merge.specs.Winners.{Candidate, candidate_row, rank, HasCursor, IsLess, IsNotMore, IsWinnerAmong}
use Rattle.dedup_merge.specs.Steps.{candidate_of, Exceeds, IsBetter, IsBest}
use Rattle.dedup_merge.proofs.RankLemmas.{below_next, held_below, less_not_more, one_cursor}

all_at : (P : Candidate → Type 0) (xs : List Candidate) (x : Candidate) (ys : List Candidate) → AllByRecursion P (xs ++ x ∷ ys) → P x
all_at P [] x ys all = all.0
all_at P (y ∷ xs) x ys all = all_at P xs x ys all.1

gt_is : (o : Ordering) → is_gt o ≡ true → o ≡ Greater
gt_is Less e = cc
gt_is Equal e = cc
gt_is Greater e = refl

not_gt : (o : Ordering) → is_gt o ≡ false → o ≢ Greater
not_gt o e g = let t : false ≡ true = sym e ∙ ap is_gt g in cc

same_candidate : (a : Candidate) (row : RawRow) (value : Value) → a.row ≡ row → a.value ≡ value → a ≡ candidate_of row value
same_candidate a row value r v = ap (λ (x : RawRow). record a { row = x }) r ∙ ap (λ (x : Value). candidate_of row x) v

-- a row alone wins
pub alone : (row : RawRow) (value : Value) → HasCursor (candidate_of row value) → IsWinnerAmong (row ∷ []) row
alone row value cursor = record { before = []; winner = candidate_of row value; behind = []; is = refl; rows_are = refl; cursors = (cursor, tt); first = tt; unexceeded = tt }

module _ (rows : List RawRow) (held row : RawRow) (among : IsWinnerAmong rows held) where
  -- the winner has the value that was read
  held_is : (value : Value) → HasCursor (candidate_of held value) → among.winner ≡ candidate_of held value
  held_is value cursor =
      let own : HasCursor among.winner = all_at HasCursor among.before among.winner among.behind among.cursors in
      let moved : HasCursor (candidate_of held among.winner.value) = subst (λ (r : RawRow). HasCursor (candidate_of r among.winner.value)) among.is own in
      same_candidate among.winner held value among.is (one_cursor held.cursor among.winner.value value moved cursor)

  rows_more : rows ++ row ∷ [] ≡ (map candidate_row among.before ++ among.winner.row ∷ map candidate_row among.behind) ++ row ∷ []
  rows_more = ap (λ (rs : List RawRow). rs ++ row ∷ []) among.rows_are

  goes_on : (value : Value) → HasCursor (candidate_of row value) → rank (candidate_of row value) among.winner ≢ Greater → IsWinnerAmong (rows ++ row ∷ []) held
  goes_on value cursor not_more = record {
    before = among.before;
    winner = among.winner;
    behind = among.behind ++ candidate_of row value ∷ [];
    is = among.is;
    rows_are = rows_more ∙ (append_assoc (map candidate_row among.before) (among.winner.row ∷ map candidate_row among.behind) (row ∷ []) ∙ ap (λ (rs : List RawRow). map candidate_row among.before ++ among.winner.row ∷ rs) (sym (map-append candidate_row among.behind (candidate_of row value ∷ []))));
    cursors = subst (λ (cs : List Candidate). AllByRecursion HasCursor cs) (append_assoc among.before (among.winner ∷ among.behind) (candidate_of row value ∷ [])) (all_both HasCursor (among.before ++ among.winner ∷ among.behind) (candidate_of row value ∷ []) among.cursors (cursor, tt));
    first = among.first;
    unexceeded = all_both (IsNotMore among.winner) among.behind (candidate_of row value ∷ []) among.unexceeded (not_more, tt);
  }

  takes_over : (value : Value) → HasCursor (candidate_of row value) → rank (candidate_of row value) among.winner ≡ Greater → IsWinnerAmong (rows ++ row ∷ []) row
  takes_over value cursor more =
      let next = candidate_of row value in
      record {
        before = among.before ++ among.winner ∷ among.behind;
        winner = next;
        behind = [];
        is = refl;
        rows_are = rows_more ∙ ap (λ (rs : List RawRow). rs ++ row ∷ []) (sym (map-append candidate_row among.before (among.winner ∷ among.behind)));
        cursors = all_both HasCursor (among.before ++ among.winner ∷ among.behind) (next ∷ []) among.cursors (cursor, tt);
        first = all_both (IsLess next) among.before (among.winner ∷ among.behind)
            (all_map (IsLess among.winner) (IsLess next) among.before (λ c less. below_next c among.winner next (less_not_more (rank c among.winner) less) more) among.first)
            (held_below among.winner next more, all_map (IsNotMore among.winner) (IsLess next) among.behind (λ c not_more. below_next c among.winner next not_more more) among.unexceeded);
        unexceeded = tt;
      }

  by_answer : (better : RawRow) (answer : Bool) → Exceeds row held answer → better ≡ (if answer then row else held) → IsWinnerAmong (rows ++ row ∷ []) better
  by_answer better true e is =
      let own = held_is e.held_value e.held_cursor in
      let more : rank (candidate_of row e.value) among.winner ≡ Greater = ap (λ (c : Candidate). rank (candidate_of row e.value) c) own ∙ gt_is (rank (candidate_of row e.value) (candidate_of held e.held_value)) (sym e.is) in
      subst (λ (r : RawRow). IsWinnerAmong (rows ++ row ∷ []) r) (sym is) (takes_over e.value e.cursor more)
  by_answer better false e is =
      let own = held_is e.held_value e.held_cursor in
      let not_more : rank (candidate_of row e.value) among.winner ≢ Greater = λ g. not_gt (rank (candidate_of row e.value) (candidate_of held e.held_value)) (sym e.is) (ap (λ (c : Candidate). rank (candidate_of row e.value) c) (sym own) ∙ g) in
      subst (λ (r : RawRow). IsWinnerAmong (rows ++ row ∷ []) r) (sym is) (goes_on e.value e.cursor not_more)

  -- the winner goes on, or the row that exceeds it takes over
  pub one_more : (better : RawRow) → IsBetter held row better → IsWinnerAmong (rows ++ row ∷ []) better
  one_more better step = by_answer better step.answer step.exceeds step.is

-- the first row of a key, after the winner before
pub first_row : (prior : Option RawRow) (row better : RawRow) → IsBest prior row better → IsWinnerAmong (option_to_list prior ++ row ∷ []) better
first_row None row better best = subst (λ (r : RawRow). IsWinnerAmong (row ∷ []) r) (sym best.is) (alone row best.has.value best.has.cursor)
first_row (Some held) row better best = one_more (held ∷ []) held row (alone held best.exceeds.held_value best.exceeds.held_cursor) better best
