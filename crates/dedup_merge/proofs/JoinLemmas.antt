-- The winner among rows that follow others, and among the same rows in another order.
use Rattle.std.proofs.Common.{◌≡◌, List, [], ◌∷◌, ◌++◌, map, filter, Bool, true, false, cond, Less, Greater, Option, None, Some, refl, sym, ◌∙◌, ap, subst, append_assoc}
use Rattle.std.specs.Prelude.{◌≢◌}
use Rattle.std.specs.List.{AllByRecursion}
use Rattle.std.specs.Ordering.{ordering_reverse}
use Rattle.std.proofs.lemmas.List.{map-append, append-nil}
use Rattle.outside.specs.declared.event.RawRow.{RawRow}
use Rattle.outside.specs.Winners.{winner_in, put_winner, put_winners}
use Rattle.outside.proofs.ToldLaws.{all_both, all_map}
use Rattle.dedup_merge.specs.Winners.{Candidate, candidate_row, rank, HasCursor, IsLess, IsNotMore, IsWinnerAmong, WinsAmong, AreWinnersOf, KeysRise, rows_of_key, is_of_key, has_key}
use Rattle.dedup_merge.specs.Pages.{NowWins, TakesIn}
use Rattle.dedup_merge.proofs.RankLemmas.{rank_total, below_next, less_not_more, one_cursor}
use Rattle.dedup_merge.proofs.KeyLemmas.{put_rises}

all_at : (P : Candidate → Type 0) (xs : List Candidate) (x : Candidate) (ys : List Candidate) → AllByRecursion P (xs ++ x ∷ ys) → P x
all_at P [] x ys all = all.0
all_at P (y ∷ xs) x ys all = all_at P xs x ys all.1

-- a row has one candidate
pub one_candidate : (a b : Candidate) → a.row ≡ b.row → HasCursor a → HasCursor b → a ≡ b
one_candidate a b same first second =
    let moved : HasCursor (record a { row = b.row }) = subst (λ (r : RawRow). HasCursor (record a { row = r })) same first in
    ap (λ (r : RawRow). record a { row = r }) same ∙ ap (λ (v : _). record b { value = v }) (one_cursor b.row.cursor a.value b.value moved second)

-- what does not exceed one that is less, is less
less_through : (other held next : Candidate) → rank other held ≢ Greater → rank held next ≡ Less → rank other next ≡ Less
less_through other held next not_above less = below_next other held next not_above (rank_total.antisymm next held ∙ ap ordering_reverse less)

module _ (xs ys : List RawRow) (held now : RawRow) (among : IsWinnerAmong xs held) where
  own_cursor : HasCursor among.winner
  own_cursor = all_at HasCursor among.before among.winner among.behind among.cursors

  -- the rows before and those that follow
  whole : (more : List Candidate) → ys ≡ map candidate_row more → xs ++ ys ≡ map candidate_row among.before ++ among.winner.row ∷ map candidate_row (among.behind ++ more)
  whole more are =
      ap (λ (rs : List RawRow). rs ++ ys) among.rows_are ∙ (append_assoc (map candidate_row among.before) (among.winner.row ∷ map candidate_row among.behind) ys
      ∙ ap (λ (rs : List RawRow). map candidate_row among.before ++ among.winner.row ∷ rs) (ap (λ (rs : List RawRow). map candidate_row among.behind ++ rs) are ∙ sym (map-append candidate_row among.behind more)))

  joined : (before : List Candidate) (winner : Candidate) (behind : List Candidate) → winner.row ≡ now → held ∷ ys ≡ map candidate_row before ++ winner.row ∷ map candidate_row behind
      → AllByRecursion HasCursor (before ++ winner ∷ behind) → AllByRecursion (IsLess winner) before → AllByRecursion (IsNotMore winner) behind → IsWinnerAmong (xs ++ ys) now
  joined [] winner behind is rows_are cursors first unexceeded =
      let own : held ≡ winner.row = cc in
      let rest : ys ≡ map candidate_row behind = cc in
      let same : winner ≡ among.winner = one_candidate winner among.winner (sym own ∙ sym among.is) cursors.0 own_cursor in
      record {
        before = among.before;
        winner = among.winner;
        behind = among.behind ++ behind;
        is = among.is ∙ (own ∙ is);
        rows_are = whole behind rest;
        cursors = subst (λ (cs : List Candidate). AllByRecursion HasCursor cs) (append_assoc among.before (among.winner ∷ among.behind) behind) (all_both HasCursor (among.before ++ among.winner ∷ among.behind) behind among.cursors cursors.1);
        first = among.first;
        unexceeded = all_both (IsNotMore among.winner) among.behind behind among.unexceeded (subst (λ (w : Candidate). AllByRecursion (IsNotMore w) behind) same unexceeded);
      }
  joined (c ∷ before) winner behind is rows_are cursors first unexceeded =
      let own : held ≡ c.row = cc in
      let rest : ys ≡ map candidate_row before ++ winner.row ∷ map candidate_row behind = cc in
      let same : c ≡ among.winner = one_candidate c among.winner (sym own ∙ sym among.is) cursors.0 own_cursor in
      let less : rank among.winner winner ≡ Less = subst (λ (x : Candidate). rank x winner ≡ Less) same first.0 in
      let all = among.before ++ among.winner ∷ among.behind in
      let split : ys ≡ map candidate_row (before ++ winner ∷ behind) = rest ∙ sym (map-append candidate_row before (winner ∷ behind)) in
      record {
        before = all ++ before;
        winner = winner;
        behind = behind;
        is = is;
        rows_are = ap (λ (rs : List RawRow). rs ++ ys) (among.rows_are ∙ sym (map-append candidate_row among.before (among.winner ∷ among.behind))) ∙ (ap (λ (rs : List RawRow). map candidate_row all ++ rs) rest
            ∙ (sym (append_assoc (map candidate_row all) (map candidate_row before) (winner.row ∷ map candidate_row behind)) ∙ ap (λ (rs : List RawRow). rs ++ winner.row ∷ map candidate_row behind) (sym (map-append candidate_row all before))));
        cursors = subst (λ (cs : List Candidate). AllByRecursion HasCursor cs) (sym (append_assoc all before (winner ∷ behind))) (all_both HasCursor all (before ++ winner ∷ behind) among.cursors cursors.1);
        first = all_both (IsLess winner) all before
            (all_both (IsLess winner) among.before (among.winner ∷ among.behind)
            (all_map (IsLess among.winner) (IsLess winner) among.before (λ x l. less_through x among.winner winner (less_not_more (rank x among.winner) l) less) among.first)
            (less, all_map (IsNotMore among.winner) (IsLess winner) among.behind (λ x n. less_through x among.winner winner n less) among.unexceeded))
            first.1;
        unexceeded = unexceeded;
      }

  pub join : IsWinnerAmong (held ∷ ys) now → IsWinnerAmong (xs ++ ys) now
  join second = joined second.before second.winner second.behind second.is second.rows_are second.cursors second.first second.unexceeded

-- the winner among rows, and then among these and others
pub wins_on : (xs ys : List RawRow) (held now : Option RawRow) → WinsAmong xs held → NowWins held ys now → WinsAmong (xs ++ ys) now
wins_on xs [] held now wins same = subst (λ (rs : List RawRow). WinsAmong rs now) (sym (append-nil xs)) (subst (λ (o : Option RawRow). WinsAmong xs o) (sym same) wins)
wins_on xs (y ∷ ys) None now none wins = subst (λ (rs : List RawRow). WinsAmong (rs ++ y ∷ ys) now) (sym none) wins
wins_on xs (y ∷ ys) (Some held) None wins none = absurd (cc)
wins_on xs (y ∷ ys) (Some held) (Some now) wins more = join xs (y ∷ ys) held now wins more

-- Winners of rows that follow others

pub filter_both : (test : RawRow → Bool) (xs ys : List RawRow) → filter test (xs ++ ys) ≡ filter test xs ++ filter test ys
filter_both test [] ys = refl
filter_both test (x ∷ xs) ys = elim (test x) as (λ b. cond b (x ∷ filter test (xs ++ ys)) (filter test (xs ++ ys)) ≡ cond b (x ∷ filter test xs) (filter test xs) ++ filter test ys) [ true ↦ ap (λ (zs : List RawRow). x ∷ zs) (filter_both test xs ys) | false ↦ filter_both test xs ys ]

all_rise : (before written : List RawRow) → KeysRise before → KeysRise (put_winners before written)
all_rise before [] rise = rise
all_rise before (row ∷ written) rise = all_rise (put_winner before row) written (put_rises before row rise)

pub winners_on : (merged page before written : List RawRow) → filter has_key page ≡ page → AreWinnersOf merged before → TakesIn page before (put_winners before written) → AreWinnersOf (merged ++ page) (put_winners before written)
winners_on merged page before written keyed are takes = record {
  rise = all_rise before written are.rise;
  each = λ key.
      (let parts : rows_of_key key (filter has_key (merged ++ page)) ≡ rows_of_key key (filter has_key merged) ++ rows_of_key key page = ap (rows_of_key key) (filter_both has_key merged page ∙ ap (λ (rs : List RawRow). filter has_key merged ++ rs) keyed) ∙ filter_both (is_of_key key) (filter has_key merged) page in
      subst (λ (rs : List RawRow). WinsAmong rs (winner_in (put_winners before written) key)) (sym parts) (wins_on (rows_of_key key (filter has_key merged)) (rows_of_key key page) (winner_in before key) (winner_in (put_winners before written) key) (are.each key) (takes key)));
}
