-- One row more was taken in.
use Rattle.std.proofs.Common.{◌≡◌, ◌⊎◌, inl, inr, ℕ, ◌+◌, List, [], ◌∷◌, ◌++◌, length, filter, Bool, true, false, cond, Option, None, Some, refl, sym, ◌∙◌, ap, subst, append_assoc}
use Rattle.std.specs.Prelude.{if◌then◌else◌, is_some, option_to_list, IfSome}
use Rattle.std.specs.Str.{bytes_eq}
use Rattle.std.proofs.lemmas.List.{append-nil}
use Rattle.outside.specs.declared.event.RawRow.{RawRow}
use Rattle.outside.specs.Winners.{put_winner, put_winners, winner_in}
use Rattle.outside.proofs.WinnerLaws.{put_at, by_bool, key_is, key_own}
use Rattle.dedup_merge.specs.Winners.{KeysRise, keys_of, is_key_in, rows_of_key, IsWinnerAmong, WinsAmong, has_key}
use Rattle.outside.specs.declared.table.Tables.{Tables}
use Rattle.outside.specs.Tables.{winner_of, winners_at}
use Rattle.dedup_merge.specs.Steps.{Exceeds, side_of_store, IsBest, TakesKeyed, TakesRow, TakesOver, or_else, IsSoFar, BestSoFar, KnowsKeys, reads_for}
use Rattle.dedup_merge.specs.Pages.{NowWins, TakesIn}
use Rattle.dedup_merge.proofs.AmongLemmas.{one_more, first_row}
use Rattle.dedup_merge.proofs.KeyLemmas.{of_key_more, keys_more, key_in_more, count_more, put_rises, read_all, found_key}

module _ (prior : Option RawRow) (row : RawRow) (old new : List RawRow) (takes : TakesRow prior row old new) where
  -- the better is read of the row's key, and of other keys what was read before
  pub reads : (key : List ℕ) → winner_in new key ≡ (if bytes_eq row.key key then Some takes.better else winner_in old key)
  reads key = by_case takes.now where
    by_case : (new ≡ put_winner old takes.better) ⊎ ((new ≡ old) × (winner_in old row.key ≡ Some takes.better)) → winner_in new key ≡ (if bytes_eq row.key key then Some takes.better else winner_in old key)
    by_case (inl put) = ap (λ (ws : List RawRow). winner_in ws key) put ∙ (put_at old takes.better key ∙ ap (λ (k : List ℕ). if bytes_eq k key then Some takes.better else winner_in old key) takes.own)
    by_case (inr kept) = ap (λ (ws : List RawRow). winner_in ws key) kept.0 ∙ by_bool (bytes_eq row.key key) (λ t. rw t (ap (winner_in old) (sym (key_is row.key key t)) ∙ kept.1)) (λ f. rw f refl)

  pub still_rises : KeysRise old → KeysRise new
  still_rises rise = by_case takes.now where
    by_case : (new ≡ put_winner old takes.better) ⊎ ((new ≡ old) × (winner_in old row.key ≡ Some takes.better)) → KeysRise new
    by_case (inl put) = subst (λ (ws : List RawRow). KeysRise ws) (sym put) (put_rises old takes.better rise)
    by_case (inr kept) = subst (λ (ws : List RawRow). KeysRise ws) (sym kept.0) rise

  pub still_knows : (rows : List RawRow) → KnowsKeys rows old → KnowsKeys (rows ++ row ∷ []) new
  still_knows rows knows key =
      ap (λ (keys : List (List ℕ)). is_key_in keys key) (keys_more rows row) ∙ (key_in_more (keys_of rows) row key
      ∙ by_bool (bytes_eq row.key key)
      (λ t. let now : winner_in new key ≡ Some takes.better = reads key ∙ rw t refl in rw (t, now) refl)
      (λ f. let now : winner_in new key ≡ winner_in old key = reads key ∙ rw f refl in rw (f, now) (knows key)))

  module _ (before rows : List RawRow) (prior_is : prior ≡ or_else (winner_in old row.key) (winner_in before row.key)) where
    -- the row's own key
    own_key : (mine : List RawRow) → IsSoFar (option_to_list (winner_in before row.key)) mine (winner_in old row.key) → IsSoFar (option_to_list (winner_in before row.key)) (mine ++ row ∷ []) (Some takes.better)
    own_key [] none =
        let first : prior ≡ winner_in before row.key = prior_is ∙ ap (λ (o : Option RawRow). or_else o (winner_in before row.key)) none in
        subst (λ (o : Option RawRow). IsWinnerAmong (option_to_list o ++ row ∷ []) takes.better) first (first_row prior row takes.better takes.best)
    own_key (mine ∷ others) wins = by_found (winner_in old row.key) refl wins where
      held : List RawRow
      held = option_to_list (winner_in before row.key)

      by_found : (found : Option RawRow) → winner_in old row.key ≡ found → WinsAmong (option_to_list (winner_in before row.key) ++ mine ∷ others) found → IsWinnerAmong (option_to_list (winner_in before row.key) ++ mine ∷ (others ++ row ∷ [])) takes.better
      by_found None e w = absurd (no_rows (option_to_list (winner_in before row.key)) w) where
        no_rows : (front : List RawRow) → front ++ mine ∷ others ≡ [] → ⊥
        no_rows [] q = cc
        no_rows (x ∷ xs) q = cc
      by_found (Some held_row) e w =
          let was : prior ≡ Some held_row = prior_is ∙ ap (λ (o : Option RawRow). or_else o (winner_in before row.key)) e in
          let best : IsBest (Some held_row) row takes.better = subst (λ (o : Option RawRow). IsBest o row takes.better) was takes.best in
          subst (λ (rs : List RawRow). IsWinnerAmong rs takes.better) (append_assoc (option_to_list (winner_in before row.key)) (mine ∷ others) (row ∷ [])) (one_more (option_to_list (winner_in before row.key) ++ mine ∷ others) held_row row w takes.better best)

    pub still_best : BestSoFar before rows old → BestSoFar before (rows ++ row ∷ []) new
    still_best so_far key = by_bool (bytes_eq row.key key) mine others where
      mine : bytes_eq row.key key ≡ true → IsSoFar (option_to_list (winner_in before key)) (rows_of_key key (rows ++ row ∷ [])) (winner_in new key)
      mine t =
          let same : row.key ≡ key = key_is row.key key t in
          let own : bytes_eq row.key row.key ≡ true = key_own row.key row.key refl in
          let more : rows_of_key row.key (rows ++ row ∷ []) ≡ rows_of_key row.key rows ++ row ∷ [] = of_key_more row.key rows row ∙ ap (λ (rs : List RawRow). rows_of_key row.key rows ++ rs) (rw own refl) in
          let found : winner_in new row.key ≡ Some takes.better = reads row.key ∙ rw own refl in
          let at : IsSoFar (option_to_list (winner_in before row.key)) (rows_of_key row.key (rows ++ row ∷ [])) (winner_in new row.key) = rw (more, found) (own_key (rows_of_key row.key rows) (so_far row.key)) in
          subst (λ (k : List ℕ). IsSoFar (option_to_list (winner_in before k)) (rows_of_key k (rows ++ row ∷ [])) (winner_in new k)) same at

      others : bytes_eq row.key key ≡ false → IsSoFar (option_to_list (winner_in before key)) (rows_of_key key (rows ++ row ∷ [])) (winner_in new key)
      others f =
          let more : rows_of_key key (rows ++ row ∷ []) ≡ rows_of_key key rows = of_key_more key rows row ∙ (ap (λ (rs : List RawRow). rows_of_key key rows ++ rs) (rw f refl) ∙ append-nil (rows_of_key key rows)) in
          let found : winner_in new key ≡ winner_in old key = reads key ∙ rw f refl in
          rw (more, found) (so_far key)

-- Where all rows were taken in

so_far_wins : (rows : List RawRow) (found : Option RawRow) → IsSoFar [] rows found → WinsAmong rows found
so_far_wins [] found e = subst (λ (o : Option RawRow). WinsAmong [] o) (sym e) refl
so_far_wins (row ∷ rows) found wins = wins

pub are_winners : (rows best : List RawRow) → KeysRise best → BestSoFar [] rows best → (key : List ℕ) → WinsAmong (rows_of_key key rows) (winner_in best key)
are_winners rows best rise so_far key = so_far_wins (rows_of_key key rows) (winner_in best key) (so_far key)

now_wins : (before : Option RawRow) (rows : List RawRow) (found now : Option RawRow) → now ≡ or_else found before → IsSoFar (option_to_list before) rows found → NowWins before rows now
now_wins before [] found now is none = is ∙ ap (λ (o : Option RawRow). or_else o before) none
now_wins before (row ∷ rows) found now is wins = by_found found is wins where
  by_found : (f : Option RawRow) → now ≡ or_else f before → WinsAmong (option_to_list before ++ row ∷ rows) f → WinsAmong (option_to_list before ++ row ∷ rows) now
  by_found None e w = absurd (no_rows (option_to_list before) w) where
    no_rows : (front : List RawRow) → front ++ row ∷ rows ≡ [] → ⊥
    no_rows [] q = cc
    no_rows (x ∷ xs) q = cc
  by_found (Some winner) e w = subst (λ (o : Option RawRow). WinsAmong (option_to_list before ++ row ∷ rows) o) (sym e) w

pub takes_in : (before rows best : List RawRow) → KeysRise best → BestSoFar before rows best → TakesIn rows before (put_winners before best)
takes_in before rows best rise so_far key = now_wins (winner_in before key) (rows_of_key key rows) (winner_in best key) (winner_in (put_winners before best) key) (read_all before best key rise) (so_far key)

-- how many winners were read
pub reads_counted : (rows : List RawRow) (row : RawRow) (best : List RawRow) → KnowsKeys rows best → length (keys_of rows) + reads_for (winner_in best row.key) ≡ length (keys_of (rows ++ row ∷ []))
reads_counted rows row best knows =
    let more : length (keys_of (rows ++ row ∷ [])) ≡ length (keys_of rows) + (if is_key_in (keys_of rows) row.key then 0 else 1) = ap length (keys_more rows row) ∙ count_more (keys_of rows) row in
    sym (more ∙ ap (λ (n : ℕ). length (keys_of rows) + n) (ap (λ (b : Bool). let n : ℕ = if b then 0 else 1 in n) (knows row.key) ∙ by_found (winner_in best row.key))) where
      by_found : (found : Option RawRow) → (if is_some found then 0 else 1) ≡ reads_for found
      by_found None = refl
      by_found (Some winner) = refl

-- the row does not exceed the held one, which stays
pub held_stays : (row held : RawRow) (answer : Bool) (old : List RawRow) → Exceeds row held answer → answer ≡ false → winner_in old row.key ≡ Some held → TakesOver row old old
held_stays row held answer old exceeds is_false found = record {
  held = held;
  is = found;
  takes = record { better = held; best = record { answer = answer; exceeds = exceeds; is = rw is_false refl }; own = found_key old row.key held found; now = inr (refl, found) };
}

pub held_goes_on : (row held : RawRow) (answer : Bool) (old new : List RawRow) → Exceeds row held answer → answer ≡ false → held.key ≡ row.key → new ≡ put_winner old held → TakesRow (Some held) row old new
held_goes_on row held answer old new exceeds is_false own put = record { better = held; best = record { answer = answer; exceeds = exceeds; is = rw is_false refl }; own = own; now = inl put }

-- a winner of another key is none of this one
pub other_key : (told : Option Tables) (stream : ℕ) (key : List ℕ) (winner : RawRow) → IfSome told (λ store. Some winner ≡ winner_of store stream key) → bytes_eq winner.key key ≡ false → IfSome (side_of_store stream told) (λ before. None ≡ winner_in before key)
other_key None stream key winner given differs = given
other_key (Some store) stream key winner given differs =
    let t : true ≡ false = sym (key_own winner.key key (found_key (winners_at store stream) key winner (sym given))) ∙ differs in
    cc

-- Rows that take part

pub keyed_none : (row : RawRow) (old new : List RawRow) → has_key row ≡ false → new ≡ old → TakesKeyed (has_key row) row old new
keyed_none row old new none same = rw none same

pub keyed_some : (row : RawRow) (old new : List RawRow) → has_key row ≡ true → TakesRow (winner_in old row.key) row old new → TakesKeyed (has_key row) row old new
keyed_some row old new some takes = rw some takes

part_more : (rows : List RawRow) (row : RawRow) → filter has_key (rows ++ row ∷ []) ≡ filter has_key rows ++ filter has_key (row ∷ [])
part_more [] row = refl
part_more (first ∷ rows) row = elim (has_key first) as (λ b. cond b (first ∷ filter has_key (rows ++ row ∷ [])) (filter has_key (rows ++ row ∷ [])) ≡ cond b (first ∷ filter has_key rows) (filter has_key rows) ++ filter has_key (row ∷ [])) [ true ↦ ap (λ (rs : List RawRow). first ∷ rs) (part_more rows row) | false ↦ part_more rows row ]

pub keyed_rises : (row : RawRow) (old new : List RawRow) → TakesKeyed (has_key row) row old new → KeysRise old → KeysRise new
keyed_rises row old new takes rise = by_case (has_key row) takes where
  by_case : (b : Bool) → TakesKeyed b row old new → KeysRise new
  by_case true t = still_rises (winner_in old row.key) row old new t rise
  by_case false same = subst (λ (ws : List RawRow). KeysRise ws) (sym same) rise

or_none : (found : Option RawRow) → found ≡ or_else found None
or_none None = refl
or_none (Some row) = refl

pub keyed_best : (rows : List RawRow) (row : RawRow) (old new : List RawRow) → TakesKeyed (has_key row) row old new → BestSoFar [] (filter has_key rows) old → BestSoFar [] (filter has_key (rows ++ row ∷ [])) new
keyed_best rows row old new takes so_far = by_bool (has_key row) some none where
  some : has_key row ≡ true → BestSoFar [] (filter has_key (rows ++ row ∷ [])) new
  some t =
      let more : filter has_key (rows ++ row ∷ []) ≡ filter has_key rows ++ row ∷ [] = part_more rows row ∙ ap (λ (rs : List RawRow). filter has_key rows ++ rs) (rw t refl) in
      let taken : TakesRow (winner_in old row.key) row old new = subst (λ (b : Bool). TakesKeyed b row old new) t takes in
      subst (λ (rs : List RawRow). BestSoFar [] rs new) (sym more) (still_best (winner_in old row.key) row old new taken [] (filter has_key rows) (or_none (winner_in old row.key)) so_far)

  none : has_key row ≡ false → BestSoFar [] (filter has_key (rows ++ row ∷ [])) new
  none f =
      let more : filter has_key (rows ++ row ∷ []) ≡ filter has_key rows = part_more rows row ∙ (ap (λ (rs : List RawRow). filter has_key rows ++ rs) (rw f refl) ∙ append-nil (filter has_key rows)) in
      let same : new ≡ old = subst (λ (b : Bool). TakesKeyed b row old new) f takes in
      subst (λ (rs : List RawRow). BestSoFar [] rs new) (sym more) (subst (λ (ws : List RawRow). BestSoFar [] (filter has_key rows) ws) (sym same) so_far)
