-- Keys of rows and of winners.
use Rattle.std.proofs.Common.{◌≡◌, ℕ, ◌+◌, ◌≤◌, List, [], ◌∷◌, ◌++◌, length, fold, Bool, true, false, cond, None, Some, Less, Greater, nat_cmp, refl, sym, ◌∙◌, ap, subst, arith}
use Rattle.std.specs.Prelude.{if◌then◌else◌, ◌||◌}
use Rattle.std.specs.Str.{bytes_eq}
use Rattle.std.specs.List.{AllByRecursion}
use Rattle.std.specs.Ordering.{ordering_reverse}
use Rattle.std.specs.Cmp.Lexicographic.{slice_cmp, nat_list_cmp_total}
use Rattle.std.proofs.lemmas.List.Sums.{fold-append}
use Rattle.std.proofs.lemmas.List.{length-append}
use Rattle.outside.specs.declared.event.RawRow.{RawRow}
use Rattle.outside.specs.Winners.{put_winner, put_winners, winner_in}
use Rattle.outside.proofs.WinnerLaws.{put_at, by_bool, by_order, key_is, key_back, keys_equal}
use Rattle.outside.proofs.ToldLaws.{all_map}
use Rattle.dedup_merge.specs.Winners.{KeysRise, IsKeyBelow, keys_of, with_key, is_key_in, rows_of_key, is_of_key}
use Rattle.dedup_merge.specs.Steps.{or_else}

-- Rows of a key

pub of_key_more : (key : List ℕ) (rows : List RawRow) (row : RawRow) → rows_of_key key (rows ++ row ∷ []) ≡ rows_of_key key rows ++ rows_of_key key (row ∷ [])
of_key_more key [] row = refl
of_key_more key (first ∷ rows) row = elim (is_of_key key first) as (λ b. cond b (first ∷ rows_of_key key (rows ++ row ∷ [])) (rows_of_key key (rows ++ row ∷ [])) ≡ cond b (first ∷ rows_of_key key rows) (rows_of_key key rows) ++ rows_of_key key (row ∷ [])) [ true ↦ ap (λ (rs : List RawRow). first ∷ rs) (of_key_more key rows row) | false ↦ of_key_more key rows row ]

-- Keys, each once

any_more : (key : List ℕ) (keys : List (List ℕ)) (last : List ℕ) → is_key_in (keys ++ last ∷ []) key ≡ (is_key_in keys key || bytes_eq key last)
any_more key [] last = elim (bytes_eq key last) as (λ b. (b || false) ≡ (false || b)) [ true ↦ refl | false ↦ refl ]
any_more key (first ∷ keys) last = elim (bytes_eq key first) as (λ b. (b || is_key_in (keys ++ last ∷ []) key) ≡ ((b || is_key_in keys key) || bytes_eq key last)) [ true ↦ refl | false ↦ any_more key keys last ]

pub keys_more : (rows : List RawRow) (row : RawRow) → keys_of (rows ++ row ∷ []) ≡ with_key (keys_of rows) row
keys_more rows row = fold-append with_key [] rows (row ∷ [])

or_true : (a : Bool) → (a || true) ≡ true
or_true true = refl
or_true false = refl

or_false : (a : Bool) → (a || false) ≡ a
or_false true = refl
or_false false = refl

-- a key is among those of the rows with one more, where it is the row's or was among them
pub key_in_more : (keys : List (List ℕ)) (row : RawRow) (key : List ℕ) → is_key_in (with_key keys row) key ≡ (if bytes_eq row.key key then true else is_key_in keys key)
key_in_more keys row key = by_bool (is_key_in keys row.key) there absent where
  there : is_key_in keys row.key ≡ true → is_key_in (with_key keys row) key ≡ (if bytes_eq row.key key then true else is_key_in keys key)
  there t = rw t (by_bool (bytes_eq row.key key) (λ e. rw e (ap (is_key_in keys) (sym (key_is row.key key e)) ∙ t)) (λ f. rw f refl))

  absent : is_key_in keys row.key ≡ false → is_key_in (with_key keys row) key ≡ (if bytes_eq row.key key then true else is_key_in keys key)
  absent f = rw f (any_more key keys row.key ∙ by_bool (bytes_eq row.key key) (λ e. let back : bytes_eq key row.key ≡ true = key_back key row.key ∙ e in rw (e, back) (or_true (is_key_in keys key))) (λ g. let back : bytes_eq key row.key ≡ false = key_back key row.key ∙ g in rw (g, back) (or_false (is_key_in keys key))))

-- one more row has at most one more key, and none where its key was among them
pub count_more : (keys : List (List ℕ)) (row : RawRow) → length (with_key keys row) ≡ length keys + (if is_key_in keys row.key then 0 else 1)
count_more keys row = by_bool (is_key_in keys row.key) (λ t. rw t (omega arith)) (λ f. rw f (length-append keys (row.key ∷ [])))

count_grows : (keys : List (List ℕ)) (row : RawRow) → (length keys ≤ length (with_key keys row)) × (length (with_key keys row) ≤ length keys + 1)
count_grows keys row = let more = count_more keys row in by_bool (is_key_in keys row.key)
    (λ t. let e : length (with_key keys row) ≡ length keys + 0 = more ∙ rw t refl in (omega arith, omega arith))
    (λ f. let e : length (with_key keys row) ≡ length keys + 1 = more ∙ rw f refl in (omega arith, omega arith))

count_from : (keys : List (List ℕ)) (rows : List RawRow) → (length keys ≤ length (fold with_key keys rows)) × (length (fold with_key keys rows) ≤ length keys + length rows)
count_from keys [] = (omega arith, omega arith)
count_from keys (row ∷ rows) =
    let first = count_grows keys row in
    let rest = count_from (with_key keys row) rows in
    let a = first.0 in let b = first.1 in let c = rest.0 in let d = rest.1 in
    (omega arith, omega arith)

pub count_capped : (rows : List RawRow) → length (keys_of rows) ≤ length rows
count_capped rows = let all = (count_from [] rows).1 in omega arith

pub count_of_front : (front rest : List RawRow) → length (keys_of front) ≤ length (keys_of (front ++ rest))
count_of_front front rest =
    let both : keys_of (front ++ rest) ≡ fold with_key (keys_of front) rest = fold-append with_key [] front rest in
    let grows = (count_from (keys_of front) rest).0 in
    subst (λ (keys : List (List ℕ)). length (keys_of front) ≤ length keys) (sym both) grows

-- Winners whose keys rise

below_trans : (a b c : RawRow) → IsKeyBelow a b → IsKeyBelow b c → IsKeyBelow a c
below_trans a b c p q = nat_list_cmp_total.trans a.key b.key c.key p q

put_below : (low : RawRow) (winners : List RawRow) (row : RawRow) → IsKeyBelow low row → AllByRecursion (IsKeyBelow low) winners → AllByRecursion (IsKeyBelow low) (put_winner winners row)
put_below low [] row below all = (below, tt)
put_below low (winner ∷ winners) row below all = by_order (slice_cmp nat_cmp row.key winner.key) (λ e. rw e (below, all)) (λ e. rw e (below, all.1)) (λ e. rw e (all.0, put_below low winners row below all.1))

pub put_rises : (winners : List RawRow) (row : RawRow) → KeysRise winners → KeysRise (put_winner winners row)
put_rises [] row rise = (tt, tt)
put_rises (winner ∷ winners) row rise = by_order (slice_cmp nat_cmp row.key winner.key)
    (λ e. rw e ((e, all_map (IsKeyBelow winner) (IsKeyBelow row) winners (λ other below. below_trans row winner other e below) rise.0), rise))
    (λ e. rw e (all_map (IsKeyBelow winner) (IsKeyBelow row) winners (λ other below. subst (λ (k : List ℕ). slice_cmp nat_cmp k other.key ≡ Less) (sym (keys_equal row.key winner.key e)) below) rise.0, rise.1))
    (λ e. rw e (put_below winner winners row (nat_list_cmp_total.antisymm winner.key row.key ∙ ap ordering_reverse e) rise.0, put_rises winners row rise.1))

none_above : (key : List ℕ) (winners : List RawRow) → AllByRecursion (λ other. slice_cmp nat_cmp key other.key ≡ Less) winners → winner_in winners key ≡ None
none_above key [] all = refl
none_above key (winner ∷ winners) all = by_bool (bytes_eq winner.key key) (λ t. absurd (same winner.key (key_is winner.key key t) all.0)) (λ f. rw f (none_above key winners all.1)) where
  same : (k : List ℕ) → k ≡ key → slice_cmp nat_cmp key k ≡ Less → ⊥
  same k e less =
      let own : slice_cmp nat_cmp key key ≡ Less = subst (λ (x : List ℕ). slice_cmp nat_cmp key x ≡ Less) e less in
      let turned : slice_cmp nat_cmp key key ≡ Greater = nat_list_cmp_total.antisymm key key ∙ ap ordering_reverse own in
      let t : Less ≡ Greater = sym own ∙ turned in
      cc

-- what is read after several were put
pub read_all : (before written : List RawRow) (key : List ℕ) → KeysRise written → winner_in (put_winners before written) key ≡ or_else (winner_in written key) (winner_in before key)
read_all before [] key rise = refl
read_all before (row ∷ written) key rise =
    read_all (put_winner before row) written key rise.1 ∙ (ap (or_else (winner_in written key)) (put_at before row key)
    ∙ by_bool (bytes_eq row.key key)
    (λ t. let none : winner_in written key ≡ None = none_above key written (subst (λ (k : List ℕ). AllByRecursion (λ other. slice_cmp nat_cmp k other.key ≡ Less) written) (key_is row.key key t) rise.0) in rw (t, none) refl)
    (λ f. rw f refl))

pub found_key : (winners : List RawRow) (key : List ℕ) (winner : RawRow) → winner_in winners key ≡ Some winner → winner.key ≡ key
found_key [] key winner e = cc
found_key (first ∷ winners) key winner e = by_bool (bytes_eq first.key key)
    (λ t. let read : winner_in (first ∷ winners) key ≡ Some first = rw t refl in let same : first ≡ winner = some_is (sym read ∙ e) in ap (λ (r : RawRow). r.key) (sym same) ∙ key_is first.key key t)
    (λ f. let read : winner_in (first ∷ winners) key ≡ winner_in winners key = rw f refl in found_key winners key winner (sym read ∙ e)) where
      some_is : {x y : RawRow} → Some x ≡ Some y → x ≡ y
      some_is q = cc
