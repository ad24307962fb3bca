-- What is read of winners after one more was put.
use Rattle.std.proofs.Common.{◌≡◌, ℕ, suc, ◌+◌, ◌<◌, List, [], ◌∷◌, ◌++◌, length, get_or, drop, reverse, fold, arith, Bool, true, false, cond, Option, None, Some, refl, sym, ◌∙◌, ap, Ordering, Less, Equal, Greater, nat_cmp, is_eq}
use Rattle.std.specs.Prelude.{if◌then◌else◌}
use Rattle.std.proofs.Math.Seq.{drop-cons}
use Rattle.std.proofs.lemmas.List.{reverse-append}
use Rattle.std.specs.Str.{bytes_eq}
use Rattle.std.specs.Cmp.Lexicographic.{slice_cmp}
use Rattle.std.proofs.lemmas.Slice.Eq.{bytes_eq-Decides}
use Rattle.std.proofs.lemmas.Map.Text.{is_eq-slice_cmp}
use Rattle.outside.specs.declared.event.RawRow.{RawRow}
use Rattle.outside.specs.Winners.{put_winner, put_winners, winner_in, still_waiting}

pub keys_equal : (a b : List ℕ) → slice_cmp nat_cmp a b ≡ Equal → a ≡ b
keys_equal a b e = (bytes_eq-Decides a b).0 (sym (is_eq-slice_cmp a b) ∙ ap is_eq e)

pub keys_tie : (a b : List ℕ) → a ≡ b → slice_cmp nat_cmp a b ≡ Equal
keys_tie a b e = by_answer (slice_cmp nat_cmp a b) refl where
  by_answer : (o : Ordering) → slice_cmp nat_cmp a b ≡ o → o ≡ Equal
  by_answer Equal q = refl
  by_answer Less q = let t : false ≡ true = sym (ap is_eq q) ∙ (is_eq-slice_cmp a b ∙ (bytes_eq-Decides a b).1 e) in cc
  by_answer Greater q = let t : false ≡ true = sym (ap is_eq q) ∙ (is_eq-slice_cmp a b ∙ (bytes_eq-Decides a b).1 e) in cc

pub by_bool : {P : Type 0} (b : Bool) → (b ≡ true → P) → (b ≡ false → P) → P
by_bool true yes_ no_ = yes_ refl
by_bool false yes_ no_ = no_ refl

pub by_order : {P : Type 0} (o : Ordering) → (o ≡ Less → P) → (o ≡ Equal → P) → (o ≡ Greater → P) → P
by_order Less l e g = l refl
by_order Equal l e g = e refl
by_order Greater l e g = g refl

pub key_is : (a b : List ℕ) → bytes_eq a b ≡ true → a ≡ b
key_is a b t = (bytes_eq-Decides a b).0 t

pub key_own : (a b : List ℕ) → a ≡ b → bytes_eq a b ≡ true
key_own a b e = (bytes_eq-Decides a b).1 e

pub key_back : (a b : List ℕ) → bytes_eq a b ≡ bytes_eq b a
key_back a b = by_bool (bytes_eq a b) (λ t. t ∙ sym (key_own b a (sym (key_is a b t)))) (λ f. by_bool (bytes_eq b a) (λ t. let e : bytes_eq a b ≡ true = key_own a b (sym (key_is b a t)) in e ∙ sym t) (λ g. f ∙ sym g))

apart : (a b : List ℕ) → slice_cmp nat_cmp a b ≡ Greater → bytes_eq a b ≡ false
apart a b e = sym (is_eq-slice_cmp a b) ∙ ap is_eq e

-- the row that was put is read of its key, and of other keys what was read before
pub put_at : (winners : List RawRow) (row : RawRow) (key : List ℕ) → winner_in (put_winner winners row) key ≡ (if bytes_eq row.key key then Some row else winner_in winners key)
put_at [] row key = refl
put_at (winner ∷ winners) row key = by_order (slice_cmp nat_cmp row.key winner.key) (λ e. rw e refl) (λ e. rw e (equal (keys_equal row.key winner.key e))) (λ e. rw e (greater (apart row.key winner.key e) (put_at winners row key))) where
  equal : row.key ≡ winner.key → (if bytes_eq row.key key then Some row else winner_in winners key) ≡ (if bytes_eq row.key key then Some row else (if bytes_eq winner.key key then Some winner else winner_in winners key))
  equal same = by_bool (bytes_eq row.key key) (λ t. rw t refl) (λ f. let g : bytes_eq winner.key key ≡ false = ap (λ (k : List ℕ). bytes_eq k key) (sym same) ∙ f in rw (f, g) refl)

  greater : bytes_eq row.key winner.key ≡ false → winner_in (put_winner winners row) key ≡ (if bytes_eq row.key key then Some row else winner_in winners key) → (if bytes_eq winner.key key then Some winner else winner_in (put_winner winners row) key) ≡ (if bytes_eq row.key key then Some row else (if bytes_eq winner.key key then Some winner else winner_in winners key))
  greater differs rest = by_bool (bytes_eq winner.key key) (λ t. by_bool (bytes_eq row.key key) (λ u. let e : bytes_eq row.key winner.key ≡ true = key_own row.key winner.key (key_is row.key key u ∙ sym (key_is winner.key key t)) in cc) (λ f. rw (t, f) refl)) (λ f. rw f rest)

-- Rows that wait

pub waiting_next : (winners : List RawRow) (rows : List RawRow) (row : RawRow) → still_waiting winners (rows ++ row ∷ []) ≡ still_waiting (put_winner winners row) rows
waiting_next winners [] row = refl
waiting_next winners (first ∷ rows) row = ap (λ (ws : List RawRow). put_winner ws first) (waiting_next winners rows row)

pub all_waiting : (winners : List RawRow) (rows : List RawRow) → still_waiting winners (reverse rows) ≡ put_winners winners rows
all_waiting winners [] = refl
all_waiting winners (row ∷ rows) = ap (λ (rs : List RawRow). still_waiting winners rs) (reverse-append (row ∷ []) rows) ∙ (waiting_next winners (reverse rows) row ∙ all_waiting (put_winner winners row) rows)

pub waiting_at : (winners : List RawRow) (row : RawRow) (rows : List RawRow) (key : List ℕ) → winner_in (still_waiting winners (row ∷ rows)) key ≡ (if bytes_eq row.key key then Some row else winner_in (still_waiting winners rows) key)
waiting_at winners row rows key = put_at (still_waiting winners rows) row key

next_waiting : (rows : List RawRow) (i : ℕ) (row : RawRow) → i < length rows → row ≡ get_or rows i row → drop i rows ≡ row ∷ drop (i + 1) rows
next_waiting rows i row within is =
    let more : suc i ≡ i + 1 = omega arith in
    drop-cons rows i row within ∙ (ap (λ (r : RawRow). r ∷ drop (suc i) rows) (sym is) ∙ ap (λ (n : ℕ). row ∷ drop n rows) more)

read_waiting : (winners rows : List RawRow) (i : ℕ) (row : RawRow) (key : List ℕ) → i < length rows → row ≡ get_or rows i row → winner_in (still_waiting winners (drop i rows)) key ≡ (if bytes_eq row.key key then Some row else winner_in (still_waiting winners (drop (i + 1) rows)) key)
read_waiting winners rows i row key within is = ap (λ (rs : List RawRow). winner_in (still_waiting winners rs) key) (next_waiting rows i row within is) ∙ waiting_at winners row (drop (i + 1) rows) key

pub waiting_here : (winners rows : List RawRow) (i : ℕ) (row : RawRow) (key : List ℕ) → i < length rows → row ≡ get_or rows i row → bytes_eq row.key key ≡ true → winner_in (still_waiting winners (drop i rows)) key ≡ Some row
waiting_here winners rows i row key within is t = read_waiting winners rows i row key within is ∙ rw t refl

pub waiting_there : (winners rows : List RawRow) (i : ℕ) (row : RawRow) (key : List ℕ) → i < length rows → row ≡ get_or rows i row → bytes_eq row.key key ≡ false → winner_in (still_waiting winners (drop (i + 1) rows)) key ≡ winner_in (still_waiting winners (drop i rows)) key
waiting_there winners rows i row key within is f = sym (read_waiting winners rows i row key within is ∙ rw f refl)
