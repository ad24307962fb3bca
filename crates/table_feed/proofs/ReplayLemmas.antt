-- The rows behind a start are the rest of one list, and each state says its place in it.
use Rattle.std.proofs.Common.{◌≡◌, ◌≢◌, ◌∙◌, ◌⊎◌, inl, inr, ℕ, ◌+◌, ◌<◌, List, [], ◌∷◌, ◌++◌, length, map, filter, drop, not, Bool, true, false, cond, Option, None, Some, refl, sym, ap, subst, arith, append_assoc}
use Rattle.std.specs.List.{AllByRecursion, AllZip, IsDistinct}
use Rattle.std.specs.List.Sorted.{IsPermutation, IsSorted}
use Rattle.std.specs.Cmp.{IsTotalOrder}
use Rattle.std.specs.Cmp.Lexicographic.{lists_total}
use Rattle.std.specs.Ordering.{eq_by_cmp, is_eq, is_gt, is_ne, nat_cmp, ordering_reverse, ordering_then}
use Rattle.std.specs.declared.cmp.Ordering.{Ordering}
use Rattle.std.specs.declared.cmp.Ordering.TheVariants.{Less, Equal, Greater}
use Rattle.std.proofs.lemmas.Cmp.{alike_right, tied_itself}
use Rattle.std.proofs.lemmas.List.{drop_at, length-append, length-map, map-append}
use Rattle.std.proofs.lemmas.List.Elements.{filter-append}
use Rattle.std.proofs.lemmas.Map.Keys.{IsDistinct-IsPermutation}
use Rattle.outside.specs.Rows.{AreRising}
use Rattle.outside.specs.declared.line.NumberedRow.{NumberedRow}
use Rattle.value_order.specs.declared.value.Value.{Value}
use Rattle.source_lines.specs.Checkpoints.{Row, closes_last, rows_in}
use Rattle.source_lines.specs.Streams.{blob_behind}
use Rattle.source_lines.proofs.CutLemmas.{cuts_alike}
use Rattle.table_source.specs.Keyed.{IsKeyed, row_order, values_of, values_order}
use Rattle.table_source.specs.Blob.{blob_of}
use Rattle.table_source.specs.Table.{closes_before, is_behind, rows_of}
use Rattle.table_source.specs.Total.{rows_total, values_total}
use Rattle.table_source.specs.declared.keyed.KeyedRow.{KeyedRow}
use Rattle.table_source.specs.declared.keying.Keying.{Keying}
use Rattle.table_feed.specs.Laws.{IsInOrder, IsPlaceOfBlob, TablesReplay, place_of}
use Rattle.table_feed.specs.Start.{IsPlaceBlob, StartsBehind, first_blob}
use Rattle.table_feed.proofs.BlobLemmas.{empty_blob, read_back}
use Rattle.table_feed.proofs.SortLemmas.{Has, Strict, all_passed, before_middle, behind_middle, distinct_kept, has_all, has_back, has_kept, has_moved, kept_has, none_passed, same_lists, splits, strict, strict_kept}

places_total : IsTotalOrder values_order
places_total = lists_total values_total

-- ---- the ids of rows rise, so no two of them tie

ids_above : (keying : Keying) (rows : List NumberedRow) (keyed : List KeyedRow) (before : ℕ) → AreRising rows before → AllZip (IsKeyed keying) rows keyed → AllByRecursion (λ (row : KeyedRow). before < row.id) keyed
ids_above keying [] [] before rising are = tt
ids_above keying [] (k ∷ keyed) before rising are = absurd are
ids_above keying (row ∷ rows) [] before rising are = absurd are
ids_above keying (row ∷ rows) (k ∷ keyed) before rising are =
    let here = are.0.id in
    let above = rising.above in
    (omega (arith, here, above), higher before row.id above keyed (ids_above keying rows keyed row.id rising.others are.1))
  where
    higher : (low high : ℕ) → low < high → (ks : List KeyedRow) → AllByRecursion (λ (r : KeyedRow). high < r.id) ks → AllByRecursion (λ (r : KeyedRow). low < r.id) ks
    higher low high less [] all = tt
    higher low high less (r ∷ ks) all = let here = all.0 in (omega (arith, less, here), higher low high less ks all.1)

less_is : (m n : ℕ) → m < n → nat_cmp m n ≡ Less
less_is m n less = grind arith

then_apart : (first : Ordering) (second : Ordering) → second ≡ Less → is_eq (ordering_then first second) ≡ false
then_apart Less second less = refl
then_apart Equal second less = ap is_eq less
then_apart Greater second less = refl

untied : (keying : Keying) (rows : List NumberedRow) (keyed : List KeyedRow) (before : ℕ) → AreRising rows before → AllZip (IsKeyed keying) rows keyed → IsDistinct (eq_by_cmp row_order) keyed
unfolding IsDistinct
untied keying [] [] before rising are = tt
untied keying [] (k ∷ keyed) before rising are = absurd are
untied keying (row ∷ rows) [] before rising are = absurd are
untied keying (row ∷ rows) (k ∷ keyed) before rising are =
    (apart keyed (ids_above keying rows keyed row.id rising.others are.1), untied keying rows keyed row.id rising.others are.1)
  where
    apart : (ks : List KeyedRow) → AllByRecursion (λ (r : KeyedRow). row.id < r.id) ks → AllByRecursion (λ (r : KeyedRow). eq_by_cmp row_order k r ≡ false) ks
    apart [] all = tt
    apart (r ∷ ks) all =
        let here = are.0.id in
        let above = all.0 in
        (then_apart (values_order (values_of k) (values_of r)) (nat_cmp k.id r.id) (less_is k.id r.id (omega (arith, here, above))), apart ks all.1)

flips : (x y : KeyedRow) → eq_by_cmp row_order x y ≡ eq_by_cmp row_order y x
flips x y = ap is_eq (rows_total.antisymm x y) ∙ turned (row_order y x)
  where
    turned : (o : Ordering) → is_eq (ordering_reverse o) ≡ is_eq o
    turned Less = refl
    turned Equal = refl
    turned Greater = refl

-- ---- rows behind a start go on to stand behind it

not_above : (first second : Ordering) → ordering_then first second ≡ Less → (first ≡ Less) ⊎ (first ≡ Equal)
not_above Less second less = inl refl
not_above Equal second less = inr refl
not_above Greater second less = absurd (differ less)
  where
    differ : Greater ≡ Less → ⊥
    differ e = cc

gt_is : (o : Ordering) → is_gt o ≡ true → o ≡ Greater
gt_is Less e = cc
gt_is Equal e = cc
gt_is Greater e = refl

turn : (x y : List Value) → values_order x y ≡ Greater → values_order y x ≡ Less
turn x y above = places_total.antisymm y x ∙ ap ordering_reverse above

turn_back : (x y : List Value) → values_order y x ≡ Less → values_order x y ≡ Greater
turn_back x y below = places_total.antisymm x y ∙ ap ordering_reverse below

above_more : (place x y : List Value) → (values_order x y ≡ Less) ⊎ (values_order x y ≡ Equal) → values_order x place ≡ Greater → values_order y place ≡ Greater
above_more place x y (inl less) above = turn_back y place (places_total.trans place x y (turn x place above) less)
above_more place x y (inr same) above = turn_back y place (sym (alike_right places_total x y place same) ∙ turn x place above)

pub goes_on : (start : Option (List Value)) (x y : KeyedRow) → row_order x y ≡ Less → is_behind start x ≡ true → is_behind start y ≡ true
goes_on None x y less behind = refl
goes_on (Some place) x y less behind =
    ap is_gt (above_more place (values_of x) (values_of y) (not_above (values_order (values_of x) (values_of y)) (nat_cmp x.id y.id) less) (gt_is (values_order (values_of x) place) behind))

-- a row before another stands not behind its values, nor does that row itself
not_gt : (o : Ordering) → (o ≡ Less) ⊎ (o ≡ Equal) → is_gt o ≡ false
not_gt o (inl less) = ap is_gt less
not_gt o (inr same) = ap is_gt same

before_it : (x y : KeyedRow) → row_order x y ≡ Less → is_behind (Some (values_of y)) x ≡ false
before_it x y less = not_gt (values_order (values_of x) (values_of y)) (not_above (values_order (values_of x) (values_of y)) (nat_cmp x.id y.id) less)

at_it : (x : KeyedRow) → is_behind (Some (values_of x)) x ≡ false
at_it x = ap is_gt (tied_itself places_total (values_of x))

-- a row behind it with other values does
behind_it : (x y : KeyedRow) → row_order x y ≡ Less → is_ne (values_order (values_of x) (values_of y)) ≡ true → is_behind (Some (values_of x)) y ≡ true
behind_it x y less other =
    ap is_gt (turn_back (values_of y) (values_of x) (only_less (values_order (values_of x) (values_of y)) (not_above (values_order (values_of x) (values_of y)) (nat_cmp x.id y.id) less) other))
  where
    only_less : (o : Ordering) → (o ≡ Less) ⊎ (o ≡ Equal) → is_ne o ≡ true → o ≡ Less
    only_less o (inl is) e = is
    only_less o (inr is) e = absurd (differ (sym (ap is_ne is) ∙ e))
      where
        differ : false ≡ true → ⊥
        differ e = cc

-- ---- the one list of a table's rows, and the rows behind a start

pub record IsRest (start : Option (List Value)) (all listed : List KeyedRow) : Type 0 where
  pub sorted : Strict row_order all
  pub is : listed ≡ filter (is_behind start) all

all_behind : (xs : List KeyedRow) → filter (is_behind None) xs ≡ xs
all_behind xs = all_passed (is_behind None) xs (λ x has. refl)

strict_moved : (xs ys : List KeyedRow) → IsDistinct (eq_by_cmp row_order) xs → IsPermutation xs ys → IsSorted row_order ys → Strict row_order ys
strict_moved xs ys untied_xs moved sorted = strict row_order rows_total ys sorted (IsDistinct-IsPermutation (eq_by_cmp row_order) flips xs ys moved untied_xs)

moved_all : (keyed all : List KeyedRow) → IsInOrder None keyed all → IsPermutation keyed all
moved_all keyed all whole = subst (λ (l : List KeyedRow). IsPermutation l all) (all_behind keyed) whole.same

pub rest_of : (keying : Keying) (rows : List NumberedRow) (start : Option (List Value)) (keyed all listed : List KeyedRow) → AreRising rows 0 → AllZip (IsKeyed keying) rows keyed → IsInOrder None keyed all → IsInOrder start keyed listed → IsRest start all listed
rest_of keying rows start keyed all listed rising are whole part =
    let apart = untied keying rows keyed 0 rising are in
    let moved = moved_all keyed all whole in
    let sorted = strict_moved keyed all apart moved whole.sorted in
    let sorted_part = strict_moved (filter (is_behind start) keyed) listed (distinct_kept (eq_by_cmp row_order) (is_behind start) keyed apart) part.same part.sorted in
    record {
      sorted = sorted;
      is = same_lists row_order rows_total listed (filter (is_behind start) all) sorted_part (strict_kept row_order (is_behind start) all sorted)
          (λ x has. let found = kept_has (is_behind start) keyed x (has_back (filter (is_behind start) keyed) listed x part.same has) in has_kept (is_behind start) all x (has_moved keyed all x moved found.0) found.1)
          (λ x has. let found = kept_has (is_behind start) all x has in has_moved (filter (is_behind start) keyed) listed x part.same (has_kept (is_behind start) keyed x (has_back keyed all x moved found.0) found.1));
    }

-- the rows that do not stand behind the start come first
abbrev pub others_of : Option (List Value) → List KeyedRow → List KeyedRow
others_of start all = filter (λ row. not (is_behind start row)) all

pub cut_at_start : (start : Option (List Value)) (all listed : List KeyedRow) → IsRest start all listed → all ≡ others_of start all ++ listed
cut_at_start start all listed rest = splits row_order (is_behind start) (goes_on start) all rest.sorted ∙ ap (λ (l : List KeyedRow). others_of start all ++ l) (sym rest.is)

-- ---- a state behind a row

-- rows of a source's list that were written, and the last of them
pub record IsWritten (listed : List KeyedRow) (gone left : List Row) : Type 0 where
  pub before : List KeyedRow
  pub last : KeyedRow
  pub behind : List KeyedRow
  pub is : listed ≡ before ++ last ∷ behind
  pub count : length gone ≡ length before + 1
  pub blob : (first : List ℕ) → blob_behind first gone ≡ blob_of last
  pub closes : closes_last gone ≡ closes_before last behind
  pub rest : left ≡ rows_of behind

not_none : (row : Row) (rows : List Row) → ¬ ([] ≡ row ∷ rows)
not_none row rows same = let P : List Row → Type 0 = IsSomeRow in subst P (sym same) tt
  where
    IsSomeRow : List Row → Type 0
    IsSomeRow [] = ⊥
    IsSomeRow (r ∷ rs) = Unit {0}

first_row : Row → List Row → Row
first_row default [] = default
first_row default (row ∷ rows) = row

other_rows : List Row → List Row
other_rows [] = []
other_rows (row ∷ rows) = rows

pub written : (listed : List KeyedRow) (gone left : List Row) → rows_of listed ≡ gone ++ left → gone ≢ [] → IsWritten listed gone left
unfolding first_row other_rows
written listed [] left e some = absurd (some refl)
written [] (g ∷ gone) left e some = absurd (not_none g (gone ++ left) e)
written (x ∷ xs) (g ∷ []) left e some =
    let head : record { body = x.body; blob = blob_of x; closes = closes_before x xs } ≡ g = ap (first_row g) e in
    record {
      before = [];
      last = x;
      behind = xs;
      is = refl;
      count = omega arith;
      blob = λ first. sym (ap (λ (r : Row). r.blob) head);
      closes = sym (ap (λ (r : Row). r.closes) head);
      rest = sym (ap other_rows e);
    }
written (x ∷ xs) (g ∷ h ∷ gone) left e some =
    let w = written xs (h ∷ gone) left (ap other_rows e) (λ none. not_none h gone (sym none)) in
    let count = w.count in
    record {
      before = x ∷ w.before;
      last = w.last;
      behind = w.behind;
      is = ap (λ (l : List KeyedRow). x ∷ l) w.is;
      count = omega (arith, count);
      blob = λ first. w.blob g.blob;
      closes = w.closes;
      rest = w.rest;
    }

behind_all : (last : KeyedRow) (behind : List KeyedRow) → Strict row_order (last ∷ behind) → (behind ≢ [] → closes_before last behind ≡ true) → (b : KeyedRow) → Has b behind → is_behind (Some (values_of last)) b ≡ true
behind_all last [] sorted closes b has = absurd has
behind_all last (first ∷ behind) sorted closes b has =
    let here : is_behind (Some (values_of last)) first ≡ true = behind_it last first sorted.0.0 (closes (λ none. some_first none)) in
    go here has
  where
    some_first : ¬ (first ∷ behind ≡ [])
    some_first none = cc

    go : is_behind (Some (values_of last)) first ≡ true → Has b (first ∷ behind) → is_behind (Some (values_of last)) b ≡ true
    go here (inl is) = ap (is_behind (Some (values_of last))) is ∙ here
    go here (inr there) = goes_on (Some (values_of last)) first b (has_all (λ (r : KeyedRow). row_order first r ≡ Less) behind b sorted.1.0 there) here

not_is : (b : Bool) → b ≡ false → not b ≡ true
not_is b e = ap not e

is_not : (b : Bool) → b ≡ true → not b ≡ false
is_not b e = ap not e

-- what stands not behind the values of a row that closes: the rows before it, and the row
others_at : (front behind : List KeyedRow) (last : KeyedRow) → Strict row_order (front ++ last ∷ behind) → (behind ≢ [] → closes_before last behind ≡ true)
    → others_of (Some (values_of last)) (front ++ last ∷ behind) ≡ front ++ last ∷ []
others_at front behind last sorted closes =
    let test : KeyedRow → Bool = λ row. not (is_behind (Some (values_of last)) row) in
    let first : filter test front ≡ front = all_passed test front (λ x has. not_is (is_behind (Some (values_of last)) x) (before_it x last (before_middle row_order front behind last sorted x has))) in
    let none : filter test behind ≡ [] = none_passed test behind (λ x has. is_not (is_behind (Some (values_of last)) x) (behind_all last behind (behind_middle row_order front behind last sorted) closes x has)) in
    filter-append test front (last ∷ behind)
    ∙ ap (λ (l : List KeyedRow). l ++ filter test (last ∷ behind)) first
    ∙ ap (λ (b : Bool). front ++ cond (not b) (last ∷ filter test behind) (filter test behind)) (at_it last)
    ∙ ap (λ (l : List KeyedRow). front ++ last ∷ l) none

pub record IsPlaced (start : Option (List Value)) (all : List KeyedRow) (gone : List Row) : Type 0 where
  pub last : KeyedRow
  pub has : Has last all
  pub blob : (first : List ℕ) → blob_behind first gone ≡ blob_of last
  pub place : length (others_of start all) + length gone ≡ length (others_of (Some (values_of last)) all)

middle_has : (xs ys : List KeyedRow) (x : KeyedRow) → Has x (xs ++ x ∷ ys)
middle_has [] ys x = inl refl
middle_has (z ∷ xs) ys x = inr (middle_has xs ys x)

pub placed : (start : Option (List Value)) (all listed : List KeyedRow) (gone left : List Row) → IsRest start all listed → rows_of listed ≡ gone ++ left → gone ≢ [] → (left ≢ [] → closes_last gone ≡ true) → IsPlaced start all gone
placed start all listed gone left rest split some closing =
    let w = written listed gone left split some in
    let front = others_of start all in
    let whole : all ≡ (front ++ w.before) ++ w.last ∷ w.behind = cut_at_start start all listed rest ∙ ap (λ (l : List KeyedRow). front ++ l) w.is ∙ sym (append_assoc front w.before (w.last ∷ w.behind)) in
    let sorted : Strict row_order ((front ++ w.before) ++ w.last ∷ w.behind) = subst (Strict row_order) whole rest.sorted in
    let closes : w.behind ≢ [] → closes_before w.last w.behind ≡ true = λ more. sym w.closes ∙ closing (λ none. more (no_rows w.behind (sym w.rest ∙ none))) in
    let others = others_at (front ++ w.before) w.behind w.last sorted closes in
    let size : length (others_of (Some (values_of w.last)) all) ≡ length ((front ++ w.before) ++ w.last ∷ []) = ap (λ (l : List KeyedRow). length (others_of (Some (values_of w.last)) l)) whole ∙ ap length others in
    let count = w.count in
    record {
      last = w.last;
      has = subst (Has w.last) (sym whole) (middle_has (front ++ w.before) w.behind w.last);
      blob = w.blob;
      place = omega (arith, size, count, length-append (front ++ w.before) (w.last ∷ []), length-append front w.before);
    }
  where
    no_rows : (xs : List KeyedRow) → rows_of xs ≡ [] → xs ≡ []
    no_rows [] e = refl
    no_rows (x ∷ xs) e = cc

-- ---- the law

bodies : (xs : List KeyedRow) → map (λ (row : Row). row.body) (rows_of xs) ≡ map (λ (row : KeyedRow). row.body) xs
bodies [] = refl
bodies (x ∷ xs) = ap (λ (l : List (List ℕ)). x.body ∷ l) (bodies xs)

keyed_row : (keying : Keying) (rows : List NumberedRow) (keyed : List KeyedRow) (k : KeyedRow) → AllZip (IsKeyed keying) rows keyed → Has k keyed → (row : NumberedRow) × IsKeyed keying row k
keyed_row keying [] [] k are has = absurd has
keyed_row keying [] (x ∷ keyed) k are has = absurd are
keyed_row keying (row ∷ rows) [] k are has = absurd are
keyed_row keying (row ∷ rows) (x ∷ keyed) k are (inl is) = (row, subst (IsKeyed keying row) (sym is) are.0)
keyed_row keying (row ∷ rows) (x ∷ keyed) k are (inr has) = keyed_row keying rows keyed k are.1 has

start_again : (keying : Keying) (all : List KeyedRow) (blob : Option (List ℕ)) (start : Option (List Value)) → StartsBehind keying blob start → IsPlaceOfBlob keying all (first_blob blob) (place_of start all)
start_again keying all None start is = (None, empty_blob, ap (λ (s : Option (List Value)). place_of s all) is)
start_again keying all (Some text) start is = (start, is, refl)

state_place : (keying : Keying) (rows : List NumberedRow) (keyed all listed : List KeyedRow) (blob : Option (List ℕ)) (start : Option (List Value)) (gone left : List Row)
    → AllZip (IsKeyed keying) rows keyed → IsPermutation keyed all → IsRest start all listed → StartsBehind keying blob start → rows_of listed ≡ gone ++ left → (left ≢ [] → closes_last gone ≡ true)
    → IsPlaceOfBlob keying all (blob_behind (first_blob blob) gone) (place_of start all + length gone)
state_place keying rows keyed all listed blob start [] left are moved rest starts split closing =
    let none : place_of start all + 0 ≡ place_of start all = omega arith in
    subst (IsPlaceOfBlob keying all (first_blob blob)) (sym none) (start_again keying all blob start starts)
state_place keying rows keyed all listed blob start (g ∷ gone) left are moved rest starts split closing =
    let p = placed start all listed (g ∷ gone) left rest split (λ none. not_none g gone (sym none)) closing in
    let found = keyed_row keying rows keyed p.last are (has_back keyed all p.last moved p.has) in
    (Some (values_of p.last), subst (λ (t : List ℕ). IsPlaceBlob keying t (values_of p.last)) (sym (p.blob (first_blob blob))) (read_back keying found.0 p.last found.1), p.place)

pub replay : TablesReplay
replay keying rows keyed all listed every blob start rising are whole starts part =
    let rest = rest_of keying rows start keyed all listed rising are whole part in
    let front = others_of start all in
    let cut = cut_at_start start all listed rest in
    let both : length all ≡ length front + length listed = ap length cut ∙ length-append front listed in
    let body : KeyedRow → List ℕ = λ row. row.body in
    record {
      within = omega (arith, both, length-map all body);
      rest = bodies listed ∙ sym (ap (λ (l : List KeyedRow). drop (length front) (map body l)) cut ∙ ap (drop (length front)) (map-append body front listed) ∙ drop_at (map body front) (map body listed) (length front) (length-map front body));
      states = λ gone left is some.
          let c = cuts_alike every (rows_of listed) gone left is some in
          state_place keying rows keyed all listed blob start (rows_in gone) (rows_in left) are (moved_all keyed all whole) rest starts c.whole (λ more. c.closes (λ none. more (ap rows_in none)));
    }
