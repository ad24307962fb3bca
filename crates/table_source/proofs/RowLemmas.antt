-- Rows of a source's list.
use Rattle.std.proofs.Common.{◌≡◌, ◌∙◌, ℕ, ◌+◌, ◌<◌, List, [], ◌∷◌, ◌++◌, length, drop, slice_get, unwrap_or, zero, suc, true, Option, Some, Result, Ok, Err, OnOk, refl, sym, ap, arith, append_assoc}
use Rattle.std.proofs.lemmas.Option.{none-some}
use Rattle.std.proofs.lemmas.List.{drop_all}
use Rattle.std.specs.Ordering.{is_ne}
use Rattle.source_lines.specs.Checkpoints.{Row}
use Rattle.table_source.specs.declared.keyed.KeyedRow.{KeyedRow}
use Rattle.table_source.specs.Keyed.{values_of, values_order}
use Rattle.table_source.specs.Blob.{blob_of}
use Rattle.table_source.specs.Table.{closes_before, rows_of}

pub on_ok : {T E : Type 0} {P Q : Type 0} (r : Result T E) → (P → Q) → OnOk r P → OnOk r Q
on_ok (Ok done) f p = f p
on_ok (Err why) f p = tt

pub length_rows : (xs : List KeyedRow) → length (rows_of xs) ≡ length xs
length_rows [] = refl
length_rows (x ∷ xs) = ap suc (length_rows xs)

abbrev pub row_before : KeyedRow → List KeyedRow → Row
row_before row rows = record { body = row.body; blob = blob_of row; closes = closes_before row rows }

-- the row at a place
pub row_at : (xs : List KeyedRow) (place : ℕ) (x : KeyedRow) (row : Row) → slice_get xs place ≡ Some x → slice_get (rows_of xs) place ≡ Some row → row ≡ row_before x (drop (suc place) xs)
row_at [] place x row found made = absurd (none-some x found)
row_at (y ∷ xs) zero x row found made =
    let same : y ≡ x = ap (λ (o : Option KeyedRow). unwrap_or o y) found in
    sym (ap (λ (o : Option Row). unwrap_or o row) made) ∙ ap (λ (z : KeyedRow). row_before z xs) same
row_at (y ∷ xs) (suc place) x row found made = row_at xs place x row found made

pub body_at : (xs : List KeyedRow) (place : ℕ) (x : KeyedRow) (row : Row) → slice_get xs place ≡ Some x → slice_get (rows_of xs) place ≡ Some row → x.body ≡ row.body
body_at xs place x row found made = ap (λ (r : Row). r.body) (sym (row_at xs place x row found made))

pub blob_at : (xs : List KeyedRow) (place : ℕ) (x : KeyedRow) (row : Row) → slice_get xs place ≡ Some x → slice_get (rows_of xs) place ≡ Some row → blob_of x ≡ row.blob
blob_at xs place x row found made = ap (λ (r : Row). r.blob) (sym (row_at xs place x row found made))

-- behind the last row a state may stand
pub closes_end : (xs : List KeyedRow) (place : ℕ) (x : KeyedRow) (row : Row) → slice_get xs place ≡ Some x → slice_get (rows_of xs) place ≡ Some row → place + 1 ≡ length xs → true ≡ row.closes
closes_end xs place x row found made last =
    let none : drop (suc place) xs ≡ [] = drop_all (suc place) xs (omega (arith, last)) in
    ap (closes_before x) (sym none) ∙ ap (λ (r : Row). r.closes) (sym (row_at xs place x row found made))

next_first : (xs : List KeyedRow) (place : ℕ) (next : KeyedRow) → slice_get xs place ≡ Some next → drop place xs ≡ next ∷ drop (suc place) xs
next_first [] place next found = absurd (none-some next found)
next_first (y ∷ xs) zero next found = ap (λ (z : KeyedRow). z ∷ xs) (ap (λ (o : Option KeyedRow). unwrap_or o y) found)
next_first (y ∷ xs) (suc place) next found = next_first xs place next found

-- and behind another where the next one's values differ
pub closes_next : (xs : List KeyedRow) (place : ℕ) (x next : KeyedRow) (row : Row) → slice_get xs place ≡ Some x → slice_get xs (place + 1) ≡ Some next → slice_get (rows_of xs) place ≡ Some row
    → is_ne (values_order (values_of x) (values_of next)) ≡ row.closes
closes_next xs place x next row found after made =
    let one_more : place + 1 ≡ suc place = omega arith in
    let first = next_first xs (suc place) next (ap (slice_get xs) (sym one_more) ∙ after) in
    ap (closes_before x) (sym first) ∙ ap (λ (r : Row). r.closes) (sym (row_at xs place x row found made))

-- the text of a blob
pub two_members : (line first one second two : List ℕ) → ((((line ++ 123 ∷ (first ++ 58 ∷ [])) ++ one) ++ 44 ∷ (second ++ 58 ∷ [])) ++ two) ++ 125 ∷ [] ≡ line ++ 123 ∷ (first ++ 58 ∷ (one ++ 44 ∷ (second ++ 58 ∷ (two ++ 125 ∷ []))))
two_members line first one second two = simp append_assoc refl

pub some_at : (xs : List KeyedRow) (place : ℕ) → place < length xs → (x : KeyedRow) × (slice_get xs place ≡ Some x)
some_at [] place within = absurd (omega (arith, within))
some_at (x ∷ xs) zero within = (x, refl)
some_at (x ∷ xs) (suc place) within = some_at xs place (omega (arith, within))
