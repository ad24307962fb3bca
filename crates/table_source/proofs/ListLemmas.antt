-- The rows of a table, one by one.
use Rattle.std.proofs.Common.{◌≡◌, ◌∙◌, ℕ, ◌+◌, ◌<◌, ◌≤◌, List, [], ◌∷◌, ◌++◌, length, take, drop, get_or, filter, cond, Bool, Option, Result, Ok, Err, refl, sym, ap, subst}
use Rattle.std.specs.List.{AllZip, AllByRecursion}
use Rattle.std.proofs.lemmas.List.{take_all, take-append-drop, drop_more}
use Rattle.std.proofs.lemmas.List.Elements.{All-from_recursion, filter-append}
use Rattle.outside.specs.declared.line.NumberedRow.{NumberedRow}
use Rattle.value_order.specs.declared.value.Value.{Value}
use Rattle.table_source.specs.declared.keyed.KeyedRow.{KeyedRow}
use Rattle.table_source.specs.declared.keying.Keying.{Keying}
use Rattle.table_source.specs.Keyed.{IsKeyed, IsRowBody}
use Rattle.table_source.specs.Table.{IsFirstUnfit, KeepsBehind, is_behind}
use Rattle.table_source.specs.declared.rows.ListFault.{ListFault}
use Rattle.table_source.specs.declared.rows.ListFault.TheVariants as list_fault
use Rattle.table_source.proofs.KeyLemmas.{zip_more}

all_fit : (keying : Keying) (rows : List NumberedRow) (keyed : List KeyedRow) → AllZip (IsKeyed keying) rows keyed → AllByRecursion (λ (row : NumberedRow). IsRowBody row.body) rows
all_fit keying [] keyed are = tt
all_fit keying (row ∷ rows) [] are = absurd are
all_fit keying (row ∷ rows) (first ∷ keyed) are = (are.0.fits, all_fit keying rows keyed are.1)

kept_more : (start : Option (List Value)) (keyed : List KeyedRow) (row : KeyedRow) (passes : Bool) → is_behind start row ≡ passes
    → filter (is_behind start) (keyed ++ row ∷ []) ≡ filter (is_behind start) keyed ++ cond passes (row ∷ []) []
kept_more start keyed row passes is = filter-append (is_behind start) keyed (row ∷ []) ∙ ap (λ (b : Bool). filter (is_behind start) keyed ++ cond b (row ∷ []) []) is

-- a row more, which is kept where it stands behind the start
pub more : (keying : Keying) (start : Option (List Value)) (rows : List NumberedRow) (at : ℕ) (row : NumberedRow) (kept now : List KeyedRow) (found : KeyedRow) (passes : Bool)
    → at < length rows → row ≡ get_or rows at row → IsKeyed keying row found → is_behind start found ≡ passes → now ≡ kept ++ cond passes (found ∷ []) []
    → KeepsBehind keying start (take at rows) kept → KeepsBehind keying start (take (at + 1) rows) now
more keying start rows at row kept now found passes within is keyed behind now_is so_far = record {
  keyed = so_far.keyed ++ found ∷ [];
  are = zip_more (IsKeyed keying) rows so_far.keyed (so_far.keyed ++ found ∷ []) at row found within is so_far.are keyed refl;
  is = now_is ∙ ap (λ (l : List KeyedRow). l ++ cond passes (found ∷ []) []) so_far.is ∙ sym (kept_more start so_far.keyed found passes behind);
}

pub none_yet : (keying : Keying) (start : Option (List Value)) (rows : List NumberedRow) (kept : List KeyedRow) → kept ≡ [] → KeepsBehind keying start (take 0 rows) kept
none_yet keying start rows kept none = record { keyed = []; are = tt; is = none }

-- the first row that does not fit
pub unfit_at : (keying : Keying) (start : Option (List Value)) (rows : List NumberedRow) (at : ℕ) (row : NumberedRow) (kept : List KeyedRow)
    → at < length rows → row ≡ get_or rows at row → ¬ IsRowBody row.body → KeepsBehind keying start (take at rows) kept → IsFirstUnfit rows row.id
unfit_at keying start rows at row kept within is unfit so_far = record {
  before = take at rows;
  row = row;
  behind = drop (at + 1) rows;
  splits = sym (take-append-drop at rows) ∙ ap (λ (l : List NumberedRow). take at rows ++ l) (drop_more rows at row within ∙ ap (λ (r : NumberedRow). r ∷ drop (at + 1) rows) (sym is));
  fit = All-from_recursion (λ (other : NumberedRow). IsRowBody other.body) (take at rows) (all_fit keying (take at rows) so_far.keyed so_far.are);
  unfit = unfit;
  is = refl;
}

pub whole : (keying : Keying) (start : Option (List Value)) (rows : List NumberedRow) (at : ℕ) (kept : List KeyedRow) → length rows ≤ at → KeepsBehind keying start (take at rows) kept → KeepsBehind keying start rows kept
whole keying start rows at kept over so_far = subst (λ (l : List NumberedRow). KeepsBehind keying start l kept) (take_all at rows over) so_far

-- the id that a fault tells
abbrev pub unfit_id : {T : Type 0} → Result T ListFault → ℕ
unfit_id (Ok done) = 0
unfit_id (Err (list_fault.Unfit id)) = id
unfit_id (Err list_fault.NoMemory) = 0
