-- Changes of which the array is open, and objects whose columns are being written.
use Rattle.std.proofs.Common.{arith, ◌≡◌, ◌<◌, ◌≤◌, ◌+◌, ℕ, zero, suc, inl, inr, List, [], ◌∷◌, ◌++◌, map, codes, Option, None, Some, Bool, true, false, cond, nat_eq, length, take, slice_index_or, refl, sym, ◌∙◌, ap, subst, append_assoc, append-nil}
use Rattle.std.proofs.lemmas.Bool.{ne_eqb}
use Rattle.std.proofs.lemmas.List.{take_more, take_all}
use Rattle.json.specs.Print.{quoted}
use Rattle.json_write.specs.Objects.{Part, named, items_text, list_text, more_items, more_text, object_text, open_list, open_object, part_before, parts_text}
use Rattle.json_write.proofs.Texts.{more_text-append}
use Rattle.json_span.specs.Members.{text_at}
use Rattle.json_span.specs.Elements.{AreElements}
use Rattle.json_span.specs.declared.Span.{Span}
use Rattle.json_fields.specs.Answer.{IsAnswer, IsOnly}
use Rattle.json_fields.specs.Fields.{HasField, line_depth}
use Rattle.column_types.specs.Rows.{AreCells, IsCell, cell_parts, cell_text, change_text, meta_text, own_changes}
use Rattle.column_types.specs.Typed.{IsTyped}
use Rattle.column_types.specs.declared.kind.ColumnType.{ColumnType}
use Rattle.column_types.specs.declared.column.Column.{Column}
use Rattle.column_types.specs.declared.typed.Typed.{Typed}
use Rattle.column_types.specs.declared.typed.Typed.TheVariants.{Fits, Nulled}
use Rattle.batch_prep.specs.declared.changes.Changes.{Changes}
use Rattle.batch_prep.specs.Written.{AreOpen, AreWritten, HasColumns, HasCome, IsCellOf, PutsCell, changes_front, is_empty, is_nulled, told_change}

-- ---- changes

-- what stands before an item
abbrev pub mark : Bool → List ℕ
mark first = cond first [] (44 ∷ [])

more_items-append : (items others : List (List ℕ)) → more_items items ++ more_items others ≡ more_items (items ++ others)
more_items-append [] others = refl
more_items-append (item ∷ items) others = ap (λ (t : List ℕ). 44 ∷ t) (append_assoc item (more_items items) (more_items others) ∙ ap (λ (t : List ℕ). item ++ t) (more_items-append items others))

open_list-more : (items : List (List ℕ)) (item : List ℕ) → open_list items ++ (mark (is_empty items) ++ item) ≡ open_list (items ++ item ∷ [])
open_list-more [] item = ap (λ (t : List ℕ). 91 ∷ t) (sym (append-nil item))
open_list-more (first ∷ items) item =
    ap (λ (t : List ℕ). 91 ∷ t) (append_assoc first (more_items items) (44 ∷ item) ∙ ap (λ (t : List ℕ). first ++ t) (ap (λ (t : List ℕ). more_items items ++ 44 ∷ t) (sym (append-nil item)) ∙ more_items-append items (item ∷ [])))

not_empty : (items : List (List ℕ)) (item : List ℕ) → false ≡ is_empty (items ++ item ∷ [])
not_empty [] item = refl
not_empty (first ∷ items) item = refl

-- one change more
pub open_more : (items : List (List ℕ)) (item : List ℕ) (old new : Changes) → AreOpen items old → new.text ≡ (old.text ++ mark old.is_first) ++ item → new.is_first ≡ false → AreOpen (items ++ item ∷ []) new
open_more items item old new is e first = record {
  text = e ∙ append_assoc old.text (mark old.is_first) item ∙ ap (λ (b : Bool). old.text ++ (mark b ++ item)) is.first
      ∙ ap (λ (t : List ℕ). t ++ (mark (is_empty items) ++ item)) is.text ∙ append_assoc changes_front (open_list items) (mark (is_empty items) ++ item)
      ∙ ap (λ (t : List ℕ). changes_front ++ t) (open_list-more items item);
  first = first ∙ not_empty items item;
}

more_items-closed : (items : List (List ℕ)) → more_items items ++ 93 ∷ [] ≡ items_text items
more_items-closed [] = refl
more_items-closed (item ∷ items) = ap (λ (t : List ℕ). 44 ∷ t) (append_assoc item (more_items items) (93 ∷ []) ∙ ap (λ (t : List ℕ). item ++ t) (more_items-closed items))

open_list-closed : (items : List (List ℕ)) → open_list items ++ 93 ∷ [] ≡ list_text items
open_list-closed [] = refl
open_list-closed (item ∷ items) = ap (λ (t : List ℕ). 91 ∷ t) (append_assoc item (more_items items) (93 ∷ []) ∙ ap (λ (t : List ℕ). item ++ t) (more_items-closed items))

-- the array and the object are closed
pub closed_is : (items : List (List ℕ)) (old : Changes) (text : List ℕ) → AreOpen items old → text ≡ old.text ++ 93 ∷ 125 ∷ [] → text ≡ meta_text items
closed_is items old text is e =
    e ∙ ap (λ (t : List ℕ). t ++ 93 ∷ 125 ∷ []) is.text ∙ append_assoc changes_front (open_list items) (93 ∷ 125 ∷ [])
    ∙ ap (λ (t : List ℕ). changes_front ++ t) (sym (append_assoc (open_list items) (93 ∷ []) (125 ∷ [])) ∙ ap (λ (t : List ℕ). t ++ 125 ∷ []) (open_list-closed items))
    ∙ ap (λ (t : List ℕ). 123 ∷ t) (append_assoc (quoted (codes "changes")) (58 ∷ []) (list_text items ++ 125 ∷ []))

-- the elements that came with a record, one by one
pub elements_more : (list : List ℕ) (spans : List Span) (i : ℕ) (d : Span) (old new : Changes) (item : List ℕ) → i < length spans → item ≡ text_at list (slice_index_or spans i d) → AreOpen (map (text_at list) (take i spans) ++ item ∷ []) new → AreOpen (map (text_at list) (take (i + 1) spans)) new
elements_more list spans i d old new item lt is opened =
    subst (λ (l : List (List ℕ)). AreOpen l new) (ap (λ (x : List ℕ). map (text_at list) (take i spans) ++ x ∷ []) is ∙ sym (ap (map (text_at list)) (take_more spans i d lt) ∙ mapped (take i spans) (slice_index_or spans i d))) opened
  where
    mapped : (xs : List Span) (x : Span) → map (text_at list) (xs ++ x ∷ []) ≡ map (text_at list) xs ++ text_at list x ∷ []
    mapped [] x = refl
    mapped (y ∷ xs) x = ap (λ (l : List (List ℕ)). text_at list y ∷ l) (mapped xs x)

pub elements_all : (list : List ℕ) (spans : List Span) (i : ℕ) (changes : Changes) → length spans ≤ i → AreOpen (map (text_at list) (take i spans)) changes → AreOpen (map (text_at list) spans) changes
elements_all list spans i changes past opened = subst (λ (l : List Span). AreOpen (map (text_at list) l) changes) (take_all i spans past) opened

-- what came with a record
pub came_none : (changes : Changes) → AreOpen [] changes → HasCome None changes
came_none changes opened = record { came = []; with_record = refl; opened = opened }

pub came_no_field : (meta : List ℕ) (changes : Changes) → ((held : List ℕ) → ¬ HasField meta (codes "changes") held) → AreOpen [] changes → HasCome (Some meta) changes
came_no_field meta changes none opened = record { came = []; with_record = inr (λ held spans has. none held has.field, refl); opened = opened }

pub came_no_array : (meta list : List ℕ) (changes : Changes) → IsOnly (HasField meta (codes "changes")) list → ((spans : List Span) → ¬ AreElements line_depth list spans) → AreOpen [] changes → HasCome (Some meta) changes
came_no_array meta list changes only none opened = record {
  came = [];
  with_record = inr (λ held spans has. none spans (subst (λ (t : List ℕ). AreElements line_depth t spans) (only.only held has.field) has.array), refl);
  opened = opened;
}

pub came_array : (meta list : List ℕ) (spans : List Span) (changes : Changes) → IsOnly (HasField meta (codes "changes")) list → AreElements line_depth list spans → AreOpen (map (text_at list) spans) changes → HasCome (Some meta) changes
came_array meta list spans changes only are opened = record {
  came = map (text_at list) spans;
  with_record = inl (list, spans, record { field = only.is; array = are }, refl);
  opened = opened;
}

-- ---- columns

-- a cell of what was found
pub cell_of : (body : List ℕ) (column : Column) (found : Option (List ℕ)) (cell : Typed) → IsAnswer (HasField body column.name) found → IsCellOf column.kind found cell → IsCell body column cell
cell_of body column None cell none is = inr (none, is)
cell_of body column (Some held) cell only is = inl (held, only.is, is)

cells_behind : (body : List ℕ) (columns : List Column) (cells : List Typed) (column : Column) (cell : Typed) → AreCells body columns cells → IsCell body column cell → AreCells body (columns ++ column ∷ []) (cells ++ cell ∷ [])
cells_behind body [] [] column cell are is = (is, tt)
cells_behind body (c ∷ columns) (t ∷ cells) column cell are is = (are.0, cells_behind body columns cells column cell are.1 is)
cells_behind body [] (t ∷ cells) column cell are is = absurd are
cells_behind body (c ∷ columns) [] column cell are is = absurd are

parts_behind : (body : List ℕ) (columns : List Column) (cells : List Typed) (column : Column) (cell : Typed) → AreCells body columns cells → cell_parts (columns ++ column ∷ []) (cells ++ cell ∷ []) ≡ cell_parts columns cells ++ named column.name (cell_text cell) ∷ []
parts_behind body [] [] column cell are = refl
parts_behind body (c ∷ columns) (t ∷ cells) column cell are = ap (λ (l : List Part). named c.name (cell_text t) ∷ l) (parts_behind body columns cells column cell are.1)
parts_behind body [] (t ∷ cells) column cell are = absurd are
parts_behind body (c ∷ columns) [] column cell are = absurd are

-- the changes of one column more
abbrev pub change_of : Column → Typed → List (List ℕ)
change_of column (Fits written) = []
change_of column Nulled = change_text column.name ∷ []

own_behind : (body : List ℕ) (columns : List Column) (cells : List Typed) (column : Column) (cell : Typed) → AreCells body columns cells → own_changes (columns ++ column ∷ []) (cells ++ cell ∷ []) ≡ own_changes columns cells ++ change_of column cell
own_behind body [] [] column (Fits written) are = refl
own_behind body [] [] column Nulled are = refl
own_behind body (c ∷ columns) (Fits written ∷ cells) column cell are = own_behind body columns cells column cell are.1
own_behind body (c ∷ columns) (Nulled ∷ cells) column cell are = ap (λ (l : List (List ℕ)). change_text c.name ∷ l) (own_behind body columns cells column cell are.1)
own_behind body [] (t ∷ cells) column cell are = absurd are
own_behind body (c ∷ columns) [] column cell are = absurd are

part_before-append : (part : Part) (t u : List ℕ) → part_before part t ++ u ≡ part_before part (t ++ u)
part_before-append part t u = append_assoc part.0 (58 ∷ (part.1 ++ t)) u ∙ ap (λ (x : List ℕ). part.0 ++ 58 ∷ x) (append_assoc part.1 t u)

abbrev pub no_parts : List Part → Bool
no_parts [] = true
no_parts (part ∷ parts) = false

open_object-more : (parts : List Part) (part : Part) → open_object parts ++ (mark (no_parts parts) ++ part_before part []) ≡ open_object (parts ++ part ∷ [])
open_object-more [] part = refl
open_object-more (first ∷ parts) part =
    ap (λ (t : List ℕ). 123 ∷ t) (part_before-append first (more_text parts) (44 ∷ part_before part []) ∙ ap (λ (t : List ℕ). part_before first t) (more_text-append parts (part ∷ [])))

more_text-closed : (parts : List Part) → more_text parts ++ 125 ∷ [] ≡ parts_text parts
more_text-closed [] = refl
more_text-closed (part ∷ parts) = ap (λ (t : List ℕ). 44 ∷ t) (part_before-append part (more_text parts) (125 ∷ []) ∙ ap (λ (t : List ℕ). part_before part t) (more_text-closed parts))

pub object_closed : (parts : List Part) → open_object parts ++ 125 ∷ [] ≡ object_text parts
object_closed [] = refl
object_closed (part ∷ parts) = ap (λ (t : List ℕ). 123 ∷ t) (part_before-append part (more_text parts) (125 ∷ []) ∙ ap (λ (t : List ℕ). part_before part t) (more_text-closed parts))

-- ---- the change of a column, member by member

-- the members that a change has
abbrev pub change_parts : List ℕ → List Part
change_parts name =
    named (codes "field") (quoted name) ∷ named (codes "change") (codes "\"NULLED\"") ∷ named (codes "reason") (codes "\"DESTINATION_TYPECAST_ERROR\"") ∷ []

first_part : (old text next : List ℕ) (part : Part) → text ≡ old → next ≡ text ++ 123 ∷ part_before part [] → next ≡ old ++ open_object (part ∷ [])
first_part old text next part e f = f ∙ ap (λ (t : List ℕ). t ++ 123 ∷ part_before part []) e

next_part : (old text next : List ℕ) (first : Part) (parts : List Part) (part : Part) → text ≡ old ++ open_object (first ∷ parts) → next ≡ text ++ 44 ∷ part_before part [] → next ≡ old ++ open_object (first ∷ (parts ++ part ∷ []))
next_part old text next first parts part e f =
    f ∙ ap (λ (t : List ℕ). t ++ 44 ∷ part_before part []) e ∙ append_assoc old (open_object (first ∷ parts)) (44 ∷ part_before part [])
    ∙ ap (λ (t : List ℕ). old ++ t) (open_object-more (first ∷ parts) part)

last_mark : (old text next : List ℕ) (parts : List Part) → text ≡ old ++ open_object parts → next ≡ text ++ 125 ∷ [] → next ≡ old ++ object_text parts
last_mark old text next parts e f =
    f ∙ ap (λ (t : List ℕ). t ++ 125 ∷ []) e ∙ append_assoc old (open_object parts) (125 ∷ []) ∙ ap (λ (t : List ℕ). old ++ t) (object_closed parts)

pub change_written : (old a b c d e : List ℕ) (name label : List ℕ) → label ≡ quoted name → a ≡ old → b ≡ a ++ 123 ∷ part_before (named (codes "field") label) [] → c ≡ b ++ 44 ∷ part_before (named (codes "change") (codes "\"NULLED\"")) [] → d ≡ c ++ 44 ∷ part_before (named (codes "reason") (codes "\"DESTINATION_TYPECAST_ERROR\"")) [] → e ≡ d ++ 125 ∷ [] → e ≡ old ++ change_text name
change_written old a b c d e name label is ea eb ec ed ee =
    let field = named (codes "field") label in
    let change = named (codes "change") (codes "\"NULLED\"") in
    let reason = named (codes "reason") (codes "\"DESTINATION_TYPECAST_ERROR\"") in
    last_mark old d e (field ∷ change ∷ reason ∷ [])
    (next_part old c d field (change ∷ []) reason (next_part old b c field [] change (first_part old a b field ea eb) ec) ed) ee
    ∙ ap (λ (l : List ℕ). old ++ object_text (named (codes "field") l ∷ change ∷ reason ∷ [])) is

-- ---- a cell behind the text

pub puts_none : (kind : ColumnType) (found : Option (List ℕ)) (old new : List ℕ) → found ≡ None → new ≡ old ++ codes "null" → PutsCell kind found old new false
puts_none kind found old new e text = subst (λ (f : Option (List ℕ)). PutsCell kind f old new false) (sym e) (record { cell = Fits (codes "null"); is = refl; text = text; told = refl })

pub puts_fitting : (kind : ColumnType) (found : Option (List ℕ)) (held written old new : List ℕ) → found ≡ Some held → IsTyped kind held (Fits written) → new ≡ old ++ written → PutsCell kind found old new false
puts_fitting kind found held written old new e typed text = subst (λ (f : Option (List ℕ)). PutsCell kind f old new false) (sym e) (record { cell = Fits written; is = typed; text = text; told = refl })

-- ---- one column more

no_parts_at : (body : List ℕ) (columns : List Column) (i : ℕ) (cells : List Typed) → i < length columns → AreCells body (take i columns) cells → no_parts (cell_parts (take i columns) cells) ≡ nat_eq i 0
no_parts_at body columns zero [] lt are = refl
no_parts_at body columns zero (t ∷ cells) lt are = absurd are
no_parts_at body [] (suc i) cells lt are = absurd (omega (arith, lt))
no_parts_at body (c ∷ columns) (suc i) [] lt are = absurd are
no_parts_at body (c ∷ columns) (suc i) (t ∷ cells) lt are = sym (ne_eqb (suc i) 0 (λ e. omega (arith, e)))

cell_written : (old a b d new : List ℕ) (first : Bool) (name label value : List ℕ) → a ≡ old ++ mark first → b ≡ a ++ label → label ≡ quoted name → d ≡ b ++ 58 ∷ [] → new ≡ d ++ value → new ≡ old ++ (mark first ++ part_before (named name value) [])
cell_written old a b d new first name label value ea eb el ed en =
    en ∙ ap (λ (t : List ℕ). t ++ value) (ed ∙ ap (λ (t : List ℕ). t ++ 58 ∷ []) (eb ∙ ap (λ (t : List ℕ). t ++ label) ea ∙ ap (λ (t : List ℕ). (old ++ mark first) ++ t) el))
    ∙ append_assoc ((old ++ mark first) ++ quoted name) (58 ∷ []) value ∙ append_assoc (old ++ mark first) (quoted name) (58 ∷ value)
    ∙ append_assoc old (mark first) (quoted name ++ 58 ∷ value)
    ∙ ap (λ (t : List ℕ). old ++ (mark first ++ (quoted name ++ 58 ∷ t))) (sym (append-nil value))

written_step : (body : List ℕ) (columns : List Column) (i : ℕ) (d : Column) (came : List (List ℕ)) (text new : List ℕ) (old changes : Changes) (cell : Typed) → i < length columns → (was : AreWritten body (take i columns) came text old) → IsCell body (slice_index_or columns i d) cell → new ≡ text ++ (mark (nat_eq i 0) ++ part_before (named (slice_index_or columns i d).name (cell_text cell)) []) → AreOpen ((came ++ own_changes (take i columns) was.cells) ++ change_of (slice_index_or columns i d) cell) changes → AreWritten body (take (i + 1) columns) came new changes
written_step body columns i d came text new old changes cell lt was is e opened =
    let column = slice_index_or columns i d in
    let front = take i columns in
    subst (λ (l : List Column). AreWritten body l came new changes) (sym (take_more columns i d lt)) (record {
      cells = was.cells ++ cell ∷ [];
      typed = cells_behind body front was.cells column cell was.typed is;
      open_text = e ∙ ap (λ (t : List ℕ). t ++ (mark (nat_eq i 0) ++ part_before (named column.name (cell_text cell)) [])) was.open_text
          ∙ ap (λ (b : Bool). open_object (cell_parts front was.cells) ++ (mark b ++ part_before (named column.name (cell_text cell)) [])) (sym (no_parts_at body columns i was.cells lt was.typed))
          ∙ open_object-more (cell_parts front was.cells) (named column.name (cell_text cell))
          ∙ ap open_object (sym (parts_behind body front was.cells column cell was.typed));
      own = subst (λ (l : List (List ℕ)). AreOpen l changes) (append_assoc came (own_changes front was.cells) (change_of column cell) ∙ ap (λ (l : List (List ℕ)). came ++ l) (sym (own_behind body front was.cells column cell was.typed))) opened;
    })

told : (cell : Typed) (column : Column) → change_of column cell ≡ told_change column.name (is_nulled cell)
told (Fits written) column = refl
told Nulled column = refl

-- one column's mark, label, colon and cell were put
pub record IsPut (body : List ℕ) (columns : List Column) (i : ℕ) (d : Column) (text new : List ℕ) (nulled : Bool) : Type 0 where
  pub after_mark : List ℕ
  pub after_label : List ℕ
  pub after_colon : List ℕ
  pub label : List ℕ
  pub found : Option (List ℕ)
  pub marked : after_mark ≡ text ++ mark (nat_eq i 0)
  pub labelled : after_label ≡ after_mark ++ label
  pub is_label : label ≡ quoted (slice_index_or columns i d).name
  pub colon : after_colon ≡ after_label ++ 58 ∷ []
  pub cell : PutsCell (slice_index_or columns i d).kind found after_colon new nulled
  pub answer : IsAnswer (HasField body (slice_index_or columns i d).name) found

pub written_more : (body : List ℕ) (columns : List Column) (i : ℕ) (d : Column) (came : List (List ℕ)) (text new : List ℕ) (nulled : Bool) (old changes : Changes) → i < length columns → IsPut body columns i d text new nulled → AreWritten body (take i columns) came text old → ((items : List (List ℕ)) → AreOpen items old → AreOpen (items ++ told_change (slice_index_or columns i d).name nulled) changes) → AreWritten body (take (i + 1) columns) came new changes
written_more body columns i d came text new nulled old changes lt put was more =
    let column = slice_index_or columns i d in
    let cell = put.cell.cell in
    written_step body columns i d came text new old changes cell lt was (cell_of body column put.found cell put.answer put.cell.is)
    (cell_written text put.after_mark put.after_label put.after_colon new (nat_eq i 0) column.name put.label (cell_text cell) put.marked put.labelled put.is_label put.colon put.cell.text)
    (subst (λ (l : List (List ℕ)). AreOpen ((came ++ own_changes (take i columns) was.cells) ++ l) changes) (sym (told cell column ∙ ap (told_change column.name) put.cell.told)) (more (came ++ own_changes (take i columns) was.cells) was.own))

-- nothing is written yet
pub written_none : (body : List ℕ) (columns : List Column) (came : List (List ℕ)) (text : List ℕ) (changes : Changes) → text ≡ 123 ∷ [] → AreOpen came changes → AreWritten body (take 0 columns) came text changes
written_none body columns came text changes e opened = record {
  cells = [];
  typed = tt;
  open_text = e;
  own = subst (λ (l : List (List ℕ)). AreOpen l changes) (sym (append-nil came)) opened;
}

-- all columns are written, and the object is closed
pub written_all : (body : List ℕ) (columns : List Column) (i : ℕ) (came : List (List ℕ)) (text new : List ℕ) (changes : Changes) → length columns ≤ i → AreWritten body (take i columns) came text changes → new ≡ text ++ 125 ∷ [] → HasColumns body columns came new changes
written_all body columns i came text new changes past was e =
    let all = subst (λ (l : List Column). AreWritten body l came text changes) (take_all i columns past) was in
    record {
      cells = all.cells;
      typed = all.typed;
      whole = e ∙ ap (λ (t : List ℕ). t ++ 125 ∷ []) all.open_text ∙ object_closed (cell_parts columns all.cells);
      own = all.own;
    }

-- no change of a value that was not nulled
pub none_told : (items : List (List ℕ)) (changes : Changes) → AreOpen items changes → AreOpen (items ++ []) changes
none_told items changes opened = subst (λ (l : List (List ℕ)). AreOpen l changes) (sym (append-nil items)) opened
