-- Keys, rows, and the rows of lines.
use Rattle.std.proofs.Common.{arith, ◌≡◌, ◌<◌, ◌≤◌, ◌+◌, ◌-◌, ℕ, inl, inr, List, [], ◌∷◌, ◌++◌, Option, None, Some, Bool, length, take, drop, slice_get, slice_index_or, refl, sym, ◌∙◌, ap, subst, append_assoc, append-nil}
use Rattle.std.proofs.lemmas.List.{take_more, take_all}
use Rattle.value_order.specs.Texts.{text_of}
use Rattle.value_order.specs.declared.value.Value.{Value}
use Rattle.value_order.specs.declared.value.Value.TheVariants.{Null}
use Rattle.json_span.specs.declared.Member.{Member}
use Rattle.json_fields.specs.Answer.{IsAnswer, IsOnly}
use Rattle.airbyte_message.specs.Messages.{IsMessage}
use Rattle.airbyte_message.specs.declared.message.Message.{Message}
use Rattle.airbyte_message.specs.declared.message.Message.TheVariants as message
use Rattle.outside.specs.declared.event.RawRow.{RawRow}
use Rattle.outside.specs.declared.line.SeqLine.{SeqLine}
use Rattle.json_fields.specs.Fields.{HasField}
use Rattle.column_types.specs.Columns.{is_instant_path}
use Rattle.column_types.specs.Rows.{IsKeyText, IsRow, RowParts}
use Rattle.column_types.specs.Values.{HasValue}
use Rattle.column_types.specs.Words.{IsValueAlong}
use Rattle.column_types.specs.declared.column.Column.{Column}
use Rattle.column_types.proofs.ValueLemmas.{root_field}
use Rattle.std.specs.Option.{option_copied}
use Rattle.batch_prep.specs.declared.item.PrepPlan.{PrepPlan}
use Rattle.batch_prep.specs.declared.row.Content.{Content}
use Rattle.batch_prep.specs.Contents.{HasNoContent, IsContentOf, content_parts}
use Rattle.batch_prep.specs.Items.{AddsRow, AreRows, row_parts}
use Rattle.batch_prep.specs.Places.{AreDataMembers, IsFirst, IsHeldAt}

-- ---- keys

key_behind : (body : List ℕ) (columns : List Column) (paths : List (List (List ℕ))) (path : List (List ℕ)) (key : List ℕ) (value : Value) → IsKeyText body columns paths key → HasValue body path (is_instant_path columns path) value → IsKeyText body columns (paths ++ path ∷ []) (key ++ (text_of value ++ 59 ∷ []))
key_behind body columns [] path key value is has = (value, has, ([], refl, ap (λ (k : List ℕ). k ++ (text_of value ++ 59 ∷ [])) is))
key_behind body columns (p ∷ paths) path key value is has =
    let rest = is.2.0 in (
      is.0,
      is.1,
      (
        rest ++ (text_of value ++ 59 ∷ []),
        key_behind body columns paths path rest value is.2.1 has,
        ap (λ (k : List ℕ). k ++ (text_of value ++ 59 ∷ [])) is.2.2 ∙ append_assoc (text_of is.0) (59 ∷ rest) (text_of value ++ 59 ∷ []),
      ),
    )

pub key_more : (body : List ℕ) (columns : List Column) (paths : List (List (List ℕ))) (i : ℕ) (d : List (List ℕ)) (key text new : List ℕ) (value : Value) → i < length paths → IsKeyText body columns (take i paths) key → HasValue body (slice_index_or paths i d) (is_instant_path columns (slice_index_or paths i d)) value → text ≡ key ++ text_of value → new ≡ text ++ 59 ∷ [] → IsKeyText body columns (take (i + 1) paths) new
key_more body columns paths i d key text new value lt is has et en =
    subst (λ (k : List ℕ). IsKeyText body columns (take (i + 1) paths) k) (sym (en ∙ ap (λ (t : List ℕ). t ++ 59 ∷ []) et ∙ append_assoc key (text_of value) (59 ∷ [])))
    (subst (λ (l : List (List (List ℕ))). IsKeyText body columns l (key ++ (text_of value ++ 59 ∷ []))) (sym (take_more paths i d lt)) (key_behind body columns (take i paths) (slice_index_or paths i d) key value is has))

pub key_all : (body : List ℕ) (columns : List Column) (paths : List (List (List ℕ))) (i : ℕ) (key : List ℕ) → length paths ≤ i → IsKeyText body columns (take i paths) key → IsKeyText body columns paths key
key_all body columns paths i key past is = subst (λ (l : List (List (List ℕ))). IsKeyText body columns l key) (take_all i paths past) is

-- the value at a path whose first member was found
pub value_found : (body held : List ℕ) (names path : List (List ℕ)) (slot : ℕ) (instants : Bool) (value : Value) → IsFirst names path (Some slot) → IsHeldAt body names slot (Some held) → IsValueAlong held (take (length path - 1) (drop 1 path)) instants value → HasValue body path instants value
value_found body held names [] slot instants value first at along = absurd (cc_none slot first)
  where
    cc_none : (n : ℕ) → Some n ≡ None → ⊥
    cc_none n e = cc
value_found body held names (name ∷ rest) slot instants value first at along =
    let only = at name first in
    let all : take (length (name ∷ rest) - 1) rest ≡ rest = take_all (length (name ∷ rest) - 1) rest (omega arith) in
    root_field body name held rest (name ∷ rest) instants only.is.members value only.is.object refl only.is (subst (λ (l : List (List ℕ)). IsValueAlong held l instants value) all along)

absent_of : (body name : List ℕ) (rest : List (List ℕ)) (instants : Bool) (members : List Member) → AreDataMembers body members → ((held : List ℕ) → ¬ HasField body name held) → HasValue body (name ∷ rest) instants Null
absent_of body name rest instants members (inl cut) none = record { found = None; stands = inl (record { members = members; object = cut.are }, inr (none, refl)); is = refl }
absent_of body name rest instants members (inr uncut) none = record { found = None; stands = inr (uncut.0, refl); is = refl }

-- and where there is no such member
pub value_absent : (body : List ℕ) (names path : List (List ℕ)) (members : List Member) (slot : ℕ) (instants : Bool) → IsFirst names path (Some slot) → AreDataMembers body members → IsHeldAt body names slot None → HasValue body path instants Null
value_absent body names [] members slot instants first cut at = absurd (cc_none slot first)
  where
    cc_none : (n : ℕ) → Some n ≡ None → ⊥
    cc_none n e = cc
value_absent body names (name ∷ rest) members slot instants first cut at = absent_of body name rest instants members cut (at name first)

-- a place of a path is one of the names
pub first_within : (names path : List (List ℕ)) (slot : ℕ) → IsFirst names path (Some slot) → (name : List ℕ) × (slice_get names slot ≡ Some name)
first_within names [] slot first = absurd (cc_none slot first)
  where
    cc_none : (n : ℕ) → Some n ≡ None → ⊥
    cc_none n e = cc
first_within names (name ∷ rest) slot first = (name, first)

-- ---- the rows of lines

-- what a row is made of, with the record's own parts
abbrev parts_with : PrepPlan → ℕ → List ℕ → ℕ → Option (List ℕ) → RowParts
parts_with plan seq body emitted_at meta = record {
  load = plan.load;
  seq = seq;
  generation = plan.generation;
  emitted_at = emitted_at;
  moment = plan.moment;
  body = body;
  meta = meta;
  columns = plan.columns;
  key = plan.key;
  cursor = plan.cursor;
}

same_parts : (plan : PrepPlan) (seq : ℕ) (read : Message) (content : Content) → (is : IsContentOf read content) → content_parts plan seq content ≡ row_parts plan seq is.told
same_parts plan seq read content is =
    ap (λ (b : List ℕ). parts_with plan seq b content.emitted_at (option_copied content.meta)) is.body
    ∙ ap (λ (n : ℕ). parts_with plan seq is.told.body n (option_copied content.meta)) is.emitted_at
    ∙ ap (λ (m : Option (List ℕ)). parts_with plan seq is.told.body is.told.emitted_at m) is.meta

-- a line that is a record adds its row
pub adds_row : (plan : PrepPlan) (line : SeqLine) (read : Message) (content : Content) (row : RawRow) (later : List RawRow) → IsOnly (IsMessage line.line) read → IsContentOf read content → IsRow (content_parts plan line.seq content) row → AddsRow plan line later (row ∷ later)
adds_row plan line read content row later only is has =
    inl (is.told, subst (λ (m : Message). IsMessage line.line m) is.is only.is, (row, subst (λ (p : RowParts). IsRow p row) (same_parts plan line.seq read content is) has, refl))

-- and one that is no record adds none
pub adds_none : (plan : PrepPlan) (line : SeqLine) (read : Message) (later : List RawRow) → IsOnly (IsMessage line.line) read → HasNoContent read → AddsRow plan line later later
adds_none plan line read later only none = inr (λ content is. none content (sym (only.only (message.Rec content) is)), refl)

pub no_message : (plan : PrepPlan) (line : SeqLine) (later : List RawRow) → IsAnswer (IsMessage line.line) None → AddsRow plan line later later
no_message plan line later none = inr (λ content is. none (message.Rec content) is, refl)

rows_behind : (plan : PrepPlan) (lines : List SeqLine) (line : SeqLine) (rows more : List RawRow) → AreRows plan lines rows → AddsRow plan line [] (more ++ []) → AreRows plan (lines ++ line ∷ []) (rows ++ more)
rows_behind plan [] line rows more are adds = ([], refl, subst (λ (l : List RawRow). AddsRow plan line [] l) (append-nil more ∙ sym (ap (λ (l : List RawRow). l ++ more) are)) adds)
rows_behind plan (l ∷ lines) line rows more are adds = (are.0 ++ more, rows_behind plan lines line are.0 more are.1 adds, longer are.2)
  where
    longer : AddsRow plan l are.0 rows → AddsRow plan l (are.0 ++ more) (rows ++ more)
    longer (inl has) = inl (has.0, has.1, (has.2.0, has.2.1, ap (λ (r : List RawRow). r ++ more) has.2.2))
    longer (inr has) = inr (has.0, ap (λ (r : List RawRow). r ++ more) has.1)

pub rows_more : (plan : PrepPlan) (lines : List SeqLine) (i : ℕ) (d : SeqLine) (rows new more : List RawRow) → i < length lines → AreRows plan (take i lines) rows → AddsRow plan (slice_index_or lines i d) [] (more ++ []) → new ≡ rows ++ more → AreRows plan (take (i + 1) lines) new
rows_more plan lines i d rows new more lt are adds e =
    subst (λ (l : List RawRow). AreRows plan (take (i + 1) lines) l) (sym e)
    (subst (λ (l : List SeqLine). AreRows plan l (rows ++ more)) (sym (take_more lines i d lt)) (rows_behind plan (take i lines) (slice_index_or lines i d) rows more are adds))

pub rows_all : (plan : PrepPlan) (lines : List SeqLine) (i : ℕ) (rows : List RawRow) → length lines ≤ i → AreRows plan (take i lines) rows → AreRows plan lines rows
rows_all plan lines i rows past are = subst (λ (l : List SeqLine). AreRows plan l rows) (take_all i lines past) are
