-- The blob that is written behind a row, as it is read.
use Rattle.std.proofs.Common.{◌≡◌, ◌∙◌, inl, inr, ℕ, ◌≤◌, List, [], ◌∷◌, length, map, codes, Bool, Option, None, Some, unwrap_or, refl, sym, ap, subst, arith}
use Rattle.std.specs.List.{AllZip}
use Rattle.std.proofs.lemmas.List.{length-map}
use Rattle.json.proofs.Printed.Utf8.{IsUtf8-are_ascii}
use Rattle.json_span.specs.Grammar as json
use Rattle.json_span.specs.Members.{AreMembers}
use Rattle.json_span.specs.Elements.{AreElements}
use Rattle.json_span.specs.declared.Member.{Member}
use Rattle.json_span.specs.declared.Span.{Span}
use Rattle.json_fields.specs.Fields.{Holds, line_depth}
use Rattle.json_write.specs.Laws.{AreNamed, AreSound, AreWithin, part_at}
use Rattle.json_write.specs.Objects.{Part, list_text, named, object_text}
use Rattle.json_write.specs.Values.{IsValueWithin}
use Rattle.json_write.proofs.HeldValues.{field_within}
use Rattle.json_write.proofs.Lists.{list_of}
use Rattle.json_write.proofs.Names.{PartsHold, from_parts, last_by_name, pairs_hold}
use Rattle.json_write.proofs.Strings.{quoted_string}
use Rattle.json_write.proofs.Trees.{object_of}
use Rattle.json_write.proofs.Values.{within_more}
use Rattle.json_squeeze.specs.Dense.{dense}
use Rattle.json_squeeze.proofs.Trees.{squeezes}
use Rattle.json_squeeze.specs.Squeeze.{squeezed}
use Rattle.value_order.specs.declared.value.Value.{Value}
use Rattle.catalog.specs.Entry.{PathNames}
use Rattle.column_types.specs.Columns.{is_instant_path}
use Rattle.column_types.specs.Values.{IsFoundValue, IsValueOf, Reaches, StandsAt}
use Rattle.column_types.specs.declared.column.Column.{Column}
use Rattle.table_source.specs.Keyed.{IsCursorPart, IsKeyPart, IsPartAt, IsRowBody, values_of}
use Rattle.table_source.specs.declared.keyed.RowPart.{RowPart}
use Rattle.table_feed.specs.Laws.{BlobsReadBack}
use Rattle.table_feed.specs.Start.{AreKeyValues, AreValuesAt, IsEmptyBlob, IsPlaceCut, Place, instant_at, key_texts}

-- ---- the texts of a row's parts are values that do not nest deeper than a row

null_within : IsValueWithin 100 (codes "null")
null_within = record { is = record { utf8 = IsUtf8-are_ascii (codes "null") refl; value = json.null; spelled = refl }; within = omega arith }

body_within : (text : List ℕ) → IsRowBody text → IsValueWithin 100 (squeezed text)
body_within text fits =
    let o = fits.object.object in
    let s = squeezes text o.value (record { before = o.before; after = o.after; spelled = o.spells.spelled }) in
    let deep = fits.object.within in
    let deepest = o.deepest in
    let same = s.same_depth in
    record { is = record { utf8 = (s.value o.spells.utf8).utf8; value = dense o.value; spelled = s.spelled }; within = omega (arith, deep, deepest, same) }

reach_within : (text : List ℕ) (names : PathNames) (found : List ℕ) → IsValueWithin 100 text → Reaches text names (Some found) → IsValueWithin 100 found
reach_within text [] found is reached = subst (IsValueWithin 100) (some_is text found (sym reached)) is
  where
    some_is : (a b : List ℕ) → Some a ≡ Some b → a ≡ b
    some_is a b e = cc
reach_within text (name ∷ names) found is (inl step) =
    reach_within step.0 names found (within_more 99 100 step.0 (omega arith) (field_within 99 100 text name step.0 (omega arith) is step.1)) step.2
reach_within text (name ∷ names) found is (inr none) = absurd (none_some none.1)
  where
    none_some : ¬ (Some found ≡ None)
    none_some e = cc

found_within : (body : List ℕ) (path : PathNames) (found : Option (List ℕ)) → IsValueWithin 100 body → StandsAt body path found → IsValueWithin 100 (unwrap_or found (codes "null"))
found_within body path None is stands = null_within
found_within body path (Some text) is (inl stands) = reach_within body path text is stands.1
found_within body path (Some text) is (inr none) = absurd (some_none none.1)
  where
    some_none : ¬ (Some text ≡ None)
    some_none e = cc

part_within : (body : List ℕ) (path : PathNames) (instants : Bool) (part : RowPart) → IsValueWithin 100 body → IsPartAt body path instants part → IsValueWithin 100 part.text
part_within body path instants part is at = subst (IsValueWithin 100) (sym at.text) (found_within body path at.value.found is at.value.stands)

cursor_within : (columns : List Column) (body : List ℕ) (cursor : Option PathNames) (part : RowPart) → IsValueWithin 100 body → IsCursorPart columns body cursor part → IsValueWithin 100 part.text
cursor_within columns body None part is at = subst (λ (p : RowPart). IsValueWithin 100 p.text) (sym at) null_within
cursor_within columns body (Some path) part is at = part_within body path (is_instant_path columns path) part is at

key_within : (columns : List Column) (body : List ℕ) (keys : List PathNames) (parts : List RowPart) → IsValueWithin 100 body → AllZip (IsKeyPart columns body) keys parts → AreWithin 100 (map (λ (part : RowPart). part.text) parts)
key_within columns body [] [] is are = tt
key_within columns body [] (part ∷ parts) is are = absurd are
key_within columns body (path ∷ keys) [] is are = absurd are
key_within columns body (path ∷ keys) (part ∷ parts) is are = (part_within body path (is_instant_path columns path) part is are.0, key_within columns body keys parts is are.1)

-- ---- and stand for the row's values

found_value : (instants : Bool) (found : Option (List ℕ)) (value : Value) → IsFoundValue instants found value → IsValueOf instants (unwrap_or found (codes "null")) value
found_value instants None value is = subst (IsValueOf instants (codes "null")) (sym is) refl
found_value instants (Some text) value is = is

part_value : (body : List ℕ) (path : PathNames) (instants : Bool) (part : RowPart) → IsPartAt body path instants part → IsValueOf instants part.text part.value
part_value body path instants part at = subst (λ (t : List ℕ). IsValueOf instants t part.value) (sym at.text) (found_value instants at.value.found part.value at.value.is)

cursor_value : (columns : List Column) (body : List ℕ) (cursor : Option PathNames) (part : RowPart) → IsCursorPart columns body cursor part → IsValueOf (instant_at columns cursor) part.text part.value
cursor_value columns body None part at = subst (λ (p : RowPart). IsValueOf (instant_at columns None) p.text p.value) (sym at) refl
cursor_value columns body (Some path) part at = part_value body path (is_instant_path columns path) part at

key_values : (columns : List Column) (body : List ℕ) (keys : List PathNames) (parts : List RowPart) → AllZip (IsKeyPart columns body) keys parts
    → AreKeyValues columns keys (map (λ (part : RowPart). part.text) parts) (map (λ (part : RowPart). part.value) parts)
key_values columns body [] [] are = tt
key_values columns body [] (part ∷ parts) are = absurd are
key_values columns body (path ∷ keys) [] are = absurd are
key_values columns body (path ∷ keys) (part ∷ parts) are = (part_value body path (is_instant_path columns path) part are.0, key_values columns body keys parts are.1)

-- ---- the blob

abbrev cursor_key : List ℕ
cursor_key = codes "cursor"

abbrev key_key : List ℕ
key_key = codes "key"

abbrev blob_parts : List ℕ → List ℕ → List Part
blob_parts cursor key = named cursor_key cursor ∷ named key_key key ∷ []

named_parts : (cursor key : List ℕ) → AreNamed (blob_parts cursor key)
named_parts cursor key =
    (record { name = cursor_key; utf8 = IsUtf8-are_ascii cursor_key refl; key = refl }, (record { name = key_key; utf8 = IsUtf8-are_ascii key_key refl; key = refl }, tt))

sound_parts : (cursor key : List ℕ) → IsValueWithin 101 cursor → IsValueWithin 101 key → AreSound 101 (blob_parts cursor key)
sound_parts cursor key pointed keyed = (
  record { name = cursor_key; key = quoted_string cursor_key (IsUtf8-are_ascii cursor_key refl); value = pointed },
  (record { name = key_key; key = quoted_string key_key (IsUtf8-are_ascii key_key refl); value = keyed }, tt),
)

as_members : (limit : ℕ) (text : List ℕ) (members : List Member) → limit ≤ line_depth → AreMembers limit text members → AreMembers line_depth text members
as_members limit text members less are = let within = are.within in record { deep = are.deep; within = omega (arith, less, within); object = are.object }

as_elements : (limit : ℕ) (text : List ℕ) (spans : List Span) → limit ≤ line_depth → AreElements limit text spans → AreElements line_depth text spans
as_elements limit text spans less are = let within = are.within in record { deep = are.deep; within = omega (arith, less, within); array = are.array }

pub empty_blob : IsEmptyBlob (object_text [])
empty_blob =
    let o = object_of 0 [] tt in
    subst (AreMembers line_depth (object_text [])) (no_members o.members o.cut) (as_members 1 (object_text []) o.members (omega arith) o.are)
  where
    no_members : (members : List Member) → map (part_at (object_text [])) members ≡ [] → members ≡ []
    no_members [] e = refl
    no_members (m ∷ members) e = cc

blob_place : (cursor : List ℕ) (items : List (List ℕ)) → IsValueWithin 100 cursor → AreWithin 100 items
    → (place : Place) × IsPlaceCut (object_text (blob_parts cursor (list_text items))) place × (place.cursor ≡ cursor) × (key_texts place ≡ items)
blob_place cursor items pointed within =
    let l = list_of 100 items within in
    let text = object_text (blob_parts cursor (list_text items)) in
    let o = object_of 101 (blob_parts cursor (list_text items)) (sound_parts cursor (list_text items) (within_more 100 101 cursor (omega arith) pointed) l.value) in
    let object = as_members 102 text o.members (omega arith) o.are in
    let pairs : List (List ℕ × List ℕ) = (cursor_key, cursor) ∷ (key_key, list_text items) ∷ [] in
    let held : (name : List ℕ) → Holds text name o.members (last_by_name name pairs) = λ name.
    from_parts text name o.members (last_by_name name pairs) (subst (λ (ps : List Part). PartsHold name ps (last_by_name name pairs)) (sym o.cut) (pairs_hold name pairs (named_parts cursor (list_text items)))) in (
      record { cursor = cursor; key = list_text items; spans = l.spans },
      record {
        members = o.members;
        object = object;
        two = sym (length-map o.members (part_at text)) ∙ ap length o.cut;
        cursor = record { members = o.members; object = object; holds = held cursor_key };
        key = record { members = o.members; object = object; holds = held key_key };
        elements = as_elements 101 (list_text items) l.spans (omega arith) l.are;
      },
      refl,
      l.cut,
    )

-- ---- it is read back

pub read_back : BlobsReadBack
read_back keying row keyed is =
    let body : IsValueWithin 100 keyed.body = subst (IsValueWithin 100) (sym is.body) (body_within row.body is.fits) in
    let items = map (λ (part : RowPart). part.text) keyed.key in
    let found = blob_place keyed.cursor.text items (cursor_within keying.columns keyed.body keying.cursor keyed.cursor body is.cursor) (key_within keying.columns keyed.body keying.key keyed.key body is.key) in
    let place = found.0 in
    let values : AreValuesAt keying place (values_of keyed) = record {
      cursor = keyed.cursor.value;
      cursor_value = subst (λ (t : List ℕ). IsValueOf (instant_at keying.columns keying.cursor) t keyed.cursor.value) (sym found.2) (cursor_value keying.columns keyed.body keying.cursor keyed.cursor is.cursor);
      key = map (λ (part : RowPart). part.value) keyed.key;
      key_values = subst (λ (ts : List (List ℕ)). AreKeyValues keying.columns keying.key ts (map (λ (part : RowPart). part.value) keyed.key)) (sym found.3) (key_values keying.columns keyed.body keying.key keyed.key is.key);
      is = refl;
    } in
    record { place = place; cut = found.1; are = values }
