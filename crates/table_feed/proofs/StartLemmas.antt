-- What a blob says, from its parts.
use Rattle.std.proofs.Common.{◌≡◌, ◌≢◌, ◌∙◌, ◌↔◌, inl, inr, ℕ, ◌+◌, ◌<◌, ◌==◌, List, [], ◌∷◌, ◌++◌, length, take, get_or, map, codes, Bool, true, false, IsTrue, Option, None, Some, refl, sym, ap, subst}
use Rattle.std.proofs.lemmas.Bool.Decides.{Decides-eqb}
use Rattle.std.proofs.lemmas.List.{take_more, map-append}
use Rattle.json_span.specs.Members.{AreMembers, text_at}
use Rattle.json_span.specs.Elements.{AreElements}
use Rattle.json_span.specs.declared.Member.{Member}
use Rattle.json_span.specs.declared.Span.{Span}
use Rattle.json_fields.specs.Answer.{IsAnswer, IsOnly}
use Rattle.json_fields.specs.Fields.{HasField, IsCut, line_depth}
use Rattle.json_fields.specs.Parts.{IsCutList}
use Rattle.value_order.specs.declared.value.Value.{Value}
use Rattle.catalog.specs.Entry.{PathNames}
use Rattle.column_types.specs.Columns.{is_instant_path}
use Rattle.column_types.specs.Values.{IsFoundValue, IsValueOf}
use Rattle.column_types.specs.Words.{IsValueAlong}
use Rattle.column_types.specs.declared.column.Column.{Column}
use Rattle.table_source.specs.declared.keying.Keying.{Keying}
use Rattle.table_feed.specs.Start.{AreKeyValues, AreValuesAt, IsEmptyBlob, IsPlaceCut, IsPlaceOf, IsStartBlob, Place, instant_at, key_texts}

-- ---- the texts of a blob

pub no_object : (text : List ℕ) → ((members : List Member) → ¬ AreMembers line_depth text members) → IsAnswer (IsPlaceCut text) None
no_object text none = λ place is. none is.members is.object

pub other_count : (text : List ℕ) (members : List Member) → IsCut text members → length members ≢ 2 → IsAnswer (IsPlaceCut text) None
other_count text members cut apart = λ place is. apart (sym (ap length (cut.only is.members is.object)) ∙ is.two)

pub no_cursor : (text : List ℕ) → IsAnswer (HasField text (codes "cursor")) None → IsAnswer (IsPlaceCut text) None
no_cursor text none = λ place is. none place.cursor is.cursor

pub no_key : (text : List ℕ) → IsAnswer (HasField text (codes "key")) None → IsAnswer (IsPlaceCut text) None
no_key text none = λ place is. none place.key is.key

pub no_array : (text key : List ℕ) → IsOnly (HasField text (codes "key")) key → ((spans : List Span) → ¬ AreElements line_depth key spans) → IsAnswer (IsPlaceCut text) None
no_array text key field none = λ place is. none place.spans (subst (λ (t : List ℕ). AreElements line_depth t place.spans) (field.only place.key is.key) is.elements)

pub is_place : (text cursor key : List ℕ) (members : List Member) (spans : List Span) → IsCut text members → length members ≡ 2 → IsOnly (HasField text (codes "cursor")) cursor
    → IsOnly (HasField text (codes "key")) key → IsCutList key spans → IsOnly (IsPlaceCut text) (record { cursor = cursor; key = key; spans = spans })
is_place text cursor key members spans cut two pointed keyed listed = record {
  is = record { members = members; object = cut.are; two = two; cursor = pointed.is; key = keyed.is; elements = listed.are };
  only = λ other is. λ k. record {
    cursor = pointed.only other.cursor is.cursor k;
    key = keyed.only other.key is.key k;
    spans = listed.only other.spans (subst (λ (t : List ℕ). AreElements line_depth t other.spans) (keyed.only other.key is.key) is.elements) k;
  };
}

-- ---- whether a stream can start with it

pub empty_is : (text : List ℕ) (members : List Member) (is : Bool) → IsCut text members → IsTrue is ↔ (members ≡ []) → IsTrue is ↔ IsEmptyBlob text
empty_is text members is cut told =
    (λ e. subst (λ (ms : List Member). AreMembers line_depth text ms) (told.0 e) cut.are, λ are. told.1 (sym (cut.only [] are)))

pub none_empty : (text : List ℕ) → ((members : List Member) → ¬ AreMembers line_depth text members) → ¬ IsEmptyBlob text
none_empty text none are = none [] are

pub counted_is : (text : List ℕ) (place : Place) (size count : ℕ) → IsOnly (IsPlaceCut text) place → size ≡ length place.spans → IsTrue (size == count) ↔ IsPlaceOf count text
counted_is text place size count only size_is = (
  λ e. record { place = place; cut = only.is; counted = sym size_is ∙ (Decides-eqb size count).0 (is_true (size == count) e) },
  λ is. true_is (size == count) ((Decides-eqb size count).1 (size_is ∙ ap (λ (p : Place). length p.spans) (sym (only.only is.place is.cut)) ∙ is.counted)),
)
  where
    is_true : (b : Bool) → IsTrue b → b ≡ true
    is_true true e = refl
    is_true false e = cc

    true_is : (b : Bool) → b ≡ true → IsTrue b
    true_is true e = refl
    true_is false e = cc

pub no_place : (text : List ℕ) (count : ℕ) → IsAnswer (IsPlaceCut text) None → ¬ IsPlaceOf count text
no_place text count none is = none is.place is.cut

pub other_size : (text : List ℕ) (place : Place) (size count : ℕ) → IsOnly (IsPlaceCut text) place → size ≡ length place.spans → size ≢ count → ¬ IsPlaceOf count text
other_size text place size count only size_is apart = λ is. apart (size_is ∙ ap (λ (p : Place). length p.spans) (sym (only.only is.place is.cut)) ∙ is.counted)

-- ---- the values

pub along_value : (text : List ℕ) (instants : Bool) (value : Value) → IsValueAlong text [] instants value → IsValueOf instants text value
along_value text instants value along = subst (λ (found : Option (List ℕ)). IsFoundValue instants found value) along.reached along.is

pub value_with : (columns : List Column) (cursor : Option PathNames) (path : PathNames) (text : List ℕ) (instants : Bool) (value : Value) → cursor ≡ Some path → instants ≡ is_instant_path columns path
    → IsValueAlong text [] instants value → IsValueOf (instant_at columns cursor) text value
value_with columns cursor path text instants value is told along =
    subst (λ (b : Bool). IsValueOf b text value) (told ∙ ap (instant_at columns) (sym is)) (along_value text instants value along)

pub value_without : (columns : List Column) (cursor : Option PathNames) (text : List ℕ) (value : Value) → cursor ≡ None → IsValueAlong text [] false value → IsValueOf (instant_at columns cursor) text value
value_without columns cursor text value is along = subst (λ (b : Bool). IsValueOf b text value) (ap (instant_at columns) (sym is)) (along_value text false value along)

values_push : (columns : List Column) (paths : List PathNames) (texts : List (List ℕ)) (values : List Value) (path : PathNames) (text : List ℕ) (value : Value)
    → AreKeyValues columns paths texts values → IsValueOf (is_instant_path columns path) text value → AreKeyValues columns (paths ++ path ∷ []) (texts ++ text ∷ []) (values ++ value ∷ [])
values_push columns [] [] [] path text value are here = (here, tt)
values_push columns [] [] (v ∷ values) path text value are here = absurd are
values_push columns [] (t ∷ texts) values path text value are here = absurd are
values_push columns (p ∷ paths) [] values path text value are here = absurd are
values_push columns (p ∷ paths) (t ∷ texts) [] path text value are here = absurd are
values_push columns (p ∷ paths) (t ∷ texts) (v ∷ values) path text value are here = (are.0, values_push columns paths texts values path text value are.1 here)

-- a value more
pub values_more : (columns : List Column) (paths : List PathNames) (key : List ℕ) (spans : List Span) (values now : List Value) (at : ℕ) (path : PathNames) (default : Span) (held : List ℕ) (instants : Bool) (value : Value)
    → at < length paths → at < length spans → path ≡ get_or paths at path → held ≡ text_at key (get_or spans at default) → instants ≡ is_instant_path columns path
    → IsValueAlong held [] instants value → now ≡ values ++ value ∷ [] → AreKeyValues columns (take at paths) (map (text_at key) (take at spans)) values
    → AreKeyValues columns (take (at + 1) paths) (map (text_at key) (take (at + 1) spans)) now
values_more columns paths key spans values now at path default held instants value in_paths in_spans path_is held_is told along now_is are =
    let span = get_or spans at default in
    let here : IsValueOf (is_instant_path columns path) (text_at key span) value =
    subst (λ (t : List ℕ). IsValueOf (is_instant_path columns path) t value) held_is (subst (λ (b : Bool). IsValueOf b held value) told (along_value held instants value along)) in
    let more_paths : take (at + 1) paths ≡ take at paths ++ path ∷ [] = take_more paths at path in_paths ∙ ap (λ (p : PathNames). take at paths ++ p ∷ []) (sym path_is) in
    let more_spans : take (at + 1) spans ≡ take at spans ++ span ∷ [] = take_more spans at default in_spans in
    let more_texts : map (text_at key) (take (at + 1) spans) ≡ map (text_at key) (take at spans) ++ text_at key span ∷ [] = ap (map (text_at key)) more_spans ∙ map-append (text_at key) (take at spans) (span ∷ []) in
    subst (λ (vs : List Value). AreKeyValues columns (take (at + 1) paths) (map (text_at key) (take (at + 1) spans)) vs) (sym now_is)
    (subst (λ (ps : List PathNames). AreKeyValues columns ps (map (text_at key) (take (at + 1) spans)) (values ++ value ∷ [])) (sym more_paths)
    (subst (λ (ts : List (List ℕ)). AreKeyValues columns (take at paths ++ path ∷ []) ts (values ++ value ∷ [])) (sym more_texts)
    (values_push columns (take at paths) (map (text_at key) (take at spans)) values path (text_at key span) value are here)))

pub values_at : (keying : Keying) (place : Place) (cursor : Value) (key made : List Value) → IsValueOf (instant_at keying.columns keying.cursor) place.cursor cursor
    → AreKeyValues keying.columns keying.key (key_texts place) key → made ≡ cursor ∷ key → AreValuesAt keying place made
values_at keying place cursor key made pointed keyed is = record { cursor = cursor; cursor_value = pointed; key = key; key_values = keyed; is = is }

-- ---- behind which values it starts

pub neither : (text : List ℕ) (count : ℕ) → ¬ IsEmptyBlob text → ¬ IsPlaceOf count text → ¬ IsStartBlob count (Some text)
neither text count empty place (inl is) = empty is
neither text count empty place (inr is) = place is

not_true : (b : Bool) → b ≡ false → IsTrue b → ⊥
not_true true e h = cc
not_true false e h = cc

pub nowhere : (text : List ℕ) (is : Bool) → IsTrue is ↔ IsEmptyBlob text → is ≡ false → ¬ IsEmptyBlob text
nowhere text is told e empty = not_true is e (told.1 empty)
