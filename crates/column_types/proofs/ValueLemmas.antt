-- Values by the forms of their texts, and steps along a path.
use Rattle.std.proofs.Common.{◌≡◌, ◌≢◌, inl, inr, ℕ, ◌+◌, ◌<◌, ◌≤◌, List, [], ◌∷◌, length, get_or, drop, flat_map, Option, None, Some, Bool, false, IsTrue, refl, sym, ap, ◌∙◌, subst, rules, arith, add-one, drop-cons}
use Rattle.json_scalar.specs.Text.{IsString, piece_meaning}
use Rattle.json_span.specs.Grammar as json
use Rattle.json_span.specs.Grammar.{value_text}
use Rattle.json_span.specs.Members.{AreMembers, IsValue, IsSomeObject}
use Rattle.json_span.specs.Elements.{IsSomeArray}
use Rattle.json_span.specs.declared.Member.{Member}
use Rattle.json_span.proofs.First.{first_tells}
use Rattle.json_span.proofs.ArrayFirst.{first_tells_array}
use Rattle.json_fields.specs.Fields.{HasField, line_depth}
use Rattle.json_fields.specs.Parts.{IsNumber}
use Rattle.json_squeeze.specs.Squeeze.{squeezed}
use Rattle.value_order.specs.declared.value.Value.{Value}
use Rattle.value_order.specs.declared.value.Value.TheVariants.{Null, Other}
use Rattle.column_types.specs.Values.{HasValue, Reaches}
use Rattle.column_types.specs.Typed.{IsSomeString}
use Rattle.column_types.specs.Words.{IsWord, IsValueAlong}
use Rattle.json_fields.proofs.PartLemmas.{number_tells}
use Rattle.std.specs.Char.{is_ascii_digit}
use Rattle.std.proofs.lemmas.Bool.{true≢false}
use Rattle.std.proofs.lemmas.List.{drop_all}

pub not_true : IsTrue false → ⊥
not_true e = search (rules, e)

-- what is no object, no array, no number and no string is a word
pub value_word : (text : List ℕ) → IsValue text → ¬ IsSomeObject text → ¬ IsSomeArray text → ¬ IsNumber text → ((meaning : List ℕ) → ¬ IsString text meaning) → IsWord text
value_word text is object array number string = go is.value is.spelled
  where
    go : (v : json.Value) → text ≡ value_text v → IsWord text
    go json.null e = inl e
    go json.yes e = inr (inl e)
    go json.no e = inr (inr e)
    go (json.number literal) e = absurd (number (record { literal = literal; spelled = e }))
    go (json.string pieces) e = absurd (string (flat_map piece_meaning pieces) (record { utf8 = is.utf8; pieces = pieces; spelled = e; means = refl }))
    go (json.empty_array spaces) e = absurd (array ((first_tells_array text is).0 (ap (λ (t : List ℕ). get_or t 0 0) e)))
    go (json.array before v after items) e = absurd (array ((first_tells_array text is).0 (ap (λ (t : List ℕ). get_or t 0 0) e)))
    go (json.empty_object spaces) e = absurd (object ((first_tells text is).0 (ap (λ (t : List ℕ). get_or t 0 0) e)))
    go (json.object before key behind ahead v after members) e = absurd (object ((first_tells text is).0 (ap (λ (t : List ℕ). get_or t 0 0) e)))

-- the walk along a path so far: what is reached from here on is reached from the beginning
pub record IsWalked (text : List ℕ) (names : List (List ℕ)) (i : ℕ) (at : List ℕ) : Type 0 where
  pub reached : (found : Option (List ℕ)) → Reaches at (drop i names) found → Reaches text names found
  pub value : IsValue at

drop_name : (names : List (List ℕ)) (i : ℕ) (d : List ℕ) → i < length names → drop i names ≡ get_or names i d ∷ drop (i + 1) names
drop_name names i d inside = rw (add-one, drop-cons names i d) refl

pub walk_on : (text : List ℕ) (names : List (List ℕ)) (i : ℕ) (at name held : List ℕ) → i < length names → name ≡ get_or names i name → IsWalked text names i at → HasField at name held → IsValue held → IsWalked text names (i + 1) held
walk_on text names i at name held inside is walked field value = record {
  reached = λ found r. walked.reached found (subst (λ (l : List (List ℕ)). Reaches at l found) (sym (drop_name names i name inside ∙ ap (λ (n : List ℕ). n ∷ drop (i + 1) names) (sym is))) (inl (held, field, r)));
  value = value;
}

pub walk_ends : (text : List ℕ) (names : List (List ℕ)) (i : ℕ) (at name : List ℕ) → i < length names → name ≡ get_or names i name → IsWalked text names i at → ((held : List ℕ) → ¬ HasField at name held) → Reaches text names None
walk_ends text names i at name inside is walked none =
    walked.reached None (subst (λ (l : List (List ℕ)). Reaches at l None) (sym (drop_name names i name inside ∙ ap (λ (n : List ℕ). n ∷ drop (i + 1) names) (sym is))) (inr (none, refl)))

drop_past : (names : List (List ℕ)) (i : ℕ) → length names ≤ i → drop i names ≡ []
drop_past names i past = drop_all i names past

pub walk_done : (text : List ℕ) (names : List (List ℕ)) (i : ℕ) (at : List ℕ) → length names ≤ i → IsWalked text names i at → Reaches text names (Some at)
walk_done text names i at past walked = walked.reached (Some at) (subst (λ (l : List (List ℕ)). Reaches at l (Some at)) (sym (drop_past names i past)) refl)

pub no_field : (text name : List ℕ) → ((members : List Member) → ¬ AreMembers line_depth text members) → (held : List ℕ) → ¬ HasField text name held
no_field text name none held field = none field.members field.object

pub root_walked : (body name : List ℕ) (names : List (List ℕ)) (path : List (List ℕ)) (instants : Bool) (members : List Member) → AreMembers line_depth body members → path ≡ name ∷ names → ((held : List ℕ) → ¬ HasField body name held) → HasValue body path instants Null
root_walked body name names path instants members are is none = record {
  found = None;
  stands = inl (record { members = members; object = are }, subst (λ (l : List (List ℕ)). Reaches body l None) (sym is) (inr (none, refl)));
  is = refl;
}

pub root_field : (body name held : List ℕ) (names : List (List ℕ)) (path : List (List ℕ)) (instants : Bool) (members : List Member) (value : Value) → AreMembers line_depth body members → path ≡ name ∷ names → HasField body name held → IsValueAlong held names instants value → HasValue body path instants value
root_field body name held names path instants members value are is field along = record {
  found = along.found;
  stands = inl (record { members = members; object = are }, subst (λ (l : List (List ℕ)). Reaches body l along.found) (sym is) (inl (held, field, along.reached)));
  is = along.is;
}

pub root_itself : (body bytes : List ℕ) (path : List (List ℕ)) (instants : Bool) (members : List Member) → AreMembers line_depth body members → path ≡ [] → bytes ≡ squeezed body → HasValue body path instants (Other bytes)
root_itself body bytes path instants members are is dense = record {
  found = Some body;
  stands = inl (record { members = members; object = are }, subst (λ (l : List (List ℕ)). Reaches body l (Some body)) (sym is) refl);
  is = (inr (inl (record { deep = are.deep; members = members; object = are.object })), dense);
}

pub no_data : (body : List ℕ) (path : List (List ℕ)) (instants : Bool) → ((members : List Member) → ¬ AreMembers line_depth body members) → HasValue body path instants Null
no_data body path instants none = record { found = None; stands = inr (λ is. none is.members is.object, refl); is = refl }

pub no_length : (names : List (List ℕ)) → length names ≡ 0 → names ≡ []
no_length [] none = refl
no_length (name ∷ names) none = absurd (omega arith)

-- a string begins with a quotation mark, and nothing else does
pub string_first : (text : List ℕ) → IsValue text → get_or text 0 0 ≡ 34 → IsSomeString text
string_first text is first = go is.value is.spelled
  where
    other : (n : ℕ) → get_or text 0 0 ≡ n → n ≢ 34 → IsSomeString text
    other n e apart = absurd (apart (sym e ∙ first))

    go : (v : json.Value) → text ≡ value_text v → IsSomeString text
    go json.null e = other 110 (ap (λ (t : List ℕ). get_or t 0 0) e) (λ h. omega (arith, h))
    go json.yes e = other 116 (ap (λ (t : List ℕ). get_or t 0 0) e) (λ h. omega (arith, h))
    go json.no e = other 102 (ap (λ (t : List ℕ). get_or t 0 0) e) (λ h. omega (arith, h))
    go (json.number literal) e = elim (number_tells text (record { literal = literal; spelled = e })) [
      | inl minus ↦ other 45 minus (λ h. omega (arith, h))
      | inr digit ↦ absurd (true≢false (sym digit ∙ ap is_ascii_digit first))
    ]
    go (json.string pieces) e = record { meaning = flat_map piece_meaning pieces; string = record { utf8 = is.utf8; pieces = pieces; spelled = e; means = refl } }
    go (json.empty_array spaces) e = other 91 (ap (λ (t : List ℕ). get_or t 0 0) e) (λ h. omega (arith, h))
    go (json.array before v after items) e = other 91 (ap (λ (t : List ℕ). get_or t 0 0) e) (λ h. omega (arith, h))
    go (json.empty_object spaces) e = other 123 (ap (λ (t : List ℕ). get_or t 0 0) e) (λ h. omega (arith, h))
    go (json.object before key behind ahead v after members) e = other 123 (ap (λ (t : List ℕ). get_or t 0 0) e) (λ h. omega (arith, h))

pub string_begins : (text : List ℕ) → IsSomeString text → get_or text 0 0 ≡ 34
string_begins text is = ap (λ (t : List ℕ). get_or t 0 0) is.string.spelled
