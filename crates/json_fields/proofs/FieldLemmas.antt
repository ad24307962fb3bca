-- Members by name: at most one answer, and one more member at the end.
use Rattle.std.proofs.Common.{◌≡◌, inl, inr, ℕ, List, [], ◌∷◌, ◌++◌, Option, None, Some, refl, sym, ◌∙◌, ap, subst, ◌<◌, ◌+◌, length, take, slice_index_or, codes, Bool, true, false, cond, Result, Ok, Err, IfOk, IfSome, IfNone, IsTrue, ◌↔◌}
use Rattle.std.proofs.lemmas.List.{take_more}
use Rattle.std.specs.Str.{bytes_eq}
use Rattle.json_scalar.specs.Text.{IsString, IsNoString}
use Rattle.basics.specs.declared.memory.NoMemory.{NoMemory}
use Rattle.json_span.specs.Members.{text_at}
use Rattle.json_span.specs.declared.Member.{Member}
use Rattle.json_fields.specs.Answer.{IsAnswer, IsOnly}
use Rattle.json_fields.specs.Fields.{IsNamed, Holds, HoldsBefore, HasField, HasOptional, HasText, HasOptionalText, IsOptionalText, IsCut, present}

pub HoldsBefore-only : (text name : List ℕ) (m : Member) (later a b : Option (List ℕ)) → HoldsBefore text name m later a → HoldsBefore text name m later b → a ≡ b
HoldsBefore-only text name m (Some later) a b ha hb = ha ∙ sym hb
HoldsBefore-only text name m None a b (inl ha) (inl hb) = ha.1 ∙ sym hb.1
HoldsBefore-only text name m None a b (inl ha) (inr hb) = absurd (hb.0 ha.0)
HoldsBefore-only text name m None a b (inr ha) (inl hb) = absurd (ha.0 hb.0)
HoldsBefore-only text name m None a b (inr ha) (inr hb) = ha.1 ∙ sym hb.1

pub Holds-only : (text name : List ℕ) (members : List Member) (a b : Option (List ℕ)) → Holds text name members a → Holds text name members b → a ≡ b
Holds-only text name [] a b ha hb = ha ∙ sym hb
Holds-only text name (m ∷ members) a b ha hb =
    let same = Holds-only text name members ha.0 hb.0 ha.1 hb.1 in
    HoldsBefore-only text name m hb.0 a b (subst (λ (later : Option (List ℕ)). HoldsBefore text name m later a) same ha.2) hb.2

-- one more member at the end
pub Holds-named : (text name : List ℕ) (members : List Member) (m : Member) (found : Option (List ℕ)) → Holds text name members found → IsNamed text name m → Holds text name (members ++ m ∷ []) (Some (text_at text m.value))
Holds-named text name [] m found h named = (None, refl, inl (named, refl))
Holds-named text name (x ∷ members) m found h named = (Some (text_at text m.value), Holds-named text name members m h.0 h.1 named, refl)

pub Holds-other : (text name : List ℕ) (members : List Member) (m : Member) (found : Option (List ℕ)) → Holds text name members found → ¬ IsNamed text name m → Holds text name (members ++ m ∷ []) found
Holds-other text name [] m found h other = (None, refl, inr (other, h))
Holds-other text name (x ∷ members) m found h other = (h.0, Holds-other text name members m h.0 h.1 other, h.2)

pub Some-injective : {A : Type 0} (a b : A) → Some a ≡ Some b → a ≡ b
Some-injective a b e = cc

pub None-Some : {A : Type 0} (a : A) → Some a ≡ None → ⊥
None-Some a e = cc

-- a cut object has what its members hold
pub holds-of_field : (text name : List ℕ) (members : List Member) (held : List ℕ) → IsCut text members → HasField text name held → Holds text name members (Some held)
holds-of_field text name members held cut field = subst (λ (ms : List Member). Holds text name ms (Some held)) (cut.only field.members field.object) field.holds

pub field_answer : (text name : List ℕ) (members : List Member) (found : Option (List ℕ)) → IsCut text members → IsOnly (Holds text name members) found → IsAnswer (HasField text name) found
field_answer text name members None cut only = λ held field. None-Some held (only.only (Some held) (holds-of_field text name members held cut field))
field_answer text name members (Some held) cut only = record {
  is = record { members = members; object = cut.are; holds = only.is };
  only = λ other field. Some-injective other held (only.only (Some other) (holds-of_field text name members other cut field));
}

pub optional_only : (text name : List ℕ) (members : List Member) (found : Option (List ℕ)) → IsCut text members → IsOnly (Holds text name members) found → IsOnly (HasOptional text name) (present found)
optional_only text name members found cut only = record {
  is = record { members = members; object = cut.are; held = found; holds = only.is; is = refl };
  only = λ other optional. optional.is ∙ ap present (only.only optional.held (subst (λ (ms : List Member). Holds text name ms optional.held) (cut.only optional.members optional.object) optional.holds));
}

-- a text field, where the field is there and where it is not
pub text_answer : (text name held : List ℕ) (meaning : Option (List ℕ)) → IsOnly (HasField text name) held → IsAnswer (IsString held) meaning → IsAnswer (HasText text name) meaning
text_answer text name held None field string = λ meaning has. string meaning (subst (λ (h : List ℕ). IsString h meaning) (field.only has.held has.field) has.string)
text_answer text name held (Some meaning) field string = record {
  is = record { held = held; field = field.is; string = string.is };
  only = λ other has. string.only other (subst (λ (h : List ℕ). IsString h other) (field.only has.held has.field) has.string);
}

pub text_absent : (text name : List ℕ) → IsAnswer (HasField text name) None → IsAnswer (HasText text name) None
text_absent text name field = λ meaning has. field has.held has.field

-- an optional text
pub optional_text_absent : (text name : List ℕ) → IsOnly (HasOptional text name) None → IsAnswer (HasOptionalText text name) (Some None)
optional_text_absent text name optional = record {
  is = record { held = None; optional = optional.is; string = refl };
  only = λ other has. absent other has.held (optional.only has.held has.optional) has.string;
}
  where
    absent : (other : Option (List ℕ)) (held : Option (List ℕ)) → held ≡ None → IsOptionalText held other → other ≡ None
    absent other None e string = string
    absent other (Some held) e string = absurd (None-Some held e)

pub string_of_optional : (held : List ℕ) (found : Option (List ℕ)) (meaning : Option (List ℕ)) → found ≡ Some held → IsOptionalText found meaning → (text : List ℕ) × (meaning ≡ Some text) × IsString held text
string_of_optional held None meaning e string = absurd (None-Some held (sym e))
string_of_optional held (Some found) None e string = absurd string
string_of_optional held (Some found) (Some text) e string = (text, refl, subst (λ (h : List ℕ). IsString h text) (Some-injective found held e) string)

abbrev pub wrapped : Option (List ℕ) → Option (Option (List ℕ))
wrapped None = None
wrapped (Some text) = Some (Some text)

pub optional_text_answer : (text name held : List ℕ) (meaning : Option (List ℕ)) → IsOnly (HasOptional text name) (Some held) → IsAnswer (IsString held) meaning → IsAnswer (HasOptionalText text name) (wrapped meaning)
optional_text_answer text name held None optional string = λ other has.
    let found = string_of_optional held has.held other (optional.only has.held has.optional) has.string in string found.0 found.2
optional_text_answer text name held (Some meaning) optional string = record {
  is = record { held = Some held; optional = optional.is; string = string.is };
  only = λ other has.
      let found = string_of_optional held has.held other (optional.only has.held has.optional) has.string in
      found.1 ∙ ap (λ (t : List ℕ). Some t) (string.only found.0 found.2);
}

-- a loop over the members goes on by one
pub Holds-step_named : (text name : List ℕ) (members : List Member) (i : ℕ) (d : Member) (key : List ℕ) (found : Option (List ℕ)) → i < length members → key ≡ text_at text (slice_index_or members i d).key → IsString key name → Holds text name (take i members) found → Holds text name (take (i + 1) members) (Some (text_at text (slice_index_or members i d).value))
Holds-step_named text name members i d key found lt is named h =
    subst (λ (ms : List Member). Holds text name ms (Some (text_at text (slice_index_or members i d).value))) (sym (take_more members i d lt)) (Holds-named text name (take i members) (slice_index_or members i d) found h (subst (λ (k : List ℕ). IsString k name) is named))

pub Holds-step_other : (text name : List ℕ) (members : List Member) (i : ℕ) (d : Member) (key : List ℕ) (found : Option (List ℕ)) → i < length members → key ≡ text_at text (slice_index_or members i d).key → ¬ IsString key name → Holds text name (take i members) found → Holds text name (take (i + 1) members) found
Holds-step_other text name members i d key found lt is other h =
    subst (λ (ms : List Member). Holds text name ms found) (sym (take_more members i d lt)) (Holds-other text name (take i members) (slice_index_or members i d) found h (λ named. other (subst (λ (k : List ℕ). IsString k name) (sym is) named)))

-- an optional member that is there, that is null, and that is absent
pub optional_shown : (text name : List ℕ) (members : List Member) (found : Option (List ℕ)) (held : List ℕ) → IsCut text members → IsOnly (Holds text name members) found → found ≡ Some held → bytes_eq held (codes "null") ≡ false → IsOnly (HasOptional text name) (Some held)
optional_shown text name members found held cut only e shown =
    subst (λ (f : Option (List ℕ)). IsOnly (HasOptional text name) f) (ap present e ∙ ap (λ (b : Bool). cond b None (Some held)) shown) (optional_only text name members found cut only)

pub optional_null : (text name : List ℕ) (members : List Member) (found : Option (List ℕ)) (held : List ℕ) → IsCut text members → IsOnly (Holds text name members) found → found ≡ Some held → bytes_eq held (codes "null") ≡ true → IsOnly (HasOptional text name) None
optional_null text name members found held cut only e null =
    subst (λ (f : Option (List ℕ)). IsOnly (HasOptional text name) f) (ap present e ∙ ap (λ (b : Bool). cond b None (Some held)) null) (optional_only text name members found cut only)

pub optional_none : (text name : List ℕ) (members : List Member) (found : Option (List ℕ)) → IsCut text members → IsOnly (Holds text name members) found → found ≡ None → IsOnly (HasOptional text name) None
optional_none text name members found cut only e =
    subst (λ (f : Option (List ℕ)). IsOnly (HasOptional text name) f) (ap present e) (optional_only text name members found cut only)

-- what `text_of` ensures is an answer
pub string_found : (text : List ℕ) (found : Option (List ℕ)) → IfSome found (IsString text) → IfSome found (λ name. (meaning : List ℕ) → IsString text meaning → meaning ≡ name) → IfNone found (IsNoString text) → IsAnswer (IsString text) found
string_found text None string only none = none
string_found text (Some name) string only none = record { is = string; only = only }

pub string_answer : (text : List ℕ) (result : Result (Option (List ℕ)) NoMemory) → IfOk result (λ found. IfSome found (IsString text)) → IfOk result (λ found. IfSome found (λ name. (meaning : List ℕ) → IsString text meaning → meaning ≡ name)) → IfOk result (λ found. IfNone found (IsNoString text)) → IfOk result (IsAnswer (IsString text))
string_answer text (Ok found) string only none = string_found text found string only none
string_answer text (Err fault) string only none = tt

-- whether a text field stands for this, where the field is there and where it is not
pub has_text_iff : (text name meaning held : List ℕ) (is : Bool) → IsOnly (HasField text name) held → IsTrue is ↔ IsString held meaning → IsTrue is ↔ HasText text name meaning
has_text_iff text name meaning held is field string = (
  λ yes. record { held = held; field = field.is; string = string.0 yes },
  λ has. string.1 (subst (λ (h : List ℕ). IsString h meaning) (field.only has.held has.field) has.string),
)

pub has_text_absent : (text name meaning : List ℕ) → IsAnswer (HasField text name) None → IsTrue false ↔ HasText text name meaning
has_text_absent text name meaning field = (λ yes. absurd (not_true yes), λ has. absurd (field has.held has.field))
  where
    not_true : IsTrue false → ⊥
    not_true e = cc
