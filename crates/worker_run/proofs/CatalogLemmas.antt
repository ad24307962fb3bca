-- The answer on a catalog from the answers on its members.
use Rattle.std.proofs.Common.{◌≡◌, ◌↔◌, ℕ, List, [], ◌∷◌, ◌++◌, Option, None, Some, false, IsTrue, IfNone, codes, sym, ◌∙◌, subst}
use Rattle.std.proofs.lemmas.List.{append_cancel_right}
use Rattle.json_span.specs.Members.{AreMembers}
use Rattle.json_span.specs.declared.Member.{Member}
use Rattle.json_fields.specs.Answer.{IsAnswer, IsOnly}
use Rattle.json_fields.specs.Fields.{HasField, HasOptional, HasText, line_depth}
use Rattle.worker_run.specs.Catalog.{IsNamedStream, IsAppendEntry, IsEntry, IsCatalog, one_entry}

-- an answer that is known by another name
pub along : {A : Type 0} (P : A → Type 0) (found known : Option A) → found ≡ known → IsAnswer P found → IsAnswer P known
along P found known e answer = subst (λ (f : _). IsAnswer P f) e answer

-- nothing was cut, so the text is no object
pub uncut : (text : List ℕ) (found : Option (List Member)) → found ≡ None → IfNone found ((members : List Member) → ¬ AreMembers line_depth text members) → (members : List Member) → ¬ AreMembers line_depth text members
uncut text found e none = subst (λ (f : Option (List Member)). IfNone f ((members : List Member) → ¬ AreMembers line_depth text members)) e none

pub absent_present : {A : Type 0} (held : A) → None ≡ Some held → ⊥
absent_present held e = cc

-- a stream that has a namespace, and one that has none
pub has_namespace : (text held : List ℕ) (found : Option (List ℕ)) → found ≡ Some held → IsOnly (HasOptional text (codes "namespace")) found → (name : List ℕ) → ¬ IsNamedStream text name
has_namespace text held found e only name is = absent_present held (only.only None is.no_namespace ∙ e)

pub named_answer : (text : List ℕ) (absent found : Option (List ℕ)) → absent ≡ None → IsOnly (HasOptional text (codes "namespace")) absent → IsAnswer (HasText text (codes "name")) found → IsAnswer (IsNamedStream text) found
named_answer text absent None e only answer = λ name is. answer name is.name_text
named_answer text absent (Some name) e only answer = record {
  is = record { name_text = answer.is; no_namespace = subst (λ (f : Option (List ℕ)). HasOptional text (codes "namespace") f) e only.is };
  only = λ other is. answer.only other is.name_text;
}

-- an entry that has a generation is not appended
pub has_generation : (entry held : List ℕ) (found : Option (List ℕ)) → found ≡ Some held → IsOnly (HasOptional entry (codes "generation_id")) found → IsTrue false ↔ IsAppendEntry entry
has_generation entry held found e only = (λ yes. absurd (not_true yes), λ is. absurd (absent_present held (only.only None is.no_generation ∙ e)))
  where
    not_true : IsTrue false → ⊥
    not_true t = cc

-- the entry of an appended stream
pub entry_answer : (entry stream : List ℕ) (found : Option (List ℕ)) → IsAppendEntry entry → IsOnly (HasField entry (codes "stream")) stream → IsAnswer (IsNamedStream stream) found → IsAnswer (IsEntry entry) found
entry_answer entry stream None append field answer = λ name is. answer name (subst (λ (s : List ℕ). IsNamedStream s name) (field.only is.stream is.field) is.named)
entry_answer entry stream (Some name) append field answer = record {
  is = record { append = append; stream = stream; field = field.is; named = answer.is };
  only = λ other is. answer.only other (subst (λ (s : List ℕ). IsNamedStream s other) (field.only is.stream is.field) is.named);
}

pub one_entry-injective : (a b : List ℕ) → one_entry a ≡ one_entry b → a ≡ b
one_entry-injective a b e = append_cancel_right a b (93 ∷ []) (tails a b e)
  where
    tails : (a b : List ℕ) → 91 ∷ (a ++ 93 ∷ []) ≡ 91 ∷ (b ++ 93 ∷ []) → a ++ 93 ∷ [] ≡ b ++ 93 ∷ []
    tails a b h = cc

-- the entry between the brackets is that of the catalog
pub entry_is : (text streams entry name : List ℕ) → IsOnly (HasField text (codes "streams")) streams → streams ≡ one_entry entry → (is : IsCatalog text name) → is.entry ≡ entry
entry_is text streams entry name field single is = one_entry-injective is.entry entry (sym is.single ∙ (field.only is.streams is.field ∙ single))

pub catalog_answer : (text streams entry : List ℕ) (found : Option (List ℕ)) → IsOnly (HasField text (codes "streams")) streams → streams ≡ one_entry entry → IsAnswer (IsEntry entry) found → IsAnswer (IsCatalog text) found
catalog_answer text streams entry None field single answer = λ name is. answer name (subst (λ (e : List ℕ). IsEntry e name) (entry_is text streams entry name field single is) is.holds)
catalog_answer text streams entry (Some name) field single answer = record {
  is = record { streams = streams; field = field.is; entry = entry; single = single; holds = answer.is };
  only = λ other is. answer.only other (subst (λ (e : List ℕ). IsEntry e other) (entry_is text streams entry other field single is) is.holds);
}

pub no_entry : (text streams : List ℕ) → IsOnly (HasField text (codes "streams")) streams → ((entry : List ℕ) → streams ≡ one_entry entry → ⊥) → (name : List ℕ) → ¬ IsCatalog text name
no_entry text streams field none name is = none is.entry (sym (field.only is.streams is.field) ∙ is.single)
