-- Lists that are read element by element, each element having at most one reading.
use Rattle.std.proofs.Common.{◌≡◌, ℕ, zero, suc, List, [], ◌∷◌, ◌++◌, Option, None, Some, refl, sym, ◌∙◌, ap, subst, arith, ◌<◌, ◌≤◌, ◌+◌, length, take, slice_index_or, IfNone}
use Rattle.std.specs.List.{AllZip}
use Rattle.std.proofs.lemmas.List.{take_more, take_all}
use Rattle.json_span.specs.Elements.{AreElements}
use Rattle.json_span.specs.declared.Span.{Span}
use Rattle.json_fields.specs.Answer.{IsAnswer, IsOnly}
use Rattle.json_fields.specs.Fields.{HasOptional, line_depth}
use Rattle.json_fields.specs.Parts.{IsCutList}
use Rattle.json_fields.proofs.AnswerLemmas.{at}
use Rattle.catalog.specs.Entry.{HasOptionalList, IsOptionalList}

-- the elements so far, of which each has this reading only
abbrev pub AreOnly : {A B : Type 0} → (A → B → Type 0) → List A → List B → Type 0
AreOnly R xs ys = AllZip (λ x y. IsOnly (R x) y) xs ys

only-are : {A B : Type 0} (R : A → B → Type 0) (xs : List A) (ys : List B) → AreOnly R xs ys → AllZip R xs ys
only-are R [] [] h = tt
only-are R [] (y ∷ ys) h = absurd h
only-are R (x ∷ xs) [] h = absurd h
only-are R (x ∷ xs) (y ∷ ys) h = (h.0.is, only-are R xs ys h.1)

only-same : {A B : Type 0} (R : A → B → Type 0) (xs : List A) (ys zs : List B) → AreOnly R xs ys → AllZip R xs zs → zs ≡ ys
only-same R [] [] [] h is = refl
only-same R [] [] (z ∷ zs) h is = absurd is
only-same R [] (y ∷ ys) zs h is = absurd h
only-same R (x ∷ xs) [] zs h is = absurd h
only-same R (x ∷ xs) (y ∷ ys) [] h is = absurd is
only-same {A} {B} R (x ∷ xs) (y ∷ ys) (z ∷ zs) h is = ap (λ (v : B). v ∷ zs) (h.0.only z is.0) ∙ ap (λ (vs : List B). y ∷ vs) (only-same R xs ys zs h.1 is.1)

pub all_only : {A B : Type 0} (R : A → B → Type 0) (xs : List A) (ys : List B) → AreOnly R xs ys → IsOnly (AllZip R xs) ys
all_only R xs ys h = record { is = only-are R xs ys h; only = λ zs is. only-same R xs ys zs h is }

only-more : {A B : Type 0} (R : A → B → Type 0) (xs : List A) (ys : List B) (x : A) (y : B) → AreOnly R xs ys → IsOnly (R x) y → AreOnly R (xs ++ x ∷ []) (ys ++ y ∷ [])
only-more R [] [] x y h only = (only, tt)
only-more R [] (z ∷ ys) x y h only = absurd h
only-more R (w ∷ xs) [] x y h only = absurd h
only-more R (w ∷ xs) (z ∷ ys) x y h only = (h.0, only-more R xs ys x y h.1 only)

-- a loop over the elements goes on by one
pub loop_more : {A B : Type 0} (R : A → B → Type 0) (xs : List A) (i : ℕ) (d : A) (ys after : List B) (y : B) → i < length xs → after ≡ ys ++ y ∷ [] → IsOnly (R (slice_index_or xs i d)) y → AreOnly R (take i xs) ys → AreOnly R (take (i + 1) xs) after
loop_more {A} {B} R xs i d ys after y lt pushed only h =
    subst (λ (vs : List B). AreOnly R (take (i + 1) xs) vs) (sym pushed) (subst (λ (us : List A). AreOnly R us (ys ++ y ∷ [])) (sym (take_more xs i d lt)) (only-more R (take i xs) ys (slice_index_or xs i d) y h only))

-- and has come to its end
pub loop_all : {A B : Type 0} (R : A → B → Type 0) (xs : List A) (i : ℕ) (ys : List B) → length xs ≤ i → AreOnly R (take i xs) ys → IsOnly (AllZip R xs) ys
loop_all {A} {B} R xs i ys done h = all_only R xs ys (subst (λ (us : List A). AreOnly R us ys) (take_all i xs done) h)

-- an element that has no reading
reading_at : {A B : Type 0} (R : A → B → Type 0) (xs : List A) (ys : List B) (i : ℕ) (d : A) → i < length xs → AllZip R xs ys → (y : B) × R (slice_index_or xs i d) y
reading_at R [] ys i d lt is = absurd (omega arith)
reading_at R (x ∷ xs) [] i d lt is = absurd is
reading_at R (x ∷ xs) (y ∷ ys) zero d lt is = (y, is.0)
reading_at R (x ∷ xs) (y ∷ ys) (suc i) d lt is = reading_at R xs ys i d (omega arith) is.1

pub loop_none : {A B : Type 0} (R : A → B → Type 0) (xs : List A) (i : ℕ) (d : A) → i < length xs → ((y : B) → ¬ R (slice_index_or xs i d) y) → (ys : List B) → ¬ AllZip R xs ys
loop_none R xs i d lt none = λ ys are. let found = reading_at R xs ys i d lt are in none found.0 found.1

-- what an array is by what its elements are
pub list_answer : {B : Type 0} (text : List ℕ) (R : Span → B → Type 0) (Q : List B → Type 0) → ((spans : List Span) (ys : List B) → AreElements line_depth text spans → AllZip R spans ys → Q ys) → ((ys : List B) → Q ys → (spans : List Span) × AreElements line_depth text spans × AllZip R spans ys) → (spans : List Span) (found : Option (List B)) → IsCutList text spans → IsAnswer (AllZip R spans) found → IsAnswer Q found
list_answer text R Q to back spans found cut answer = at (AreElements line_depth text) (λ ss ys. AllZip R ss ys) Q to back spans found (record { is = cut.are; only = cut.only }) answer

pub no_list : {B : Type 0} (text : List ℕ) (Q : List B → Type 0) → ((ys : List B) → Q ys → (spans : List Span) × AreElements line_depth text spans) → ((spans : List Span) → ¬ AreElements line_depth text spans) → IsAnswer Q None
no_list text Q back none = λ ys q. let r = back ys q in none r.0 r.1

-- the elements of what is no array
pub uncut_list : (text : List ℕ) (found : Option (List Span)) → found ≡ None → IfNone found ((spans : List Span) → ¬ AreElements line_depth text spans) → (spans : List Span) → ¬ AreElements line_depth text spans
uncut_list text found e none = subst (λ (f : Option (List Span)). IfNone f ((spans : List Span) → ¬ AreElements line_depth text spans)) e none

-- an optional list, where it is there and where it is absent
pub optional_list : {B : Type 0} (Form : List ℕ → List B → Type 0) (text name held : List ℕ) (found : Option (List B)) → IsOnly (HasOptional text name) (Some held) → IsAnswer (Form held) found → IsAnswer (HasOptionalList Form text name) found
optional_list {B} Form text name held found optional answer = at (HasOptional text name) (IsOptionalList Form) (HasOptionalList Form text name) (λ h ys o l. record { held = h; optional = o; list = l }) (λ ys has. (has.held, has.optional, has.list)) (Some held) found optional answer

pub no_optional_list : {B : Type 0} (Form : List ℕ → List B → Type 0) (text name : List ℕ) (items : List B) → items ≡ [] → IsOnly (HasOptional text name) None → IsOnly (HasOptionalList Form text name) items
no_optional_list {B} Form text name items empty optional = at (HasOptional text name) (IsOptionalList Form) (HasOptionalList Form text name) (λ h ys o l. record { held = h; optional = o; list = l }) (λ ys has. (has.held, has.optional, has.list)) None (Some items) optional (record { is = empty; only = λ other e. e ∙ sym empty })
