-- Answers from answers, whatever they are of.
use Rattle.std.proofs.Common.{◌≡◌, ℕ, List, Option, None, Some, refl, sym, ◌∙◌, ap, subst, true, false, IfSome, IfNone}
use Rattle.std.specs.Option.{option_map, MatchOption, IsSomeAnd}
use Rattle.json_span.specs.Members.{AreMembers}
use Rattle.json_span.specs.declared.Member.{Member}
use Rattle.json_fields.specs.Answer.{IsAnswer, IsOnly}
use Rattle.json_fields.specs.Fields.{HasText, HasOptionalText}

-- a fact about what was found, where it is known what was found
pub along : {A : Type 0} (P : A → Type 0) {found shown : Option A} → found ≡ shown → IsAnswer P found → IsAnswer P shown
along {A} P e answer = subst (λ (f : Option A). IsAnswer P f) e answer

pub along_only : {A : Type 0} (P : A → Type 0) {found shown : A} → found ≡ shown → IsOnly P found → IsOnly P shown
along_only {A} P e only = subst (λ (f : A). IsOnly P f) e only

pub uncut : (limit : ℕ) (text : List ℕ) (found : Option (List Member)) → found ≡ None → IfNone found ((members : List Member) → ¬ AreMembers limit text members) → (members : List Member) → ¬ AreMembers limit text members
uncut limit text found e none = subst (λ (f : Option (List Member)). IfNone f ((members : List Member) → ¬ AreMembers limit text members)) e none

pub within : (limit : ℕ) (text : List ℕ) (found : Option (List Member)) (members : List Member) → found ≡ Some members → IfSome found (AreMembers limit text) → AreMembers limit text members
within limit text found members e some = subst (λ (f : Option (List Member)). IfSome f (AreMembers limit text)) e some

-- tests
pub true_false : true ≡ false → ⊥
true_false e = cc

pub None-Some : {A : Type 0} (a : A) → Some a ≡ None → ⊥
None-Some a e = cc

pub Some-injective : {A : Type 0} (a b : A) → Some a ≡ Some b → a ≡ b
Some-injective a b e = cc

-- an answer at what the one value with F is
pub at : {A B : Type 0} (F : A → Type 0) (P : A → B → Type 0) (Q : B → Type 0) → ((a : A) (b : B) → F a → P a b → Q b) → ((b : B) → Q b → (a : A) × F a × P a b) → (a : A) (found : Option B) → IsOnly F a → IsAnswer (P a) found → IsAnswer Q found
at F P Q to back a None fa none = λ b q. let r = back b q in none b (subst (λ x. P x b) (fa.only r.0 r.1) r.2)
at F P Q to back a (Some b) fa only = record {
  is = to a b fa.is only.is;
  only = λ c q. let r = back c q in only.only c (subst (λ x. P x c) (fa.only r.0 r.1) r.2);
}

-- no answer where nothing has F
pub absent : {A B : Type 0} (F : A → Type 0) (Q : B → Type 0) → ((b : B) → Q b → (a : A) × F a) → IsAnswer F None → IsAnswer Q None
absent F Q back none = λ b q. let r = back b q in none r.0 r.1

-- one value of two others
pub both : {A B C : Type 0} (P : A → Type 0) (R : B → Type 0) (Q : C → Type 0) (make : A → B → C) → ((a : A) (b : B) → P a → R b → Q (make a b)) → ((c : C) → Q c → (a : A) × (b : B) × P a × R b × (c ≡ make a b)) → (a : A) (b : B) → IsOnly P a → IsOnly R b → IsOnly Q (make a b)
both P R Q make to back a b pa rb = record {
  is = to a b pa.is rb.is;
  only = λ c q.
      let r = back c q in
      r.4 ∙ (ap (λ x. make x r.1) (pa.only r.0 r.2) ∙ ap (λ y. make a y) (rb.only r.1 r.3));
}

-- an answer in another form
pub wrapped : {A B : Type 0} (wrap : A → B) (P : A → Type 0) (Q : B → Type 0) → ((a : A) → P a → Q (wrap a)) → ((b : B) → Q b → (a : A) × P a × (b ≡ wrap a)) → (found : Option A) → IsAnswer P found → IsAnswer Q (option_map wrap found)
wrapped wrap P Q to back None none = λ b q. let r = back b q in none r.0 r.1
wrapped wrap P Q to back (Some a) only = record {
  is = to a only.is;
  only = λ b q. let r = back b q in r.2 ∙ ap wrap (only.only r.0 r.1);
}

-- what `map` ensures
pub mapped : {A B : Type 0} (wrap : A → B) (found : Option A) (result : Option B) → MatchOption found (result ≡ None) (λ a. IsSomeAnd result (λ b. b ≡ wrap a)) → option_map wrap found ≡ result
mapped wrap None None cases = refl
mapped wrap None (Some b) cases = sym cases
mapped wrap (Some a) None cases = absurd cases
mapped wrap (Some a) (Some b) cases = ap (λ c. Some c) (sym cases)

-- a member that is one of some words
pub word_text : {A : Type 0} (words : A → List ℕ) (text member name shown : List ℕ) (found : Option A) → IsOnly (HasText text member) name → shown ≡ name → IsAnswer (λ a. shown ≡ words a) found → IsAnswer (λ a. HasText text member (words a)) found
word_text words text member name shown None typed e none = λ a has. none a (e ∙ sym (typed.only (words a) has))
word_text words text member name shown (Some a) typed e only = record {
  is = subst (λ (n : List ℕ). HasText text member n) (sym e ∙ only.is) typed.is;
  only = λ b has. only.only b (e ∙ sym (typed.only (words b) has));
}

pub word_absent : {A : Type 0} (words : A → List ℕ) (text member : List ℕ) → IsAnswer (HasText text member) None → IsAnswer (λ a. HasText text member (words a)) None
word_absent words text member none = λ a has. none (words a) has

-- an optional member that is one of some words
pub optional_word : {A : Type 0} (words : A → List ℕ) (text member name shown : List ℕ) (found : Option A) → IsOnly (HasOptionalText text member) (Some name) → shown ≡ name → IsAnswer (λ a. shown ≡ words a) found → IsAnswer (λ a. HasOptionalText text member (option_map words a)) (option_map (λ a. Some a) found)
optional_word {A} words text member name shown None optional e none = λ a has. differs a (optional.only (option_map words a) has)
  where
    differs : (a : Option A) → option_map words a ≡ Some name → ⊥
    differs None is = None-Some name (sym is)
    differs (Some a) is = none a (e ∙ sym (Some-injective (words a) name is))
optional_word {A} words text member name shown (Some a) optional e only = record {
  is = subst (λ (n : List ℕ). HasOptionalText text member (Some n)) (sym e ∙ only.is) optional.is;
  only = λ b has. same b (optional.only (option_map words b) has);
}
  where
    same : (b : Option A) → option_map words b ≡ Some name → b ≡ Some a
    same None is = absurd (None-Some name (sym is))
    same (Some b) is = ap (λ c. Some c) (only.only b (e ∙ sym (Some-injective (words b) name is)))

pub optional_word_absent : {A : Type 0} (words : A → List ℕ) (text member : List ℕ) → IsOnly (HasOptionalText text member) None → IsOnly (λ a. HasOptionalText text member (option_map words a)) None
optional_word_absent {A} words text member optional = record {
  is = optional.is;
  only = λ a has. same a (optional.only (option_map words a) has);
}
  where
    same : (a : Option A) → option_map words a ≡ None → a ≡ None
    same None is = refl
    same (Some a) is = absurd (None-Some (words a) is)

pub optional_word_none : {A : Type 0} (words : A → List ℕ) (text member : List ℕ) → IsAnswer (HasOptionalText text member) None → IsAnswer (λ a. HasOptionalText text member (option_map words a)) None
optional_word_none words text member none = λ a has. none (option_map words a) has
