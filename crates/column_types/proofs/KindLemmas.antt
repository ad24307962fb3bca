-- Types of properties: one word alone.
use Rattle.std.proofs.Common.{◌≡◌, ◌⊎◌, ◌↔◌, inl, inr, ℕ, zero, suc, ◌+◌, ◌<◌, ◌≤◌, List, [], ◌∷◌, length, take, slice_index_or, Bool, true, false, not, IsTrue, refl, sym, ◌∙◌, subst, codes, rules}
use Rattle.std.specs.List.{All, Any}
use Rattle.std.specs.Bool.{Decides}
use Rattle.std.specs.Str.{bytes_eq}
use Rattle.std.proofs.lemmas.Slice.Eq.{bytes_eq-Decides}
use Rattle.std.proofs.lemmas.Bool.{true≢false}
use Rattle.std.proofs.lemmas.List.{take_all}
use Rattle.std.proofs.lemmas.List.Elements.{All-more}
use Rattle.json_scalar.specs.Text.{IsString}
use Rattle.json_scalar.proofs.Contents.{one_meaning}
use Rattle.json_span.specs.Members.{text_at}
use Rattle.json_span.specs.Elements.{AreElements}
use Rattle.json_span.specs.declared.Span.{Span}
use Rattle.json_span.specs.Members.{AreMembers}
use Rattle.json_span.specs.declared.Member.{Member}
use Rattle.json_fields.specs.Answer.{IsOnly}
use Rattle.json_fields.specs.Fields.{HasField, line_depth}
use Rattle.json_fields.specs.Parts.{IsCutList}
use Rattle.column_types.specs.Kinds.{HasOnlyType, IsListOf, IsOtherWord}

-- the element is the word
abbrev pub IsWordAt : List ℕ → List ℕ → Span → Type 0
IsWordAt text word span = IsString (text_at text span) word

-- the element is no other word
abbrev pub FitsAt : List ℕ → List ℕ → Span → Type 0
FitsAt text word span = (other : List ℕ) → IsString (text_at text span) other → (other ≡ word) ⊎ (other ≡ codes "null")

-- what is known of the elements that were read
pub record AreRead (text word : List ℕ) (spans : List Span) (i : ℕ) (some : Bool) : Type 0 where
  pub found : some ≡ true → Any (IsWordAt text word) spans
  pub none : some ≡ false → All (λ span. ¬ IsWordAt text word span) (take i spans)
  pub only : All (FitsAt text word) (take i spans)

abbrev pub no_span : Span
no_span = record { start = 0; end = 0 }

-- an element that is no other word fits
word_fits : (text word other : List ℕ) → ¬ IsOtherWord text → IsString text other → (other ≡ word) ⊎ (other ≡ codes "null")
word_fits text word other plain string = pick (bytes_eq other (codes "null")) (bytes_eq-Decides other (codes "null"))
  where
    pick : (b : Bool) → Decides b (other ≡ codes "null") → (other ≡ word) ⊎ (other ≡ codes "null")
    pick true is = inr (search (rules, is))
    pick false is = absurd (plain (record { word = other; string = string; other = search (rules, is) }))

-- which element it is
item_at : (spans : List Span) (i : ℕ) → slice_index_or spans i (slice_index_or spans i no_span) ≡ slice_index_or spans i no_span
item_at [] i = refl
item_at (s ∷ spans) zero = refl
item_at (s ∷ spans) (suc i) = item_at spans i

pub read_word : (text word : List ℕ) (spans : List Span) (i : ℕ) (some : Bool) → i < length spans → AreRead text word spans i some → IsWordAt text word (slice_index_or spans i no_span) → AreRead text word spans (i + 1) true
read_word text word spans i some inside read is = record {
  found = λ e. (i, slice_index_or spans i no_span, inside, item_at spans i, is);
  none = λ e. absurd (cc);
  only = All-more (FitsAt text word) spans i no_span inside read.only (λ other string. inl (one_meaning (text_at text (slice_index_or spans i no_span)) other word string is));
}

pub read_other : (text word : List ℕ) (spans : List Span) (i : ℕ) (some : Bool) → i < length spans → AreRead text word spans i some → ¬ IsWordAt text word (slice_index_or spans i no_span) → ¬ IsOtherWord (text_at text (slice_index_or spans i no_span)) → AreRead text word spans (i + 1) some
read_other text word spans i some inside read apart plain = record {
  found = read.found;
  none = λ e. All-more (λ span. ¬ IsWordAt text word span) spans i no_span inside (read.none e) apart;
  only = All-more (FitsAt text word) spans i no_span inside read.only (λ other string. word_fits (text_at text (slice_index_or spans i no_span)) word other plain string);
}

pub refused : (text word : List ℕ) (spans : List Span) (i : ℕ) → IsCutList text spans → i < length spans → ¬ IsWordAt text word (slice_index_or spans i no_span) → IsOtherWord (text_at text (slice_index_or spans i no_span)) → ¬ IsListOf text word
refused text word spans i cut inside apart other list = pick (fits other.word other.string)
  where
    same : list.spans ≡ spans
    same = cut.only list.spans list.array

    fits : FitsAt text word (slice_index_or spans i no_span)
    fits = (subst (λ (l : List Span). All (FitsAt text word) l) same list.only) i no_span inside

    pick : (other.word ≡ word) ⊎ (other.word ≡ codes "null") → ⊥
    pick (inl is) = apart (subst (λ (w : List ℕ). IsString (text_at text (slice_index_or spans i no_span)) w) is other.string)
    pick (inr is) = other.other is

pub read_all : (text word : List ℕ) (spans : List Span) (i : ℕ) (some : Bool) → IsCutList text spans → length spans ≤ i → AreRead text word spans i some → IsTrue some ↔ IsListOf text word
read_all text word spans i some cut past read = (λ e. yes_list (is_true e), λ list. from_list list some refl)
  where
    is_true : IsTrue some → some ≡ true
    is_true e = search rules

    whole : take i spans ≡ spans
    whole = take_all i spans past

    yes_list : some ≡ true → IsListOf text word
    yes_list e = record { spans = spans; array = cut.are; some = read.found e; only = subst (λ (l : List Span). All (FitsAt text word) l) whole read.only }

    from_list : IsListOf text word → (b : Bool) → some ≡ b → IsTrue some
    from_list list true e = search (rules, e)
    from_list list false e =
        let none = subst (λ (l : List Span). All (λ span. ¬ IsWordAt text word span) l) whole (read.none e) in
        let some_is = subst (λ (l : List Span). Any (IsWordAt text word) l) (cut.only list.spans list.array) list.some in
        absurd (none some_is.0 some_is.1 some_is.2 (subst (λ (span : Span). IsWordAt text word span) (sym some_is.3) some_is.4))

-- what a test that was answered says of a text that is another's
pub holds : (P : List ℕ → Type 0) (b : Bool) (shown text : List ℕ) → shown ≡ text → b ≡ true → (IsTrue b → P shown) → P text
holds P b shown text same e is = subst P same (is (search (rules, e)))

pub fails : (P : List ℕ → Type 0) (b : Bool) (shown text : List ℕ) → shown ≡ text → b ≡ false → (P shown → IsTrue b) → ¬ P text
fails P b shown text same e is p = no_truth b e (is (subst P (sym same) p))
  where
    no_truth : (b : Bool) → b ≡ false → IsTrue b → ⊥
    no_truth b e t = search (rules, e, t)

pub never : (P : Type 0) → ¬ P → IsTrue false ↔ P
never P apart = (λ e. absurd (search (rules, e)), λ p. absurd (apart p))

pub not_alone : (text word : List ℕ) (b : Bool) → b ≡ false → (IsString text word → IsTrue b) → ((spans : List Span) → ¬ AreElements line_depth text spans) → ¬ (IsString text word ⊎ IsListOf text word)
not_alone text word b e is apart (inl string) = fails (λ t. IsString t word) b text text refl e is string
not_alone text word b e is apart (inr list) = apart list.spans list.array

pub only_type : (property held word : List ℕ) (b : Bool) → IsOnly (HasField property (codes "type")) held → (IsTrue b ↔ (IsString held word ⊎ IsListOf held word)) → IsTrue b ↔ HasOnlyType property word
only_type property held word b field is =
    (λ e. record { held = held; field = field.is; alone = is.0 e }, λ type. is.1 (subst (λ (t : List ℕ). IsString t word ⊎ IsListOf t word) (field.only type.held type.field) type.alone))

pub no_object_type : (property word : List ℕ) → ((members : List Member) → ¬ AreMembers line_depth property members) → ¬ HasOnlyType property word
no_object_type property word apart type = apart type.field.members type.field.object

pub other_word : (text word shown : List ℕ) (differs : Bool) → IsString text word → ((meaning : List ℕ) → IsString text meaning → meaning ≡ word) → shown ≡ word → differs ≡ not (bytes_eq shown (codes "null")) → IsTrue differs ↔ IsOtherWord text
other_word text word shown differs string only same test = go (bytes_eq shown (codes "null")) refl test
  where
    decides : Decides (bytes_eq shown (codes "null")) (shown ≡ codes "null")
    decides = bytes_eq-Decides shown (codes "null")

    go : (b : Bool) → bytes_eq shown (codes "null") ≡ b → differs ≡ not b → IsTrue differs ↔ IsOtherWord text
    go true is t = (λ e. absurd (search (rules, e, t)), λ other. absurd (other.other (only other.word other.string ∙ sym same ∙ decides.0 is)))
    go false is t = (λ e. record { word = word; string = string; other = λ null. true≢false (sym (decides.1 (same ∙ null)) ∙ is) }, λ other. search (rules, t))
