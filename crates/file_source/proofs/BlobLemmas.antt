-- The blobs of a file, written and read.
use Rattle.std.proofs.Common.{◌≡◌, ◌∙◌, ℕ, ◌<◌, ◌^◌, List, [], ◌∷◌, map, codes, Option, None, Some, Result, Ok, Err, IfOk, IfNone, IfSome, refl, sym, ap, subst, arith}
use Rattle.std.specs.Fmt.{decimal}
use Rattle.json.specs.Print.{quoted}
use Rattle.json.proofs.Printed.Utf8.{IsUtf8-are_ascii}
use Rattle.json_scalar.specs.Text.{IsString}
use Rattle.json_scalar.specs.Number.{IsWhole}
use Rattle.json_span.specs.Members.{AreMembers, text_at}
use Rattle.json_span.specs.declared.Member.{Member}
use Rattle.json_write.specs.Objects.{Part, named}
use Rattle.json_write.specs.Laws.{part_at}
use Rattle.json_write.proofs.Trees.{object_of}
use Rattle.json_write.proofs.Strings.{quoted_string}
use Rattle.json_write.proofs.Numerals.{decimal_literal}
use Rattle.json_write.proofs.Values.{decimal_within}
use Rattle.json_fields.specs.Answer.{IsAnswer}
use Rattle.json_fields.specs.Parts.{IsCount}
use Rattle.json_fields.specs.Fields.{IsCut}
use Rattle.basics.specs.declared.memory.NoMemory.{NoMemory}
use Rattle.file_source.specs.Blob.{BlobsReadBack, IsRowBlob, IsRowMember, row_blob}

abbrev first_key : List Part → List ℕ
first_key [] = []
first_key (part ∷ parts) = part.0

abbrev first_value : List Part → List ℕ
first_value [] = []
first_value (part ∷ parts) = part.1

abbrev IsOne : List Part → Type 0
IsOne [] = ⊥
IsOne (part ∷ []) = Unit {0}
IsOne (part ∷ second ∷ parts) = ⊥

is_one : (a b : List Part) → a ≡ b → IsOne b → IsOne a
is_one a b same one = let P : List Part → Type 0 = IsOne in subst P (sym same) one

-- an object with one member of this name, and this number
one_member : (text : List ℕ) (members : List Member) (number : ℕ) → number < 2 ^ 63 → AreMembers 1 text members
    → map (part_at text) members ≡ named (codes "row") (decimal number) ∷ [] → IsRowBlob text number
one_member text [] number small are cut = absurd (is_one [] (named (codes "row") (decimal number) ∷ []) cut tt)
one_member text (member ∷ []) number small are cut =
    let name : text_at text member.key ≡ quoted (codes "row") = ap first_key cut in
    let value : text_at text member.value ≡ decimal number = ap first_value cut in
    record {
      member = member;
      object = record { deep = are.deep; within = omega (arith, are.within); object = are.object };
      row = record {
        name = subst (λ (key : List ℕ). IsString key (codes "row")) (sym name) (quoted_string (codes "row") (IsUtf8-are_ascii (codes "row") refl));
        count = record { whole = subst (λ (held : List ℕ). IsWhole held number) (sym value) (decimal_literal number (omega (arith, small))); small = small };
      };
    }
one_member text (member ∷ second ∷ members) number small are cut =
    absurd (is_one (map (part_at text) (member ∷ second ∷ members)) (named (codes "row") (decimal number) ∷ []) cut tt)

pub read_back : BlobsReadBack
read_back number small =
    let key = quoted_string (codes "row") (IsUtf8-are_ascii (codes "row") refl) in
    let o = object_of 0 (named (codes "row") (decimal number) ∷ []) (record { name = codes "row"; key = key; value = decimal_within 0 number (omega (arith, small)) }, tt) in
    one_member (row_blob number) o.members number small o.are o.cut

abbrev first_member : Member → List Member → Member
first_member default [] = default
first_member default (member ∷ members) = member

-- an object of this one member has the number that the member has
blob_answer : (text : List ℕ) (member : Member) (found : Option ℕ) → AreMembers 127 text (member ∷ []) → ((others : List Member) → AreMembers 127 text others → others ≡ member ∷ [])
    → IsAnswer (IsRowMember text member) found → IsAnswer (IsRowBlob text) found
blob_answer text member None are only none =
    λ number is. let same : is.member ≡ member = ap (first_member member) (only (is.member ∷ []) is.object) in
    none number (subst (λ (m : Member). IsRowMember text m number) same is.row)
blob_answer text member (Some number) are only one = record {
  is = record { member = member; object = are; row = one.is };
  only = λ other is. let same : is.member ≡ member = ap (first_member member) (only (is.member ∷ []) is.object) in
      one.only other (subst (λ (m : Member). IsRowMember text m other) same is.row);
}

-- a member of this name has the number that its value is
pub member_answer : (text : List ℕ) (member : Member) (found : Option ℕ) → IsString (text_at text member.key) (codes "row") → IsAnswer (IsCount (text_at text member.value)) found → IsAnswer (IsRowMember text member) found
member_answer text member None name none = λ number is. none number is.count
member_answer text member (Some number) name one = record { is = record { name = name; count = one.is }; only = λ other is. one.only other is.count }

-- an object of other than one member is no such blob
no_blob : (text : List ℕ) (members : List Member) → ((others : List Member) → AreMembers 127 text others → others ≡ members) → ((member : Member) → ¬ (members ≡ member ∷ []))
    → (number : ℕ) → ¬ IsRowBlob text number
no_blob text members only none number is = none is.member (sym (only (is.member ∷ []) is.object))

-- what holds where nothing is found
pub where_none : {A : Type 0} (P : Type 0) (found : Option A) → found ≡ None → IfNone found P → P
where_none {A} P found is held = subst (λ (f : Option A). IfNone f P) is held

-- no object is no such blob
pub no_object : (text : List ℕ) → ((members : List Member) → ¬ AreMembers 127 text members) → (number : ℕ) → ¬ IsRowBlob text number
no_object text none number is = none (is.member ∷ []) is.object

pub along_members : {A : Type 0} (Q : A → Type 0) (found : Option A) (members : A) → found ≡ Some members → IfSome found Q → Q members
along_members {A} Q found members is held = subst (λ (f : Option A). IfSome f Q) is held

pub cut_answer : (text : List ℕ) (members items : List Member) (member : Member) (answer : Result (Option ℕ) NoMemory) → IsCut text members → items ≡ members → items ≡ member ∷ []
    → IfOk answer (IsAnswer (IsRowMember text member)) → IfOk answer (IsAnswer (IsRowBlob text))
cut_answer text members items member (Ok found) cut same one told =
    let sole : members ≡ member ∷ [] = sym same ∙ one in
    blob_answer text member found (subst (AreMembers 127 text) sole cut.are) (λ others are. cut.only others are ∙ sole) told
cut_answer text members items member (Err why) cut same one told = tt

-- of other than one member
pub cut_no_blob : (text : List ℕ) (members items : List Member) → IsCut text members → items ≡ members → ((member : Member) → ¬ (items ≡ member ∷ [])) → (number : ℕ) → ¬ IsRowBlob text number
cut_no_blob text members items cut same none = no_blob text members cut.only (λ member one. none member (same ∙ one))
