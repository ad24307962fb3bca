-- An object has one text, number or value in a member: what was found is all there is.
use Rattle.std.proofs.Common.{◌≡◌, ℕ, List, Option, None, Some, sym, ◌∙◌, ap, subst}
use Rattle.json_scalar.specs.Text.{IsString}
use Rattle.json_scalar.proofs.Contents.{one_meaning}
use Rattle.json_scalar.proofs.Values.{one_whole}
use Rattle.json_span.specs.Members.{AreMembers}
use Rattle.json_span.specs.declared.Member.{Member}
use Rattle.json_span.proofs.Theorems.{sound}
use Rattle.json_fields.specs.Answer.{IsOnly}
use Rattle.json_fields.specs.Fields.{HasField, HasOptional, HasText, HasOptionalText, IsOptionalText, Holds, present, line_depth}
use Rattle.json_fields.specs.Parts.{IsCount, HasCount, IsOptionalCount, HasOptionalCount, HasObject, HasArray, HasOptionalNumber}
use Rattle.json_fields.proofs.FieldLemmas.{Holds-only, Some-injective}
use Rattle.json_fields.proofs.PartLemmas.{has_count}

-- an object has one list of members
pub members_same : (limit other_limit : ℕ) (text : List ℕ) (members others : List Member) → AreMembers limit text members → AreMembers other_limit text others → others ≡ members
members_same limit other_limit text members others a b = sym (sound text b.deep others b.object).places ∙ (sound text a.deep members a.object).places

pub field_only : (text name held : List ℕ) → HasField text name held → IsOnly (HasField text name) held
field_only text name held f = record {
  is = f;
  only = λ other g.
      let same = members_same line_depth line_depth text f.members g.members f.object g.object in
      Some-injective other held (Holds-only text name f.members (Some other) (Some held) (subst (λ (ms : List Member). Holds text name ms (Some other)) same g.holds) f.holds);
}

pub optional_only : (text name : List ℕ) (found : Option (List ℕ)) → HasOptional text name found → IsOnly (HasOptional text name) found
optional_only text name found f = record {
  is = f;
  only = λ other g.
      let same = members_same line_depth line_depth text f.members g.members f.object g.object in
      g.is ∙ ap present (Holds-only text name f.members g.held f.held (subst (λ (ms : List Member). Holds text name ms g.held) same g.holds) f.holds) ∙ sym f.is;
}

pub text_only : (text name meaning : List ℕ) → HasText text name meaning → IsOnly (HasText text name) meaning
text_only text name meaning t = record {
  is = t;
  only = λ other u. one_meaning t.held other meaning (subst (λ (h : List ℕ). IsString h other) ((field_only text name t.held t.field).only u.held u.field) u.string) t.string;
}

optional_meaning : (held meaning other : Option (List ℕ)) → IsOptionalText held meaning → IsOptionalText held other → other ≡ meaning
optional_meaning None meaning other a b = b ∙ sym a
optional_meaning (Some held) None other a b = absurd a
optional_meaning (Some held) (Some meaning) None a b = absurd b
optional_meaning (Some held) (Some meaning) (Some other) a b = ap (λ (m : List ℕ). Some m) (one_meaning held other meaning b a)

pub optional_text_only : (text name : List ℕ) (meaning : Option (List ℕ)) → HasOptionalText text name meaning → IsOnly (HasOptionalText text name) meaning
optional_text_only text name meaning t = record {
  is = t;
  only = λ other u. optional_meaning t.held meaning other t.string (subst (λ (h : Option (List ℕ)). IsOptionalText h other) ((optional_only text name t.held t.optional).only u.held u.optional) u.string);
}

count_only : (held : List ℕ) (n : ℕ) → IsCount held n → IsOnly (IsCount held) n
count_only held n c = record { is = c; only = λ other d. one_whole held other n d.whole c.whole }

pub has_count_only : (text name : List ℕ) (n : ℕ) → HasCount text name n → IsOnly (HasCount text name) n
has_count_only text name n c = has_count text name c.held (Some n) (field_only text name c.held c.field) (count_only c.held n c.is)

optional_number : (held : Option (List ℕ)) (count other : Option ℕ) → IsOptionalCount held count → IsOptionalCount held other → other ≡ count
optional_number None count other a b = b ∙ sym a
optional_number (Some held) None other a b = absurd a
optional_number (Some held) (Some n) None a b = absurd b
optional_number (Some held) (Some n) (Some m) a b = ap (λ (k : ℕ). Some k) (one_whole held m n b.whole a.whole)

pub optional_count_only : (text name : List ℕ) (count : Option ℕ) → HasOptionalCount text name count → IsOnly (HasOptionalCount text name) count
optional_count_only text name count c = record {
  is = c;
  only = λ other d. optional_number c.held count other c.is (subst (λ (h : Option (List ℕ)). IsOptionalCount h other) ((optional_only text name c.held c.optional).only d.held d.optional) d.is);
}

pub object_only : (text name held : List ℕ) → HasObject text name held → IsOnly (HasObject text name) held
object_only text name held o = record { is = o; only = λ other p. (field_only text name held o.field).only other p.field }

pub array_only : (text name held : List ℕ) → HasArray text name held → IsOnly (HasArray text name) held
array_only text name held a = record { is = a; only = λ other b. (field_only text name held a.field).only other b.field }

pub number_only : (text name : List ℕ) (found : Option (List ℕ)) → HasOptionalNumber text name found → IsOnly (HasOptionalNumber text name) found
number_only text name found n = record { is = n; only = λ other m. (optional_only text name found n.optional).only other m.optional }
