-- An array that was cut with its object.
use Rattle.std.proofs.Common.{◌≡◌, ℕ, List, Option, Some, IfSome, IfNone, sym, ap, ◌∙◌, subst, slice_get, slice_index_or}
use Rattle.json_span.specs.Members.{AreMembers, text_at}
use Rattle.json_span.specs.Lists.{IsArrayCutInto, IsListed}
use Rattle.json_span.specs.declared.Member.{Member}
use Rattle.json_span.specs.declared.Span.{Span}
use Rattle.json_fields.specs.Fields.{line_depth}
use Rattle.json_fields.specs.Parts.{IsCutList}
use Rattle.json_fields.specs.Words.{IsPlaceOf}
use Rattle.json_fields.proofs.Keys.{get_at}

pub list_cut : (text : List ℕ) (spans : List Span) → IsArrayCutInto line_depth text spans → IsCutList text spans
list_cut text spans into = record { are = into.found; only = λ others are. (into.only are.deep others are.array).1; parts = into.parts }

-- what was cut, where it stands at this index
pub listed_at : (text : List ℕ) (members : List Member) (index : ℕ) (d : Member) (value : List ℕ) (listed : Option ℕ) (spans : List Span) → IsListed line_depth text members listed spans → slice_get members index ≡ Some (slice_index_or members index d) → value ≡ text_at text (slice_index_or members index d).value → listed ≡ Some index → IsArrayCutInto line_depth value spans
listed_at text members index d value listed spans list there is same =
    let l = subst (λ (o : Option ℕ). IsListed line_depth text members o spans) same list in
    let one : l.member ≡ slice_index_or members index d = cc (l.at, there) in
    subst (λ (t : List ℕ). IsArrayCutInto line_depth t spans) (ap (λ (m : Member). text_at text m.value) one ∙ sym is) l.cut
