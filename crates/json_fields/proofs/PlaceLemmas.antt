-- What stands at the place of a member of an object that is cut at two levels.
use Rattle.std.proofs.Common.{◌≡◌, ℕ, List, Option, Some, slice_get, slice_index_or, sym, subst}
use Rattle.json_span.specs.Members.{text_at}
use Rattle.json_span.specs.Levels.{AreInside, IsCutInto, IsInside}
use Rattle.json_span.specs.declared.Member.{Member}
use Rattle.json_fields.specs.Answer.{IsOnly}
use Rattle.json_fields.specs.Fields.{HasField, IsCut, line_depth}
use Rattle.json_fields.specs.Words.{IsPlaceOf}
use Rattle.json_fields.proofs.FieldLemmas.{field_answer}
use Rattle.json_fields.proofs.Keys.{get_at, value_at}

-- what the member holds
pub field_at : (text name : List ℕ) (members : List Member) (place : ℕ) (d : Member) (value : List ℕ) → IsCut text members → IsPlaceOf text name members (Some place) → value ≡ text_at text (slice_index_or members place d).value → IsOnly (HasField text name) value
field_at text name members place d value cut is e = field_answer text name members (Some value) cut (value_at text name members place d value is e)

-- what is inside
pub inside_at : (text name : List ℕ) (members : List Member) (inner : List (Option (List Member))) (place : ℕ) (d : Member) (value : List ℕ) (found : Option (List Member)) → AreInside line_depth text members inner → IsPlaceOf text name members (Some place) → value ≡ text_at text (slice_index_or members place d).value → slice_get inner place ≡ Some found → IsInside line_depth value found
inside_at text name members inner place d value found inside is e got =
    let m = slice_index_or members place d in
    subst (λ (v : List ℕ). IsInside line_depth v found) (sym e) (inside.each place m (get_at members place d is.below) found got)

pub cut_inside : (value : List ℕ) (members : List Member) → IsCutInto line_depth value members → IsCut value members
cut_inside value members into = record { are = into.found; only = λ others are. (into.only are.deep others are.object).1; parts = into.parts }
