-- The echo of a state: its members as they stand, but for `destinationStats`, which comes last with the count.
use Rattle.std.specs.Prelude.{◌≡◌, ℕ, List, [], ◌∷◌, ◌++◌, flat_map, codes}
use Rattle.std.specs.Fmt.{decimal}
use Rattle.json_span.specs.Members.{AreMembers, text_at}
use Rattle.json_span.specs.declared.Member.{Member}
use Rattle.json_fields.specs.Parts.{Without}

-- a member's key and value as they stand, and a comma
abbrev pub member_text : List ℕ → Member → List ℕ
member_text text member = text_at text member.key ++ 58 ∷ (text_at text member.value ++ 44 ∷ [])

abbrev pub echo_text : List ℕ → List Member → ℕ → List ℕ
echo_text object kept count =
    codes "{\"type\":\"STATE\",\"state\":{" ++ (flat_map (member_text object) kept ++ (codes "\"destinationStats\":{\"recordCount\":" ++ (decimal count ++ codes "}}}")))

-- the text is the echo of this state object with this count
pub record IsEcho (object : List ℕ) (count : ℕ) (text : List ℕ) : Type 0 where
  pub members : List Member
  pub are : AreMembers 127 object members
  pub kept : List Member
  pub without : Without object (codes "destinationStats") members kept
  pub spelled : text ≡ echo_text object kept count
