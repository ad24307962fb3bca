-- The echo of a state, put bit by bit; and a state's object is cut at the depth of a line.
use Rattle.std.proofs.Common.{◌≡◌, ℕ, List, [], ◌++◌, flat_map, codes, sym, ap, ◌∙◌, subst, arith, ◌≤◌, append_assoc}
use Rattle.std.specs.Fmt.{decimal}
use Rattle.json_span.specs.Members.{AreMembers}
use Rattle.json_span.specs.declared.Member.{Member}
use Rattle.json_fields.specs.Fields.{IsCut, line_depth}
use Rattle.json_fields.specs.Parts.{NestsWithin, Without}
use Rattle.airbyte_message.specs.Echo.{IsEcho, member_text, echo_text}
use Rattle.airbyte_message.specs.States.{state_depth}
use Rattle.json_fields.proofs.OnlyLemmas.{members_same}
use Rattle.json_fields.proofs.KeepsLemmas.{Without-only}

pub state_is_cut : (object shown : List ℕ) → shown ≡ object → NestsWithin state_depth object → ((members : List Member) → ¬ AreMembers line_depth shown members) → ⊥
state_is_cut object shown e nests none =
    let small : nests.object.deep ≤ 124 = nests.object.within in
    none nests.members (subst (λ (o : List ℕ). AreMembers line_depth o nests.members) (sym e) (record { deep = nests.object.deep; within = omega arith; object = nests.object.object }))

-- an echo from its five parts
in_order : (a b c d e : List ℕ) → (((a ++ b) ++ c) ++ d) ++ e ≡ a ++ (b ++ (c ++ (d ++ e)))
in_order a b c d e = simp append_assoc

pub echo_is : (object shown : List ℕ) (members kept : List Member) (count : ℕ) (start head told named counted whole : List ℕ) → shown ≡ object → IsCut shown members → Without shown (codes "destinationStats") members kept → start ≡ [] → head ≡ start ++ codes "{\"type\":\"STATE\",\"state\":{" → told ≡ head ++ flat_map (member_text shown) kept → named ≡ told ++ codes "\"destinationStats\":{\"recordCount\":" → counted ≡ named ++ decimal count → whole ≡ counted ++ codes "}}}" → IsEcho object count whole
echo_is object shown members kept count start head told named counted whole same cut without a b c d e f =
    let front : head ≡ codes "{\"type\":\"STATE\",\"state\":{" = b ∙ ap (λ (t : List ℕ). t ++ codes "{\"type\":\"STATE\",\"state\":{") a in
    let stats = codes "\"destinationStats\":{\"recordCount\":" in
    let all : whole ≡ echo_text shown kept count =
    f ∙ ap (λ (t : List ℕ). t ++ codes "}}}") (e ∙ ap (λ (t : List ℕ). t ++ decimal count) (d ∙ ap (λ (t : List ℕ). t ++ stats) (c ∙ ap (λ (t : List ℕ). t ++ flat_map (member_text shown) kept) front)))
    ∙ in_order (codes "{\"type\":\"STATE\",\"state\":{") (flat_map (member_text shown) kept) stats (decimal count) (codes "}}}") in
    subst (λ (o : List ℕ). IsEcho o count whole) same (record { members = members; are = cut.are; kept = kept; without = without; spelled = all })

pub one_echo : (object : List ℕ) (count : ℕ) (text other : List ℕ) → IsEcho object count text → IsEcho object count other → other ≡ text
one_echo object count text other a b =
    let members = members_same 127 127 object a.members b.members a.are b.are in
    let kept = Without-only object (codes "destinationStats") a.members a.kept b.kept a.without (subst (λ (ms : List Member). Without object (codes "destinationStats") ms b.kept) members b.without) in
    b.spelled ∙ ap (λ (ms : List Member). echo_text object ms count) kept ∙ sym a.spelled
