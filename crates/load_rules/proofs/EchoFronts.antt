-- A front of a message, or of an echo, is no message, but for the whole.
use Rattle.std.proofs.Common.{arith, ◌≡◌, ℕ, List, [], ◌∷◌, ◌++◌, refl, sym, ◌∙◌, ap, subst, append_assoc}
use Rattle.std.specs.Prelude.{codes, flat_map, ◌≢◌}
use Rattle.std.specs.Fmt.{decimal}
use Rattle.std.proofs.lemmas.List.{append-nil}
use Rattle.json_span.specs.Grammar.{Space, blank, tab, newline, carriage_return, space_byte}
use Rattle.json_span.specs.Members.{IsSomeObject}
use Rattle.json_span.specs.declared.Member.{Member}
use Rattle.json_span.proofs.Theorems.{none_in_front}
use Rattle.airbyte_message.specs.Echo.{IsEcho, echo_text, member_text}
use Rattle.airbyte_message.specs.Messages.{IsMessage}
use Rattle.airbyte_message.specs.declared.message.Message.{Message}
use Rattle.load_rules.specs.Prefixes.{IsPrefix}
use Rattle.load_rules.specs.Laws.{EndsInMessage}

some_object : (text : List ℕ) (content : Message) → IsMessage text content → IsSomeObject text
some_object text content is = record { deep = is.typed.field.object.deep; members = is.typed.field.members; object = is.typed.field.object.object }

record Ends (text : List ℕ) : Type 0 where
  init : List ℕ
  is : text ≡ init ++ 125 ∷ []

ends_behind : (front rest : List ℕ) → Ends rest → Ends (front ++ rest)
ends_behind front rest ends = record { init = front ++ ends.init; is = ap (λ more. front ++ more) ends.is ∙ sym (append_assoc front ends.init (125 ∷ [])) }

echo_ends : (object : List ℕ) (kept : List Member) (count : ℕ) → Ends (echo_text object kept count)
echo_ends object kept count =
    ends_behind (codes "{\"type\":\"STATE\",\"state\":{") (flat_map (member_text object) kept ++ (codes "\"destinationStats\":{\"recordCount\":" ++ (decimal count ++ codes "}}}")))
    (ends_behind (flat_map (member_text object) kept) (codes "\"destinationStats\":{\"recordCount\":" ++ (decimal count ++ codes "}}}"))
    (ends_behind (codes "\"destinationStats\":{\"recordCount\":") (decimal count ++ codes "}}}")
    (ends_behind (decimal count) (codes "}}}") (record { init = codes "}}"; is = refl }))))

-- what stands behind a front of a text ends as the text does
record EndsAs (last : ℕ) (text : List ℕ) : Type 0 where
  init : List ℕ
  is : text ≡ init ++ last ∷ []

rest_ends : (last : ℕ) (front : List ℕ) (first : ℕ) (rest init : List ℕ) → front ++ first ∷ rest ≡ init ++ last ∷ [] → EndsAs last (first ∷ rest)
rest_ends last [] first rest init is = record { init = init; is = is }
rest_ends last (x ∷ front) first rest [] is = absurd (none front (grind (arith, is)))
  where
    none : (front : List ℕ) → front ++ first ∷ rest ≡ [] → ⊥
    none [] e = grind (arith, e)
    none (y ∷ front) e = grind (arith, e)
rest_ends last (x ∷ front) first rest (y ∷ init) is = rest_ends last front first rest init (grind (arith, is))

-- a front of a message is that message, or none
pub front_reads : (text line : List ℕ) (content : Message) → EndsInMessage line → IsPrefix text line → IsMessage text content → text ≡ line
front_reads text line content ends prefix is = at prefix.0 prefix.1
  where
    at : (rest : List ℕ) → line ≡ text ++ rest → text ≡ line
    at [] e = sym (e ∙ append-nil text)
    at (first ∷ rest) e =
        let tail = rest_ends ends.last text first rest ends.front (sym e ∙ ends.spelled) in
        absurd (none_in_front text tail.init ends.last (subst IsSomeObject (e ∙ ap (λ more. text ++ more) tail.is) (some_object line ends.content ends.is)) ends.ends (some_object text content is))

no_space : (s : Space) → 125 ≢ space_byte s
no_space blank e = omega (arith, e)
no_space tab e = omega (arith, e)
no_space newline e = omega (arith, e)
no_space carriage_return e = omega (arith, e)

pub whole_echo : (object : List ℕ) (count : ℕ) (echo text : List ℕ) (content other : Message) → IsEcho object count echo → IsMessage echo other → IsPrefix text echo → IsMessage text content → text ≡ echo
whole_echo object count echo text content other is echo_is prefix text_is =
    let ends : Ends echo = subst Ends (sym is.spelled) (echo_ends object is.kept count) in
    front_reads text echo content (record { content = other; is = echo_is; front = ends.init; last = 125; spelled = ends.is; ends = no_space }) prefix text_is
