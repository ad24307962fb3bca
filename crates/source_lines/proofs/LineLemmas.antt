-- The lines of records and states, as they are put together.
use Rattle.std.proofs.Common.{◌≡◌, ◌∙◌, ℕ, List, [], ◌∷◌, ◌++◌, Option, None, Some, refl, sym, ap, append_assoc, codes, option_map}
use Rattle.std.specs.Fmt.{decimal}
use Rattle.json.specs.Print.{quoted}
use Rattle.json_write.specs.Objects.{Part, named, optional, object_text, open_object, more_text, part_before}
use Rattle.json_write.proofs.Texts.{grows, closes, keyed, part_before-append}
use Rattle.basics.specs.declared.stream.StreamId.{StreamId}
use Rattle.airbyte_message.specs.declared.read.MessageType.TheVariants as types
use Rattle.source_lines.specs.Lines.{record_line, state_line}
use Rattle.source_lines.specs.Heads.{key_text, line_head, record_head, record_tail, state_head, state_tail}
use Rattle.source_lines.proofs.HeadLemmas.{line_around}

five : (h ok b e x y : List ℕ) → h ++ ((((ok ++ b) ++ e) ++ x) ++ y) ≡ (h ++ ok) ++ (b ++ (e ++ (x ++ y)))
five h ok b e x y =
    ap (λ (t : List ℕ). h ++ t) (append_assoc ((ok ++ b) ++ e) x y ∙ append_assoc (ok ++ b) e (x ++ y) ∙ append_assoc ok b (e ++ (x ++ y)))
    ∙ sym (append_assoc h ok (b ++ (e ++ (x ++ y))))

record_parts : (name : List ℕ) (value : Option (List ℕ)) (body moment : Part) → (optional name value [] ++ body ∷ []) ++ moment ∷ [] ≡ optional name value (body ∷ moment ∷ [])
record_parts name None body moment = refl
record_parts name (Some value) body moment = refl

-- an object of a stream, a body and a moment
record_object : (stream : Part) (name : List ℕ) (space : Option (List ℕ)) (key body : List ℕ) (moment : Part)
    → (((open_object (stream ∷ optional name space []) ++ key_text key) ++ body) ++ more_text (moment ∷ [])) ++ 125 ∷ []
    ≡ object_text (stream ∷ optional name space (named key body ∷ moment ∷ []))
record_object stream name space key body moment =
    let spaced = optional name space [] in
    let start = open_object (stream ∷ spaced) in
    let told = (start ++ key_text key) ++ body in
    let data_is = keyed 44 start (start ++ key_text key) told key body refl refl in
    let first = grows [] start told stream spaced (named key body ∷ []) refl data_is in
    let second = grows [] told (told ++ more_text (moment ∷ [])) stream (spaced ++ named key body ∷ []) (moment ∷ []) first refl in
    let closed = closes [] (told ++ more_text (moment ∷ [])) ((told ++ more_text (moment ∷ [])) ++ 125 ∷ []) stream ((spaced ++ named key body ∷ []) ++ moment ∷ []) second refl in
    closed ∙ ap (λ (parts : List Part). object_text (stream ∷ parts)) (record_parts name space (named key body) moment)

record_by : (head kind : List ℕ) (member : Part) (stream : Part) (name : List ℕ) (space : Option (List ℕ)) (key body : List ℕ) (moment : Part)
    → head ≡ open_object (member ∷ []) ++ key_text kind
    → (head ++ (open_object (stream ∷ optional name space []) ++ key_text key)) ++ (body ++ 44 ∷ part_before moment (125 ∷ 125 ∷ []))
    ≡ object_text (member ∷ named kind (object_text (stream ∷ optional name space (named key body ∷ moment ∷ []))) ∷ [])
record_by head kind member stream name space key body moment is =
    let ok = open_object (stream ∷ optional name space []) ++ key_text key in
    let e = more_text (moment ∷ []) in
    let tail : 44 ∷ part_before moment (125 ∷ 125 ∷ []) ≡ e ++ 125 ∷ 125 ∷ [] = ap (λ (t : List ℕ). 44 ∷ t) (sym (part_before-append moment [] (125 ∷ 125 ∷ []))) in
    ap (λ (t : List ℕ). (head ++ ok) ++ (body ++ t)) tail
    ∙ sym (five head ok body e (125 ∷ []) (125 ∷ []))
    ∙ ap (λ (t : List ℕ). head ++ (t ++ 125 ∷ [])) (record_object stream name space key body moment)
    ∙ ap (λ (t : List ℕ). t ++ (object_text (stream ∷ optional name space (named key body ∷ moment ∷ [])) ++ 125 ∷ [])) is
    ∙ line_around kind (object_text (stream ∷ optional name space (named key body ∷ moment ∷ []))) member

pub record_line_is : (id : StreamId) (moment : ℕ) (body : List ℕ) → record_head id ++ (body ++ record_tail moment) ≡ record_line id moment body
record_line_is id moment body =
    record_by (line_head types.Rec) (codes "record") (named (codes "type") (quoted (codes "RECORD"))) (named (codes "stream") (quoted id.name)) (codes "namespace") (option_map quoted id.namespace) (codes "data") body
    (named (codes "emitted_at") (decimal moment)) refl

-- an object of three members, of which the first stands open
three : (first : Part) (second third two one : List ℕ)
    → ((((open_object (first ∷ []) ++ key_text second) ++ two) ++ (key_text third ++ one)) ++ 125 ∷ []) ≡ object_text (first ∷ named second two ∷ named third one ∷ [])
three first second third two one =
    let start = open_object (first ∷ []) in
    let told = (start ++ key_text second) ++ two in
    let more = (told ++ key_text third) ++ one in
    let second_is = keyed 44 start (start ++ key_text second) told second two refl refl in
    let grown = grows [] start told first [] (named second two ∷ []) refl second_is in
    let third_is = keyed 44 told (told ++ key_text third) more third one refl refl in
    let both = grows [] told more first (named second two ∷ []) (named third one ∷ []) grown third_is in
    ap (λ (t : List ℕ). t ++ 125 ∷ []) (sym (append_assoc told (key_text third) one)) ∙ closes [] more (more ++ 125 ∷ []) first (named second two ∷ named third one ∷ []) both refl

state_chain : (a b k1 dk2 blob k3co x y z : List ℕ)
    → (a ++ (b ++ (k1 ++ dk2))) ++ (blob ++ (x ++ (k3co ++ (y ++ z)))) ≡ a ++ (((((b ++ k1) ++ (dk2 ++ (blob ++ x))) ++ k3co) ++ y) ++ z)
state_chain a b k1 dk2 blob k3co x y z = simp append_assoc refl

state_by : (head kind : List ℕ) (member type : Part) (second third state : List ℕ) (descriptor : Part) (blob counts : List ℕ)
    → head ≡ open_object (member ∷ []) ++ key_text kind
    → (head ++ (open_object (type ∷ []) ++ (key_text second ++ (open_object (descriptor ∷ []) ++ key_text state)))) ++ (blob ++ 125 ∷ ((key_text third ++ counts) ++ 125 ∷ 125 ∷ []))
    ≡ object_text (member ∷ named kind (object_text (type ∷ named second (object_text (descriptor ∷ named state blob ∷ [])) ∷ named third counts ∷ [])) ∷ [])
state_by head kind member type second third state descriptor blob counts is =
    let object = object_text (descriptor ∷ named state blob ∷ []) in
    let told = object_text (type ∷ named second object ∷ named third counts ∷ []) in
    state_chain head (open_object (type ∷ [])) (key_text second) (open_object (descriptor ∷ []) ++ key_text state) blob (key_text third ++ counts) (125 ∷ []) (125 ∷ []) (125 ∷ [])
    ∙ ap (λ (t : List ℕ). head ++ (((((open_object (type ∷ []) ++ key_text second) ++ t) ++ (key_text third ++ counts)) ++ 125 ∷ []) ++ 125 ∷ [])) (line_around state blob descriptor)
    ∙ ap (λ (t : List ℕ). head ++ (t ++ 125 ∷ [])) (three type second third object counts)
    ∙ ap (λ (t : List ℕ). t ++ (told ++ 125 ∷ [])) is
    ∙ line_around kind told member

pub state_line_is : (id : StreamId) (blob : List ℕ) (count : ℕ) → state_head id ++ (blob ++ state_tail count) ≡ state_line id blob count
state_line_is id blob count =
    let counts = object_text (named (codes "recordCount") (decimal count) ∷ []) in
    ap (λ (t : List ℕ). state_head id ++ (blob ++ 125 ∷ t)) (sym (append_assoc (key_text (codes "sourceStats")) counts (125 ∷ 125 ∷ [])))
    ∙ state_by (line_head types.State) (codes "state") (named (codes "type") (quoted (codes "STATE"))) (named (codes "type") (quoted (codes "STREAM"))) (codes "stream") (codes "sourceStats") (codes "stream_state")
    (named (codes "stream_descriptor") (object_text (named (codes "name") (quoted id.name) ∷ optional (codes "namespace") (option_map quoted id.namespace) []))) blob counts refl
