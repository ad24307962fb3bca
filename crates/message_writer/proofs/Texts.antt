-- The texts of messages grow by one member after another.
use Rattle.std.proofs.Common.{◌≡◌, ℕ, List, [], ◌∷◌, ◌++◌, Option, None, Some, refl, ◌∙◌, ap, codes}
use Rattle.json.specs.Print.{quoted}
use Rattle.json_write.specs.Objects.{Part, named, object_text, open_object, optional, more_text}
use Rattle.json_write.proofs.Texts.{grows, closes, keyed}

-- the members of a record, put one by one
pub record_closes : (old ids more most all next : List ℕ) (stream body emitted_at : Part) (namespace meta : List ℕ) (space about : Option (List ℕ)) → ids ≡ (old ++ open_object (stream ∷ [])) ++ more_text (optional namespace space []) → more ≡ ids ++ more_text (body ∷ []) → most ≡ more ++ more_text (emitted_at ∷ []) → all ≡ most ++ more_text (optional meta about []) → next ≡ all ++ 125 ∷ [] → next ≡ old ++ object_text (stream ∷ optional namespace space (body ∷ emitted_at ∷ optional meta about []))
record_closes old ids more most all next stream body emitted_at namespace meta space about e f g h k =
    let spaced = optional namespace space [] in
    let e1 = grows old (old ++ open_object (stream ∷ [])) ids stream [] spaced refl e in
    let e2 = grows old ids more stream spaced (body ∷ []) e1 f in
    let e3 = grows old more most stream (spaced ++ body ∷ []) (emitted_at ∷ []) e2 g in
    let e4 = grows old most all stream ((spaced ++ body ∷ []) ++ emitted_at ∷ []) (optional meta about []) e3 h in
    closes old all next stream (optional namespace space (body ∷ emitted_at ∷ optional meta about [])) (e4 ∙ ap (λ (ps : List Part). old ++ open_object (stream ∷ ps)) (parts space)) k
  where
    parts : (space : Option (List ℕ)) → ((optional namespace space [] ++ body ∷ []) ++ emitted_at ∷ []) ++ optional meta about [] ≡ optional namespace space (body ∷ emitted_at ∷ optional meta about [])
    parts None = refl
    parts (Some space) = refl

pub told_parts : (type value : Part) (name : List ℕ) (emitted_at : Option (List ℕ)) → optional name emitted_at [] ++ value ∷ [] ≡ optional name emitted_at (value ∷ [])
told_parts type value name None = refl
told_parts type value name (Some emitted_at) = refl

-- a trace: its type, perhaps when it was emitted, and one member more
pub told_closes : (old typed head told next : List ℕ) (type : Part) (at : List ℕ) (emitted_at : Option (List ℕ)) (name value : List ℕ) → typed ≡ (old ++ open_object (type ∷ [])) ++ more_text (optional at emitted_at []) → head ≡ typed ++ 44 ∷ (quoted name ++ 58 ∷ []) → told ≡ head ++ value → next ≡ told ++ 125 ∷ [] → next ≡ old ++ object_text (type ∷ optional at emitted_at (named name value ∷ []))
told_closes old typed head told next type at emitted_at name value e f g h =
    let first = grows old (old ++ open_object (type ∷ [])) typed type [] (optional at emitted_at []) refl e in
    let member = keyed 44 typed head told name value f g in
    let all = grows old typed told type (optional at emitted_at []) (named name value ∷ []) first member in
    closes old told next type (optional at emitted_at (named name value ∷ [])) (all ∙ ap (λ (ps : List Part). old ++ open_object (type ∷ ps)) (told_parts type (named name value) at emitted_at)) h

-- a line: its type, and one member more
pub line_closes : (start typed head told next : List ℕ) (type name named_as type_as value : List ℕ) → start ≡ [] → typed ≡ start ++ open_object (named (codes "type") (quoted type) ∷ []) → head ≡ typed ++ 44 ∷ (quoted name ++ 58 ∷ []) → told ≡ head ++ value → next ≡ told ++ 125 ∷ [] → type ≡ type_as → name ≡ named_as → next ≡ object_text (named (codes "type") (quoted type_as) ∷ named named_as value ∷ [])
line_closes start typed head told next type name named_as type_as value e f g h k t n =
    let member = keyed 44 typed head told name value g h in
    let all = grows start typed told (named (codes "type") (quoted type)) [] (named name value ∷ []) f member in
    closes start told next (named (codes "type") (quoted type)) (named name value ∷ []) all k ∙ (λ i. e i ++ object_text (named (codes "type") (quoted (t i)) ∷ named (n i) value ∷ []))
