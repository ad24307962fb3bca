-- The text of a line grows up to its record's body, or its state's blob.
use Rattle.std.proofs.Common.{◌≡◌, ◌∙◌, ℕ, List, [], ◌∷◌, ◌++◌, refl, sym, ap, append_assoc}
use Rattle.json.specs.Print.{quoted}
use Rattle.json_write.specs.Objects.{Part, named, object_text, open_object, more_text}
use Rattle.json_write.proofs.Texts.{grows, closes, keyed}

pub record_begins : (start head ids next : List ℕ) (stream : Part) (space : List Part) (key : List ℕ)
    → head ≡ start → ids ≡ (head ++ open_object (stream ∷ [])) ++ more_text space → next ≡ ids ++ key → next ≡ start ++ (open_object (stream ∷ space) ++ key)
record_begins start head ids next stream space key h i n =
    let named_is = grows head (head ++ open_object (stream ∷ [])) ids stream [] space refl i in
    n ∙ ap (λ (t : List ℕ). t ++ key) named_is ∙ append_assoc head (open_object (stream ∷ space)) key
    ∙ ap (λ (t : List ℕ). t ++ (open_object (stream ∷ space) ++ key)) h

four : (a b c d e : List ℕ) → (((a ++ b) ++ c) ++ d) ++ e ≡ a ++ (b ++ (c ++ (d ++ e)))
four a b c d e = append_assoc ((a ++ b) ++ c) d e ∙ append_assoc (a ++ b) c (d ++ e) ∙ append_assoc a b (c ++ (d ++ e))

pub state_begins : (start head typed known descriptor ids closed next : List ℕ) (type key : List ℕ) (of : List ℕ) (name : Part) (space : List Part) (last : List ℕ)
    → head ≡ start → typed ≡ head ++ type → known ≡ typed ++ key → descriptor ≡ known ++ 123 ∷ (quoted of ++ 58 ∷ [])
    → ids ≡ (descriptor ++ open_object (name ∷ [])) ++ more_text space → closed ≡ ids ++ 125 ∷ [] → next ≡ closed ++ last
    → next ≡ start ++ (type ++ (key ++ (open_object (named of (object_text (name ∷ space)) ∷ []) ++ last)))
state_begins start head typed known descriptor ids closed next type key of name space last h t k d i c n =
    let named_is = grows descriptor (descriptor ++ open_object (name ∷ [])) ids name [] space refl i in
    let whole = closes descriptor ids closed name space named_is c in
    let member = keyed 123 known descriptor closed of (object_text (name ∷ space)) d whole in
    n ∙ ap (λ (x : List ℕ). x ++ last) member
    ∙ ap (λ (x : List ℕ). (x ++ open_object (named of (object_text (name ∷ space)) ∷ [])) ++ last) (k ∙ ap (λ (x : List ℕ). x ++ key) (t ∙ ap (λ (x : List ℕ). x ++ type) h))
    ∙ four start type key (open_object (named of (object_text (name ∷ space)) ∷ [])) last

-- a line around what it tells
pub line_around : (key told : List ℕ) (member : Part) → (open_object (member ∷ []) ++ 44 ∷ (quoted key ++ 58 ∷ [])) ++ (told ++ 125 ∷ []) ≡ object_text (member ∷ named key told ∷ [])
line_around key told member =
    let start = open_object (member ∷ []) in
    let name = 44 ∷ (quoted key ++ 58 ∷ []) in
    let member_is = keyed 44 start (start ++ name) ((start ++ name) ++ told) key told refl refl in
    let grown = grows [] start ((start ++ name) ++ told) member [] (named key told ∷ []) refl member_is in
    let closed = closes [] ((start ++ name) ++ told) (((start ++ name) ++ told) ++ 125 ∷ []) member (named key told ∷ []) grown refl in
    sym (append_assoc (start ++ name) told (125 ∷ [])) ∙ closed
