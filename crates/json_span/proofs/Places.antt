-- What the machine counts: the depth of a tree, and the places of its members.
use Rattle.std.proofs.Common.{◌≡◌, ℕ, suc, ◌+◌, ◌-◌, ◌<◌, ◌≤◌, max, List, [], ◌∷◌, ◌++◌, length, sym, ap, ◌∙◌, arith, length-append, append_assoc, append-nil, add_assoc}
use Rattle.json_scalar.specs.Text.{Piece, string_text}
use Rattle.json_span.specs.Grammar as json
use Rattle.json_span.specs.Grammar.{Space, space_text, Value, Items, Members, value_text, depth, items_depth, members_depth, member_at, member_end, members_from}
use Rattle.json_span.specs.Members.{IsObjectValue, members_of}
use Rattle.json_span.specs.declared.Member.{Member}
use Rattle.json_span.specs.declared.phase.Frame.TheVariants as frame
use Rattle.json_span.specs.declared.cutter.Cutter.{Cutter}
use Rattle.json_span.proofs.Spelling.{blanks, string_then, value_then, members_then, blanks-is, string_then-is, value_then-is}
use Rattle.json_span.proofs.Sound.{deepened, items_deepened, members_deepened, member_cut, members_cut, object_cut}

-- the deepest so far, one value more
step_depth : (level d d1 d2 v items : ℕ) → d1 ≡ max (max d (suc level)) (suc level + v) → d2 ≡ max d1 (suc level + items) → d2 ≡ max d (level + suc (max v items))
step_depth level d d1 d2 v items e f = omega arith

next_depth : (level d d1 d2 v items : ℕ) → d1 ≡ max d (level + v) → d2 ≡ max d1 (level + items) → d2 ≡ max d (level + max v items)
next_depth level d d1 d2 v items e f = omega arith

mutual
  pub deepened-max : (v : Value) (level d : ℕ) → level ≤ d → deepened v level d ≡ max d (level + depth v)
  deepened-max json.null level d h = omega arith
  deepened-max json.yes level d h = omega arith
  deepened-max json.no level d h = omega arith
  deepened-max (json.number l) level d h = omega arith
  deepened-max (json.string ps) level d h = omega arith
  deepened-max (json.empty_array ss) level d h = omega arith
  deepened-max (json.array before v after items) level d h =
      let d1 = deepened v (suc level) (max d (suc level)) in
      let e : d1 ≡ max (max d (suc level)) (suc level + depth v) = deepened-max v (suc level) (max d (suc level)) (omega arith) in
      step_depth level d d1 (items_deepened items (suc level) d1) (depth v) (items_depth items) e (items_deepened-max items (suc level) d1 (omega arith))
  deepened-max (json.empty_object ss) level d h = omega arith
  deepened-max (json.object before key behind ahead v after members) level d h =
      let d1 = deepened v (suc level) (max d (suc level)) in
      let e : d1 ≡ max (max d (suc level)) (suc level + depth v) = deepened-max v (suc level) (max d (suc level)) (omega arith) in
      step_depth level d d1 (members_deepened members (suc level) d1) (depth v) (members_depth members) e (members_deepened-max members (suc level) d1 (omega arith))

  items_deepened-max : (items : Items) (level d : ℕ) → level ≤ d → items_deepened items level d ≡ max d (level + items_depth items)
  items_deepened-max json.end_array level d h = omega arith
  items_deepened-max (json.item before v after items) level d h =
      let d1 = deepened v level d in
      let e : d1 ≡ max d (level + depth v) = deepened-max v level d h in
      next_depth level d d1 (items_deepened items level d1) (depth v) (items_depth items) e (items_deepened-max items level d1 (omega arith))

  members_deepened-max : (members : Members) (level d : ℕ) → level ≤ d → members_deepened members level d ≡ max d (level + members_depth members)
  members_deepened-max json.end_object level d h = omega arith
  members_deepened-max (json.member before key behind ahead v after members) level d h =
      let d1 = deepened v level d in
      let e : d1 ≡ max d (level + depth v) = deepened-max v level d h in
      next_depth level d d1 (members_deepened members level d1) (depth v) (members_depth members) e (members_deepened-max members level d1 (omega arith))

-- an object opens a level of its own
pub braces_deepened : (v : Value) → IsObjectValue v → (level d : ℕ) → deepened v level d ≡ max d (level + depth v)
braces_deepened (json.empty_object ss) is level d = omega arith
braces_deepened (json.object before key behind ahead v after members) is level d =
    let w = json.object before key behind ahead v after members in
    let e : max d (suc level) ≡ max (max d level) (suc level) = omega arith in
    ap (λ (n : ℕ). members_deepened members (suc level) (deepened v (suc level) n)) e
    ∙ deepened-max w level (max d level) (omega arith)
    ∙ drop_level level d (depth w) (omega arith)
  where
    drop_level : (level d n : ℕ) → 0 < n → max (max d level) (level + n) ≡ max d (level + n)
    drop_level level d n h = omega arith
braces_deepened _ is level d = absurd is

-- how long a front and what follows it are
pub length-blanks : (ss : List Space) (rest : List ℕ) → length (blanks ss rest) ≡ length (space_text ss) + length rest
length-blanks ss rest = ap (λ (l : List ℕ). length l) (blanks-is ss rest) ∙ length-append (space_text ss) rest

length-string_then : (ps : List Piece) (rest : List ℕ) → length (string_then ps rest) ≡ length (string_text ps) + length rest
length-string_then ps rest = ap (λ (l : List ℕ). length l) (string_then-is ps rest) ∙ length-append (string_text ps) rest

pub length-value_then : (v : Value) (rest : List ℕ) → length (value_then v rest) ≡ length (value_text v) + length rest
length-value_then v rest = ap (λ (l : List ℕ). length l) (value_then-is v rest) ∙ length-append (value_text v) rest

member_equal : (a b c d a' b' c' d' : ℕ) → a ≡ a' → b ≡ b' → c ≡ c' → d ≡ d' → ◌≡◌ {A = Member} record { key = record { start = a; end = b }; value = record { start = c; end = d } } record { key = record { start = a'; end = b' }; value = record { start = c'; end = d' } }
member_equal a b c d a' b' c' d' e f g h = cc

-- places as what is left, and as lengths: key, white space, colon, white space, value
record Placed (size at key behind ahead value a b c d : ℕ) : Type 0 where
  key_start : size - a ≡ at
  key_end : size - b ≡ at + key
  value_start : size - c ≡ at + key + behind + 1 + ahead
  value_end : size - d ≡ at + key + behind + 1 + ahead + value
  left : size ≡ at + key + behind + 1 + ahead + value + d

placed : (size at key behind ahead value a b c d : ℕ) → size ≡ at + a → a ≡ key + b → b ≡ behind + suc (ahead + c) → c ≡ value + d → Placed size at key behind ahead value a b c d
placed size at key behind ahead value a b c d e f g h = record { key_start = omega arith; key_end = omega arith; value_start = omega arith; value_end = omega arith; left = omega arith }

module _ (size at : ℕ) (key : List Piece) (behind ahead : List Space) (v : Value) (after : List Space) (tail : List ℕ) where
  member_placed : size ≡ at + length (string_then key (blanks behind (58 ∷ blanks ahead (value_then v (blanks after tail))))) →
      Placed size at (length (string_text key)) (length (space_text behind)) (length (space_text ahead)) (length (value_text v))
      (length (string_then key (blanks behind (58 ∷ blanks ahead (value_then v (blanks after tail)))))) (length (blanks behind (58 ∷ blanks ahead (value_then v (blanks after tail))))) (length (value_then v (blanks after tail))) (length (blanks after tail))
  member_placed e =
      let colon_at = 58 ∷ blanks ahead (value_then v (blanks after tail)) in
      placed size at (length (string_text key)) (length (space_text behind)) (length (space_text ahead)) (length (value_text v))
      (length (string_then key (blanks behind colon_at))) (length (blanks behind colon_at)) (length (value_then v (blanks after tail))) (length (blanks after tail))
      e (length-string_then key (blanks behind colon_at))
      (length-blanks behind colon_at ∙ ap (λ (n : ℕ). length (space_text behind) + suc n) (length-blanks ahead (value_then v (blanks after tail))))
      (length-value_then v (blanks after tail))

  -- the cutter gets the member at its place
  member_cut-members : (c : Cutter) → size ≡ at + length (string_then key (blanks behind (58 ∷ blanks ahead (value_then v (blanks after tail))))) →
      (member_cut size (frame.Object ∷ []) c key behind ahead v after tail).members ≡ c.members ++ member_at at key behind ahead v ∷ []
  member_cut-members c e =
      let p = member_placed e in
      ap (λ (m : Member). c.members ++ m ∷ [])
      (member_equal (size - length (string_then key (blanks behind (58 ∷ blanks ahead (value_then v (blanks after tail)))))) (size - length (blanks behind (58 ∷ blanks ahead (value_then v (blanks after tail))))) (size - length (value_then v (blanks after tail))) (size - length (blanks after tail))
      at (at + length (string_text key)) (at + length (string_text key) + length (space_text behind) + 1 + length (space_text ahead)) (at + length (string_text key) + length (space_text behind) + 1 + length (space_text ahead) + length (value_text v))
      p.key_start p.key_end p.value_start p.value_end)

  -- and what follows stands behind it
  member_left : size ≡ at + length (string_then key (blanks behind (58 ∷ blanks ahead (value_then v (blanks after tail))))) → size ≡ member_end at key behind ahead v after + length tail
  member_left e =
      (member_placed e).left
      ∙ ap (λ (n : ℕ). at + length (string_text key) + length (space_text behind) + 1 + length (space_text ahead) + length (value_text v) + n) (length-blanks after tail)
      ∙ sym (add_assoc (at + length (string_text key) + length (space_text behind) + 1 + length (space_text ahead) + length (value_text v)) (length (space_text after)) (length tail))

-- a key behind a byte and white space
pub key_place : (size from a n : ℕ) → size ≡ from + suc a → (before : ℕ) → a ≡ before + n → size ≡ from + 1 + before + n
key_place size from a n e before f = omega arith

members_cut-members : (members : Members) (size from : ℕ) (c : Cutter) (rest : List ℕ) → size ≡ from + length (members_then members rest) →
    (members_cut size (frame.Object ∷ []) c members rest).members ≡ c.members ++ members_from from members
members_cut-members json.end_object size from c rest e = sym (append-nil c.members)
members_cut-members (json.member before key behind ahead v after members) size from c rest e =
    let tail = members_then members rest in
    let key_at = string_then key (blanks behind (58 ∷ blanks ahead (value_then v (blanks after tail)))) in
    let at = from + 1 + length (space_text before) in
    let here : size ≡ at + length key_at = key_place size from (length (blanks before key_at)) (length key_at) e (length (space_text before)) (length-blanks before key_at) in
    let c1 = member_cut size (frame.Object ∷ []) c key behind ahead v after tail in
    members_cut-members members size (member_end at key behind ahead v after) c1 rest (member_left size at key behind ahead v after tail here)
    ∙ ap (λ (l : List Member). l ++ members_from (member_end at key behind ahead v after) members) (member_cut-members size at key behind ahead v after tail c here)
    ∙ append_assoc c.members (member_at at key behind ahead v ∷ []) (members_from (member_end at key behind ahead v after) members)

-- the members of the object of the text
pub object_cut-members : (v : Value) → IsObjectValue v → (size at : ℕ) (c : Cutter) (rest : List ℕ) → size ≡ at + length (value_then v rest) → (object_cut size c v rest).members ≡ c.members ++ members_of at v
object_cut-members (json.empty_object ss) is size at c rest e = sym (append-nil c.members)
object_cut-members (json.object before key behind ahead v after members) is size at c rest e =
    let tail = members_then members rest in
    let key_at = string_then key (blanks behind (58 ∷ blanks ahead (value_then v (blanks after tail)))) in
    let start = at + 1 + length (space_text before) in
    let here : size ≡ start + length key_at = key_place size at (length (blanks before key_at)) (length key_at) e (length (space_text before)) (length-blanks before key_at) in
    let c1 = member_cut size (frame.Object ∷ []) c key behind ahead v after tail in
    members_cut-members members size (member_end start key behind ahead v after) c1 rest (member_left size start key behind ahead v after tail here)
    ∙ ap (λ (l : List Member). l ++ members_from (member_end start key behind ahead v after) members) (member_cut-members size start key behind ahead v after tail c here)
    ∙ append_assoc c.members (member_at start key behind ahead v ∷ []) (members_from (member_end start key behind ahead v after) members)
object_cut-members _ is size at c rest e = absurd is

-- where the object of the text begins
pub object_place : (before : List Space) (rest : List ℕ) → length (blanks before rest) ≡ length (space_text before) + length rest
object_place before rest = length-blanks before rest
