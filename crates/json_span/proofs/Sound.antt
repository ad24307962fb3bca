-- The machine reads the spelling of each tree: it comes out behind the value, with the tree's depth and places.
use Rattle.std.proofs.Common.{◌≡◌, ℕ, suc, ◌-◌, max, List, [], ◌∷◌, Bool, true, false, length, refl, sym, ap, subst, ◌∙◌}
use Rattle.json_scalar.specs.Text.{Piece}
use Rattle.json_scalar.specs.Number.{Whole, nought, counted}
use Rattle.json_span.specs.Grammar as json
use Rattle.json_span.specs.Grammar.{Space, space_byte, Value, Items, Members}
use Rattle.json_span.specs.Members.{IsObjectValue}
use Rattle.json_span.specs.Elements.{IsArrayValue}
use Rattle.json_span.specs.Table.{class_of, value_move, table}
use Rattle.json_span.specs.Machine.{key_begun, key_ended, value_begun, value_ended, phase_behind, moved, run}
use Rattle.json_span.specs.declared.class.Class.{Class}
use Rattle.json_span.specs.declared.class.Class.TheVariants as class
use Rattle.json_span.specs.declared.phase.Frame.{Frame}
use Rattle.json_span.specs.declared.phase.Frame.TheVariants as frame
use Rattle.json_span.specs.declared.phase.Role.TheVariants as role
use Rattle.json_span.specs.declared.phase.Phase.TheVariants as phase
use Rattle.json_span.specs.declared.cutter.Cutter.{Cutter}
use Rattle.json_span.proofs.Spelling.{blanks, minus_then, whole_then, fraction_then, exponent_then, string_then, value_then, items_then, members_then}
use Rattle.json_span.proofs.Steps.{state, run-blanks, run-pieces, waits_start, waits_first_key, waits_key, waits_colon, waits_first_item, waits_value, waits_after, waits_done}
use Rattle.json_span.proofs.Numbers.{Stops, first_class, run-literal}

-- the deepest so far, behind a value at this level
abbrev mutual
  pub deepened : Value → ℕ → ℕ → ℕ
  deepened json.null level d = d
  deepened json.yes level d = d
  deepened json.no level d = d
  deepened (json.number l) level d = d
  deepened (json.string ps) level d = d
  deepened (json.empty_array ss) level d = max d (suc level)
  deepened (json.array before v after items) level d = items_deepened items (suc level) (deepened v (suc level) (max d (suc level)))
  deepened (json.empty_object ss) level d = max d (suc level)
  deepened (json.object before key behind ahead v after members) level d = members_deepened members (suc level) (deepened v (suc level) (max d (suc level)))

  pub items_deepened : Items → ℕ → ℕ → ℕ
  items_deepened json.end_array level d = d
  items_deepened (json.item before v after items) level d = items_deepened items level (deepened v level d)

  pub members_deepened : Members → ℕ → ℕ → ℕ
  members_deepened json.end_object level d = d
  members_deepened (json.member before key behind ahead v after members) level d = members_deepened members level (deepened v level d)

-- what a value from one place to another makes of the cutter
abbrev pub value_cut : ℕ → List Frame → Cutter → List ℕ → List ℕ → Cutter
value_cut size k c from to = value_ended k (value_begun k c (size - length from)) (size - length to)

-- what a member makes of it, with this text behind the member
abbrev pub member_cut : ℕ → List Frame → Cutter → List Piece → List Space → List Space → Value → List Space → List ℕ → Cutter
member_cut size k c key behind ahead v after tail =
    value_cut size k
    (key_ended k (key_begun k c (size - length (string_then key (blanks behind (58 ∷ blanks ahead (value_then v (blanks after tail))))))) (size - length (blanks behind (58 ∷ blanks ahead (value_then v (blanks after tail))))))
    (value_then v (blanks after tail)) (blanks after tail)

abbrev pub members_cut : ℕ → List Frame → Cutter → Members → List ℕ → Cutter
members_cut size k c json.end_object rest = c
members_cut size k c (json.member before key behind ahead v after members) rest = members_cut size k (member_cut size k c key behind ahead v after (members_then members rest)) members rest

-- inside another value no places are kept
members_cut-inside : (size : ℕ) (f g : Frame) (k : List Frame) (c : Cutter) (members : Members) (rest : List ℕ) → members_cut size (f ∷ g ∷ k) c members rest ≡ c
members_cut-inside size f g k c json.end_object rest = refl
members_cut-inside size f g k c (json.member before key behind ahead v after members) rest = members_cut-inside size f g k c members rest

abbrev pub items_cut : ℕ → List Frame → Cutter → Items → List ℕ → Cutter
items_cut size k c json.end_array rest = c
items_cut size k c (json.item before v after items) rest = items_cut size k (value_cut size k c (value_then v (blanks after (items_then items rest))) (blanks after (items_then items rest))) items rest

items_cut-inside : (size : ℕ) (f g : Frame) (k : List Frame) (c : Cutter) (items : Items) (rest : List ℕ) → items_cut size (f ∷ g ∷ k) c items rest ≡ c
items_cut-inside size f g k c json.end_array rest = refl
items_cut-inside size f g k c (json.item before v after items) rest = items_cut-inside size f g k c items rest

-- what follows a value ends a number
stops_blanks : (ss : List Space) (rest : List ℕ) → Stops rest → Stops (blanks ss rest)
stops_blanks [] rest h = h
stops_blanks (json.blank ∷ ss) rest h = tt
stops_blanks (json.tab ∷ ss) rest h = tt
stops_blanks (json.newline ∷ ss) rest h = tt
stops_blanks (json.carriage_return ∷ ss) rest h = tt

stops_items : (items : Items) (rest : List ℕ) → Stops (items_then items rest)
stops_items json.end_array rest = tt
stops_items (json.item before v after items) rest = tt

stops_members : (members : Members) (rest : List ℕ) → Stops (members_then members rest)
stops_members json.end_object rest = tt
stops_members (json.member before key behind ahead v after members) rest = tt

-- what a value begins with is not white space and shuts no array
abbrev pub IsStart : Class → Type 0
IsStart class.Quote = Unit {0}
IsStart class.ArrayStart = Unit {0}
IsStart class.ObjectStart = Unit {0}
IsStart class.Minus = Unit {0}
IsStart class.Zero = Unit {0}
IsStart class.Digit = Unit {0}
IsStart class.LetterT = Unit {0}
IsStart class.LetterF = Unit {0}
IsStart class.LetterN = Unit {0}
IsStart _ = ⊥

abbrev pub Starts : List ℕ → Type 0
Starts [] = ⊥
Starts (b ∷ bs) = IsStart (class_of b)

starts_number : (negative : Bool) (w : Whole) (rest : List ℕ) → Starts (minus_then negative (whole_then w rest))
starts_number true w rest = tt
starts_number false nought rest = tt
starts_number false (counted first above others) rest = subst (λ t. IsStart t) (sym (first_class first above)) tt

pub starts_value : (v : Value) (rest : List ℕ) → Starts (value_then v rest)
starts_value json.null rest = tt
starts_value json.yes rest = tt
starts_value json.no rest = tt
starts_value (json.number l) rest = starts_number l.is_negative l.whole (fraction_then l.fraction (exponent_then l.exponent rest))
starts_value (json.string ps) rest = tt
starts_value (json.empty_array ss) rest = tt
starts_value (json.array before v after items) rest = tt
starts_value (json.empty_object ss) rest = tt
starts_value (json.object before key behind ahead v after members) rest = tt

-- there the first item of an array is read as any value
same_start : (k : List Frame) (d : ℕ) (c : Cutter) (b here behind : ℕ) (t : Class) → IsStart t → moved (table phase.FirstItem t) (state phase.FirstItem k d c) b here behind ≡ moved (value_move t) (state phase.Value k d c) b here behind
same_start k d c b here behind class.Quote h = refl
same_start k d c b here behind class.ArrayStart h = refl
same_start k d c b here behind class.ObjectStart h = refl
same_start k d c b here behind class.Minus h = refl
same_start k d c b here behind class.Zero h = refl
same_start k d c b here behind class.Digit h = refl
same_start k d c b here behind class.LetterT h = refl
same_start k d c b here behind class.LetterF h = refl
same_start k d c b here behind class.LetterN h = refl
same_start k d c b here behind _ h = absurd h

first_item : (size : ℕ) (k : List Frame) (d : ℕ) (c : Cutter) (bytes : List ℕ) → Starts bytes → run size (state phase.FirstItem k d c) bytes ≡ run size (state phase.Value k d c) bytes
first_item size k d c [] h = absurd h
first_item size k d c (b ∷ bs) h = ap (λ m. run size m bs) (same_start k d c b (size - length (b ∷ bs)) (size - length bs) (class_of b) h)

-- A member from its key on, by what its value comes to.
run-member : (size : ℕ) (k : List Frame) (d deep : ℕ) (c : Cutter) (key : List Piece) (behind ahead : List Space) (v : Value) (after : List Space) (tail : List ℕ) →
    ((c' : Cutter) → run size (state phase.Value k d c') (value_then v (blanks after tail)) ≡ run size (state phase.After k deep (value_cut size k c' (value_then v (blanks after tail)) (blanks after tail))) (blanks after tail)) →
    run size (state phase.Key k d c) (string_then key (blanks behind (58 ∷ blanks ahead (value_then v (blanks after tail))))) ≡ run size (state phase.After k deep (member_cut size k c key behind ahead v after tail)) tail
run-member size k d deep c key behind ahead v after tail value =
    let value_at = value_then v (blanks after tail) in
    let colon_at = 58 ∷ blanks ahead value_at in
    let c1 = key_begun k c (size - length (string_then key (blanks behind colon_at))) in
    let c2 = key_ended k c1 (size - length (blanks behind colon_at)) in
    run-pieces size role.Key k d c1 key (34 ∷ blanks behind colon_at)
    ∙ run-blanks size phase.Colon waits_colon k d c2 behind colon_at
    ∙ run-blanks size phase.Value waits_value k d c2 ahead value_at
    ∙ value c2
    ∙ run-blanks size phase.After waits_after k deep (value_cut size k c2 value_at (blanks after tail)) after tail

mutual
  pub run-value : (v : Value) (size : ℕ) (f : Frame) (k : List Frame) (d : ℕ) (c : Cutter) (rest : List ℕ) → Stops rest →
      run size (state phase.Value (f ∷ k) d c) (value_then v rest) ≡ run size (state phase.After (f ∷ k) (deepened v (length (f ∷ k)) d) (value_cut size (f ∷ k) c (value_then v rest) rest)) rest
  run-value json.null size f k d c rest h = refl
  run-value json.yes size f k d c rest h = refl
  run-value json.no size f k d c rest h = refl
  run-value (json.number l) size f k d c rest h = run-literal size (f ∷ k) d c l rest h
  run-value (json.string ps) size f k d c rest h = run-pieces size role.Value (f ∷ k) d (value_begun (f ∷ k) c (size - length (string_then ps rest))) ps (34 ∷ rest)
  run-value (json.empty_array ss) size f k d c rest h =
      run-blanks size phase.FirstItem waits_first_item (frame.Array ∷ f ∷ k) (max d (suc (length (f ∷ k)))) (value_begun (f ∷ k) c (size - length (91 ∷ blanks ss (93 ∷ rest)))) ss (93 ∷ rest)
  run-value (json.array before v after items) size f k d c rest h =
      let tail = items_then items rest in
      let value_at = value_then v (blanks after tail) in
      let c1 = value_begun (f ∷ k) c (size - length (91 ∷ blanks before value_at)) in
      let d1 = max d (suc (length (f ∷ k))) in
      run-blanks size phase.FirstItem waits_first_item (frame.Array ∷ f ∷ k) d1 c1 before value_at
      ∙ first_item size (frame.Array ∷ f ∷ k) d1 c1 value_at (starts_value v (blanks after tail))
      ∙ run-value v size frame.Array (f ∷ k) d1 c1 (blanks after tail) (stops_blanks after tail (stops_items items rest))
      ∙ run-blanks size phase.After waits_after (frame.Array ∷ f ∷ k) (deepened v (suc (length (f ∷ k))) d1) c1 after tail
      ∙ run-items items size (f ∷ k) (deepened v (suc (length (f ∷ k))) d1) c1 rest
      ∙ ap (λ c'. run size (state phase.After (f ∷ k) (items_deepened items (suc (length (f ∷ k))) (deepened v (suc (length (f ∷ k))) d1)) (value_ended (f ∷ k) c' (size - length rest))) rest) (items_cut-inside size frame.Array f k c1 items rest)
  run-value (json.empty_object ss) size f k d c rest h =
      run-blanks size phase.FirstKey waits_first_key (frame.Object ∷ f ∷ k) (max d (suc (length (f ∷ k)))) (value_begun (f ∷ k) c (size - length (123 ∷ blanks ss (125 ∷ rest)))) ss (125 ∷ rest)
  run-value (json.object before key behind ahead v after members) size f k d c rest h =
      let tail = members_then members rest in
      let key_at = string_then key (blanks behind (58 ∷ blanks ahead (value_then v (blanks after tail)))) in
      let c1 = value_begun (f ∷ k) c (size - length (123 ∷ blanks before key_at)) in
      let d1 = max d (suc (length (f ∷ k))) in
      let d2 = deepened v (suc (length (f ∷ k))) d1 in
      run-blanks size phase.FirstKey waits_first_key (frame.Object ∷ f ∷ k) d1 c1 before key_at
      ∙ run-member size (frame.Object ∷ f ∷ k) d1 d2 c1 key behind ahead v after tail (λ c'. run-value v size frame.Object (f ∷ k) d1 c' (blanks after tail) (stops_blanks after tail (stops_members members rest)))
      ∙ run-members members size (f ∷ k) d2 c1 rest
      ∙ ap (λ c'. run size (state phase.After (f ∷ k) (members_deepened members (suc (length (f ∷ k))) d2) (value_ended (f ∷ k) c' (size - length rest))) rest) (members_cut-inside size frame.Object f k c1 members rest)

  pub run-items : (items : Items) (size : ℕ) (k : List Frame) (d : ℕ) (c : Cutter) (rest : List ℕ) →
      run size (state phase.After (frame.Array ∷ k) d c) (items_then items rest) ≡ run size (state (phase_behind k) k (items_deepened items (suc (length k)) d) (value_ended k (items_cut size (frame.Array ∷ k) c items rest) (size - length rest))) rest
  run-items json.end_array size k d c rest = refl
  run-items (json.item before v after items) size k d c rest =
      let tail = items_then items rest in
      let value_at = value_then v (blanks after tail) in
      let d1 = deepened v (suc (length k)) d in
      let c1 = value_cut size (frame.Array ∷ k) c value_at (blanks after tail) in
      run-blanks size phase.Value waits_value (frame.Array ∷ k) d c before value_at
      ∙ run-value v size frame.Array k d c (blanks after tail) (stops_blanks after tail (stops_items items rest))
      ∙ run-blanks size phase.After waits_after (frame.Array ∷ k) d1 c1 after tail
      ∙ run-items items size k d1 c1 rest

  pub run-members : (members : Members) (size : ℕ) (k : List Frame) (d : ℕ) (c : Cutter) (rest : List ℕ) →
      run size (state phase.After (frame.Object ∷ k) d c) (members_then members rest) ≡ run size (state (phase_behind k) k (members_deepened members (suc (length k)) d) (value_ended k (members_cut size (frame.Object ∷ k) c members rest) (size - length rest))) rest
  run-members json.end_object size k d c rest = refl
  run-members (json.member before key behind ahead v after members) size k d c rest =
      let tail = members_then members rest in
      let key_at = string_then key (blanks behind (58 ∷ blanks ahead (value_then v (blanks after tail)))) in
      let d1 = deepened v (suc (length k)) d in
      run-blanks size phase.Key waits_key (frame.Object ∷ k) d c before key_at
      ∙ run-member size (frame.Object ∷ k) d d1 c key behind ahead v after tail (λ c'. run-value v size frame.Object k d c' (blanks after tail) (stops_blanks after tail (stops_members members rest)))
      ∙ run-members members size k d1 (member_cut size (frame.Object ∷ k) c key behind ahead v after tail) rest

-- an object that is a value, whatever follows it
pub run-braces : (v : Value) → IsObjectValue v → (size : ℕ) (f : Frame) (k : List Frame) (d : ℕ) (c : Cutter) (rest : List ℕ) →
    run size (state phase.Value (f ∷ k) d c) (value_then v rest) ≡ run size (state phase.After (f ∷ k) (deepened v (length (f ∷ k)) d) (value_cut size (f ∷ k) c (value_then v rest) rest)) rest
run-braces (json.empty_object ss) is size f k d c rest =
    run-blanks size phase.FirstKey waits_first_key (frame.Object ∷ f ∷ k) (max d (suc (length (f ∷ k)))) (value_begun (f ∷ k) c (size - length (123 ∷ blanks ss (125 ∷ rest)))) ss (125 ∷ rest)
run-braces (json.object before key behind ahead v after members) is size f k d c rest =
    let tail = members_then members rest in
    let key_at = string_then key (blanks behind (58 ∷ blanks ahead (value_then v (blanks after tail)))) in
    let c1 = value_begun (f ∷ k) c (size - length (123 ∷ blanks before key_at)) in
    let d1 = max d (suc (length (f ∷ k))) in
    let d2 = deepened v (suc (length (f ∷ k))) d1 in
    run-blanks size phase.FirstKey waits_first_key (frame.Object ∷ f ∷ k) d1 c1 before key_at
    ∙ run-member size (frame.Object ∷ f ∷ k) d1 d2 c1 key behind ahead v after tail (λ c'. run-value v size frame.Object (f ∷ k) d1 c' (blanks after tail) (stops_blanks after tail (stops_members members rest)))
    ∙ run-members members size (f ∷ k) d2 c1 rest
    ∙ ap (λ c'. run size (state phase.After (f ∷ k) (members_deepened members (suc (length (f ∷ k))) d2) (value_ended (f ∷ k) c' (size - length rest))) rest) (members_cut-inside size frame.Object f k c1 members rest)
run-braces _ is size f k d c rest = absurd is

-- an array that is a value, whatever follows it
pub run-brackets : (v : Value) → IsArrayValue v → (size : ℕ) (f : Frame) (k : List Frame) (d : ℕ) (c : Cutter) (rest : List ℕ) →
    run size (state phase.Value (f ∷ k) d c) (value_then v rest) ≡ run size (state phase.After (f ∷ k) (deepened v (length (f ∷ k)) d) (value_cut size (f ∷ k) c (value_then v rest) rest)) rest
run-brackets (json.empty_array ss) is size f k d c rest =
    run-blanks size phase.FirstItem waits_first_item (frame.Array ∷ f ∷ k) (max d (suc (length (f ∷ k)))) (value_begun (f ∷ k) c (size - length (91 ∷ blanks ss (93 ∷ rest)))) ss (93 ∷ rest)
run-brackets (json.array before v after items) is size f k d c rest =
    let tail = items_then items rest in
    let value_at = value_then v (blanks after tail) in
    let c1 = value_begun (f ∷ k) c (size - length (91 ∷ blanks before value_at)) in
    let d1 = max d (suc (length (f ∷ k))) in
    run-blanks size phase.FirstItem waits_first_item (frame.Array ∷ f ∷ k) d1 c1 before value_at
    ∙ first_item size (frame.Array ∷ f ∷ k) d1 c1 value_at (starts_value v (blanks after tail))
    ∙ run-value v size frame.Array (f ∷ k) d1 c1 (blanks after tail) (stops_blanks after tail (stops_items items rest))
    ∙ run-blanks size phase.After waits_after (frame.Array ∷ f ∷ k) (deepened v (suc (length (f ∷ k))) d1) c1 after tail
    ∙ run-items items size (f ∷ k) (deepened v (suc (length (f ∷ k))) d1) c1 rest
    ∙ ap (λ c'. run size (state phase.After (f ∷ k) (items_deepened items (suc (length (f ∷ k))) (deepened v (suc (length (f ∷ k))) d1)) (value_ended (f ∷ k) c' (size - length rest))) rest) (items_cut-inside size frame.Array f k c1 items rest)
run-brackets _ is size f k d c rest = absurd is

-- what the object of the text makes of the cutter
abbrev pub object_cut : ℕ → Cutter → Value → List ℕ → Cutter
object_cut size c (json.object before key behind ahead v after members) rest = members_cut size (frame.Object ∷ []) (member_cut size (frame.Object ∷ []) c key behind ahead v after (members_then members rest)) members rest
object_cut size c _ rest = c

-- the object of the text, without white space around it
run-object : (v : Value) → IsObjectValue v → (size d : ℕ) (c : Cutter) (rest : List ℕ) → run size (state (phase.Start frame.Object) [] d c) (value_then v rest) ≡ run size (state phase.Done [] (deepened v 0 d) (object_cut size c v rest)) rest
run-object (json.empty_object ss) is size d c rest =
    run-blanks size phase.FirstKey waits_first_key (frame.Object ∷ []) (max d 1) c ss (125 ∷ rest)
run-object (json.object before key behind ahead v after members) is size d c rest =
    let tail = members_then members rest in
    let key_at = string_then key (blanks behind (58 ∷ blanks ahead (value_then v (blanks after tail)))) in
    let d1 = max d 1 in
    let d2 = deepened v 1 d1 in
    run-blanks size phase.FirstKey waits_first_key (frame.Object ∷ []) d1 c before key_at
    ∙ run-member size (frame.Object ∷ []) d1 d2 c key behind ahead v after tail (λ c'. run-value v size frame.Object [] d1 c' (blanks after tail) (stops_blanks after tail (stops_members members rest)))
    ∙ run-members members size [] d2 (member_cut size (frame.Object ∷ []) c key behind ahead v after tail) rest
run-object _ is size d c rest = absurd is

-- the object of the text between white space, before what follows it
pub run-text : (before : List Space) (v : Value) (after : List Space) → IsObjectValue v → (size d : ℕ) (c : Cutter) (rest : List ℕ) →
    run size (state (phase.Start frame.Object) [] d c) (blanks before (value_then v (blanks after rest))) ≡ run size (state phase.Done [] (deepened v 0 d) (object_cut size c v (blanks after rest))) rest
run-text before v after is size d c rest =
    run-blanks size (phase.Start frame.Object) (waits_start frame.Object) [] d c before (value_then v (blanks after rest))
    ∙ run-object v is size d c (blanks after rest)
    ∙ run-blanks size phase.Done waits_done [] (deepened v 0 d) (object_cut size c v (blanks after rest)) after rest

-- what the array of the text makes of the cutter
abbrev pub array_cut : ℕ → Cutter → Value → List ℕ → Cutter
array_cut size c (json.array before v after items) rest =
    items_cut size (frame.Array ∷ []) (value_cut size (frame.Array ∷ []) c (value_then v (blanks after (items_then items rest))) (blanks after (items_then items rest))) items rest
array_cut size c _ rest = c

-- the array of the text, without white space around it
run-array : (v : Value) → IsArrayValue v → (size d : ℕ) (c : Cutter) (rest : List ℕ) → run size (state (phase.Start frame.Array) [] d c) (value_then v rest) ≡ run size (state phase.Done [] (deepened v 0 d) (array_cut size c v rest)) rest
run-array (json.empty_array ss) is size d c rest =
    run-blanks size phase.FirstItem waits_first_item (frame.Array ∷ []) (max d 1) c ss (93 ∷ rest)
run-array (json.array before v after items) is size d c rest =
    let tail = items_then items rest in
    let value_at = value_then v (blanks after tail) in
    let d1 = max d 1 in
    let d2 = deepened v 1 d1 in
    let c1 = value_cut size (frame.Array ∷ []) c value_at (blanks after tail) in
    run-blanks size phase.FirstItem waits_first_item (frame.Array ∷ []) d1 c before value_at
    ∙ first_item size (frame.Array ∷ []) d1 c value_at (starts_value v (blanks after tail))
    ∙ run-value v size frame.Array [] d1 c (blanks after tail) (stops_blanks after tail (stops_items items rest))
    ∙ run-blanks size phase.After waits_after (frame.Array ∷ []) d2 c1 after tail
    ∙ run-items items size [] d2 c1 rest
run-array _ is size d c rest = absurd is

-- the array of the text between white space, before what follows it
pub run-array_text : (before : List Space) (v : Value) (after : List Space) → IsArrayValue v → (size d : ℕ) (c : Cutter) (rest : List ℕ) →
    run size (state (phase.Start frame.Array) [] d c) (blanks before (value_then v (blanks after rest))) ≡ run size (state phase.Done [] (deepened v 0 d) (array_cut size c v (blanks after rest))) rest
run-array_text before v after is size d c rest =
    run-blanks size (phase.Start frame.Array) (waits_start frame.Array) [] d c before (value_then v (blanks after rest))
    ∙ run-array v is size d c (blanks after rest)
    ∙ run-blanks size phase.Done waits_done [] (deepened v 0 d) (array_cut size c v (blanks after rest)) after rest
