-- An object that grows by one member after another, in a loop over columns.
use Rattle.std.proofs.Common.{◌≡◌, ◌∙◌, ℕ, zero, suc, ◌+◌, ◌<◌, ◌≤◌, Bool, cond, nat_eq, List, [], ◌∷◌, ◌++◌, length, map, take, None, Some, Result, Ok, Err, OnOk, slice_get, refl, sym, ap, arith, append_assoc, append-nil}
use Rattle.std.proofs.lemmas.Bool.{ne_eqb}
use Rattle.std.proofs.lemmas.List.{length-map, length-take, map-append, take_more}
use Rattle.std.proofs.lemmas.Option.{get_or_from_slice_get, slice_get_within}
use Rattle.json.specs.Print.{quoted}
use Rattle.json_write.specs.Objects.{Part, named, object_text, open_object, part_before}
use Rattle.json_write.proofs.Texts.{closes, grows}
use Rattle.csv_sheet.specs.Sheet.{Fields}
use Rattle.file_source.specs.Rows.{columns_with, key_text}

-- what stands before a member
abbrev pub mark : ℕ → List ℕ
mark at = cond (nat_eq at 0) [] (44 ∷ [])

mark_behind : (count : ℕ) → mark (suc count) ≡ 44 ∷ []
mark_behind count = ap (λ (b : Bool). cond b [] (44 ∷ [])) (ne_eqb (suc count) 0 (λ e. omega (arith, e)))

-- one member more
pub member_more : (parts : List Part) (part : Part) (at : ℕ) (old text next : List ℕ) → length parts ≡ at → text ≡ old ++ open_object parts → next ≡ text ++ (mark at ++ part_before part []) → next ≡ old ++ open_object (parts ++ part ∷ [])
member_more [] part at old text next size e f =
    f ∙ ap (λ (t : List ℕ). t ++ (mark at ++ part_before part [])) e ∙ ap (λ (n : ℕ). (old ++ 123 ∷ []) ++ (mark n ++ part_before part [])) (sym size) ∙ append_assoc old (123 ∷ []) (part_before part [])
member_more (first ∷ parts) part at old text next size e f =
    grows old text next first parts (part ∷ []) e (f ∙ ap (λ (n : ℕ). text ++ (mark n ++ part_before part [])) (sym size) ∙ ap (λ (m : List ℕ). text ++ (m ++ part_before part [])) (mark_behind (length parts)))

-- the bracket behind the last
pub object_closes : (parts : List Part) (old text next : List ℕ) → text ≡ old ++ open_object parts → next ≡ text ++ 125 ∷ [] → next ≡ old ++ object_text parts
object_closes [] old text next e f = f ∙ ap (λ (t : List ℕ). t ++ 125 ∷ []) e ∙ append_assoc old (123 ∷ []) (125 ∷ [])
object_closes (part ∷ parts) old text next e f = closes old text next part parts e f

-- ---- the columns of a record

some_is : (a b : List ℕ) → Some a ≡ Some b → a ≡ b
some_is a b same = cc

get_none : (at : ℕ) → slice_get {X = List ℕ} [] at ≡ None
get_none zero = refl
get_none (suc at) = refl

none_some : (a : List ℕ) → ¬ (None ≡ Some a)
none_some a same = cc

pub columns_more : (header fields : Fields) (at : ℕ) (name field : List ℕ) → slice_get header at ≡ Some name → slice_get fields at ≡ Some field
    → columns_with (take (at + 1) header) (take (at + 1) fields) ≡ columns_with (take at header) (take at fields) ++ named name (quoted field) ∷ []
columns_more [] fields at name field first second = absurd (none_some name (sym (get_none at) ∙ first))
columns_more (n ∷ header) [] at name field first second = absurd (none_some field (sym (get_none at) ∙ second))
columns_more (n ∷ header) (f ∷ fields) zero name field first second = λ k. named (some_is n name first k) (quoted (some_is f field second k)) ∷ []
columns_more (n ∷ header) (f ∷ fields) (suc at) name field first second =
    let more : suc at + 1 ≡ suc (at + 1) = omega arith in
    ap (λ (i : ℕ). columns_with (take i (n ∷ header)) (take i (f ∷ fields))) more ∙ ap (λ (ps : List Part). named n (quoted f) ∷ ps) (columns_more header fields at name field first second)

pub columns_count : (header fields : Fields) (at : ℕ) → at ≤ length header → at ≤ length fields → length (columns_with (take at header) (take at fields)) ≡ at
columns_count header fields zero first second = refl
columns_count [] fields (suc at) first second = absurd (omega (arith, first))
columns_count (n ∷ header) [] (suc at) first second = absurd (omega (arith, second))
columns_count (n ∷ header) (f ∷ fields) (suc at) first second = ap (λ (i : ℕ). suc i) (columns_count header fields at (omega (arith, first)) (omega (arith, second)))

pub columns_all : (header fields : Fields) (at : ℕ) → length header ≤ at → columns_with (take at header) (take at fields) ≡ columns_with header fields
columns_all [] fields zero done = refl
columns_all [] fields (suc at) done = refl
columns_all (n ∷ header) fields zero done = absurd (omega (arith, done))
columns_all (n ∷ header) [] (suc at) done = refl
columns_all (n ∷ header) (f ∷ fields) (suc at) done = ap (λ (ps : List Part). named n (quoted f) ∷ ps) (columns_all header fields at (omega (arith, done)))

-- one column more of a record's object
pub column_more : (header fields : Fields) (at : ℕ) (name field old text marked keyed next : List ℕ) → slice_get header at ≡ Some name → slice_get fields at ≡ Some field
    → text ≡ old ++ open_object (columns_with (take at header) (take at fields)) → marked ≡ text ++ mark at → keyed ≡ marked ++ key_text name → next ≡ keyed ++ quoted field
    → next ≡ old ++ open_object (columns_with (take (at + 1) header) (take (at + 1) fields))
column_more header fields at name field old text marked keyed next first second e m k q =
    let parts = columns_with (take at header) (take at fields) in
    let part = named name (quoted field) in
    let in_header : at < length header = slice_get_within header at name first in
    let in_fields : at < length fields = slice_get_within fields at field second in
    let value : key_text name ++ quoted field ≡ part_before part [] =
    append_assoc (quoted name) (58 ∷ []) (quoted field) ∙ ap (λ (t : List ℕ). quoted name ++ 58 ∷ t) (sym (append-nil (quoted field))) in
    let whole : next ≡ text ++ (mark at ++ part_before part []) =
    q ∙ ap (λ (t : List ℕ). t ++ quoted field) (k ∙ ap (λ (t : List ℕ). t ++ key_text name) m)
    ∙ ap (λ (t : List ℕ). t ++ quoted field) (append_assoc text (mark at) (key_text name)) ∙ append_assoc text (mark at ++ key_text name) (quoted field)
    ∙ ap (λ (t : List ℕ). text ++ t) (append_assoc (mark at) (key_text name) (quoted field) ∙ ap (λ (t : List ℕ). mark at ++ t) value) in
    member_more parts part at old text next (columns_count header fields at (omega (arith, in_header)) (omega (arith, in_fields))) e whole
    ∙ ap (λ (ps : List Part). old ++ open_object ps) (sym (columns_more header fields at name field first second))

pub columns_close : (header fields : Fields) (at : ℕ) (old text next : List ℕ) → length header ≤ at → text ≡ old ++ open_object (columns_with (take at header) (take at fields)) → next ≡ text ++ 125 ∷ [] → next ≡ old ++ object_text (columns_with header fields)
columns_close header fields at old text next done e f =
    object_closes (columns_with (take at header) (take at fields)) old text next e f ∙ ap (λ (ps : List Part). old ++ object_text ps) (columns_all header fields at done)

-- one element more of a mapped list
pub mapped_more : {A B : Type 0} (f : A → B) (xs : List A) (at : ℕ) (x : A) (made now : List B)
    → slice_get xs at ≡ Some x → made ≡ map f (take at xs) → now ≡ made ++ f x ∷ [] → now ≡ map f (take (at + 1) xs)
mapped_more {A} {B} f xs at x made now there so_far more =
    more ∙ ap (λ (l : List B). l ++ f x ∷ []) so_far ∙ sym (map-append f (take at xs) (x ∷ []))
    ∙ ap (map f) (ap (λ (e : A). take at xs ++ e ∷ []) (sym (get_or_from_slice_get xs at x x there)) ∙ sym (take_more xs at x (slice_get_within xs at x there)))

-- the key of a column
pub key_at : (header : Fields) (at : ℕ) (key : List ℕ) → slice_get (map key_text header) at ≡ Some key → (name : List ℕ) × (slice_get header at ≡ Some name) × (key ≡ key_text name)
key_at [] at key is = absurd (none_some key (sym (get_none at) ∙ is))
key_at (name ∷ header) zero key is = (name, refl, sym (some_is (key_text name) key is))
key_at (name ∷ header) (suc at) key is = key_at header at key is

pub on_ok : {A E : Type 0} {P Q : Type 0} (result : Result A E) → (P → Q) → OnOk result P → OnOk result Q
on_ok (Ok a) to is = to is
on_ok (Err e) to is = tt

-- one member more of those that are made of a list
pub made_more : (f : List ℕ → Part) (names : Fields) (at : ℕ) (name old text next : List ℕ) → slice_get names at ≡ Some name → text ≡ old ++ open_object (map f (take at names)) → next ≡ text ++ (mark at ++ part_before (f name) [])
    → next ≡ old ++ open_object (map f (take (at + 1) names))
made_more f names at name old text next there e g =
    let size : length (map f (take at names)) ≡ at = omega (arith, length-map (take at names) f, length-take at names, slice_get_within names at name there) in
    member_more (map f (take at names)) (f name) at old text next size e g
    ∙ ap (λ (parts : List Part). old ++ open_object parts) (mapped_more f names at name (map f (take at names)) (map f (take at names) ++ f name ∷ []) there refl refl)

-- its name, and then its value
pub named_value : (text marked named_text next name value : List ℕ) (at : ℕ) → marked ≡ text ++ mark at → named_text ≡ marked ++ quoted name → next ≡ named_text ++ 58 ∷ value → next ≡ text ++ (mark at ++ part_before (named name value) [])
named_value text marked named_text next name value at m n v =
    let whole : quoted name ++ 58 ∷ value ≡ part_before (named name value) [] = ap (λ (t : List ℕ). quoted name ++ 58 ∷ t) (sym (append-nil value)) in
    v ∙ ap (λ (t : List ℕ). t ++ 58 ∷ value) (n ∙ ap (λ (t : List ℕ). t ++ quoted name) m)
    ∙ append_assoc (text ++ mark at) (quoted name) (58 ∷ value) ∙ append_assoc text (mark at) (quoted name ++ 58 ∷ value)
    ∙ ap (λ (t : List ℕ). text ++ (mark at ++ t)) whole
