-- The text of an object, or of an array, grows by one part after another.
use Rattle.std.proofs.Common.{◌≡◌, ℕ, zero, suc, ◌<◌, ◌+◌, Bool, cond, nat_eq, List, [], ◌∷◌, ◌++◌, length, map, take, slice_index_or, Option, None, Some, refl, sym, ◌∙◌, ap, arith, append_assoc, append-nil}
use Rattle.std.proofs.lemmas.Bool.{ne_eqb}
use Rattle.std.proofs.lemmas.List.{take_more, take-map, get_or-map, length-map}
use Rattle.std.specs.Prelude.{option_map}
use Rattle.json.specs.Print.{quoted}
use Rattle.json_write.specs.Objects.{Part, named, optional, part_before, parts_text, object_text, more_text, open_object, items_text, list_text, more_items, open_list}

pub part_before-append : (part : Part) (a b : List ℕ) → part_before part a ++ b ≡ part_before part (a ++ b)
part_before-append part a b =
    append_assoc (part.0) (58 ∷ (part.1 ++ a)) b ∙ ap (λ (t : List ℕ). part.0 ++ 58 ∷ t) (append_assoc part.1 a b)

pub more_text-append : (parts others : List Part) → more_text parts ++ more_text others ≡ more_text (parts ++ others)
more_text-append [] others = refl
more_text-append (part ∷ parts) others =
    ap (λ (t : List ℕ). 44 ∷ t) (part_before-append part (more_text parts) (more_text others) ∙ ap (λ (t : List ℕ). part_before part t) (more_text-append parts others))

more_text-closed : (parts : List Part) → more_text parts ++ 125 ∷ [] ≡ parts_text parts
more_text-closed [] = refl
more_text-closed (part ∷ parts) =
    ap (λ (t : List ℕ). 44 ∷ t) (part_before-append part (more_text parts) (125 ∷ []) ∙ ap (λ (t : List ℕ). part_before part t) (more_text-closed parts))

pub grows : (old text next : List ℕ) (part : Part) (parts others : List Part) → text ≡ old ++ open_object (part ∷ parts) → next ≡ text ++ more_text others → next ≡ old ++ open_object (part ∷ (parts ++ others))
grows old text next part parts others e f =
    f ∙ ap (λ (t : List ℕ). t ++ more_text others) e ∙ append_assoc old (open_object (part ∷ parts)) (more_text others)
    ∙ ap (λ (t : List ℕ). old ++ 123 ∷ t) (part_before-append part (more_text parts) (more_text others) ∙ ap (λ (t : List ℕ). part_before part t) (more_text-append parts others))

pub closes : (old text next : List ℕ) (part : Part) (parts : List Part) → text ≡ old ++ open_object (part ∷ parts) → next ≡ text ++ 125 ∷ [] → next ≡ old ++ object_text (part ∷ parts)
closes old text next part parts e f =
    f ∙ ap (λ (t : List ℕ). t ++ 125 ∷ []) e ∙ append_assoc old (open_object (part ∷ parts)) (125 ∷ [])
    ∙ ap (λ (t : List ℕ). old ++ 123 ∷ t) (part_before-append part (more_text parts) (125 ∷ []) ∙ ap (λ (t : List ℕ). part_before part t) (more_text-closed parts))

-- a name and then the text of its value, as one member
pub keyed : (mark : ℕ) (old text next name value : List ℕ) → text ≡ old ++ mark ∷ (quoted name ++ 58 ∷ []) → next ≡ text ++ value → next ≡ old ++ mark ∷ part_before (named name value) []
keyed mark old text next name value e f =
    f ∙ ap (λ (t : List ℕ). t ++ value) e ∙ append_assoc old (mark ∷ (quoted name ++ 58 ∷ [])) value
    ∙ ap (λ (t : List ℕ). old ++ mark ∷ t) (append_assoc (quoted name) (58 ∷ []) value ∙ ap (λ (t : List ℕ). quoted name ++ 58 ∷ t) (sym (append-nil value)))

-- an optional member, and others behind it
pub optional-append : (name : List ℕ) (value : Option (List ℕ)) (parts others : List Part) → optional name value parts ++ others ≡ optional name value (parts ++ others)
optional-append name None parts others = refl
optional-append name (Some value) parts others = refl

-- an optional member that is there
pub optional_grows : {A : Type 0} (f : A → List ℕ) (name old next value : List ℕ) (a : A) (o : Option A) → o ≡ Some a → value ≡ f a → next ≡ old ++ 44 ∷ part_before (named name value) [] → next ≡ old ++ more_text (optional name (option_map f o) [])
optional_grows {A} f name old next value a o is e g =
    g ∙ ap (λ (v : List ℕ). old ++ 44 ∷ part_before (named name v) []) e ∙ ap (λ (p : Option A). old ++ more_text (optional name (option_map f p) [])) (sym is)

-- ---- arrays

pub more_items-append : (items others : List (List ℕ)) → more_items items ++ more_items others ≡ more_items (items ++ others)
more_items-append [] others = refl
more_items-append (item ∷ items) others = ap (λ (t : List ℕ). 44 ∷ t) (append_assoc item (more_items items) (more_items others) ∙ ap (λ (t : List ℕ). item ++ t) (more_items-append items others))

more_items-closed : (items : List (List ℕ)) → more_items items ++ 93 ∷ [] ≡ items_text items
more_items-closed [] = refl
more_items-closed (item ∷ items) = ap (λ (t : List ℕ). 44 ∷ t) (append_assoc item (more_items items) (93 ∷ []) ∙ ap (λ (t : List ℕ). item ++ t) (more_items-closed items))

-- what stands before an element
abbrev pub comma : List (List ℕ) → List ℕ
comma [] = []
comma (item ∷ items) = 44 ∷ []

open_list-more : (items : List (List ℕ)) (item : List ℕ) → open_list items ++ (comma items ++ item) ≡ open_list (items ++ item ∷ [])
open_list-more [] item = ap (λ (t : List ℕ). 91 ∷ t) (sym (append-nil item))
open_list-more (first ∷ items) item =
    ap (λ (t : List ℕ). 91 ∷ t) (append_assoc first (more_items items) (44 ∷ item) ∙ ap (λ (t : List ℕ). first ++ t) (ap (λ (t : List ℕ). more_items items ++ 44 ∷ t) (sym (append-nil item)) ∙ more_items-append items (item ∷ [])))

comma_first : (xs : List (List ℕ)) (i : ℕ) → i < length xs → comma (take i xs) ≡ cond (nat_eq i 0) [] (44 ∷ [])
comma_first xs zero lt = refl
comma_first [] (suc i) lt = absurd (omega arith)
comma_first (x ∷ xs) (suc i) lt = ap (λ (b : Bool). cond b [] (44 ∷ [])) (sym (ne_eqb (suc i) 0 (λ e. omega (arith, e))))

-- one element more, in a loop over the elements
pub list_more : (xs : List (List ℕ)) (i : ℕ) (d old text next : List ℕ) → i < length xs → text ≡ old ++ open_list (take i xs) → next ≡ text ++ (cond (nat_eq i 0) [] (44 ∷ []) ++ slice_index_or xs i d) → next ≡ old ++ open_list (take (i + 1) xs)
list_more xs i d old text next lt e g =
    let mark = cond (nat_eq i 0) [] (44 ∷ []) in
    let item = slice_index_or xs i d in
    g ∙ ap (λ (t : List ℕ). t ++ (mark ++ item)) e ∙ append_assoc old (open_list (take i xs)) (mark ++ item)
    ∙ ap (λ (t : List ℕ). old ++ (open_list (take i xs) ++ (t ++ item))) (sym (comma_first xs i lt))
    ∙ ap (λ (t : List ℕ). old ++ t) (open_list-more (take i xs) item)
    ∙ ap (λ (t : List (List ℕ)). old ++ open_list t) (sym (take_more xs i d lt))

-- and in a loop over what the elements are made of
pub list_step : {A : Type 0} (f : A → List ℕ) (xs : List A) (i : ℕ) (d : A) (old text next : List ℕ) → i < length xs → text ≡ old ++ open_list (map f (take i xs)) → next ≡ text ++ (cond (nat_eq i 0) [] (44 ∷ []) ++ f (slice_index_or xs i d)) → next ≡ old ++ open_list (map f (take (i + 1) xs))
list_step {A} f xs i d old text next lt e g =
    let size : length (map f xs) ≡ length xs = length-map xs f in
    list_more (map f xs) i (f d) old text next (omega arith)
    (e ∙ ap (λ (l : List (List ℕ)). old ++ open_list l) (sym (take-map f i xs)))
    (g ∙ ap (λ (x : List ℕ). text ++ (cond (nat_eq i 0) [] (44 ∷ []) ++ x)) (sym (get_or-map f xs i d (f d) lt)))
    ∙ ap (λ (l : List (List ℕ)). old ++ open_list l) (take-map f (i + 1) xs)

pub list_closes : (old text next : List ℕ) (items : List (List ℕ)) → text ≡ old ++ open_list items → next ≡ text ++ 93 ∷ [] → next ≡ old ++ list_text items
list_closes old text next [] e f = f ∙ ap (λ (t : List ℕ). t ++ 93 ∷ []) e ∙ append_assoc old (91 ∷ []) (93 ∷ [])
list_closes old text next (item ∷ items) e f =
    f ∙ ap (λ (t : List ℕ). t ++ 93 ∷ []) e ∙ append_assoc old (open_list (item ∷ items)) (93 ∷ [])
    ∙ ap (λ (t : List ℕ). old ++ 91 ∷ t) (append_assoc item (more_items items) (93 ∷ []) ∙ ap (λ (t : List ℕ). item ++ t) (more_items-closed items))
