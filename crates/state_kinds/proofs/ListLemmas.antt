-- The array of the states that some streams have.
use Rattle.std.proofs.Common.{◌≡◌, ℕ, ◌+◌, List, [], ◌∷◌, ◌++◌, Option, None, Some, Bool, true, false, cond, refl, sym, ◌∙◌, ap, subst, take, slice_get, append_assoc, append-nil, ◌≤◌, length}
use Rattle.std.specs.List.{filter_map}
use Rattle.std.proofs.lemmas.List.{take_all}
use Rattle.std.proofs.lemmas.List.Elements.{filter_map-append}
use Rattle.basics.specs.declared.stream.StreamId.{StreamId}
use Rattle.json_write.specs.Objects.{list_text, more_items, open_list}
use Rattle.json_write.proofs.Texts.{list_closes, more_items-append}
use Rattle.state_kinds.specs.Texts.{AddsItem}
use Rattle.state_kinds.proofs.FindLemmas.{taken}

abbrev is_empty : List (List ℕ) → Bool
is_empty [] = true
is_empty (item ∷ items) = false

-- the elements so far behind an open bracket, and whether there is none yet
pub record HasListed (of : StreamId → Option (List ℕ)) (ids : List StreamId) (old : List ℕ) (is_first : Bool) (now : List ℕ) : Type 0 where
  pub is : now ≡ old ++ open_list (filter_map of ids)
  pub first : is_first ≡ is_empty (filter_map of ids)

open_more : (items : List (List ℕ)) (item : List ℕ) → open_list items ++ (cond (is_empty items) [] (44 ∷ []) ++ item) ≡ open_list (items ++ item ∷ [])
open_more [] item = ap (λ (t : List ℕ). 91 ∷ t) (sym (append-nil item))
open_more (first ∷ items) item =
    ap (λ (t : List ℕ). 91 ∷ t) (append_assoc first (more_items items) (44 ∷ item) ∙ ap (λ (t : List ℕ). first ++ t) (ap (λ (t : List ℕ). more_items items ++ 44 ∷ t) (sym (append-nil item)) ∙ more_items-append items (item ∷ [])))

never_empty : (items : List (List ℕ)) (item : List ℕ) → is_empty (items ++ item ∷ []) ≡ false
never_empty [] item = refl
never_empty (first ∷ items) item = refl

listed_item : (of : StreamId → Option (List ℕ)) (ids : List StreamId) (id : StreamId) (old : List ℕ) (is_first now_first : Bool) (text now : List ℕ) (found : Option (List ℕ)) → found ≡ of id → AddsItem is_first found text now_first now → HasListed of ids old is_first text → HasListed of (ids ++ id ∷ []) old now_first now
listed_item of ids id old is_first now_first text now None is adds h =
    let items : filter_map of (ids ++ id ∷ []) ≡ filter_map of ids = filter_map-append of ids (id ∷ []) ∙ (ap (λ (o : Option (List ℕ)). filter_map of ids ++ filter_map (λ (i : StreamId). o) (id ∷ [])) (sym is) ∙ append-nil (filter_map of ids)) in
    record {
      is = adds.1 ∙ (h.is ∙ ap (λ (l : List (List ℕ)). old ++ open_list l) (sym items));
      first = adds.0 ∙ (h.first ∙ ap is_empty (sym items));
    }
listed_item of ids id old is_first now_first text now (Some item) is adds h =
    let before = filter_map of ids in
    let items : filter_map of (ids ++ id ∷ []) ≡ before ++ item ∷ [] = filter_map-append of ids (id ∷ []) ∙ ap (λ (o : Option (List ℕ)). before ++ filter_map (λ (i : StreamId). o) (id ∷ [])) (sym is) in
    let mark : List ℕ = cond (is_empty before) [] (44 ∷ []) in
    record {
      is = adds.1 ∙ (ap (λ (b : Bool). (text ++ cond b [] (44 ∷ [])) ++ item) h.first ∙ (ap (λ (t : List ℕ). (t ++ mark) ++ item) h.is
          ∙ (append_assoc (old ++ open_list before) mark item ∙ (append_assoc old (open_list before) (mark ++ item)
          ∙ (ap (λ (t : List ℕ). old ++ t) (open_more before item) ∙ ap (λ (l : List (List ℕ)). old ++ open_list l) (sym items))))));
      first = adds.0 ∙ (sym (never_empty before item) ∙ ap is_empty (sym items));
    }

pub listed_first : (of : StreamId → Option (List ℕ)) (old now : List ℕ) → now ≡ old ++ 91 ∷ [] → HasListed of [] old true now
listed_first of old now e = record { is = e; first = refl }

pub listed_more : (of : StreamId → Option (List ℕ)) (ids : List StreamId) (n : ℕ) (id : StreamId) (old : List ℕ) (is_first now_first : Bool) (text now : List ℕ) (found : Option (List ℕ)) → slice_get ids n ≡ Some id → found ≡ of id → AddsItem is_first found text now_first now → HasListed of (take n ids) old is_first text → HasListed of (take (n + 1) ids) old now_first now
listed_more of ids n id old is_first now_first text now found at is adds h =
    subst (λ (l : List StreamId). HasListed of l old now_first now) (sym (taken ids n id at)) (listed_item of (take n ids) id old is_first now_first text now found is adds h)

pub listed_all : (of : StreamId → Option (List ℕ)) (ids : List StreamId) (n : ℕ) (old : List ℕ) (is_first : Bool) (text closed : List ℕ) → length ids ≤ n → closed ≡ text ++ 93 ∷ [] → HasListed of (take n ids) old is_first text → closed ≡ old ++ list_text (filter_map of ids)
listed_all of ids n old is_first text closed done e h =
    list_closes old text closed (filter_map of ids) (h.is ∙ ap (λ (l : List StreamId). old ++ open_list (filter_map of l)) (take_all n ids done)) e
