-- A list cut at its states.
use Rattle.std.proofs.Common.{inl, inr, ◌≡◌, ◌≢◌, ◌∙◌, ℕ, List, [], ◌∷◌, ◌++◌, true, false, refl, sym, ap, append_assoc, append-nil, arith}
use Rattle.std.proofs.lemmas.Bool.{cases_Bool, false≢true}
use Rattle.source_lines.specs.Checkpoints.{Row, closes_last, is_due, last_stretch, cut_behind, stretches, rows_in, CutsAnew}

Stretches : Type 0
Stretches = List (List Row)

rows_in-append : (before behind : List (List Row)) → rows_in (before ++ behind) ≡ rows_in before ++ rows_in behind
rows_in-append [] behind = refl
rows_in-append (stretch ∷ others) behind =
    ap (λ (rows : List Row). stretch ++ rows) (rows_in-append others behind) ∙ sym (append_assoc stretch (rows_in others) (rows_in behind))

cut_true : (every : ℕ) (front : List Row) (row : Row) (rows : List Row) → is_due every (front ++ row ∷ []) ≡ true
    → cut_behind every front (row ∷ rows) ≡ (front ++ row ∷ []) ∷ cut_behind every [] rows
cut_true every front row rows due = rw due

cut_false : (every : ℕ) (front : List Row) (row : Row) (rows : List Row) → is_due every (front ++ row ∷ []) ≡ false
    → cut_behind every front (row ∷ rows) ≡ cut_behind every (front ++ row ∷ []) rows
cut_false every front row rows due = rw due

in_last : (front : List Row) → rows_in (last_stretch front) ≡ front ++ []
in_last [] = refl
in_last (row ∷ rows) = refl

in_cut : (every : ℕ) (front rows : List Row) → rows_in (cut_behind every front rows) ≡ front ++ rows
in_cut every front [] = in_last front
in_cut every front (row ∷ rows) =
    let joined : (front ++ row ∷ []) ++ rows ≡ front ++ (row ∷ rows) = append_assoc front (row ∷ []) rows in
    elim (cases_Bool (is_due every (front ++ row ∷ []))) [
      | inl due ↦ ap rows_in (cut_true every front row rows due) ∙ ap (λ (others : List Row). (front ++ row ∷ []) ++ others) (in_cut every [] rows) ∙ joined
      | inr not ↦ ap rows_in (cut_false every front row rows not) ∙ in_cut every (front ++ row ∷ []) rows ∙ joined
    ]

in_stretches : (every : ℕ) (rows : List Row) → rows_in (stretches every rows) ≡ rows
in_stretches every [] = refl
in_stretches every (row ∷ rows) = in_cut every [] (row ∷ rows)

abbrev first_or : List Row → List (List Row) → List Row
first_or none [] = none
first_or none (stretch ∷ others) = stretch

abbrev behind_first : List (List Row) → List (List Row)
behind_first [] = []
behind_first (stretch ∷ others) = others

abbrev IsAny : List (List Row) → Type 0
IsAny [] = ⊥
IsAny (stretch ∷ others) = Unit {0}

subst_any : (a b : List (List Row)) → a ≡ b → IsAny b → IsAny a
subst_any a b same any = let P : List (List Row) → Type 0 = IsAny in rw same any

-- what stands behind the first stretch is cut alike
again_behind : (every : ℕ) (front rows : List Row) → cut_behind every [] (rows_in (behind_first (cut_behind every front rows))) ≡ behind_first (cut_behind every front rows)
again_behind every [] [] = refl
again_behind every (first ∷ front) [] = refl
again_behind every front (row ∷ rows) =
    elim (cases_Bool (is_due every (front ++ row ∷ []))) [
      | inl due ↦ rw (cut_true every front row rows due) (ap (cut_behind every []) (in_cut every [] rows))
      | inr not ↦ rw (cut_false every front row rows not) (again_behind every (front ++ row ∷ []) rows)
    ]

-- and so what stands behind several
again : (every : ℕ) (front rows : List Row) (first : List Row) (gone left : List (List Row)) → cut_behind every front rows ≡ first ∷ (gone ++ left)
    → cut_behind every [] (rows_in left) ≡ left
again every front rows first [] left is =
    let tail : behind_first (cut_behind every front rows) ≡ left = ap behind_first is in
    sym (ap (λ (found : List (List Row)). cut_behind every [] (rows_in found)) tail) ∙ again_behind every front rows ∙ tail
again every front rows first (second ∷ gone) left is =
    let tail : behind_first (cut_behind every front rows) ≡ second ∷ (gone ++ left) = ap behind_first is in
    let anew : cut_behind every [] (rows_in (second ∷ (gone ++ left))) ≡ second ∷ (gone ++ left) =
    sym (ap (λ (found : List (List Row)). cut_behind every [] (rows_in found)) tail) ∙ again_behind every front rows ∙ tail in
    again every [] (rows_in (second ∷ (gone ++ left))) second gone left anew

nothing_behind : (gone left : List (List Row)) → [] ≡ gone ++ left → left ≡ []
nothing_behind [] left is = sym is
nothing_behind (first ∷ gone) left is = absurd (subst_any [] (first ∷ (gone ++ left)) is tt)

-- a list whose rows are cut somewhere has rows
as_cut : (every : ℕ) (rows : List Row) (left : List (List Row)) → cut_behind every [] rows ≡ left → left ≢ [] → stretches every rows ≡ left
as_cut every [] left is some = absurd (some (sym is))
as_cut every (row ∷ rows) left is some = is

rest_of : (every : ℕ) (rows : List Row) (gone left : List (List Row)) → stretches every rows ≡ gone ++ left → gone ≢ [] → left ≢ []
    → stretches every (rows_in left) ≡ left
rest_of every rows [] left is some more = absurd (some refl)
rest_of every [] (first ∷ gone) left is some more = absurd (more (nothing_behind gone left (ap behind_first is)))
rest_of every (row ∷ rows) (first ∷ gone) left is some more =
    as_cut every (rows_in left) left (again every [] (row ∷ rows) first gone left is) more

closes_behind : (front rows : List Row) → closes_last rows ≡ true → closes_last (front ++ rows) ≡ true
closes_behind [] rows closes = closes
closes_behind (first ∷ []) [] closes = absurd (false≢true closes)
closes_behind (first ∷ []) (row ∷ rows) closes = closes
closes_behind (first ∷ second ∷ front) rows closes = closes_behind (second ∷ front) rows closes

closes_due : (every : ℕ) (rows : List Row) → is_due every rows ≡ true → closes_last rows ≡ true
closes_due every rows due = grind arith

some_behind : (gone left : List (List Row)) → gone ≢ [] → [] ≡ gone ++ left → ⊥
some_behind [] left some is = some refl
some_behind (first ∷ gone) left some is = subst_any [] (first ∷ (gone ++ left)) is tt

one_cut : (front : List Row) (gone left : List (List Row)) → last_stretch front ≡ gone ++ left → gone ≢ [] → left ≢ [] → ⊥
one_cut [] gone left is some more = some_behind gone left some is
one_cut (row ∷ rows) [] left is some more = some refl
one_cut (row ∷ rows) (first ∷ gone) left is some more = more (nothing_behind gone left (ap behind_first is))

-- where rows follow, the row before a state closes
closes_cut : (every : ℕ) (front rows : List Row) (gone left : List (List Row)) → cut_behind every front rows ≡ gone ++ left → gone ≢ [] → left ≢ []
    → closes_last (rows_in gone) ≡ true
closes_cut every front [] gone left is some more = absurd (one_cut front gone left is some more)
closes_cut every front (row ∷ rows) [] left is some more = absurd (some refl)
closes_cut every front (row ∷ rows) (first ∷ []) left is some more =
    elim (cases_Bool (is_due every (front ++ row ∷ []))) [
      | inl due ↦
          let first_is : front ++ row ∷ [] ≡ first = ap (first_or []) (sym (cut_true every front row rows due) ∙ is) in
          ap closes_last (append-nil first) ∙ ap closes_last (sym first_is) ∙ closes_due every (front ++ row ∷ []) due
      | inr not ↦ closes_cut every (front ++ row ∷ []) rows (first ∷ []) left (sym (cut_false every front row rows not) ∙ is) some more
    ]
closes_cut every front (row ∷ rows) (first ∷ second ∷ gone) left is some more =
    elim (cases_Bool (is_due every (front ++ row ∷ []))) [
      | inl due ↦
          let tail : cut_behind every [] rows ≡ second ∷ (gone ++ left) = ap behind_first (sym (cut_true every front row rows due) ∙ is) in
          closes_behind first (rows_in (second ∷ gone)) (closes_cut every [] rows (second ∷ gone) left tail (λ none. subst_any [] (second ∷ gone) (sym none) tt) more)
      | inr not ↦ closes_cut every (front ++ row ∷ []) rows (first ∷ second ∷ gone) left (sym (cut_false every front row rows not) ∙ is) some more
    ]

closes_of : (every : ℕ) (rows : List Row) (gone left : List (List Row)) → stretches every rows ≡ gone ++ left → gone ≢ [] → left ≢ []
    → closes_last (rows_in gone) ≡ true
closes_of every [] [] left is some more = absurd (some refl)
closes_of every [] (first ∷ gone) left is some more = absurd (more (nothing_behind gone left (ap behind_first is)))
closes_of every (row ∷ rows) gone left is some more = closes_cut every [] (row ∷ rows) gone left is some more

pub cuts_alike : CutsAnew
cuts_alike every rows gone left is some = record {
  whole = sym (in_stretches every rows) ∙ ap rows_in is ∙ rows_in-append gone left;
  closes = closes_of every rows gone left is some;
  rest = rest_of every rows gone left is some;
}
