-- The records of a text, one by one, are all that it has.
use Rattle.std.proofs.Common.{◌≡◌, ◌∙◌, ◌==◌, ◌||◌, ◌++◌, ℕ, zero, suc, ◌+◌, ◌<◌, ◌≤◌, List, [], ◌∷◌, length, Bool, true, false, cond, Option, None, Some, refl, sym, ap, arith}
use Rattle.csv.specs.Machine.{Read, after_end, ends_at_end, field_after, fields_after, in_field, is_end, next_record, start_field, start_record, step}
use Rattle.csv.specs.Reading.{AreRecords, Reached, default_config, records, records_from, records_next}
use Rattle.csv.specs.declared.parser.Config.{Config}
use Rattle.csv.specs.declared.parser.State.{State}
use Rattle.csv.specs.declared.parser.State.TheVariants as st
use Rattle.csv.specs.declared.parser.Action.{Action}
use Rattle.csv.specs.declared.parser.Action.TheVariants as act

by_cases : {P : Type 0} (b : Bool) → (b ≡ true → P) → (b ≡ false → P) → P
by_cases true met unmet = met refl
by_cases false met unmet = unmet refl

none_some : {A : Type 0} (a : A) → ¬ (None ≡ Some a)
none_some a e = cc

some_is : {A : Type 0} (a b : A) → Some a ≡ Some b → a ≡ b
some_is a b e = cc

-- what stands behind a record is no longer than the text
no_longer : (cfg : Config) (s : State) (fields : List (List ℕ)) (field : List ℕ) (xs : List ℕ) (p : Read) → next_record cfg s fields field xs ≡ Some p → length p.2 ≤ length xs
unfolding next_record
no_longer cfg s fields field [] p is = by_cases (ends_at_end s)
    (λ ends.
    let same = some_is (fields ++ (field ∷ []), st.StartRecord, []) p (sym (ap (λ (b : Bool). cond b (Some (fields ++ (field ∷ []), st.StartRecord, [])) None) ends) ∙ is) in
    omega (arith, ap (λ (r : Read). length r.2) same))
    (λ goes. absurd (none_some p (sym (ap (λ (b : Bool). cond b (Some (fields ++ (field ∷ []), st.StartRecord, [])) None) goes) ∙ is)))
no_longer cfg s fields field (c ∷ rest) p is =
    let next = step cfg s c in
    let ended : Option Read = Some (fields_after next.1 fields field, next.0, rest) in
    let more = next_record cfg next.0 (fields_after next.1 fields field) (field_after next.1 c field) rest in
    by_cases (is_end next.1)
    (λ ends.
    let same = some_is (fields_after next.1 fields field, next.0, rest) p (sym (ap (λ (b : Bool). cond b ended more) ends) ∙ is) in
    omega (arith, ap (λ (r : Read). length r.2) same))
    (λ goes.
    let less = no_longer cfg next.0 (fields_after next.1 fields field) (field_after next.1 c field) rest p (sym (ap (λ (b : Bool). cond b ended more) goes) ∙ is) in
    omega (arith, less))

-- and shorter, where it begins a record
shorter : (cfg : Config) (s : State) (fields : List (List ℕ)) (field : List ℕ) (xs : List ℕ) (p : Read) → ends_at_end s ≡ false → next_record cfg s fields field xs ≡ Some p → length p.2 < length xs
unfolding next_record
shorter cfg s fields field [] p begins is = absurd (none_some p (sym (ap (λ (b : Bool). cond b (Some (fields ++ (field ∷ []), st.StartRecord, [])) None) begins) ∙ is))
shorter cfg s fields field (c ∷ rest) p begins is =
    let next = step cfg s c in
    let ended : Option Read = Some (fields_after next.1 fields field, next.0, rest) in
    let more = next_record cfg next.0 (fields_after next.1 fields field) (field_after next.1 c field) rest in
    by_cases (is_end next.1)
    (λ ends.
    let same = some_is (fields_after next.1 fields field, next.0, rest) p (sym (ap (λ (b : Bool). cond b ended more) ends) ∙ is) in
    omega (arith, ap (λ (r : Read). length r.2) same))
    (λ goes.
    let less = no_longer cfg next.0 (fields_after next.1 fields field) (field_after next.1 c field) rest p (sym (ap (λ (b : Bool). cond b ended more) goes) ∙ is) in
    omega (arith, less))

-- ---- the state behind a record begins one

abbrev Begins : State × Action → Type 0
Begins next = is_end next.1 ≡ true → ends_at_end next.0 ≡ false

if_begins : (b : Bool) (x y : State × Action) → Begins x → Begins y → Begins (cond b x y)
if_begins true x y first second = first
if_begins false x y first second = second

after_begins : (c : ℕ) → ends_at_end (cond (c == 13) st.AfterCr st.StartRecord) ≡ false
after_begins c = go (c == 13)
  where
    go : (b : Bool) → ends_at_end (cond b st.AfterCr st.StartRecord) ≡ false
    go true = refl
    go false = refl

in_field_begins : (c : ℕ) → Begins (in_field default_config c)
in_field_begins c =
    if_begins (c == 44) (st.StartField, act.EndField) (cond ((c == 13) || (c == 10)) (after_end default_config.terminator c, act.EndRecord) (st.InField, act.Copy)) (λ e. absurd (other e))
    (if_begins ((c == 13) || (c == 10)) (after_end default_config.terminator c, act.EndRecord) (st.InField, act.Copy) (λ e. after_begins c) (λ e. absurd (other e)))
  where
    other : ¬ (false ≡ true)
    other e = cc

-- an action that ends no record
goes_on : (s : State) (a : Action) → is_end a ≡ false → Begins (s, a)
goes_on s a goes e = absurd (other (sym goes ∙ e))
  where
    other : ¬ (false ≡ true)
    other same = cc

start_field_begins : (c : ℕ) → Begins (start_field default_config c)
start_field_begins c = if_begins (c == 34) (st.InQuoted, act.Skip) (in_field default_config c) (goes_on st.InQuoted act.Skip refl) (in_field_begins c)

start_record_begins : (c : ℕ) → Begins (start_record default_config c)
start_record_begins c = if_begins ((c == 13) || (c == 10)) (st.StartRecord, act.Skip) (start_field default_config c) (goes_on st.StartRecord act.Skip refl) (start_field_begins c)

step_begins : (s : State) (c : ℕ) → Begins (step default_config s c)
step_begins st.StartRecord c = start_record_begins c
step_begins st.StartField c = start_field_begins c
step_begins st.InField c = in_field_begins c
step_begins st.InQuoted c = if_begins (c == 34) (st.AfterQuote, act.Skip) (st.InQuoted, act.Copy) (goes_on st.AfterQuote act.Skip refl) (goes_on st.InQuoted act.Copy refl)
step_begins st.InEscape c = goes_on st.InQuoted act.Copy refl
step_begins st.AfterQuote c = if_begins (c == 34) (st.InQuoted, act.Copy) (in_field default_config c) (goes_on st.InQuoted act.Copy refl) (in_field_begins c)
step_begins st.InComment c = if_begins (c == 10) (st.StartRecord, act.Skip) (st.InComment, act.Skip) (goes_on st.StartRecord act.Skip refl) (goes_on st.InComment act.Skip refl)
step_begins st.AfterCr c = if_begins (c == 10) (st.StartRecord, act.Skip) (start_record default_config c) (goes_on st.StartRecord act.Skip refl) (start_record_begins c)

-- behind a record another begins
begins_behind : (s : State) (fields : List (List ℕ)) (field : List ℕ) (xs : List ℕ) (p : Read) → next_record default_config s fields field xs ≡ Some p → ends_at_end p.1 ≡ false
unfolding next_record
begins_behind s fields field [] p is = by_cases (ends_at_end s)
    (λ ends.
    let same = some_is (fields ++ (field ∷ []), st.StartRecord, []) p (sym (ap (λ (b : Bool). cond b (Some (fields ++ (field ∷ []), st.StartRecord, [])) None) ends) ∙ is) in
    ap (λ (r : Read). ends_at_end r.1) (sym same))
    (λ goes. absurd (none_some p (sym (ap (λ (b : Bool). cond b (Some (fields ++ (field ∷ []), st.StartRecord, [])) None) goes) ∙ is)))
begins_behind s fields field (c ∷ rest) p is =
    let next = step default_config s c in
    let ended : Option Read = Some (fields_after next.1 fields field, next.0, rest) in
    let more = next_record default_config next.0 (fields_after next.1 fields field) (field_after next.1 c field) rest in
    by_cases (is_end next.1)
    (λ ends.
    let same = some_is (fields_after next.1 fields field, next.0, rest) p (sym (ap (λ (b : Bool). cond b ended more) ends) ∙ is) in
    ap (λ (r : Read). ends_at_end r.1) (sym same) ∙ step_begins s c ends)
    (λ goes. begins_behind next.0 (fields_after next.1 fields field) (field_after next.1 c field) rest p (sym (ap (λ (b : Bool). cond b ended more) goes) ∙ is))

-- ---- records read one by one are all records

from_records : (n : ℕ) (s : State) (xs : List ℕ) (rows : List (List (List ℕ))) → length xs < n → ends_at_end s ≡ false → AreRecords default_config s xs rows → records_from default_config n s xs ≡ rows
unfolding records_from Reached
from_records zero s xs rows short begins are = absurd (omega (arith, short))
from_records (suc n) s xs [] short begins are =
    let at = are.2 in
    ap (λ (found : Option Read). records_next (records_from default_config n) found)
    (ap (λ (t : State). next_record default_config t [] [] xs) at.0 ∙ (ap (λ (ys : List ℕ). next_record default_config are.0 [] [] ys) at.1 ∙ are.3))
from_records (suc n) s xs (row ∷ rows) short begins are =
    let at = are.2 in
    let p = at.0 in
    let less = shorter default_config s [] [] xs p begins at.1 in
    ap (λ (found : Option Read). records_next (records_from default_config n) found) at.1
    ∙ (ap (λ (first : List (List ℕ)). first ∷ records_from default_config n p.1 p.2) (sym at.2)
    ∙ ap (λ (others : List (List (List ℕ))). row ∷ others) (from_records n p.1 p.2 rows (omega (arith, short, less)) (begins_behind s [] [] xs p at.1) (are.0, are.1, at.3, are.3)))

-- the records of a text that were read in turn, until none was left, are its records
pub all_records : (xs : List ℕ) (rows : List (List (List ℕ))) → AreRecords default_config st.StartRecord xs rows → records default_config xs ≡ rows
all_records xs rows are = from_records (length xs + 1) st.StartRecord xs rows (omega arith) refl are

-- records that were read in turn, and one behind them, are the first of all records
front_records : (n : ℕ) (s : State) (xs : List ℕ) (rows : List (List (List ℕ))) (s2 : State) (ys : List ℕ) (p : Read) → length xs < n → ends_at_end s ≡ false
    → Reached default_config s xs rows s2 ys → next_record default_config s2 [] [] ys ≡ Some p → (others : List (List (List ℕ))) × (records_from default_config n s xs ≡ rows ++ p.0 ∷ others)
unfolding records_from Reached
front_records zero s xs rows s2 ys p short begins at next = absurd (omega (arith, short))
front_records (suc n) s xs [] s2 ys p short begins at next = (
  records_from default_config n p.1 p.2,
  ap (λ (found : Option Read). records_next (records_from default_config n) found)
      (ap (λ (t : State). next_record default_config t [] [] xs) at.0 ∙ (ap (λ (zs : List ℕ). next_record default_config s2 [] [] zs) at.1 ∙ next)),
)
front_records (suc n) s xs (row ∷ rows) s2 ys p short begins at next =
    let first = at.0 in
    let less = shorter default_config s [] [] xs first begins at.1 in
    let more = front_records n first.1 first.2 rows s2 ys p (omega (arith, short, less)) (begins_behind s [] [] xs first at.1) at.3 next in (
      more.0,
      ap (λ (found : Option Read). records_next (records_from default_config n) found) at.1
          ∙ (ap (λ (f : List (List ℕ)). f ∷ records_from default_config n first.1 first.2) (sym at.2)
          ∙ ap (λ (rest : List (List (List ℕ))). row ∷ rest) more.1),
    )

pub one_behind : (xs : List ℕ) (rows : List (List (List ℕ))) (s2 : State) (ys : List ℕ) (p : Read) → Reached default_config st.StartRecord xs rows s2 ys → next_record default_config s2 [] [] ys ≡ Some p
    → (others : List (List (List ℕ))) × (records default_config xs ≡ rows ++ p.0 ∷ others)
one_behind xs rows s2 ys p at next = front_records (length xs + 1) st.StartRecord xs rows s2 ys p (omega arith) refl at next

-- records that were read in turn are a front of all records
some_records : (n : ℕ) (s : State) (xs : List ℕ) (rows : List (List (List ℕ))) (s2 : State) (ys : List ℕ) → length xs < n → ends_at_end s ≡ false
    → Reached default_config s xs rows s2 ys → (others : List (List (List ℕ))) × (records_from default_config n s xs ≡ rows ++ others)
unfolding records_from Reached
some_records n s xs [] s2 ys short begins at = (records_from default_config n s xs, refl)
some_records zero s xs (row ∷ rows) s2 ys short begins at = absurd (omega (arith, short))
some_records (suc n) s xs (row ∷ rows) s2 ys short begins at =
    let first = at.0 in
    let less = shorter default_config s [] [] xs first begins at.1 in
    let more = some_records n first.1 first.2 rows s2 ys (omega (arith, short, less)) (begins_behind s [] [] xs first at.1) at.3 in (
      more.0,
      ap (λ (found : Option Read). records_next (records_from default_config n) found) at.1
          ∙ (ap (λ (f : List (List ℕ)). f ∷ records_from default_config n first.1 first.2) (sym at.2)
          ∙ ap (λ (rest : List (List (List ℕ))). row ∷ rest) more.1),
    )

pub front_of_all : (xs : List ℕ) (rows : List (List (List ℕ))) (s2 : State) (ys : List ℕ) → Reached default_config st.StartRecord xs rows s2 ys → (others : List (List (List ℕ))) × (records default_config xs ≡ rows ++ others)
front_of_all xs rows s2 ys at = some_records (length xs + 1) st.StartRecord xs rows s2 ys (omega arith) refl at
