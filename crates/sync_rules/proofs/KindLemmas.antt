-- Lines without a breach are of one kind of states.
use Rattle.std.proofs.Common.{◌≡◌, ◌⊎◌, inl, inr, ℕ, List, [], ◌∷◌, ◌++◌, Bool, true, false, cond, Option, None, Some, refl, sym, ◌∙◌, ap, subst, append_assoc}
use Rattle.std.specs.Prelude.{map, filter, is_some, nat_lt, length, ◌||◌}
use Rattle.std.specs.List.{AllByRecursion, list_any}
use Rattle.std.proofs.lemmas.List.{append-nil}
use Rattle.std.proofs.lemmas.Bool.{false≢true}
use Rattle.basics.specs.declared.limits.TheConstants.{LONGEST_LINE}
use Rattle.basics.specs.declared.stream.StreamId.{StreamId}
use Rattle.outside.specs.declared.faults.Breach.TheVariants as breach
use Rattle.airbyte_message.specs.Lanes.{one, all}
use Rattle.airbyte_message.specs.State.{State}
use Rattle.airbyte_message.specs.declared.message.Message.{Message}
use Rattle.airbyte_message.specs.declared.message.Message.TheVariants as message
use Rattle.airbyte_message.specs.declared.message.StateKind.{StateKind}
use Rattle.airbyte_message.specs.declared.message.StateKind.TheVariants as kind
use Rattle.dedup_merge.proofs.SameRowLemmas.{Has}
use Rattle.load_rules.specs.Prefixes.{EachFits}
use Rattle.load_rules.specs.Lines.{Line, state_in, is_known}
use Rattle.load_rules.specs.Taken.{since}
use Rattle.state_kinds.specs.Saved.{Saved as Set, has_states}
use Rattle.state_kinds.specs.Store.{is_stream_kind, is_global_kind}
use Rattle.sync_rules.specs.Breaches.{is_state, has_stream_state, has_global_state, miscount, breach_of_state, breach_of_message, breach_of}

-- ---- tests

pub by_bool : {P : Type 0} (b : Bool) → (b ≡ true → P) → (b ≡ false → P) → P
by_bool true yes_so no_so = yes_so refl
by_bool false yes_so no_so = no_so refl

pub or_left : (a b : Bool) → a ≡ true → (a || b) ≡ true
or_left true b is = refl
or_left false b is = absurd (false≢true is)

pub or_right : (a b : Bool) → b ≡ true → (a || b) ≡ true
or_right true b is = refl
or_right false b is = is

pub or_cases : (a b : Bool) → (a || b) ≡ true → (a ≡ true) ⊎ (b ≡ true)
or_cases true b is = inl refl
or_cases false b is = inr is

pub some_none : {A : Type 0} {x : A} → Some x ≡ None → ⊥
some_none e = false≢true (ap is_some (sym e))

pub some_is : {A : Type 0} {x y : A} → Some x ≡ Some y → x ≡ y
some_is e = cc

pub heads : {A : Type 0} {x y : A} {xs ys : List A} → x ∷ xs ≡ y ∷ ys → x ≡ y
heads e = cc

pub tails : {A : Type 0} {x y : A} {xs ys : List A} → x ∷ xs ≡ y ∷ ys → xs ≡ ys
tails e = cc

pub any_front : {A : Type 0} (p : A → Bool) (xs ys : List A) → list_any p xs ≡ true → list_any p (xs ++ ys) ≡ true
any_front p [] ys is = absurd (false≢true is)
any_front p (x ∷ xs) ys is = at (or_cases (p x) (list_any p xs) is) (any_front p xs ys)
  where
    at : (p x ≡ true) ⊎ (list_any p xs ≡ true) → (list_any p xs ≡ true → list_any p (xs ++ ys) ≡ true) → (p x || list_any p (xs ++ ys)) ≡ true
    at (inl here) onward = or_left (p x) (list_any p (xs ++ ys)) here
    at (inr there) onward = or_right (p x) (list_any p (xs ++ ys)) (onward there)

pub any_back : {A : Type 0} (p : A → Bool) (xs ys : List A) → list_any p ys ≡ true → list_any p (xs ++ ys) ≡ true
any_back p [] ys is = is
any_back p (x ∷ xs) ys is = or_right (p x) (list_any p (xs ++ ys)) (any_back p xs ys is)

pub any_parts : {A : Type 0} (p : A → Bool) (xs ys : List A) → list_any p (xs ++ ys) ≡ true → (list_any p xs ≡ true) ⊎ (list_any p ys ≡ true)
any_parts p [] ys is = inr is
any_parts p (x ∷ xs) ys is = at (or_cases (p x) (list_any p (xs ++ ys)) is) (any_parts p xs ys)
  where
    deeper : (list_any p xs ≡ true) ⊎ (list_any p ys ≡ true) → ((p x || list_any p xs) ≡ true) ⊎ (list_any p ys ≡ true)
    deeper (inl front) = inl (or_right (p x) (list_any p xs) front)
    deeper (inr back) = inr back

    at : (p x ≡ true) ⊎ (list_any p (xs ++ ys) ≡ true) → (list_any p (xs ++ ys) ≡ true → (list_any p xs ≡ true) ⊎ (list_any p ys ≡ true)) → ((p x || list_any p xs) ≡ true) ⊎ (list_any p ys ≡ true)
    at (inl here) onward = inl (or_left (p x) (list_any p xs) here)
    at (inr there) onward = deeper (onward there)

pub any_filter : {A : Type 0} (p q : A → Bool) (xs : List A) → list_any p (filter q xs) ≡ true → list_any p xs ≡ true
any_filter p q [] is = is
any_filter p q (x ∷ xs) is = at (q x) is (any_filter p q xs)
  where
    kept : (p x ≡ true) ⊎ (list_any p (filter q xs) ≡ true) → (list_any p (filter q xs) ≡ true → list_any p xs ≡ true) → (p x || list_any p xs) ≡ true
    kept (inl here) onward = or_left (p x) (list_any p xs) here
    kept (inr there) onward = or_right (p x) (list_any p xs) (onward there)

    at : (b : Bool) → list_any p (cond b (x ∷ filter q xs) (filter q xs)) ≡ true → (list_any p (filter q xs) ≡ true → list_any p xs ≡ true) → (p x || list_any p xs) ≡ true
    at true one_is onward = kept (or_cases (p x) (list_any p (filter q xs)) one_is) onward
    at false one_is onward = or_right (p x) (list_any p xs) (onward one_is)

pub has_map : {A B : Type 0} (f : A → B) (y : B) (xs : List A) → Has y (map f xs) → (x : A) × Has x xs × (f x ≡ y)
has_map f y [] has = absurd has
has_map f y (x ∷ xs) (inl is) = (x, inl refl, is)
has_map f y (x ∷ xs) (inr has) = let found = has_map f y xs has in (found.0, inr found.1, found.2)

pub has_front : {A : Type 0} (x : A) (xs ys : List A) → Has x xs → Has x (xs ++ ys)
has_front x [] ys has = absurd has
has_front x (y ∷ xs) ys (inl is) = inl is
has_front x (y ∷ xs) ys (inr has) = inr (has_front x xs ys has)

pub has_back : {A : Type 0} (x : A) (xs ys : List A) → Has x ys → Has x (xs ++ ys)
has_back x [] ys has = has
has_back x (y ∷ xs) ys has = inr (has_back x xs ys has)

pub has_parts : {A : Type 0} (x : A) (xs ys : List A) → Has x (xs ++ ys) → Has x xs ⊎ Has x ys
has_parts x [] ys has = inr has
has_parts x (y ∷ xs) ys (inl is) = inl (inl is)
has_parts x (y ∷ xs) ys (inr has) = at (has_parts x xs ys has)
  where
    at : Has x xs ⊎ Has x ys → Has x (y ∷ xs) ⊎ Has x ys
    at (inl front) = inl (inr front)
    at (inr back) = inr back

pub all_front : {A : Type 0} (P : A → Type 0) (xs ys : List A) → AllByRecursion P (xs ++ ys) → AllByRecursion P xs
all_front P [] ys all_are = tt
all_front P (x ∷ xs) ys all_are = (all_are.0, all_front P xs ys all_are.1)

pub all_more : {A : Type 0} (P : A → Type 0) (xs : List A) (y : A) → AllByRecursion P xs → P y → AllByRecursion P (xs ++ y ∷ [])
all_more P [] y all_are is = (is, tt)
all_more P (x ∷ xs) y all_are is = (all_are.0, all_more P xs y all_are.1 is)

pub all_has : {A : Type 0} (P : A → Type 0) (x : A) (xs : List A) → AllByRecursion P xs → Has x xs → P x
all_has P x [] all_are has = absurd has
all_has P x (y ∷ xs) all_are (inl is) = subst P is all_are.0
all_has P x (y ∷ xs) all_are (inr has) = all_has P x xs all_are.1 has

-- ---- kinds of states among lines

abbrev pub found_state : Line → Option State
found_state line = state_in line.found

abbrev pub Apart : Set → List Line → Type 0
Apart start lines = has_stream_state start lines ≡ true → has_global_state start lines ≡ true → ⊥

abbrev pub OneKind : Set → Type 0
OneKind set = has_states set.entries ≡ true → is_some set.global ≡ true → ⊥

pub apart_none : (start : Set) → OneKind start → Apart start []
apart_none start kinds by_stream by_all = at (or_cases (has_states start.entries) false by_stream) (or_cases (is_some start.global) false by_all)
  where
    at : (has_states start.entries ≡ true) ⊎ (false ≡ true) → (is_some start.global ≡ true) ⊎ (false ≡ true) → ⊥
    at (inl one_is) (inl other) = kinds one_is other
    at (inl one_is) (inr none) = false≢true none
    at (inr none) other = false≢true none

-- the test holds of the lines before, or of the line
pub stream_more : (start : Set) (before : List Line) (line : Line) → has_stream_state start (before ++ line ∷ []) ≡ true → (has_stream_state start before ≡ true) ⊎ (is_state is_stream_kind (found_state line) ≡ true)
stream_more start before line is = at (or_cases (has_states start.entries) (list_any (λ it. is_state is_stream_kind (state_in it.found)) (before ++ line ∷ [])) is)
  where
    last : (is_state is_stream_kind (found_state line) ≡ true) ⊎ (false ≡ true) → (has_stream_state start before ≡ true) ⊎ (is_state is_stream_kind (found_state line) ≡ true)
    last (inl one_is) = inr one_is
    last (inr none) = absurd (false≢true none)

    parts : (list_any (λ it. is_state is_stream_kind (state_in it.found)) before ≡ true) ⊎ (list_any (λ it. is_state is_stream_kind (state_in it.found)) (line ∷ []) ≡ true) → (has_stream_state start before ≡ true) ⊎ (is_state is_stream_kind (found_state line) ≡ true)
    parts (inl front) = inl (or_right (has_states start.entries) (list_any (λ it. is_state is_stream_kind (state_in it.found)) before) front)
    parts (inr back) = last (or_cases (is_state is_stream_kind (found_state line)) false back)

    at : (has_states start.entries ≡ true) ⊎ (list_any (λ it. is_state is_stream_kind (state_in it.found)) (before ++ line ∷ []) ≡ true) → (has_stream_state start before ≡ true) ⊎ (is_state is_stream_kind (found_state line) ≡ true)
    at (inl held) = inl (or_left (has_states start.entries) (list_any (λ it. is_state is_stream_kind (state_in it.found)) before) held)
    at (inr some) = parts (any_parts (λ (it : Line). is_state is_stream_kind (state_in it.found)) before (line ∷ []) some)

pub global_more : (start : Set) (before : List Line) (line : Line) → has_global_state start (before ++ line ∷ []) ≡ true → (has_global_state start before ≡ true) ⊎ (is_state is_global_kind (found_state line) ≡ true)
global_more start before line is = at (or_cases (is_some start.global) (list_any (λ it. is_state is_global_kind (state_in it.found)) (before ++ line ∷ [])) is)
  where
    last : (is_state is_global_kind (found_state line) ≡ true) ⊎ (false ≡ true) → (has_global_state start before ≡ true) ⊎ (is_state is_global_kind (found_state line) ≡ true)
    last (inl one_is) = inr one_is
    last (inr none) = absurd (false≢true none)

    parts : (list_any (λ it. is_state is_global_kind (state_in it.found)) before ≡ true) ⊎ (list_any (λ it. is_state is_global_kind (state_in it.found)) (line ∷ []) ≡ true) → (has_global_state start before ≡ true) ⊎ (is_state is_global_kind (found_state line) ≡ true)
    parts (inl front) = inl (or_right (is_some start.global) (list_any (λ it. is_state is_global_kind (state_in it.found)) before) front)
    parts (inr back) = last (or_cases (is_state is_global_kind (found_state line)) false back)

    at : (is_some start.global ≡ true) ⊎ (list_any (λ it. is_state is_global_kind (state_in it.found)) (before ++ line ∷ []) ≡ true) → (has_global_state start before ≡ true) ⊎ (is_state is_global_kind (found_state line) ≡ true)
    at (inl held) = inl (or_left (is_some start.global) (list_any (λ it. is_state is_global_kind (state_in it.found)) before) held)
    at (inr some) = parts (any_parts (λ (it : Line). is_state is_global_kind (state_in it.found)) before (line ∷ []) some)

pub not_both : (own : StateKind) → is_stream_kind own ≡ true → is_global_kind own ≡ true → ⊥
not_both (kind.Stream id blob) by_stream by_all = false≢true by_all
not_both (kind.Global shared streams) by_stream by_all = false≢true by_stream
not_both kind.Legacy by_stream by_all = false≢true by_all

pub mixed_stream : (ids : List StreamId) (start : Set) (before : List Line) (count : Option ℕ) (own : StateKind) → breach_of_state ids start before count own ≡ None → is_stream_kind own ≡ true → has_global_state start before ≡ true → ⊥
mixed_stream ids start before count (kind.Stream id blob) none is held = some_none (sym (ap (λ b. cond b (Some breach.Mixed) (cond (is_known ids id) (miscount count (since (one id) before)) (Some breach.UnknownStream))) held) ∙ none)
mixed_stream ids start before count (kind.Global shared streams) none is held = false≢true is
mixed_stream ids start before count kind.Legacy none is held = false≢true is

pub mixed_global : (ids : List StreamId) (start : Set) (before : List Line) (count : Option ℕ) (own : StateKind) → breach_of_state ids start before count own ≡ None → is_global_kind own ≡ true → has_stream_state start before ≡ true → ⊥
mixed_global ids start before count (kind.Stream id blob) none is held = false≢true is
mixed_global ids start before count (kind.Global shared streams) none is held = some_none (sym (ap (λ b. cond b (Some breach.Mixed) (miscount count (since all before))) held) ∙ none)
mixed_global ids start before count kind.Legacy none is held = false≢true is

-- a line that is a state, and what is no breach of it
pub record StateLine (ids : List StreamId) (start : Set) (before : List Line) (test : StateKind → Bool) (found : Option Message) : Type 0 where
  pub state : State
  pub tested : test state.kind ≡ true
  pub is : state_in found ≡ Some state
  pub unbroken : breach_of_state ids start before state.source_count state.kind ≡ None

pub state_line : (ids : List StreamId) (start : Set) (before : List Line) (test : StateKind → Bool) (line : Line) (found : Option Message) → line.found ≡ found → breach_of ids start before line ≡ None → is_state test (state_in found) ≡ true → StateLine ids start before test found
state_line ids start before test line None at none is = absurd (false≢true is)
state_line ids start before test line (Some (message.Rec content)) at none is = absurd (false≢true is)
state_line ids start before test line (Some (message.Log content)) at none is = absurd (false≢true is)
state_line ids start before test line (Some (message.Spec content)) at none is = absurd (false≢true is)
state_line ids start before test line (Some (message.Connection content)) at none is = absurd (false≢true is)
state_line ids start before test line (Some (message.Catalog content)) at none is = absurd (false≢true is)
state_line ids start before test line (Some (message.Trace content)) at none is = absurd (false≢true is)
state_line ids start before test line (Some (message.Control content)) at none is = absurd (false≢true is)
state_line ids start before test line (Some (message.State state)) at none is =
    record { state = state; tested = is; is = refl; unbroken = by_bool (nat_lt LONGEST_LINE (length line.text)) long short }
  where
    here : cond (nat_lt LONGEST_LINE (length line.text)) (Some breach.TooLong) (breach_of_state ids start before state.source_count state.kind) ≡ None
    here = ap (λ it. cond (nat_lt LONGEST_LINE (length line.text)) (Some breach.TooLong) (breach_of_message ids start before it)) (sym at) ∙ none

    long : nat_lt LONGEST_LINE (length line.text) ≡ true → breach_of_state ids start before state.source_count state.kind ≡ None
    long b = absurd (some_none (sym (ap (λ c. cond c (Some breach.TooLong) (breach_of_state ids start before state.source_count state.kind)) b) ∙ here))

    short : nat_lt LONGEST_LINE (length line.text) ≡ false → breach_of_state ids start before state.source_count state.kind ≡ None
    short b = sym (ap (λ c. cond c (Some breach.TooLong) (breach_of_state ids start before state.source_count state.kind)) b) ∙ here

pub same_state : (found : Option Message) (one_is other : State) → state_in found ≡ Some one_is → state_in found ≡ Some other → one_is ≡ other
same_state found one_is other a b = some_is (sym a ∙ b)

pub apart_more : (ids : List StreamId) (start : Set) (before : List Line) (line : Line) → Apart start before → breach_of ids start before line ≡ None → Apart start (before ++ line ∷ [])
apart_more ids start before line apart none by_stream by_all = at (stream_more start before line by_stream) (global_more start before line by_all)
  where
    at : (has_stream_state start before ≡ true) ⊎ (is_state is_stream_kind (found_state line) ≡ true) → (has_global_state start before ≡ true) ⊎ (is_state is_global_kind (found_state line) ≡ true) → ⊥
    at (inl a) (inl b) = apart a b
    at (inl a) (inr b) = (let found = state_line ids start before is_global_kind line line.found refl none b in mixed_global ids start before found.state.source_count found.state.kind found.unbroken found.tested a)
    at (inr a) (inl b) = (let found = state_line ids start before is_stream_kind line line.found refl none a in mixed_stream ids start before found.state.source_count found.state.kind found.unbroken found.tested b)
    at (inr a) (inr b) =
        let found = state_line ids start before is_stream_kind line line.found refl none a in
        let other = state_line ids start before is_global_kind line line.found refl none b in
        not_both found.state.kind found.tested (subst (λ (it : State). is_global_kind it.kind ≡ true) (same_state line.found other.state found.state other.is found.is) other.tested)

pub apart_along : (ids : List StreamId) (start : Set) (before lines : List Line) → EachFits (λ front line. breach_of ids start front line ≡ None) before lines → Apart start before → Apart start (before ++ lines)
apart_along ids start before [] fits apart = subst (Apart start) (sym (append-nil before)) apart
apart_along ids start before (line ∷ lines) fits apart =
    subst (Apart start) (append_assoc before (line ∷ []) lines) (apart_along ids start (before ++ line ∷ []) lines fits.1 (apart_more ids start before line apart fits.0))
