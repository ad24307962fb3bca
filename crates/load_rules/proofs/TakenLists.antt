-- Records and states among lines that go on.
use Rattle.std.proofs.Common.{arith, ◌≡◌, ℕ, ◌+◌, List, [], ◌∷◌, ◌++◌, map, length, Option, None, Some, Bool, refl, sym, ◌∙◌, ap, subst, append_assoc}
use Rattle.std.specs.Prelude.{filter, ◌&&◌}
use Rattle.std.specs.List.{AllByRecursion, list_all}
use Rattle.std.proofs.lemmas.List.{append-nil, map-append}
use Rattle.std.proofs.lemmas.List.Elements.{filter-append}
use Rattle.std.proofs.lemmas.List.Folds.{list_all-append}
use Rattle.airbyte_message.specs.Lanes.{Lane}
use Rattle.airbyte_message.specs.declared.message.RecordMsg.{RecordMsg}
use Rattle.load_rules.specs.Lines.{Line, record_in, state_in}
use Rattle.load_rules.specs.Taken.{Entry, and_record, entries_from, entries, state_of, states_behind, covers, is_in}
use Rattle.load_rules.specs.Prefixes.{EachFits}

pub entries-append : (seq : ℕ) (xs ys : List Line) → entries_from seq (xs ++ ys) ≡ entries_from seq xs ++ entries_from (seq + length (entries_from seq xs)) ys
entries-append seq [] ys = grind arith
entries-append seq (x ∷ xs) ys = at (record_in x.found) (entries-append seq xs ys) (entries-append (seq + 1) xs ys)
  where
    at : (found : Option RecordMsg) → entries_from seq (xs ++ ys) ≡ entries_from seq xs ++ entries_from (seq + length (entries_from seq xs)) ys → entries_from (seq + 1) (xs ++ ys) ≡ entries_from (seq + 1) xs ++ entries_from (seq + 1 + length (entries_from (seq + 1) xs)) ys → and_record seq found (λ next. entries_from next (xs ++ ys)) ≡ and_record seq found (λ next. entries_from next xs) ++ entries_from (seq + length (and_record seq found (λ next. entries_from next xs))) ys
    at None none some = none
    at (Some content) none some =
        let counts : seq + 1 + length (entries_from (seq + 1) xs) ≡ seq + length (record { seq = seq; content = content } ∷ entries_from (seq + 1) xs) = grind arith
        in ap (λ rest. record { seq = seq; content = content } ∷ rest) (some ∙ ap (λ n. entries_from (seq + 1) xs ++ entries_from n ys) counts)

pub states-append : (before xs ys : List Line) → states_behind before (xs ++ ys) ≡ states_behind before xs ++ states_behind (before ++ xs) ys
states-append before [] ys = ap (λ lines. states_behind lines ys) (sym (append-nil before))
states-append before (x ∷ xs) ys =
    ap (λ rest. state_of before (state_in x.found) ++ rest) (states-append (before ++ x ∷ []) xs ys ∙ ap (λ lines. states_behind (before ++ x ∷ []) xs ++ states_behind lines ys) (append_assoc before (x ∷ []) xs))
    ∙ sym (append_assoc (state_of before (state_in x.found)) (states_behind (before ++ x ∷ []) xs) (states_behind (before ++ x ∷ xs) ys))

pub each_more : {A : Type 0} (fits : List A → A → Type 0) (before xs : List A) (next : A) → EachFits fits before xs → fits (before ++ xs) next → EachFits fits before (xs ++ next ∷ [])
each_more fits before [] next each now = (subst (λ list. fits list next) (append-nil before) now, tt)
each_more fits before (x ∷ xs) next each now = (each.0, each_more fits (before ++ x ∷ []) xs next each.1 (subst (λ list. fits list next) (sym (append_assoc before (x ∷ []) xs)) now))

pub all_append : {A : Type 0} (P : A → Type 0) (xs ys : List A) → AllByRecursion P xs → AllByRecursion P ys → AllByRecursion P (xs ++ ys)
all_append P [] ys first second = second
all_append P (x ∷ xs) ys first second = (first.0, all_append P xs ys first.1 second)

pub all_weaker : {A : Type 0} (P Q : A → Type 0) (xs : List A) → ((x : A) → P x → Q x) → AllByRecursion P xs → AllByRecursion Q xs
all_weaker P Q [] weaker each = tt
all_weaker P Q (x ∷ xs) weaker each = (weaker x each.0, all_weaker P Q xs weaker each.1)

pub all_both : {A : Type 0} (P Q R : A → Type 0) (xs : List A) → ((x : A) → P x → Q x → R x) → AllByRecursion P xs → AllByRecursion Q xs → AllByRecursion R xs
all_both P Q R [] both first second = tt
all_both P Q R (x ∷ xs) both first second = (both x first.0 second.0, all_both P Q R xs both first.1 second.1)

-- sequences count up

abbrev pub Numbered : ℕ → List Entry → Type 0
Numbered n [] = Unit {0}
Numbered n (entry ∷ more) = (entry.seq ≡ n) × Numbered (n + 1) more

pub numbered : (n : ℕ) (lines : List Line) → Numbered n (entries_from n lines)
numbered n [] = tt
numbered n (line ∷ lines) = at (record_in line.found) (numbered n lines) (numbered (n + 1) lines)
  where
    at : (found : Option RecordMsg) → Numbered n (entries_from n lines) → Numbered (n + 1) (entries_from (n + 1) lines) → Numbered n (and_record n found (λ next. entries_from next lines))
    at None none some = none
    at (Some content) none some = (refl, some)

-- what a front covers is committed where what the whole covers is
pub covered_front : (lane : Lane) (front rest : List Line) (done : List ℕ) → list_all (λ seq. is_in seq done) (map (λ entry. entry.seq) (filter (λ entry. covers lane entry.content.id) (entries (front ++ rest)))) ≡ (list_all (λ seq. is_in seq done) (map (λ entry. entry.seq) (filter (λ entry. covers lane entry.content.id) (entries front))) && list_all (λ seq. is_in seq done) (map (λ entry. entry.seq) (filter (λ entry. covers lane entry.content.id) (entries_from (0 + length (entries front)) rest))))
covered_front lane front rest done =
    let whole : entries (front ++ rest) ≡ entries front ++ entries_from (0 + length (entries front)) rest = entries-append 0 front rest
    in ap (λ found. list_all (λ seq. is_in seq done) (map (λ entry. entry.seq) (filter (λ entry. covers lane entry.content.id) found))) whole
    ∙ (ap (λ found. list_all (λ seq. is_in seq done) (map (λ entry. entry.seq) found)) (filter-append (λ entry. covers lane entry.content.id) (entries front) (entries_from (0 + length (entries front)) rest))
    ∙ (ap (list_all (λ seq. is_in seq done)) (map-append (λ (entry : Entry). entry.seq) (filter (λ entry. covers lane entry.content.id) (entries front)) (filter (λ entry. covers lane entry.content.id) (entries_from (0 + length (entries front)) rest)))
    ∙ list_all-append (λ seq. is_in seq done) (map (λ entry. entry.seq) (filter (λ entry. covers lane entry.content.id) (entries front))) (map (λ entry. entry.seq) (filter (λ entry. covers lane entry.content.id) (entries_from (0 + length (entries front)) rest)))))

pub filter_twice : {A : Type 0} (p q : A → Bool) (xs : List A) → filter p (filter q xs) ≡ filter (λ x. q x && p x) xs
filter_twice p q [] = refl
filter_twice p q (x ∷ xs) = grind (arith, filter_twice p q xs)
