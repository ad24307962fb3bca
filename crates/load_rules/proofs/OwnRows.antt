-- Where the sequence of a record is committed, its own row is.
use Rattle.std.proofs.Common.{arith, ◌≡◌, ◌⊎◌, inl, inr, ℕ, ◌+◌, ◌<◌, ◌≤◌, eqb, List, [], ◌∷◌, ◌++◌, map, length, Bool, true, false, cond, sym, ◌∙◌, ap, subst, append_assoc, length-append}
use Rattle.std.specs.Prelude.{filter, not, Contains}
use Rattle.std.specs.List.{AllByRecursion}
use Rattle.std.proofs.lemmas.List.{append-nil}
use Rattle.std.proofs.lemmas.List.Elements.{Contains-append_left, Contains-append_right, Contains-append_cases, Contains-push}
use Rattle.std.proofs.lemmas.List.Folds.{list_any-append}
use Rattle.std.proofs.lemmas.Bool.{or_cases, eqb-true, false≢true}
use Rattle.outside.specs.declared.event.RawRow.{RawRow}
use Rattle.catalog.specs.declared.stream.ConfStream.{ConfStream}
use Rattle.load_rules.specs.Prefixes.{EachFits}
use Rattle.load_rules.specs.Lines.{Line}
use Rattle.load_rules.specs.Taken.{Entry, entries, entries_from, is_in}
use Rattle.load_rules.specs.Loads.{Opening}
use Rattle.load_rules.specs.Rows.{IsRowOf}
use Rattle.load_rules.specs.Acts.{Act, Takes, Ends, Commits, Echoes, Turns, taken, committed}
use Rattle.load_rules.specs.SafeDest.{uncommitted, AreRowsOf, CommitFits, Fits}
use Rattle.load_rules.specs.Laws.{IsOwnRow, RowsAreOwn}
use Rattle.load_rules.proofs.TakenLists.{Numbered, numbered, entries-append, all_append, all_weaker}
use Rattle.load_rules.proofs.Machines.{not_in, taken-more, committed-more, commit_taken}
use Rattle.load_rules.proofs.SafeRuns.{contains_first, contains_none, contains_cases}

-- Elements

pub filter_contains : {A : Type 0} (test : A → Bool) (list : List A) (x : A) → Contains (filter test list) x → Contains list x
filter_contains test [] x c = c
filter_contains test (first ∷ more) x c = at (test first) c (filter_contains test more x)
  where
    on : (first ≡ x) ⊎ Contains (filter test more) x → (Contains (filter test more) x → Contains more x) → Contains (first ∷ more) x
    on (inl same) deeper = subst (Contains (first ∷ more)) same (contains_first first more)
    on (inr rest) deeper = Contains-append_right (first ∷ []) more x (deeper rest)

    at : (b : Bool) → Contains (cond b (first ∷ filter test more) (filter test more)) x → (Contains (filter test more) x → Contains more x) → Contains (first ∷ more) x
    at true c deeper = on (contains_cases first (filter test more) x c) deeper
    at false c deeper = Contains-append_right (first ∷ []) more x (deeper c)

-- the sequence of an element lies among those of the list
pub record IsWithin (n : ℕ) (list : List Entry) (entry : Entry) : Type 0 where
  pub low : n ≤ entry.seq
  pub high : entry.seq < n + length list

pub within : (n : ℕ) (list : List Entry) (entry : Entry) → Numbered n list → Contains list entry → IsWithin n list entry
within n [] entry counts c = absurd (contains_none entry c)
within n (first ∷ more) entry counts c = at (contains_cases first more entry c) (within (n + 1) more entry counts.1)
  where
    at : (first ≡ entry) ⊎ Contains more entry → (Contains more entry → IsWithin (n + 1) more entry) → IsWithin n (first ∷ more) entry
    at (inl same) deeper = let is = ap (λ (it : Entry). it.seq) same in record { low = omega (arith, is, counts.0); high = omega (arith, is, counts.0) }
    at (inr rest) deeper = let w = deeper rest in let low = w.low in let high = w.high in record { low = omega (arith, low); high = omega (arith, high) }

pub one_of_a_number : (n : ℕ) (list : List Entry) (a b : Entry) → Numbered n list → Contains list a → Contains list b → a.seq ≡ b.seq → a ≡ b
one_of_a_number n [] a b counts x y e = absurd (contains_none a x)
one_of_a_number n (first ∷ more) a b counts x y e = at (contains_cases first more a x) (contains_cases first more b y) (λ p q. one_of_a_number (n + 1) more a b counts.1 p q e) (within (n + 1) more a counts.1) (within (n + 1) more b counts.1)
  where
    at : (first ≡ a) ⊎ Contains more a → (first ≡ b) ⊎ Contains more b → (Contains more a → Contains more b → a ≡ b) → (Contains more a → IsWithin (n + 1) more a) → (Contains more b → IsWithin (n + 1) more b) → a ≡ b
    at (inl x) (inl y) deeper wa wb = sym x ∙ y
    at (inl x) (inr y) deeper wa wb = let is = ap (λ (it : Entry). it.seq) x in let low = (wb y).low in absurd (omega (arith, is, counts.0, low, e))
    at (inr x) (inl y) deeper wa wb = let is = ap (λ (it : Entry). it.seq) y in let low = (wa x).low in absurd (omega (arith, is, counts.0, low, e))
    at (inr x) (inr y) deeper wa wb = deeper x y

-- Rows of a commit

pub record RowFor (streams : List ConfStream) (opening : Opening) (number : ℕ) (list : List Entry) (rows : List RawRow) (seq : ℕ) : Type 0 where
  pub entry : Entry
  pub among : Contains list entry
  pub row : RawRow
  pub in_rows : Contains rows row
  pub is : IsRowOf streams opening number entry row
  pub same : entry.seq ≡ seq

pub row_found : (streams : List ConfStream) (opening : Opening) (number : ℕ) (list : List Entry) (rows : List RawRow) (seq : ℕ) → AreRowsOf streams opening number list rows → is_in seq (map (λ (row : RawRow). row.seq) rows) ≡ true → RowFor streams opening number list rows seq
row_found streams opening number [] [] seq are e = absurd (false≢true e)
row_found streams opening number [] (row ∷ rows) seq are e = absurd are
row_found streams opening number (entry ∷ more) [] seq are e = absurd are
row_found streams opening number (entry ∷ more) (row ∷ rows) seq are e = at (or_cases (eqb row.seq seq) (is_in seq (map (λ (it : RawRow). it.seq) rows)) e) (row_found streams opening number more rows seq are.1)
  where
    at : (eqb row.seq seq ≡ true) ⊎ (is_in seq (map (λ (it : RawRow). it.seq) rows) ≡ true) → (is_in seq (map (λ (it : RawRow). it.seq) rows) ≡ true → RowFor streams opening number more rows seq) → RowFor streams opening number (entry ∷ more) (row ∷ rows) seq
    at (inl same) deeper = record { entry = entry; among = contains_first entry more; row = row; in_rows = contains_first row rows; is = are.0; same = sym are.0.is.numbers.seq ∙ eqb-true row.seq seq same }
    at (inr rest) deeper =
        let f = deeper rest
        in record { entry = f.entry; among = Contains-append_right (entry ∷ []) more f.entry f.among; row = f.row; in_rows = Contains-append_right (row ∷ []) rows f.row f.in_rows; is = f.is; same = f.same }

rows_below : (streams : List ConfStream) (opening : Opening) (number n : ℕ) (list : List Entry) (rows : List RawRow) → AreRowsOf streams opening number list rows → ((entry : Entry) → Contains list entry → entry.seq < n) → AllByRecursion (λ seq. seq < n) (map (λ (row : RawRow). row.seq) rows)
rows_below streams opening number n [] [] are below = tt
rows_below streams opening number n [] (row ∷ rows) are below = absurd are
rows_below streams opening number n (entry ∷ more) [] are below = absurd are
rows_below streams opening number n (entry ∷ more) (row ∷ rows) are below =
    (subst (λ seq. seq < n) (sym are.0.is.numbers.seq) (below entry (contains_first entry more)), rows_below streams opening number n more rows are.1 (λ other c. below other (Contains-append_right (entry ∷ []) more other c)))

-- The induction

record Owned (streams : List ConfStream) (opening : Opening) (acts : List Act) : Type 0 where
  below : AllByRecursion (λ seq. seq < length (entries (taken acts))) (committed acts)
  rows : (entry : Entry) → Contains (entries (taken acts)) entry → is_in entry.seq (committed acts) ≡ true → IsOwnRow streams opening acts entry

own_on : (streams : List ConfStream) (opening : Opening) (acts : List Act) (act : Act) (entry : Entry) → IsOwnRow streams opening acts entry → IsOwnRow streams opening (acts ++ act ∷ []) entry
own_on streams opening acts act entry own = record { number = own.number; rows = own.rows; commit = Contains-append_left acts (act ∷ []) (Commits own.number own.rows) own.commit; row = own.row; among = own.among; is = own.is }

owned_quiet : (streams : List ConfStream) (opening : Opening) (acts : List Act) (act : Act) → taken (acts ++ act ∷ []) ≡ taken acts → committed (acts ++ act ∷ []) ≡ committed acts → Owned streams opening acts → Owned streams opening (acts ++ act ∷ [])
owned_quiet streams opening acts act same_taken same_done o = record {
  below = subst (λ done. AllByRecursion (λ seq. seq < length (entries (taken (acts ++ act ∷ [])))) done) (sym same_done) (subst (λ lines. AllByRecursion (λ seq. seq < length (entries lines)) (committed acts)) (sym same_taken) o.below);
  rows = λ entry c e. own_on streams opening acts act entry (o.rows entry (subst (λ lines. Contains (entries lines) entry) same_taken c) (subst (λ done. is_in entry.seq done ≡ true) same_done e));
}

owned_taken : (streams : List ConfStream) (opening : Opening) (acts : List Act) (line : Line) → Owned streams opening acts → Owned streams opening (acts ++ Takes line ∷ [])
owned_taken streams opening acts line o =
    let old = entries (taken acts)
    in let new = entries_from (0 + length (entries (taken acts))) (line ∷ [])
    in let whole : entries (taken (acts ++ Takes line ∷ [])) ≡ entries (taken acts) ++ entries_from (0 + length (entries (taken acts))) (line ∷ []) = ap entries (taken-more acts (Takes line)) ∙ entries-append 0 (taken acts) (line ∷ [])
    in let same_done : committed (acts ++ Takes line ∷ []) ≡ committed acts = committed-more acts (Takes line) ∙ append-nil (committed acts)
    in record {
      below = subst (λ done. AllByRecursion (λ seq. seq < length (entries (taken (acts ++ Takes line ∷ [])))) done) (sym same_done) (subst (λ list. AllByRecursion (λ seq. seq < length list) (committed acts)) (sym whole) (all_weaker (λ seq. seq < length old) (λ seq. seq < length (old ++ new)) (committed acts) (λ seq lt. let long = length-append old new in omega (arith, lt, long)) o.below));
      rows = λ entry c e. from_taken streams opening acts line entry o (Contains-append_cases old new entry (subst (λ list. Contains list entry) whole c)) (subst (λ done. is_in entry.seq done ≡ true) same_done e);
    }
  where
    from_taken : (streams : List ConfStream) (opening : Opening) (acts : List Act) (line : Line) (entry : Entry) → Owned streams opening acts → Contains (entries (taken acts)) entry ⊎ Contains (entries_from (0 + length (entries (taken acts))) (line ∷ [])) entry → is_in entry.seq (committed acts) ≡ true → IsOwnRow streams opening (acts ++ Takes line ∷ []) entry
    from_taken streams opening acts line entry o (inl old) e = own_on streams opening acts (Takes line) entry (o.rows entry old e)
    from_taken streams opening acts line entry o (inr new) e =
        let low = (within (0 + length (entries (taken acts))) (entries_from (0 + length (entries (taken acts))) (line ∷ [])) entry (numbered (0 + length (entries (taken acts))) (line ∷ [])) new).low
        in absurd (false≢true (sym (not_in entry.seq (length (entries (taken acts))) (committed acts) (omega (arith, low)) o.below) ∙ e))

owned_commit : (streams : List ConfStream) (opening : Opening) (acts : List Act) (number : ℕ) (rows : List RawRow) → CommitFits streams opening acts number rows → Owned streams opening acts → Owned streams opening (acts ++ Commits number rows ∷ [])
owned_commit streams opening acts number rows fits o =
    let all = entries (taken acts)
    in let list = filter fits.chosen (uncommitted acts)
    in let same_taken = commit_taken acts number rows
    in let done_is : committed (acts ++ Commits number rows ∷ []) ≡ committed acts ++ map (λ (row : RawRow). row.seq) rows = committed-more acts (Commits number rows) ∙ ap (λ more. committed acts ++ map (λ (row : RawRow). row.seq) more) (append-nil rows)
    in let inside : (entry : Entry) → Contains list entry → Contains all entry = λ entry c. filter_contains (λ it. not (is_in it.seq (committed acts))) all entry (filter_contains fits.chosen (uncommitted acts) entry c)
    in record {
      below = subst (λ done. AllByRecursion (λ seq. seq < length (entries (taken (acts ++ Commits number rows ∷ [])))) done) (sym done_is) (subst (λ lines. AllByRecursion (λ seq. seq < length (entries lines)) (committed acts ++ map (λ (row : RawRow). row.seq) rows)) (sym same_taken) (all_append (λ seq. seq < length all) (committed acts) (map (λ (row : RawRow). row.seq) rows) o.below (rows_below streams opening number (length all) list rows fits.are (λ entry c. let high = (within 0 all entry (numbered 0 (taken acts)) (inside entry c)).high in omega (arith, high)))));
      rows = λ entry c e. from_commit entry (subst (λ lines. Contains (entries lines) entry) same_taken c) (or_cases (is_in entry.seq (committed acts)) (is_in entry.seq (map (λ (row : RawRow). row.seq) rows)) (sym (list_any-append (λ other. eqb other entry.seq) (committed acts) (map (λ (row : RawRow). row.seq) rows)) ∙ subst (λ done. is_in entry.seq done ≡ true) done_is e));
    }
  where
    from_new : (entry : Entry) → Contains (entries (taken acts)) entry → RowFor streams opening number (filter fits.chosen (uncommitted acts)) rows entry.seq → IsOwnRow streams opening (acts ++ Commits number rows ∷ []) entry
    from_new entry c f =
        let there = filter_contains (λ it. not (is_in it.seq (committed acts))) (entries (taken acts)) f.entry (filter_contains fits.chosen (uncommitted acts) f.entry f.among)
        in let same = one_of_a_number 0 (entries (taken acts)) f.entry entry (numbered 0 (taken acts)) there c f.same
        in record { number = number; rows = rows; commit = Contains-push acts (Commits number rows); row = f.row; among = f.in_rows; is = subst (λ it. IsRowOf streams opening number it f.row) same f.is }

    from_commit : (entry : Entry) → Contains (entries (taken acts)) entry → (is_in entry.seq (committed acts) ≡ true) ⊎ (is_in entry.seq (map (λ (row : RawRow). row.seq) rows) ≡ true) → IsOwnRow streams opening (acts ++ Commits number rows ∷ []) entry
    from_commit entry c (inl old) = own_on streams opening acts (Commits number rows) entry (o.rows entry c old)
    from_commit entry c (inr new) = from_new entry c (row_found streams opening number (filter fits.chosen (uncommitted acts)) rows entry.seq fits.are new)

owned_act : (streams : List ConfStream) (opening : Opening) (acts : List Act) (act : Act) → Fits streams opening acts act → Owned streams opening acts → Owned streams opening (acts ++ act ∷ [])
owned_act streams opening acts (Takes line) fits o = owned_taken streams opening acts line o
owned_act streams opening acts Ends fits o = owned_quiet streams opening acts Ends (taken-more acts Ends ∙ append-nil (taken acts)) (committed-more acts Ends ∙ append-nil (committed acts)) o
owned_act streams opening acts (Commits number rows) fits o = owned_commit streams opening acts number rows fits o
owned_act streams opening acts (Echoes state) fits o = owned_quiet streams opening acts (Echoes state) (taken-more acts (Echoes state) ∙ append-nil (taken acts)) (committed-more acts (Echoes state) ∙ append-nil (committed acts)) o
owned_act streams opening acts Turns fits o = owned_quiet streams opening acts Turns (taken-more acts Turns ∙ append-nil (taken acts)) (committed-more acts Turns ∙ append-nil (committed acts)) o

owned_all : (streams : List ConfStream) (opening : Opening) (before acts : List Act) → EachFits (Fits streams opening) before acts → Owned streams opening before → Owned streams opening (before ++ acts)
owned_all streams opening before [] each o = subst (Owned streams opening) (sym (append-nil before)) o
owned_all streams opening before (act ∷ acts) each o = subst (Owned streams opening) (append_assoc before (act ∷ []) acts) (owned_all streams opening (before ++ act ∷ []) acts each.1 (owned_act streams opening before act each.0 o))

pub rows_are_own : RowsAreOwn
rows_are_own streams opening acts entry each c e = (owned_all streams opening [] acts each (record { below = tt; rows = λ other none within. absurd (contains_none other none) })).rows entry c e
