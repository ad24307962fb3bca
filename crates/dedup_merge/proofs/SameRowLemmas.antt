-- The same rows in another order have the same winners, where rows with the same load and sequence are the same.
use Rattle.std.proofs.Common.{◌≡◌, ◌⊎◌, inl, inr, ℕ, zero, suc, List, [], ◌∷◌, ◌++◌, map, filter, Bool, true, false, cond, Ordering, Less, Equal, Greater, Option, None, Some, nat_cmp, refl, sym, ◌∙◌, ap, subst, append_assoc, arith}
use Rattle.std.specs.Prelude.{◌≢◌, Contains}
use Rattle.std.specs.List.{AllByRecursion}
use Rattle.std.specs.Ordering.{ordering_then, ordering_reverse}
use Rattle.std.proofs.lemmas.List.{map-append}
use Rattle.value_order.specs.Order.{order_of}
use Rattle.outside.specs.declared.event.RawRow.{RawRow}
use Rattle.dedup_merge.specs.Winners.{Candidate, candidate_row, rank, HasCursor, IsLess, IsNotMore, IsWinnerAmong, WinsAmong}
use Rattle.dedup_merge.proofs.RankLemmas.{rank_total, less_not_more}
use Rattle.dedup_merge.proofs.JoinLemmas.{one_candidate}

-- An element of a list, by recursion

abbrev pub Has : {A : Type 0} → A → List A → Type 0
Has x [] = ⊥
Has x (y ∷ ys) = (y ≡ x) ⊎ Has x ys

pub has_from : {A : Type 0} (xs : List A) (x : A) → Contains xs x → Has x xs
has_from [] x there = absurd (omega (arith, there.1))
has_from (y ∷ xs) x (zero, within, is) = inl is
has_from (y ∷ xs) x (suc k, within, is) = inr (has_from xs x (k, omega arith, is))

pub has_to : {A : Type 0} (xs : List A) (x : A) → Has x xs → Contains xs x
has_to [] x there = absurd there
has_to (y ∷ xs) x (inl e) = (0, omega arith, e)
has_to (y ∷ xs) x (inr there) = let rest = has_to xs x there in (suc rest.0, (let within = rest.1 in omega arith), rest.2)

pub has_kept : {A : Type 0} (test : A → Bool) (x : A) (xs : List A) → Has x xs → test x ≡ true → Has x (filter test xs)
has_kept test x [] there t = absurd there
has_kept test x (y ∷ xs) (inl e) t = let own : test y ≡ true = ap test e ∙ t in rw own (inl e)
has_kept test x (y ∷ xs) (inr there) t = by_test (test y) refl (has_kept test x xs there t) where
  by_test : (b : Bool) → test y ≡ b → Has x (filter test xs) → Has x (filter test (y ∷ xs))
  by_test true e rest = rw e (inr rest)
  by_test false e rest = rw e rest

pub has_passed : {A : Type 0} (test : A → Bool) (x : A) (xs : List A) → Has x (filter test xs) → Has x xs × (test x ≡ true)
has_passed test x [] there = absurd there
has_passed test x (y ∷ xs) there = by_test (test y) refl (has_passed test x xs) there where
  by_test : (b : Bool) → test y ≡ b → (Has x (filter test xs) → Has x xs × (test x ≡ true)) → Has x (cond b (y ∷ filter test xs) (filter test xs)) → Has x (y ∷ xs) × (test x ≡ true)
  by_test true e onward (inl same) = (inl same, subst (λ (z : _). test z ≡ true) same e)
  by_test true e onward (inr more) = let rest = onward more in (inr rest.0, rest.1)
  by_test false e onward more = let rest = onward more in (inr rest.0, rest.1)

-- What the order says

nat_tie : (a b : ℕ) → nat_cmp a b ≡ Equal → a ≡ b
nat_tie a b e = grind arith

then_tie : (a b : Ordering) → ordering_then a b ≡ Equal → (a ≡ Equal) × (b ≡ Equal)
then_tie Equal b e = (refl, e)
then_tie Less b e = absurd (cc)
then_tie Greater b e = absurd (cc)

-- candidates that tie have one load and one sequence
ties_stamp : (a b : Candidate) → rank a b ≡ Equal → (a.row.load ≡ b.row.load) × (a.row.seq ≡ b.row.seq)
ties_stamp a b e =
    let stamp = (then_tie (order_of a.value b.value) (ordering_then (nat_cmp a.row.load b.row.load) (nat_cmp a.row.seq b.row.seq)) e).1 in
    let parts = then_tie (nat_cmp a.row.load b.row.load) (nat_cmp a.row.seq b.row.seq) stamp in
    (nat_tie a.row.load b.row.load parts.0, nat_tie a.row.seq b.row.seq parts.1)

rank_own : (a : Candidate) → rank a a ≡ Equal
rank_own a = by_answer (rank a a) refl where
  turned : rank a a ≡ ordering_reverse (rank a a)
  turned = rank_total.antisymm a a

  by_answer : (o : Ordering) → rank a a ≡ o → rank a a ≡ Equal
  by_answer Equal e = e
  by_answer Less e = let t : Less ≡ Greater = sym e ∙ (turned ∙ ap ordering_reverse e) in absurd (cc)
  by_answer Greater e = let t : Greater ≡ Less = sym e ∙ (turned ∙ ap ordering_reverse e) in absurd (cc)

own_rank : (a : Candidate) → rank a a ≢ Greater
own_rank a more = let t : Equal ≡ Greater = sym (rank_own a) ∙ more in cc

all_at : (P : Candidate → Type 0) (xs : List Candidate) (x : Candidate) (ys : List Candidate) → AllByRecursion P (xs ++ x ∷ ys) → P x
all_at P [] x ys all = all.0
all_at P (y ∷ xs) x ys all = all_at P xs x ys all.1

pub has_right : {A : Type 0} (x : A) (xs ys : List A) → Has x ys → Has x (xs ++ ys)
has_right x [] ys there = there
has_right x (y ∷ xs) ys there = inr (has_right x xs ys there)

has_winner : (xs : List RawRow) (held : RawRow) → IsWinnerAmong xs held → Has held xs
has_winner xs held among = subst (λ (rs : List RawRow). Has held rs) (sym among.rows_are) (has_right held (map candidate_row among.before) (among.winner.row ∷ map candidate_row among.behind) (inl among.is))

-- rows with one load and sequence are the same
abbrev pub HasOneOf : List RawRow → Type 0
HasOneOf xs = (a b : RawRow) → Has a xs → Has b xs → a.load ≡ b.load → a.seq ≡ b.seq → a ≡ b

module _ (xs : List RawRow) (held : RawRow) (among : IsWinnerAmong xs held) (stamps : (row : RawRow) → Has row xs → row.load ≡ held.load → row.seq ≡ held.seq → row ≡ held) where
  -- each row is a candidate that does not exceed the winner
  pub record Stands (row : RawRow) : Type 0 where
    pub candidate : Candidate
    pub is : candidate.row ≡ row
    pub cursor : HasCursor candidate
    pub not_more : rank candidate among.winner ≢ Greater

  in_front : (row : RawRow) (before : List Candidate) (rest : List Candidate) → AllByRecursion HasCursor (before ++ rest) → AllByRecursion (IsLess among.winner) before → Has row (map candidate_row before) → Stands row
  in_front row [] rest cursors less there = absurd there
  in_front row (c ∷ before) rest cursors less (inl e) = record { candidate = c; is = e; cursor = cursors.0; not_more = less_not_more (rank c among.winner) less.0 }
  in_front row (c ∷ before) rest cursors less (inr there) = in_front row before rest cursors.1 less.1 there

  behind_it : (row : RawRow) (behind : List Candidate) → AllByRecursion HasCursor behind → AllByRecursion (IsNotMore among.winner) behind → Has row (map candidate_row behind) → Stands row
  behind_it row [] cursors least there = absurd there
  behind_it row (c ∷ behind) cursors least (inl e) = record { candidate = c; is = e; cursor = cursors.0; not_more = least.0 }
  behind_it row (c ∷ behind) cursors least (inr there) = behind_it row behind cursors.1 least.1 there

  rest_of : (P : Candidate → Type 0) (before rest : List Candidate) → AllByRecursion P (before ++ rest) → AllByRecursion P rest
  rest_of P [] rest all = all
  rest_of P (c ∷ before) rest all = rest_of P before rest all.1

  has_cases : (row : RawRow) (front bs : List RawRow) → Has row (front ++ bs) → Has row front ⊎ Has row bs
  has_cases row [] bs there = inr there
  has_cases row (a ∷ front) bs (inl e) = inl (inl e)
  has_cases row (a ∷ front) bs (inr there) = further (has_cases row front bs there) where
    further : Has row front ⊎ Has row bs → Has row (a ∷ front) ⊎ Has row bs
    further (inl l) = inl (inr l)
    further (inr r) = inr r

  behind_cursors : AllByRecursion HasCursor (among.winner ∷ among.behind)
  behind_cursors = rest_of HasCursor among.before (among.winner ∷ among.behind) among.cursors

  tied : Stands held
  tied = record { candidate = among.winner; is = among.is; cursor = behind_cursors.0; not_more = own_rank among.winner }

  stands : (row : RawRow) → Has row xs → Stands row
  stands row there = by_part (has_cases row (map candidate_row among.before) (among.winner.row ∷ map candidate_row among.behind) (subst (λ (rs : List RawRow). Has row rs) among.rows_are there)) where
    by_part : Has row (map candidate_row among.before) ⊎ Has row (among.winner.row ∷ map candidate_row among.behind) → Stands row
    by_part (inl front) = in_front row among.before (among.winner ∷ among.behind) among.cursors among.first front
    by_part (inr (inl e)) = subst (λ (r : RawRow). Stands r) (sym among.is ∙ e) tied
    by_part (inr (inr rest)) = behind_it row among.behind behind_cursors.1 among.unexceeded rest

  -- the rows of another list, each as a candidate
  pub record AreCandidates (ys : List RawRow) : Type 0 where
    pub candidates : List Candidate
    pub are : ys ≡ map candidate_row candidates
    pub cursors : AllByRecursion HasCursor candidates
    pub not_more : AllByRecursion (IsNotMore among.winner) candidates

  candidates_of : (ys : List RawRow) → ((row : RawRow) → Has row ys → Has row xs) → AreCandidates ys
  candidates_of [] within = record { candidates = []; are = refl; cursors = tt; not_more = tt }
  candidates_of (y ∷ ys) within =
      let first = stands y (within y (inl refl)) in
      let rest = candidates_of ys (λ row there. within row (inr there)) in
      record {
        candidates = first.candidate ∷ rest.candidates;
        are = ap (λ (r : RawRow). r ∷ ys) (sym first.is) ∙ ap (λ (rs : List RawRow). first.candidate.row ∷ rs) rest.are;
        cursors = (first.cursor, rest.cursors);
        not_more = (first.not_more, rest.not_more);
      }

  -- the first of them that ties with the winner
  pub record FirstTie (candidates : List Candidate) : Type 0 where
    pub before : List Candidate
    pub tie : Candidate
    pub behind : List Candidate
    pub are : candidates ≡ before ++ tie ∷ behind
    pub less : AllByRecursion (IsLess among.winner) before
    pub ties : rank tie among.winner ≡ Equal

  first_tie : (candidates : List Candidate) → AllByRecursion HasCursor candidates → AllByRecursion (IsNotMore among.winner) candidates → Has held (map candidate_row candidates) → FirstTie candidates
  first_tie [] cursors not_more there = absurd there
  first_tie (c ∷ candidates) cursors not_more there = by_order (rank c among.winner) refl (first_tie candidates cursors.1 not_more.1) where
    own_tie : c.row ≡ held → rank c among.winner ≡ Equal
    own_tie e = ap (λ (w : Candidate). rank w among.winner) (one_candidate c among.winner (e ∙ sym among.is) cursors.0 behind_cursors.0) ∙ rank_own among.winner

    next : rank c among.winner ≡ Less → (Has held (map candidate_row candidates) → FirstTie candidates) → FirstTie (c ∷ candidates)
    next less onward = by_place there where
      by_place : (c.row ≡ held) ⊎ Has held (map candidate_row candidates) → FirstTie (c ∷ candidates)
      by_place (inl e) = let t : Less ≡ Equal = sym less ∙ own_tie e in absurd (cc)
      by_place (inr more) =
          let rest = onward more in
          record { before = c ∷ rest.before; tie = rest.tie; behind = rest.behind; are = ap (λ (cs : List Candidate). c ∷ cs) rest.are; less = (less, rest.less); ties = rest.ties }

    by_order : (o : Ordering) → rank c among.winner ≡ o → (Has held (map candidate_row candidates) → FirstTie candidates) → FirstTie (c ∷ candidates)
    by_order Less e onward = next e onward
    by_order Equal e onward = record { before = []; tie = c; behind = candidates; are = refl; less = tt; ties = e }
    by_order Greater e onward = absurd (not_more.0 e)

  pub same_winner : (ys : List RawRow) → ((row : RawRow) → Has row ys → Has row xs) → Has held ys → IsWinnerAmong ys held
  same_winner ys within there =
      let all = candidates_of ys within in
      let found = first_tie all.candidates all.cursors all.not_more (subst (λ (rs : List RawRow). Has held rs) all.are there) in
      let split : AllByRecursion HasCursor (found.before ++ found.tie ∷ found.behind) = subst (λ (cs : List Candidate). AllByRecursion HasCursor cs) found.are all.cursors in
      let least : AllByRecursion (IsNotMore among.winner) (found.before ++ found.tie ∷ found.behind) = subst (λ (cs : List Candidate). AllByRecursion (IsNotMore among.winner) cs) found.are all.not_more in
      let rows : ys ≡ map candidate_row found.before ++ found.tie.row ∷ map candidate_row found.behind = all.are ∙ (ap (map candidate_row) found.are ∙ map-append candidate_row found.before (found.tie ∷ found.behind)) in
      let here : Has found.tie.row xs = within found.tie.row (subst (λ (rs : List RawRow). Has found.tie.row rs) (sym rows) (has_right found.tie.row (map candidate_row found.before) (found.tie.row ∷ map candidate_row found.behind) (inl refl))) in
      let stamp = ties_stamp found.tie among.winner found.ties in
      let own : found.tie.row ≡ held = stamps found.tie.row here (stamp.0 ∙ ap (λ (r : RawRow). r.load) among.is) (stamp.1 ∙ ap (λ (r : RawRow). r.seq) among.is) in
      let same : found.tie ≡ among.winner = one_candidate found.tie among.winner (own ∙ sym among.is) (all_at HasCursor found.before found.tie found.behind split) behind_cursors.0 in
      record {
        before = found.before;
        winner = found.tie;
        behind = found.behind;
        is = own;
        rows_are = rows;
        cursors = split;
        first = subst (λ (w : Candidate). AllByRecursion (IsLess w) found.before) (sym same) found.less;
        unexceeded = subst (λ (w : Candidate). AllByRecursion (IsNotMore w) found.behind) (sym same) (rest_of (IsNotMore among.winner) (found.before ++ found.tie ∷ []) found.behind (subst (λ (cs : List Candidate). AllByRecursion (IsNotMore among.winner) cs) (sym (append_assoc found.before (found.tie ∷ []) found.behind)) least));
      }

-- Lists of the same rows

pub same_wins : (xs ys : List RawRow) (found : Option RawRow) → ((row : RawRow) → Has row ys → Has row xs) → ((row : RawRow) → Has row xs → Has row ys) → HasOneOf xs → WinsAmong xs found → WinsAmong ys found
same_wins xs [] None within back one wins = refl
same_wins xs (y ∷ ys) None within back one none = absurd (subst (λ (rs : List RawRow). Has y rs) none (within y (inl refl)))
same_wins xs ys (Some held) within back one wins = same_winner xs held wins (λ row there load seq. one row held there (has_winner xs held wins) load seq) ys within (back held (has_winner xs held wins))
