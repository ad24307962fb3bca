-- Whatever line comes back takes one given state, or none.
use Rattle.std.proofs.Common.{◌≡◌, ◌⊎◌, inl, inr, ℕ, List, [], ◌∷◌, ◌++◌, Option, None, Some, refl, sym, ◌∙◌, ap, subst, map}
use Rattle.std.specs.List.{AllByRecursion}
use Rattle.std.specs.Str.{bytes_eq}
use Rattle.std.proofs.lemmas.Bool.{false≢true}
use Rattle.std.proofs.lemmas.Slice.Eq.{bytes_eq-Decides}
use Rattle.basics.specs.declared.stream.StreamId.{StreamId}
use Rattle.stream_index.specs.Same.{is_same_stream}
use Rattle.stream_index.proofs.IndexLemmas.{Decides-stream}
use Rattle.outside.specs.declared.event.Event.{Event}
use Rattle.outside.specs.declared.event.Event.TheVariants.{Opened, Took, TookEnd, Committed, Emitted, Merged, Shown, Started, ReadLine, ReadEnd, Given, Closed, Got, GotEnd, Saved, Ended}
use Rattle.airbyte_message.specs.Lanes.{Lane, lane_of}
use Rattle.airbyte_message.specs.Same.{IsSameKind, Same, blob_form, part_form}
use Rattle.airbyte_message.specs.State.{State}
use Rattle.airbyte_message.specs.declared.message.StateKind.{StateKind}
use Rattle.airbyte_message.specs.declared.message.StateKind.TheVariants as kind
use Rattle.load_rules.specs.Lines.{Reading, line_read, state_in}
use Rattle.load_rules.specs.Taken.{LaneState, of_lane, state_of, state_of_lane, states}
use Rattle.load_rules.specs.Attempts.{Waiting, none_given, with_given, TakesFirst, StateLeaves, LineLeaves, Leaves, LeavesAll}
use Rattle.sync_rules.specs.Sync.{Takes}
use Rattle.sync_rules.specs.Laws.{LinesTake}
use Rattle.sync_rules.proofs.KindLemmas.{by_bool, heads}
use Rattle.sync_rules.proofs.Rising.{leaves_all_one, takes_one}

-- ---- whether two states are the same

abbrev pub Known : Type 0 → Type 0
Known P = P ⊎ (P → ⊥)

know_both : {P Q : Type 0} → Known P → Known Q → Known (P × Q)
know_both (inl p) (inl q) = inl (p, q)
know_both (inl p) (inr none) = inr (λ both. none both.1)
know_both (inr none) other = inr (λ both. none both.0)

know_bytes : (a b : List ℕ) → Known (a ≡ b)
know_bytes a b = by_bool (bytes_eq a b) (λ same. inl ((bytes_eq-Decides a b).0 same)) (λ differs. inr (λ same. false≢true (sym differs ∙ (bytes_eq-Decides a b).1 same)))

know_stream : (a b : StreamId) → Known (a ≡ b)
know_stream a b = by_bool (is_same_stream a b) (λ same. inl ((Decides-stream a b).0 same)) (λ differs. inr (λ same. false≢true (sym differs ∙ (Decides-stream a b).1 same)))

know_part : (a b : StreamId × List ℕ) → Known (a ≡ b)
know_part a b = at (know_stream a.0 b.0) (know_bytes a.1 b.1)
  where
    at : Known (a.0 ≡ b.0) → Known (a.1 ≡ b.1) → Known (a ≡ b)
    at (inl id) (inl blob) = inl (ap (λ it. (it, a.1)) id ∙ ap (λ it. (b.0, it)) blob)
    at (inl id) (inr differs) = inr (λ same. differs (ap (λ (it : StreamId × List ℕ). it.1) same))
    at (inr differs) other = inr (λ same. differs (ap (λ (it : StreamId × List ℕ). it.0) same))

nil_cons : {A : Type 0} {x : A} {xs : List A} → [] ≡ x ∷ xs → ⊥
nil_cons e = cc

know_parts : (a b : List (StreamId × List ℕ)) → Known (a ≡ b)
know_parts [] [] = inl refl
know_parts [] (y ∷ b) = inr (λ same. nil_cons same)
know_parts (x ∷ a) [] = inr (λ same. nil_cons (sym same))
know_parts (x ∷ a) (y ∷ b) = at (know_part x y) (know_parts a b)
  where
    at : Known (x ≡ y) → Known (a ≡ b) → Known (x ∷ a ≡ y ∷ b)
    at (inl first) (inl rest) = inl (ap (λ it. it ∷ a) first ∙ ap (λ it. y ∷ it) rest)
    at (inl first) (inr differs) = inr (λ same. differs (tails same))
      where
        tails : {A : Type 0} {u v : A} {us vs : List A} → u ∷ us ≡ v ∷ vs → us ≡ vs
        tails e = cc
    at (inr differs) rest = inr (λ same. differs (heads same))

know_same : (a b : StateKind) → Known (IsSameKind a b)
know_same (kind.Stream id blob) (kind.Stream other other_blob) = know_both (know_stream id other) (know_bytes (blob_form blob) (blob_form other_blob))
know_same (kind.Stream id blob) (kind.Global shared streams) = inr (λ none. none)
know_same (kind.Stream id blob) kind.Legacy = inr (λ none. none)
know_same (kind.Global shared streams) (kind.Stream id blob) = inr (λ none. none)
know_same (kind.Global shared streams) (kind.Global other others) = know_both (know_bytes (blob_form shared) (blob_form other)) (know_parts (map part_form streams) (map part_form others))
know_same (kind.Global shared streams) kind.Legacy = inr (λ none. none)
know_same kind.Legacy (kind.Stream id blob) = inr (λ none. none)
know_same kind.Legacy (kind.Global shared streams) = inr (λ none. none)
know_same kind.Legacy kind.Legacy = inr (λ none. none)

-- ---- what a state takes of those that wait

pub record TakesSome (waiting : List LaneState) (got : State) : Type 0 where
  pub first : LaneState
  pub rest : List LaneState
  pub takes : TakesFirst waiting got first rest

takes_some : (waiting : List LaneState) (got : State) → TakesSome waiting got ⊎ AllByRecursion (λ other. ¬ Same other.state got) waiting
takes_some [] got = inr tt
takes_some (own ∷ waiting) got = at (know_same own.state.kind got.kind) (takes_some waiting got)
  where
    at : Known (Same own.state got) → TakesSome waiting got ⊎ AllByRecursion (λ other. ¬ Same other.state got) waiting → TakesSome (own ∷ waiting) got ⊎ AllByRecursion (λ other. ¬ Same other.state got) (own ∷ waiting)
    at (inl same) rest = inl (record { first = own; rest = waiting; takes = record { over = []; splits = refl; others = tt; same = same } })
    at (inr differs) (inl more) = inl (record { first = more.first; rest = more.rest; takes = record { over = own ∷ more.takes.over; splits = ap (λ list. own ∷ list) more.takes.splits; others = (differs, more.takes.others); same = more.takes.same } })
    at (inr differs) (inr none) = inr (differs, none)

state_leaves : (waiting : List LaneState) (got : State) → (left : List LaneState) × StateLeaves waiting got left
state_leaves waiting got = at (takes_some waiting got)
  where
    at : TakesSome waiting got ⊎ AllByRecursion (λ other. ¬ Same other.state got) waiting → (left : List LaneState) × StateLeaves waiting got left
    at (inl some) = (some.rest, inr (some.first, some.takes))
    at (inr none) = (waiting, inl (none, refl))

line_leaves : (waiting list : List LaneState) → (left : List LaneState) × LineLeaves waiting list left
line_leaves waiting [] = (waiting, refl)
line_leaves waiting (back ∷ more) =
    let first = state_leaves waiting back.state in
    let rest = line_leaves first.0 more in (rest.0, (first.0, first.1, rest.1))

leaves : (read : Reading) (lane : Lane) (waiting : Waiting) (event : Event) → (left : Waiting) × Leaves read lane waiting event left
leaves read lane waiting (Opened x y z) = (waiting, refl)
leaves read lane waiting (Took x) = (waiting, refl)
leaves read lane waiting TookEnd = (waiting, refl)
leaves read lane waiting (Committed x y) = (waiting, refl)
leaves read lane waiting (Emitted x) = (waiting, refl)
leaves read lane waiting (Merged x y z) = (waiting, refl)
leaves read lane waiting (Shown x y z) = (waiting, refl)
leaves read lane waiting (Started x) = (waiting, refl)
leaves read lane waiting (ReadLine x) = (waiting, refl)
leaves read lane waiting ReadEnd = (waiting, refl)
leaves read lane waiting (Given x) = (with_given lane (line_read read x) waiting, refl)
leaves read lane waiting Closed = (waiting, refl)
leaves read lane waiting (Got x) = (let left = line_leaves waiting.states (of_lane lane (states (line_read read x ∷ []))) in (record { given = waiting.given; states = left.0 }, (refl, left.1)))
leaves read lane waiting GotEnd = (waiting, refl)
leaves read lane waiting (Saved x) = (waiting, refl)
leaves read lane waiting (Ended x) = (waiting, refl)

pub leaves_all : (read : Reading) (lane : Lane) (waiting : Waiting) (events : List Event) → (left : Waiting) × LeavesAll read lane waiting events left
leaves_all read lane waiting [] = (waiting, refl)
leaves_all read lane waiting (event ∷ events) =
    let first = leaves read lane waiting event in
    let rest = leaves_all read lane first.0 events in (rest.0, (first.0, first.1, rest.1))

-- ---- what a line takes

none_back : (read : Reading) (before : List Event) (text : List ℕ) → states (line_read read text ∷ []) ≡ [] → Takes read before text None
none_back read before text none back taken are takes = nil_cons (sym none ∙ are)

one_back : (read : Reading) (before : List Event) (text : List ℕ) (back : LaneState) → states (line_read read text ∷ []) ≡ back ∷ [] → (owed : Option LaneState) × Takes read before text owed
one_back read before text back are = at (takes_some left.0.states back.state)
  where
    left : (left : Waiting) × LeavesAll read back.lane none_given before left
    left = leaves_all read back.lane none_given before

    none : AllByRecursion (λ other. ¬ Same other.state back.state) left.0.states → Takes read before text None
    none differ own taken list takes = apart takes.takes.over taken takes.rest (subst (AllByRecursion (λ other. ¬ Same other.state own.state)) (ap (λ (it : Waiting). it.states) same ∙ takes.takes.splits) (subst (λ (it : LaneState). AllByRecursion (λ other. ¬ Same other.state it.state) left.0.states) is differ)) takes.takes.same
      where
        is : back ≡ own
        is = heads (sym are ∙ list)

        same : left.0 ≡ takes.waiting
        same = leaves_all_one read back.lane none_given before left.0 takes.waiting left.1 (subst (λ (it : LaneState). LeavesAll read it.lane none_given before takes.waiting) (sym is) takes.waits)

        apart : (over : List LaneState) (first : LaneState) (rest : List LaneState) → AllByRecursion (λ other. ¬ Same other.state own.state) (over ++ first ∷ rest) → Same first.state own.state → ⊥
        apart [] first rest each alike = each.0 alike
        apart (x ∷ over) first rest each alike = apart over first rest each.1 alike

    at : TakesSome left.0.states back.state ⊎ AllByRecursion (λ other. ¬ Same other.state back.state) left.0.states → (owed : Option LaneState) × Takes read before text owed
    at (inl some) = (Some some.first, (back, are, record { waiting = left.0; waits = left.1; rest = some.rest; takes = some.takes }))
    at (inr differ) = (None, none differ)

some_takes : (read : Reading) (before : List Event) (text : List ℕ) → (owed : Option LaneState) × Takes read before text owed
some_takes read before text = by_state (state_in (read text)) refl
  where
    by_lane : (state : State) (lane : Option Lane) → states (line_read read text ∷ []) ≡ state_of_lane [] state lane ++ [] → (owed : Option LaneState) × Takes read before text owed
    by_lane state None are = (None, none_back read before text are)
    by_lane state (Some lane) are = one_back read before text (record { lane = lane; state = state; before = [] }) are

    by_state : (found : Option State) → state_in (read text) ≡ found → (owed : Option LaneState) × Takes read before text owed
    by_state None is = (None, none_back read before text (ap (λ it. state_of [] it ++ []) is))
    by_state (Some state) is = by_lane state (lane_of state.kind) (ap (λ it. state_of [] it ++ []) is)

one_takes : (read : Reading) (before : List Event) (text : List ℕ) (owed other : Option LaneState) → Takes read before text owed → Takes read before text other → owed ≡ other
one_takes read before text None None takes so = refl
one_takes read before text None (Some taken) takes (back, are, so) = absurd (takes back taken are so)
one_takes read before text (Some taken) None (back, are, takes) so = absurd (so back taken are takes)
one_takes read before text (Some taken) (Some also) (back, are, takes) (other, list, so) =
    let is : back ≡ other = heads (sym are ∙ list) in
    let same : takes.waiting ≡ so.waiting = leaves_all_one read back.lane none_given before takes.waiting so.waiting takes.waits (subst (λ (it : LaneState). LeavesAll read it.lane none_given before so.waiting) (sym is) so.waits) in
    ap (λ it. Some it) (takes_one takes.waiting.states back.state taken also takes.rest so.rest takes.takes
    (subst (λ (it : Waiting). TakesFirst it.states back.state also so.rest) (sym same) (subst (λ (it : LaneState). TakesFirst so.waiting.states it.state also so.rest) (sym is) so.takes))).0

pub lines_take : LinesTake
lines_take = record { some = some_takes; one = one_takes }
