-- The states that wait: what may go by the machine may go by the gate.
use Rattle.std.proofs.Common.{arith, ◌≡◌, ◌⊎◌, inl, inr, ℕ, ◌+◌, ◌≤◌, eqb, List, [], ◌∷◌, ◌++◌, map, length, Option, None, Some, Bool, true, false, refl, sym, ◌∙◌, ap}
use Rattle.std.specs.Prelude.{filter, not, ◌&&◌, slice_get, nat_lt, find}
use Rattle.std.specs.List.{AllByRecursion, list_any, list_all}
use Rattle.std.proofs.lemmas.List.{append-nil}
use Rattle.std.proofs.lemmas.List.Elements.{filter-append}
use Rattle.std.proofs.lemmas.Bool.{cases_Bool, cases_eq, eq-eqb, ne_eqb, lt-ltb, le-ltb}
use Rattle.basics.specs.declared.stream.StreamId.{StreamId}
use Rattle.stream_index.specs.Distinct.{AreDistinct}
use Rattle.airbyte_message.specs.Lanes.{Lane}
use Rattle.airbyte_message.specs.Lanes as lanes
use Rattle.book_queue.specs.Content.{Held}
use Rattle.state_gate.specs.Content as gate
use Rattle.state_gate.specs.declared.pending.Lane.{Lane as GateLane}
use Rattle.state_gate.specs.declared.pending.Lane.TheVariants as gate_lane
use Rattle.state_gate.specs.declared.pending.Waiting.{Waiting}
use Rattle.load_rules.specs.Acts.{taken, committed}
use Rattle.load_rules.specs.Lines.{Line}
use Rattle.load_rules.specs.Prefixes.{IsPrefix}
use Rattle.load_rules.specs.Taken.{Entry, LaneState, entries, entries_from, covers, is_in}
use Rattle.load_rules.specs.Machine.{Machine, Placed, entry_of, is_done, is_releasable, without_first}
use Rattle.load_rules.proofs.Machines.{IsGood, IsMarked, Rising, prefix_on}
use Rattle.load_rules.proofs.TakenLists.{Numbered, numbered, entries-append}
use Rattle.book_rules.specs.Holds.{IsHeld, AreHeld, IsLane, IsWaiting, AreWaiting, still, accepted_of}
use Rattle.book_rules.proofs.Lists.{any_filter}
use Rattle.book_rules.proofs.Moves.{number_same}

-- Which records stand before a state

abbrev is_low : ℕ → Entry → Bool
is_low n entry = nat_lt entry.seq n

abbrev covers_entry : Lane → Entry → Bool
covers_entry lane entry = covers lane entry.content.id

numbers_below : (k n : ℕ) (list : List Entry) → Numbered k list → k + length list ≤ n → filter (is_low n) list ≡ list
numbers_below k n [] counts low = refl
numbers_below k n (first ∷ more) counts low =
    let here : nat_lt first.seq n ≡ true = lt-ltb first.seq n (omega (arith, counts.0, low)) in
    rw here (ap (λ rest. first ∷ rest) (numbers_below (k + 1) n more counts.1 (omega (arith, low))))

numbers_above : (k n : ℕ) (list : List Entry) → Numbered k list → n ≤ k → filter (is_low n) list ≡ []
numbers_above k n [] counts high = refl
numbers_above k n (first ∷ more) counts high =
    let here : nat_lt first.seq n ≡ false = le-ltb first.seq n (omega (arith, counts.0, high)) in
    rw here (numbers_above (k + 1) n more counts.1 (omega (arith, high)))

-- the records of a front of lines are those with lower sequences
entries_front : (front rest : List Line) → entries front ≡ filter (is_low (length (entries front))) (entries (front ++ rest))
entries_front front rest =
    let n = length (entries front) in
    let split : entries (front ++ rest) ≡ entries front ++ entries_from (0 + n) rest = entries-append 0 front rest in
    sym (ap (filter (is_low n)) split
    ∙ (filter-append (is_low n) (entries front) (entries_from (0 + n) rest)
    ∙ (ap (λ list. list ++ filter (is_low n) (entries_from (0 + n) rest)) (numbers_below 0 n (entries front) (numbered 0 front) (omega arith))
    ∙ (ap (λ list. entries front ++ list) (numbers_above (0 + n) n (entries_from (0 + n) rest) (numbered (0 + n) rest) (omega arith))
    ∙ append-nil (entries front)))))

abbrev is_open_before : ℕ → Lane → Placed → Bool
is_open_before n lane one = not (is_done one.place) && (nat_lt one.entry.seq n && covers lane one.entry.content.id)

all_or_open : (done : List ℕ) (n : ℕ) (lane : Lane) (placed : List Placed) → AllByRecursion (IsMarked done) placed → list_all (λ seq. is_in seq done) (map (λ (entry : Entry). entry.seq) (filter (covers_entry lane) (filter (is_low n) (map entry_of placed)))) ≡ not (list_any (is_open_before n lane) placed)
all_or_open done n lane [] marked = refl
all_or_open done n lane (first ∷ more) marked = at (nat_lt first.entry.seq n) (covers lane first.entry.content.id) (is_done first.place) refl refl refl (all_or_open done n lane more marked.1)
  where
    at : (a b c : Bool) → nat_lt first.entry.seq n ≡ a → covers lane first.entry.content.id ≡ b → is_done first.place ≡ c → list_all (λ seq. is_in seq done) (map (λ (entry : Entry). entry.seq) (filter (covers_entry lane) (filter (is_low n) (map entry_of more)))) ≡ not (list_any (is_open_before n lane) more) → list_all (λ seq. is_in seq done) (map (λ (entry : Entry). entry.seq) (filter (covers_entry lane) (filter (is_low n) (map entry_of (first ∷ more))))) ≡ not (list_any (is_open_before n lane) (first ∷ more))
    at true true true low own is deeper = rw (low, own, marked.0, is) deeper
    at true true false low own is deeper = rw (low, own, marked.0, is) refl
    at true false true low own is deeper = rw (low, own, is) deeper
    at true false false low own is deeper = rw (low, own, is) deeper
    at false own_is true low own is deeper = rw (low, is) deeper
    at false own_is false low own is deeper = rw (low, is) deeper

-- A record before a state is, in the gate, what it is in the machine

eqb_swap : (a b : ℕ) → eqb a b ≡ eqb b a
eqb_swap a b = at (cases_eq a b)
  where
    at : (a ≡ b) ⊎ (a ≡ b → ⊥) → eqb a b ≡ eqb b a
    at (inl same) = rw (eq-eqb a b same, eq-eqb b a (sym same)) refl
    at (inr apart) = rw (ne_eqb a b apart, ne_eqb b a (λ e. apart (sym e))) refl

lane_covers : (ids : List StreamId) (lane : Lane) (own : GateLane) (stream : ℕ) (id : StreamId) → AreDistinct ids → IsLane ids lane own → slice_get ids stream ≡ Some id → gate.covers own stream ≡ covers lane id
lane_covers ids lanes.all gate_lane.Global stream id distinct is named = refl
lane_covers ids (lanes.one own) (gate_lane.Stream number) stream id distinct is named = eqb_swap number stream ∙ sym (number_same ids stream number id own distinct named is)
lane_covers ids lanes.all (gate_lane.Stream number) stream id distinct is named = absurd is
lane_covers ids (lanes.one own) gate_lane.Global stream id distinct is named = absurd is

before_same : (ids : List StreamId) (state : LaneState) (waiting : Waiting) (placed : Placed) (held : Held) → AreDistinct ids → IsWaiting ids state waiting → IsHeld ids placed held → gate.is_before waiting (accepted_of held) ≡ (nat_lt placed.entry.seq (length (entries state.before)) && covers state.lane placed.entry.content.id)
before_same ids state waiting placed held distinct waits is = rw (is.seq, waits.behind, lane_covers ids state.lane waiting.pending.lane held.stream placed.entry.content.id distinct waits.lane is.named) refl

any_before : (ids : List StreamId) (state : LaneState) (waiting : Waiting) (placed : List Placed) (held : List Held) → AreDistinct ids → IsWaiting ids state waiting → AreHeld ids placed held → list_any (gate.is_before waiting) (map accepted_of held) ≡ list_any (λ one. nat_lt one.entry.seq (length (entries state.before)) && covers state.lane one.entry.content.id) placed
any_before ids state waiting [] [] distinct waits are = refl
any_before ids state waiting [] (other ∷ others) distinct waits are = absurd are
any_before ids state waiting (first ∷ more) [] distinct waits are = absurd are
any_before ids state waiting (first ∷ more) (other ∷ others) distinct waits are = rw (before_same ids state waiting first other distinct waits are.0, any_before ids state waiting more others distinct waits are.1) refl

-- a state may go by the gate where it may by the machine
pub clear_is : (ids : List StreamId) (m : Machine) (held : List Held) (state : LaneState) (waiting : Waiting) → AreDistinct ids → IsGood m → AreHeld ids (still m.placed) held → IsPrefix state.before (taken m.acts) → IsWaiting ids state waiting → is_releasable m.acts state ≡ gate.is_clear (map accepted_of held) waiting
clear_is ids m held state waiting distinct g are prefix waits =
    let n = length (entries state.before) in
    let done = committed m.acts in
    let whole : entries state.before ≡ filter (is_low n) (map entry_of m.placed) = entries_front state.before prefix.0 ∙ ap (filter (is_low n)) (sym (ap entries prefix.1) ∙ sym g.entries_are) in
    ap (λ (list : List Entry). list_all (λ seq. is_in seq done) (map (λ (entry : Entry). entry.seq) (filter (covers_entry state.lane) list))) whole
    ∙ (all_or_open done n state.lane m.placed g.marked
    ∙ ap not (sym (any_before ids state waiting (still m.placed) held distinct waits are ∙ any_filter (λ one. nat_lt one.entry.seq n && covers state.lane one.entry.content.id) (λ one. not (is_done one.place)) m.placed)))

-- The states of the machine, and those of the gate

rising_whole : (low high : List Line) (list : List LaneState) → Rising low high list → IsPrefix low high
rising_whole low high [] rises = rises
rising_whole low high (state ∷ more) rises = prefix_on low state.before high rises.0 (rising_whole state.before high more rises.1)

pub rising_fronts : (low high : List Line) (list : List LaneState) → Rising low high list → AllByRecursion (λ state. IsPrefix state.before high) list
rising_fronts low high [] rises = tt
rising_fronts low high (state ∷ more) rises = (rising_whole state.before high more rises.1, rising_fronts state.before high more rises.1)

-- the same state was found, or none
abbrev pub FoundAlike : List StreamId → Option LaneState → Option Waiting → Type 0
FoundAlike ids None None = Unit {0}
FoundAlike ids (Some state) (Some waiting) = IsWaiting ids state waiting
FoundAlike ids None (Some waiting) = ⊥
FoundAlike ids (Some state) None = ⊥

module _ (ids : List StreamId) (t : LaneState → Bool) (u : Waiting → Bool) (high : List Line) (alike : (state : LaneState) (waiting : Waiting) → IsPrefix state.before high → IsWaiting ids state waiting → t state ≡ u waiting) where
  pub found_alike : (states : List LaneState) (waiting : List Waiting) → AllByRecursion (λ state. IsPrefix state.before high) states → AreWaiting ids states waiting → FoundAlike ids (find t states) (find u waiting)
  found_alike [] [] fronts are = tt
  found_alike [] (other ∷ others) fronts are = absurd are
  found_alike (state ∷ more) [] fronts are = absurd are
  found_alike (state ∷ more) (other ∷ others) fronts are = at (cases_Bool (u other)) (found_alike more others fronts.1 are.1)
    where
      at : (u other ≡ true) ⊎ (u other ≡ false) → FoundAlike ids (find t more) (find u others) → FoundAlike ids (find t (state ∷ more)) (find u (other ∷ others))
      at (inl passes) deeper = rw (alike state other fronts.0 are.0, passes) are.0
      at (inr fails) deeper = rw (alike state other fronts.0 are.0, fails) deeper

  pub without_alike : (states : List LaneState) (waiting : List Waiting) → AllByRecursion (λ state. IsPrefix state.before high) states → AreWaiting ids states waiting → AreWaiting ids (without_first t states) (gate.without_first u waiting)
  without_alike [] [] fronts are = tt
  without_alike [] (other ∷ others) fronts are = absurd are
  without_alike (state ∷ more) [] fronts are = absurd are
  without_alike (state ∷ more) (other ∷ others) fronts are = at (cases_Bool (u other)) (without_alike more others fronts.1 are.1)
    where
      at : (u other ≡ true) ⊎ (u other ≡ false) → AreWaiting ids (without_first t more) (gate.without_first u others) → AreWaiting ids (without_first t (state ∷ more)) (gate.without_first u (other ∷ others))
      at (inl passes) deeper = rw (alike state other fronts.0 are.0, passes) are.1
      at (inr fails) deeper = rw (alike state other fronts.0 are.0, fails) (are.0, deeper)

pub waiting_push : (ids : List StreamId) (states : List LaneState) (waiting : List Waiting) (state : LaneState) (last : Waiting) → AreWaiting ids states waiting → IsWaiting ids state last → AreWaiting ids (states ++ state ∷ []) (waiting ++ last ∷ [])
waiting_push ids [] [] state last are is = (is, tt)
waiting_push ids [] (other ∷ others) state last are is = absurd are
waiting_push ids (first ∷ more) [] state last are is = absurd are
waiting_push ids (first ∷ more) (other ∷ others) state last are is = (are.0, waiting_push ids more others state last are.1 is)

-- one fewer where one was found
pub without_shorter : (u : Waiting → Bool) (waiting : List Waiting) (state : Waiting) → find u waiting ≡ Some state → length (gate.without_first u waiting) + 1 ≡ length waiting
without_shorter u [] state found = cc
without_shorter u (first ∷ more) state found = at (cases_Bool (u first)) (without_shorter u more state)
  where
    at : (u first ≡ true) ⊎ (u first ≡ false) → (find u more ≡ Some state → length (gate.without_first u more) + 1 ≡ length more) → length (gate.without_first u (first ∷ more)) + 1 ≡ length (first ∷ more)
    at (inl passes) deeper = rw passes (omega arith)
    at (inr fails) deeper = let rest = deeper (rw fails at found) in rw fails (omega (arith, rest))
