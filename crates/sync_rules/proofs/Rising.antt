-- The states that are taken of a lane rise.
use Rattle.std.proofs.Common.{arith, ◌≡◌, inl, inr, ℕ, suc, ◌<◌, ◌≤◌, List, [], ◌∷◌, ◌++◌, Bool, true, false, cond, Option, None, Some, refl, sym, ◌∙◌, ap, subst}
use Rattle.std.specs.Prelude.{length}
use Rattle.std.specs.List.{AllByRecursion}
use Rattle.std.proofs.lemmas.List.{append-nil, length-append}
use Rattle.outside.proofs.TableLaws.{id_own}
use Rattle.outside.specs.declared.event.Event.{Event}
use Rattle.outside.specs.declared.event.Event.TheVariants.{Opened, Took, TookEnd, Committed, Emitted, Merged, Shown, Started, ReadLine, ReadEnd, Given, Closed, Got, GotEnd, Saved, Ended}
use Rattle.airbyte_message.specs.Lanes.{Lane, one, all, lane_of}
use Rattle.airbyte_message.specs.Same.{Same}
use Rattle.airbyte_message.specs.State.{State}
use Rattle.load_rules.specs.Lines.{Line, Reading, line_read, state_in}
use Rattle.load_rules.specs.Taken.{LaneState, is_same_lane, of_lane, state_of, state_of_lane, states}
use Rattle.load_rules.specs.Attempts.{Waiting, none_given, with_given, TakesFirst, StateLeaves, LineLeaves, Leaves, LeavesAll}
use Rattle.sync_rules.specs.Laws.{TakenRise}

-- ---- what is taken is taken by one

waiting_is : (a b : Waiting) → a.given ≡ b.given → a.states ≡ b.states → a ≡ b
waiting_is a b given are =
    let first : record { given = a.given; states = a.states } ≡ record { given = b.given; states = a.states } = ap (λ list. record { given = list; states = a.states }) given in
    let then : record { given = b.given; states = a.states } ≡ record { given = b.given; states = b.states } = ap (λ list. record { given = b.given; states = list }) are in
    first ∙ then

heads : {A : Type 0} {x y : A} {xs ys : List A} → x ∷ xs ≡ y ∷ ys → x ≡ y
heads e = cc

tails : {A : Type 0} {x y : A} {xs ys : List A} → x ∷ xs ≡ y ∷ ys → xs ≡ ys
tails e = cc

-- the first same of a list is one, and so is what stands behind it
first_one : (got : State) (over other : List LaneState) (first second : LaneState) (rest left : List LaneState) → over ++ first ∷ rest ≡ other ++ second ∷ left
    → AllByRecursion (λ it. ¬ Same it.state got) over → AllByRecursion (λ it. ¬ Same it.state got) other → Same first.state got → Same second.state got → (first ≡ second) × (rest ≡ left)
first_one got [] [] first second rest left is apart others same so = (heads is, tails is)
first_one got [] (x ∷ other) first second rest left is apart others same so = absurd (others.0 (subst (λ (it : LaneState). Same it.state got) (heads is) same))
first_one got (x ∷ over) [] first second rest left is apart others same so = absurd (apart.0 (subst (λ (it : LaneState). Same it.state got) (sym (heads is)) so))
first_one got (x ∷ over) (y ∷ other) first second rest left is apart others same so = first_one got over other first second rest left (tails is) apart.1 others.1 same so

-- none of them is the same, yet one is
pub none_first : (got : State) (over : List LaneState) (first : LaneState) (rest : List LaneState) → AllByRecursion (λ it. ¬ Same it.state got) (over ++ first ∷ rest) → Same first.state got → ⊥
none_first got [] first rest apart same = apart.0 same
none_first got (x ∷ over) first rest apart same = none_first got over first rest apart.1 same

pub takes_one : (waiting : List LaneState) (got : State) (first second : LaneState) (rest left : List LaneState) → TakesFirst waiting got first rest → TakesFirst waiting got second left → (first ≡ second) × (rest ≡ left)
takes_one waiting got first second rest left takes other = first_one got takes.over other.over first second rest left (sym takes.splits ∙ other.splits) takes.others other.others takes.same other.same

state_leaves_one : (waiting : List LaneState) (got : State) (left other : List LaneState) → StateLeaves waiting got left → StateLeaves waiting got other → left ≡ other
state_leaves_one waiting got left other (inl none) (inl same) = none.1 ∙ sym same.1
state_leaves_one waiting got left other (inl none) (inr (first, takes)) = absurd (none_first got takes.over first other (subst (AllByRecursion (λ it. ¬ Same it.state got)) takes.splits none.0) takes.same)
state_leaves_one waiting got left other (inr (first, takes)) (inl none) = absurd (none_first got takes.over first left (subst (AllByRecursion (λ it. ¬ Same it.state got)) takes.splits none.0) takes.same)
state_leaves_one waiting got left other (inr (first, takes)) (inr (second, so)) = (takes_one waiting got first second left other takes so).1

line_leaves_one : (waiting list left other : List LaneState) → LineLeaves waiting list left → LineLeaves waiting list other → left ≡ other
line_leaves_one waiting [] left other leaves so = leaves ∙ sym so
line_leaves_one waiting (back ∷ more) left other (between, leaves, rest) (middle, also, last) =
    line_leaves_one between more left other rest (subst (λ list. LineLeaves list more other) (sym (state_leaves_one waiting back.state between middle leaves also)) last)

pub leaves_one : (read : Reading) (lane : Lane) (waiting : Waiting) (event : Event) (left other : Waiting) → Leaves read lane waiting event left → Leaves read lane waiting event other → left ≡ other
leaves_one read lane waiting (Opened x y z) left other leaves so = leaves ∙ sym so
leaves_one read lane waiting (Took x) left other leaves so = leaves ∙ sym so
leaves_one read lane waiting TookEnd left other leaves so = leaves ∙ sym so
leaves_one read lane waiting (Committed x y) left other leaves so = leaves ∙ sym so
leaves_one read lane waiting (Emitted x) left other leaves so = leaves ∙ sym so
leaves_one read lane waiting (Merged x y z) left other leaves so = leaves ∙ sym so
leaves_one read lane waiting (Shown x y z) left other leaves so = leaves ∙ sym so
leaves_one read lane waiting (Started x) left other leaves so = leaves ∙ sym so
leaves_one read lane waiting (ReadLine x) left other leaves so = leaves ∙ sym so
leaves_one read lane waiting ReadEnd left other leaves so = leaves ∙ sym so
leaves_one read lane waiting (Given x) left other leaves so = leaves ∙ sym so
leaves_one read lane waiting Closed left other leaves so = leaves ∙ sym so
leaves_one read lane waiting (Got x) left other leaves so = waiting_is left other (leaves.0 ∙ sym so.0) (line_leaves_one waiting.states (of_lane lane (states (line_read read x ∷ []))) left.states other.states leaves.1 so.1)
leaves_one read lane waiting GotEnd left other leaves so = leaves ∙ sym so
leaves_one read lane waiting (Saved x) left other leaves so = leaves ∙ sym so
leaves_one read lane waiting (Ended x) left other leaves so = leaves ∙ sym so

pub leaves_all_one : (read : Reading) (lane : Lane) (waiting : Waiting) (events : List Event) (left other : Waiting) → LeavesAll read lane waiting events left → LeavesAll read lane waiting events other → left ≡ other
leaves_all_one read lane waiting [] left other leaves so = leaves ∙ sym so
leaves_all_one read lane waiting (event ∷ events) left other (between, leaves, rest) (middle, also, last) =
    leaves_all_one read lane between events left other rest (subst (λ it. LeavesAll read lane it events other) (sym (leaves_one read lane waiting event between middle leaves also)) last)

pub record LeavesBoth (read : Reading) (lane : Lane) (waiting : Waiting) (events more : List Event) (left : Waiting) : Type 0 where
  pub between : Waiting
  pub first : LeavesAll read lane waiting events between
  pub then : LeavesAll read lane between more left

pub leaves_part : (read : Reading) (lane : Lane) (waiting : Waiting) (events more : List Event) (left : Waiting) → LeavesAll read lane waiting (events ++ more) left → LeavesBoth read lane waiting events more left
leaves_part read lane waiting [] more left leaves = record { between = waiting; first = refl; then = leaves }
leaves_part read lane waiting (event ∷ events) more left (between, leaves, rest) =
    let parted = leaves_part read lane between events more left rest in
    record { between = parted.between; first = (between, leaves, parted.first); then = parted.then }

-- ---- what waits rises

-- each state was given behind at least so many lines and behind the one before it, and all before so many
abbrev pub Rises : ℕ → List LaneState → ℕ → Type 0
Rises low [] high = low ≤ high
Rises low (state ∷ list) high = (low ≤ length state.before) × Rises (suc (length state.before)) list high

rises_within : (low : ℕ) (list : List LaneState) (high : ℕ) → Rises low list high → low ≤ high
rises_within low [] high rises = rises
rises_within low (state ∷ list) high rises = (let deeper = rises_within (suc (length state.before)) list high rises.1 in let first = rises.0 in omega (arith, deeper, first))

rises_lower : (low lower : ℕ) (list : List LaneState) (high : ℕ) → lower ≤ low → Rises low list high → Rises lower list high
rises_lower low lower [] high le rises = omega (arith, le, rises)
rises_lower low lower (state ∷ list) high le rises = ((let first = rises.0 in omega (arith, le, first)), rises.1)

rises_higher : (low : ℕ) (list : List LaneState) (high higher : ℕ) → high ≤ higher → Rises low list high → Rises low list higher
rises_higher low [] high higher le rises = omega (arith, le, rises)
rises_higher low (state ∷ list) high higher le rises = (rises.0, rises_higher (suc (length state.before)) list high higher le rises.1)

rises_more : (low : ℕ) (list : List LaneState) (state : LaneState) (high : ℕ) → length state.before ≡ high → Rises low list high → Rises low (list ++ state ∷ []) (suc high)
rises_more low [] state high is rises = ((omega (arith, is, rises)), (omega (arith, is)))
rises_more low (first ∷ list) state high is rises = (rises.0, rises_more (suc (length first.before)) list state high is rises.1)

rises_behind : (low : ℕ) (over : List LaneState) (first : LaneState) (rest : List LaneState) (high : ℕ) → Rises low (over ++ first ∷ rest) high → Rises (suc (length first.before)) rest high
rises_behind low [] first rest high rises = rises.1
rises_behind low (x ∷ over) first rest high rises = rises_behind (suc (length x.before)) over first rest high rises.1

rises_at : (low : ℕ) (over : List LaneState) (first : LaneState) (rest : List LaneState) (high : ℕ) → Rises low (over ++ first ∷ rest) high → low ≤ length first.before
rises_at low [] first rest high rises = rises.0
rises_at low (x ∷ over) first rest high rises = (let deeper = rises_at (suc (length x.before)) over first rest high rises.1 in let at = rises.0 in omega (arith, deeper, at))

abbrev pub WaitsFrom : ℕ → Waiting → Type 0
WaitsFrom low waiting = Rises low waiting.states (length waiting.given)

given_long : (lines : List Line) (line : Line) → length (lines ++ line ∷ []) ≡ suc (length lines)
given_long lines line = (let long = length-append lines (line ∷ []) in omega (arith, long))

more_states : (lane : Lane) (low : ℕ) (list : List LaneState) (before : List Line) (found : List LaneState) → AllByRecursion (λ state. length state.before ≡ length before) found → length found ≤ 1 → Rises low list (length before) → Rises low (list ++ of_lane lane found) (suc (length before))
more_states lane low list before [] are few rises = subst (λ it. Rises low it (suc (length before))) (sym (append-nil list)) (rises_higher low list (length before) (suc (length before)) (omega arith) rises)
more_states lane low list before (state ∷ found) are few rises = at (is_same_lane lane state.lane) refl found few
  where
    at : (b : Bool) → is_same_lane lane state.lane ≡ b → (found : List LaneState) → length (state ∷ found) ≤ 1 → Rises low (list ++ of_lane lane (state ∷ found)) (suc (length before))
    at b is (other ∷ found) few = absurd (omega (arith, few))
    at true is [] few = subst (λ it. Rises low (list ++ it) (suc (length before))) (sym (ap (λ b. cond b (state ∷ []) []) is)) (rises_more low list state (length before) are.0 rises)
    at false is [] few = subst (λ it. Rises low (list ++ it) (suc (length before))) (sym (ap (λ b. cond b (state ∷ []) []) is)) (subst (λ it. Rises low it (suc (length before))) (sym (append-nil list)) (rises_higher low list (length before) (suc (length before)) (omega arith) rises))

lane_states_are : (before : List Line) (state : State) (lane : Option Lane) → AllByRecursion (λ (it : LaneState). length it.before ≡ length before) (state_of_lane before state lane) × (length (state_of_lane before state lane) ≤ 1)
lane_states_are before state None = (tt, omega arith)
lane_states_are before state (Some lane) = ((refl, tt), omega arith)

states_are : (before : List Line) (found : Option State) → AllByRecursion (λ (it : LaneState). length it.before ≡ length before) (state_of before found) × (length (state_of before found) ≤ 1)
states_are before None = (tt, omega arith)
states_are before (Some state) = lane_states_are before state (lane_of state.kind)

state_leaves_from : (low : ℕ) (waiting : List LaneState) (got : State) (left : List LaneState) (high : ℕ) → StateLeaves waiting got left → Rises low waiting high → Rises low left high
state_leaves_from low waiting got left high (inl none) rises = subst (λ list. Rises low list high) (sym none.1) rises
state_leaves_from low waiting got left high (inr (first, takes)) rises =
    let whole = subst (λ list. Rises low list high) takes.splits rises in
    let at = rises_at low takes.over first left high whole in
    rises_lower (suc (length first.before)) low left high (omega (arith, at)) (rises_behind low takes.over first left high whole)

line_leaves_from : (low : ℕ) (waiting list left : List LaneState) (high : ℕ) → LineLeaves waiting list left → Rises low waiting high → Rises low left high
line_leaves_from low waiting [] left high leaves rises = subst (λ it. Rises low it high) (sym leaves) rises
line_leaves_from low waiting (back ∷ more) left high (between, leaves, rest) rises = line_leaves_from low between more left high rest (state_leaves_from low waiting back.state between high leaves rises)

given_from : (lane : Lane) (low : ℕ) (waiting : Waiting) (line : Line) → WaitsFrom low waiting → WaitsFrom low (with_given lane line waiting)
given_from lane low waiting line rises =
    let are = states_are waiting.given (state_in line.found) in
    subst (λ high. Rises low (waiting.states ++ of_lane lane (state_of waiting.given (state_in line.found))) high) (sym (given_long waiting.given line))
    (more_states lane low waiting.states waiting.given (state_of waiting.given (state_in line.found)) are.0 are.1 rises)

leaves_from : (read : Reading) (lane : Lane) (low : ℕ) (waiting : Waiting) (event : Event) (left : Waiting) → Leaves read lane waiting event left → WaitsFrom low waiting → WaitsFrom low left
leaves_from read lane low waiting (Opened x y z) left leaves rises = subst (WaitsFrom low) (sym leaves) rises
leaves_from read lane low waiting (Took x) left leaves rises = subst (WaitsFrom low) (sym leaves) rises
leaves_from read lane low waiting TookEnd left leaves rises = subst (WaitsFrom low) (sym leaves) rises
leaves_from read lane low waiting (Committed x y) left leaves rises = subst (WaitsFrom low) (sym leaves) rises
leaves_from read lane low waiting (Emitted x) left leaves rises = subst (WaitsFrom low) (sym leaves) rises
leaves_from read lane low waiting (Merged x y z) left leaves rises = subst (WaitsFrom low) (sym leaves) rises
leaves_from read lane low waiting (Shown x y z) left leaves rises = subst (WaitsFrom low) (sym leaves) rises
leaves_from read lane low waiting (Started x) left leaves rises = subst (WaitsFrom low) (sym leaves) rises
leaves_from read lane low waiting (ReadLine x) left leaves rises = subst (WaitsFrom low) (sym leaves) rises
leaves_from read lane low waiting ReadEnd left leaves rises = subst (WaitsFrom low) (sym leaves) rises
leaves_from read lane low waiting (Given x) left leaves rises = subst (WaitsFrom low) (sym leaves) (given_from lane low waiting (line_read read x) rises)
leaves_from read lane low waiting Closed left leaves rises = subst (WaitsFrom low) (sym leaves) rises
leaves_from read lane low waiting (Got x) left leaves rises = subst (λ it. Rises low left.states (length it)) (sym leaves.0) (line_leaves_from low waiting.states (of_lane lane (states (line_read read x ∷ []))) left.states (length waiting.given) leaves.1 rises)
leaves_from read lane low waiting GotEnd left leaves rises = subst (WaitsFrom low) (sym leaves) rises
leaves_from read lane low waiting (Saved x) left leaves rises = subst (WaitsFrom low) (sym leaves) rises
leaves_from read lane low waiting (Ended x) left leaves rises = subst (WaitsFrom low) (sym leaves) rises

leaves_all_from : (read : Reading) (lane : Lane) (low : ℕ) (waiting : Waiting) (events : List Event) (left : Waiting) → LeavesAll read lane waiting events left → WaitsFrom low waiting → WaitsFrom low left
leaves_all_from read lane low waiting [] left leaves rises = subst (WaitsFrom low) (sym leaves) rises
leaves_all_from read lane low waiting (event ∷ events) left (between, leaves, rest) rises = leaves_all_from read lane low between events left rest (leaves_from read lane low waiting event between leaves rises)

-- ---- two that are taken

same_lane_itself : (lane : Lane) → is_same_lane lane lane ≡ true
same_lane_itself (one id) = id_own id
same_lane_itself all = refl

-- behind the line that takes this one only later ones wait
behind_taken : (waiting : List LaneState) (lane : Lane) (back first : LaneState) (rest left : List LaneState) (high : ℕ) → is_same_lane lane back.lane ≡ true → TakesFirst waiting back.state first rest → LineLeaves waiting (of_lane lane (back ∷ [])) left → Rises 0 waiting high → Rises (suc (length first.before)) left high
behind_taken waiting lane back first rest left high own takes leaves rises =
    let here = subst (λ b. LineLeaves waiting (cond b (back ∷ []) []) left) own leaves in
    subst (λ list. Rises (suc (length first.before)) list high) (sym (here.2 ∙ is here.0 here.1))
    (rises_behind 0 takes.over first rest high (subst (λ list. Rises 0 list high) takes.splits rises))
  where
    is : (between : List LaneState) → StateLeaves waiting back.state between → between ≡ rest
    is between leaves = state_leaves_one waiting back.state between rest leaves (inr (first, takes))

pub taken_rise : TakenRise
taken_rise read before more text back other first second are same takes later =
    let parted = leaves_part read back.lane none_given before (Got text ∷ more) later.waiting (subst (λ lane. LeavesAll read lane none_given (before ++ Got text ∷ more) later.waiting) same later.waits) in
    let is = leaves_all_one read back.lane none_given before takes.waiting parted.between takes.waits parted.first in
    let then = subst (λ it. LeavesAll read back.lane it (Got text ∷ more) later.waiting) (sym is) parted.then in
    at then.0 then.1 then.2
  where
    from_none : WaitsFrom 0 takes.waiting
    from_none = leaves_all_from read back.lane 0 none_given before takes.waiting takes.waits (omega arith)

    at : (next : Waiting) → Leaves read back.lane takes.waiting (Got text) next → LeavesAll read back.lane next more later.waiting → length first.before < length second.before
    at next leaves rest =
        let behind = behind_taken takes.waiting.states back.lane back first takes.rest next.states (length takes.waiting.given) (same_lane_itself back.lane) takes.takes (subst (λ list. LineLeaves takes.waiting.states (of_lane back.lane list) next.states) are leaves.1) from_none in
        let from = leaves_all_from read back.lane (suc (length first.before)) next more later.waiting rest (subst (λ it. Rises (suc (length first.before)) next.states (length it)) (sym leaves.0) behind) in
        let low = rises_at (suc (length first.before)) later.takes.over second later.rest (length later.waiting.given) (subst (λ list. Rises (suc (length first.before)) list (length later.waiting.given)) later.takes.splits from) in
        omega (arith, low)
