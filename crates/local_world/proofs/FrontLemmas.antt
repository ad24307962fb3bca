-- What is known of started states and of what is left, line by line.
use Rattle.std.proofs.Common.{◌≡◌, inl, inr, ℕ, suc, ◌+◌, ◌<◌, ◌≤◌, List, [], ◌∷◌, ◌++◌, map, length, Option, None, Some, Bool, true, false, cond, ◌||◌, ◌&&◌, refl, sym, ◌∙◌, ap, subst, arith, replicate, nat_lt, length-append, append_assoc}
use Rattle.std.specs.Prelude.{IsSomeAnd}
use Rattle.std.specs.List.{AllByRecursion, AllZip, Any}
use Rattle.std.proofs.lemmas.Bool.{le-ltb, lt-ltb}
use Rattle.std.proofs.lemmas.List.{append-nil, map-append}
use Rattle.airbyte_message.specs.Lanes.{Lane, one, all, lane_of}
use Rattle.airbyte_message.specs.Same.{IsSameKind, Same}
use Rattle.airbyte_message.specs.State.{State}
use Rattle.airbyte_message.specs.declared.message.Message.{Message}
use Rattle.airbyte_message.specs.declared.message.StateKind.{StateKind}
use Rattle.airbyte_message.specs.declared.message.StateKind.TheVariants as kind
use Rattle.load_rules.specs.Lines.{Line, state_in}
use Rattle.load_rules.proofs.TakenLists.{all_append}
use Rattle.local_world.specs.Starts.{AreStarts, Holds, IsNowhere, ReachTo, Start}
use Rattle.local_world.specs.Left.{is_left_out, is_of, left_behind, left_from}
use Rattle.local_world.specs.Awaited.{AllCome, Awaited, Comes, HasCome, IsStartFrom, Passes, Stands, StartFrom, count_missing, is_awaited, is_of_lane, is_of_state}

-- ---- no line

none_come : (states : List State) → AllZip (HasCome []) states (replicate (length states) None)
none_come [] = tt
none_come (state ∷ states) = (tt, none_come states)

pub stands_first : (states : List State) (awaited : Awaited) → awaited ≡ record { states = states; reached = replicate (length states) None } → Stands [] awaited []
stands_first states awaited is = subst (λ (a : Awaited). Stands [] a []) (sym is) (record { come = none_come states; left_is = λ starts from. refl })

-- ---- one line more: which states have come

reach_more : (lines more : List Line) (state : State) (count : ℕ) → ReachTo lines state count → ReachTo (lines ++ more) state count
reach_more lines more state count reach = record {
  before = reach.before;
  line = reach.line;
  behind = reach.behind ++ more;
  splits = ap (λ (ls : List Line). ls ++ more) reach.splits ∙ append_assoc reach.before (reach.line ∷ reach.behind) more;
  none = reach.none;
  holds = reach.holds;
  counts = reach.counts;
}

one_come : (lines : List Line) (line : Line) (state : State) (o now : Option ℕ) → HasCome lines state o → Comes (length lines) line.found state o now → HasCome (lines ++ line ∷ []) state now
one_come lines line state (Some count) now come comes =
    subst (λ (x : Option ℕ). HasCome (lines ++ line ∷ []) state x) (sym comes) (reach_more lines (line ∷ []) state count come)
one_come lines line state None now come (inl held) =
    subst (λ (x : Option ℕ). HasCome (lines ++ line ∷ []) state x) (sym held.1)
    (record { before = lines; line = line; behind = []; splits = refl; none = come; holds = held.0; counts = refl })
one_come lines line state None now come (inr other) =
    subst (λ (x : Option ℕ). HasCome (lines ++ line ∷ []) state x) (sym other.1)
    (all_append (λ (l : Line). ¬ Holds state l.found) lines (line ∷ []) come (other.0, tt))

come_more : (lines : List Line) (line : Line) (states : List State) (reached later : List (Option ℕ)) → AllZip (HasCome lines) states reached → AllCome (length lines) line.found states reached later → AllZip (HasCome (lines ++ line ∷ [])) states later
come_more lines line [] [] [] come comes = tt
come_more lines line [] [] (now ∷ later) come comes = absurd comes
come_more lines line [] (o ∷ reached) later come comes = absurd come
come_more lines line (state ∷ states) [] later come comes = absurd come
come_more lines line (state ∷ states) (o ∷ reached) [] come comes = absurd comes
come_more lines line (state ∷ states) (o ∷ reached) (now ∷ later) come comes =
    (one_come lines line state o now come.0 comes.0, come_more lines line states reached later come.1 comes.1)

-- ---- one line more: what is left

reach_low : (lines : List Line) (state : State) (count : ℕ) → ReachTo lines state count → count ≤ length lines
reach_low lines state count reach =
    let size : length lines ≡ length reach.before + length (reach.line ∷ reach.behind) = ap length reach.splits ∙ length-append reach.before (reach.line ∷ reach.behind) in
    let counts = reach.counts in
    omega (arith, size, counts)

one_from : (lines : List Line) (found : Option Message) (state : State) (o now : Option ℕ) (behind : ℕ) → Comes (length lines) found state o now → IsStartFrom (length lines + 1) now behind → IsStartFrom (length lines) o behind
one_from lines found state (Some count) now behind comes from = subst (λ (x : Option ℕ). IsStartFrom (length lines + 1) x behind) comes from
one_from lines found state None now behind (inl held) from =
    let e : behind ≡ length lines + 1 = subst (λ (x : Option ℕ). IsStartFrom (length lines + 1) x behind) held.1 from in omega (arith, e)
one_from lines found state None now behind (inr other) from =
    let le : length lines + 1 ≤ behind = subst (λ (x : Option ℕ). IsStartFrom (length lines + 1) x behind) other.1 from in omega (arith, le)

-- a state that has come leaves the line as it is
test_came : (lines : List Line) (state : State) (count behind : ℕ) (b : Bool) → ReachTo lines state count → behind ≡ count → (nat_lt (length lines) behind && b) ≡ false
test_came lines state count behind b reach is =
    let low = reach_low lines state count reach in
    ap (λ (x : Bool). x && b) (le-ltb (length lines) behind (omega (arith, low, is)))

test_awaits : (number behind : ℕ) (b : Bool) → number < behind → (nat_lt number behind && b) ≡ b
test_awaits number behind b lt = ap (λ (x : Bool). x && b) (lt-ltb number behind lt)

late : (lines : List Line) (found : Option Message) (state : State) (now : Option ℕ) (behind : ℕ) → Comes (length lines) found state None now → IsStartFrom (length lines + 1) now behind → length lines < behind
late lines found state now behind (inl held) from =
    let e : behind ≡ length lines + 1 = subst (λ (x : Option ℕ). IsStartFrom (length lines + 1) x behind) held.1 from in omega (arith, e)
late lines found state now behind (inr other) from =
    let le : length lines + 1 ≤ behind = subst (λ (x : Option ℕ). IsStartFrom (length lines + 1) x behind) other.1 from in omega (arith, le)

from_back : (lines : List Line) (line : Line) (states : List State) (reached later : List (Option ℕ)) (starts : List Start) → AllCome (length lines) line.found states reached later → StartFrom (length lines + 1) states later starts → StartFrom (length lines) states reached starts
from_back lines line [] [] [] [] comes from = tt
from_back lines line [] [] [] (start ∷ starts) comes from = absurd from
from_back lines line [] [] (now ∷ later) starts comes from = absurd comes
from_back lines line [] (o ∷ reached) [] starts comes from = absurd comes
from_back lines line [] (o ∷ reached) (now ∷ later) starts comes from = absurd comes
from_back lines line (state ∷ states) [] [] starts comes from = absurd comes
from_back lines line (state ∷ states) [] (now ∷ later) starts comes from = absurd comes
from_back lines line (state ∷ states) (o ∷ reached) [] starts comes from = absurd comes
from_back lines line (state ∷ states) (o ∷ reached) (now ∷ later) [] comes from = absurd from
from_back lines line (state ∷ states) (o ∷ reached) (now ∷ later) (start ∷ starts) comes from =
    (from.0, one_from lines line.found state o now start.behind comes.0 from.1, from_back lines line states reached later starts comes.1 from.2)

out_is : (lines : List Line) (line : Line) (states : List State) (reached later : List (Option ℕ)) (starts : List Start) → AllZip (HasCome lines) states reached → AllCome (length lines) line.found states reached later → StartFrom (length lines + 1) states later starts → is_left_out starts (length lines) line ≡ is_awaited (is_of_state line.found) states reached
out_is lines line [] [] [] [] come comes from = refl
out_is lines line [] [] [] (start ∷ starts) come comes from = absurd from
out_is lines line [] [] (now ∷ later) starts come comes from = absurd comes
out_is lines line [] (o ∷ reached) later starts come comes from = absurd come
out_is lines line (state ∷ states) [] later starts come comes from = absurd come
out_is lines line (state ∷ states) (o ∷ reached) [] starts come comes from = absurd comes
out_is lines line (state ∷ states) (o ∷ reached) (now ∷ later) [] come comes from = absurd from
out_is lines line (state ∷ states) (Some count ∷ reached) (now ∷ later) (start ∷ starts) come comes from =
    let is : start.behind ≡ count = subst (λ (x : Option ℕ). IsStartFrom (length lines + 1) x start.behind) comes.0 from.1 in
    ap (λ (b : Bool). b || is_left_out starts (length lines) line) (test_came lines state count start.behind (is_of start.lane line.found) come.0 is)
    ∙ out_is lines line states reached later starts come.1 comes.1 from.2
out_is lines line (state ∷ states) (None ∷ reached) (now ∷ later) (start ∷ starts) come comes from =
    let lane : is_of start.lane line.found ≡ is_of_state line.found state = sym (ap (λ (o : Option Lane). is_of_lane line.found o) from.0) in
    ap (λ (b : Bool). b || is_left_out starts (length lines) line) (test_awaits (length lines) start.behind (is_of start.lane line.found) (late lines line.found state now start.behind comes.0 from.1) ∙ lane)
    ∙ ap (λ (b : Bool). is_of_state line.found state || b) (out_is lines line states reached later starts come.1 comes.1 from.2)

pub left_from-append : (starts : List Start) (number : ℕ) (xs ys : List Line) → left_from starts number (xs ++ ys) ≡ left_from starts number xs ++ left_from starts (number + length xs) ys
left_from-append starts number [] ys = let e : number ≡ number + 0 = omega arith in ap (λ (n : ℕ). left_from starts n ys) e
left_from-append starts number (x ∷ xs) ys =
    let e : number + 1 + length xs ≡ number + suc (length xs) = omega arith in
    let next : left_from starts (number + 1) (xs ++ ys) ≡ left_from starts (number + 1) xs ++ left_from starts (number + suc (length xs)) ys = left_from-append starts (number + 1) xs ys ∙ ap (λ (n : ℕ). left_from starts (number + 1) xs ++ left_from starts n ys) e in
    at (is_left_out starts number x) next
  where
    at : (b : Bool) → left_from starts (number + 1) (xs ++ ys) ≡ left_from starts (number + 1) xs ++ left_from starts (number + suc (length xs)) ys → cond b (left_from starts (number + 1) (xs ++ ys)) (x ∷ left_from starts (number + 1) (xs ++ ys)) ≡ cond b (left_from starts (number + 1) xs) (x ∷ left_from starts (number + 1) xs) ++ left_from starts (number + suc (length xs)) ys
    at true next = next
    at false next = ap (λ (ls : List Line). x ∷ ls) next

-- what is left of lines and one more
one_more : (starts : List Start) (lines : List Line) (line : Line) (is_out : Bool) (left : List (List ℕ)) → is_left_out starts (length lines) line ≡ is_out → left ≡ map (λ l. l.text) (left_behind starts lines) → cond is_out left (left ++ line.text ∷ []) ≡ map (λ l. l.text) (left_behind starts (lines ++ line ∷ []))
one_more starts lines line is_out left out is = at is_out out
  where
    whole : left_behind starts (lines ++ line ∷ []) ≡ left_from starts 0 lines ++ cond (is_left_out starts (length lines) line) [] (line ∷ [])
    whole = let e : 0 + length lines ≡ length lines = omega arith in left_from-append starts 0 lines (line ∷ []) ∙ ap (λ (n : ℕ). left_from starts 0 lines ++ left_from starts n (line ∷ [])) e

    at : (b : Bool) → is_left_out starts (length lines) line ≡ b → cond b left (left ++ line.text ∷ []) ≡ map (λ l. l.text) (left_behind starts (lines ++ line ∷ []))
    at true e = is ∙ sym (ap (λ (ls : List Line). map (λ l. l.text) ls) (whole ∙ (ap (λ (b : Bool). left_from starts 0 lines ++ cond b [] (line ∷ [])) e ∙ append-nil (left_from starts 0 lines))))
    at false e = ap (λ (ts : List (List ℕ)). ts ++ line.text ∷ []) is ∙ sym (ap (λ (ls : List Line). map (λ l. l.text) ls) (whole ∙ ap (λ (b : Bool). left_from starts 0 lines ++ cond b [] (line ∷ [])) e) ∙ map-append (λ (l : Line). l.text) (left_from starts 0 lines) (line ∷ []))

pub stands_more : (lines : List Line) (line : Line) (old now : Awaited) (left : List (List ℕ)) (is_out : Bool) → Stands lines old left → Passes (length lines) line.found old now is_out → Stands (lines ++ line ∷ []) now (cond is_out left (left ++ line.text ∷ []))
stands_more lines line old now left is_out stands passes =
    let size : length (lines ++ line ∷ []) ≡ length lines + 1 = length-append lines (line ∷ []) in
    record {
      come = subst (λ (ss : List State). AllZip (HasCome (lines ++ line ∷ [])) ss now.reached) (sym passes.states) (come_more lines line old.states old.reached now.reached stands.come passes.come);
      left_is = λ starts from.
          let later : StartFrom (length lines + 1) old.states now.reached starts = subst (λ (ss : List State). StartFrom (length lines + 1) ss now.reached starts) passes.states (subst (λ (n : ℕ). StartFrom n now.states now.reached starts) size from) in
          one_more starts lines line is_out left (out_is lines line old.states old.reached now.reached starts stands.come passes.come later ∙ sym passes.out)
          (stands.left_is starts (from_back lines line old.states old.reached now.reached starts passes.come later));
    }

-- ---- all have come

held_lane : (own k : StateKind) → IsSameKind own k → (lane : Lane) × (lane_of k ≡ Some lane)
held_lane (kind.Stream id blob) (kind.Stream other other_blob) same = (one other, refl)
held_lane (kind.Stream id blob) (kind.Global shared streams) same = absurd same
held_lane (kind.Stream id blob) kind.Legacy same = absurd same
held_lane (kind.Global shared streams) (kind.Stream id blob) same = absurd same
held_lane (kind.Global shared streams) (kind.Global other others) same = (all, refl)
held_lane (kind.Global shared streams) kind.Legacy same = absurd same
held_lane kind.Legacy k same = absurd same

lane_held : (state : State) (found : Option State) → IsSomeAnd found (λ own. Same own state) → (lane : Lane) × (lane_of state.kind ≡ Some lane)
lane_held state None holds = absurd holds
lane_held state (Some own) holds = held_lane own.kind state.kind holds

pub record HaveCome (lines rest : List Line) (states : List State) (reached : List (Option ℕ)) : Type 0 where
  pub starts : List Start
  pub are : AreStarts (lines ++ rest) states starts
  pub from : StartFrom (length lines) states reached starts
  pub low : AllByRecursion (λ start. start.behind ≤ length lines) starts

pub have_come : (lines rest : List Line) (states : List State) (reached : List (Option ℕ)) → AllZip (HasCome lines) states reached → count_missing reached ≡ 0 → HaveCome lines rest states reached
have_come lines rest [] [] come none = record { starts = []; are = tt; from = tt; low = tt }
have_come lines rest [] (o ∷ reached) come none = absurd come
have_come lines rest (state ∷ states) [] come none = absurd come
have_come lines rest (state ∷ states) (None ∷ reached) come none = absurd (omega (arith, none))
have_come lines rest (state ∷ states) (Some count ∷ reached) come none =
    let more = have_come lines rest states reached come.1 (omega (arith, none)) in
    let lane = lane_held state (state_in come.0.line.found) come.0.holds in
    record {
      starts = record { lane = lane.0; behind = count } ∷ more.starts;
      are = (record { lane = lane.1; reach = reach_more lines rest state count come.0 }, more.are);
      from = (lane.1, refl, more.from);
      low = (reach_low lines state count come.0, more.low);
    }

not_out : (starts : List Start) (number : ℕ) (line : Line) → AllByRecursion (λ start. start.behind ≤ number) starts → is_left_out starts number line ≡ false
not_out [] number line low = refl
not_out (start ∷ starts) number line low =
    ap (λ (b : Bool). (b && is_of start.lane line.found) || is_left_out starts number line) (le-ltb number start.behind low.0) ∙ not_out starts number line low.1

low_more : (starts : List Start) (number : ℕ) → AllByRecursion (λ start. start.behind ≤ number) starts → AllByRecursion (λ start. start.behind ≤ number + 1) starts
low_more [] number low = tt
low_more (start ∷ starts) number low = (let le = low.0 in omega (arith, le), low_more starts number low.1)

-- behind all starts every line is left
pub rest_left : (starts : List Start) (number : ℕ) (lines : List Line) → AllByRecursion (λ start. start.behind ≤ number) starts → left_from starts number lines ≡ lines
rest_left starts number [] low = refl
rest_left starts number (line ∷ lines) low =
    ap (λ (b : Bool). cond b (left_from starts (number + 1) lines) (line ∷ left_from starts (number + 1) lines)) (not_out starts number line low)
    ∙ ap (λ (ls : List Line). line ∷ ls) (rest_left starts (number + 1) lines (low_more starts number low))

pub all_left : (starts : List Start) (lines rest : List Line) → AllByRecursion (λ start. start.behind ≤ length lines) starts → left_behind starts (lines ++ rest) ≡ left_behind starts lines ++ rest
all_left starts lines rest low =
    let e : 0 + length lines ≡ length lines = omega arith in
    left_from-append starts 0 lines rest ∙ (ap (λ (n : ℕ). left_from starts 0 lines ++ left_from starts n rest) e ∙ ap (λ (ls : List Line). left_from starts 0 lines ++ ls) (rest_left starts (length lines) rest low))

-- ---- one has not come

pub one_lacks : (lines : List Line) (states : List State) (reached : List (Option ℕ)) → AllZip (HasCome lines) states reached → 0 < count_missing reached → Any (IsNowhere lines) states
one_lacks lines [] [] come some = absurd (omega (arith, some))
one_lacks lines [] (o ∷ reached) come some = absurd come
one_lacks lines (state ∷ states) [] come some = absurd come
one_lacks lines (state ∷ states) (None ∷ reached) come some = (0, state, omega arith, refl, come.0)
one_lacks lines (state ∷ states) (Some count ∷ reached) come some =
    let r = one_lacks lines states reached come.1 (omega (arith, some)) in
    (suc r.0, r.1, (let lt = r.2 in omega (arith, lt)), r.3, r.4)
