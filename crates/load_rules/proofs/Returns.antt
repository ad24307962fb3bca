-- What the states that come back take.
use Rattle.std.proofs.Common.{arith, ◌≡◌, ◌≢◌, ◌⊎◌, inl, inr, ℕ, ◌+◌, ◌<◌, ◌≤◌, ◌^◌, List, [], ◌∷◌, ◌++◌, length, Option, None, Some, Bool, true, false, cond, refl, sym, ◌∙◌, ap, subst, append_assoc, length-append}
use Rattle.std.specs.Prelude.{fold}
use Rattle.std.specs.List.{AllByRecursion}
use Rattle.std.proofs.lemmas.List.{append-nil}
use Rattle.std.proofs.lemmas.List.Elements.{filter-append}
use Rattle.std.proofs.lemmas.Bool.{cases_Bool}
use Rattle.outside.specs.declared.event.Event.{Event}
use Rattle.outside.specs.declared.event.Event.TheVariants.{Opened, Took, TookEnd, Committed, Emitted, Merged, Shown, Started, ReadLine, ReadEnd, Given, Closed, Got, GotEnd, Saved, Ended}
use Rattle.json_fields.specs.Answer.{IsAnswer}
use Rattle.airbyte_message.specs.Lanes.{Lane, lane_of}
use Rattle.airbyte_message.specs.Echo.{IsEcho}
use Rattle.airbyte_message.specs.Messages.{IsMessage, IsPayload}
use Rattle.airbyte_message.specs.Same.{Same}
use Rattle.airbyte_message.specs.State.{State}
use Rattle.airbyte_message.specs.States.{IsState}
use Rattle.airbyte_message.specs.declared.message.Message.{Message}
use Rattle.airbyte_message.specs.declared.message.Message.TheVariants as message
use Rattle.airbyte_message.specs.declared.message.RecordMsg.{RecordMsg}
use Rattle.airbyte_message.specs.declared.message.StateKind.TheVariants as kind
use Rattle.airbyte_message.specs.declared.read.MessageType.{MessageType}
use Rattle.airbyte_message.specs.declared.read.MessageType.TheVariants as types
use Rattle.airbyte_message.proofs.EchoBack.{echo_back}
use Rattle.load_rules.specs.Prefixes.{IsPrefix}
use Rattle.airbyte_message.specs.EchoReads.{ReadsAsEcho}
use Rattle.load_rules.specs.Lines.{Line, Reading, line_read, lines_read, ReadsText, record_in, state_in}
use Rattle.load_rules.specs.Taken.{LaneState, state_of, state_of_lane, states, states_behind, of_lane, is_same_lane, count_of, counts_record, counts_state, covers, is_of_lane}
use Rattle.load_rules.specs.Attempts.{Waiting, none_given, with_given, TakesFirst, StateLeaves, LineLeaves, LeavesAll, gives, gots}
use Rattle.load_rules.proofs.TakenLists.{states-append, all_append}
use Rattle.load_rules.proofs.Machines.{states-one}
use Rattle.load_rules.proofs.Pipes.{AreEchoes}

-- States that were read right

pub record IsEchoable (state : LaneState) : Type 0 where
  pub right : IsState state.state.object state.state
  pub has : lane_of state.state.kind ≡ Some state.lane
  pub high : length state.before < 2 ^ 64

payload_state : (type : MessageType) (payload : List ℕ) (state : State) → IsPayload type payload (message.State state) → IsState payload state
payload_state types.State payload state told = told
payload_state types.Rec payload state told = absurd told
payload_state types.Log payload state told = absurd told
payload_state types.Spec payload state told = absurd told
payload_state types.Connection payload state told = absurd told
payload_state types.Catalog payload state told = absurd told
payload_state types.Trace payload state told = absurd told
payload_state types.Control payload state told = absurd told

right_lane : (before : List Line) (state : State) (lane : Option Lane) → lane_of state.kind ≡ lane → length before < 2 ^ 64 → IsState state.object state → AllByRecursion IsEchoable (state_of_lane before state lane)
right_lane before state None has high right = tt
right_lane before state (Some lane) has high right = (record { right = right; has = has; high = high }, tt)

right_state : (text : List ℕ) (before : List Line) (found : Option Message) → length before < 2 ^ 64 → IsAnswer (IsMessage text) found → AllByRecursion IsEchoable (state_of before (state_in found))
right_state text before None high answer = tt
right_state text before (Some (message.State state)) high answer =
    let told = payload_state answer.is.type answer.is.payload state answer.is.told
    in right_lane before state (lane_of state.kind) refl high (subst (λ object. IsState object state) (sym told.object) told)
right_state text before (Some (message.Rec x)) high answer = tt
right_state text before (Some (message.Log x)) high answer = tt
right_state text before (Some (message.Spec x)) high answer = tt
right_state text before (Some (message.Connection x)) high answer = tt
right_state text before (Some (message.Catalog x)) high answer = tt
right_state text before (Some (message.Trace x)) high answer = tt
right_state text before (Some (message.Control x)) high answer = tt

pub right_states : (read : Reading) (before : List Line) (texts : List (List ℕ)) → length before + length texts < 2 ^ 64 → AllByRecursion (ReadsText read) texts → AllByRecursion IsEchoable (states_behind before (lines_read read texts))
right_states read before [] high all = tt
right_states read before (text ∷ texts) high all =
    let long = length-append before (line_read read text ∷ [])
    in all_append IsEchoable (state_of before (state_in (read text))) (states_behind (before ++ line_read read text ∷ []) (lines_read read texts)) (right_state text before (read text) (omega (arith, high)) all.0) (right_states read (before ++ line_read read text ∷ []) texts (omega (arith, high, long)) all.1)

record_low : (lane : Lane) (count : ℕ) (found : Option RecordMsg) → counts_record lane count found ≤ count + 1
record_low lane count None = omega arith
record_low lane count (Some content) = at (covers lane content.id)
  where
    at : (b : Bool) → cond b (count + 1) count ≤ count + 1
    at true = omega arith
    at false = omega arith

state_low : (lane : Lane) (count : ℕ) (found : Option State) → counts_state lane count found ≤ count
state_low lane count None = omega arith
state_low lane count (Some state) = at (is_of_lane lane (lane_of state.kind))
  where
    at : (b : Bool) → cond b 0 count ≤ count
    at true = omega arith
    at false = omega arith

since_low : (lane : Lane) (count : ℕ) (lines : List Line) → fold (λ n line. counts_state lane (counts_record lane n (record_in line.found)) (state_in line.found)) count lines ≤ count + length lines
since_low lane count [] = omega arith
since_low lane count (line ∷ lines) =
    let rest = since_low lane (counts_state lane (counts_record lane count (record_in line.found)) (state_in line.found)) lines
    in let one_more = record_low lane count (record_in line.found)
    in let kept = state_low lane (counts_record lane count (record_in line.found)) (state_in line.found)
    in omega (arith, rest, one_more, kept)

-- A state that came back

pub record Returned (read : Reading) (state : LaneState) (text : List ℕ) : Type 0 where
  pub back : State
  pub is : states (line_read read text ∷ []) ≡ record { lane = state.lane; state = back; before = [] } ∷ []
  pub same : Same state.state back

found_is : (text : List ℕ) (found : Option Message) (content : Message) → IsAnswer (IsMessage text) found → IsMessage text content → found ≡ Some content
found_is text None content answer is = absurd (answer content is)
found_is text (Some other) content answer is = ap (λ it. Some it) (sym (answer.only content is))

not_legacy : (state : State) (lane : Lane) → lane_of state.kind ≡ Some lane → state.kind ≢ kind.Legacy
not_legacy state lane has legacy = let none = sym (ap lane_of legacy) ∙ has in grind (arith, none)

-- an echo reads as the state, come back
pub reads_as : (state : LaneState) (text : List ℕ) → IsEchoable state → IsEcho state.state.object (count_of state) text → ReadsAsEcho state.state (count_of state) text
reads_as state text good echo =
    let low = since_low state.lane 0 state.before
    in let high = good.high
    in echo_back state.state (count_of state) text good.right (omega (arith, low, high)) echo

pub returned : (read : Reading) (state : LaneState) (text : List ℕ) → IsEchoable state → IsEcho state.state.object (count_of state) text → ReadsText read text → Returned read state text
returned read state text good echo reads =
    let came = reads_as state text good echo
    in record {
      back = came.echoed;
      is = ap (λ found. state_of [] (state_in found) ++ []) (found_is text (read text) (message.State came.echoed) reads came.reads.is) ∙ ap (λ lane. state_of_lane [] came.echoed lane ++ []) (ap lane_of came.back.kind ∙ good.has);
      same = came.back.same (not_legacy state.state state.lane good.has);
    }

abbrev pub AreReturned : Reading → List LaneState → List (List ℕ) → Type 0
AreReturned read [] [] = Unit {0}
AreReturned read (state ∷ states) (text ∷ texts) = Returned read state text × AreReturned read states texts
AreReturned read [] (text ∷ texts) = ⊥
AreReturned read (state ∷ states) [] = ⊥

pub all_returned : (read : Reading) (states : List LaneState) (texts : List (List ℕ)) → AllByRecursion IsEchoable states → AreEchoes states texts → AllByRecursion (ReadsText read) texts → AreReturned read states texts
all_returned read [] [] good echoes reads = tt
all_returned read [] (text ∷ texts) good echoes reads = absurd echoes
all_returned read (state ∷ states) [] good echoes reads = absurd echoes
all_returned read (state ∷ states) (text ∷ texts) good echoes reads = (returned read state text good.0 echoes.0 reads.0, all_returned read states texts good.1 echoes.1 reads.1)

-- Of the lane's given states, the one that is taken stands not behind the one that was echoed.
pub taken_low : (over passed rest done more : List LaneState) (state : LaneState) (back : State) → over ++ (passed ++ rest) ≡ done ++ state ∷ more → length over ≤ length done → AllByRecursion (λ other. ¬ Same other.state back) passed → Same state.state back → length over + length passed ≤ length done
taken_low [] [] rest done more state back is low apart same = omega arith
taken_low [] (first ∷ passed) rest [] more state back is low apart same =
    let heads : first ≡ state = grind (arith, is)
    in absurd (apart.0 (subst (λ (it : LaneState). Same it.state back) (sym heads) same))
taken_low [] (first ∷ passed) rest (other ∷ done) more state back is low apart same =
    let tails : passed ++ rest ≡ done ++ state ∷ more = grind (arith, is)
    in let deeper = taken_low [] passed rest done more state back tails (omega arith) apart.1 same
    in omega (arith, deeper)
taken_low (first ∷ over) passed rest [] more state back is low apart same = absurd (omega (arith, low))
taken_low (first ∷ over) passed rest (other ∷ done) more state back is low apart same =
    let tails : over ++ (passed ++ rest) ≡ done ++ state ∷ more = grind (arith, is)
    in let deeper = taken_low over passed rest done more state back tails (omega (arith, low)) apart same
    in omega (arith, deeper)

-- What waits behind the events

pub record EndsAt (lane : Lane) (whole : List Line) (high : ℕ) (waiting : Waiting) : Type 0 where
  pub over : List LaneState
  pub splits : of_lane lane (states whole) ≡ over ++ waiting.states
  pub low : length over ≤ high

record Goes (read : Reading) (lane : Lane) (whole : List Line) (events : List Event) (waiting : Waiting) (over done list : List LaneState) : Type 0 where
  given_is : waiting.given ++ lines_read read (gives events) ≡ whole
  splits : of_lane lane (states waiting.given) ≡ over ++ waiting.states
  low : length over ≤ length done
  returned_are : AreReturned read list (gots events)
  prefix : IsPrefix (done ++ of_lane lane list) (of_lane lane (states whole))

of_lane_front : (lane : Lane) (front rest whole : List Line) → front ++ rest ≡ whole → of_lane lane (states whole) ≡ of_lane lane (states front) ++ of_lane lane (states_behind front rest)
of_lane_front lane front rest whole is = ap (λ lines. of_lane lane (states lines)) (sym is) ∙ (ap (of_lane lane) (states-append [] front rest) ∙ filter-append (λ state. is_same_lane lane state.lane) (states front) (states_behind front rest))

goes_given : (read : Reading) (lane : Lane) (whole : List Line) (text : List ℕ) (events : List Event) (waiting : Waiting) (over done list : List LaneState) → Goes read lane whole (Given text ∷ events) waiting over done list → Goes read lane whole events (with_given lane (line_read read text) waiting) over done list
goes_given read lane whole text events waiting over done list g =
    let more = state_of waiting.given (state_in (read text))
    in record {
      given_is = append_assoc waiting.given (line_read read text ∷ []) (lines_read read (gives events)) ∙ g.given_is;
      splits = ap (of_lane lane) (states-one waiting.given (line_read read text)) ∙ (filter-append (λ state. is_same_lane lane state.lane) (states waiting.given) more ∙ (ap (λ front. front ++ of_lane lane more) g.splits ∙ append_assoc over waiting.states (of_lane lane more)));
      low = g.low;
      returned_are = g.returned_are;
      prefix = g.prefix;
    }

-- a state that came back: what is passed over then, and how much at most
record GotOn (read : Reading) (lane : Lane) (whole : List Line) (events : List Event) (waiting : Waiting) (high : ℕ) : Type 0 where
  over : List LaneState
  done : List LaneState
  list : List LaneState
  goes : Goes read lane whole events waiting over done list
  within : length done + length (of_lane lane list) ≤ high

got_own : (read : Reading) (lane : Lane) (whole : List Line) (text : List ℕ) (events : List Event) (waiting next : Waiting) (over done list : List LaneState) (state : LaneState) (back : State) → is_same_lane lane state.lane ≡ true → Same state.state back → Goes read lane whole (Got text ∷ events) waiting over done (state ∷ list) → next.given ≡ waiting.given → StateLeaves waiting.states back next.states → GotOn read lane whole events next (length done + length (of_lane lane (state ∷ list)))
got_own read lane whole text events waiting next over done list state back own same g given leaves = at leaves
  where
    lane_list : of_lane lane (state ∷ list) ≡ state ∷ of_lane lane list
    lane_list = ap (λ b. cond b (state ∷ of_lane lane list) (of_lane lane list)) own

    counts : length (done ++ state ∷ []) + length (of_lane lane list) ≤ length done + length (of_lane lane (state ∷ list))
    counts = let long = length-append done (state ∷ []) in let short = ap length lane_list in omega (arith, long, short)

    now_prefix : IsPrefix ((done ++ state ∷ []) ++ of_lane lane list) (of_lane lane (states whole))
    now_prefix = subst (λ front. IsPrefix front (of_lane lane (states whole))) (ap (λ it. done ++ it) lane_list ∙ sym (append_assoc done (state ∷ []) (of_lane lane list))) g.prefix

    whole_is : of_lane lane (states whole) ≡ done ++ state ∷ (of_lane lane list ++ g.prefix.0)
    whole_is = g.prefix.1 ∙ (ap (λ it. (done ++ it) ++ g.prefix.0) lane_list ∙ append_assoc done (state ∷ of_lane lane list) g.prefix.0)

    front_is : of_lane lane (states whole) ≡ (over ++ waiting.states) ++ of_lane lane (states_behind waiting.given (lines_read read (gives events)))
    front_is = of_lane_front lane waiting.given (lines_read read (gives events)) whole g.given_is ∙ ap (λ it. it ++ of_lane lane (states_behind waiting.given (lines_read read (gives events)))) g.splits

    now_given : next.given ++ lines_read read (gives events) ≡ whole
    now_given = ap (λ it. it ++ lines_read read (gives events)) given ∙ g.given_is

    from_first : (first : LaneState) → TakesFirst waiting.states back first next.states → GotOn read lane whole events next (length done + length (of_lane lane (state ∷ list)))
    from_first first takes =
        let behind = of_lane lane (states_behind waiting.given (lines_read read (gives events)))
        in let parts : over ++ (takes.over ++ ((first ∷ next.states) ++ behind)) ≡ done ++ state ∷ (of_lane lane list ++ g.prefix.0) = ap (λ it. over ++ it) (sym (append_assoc takes.over (first ∷ next.states) behind)) ∙ (sym (append_assoc over (takes.over ++ first ∷ next.states) behind) ∙ (ap (λ it. (over ++ it) ++ behind) (sym takes.splits) ∙ (sym front_is ∙ whole_is)))
        in let low = taken_low over takes.over ((first ∷ next.states) ++ behind) done (of_lane lane list ++ g.prefix.0) state back parts g.low takes.others same
        in let long = length-append over (takes.over ++ first ∷ [])
        in let longer = length-append takes.over (first ∷ [])
        in let done_long = length-append done (state ∷ [])
        in record {
          over = over ++ (takes.over ++ first ∷ []);
          done = done ++ state ∷ [];
          list = list;
          goes = record {
            given_is = now_given;
            splits = ap (λ lines. of_lane lane (states lines)) given ∙ (g.splits ∙ (ap (λ it. over ++ it) (takes.splits ∙ sym (append_assoc takes.over (first ∷ []) next.states)) ∙ sym (append_assoc over (takes.over ++ first ∷ []) next.states)));
            low = omega (arith, low, long, longer, done_long);
            returned_are = g.returned_are.1;
            prefix = now_prefix;
          };
          within = counts;
        }

    at : StateLeaves waiting.states back next.states → GotOn read lane whole events next (length done + length (of_lane lane (state ∷ list)))
    at (inl none) =
        let done_long = length-append done (state ∷ [])
        in let old = g.low
        in record {
          over = over;
          done = done ++ state ∷ [];
          list = list;
          goes = record {
            given_is = now_given;
            splits = ap (λ lines. of_lane lane (states lines)) given ∙ (g.splits ∙ ap (λ it. over ++ it) (sym none.1));
            low = omega (arith, old, done_long);
            returned_are = g.returned_are.1;
            prefix = now_prefix;
          };
          within = counts;
        }
    at (inr some) = from_first some.0 some.1

got_other : (read : Reading) (lane : Lane) (whole : List Line) (text : List ℕ) (events : List Event) (waiting next : Waiting) (over done list : List LaneState) (state : LaneState) → is_same_lane lane state.lane ≡ false → Goes read lane whole (Got text ∷ events) waiting over done (state ∷ list) → next.given ≡ waiting.given → next.states ≡ waiting.states → GotOn read lane whole events next (length done + length (of_lane lane (state ∷ list)))
got_other read lane whole text events waiting next over done list state other g given same =
    let lane_list = ap (λ b. cond b (state ∷ of_lane lane list) (of_lane lane list)) other
    in let short = ap length lane_list
    in record {
      over = over;
      done = done;
      list = list;
      goes = record {
        given_is = ap (λ it. it ++ lines_read read (gives events)) given ∙ g.given_is;
        splits = ap (λ lines. of_lane lane (states lines)) given ∙ (g.splits ∙ ap (λ it. over ++ it) (sym same));
        low = g.low;
        returned_are = g.returned_are.1;
        prefix = subst (λ it. IsPrefix (done ++ it) (of_lane lane (states whole))) lane_list g.prefix;
      };
      within = omega (arith, short);
    }

got_on : (read : Reading) (lane : Lane) (whole : List Line) (text : List ℕ) (events : List Event) (waiting next : Waiting) (over done list : List LaneState) → Goes read lane whole (Got text ∷ events) waiting over done list → next.given ≡ waiting.given → LineLeaves waiting.states (of_lane lane (states (line_read read text ∷ []))) next.states → GotOn read lane whole events next (length done + length (of_lane lane list))
got_on read lane whole text events waiting next over done [] g given leaves = absurd g.returned_are
got_on read lane whole text events waiting next over done (state ∷ list) g given leaves = at (cases_Bool (is_same_lane lane state.lane)) (subst (λ found. LineLeaves waiting.states (of_lane lane found) next.states) g.returned_are.0.is leaves)
  where
    at : (is_same_lane lane state.lane ≡ true) ⊎ (is_same_lane lane state.lane ≡ false) → LineLeaves waiting.states (of_lane lane (record { lane = state.lane; state = g.returned_are.0.back; before = [] } ∷ [])) next.states → GotOn read lane whole events next (length done + length (of_lane lane (state ∷ list)))
    at (inl own) leaves =
        let here = subst (λ b. LineLeaves waiting.states (cond b (record { lane = state.lane; state = g.returned_are.0.back; before = [] } ∷ []) []) next.states) own leaves
        in got_own read lane whole text events waiting next over done list state g.returned_are.0.back own g.returned_are.0.same g given (subst (StateLeaves waiting.states g.returned_are.0.back) (sym here.2) here.1)
    at (inr other) leaves = got_other read lane whole text events waiting next over done list state other g given (subst (λ b. LineLeaves waiting.states (cond b (record { lane = state.lane; state = g.returned_are.0.back; before = [] } ∷ []) []) next.states) other leaves)

higher : (lane : Lane) (whole : List Line) (low high : ℕ) (waiting : Waiting) → low ≤ high → EndsAt lane whole low waiting → EndsAt lane whole high waiting
higher lane whole low high waiting le ends = let under = ends.low in record { over = ends.over; splits = ends.splits; low = omega (arith, under, le) }

ends_at : (read : Reading) (lane : Lane) (whole : List Line) (events : List Event) (waiting last : Waiting) (over done list : List LaneState) → Goes read lane whole events waiting over done list → LeavesAll read lane waiting events last → EndsAt lane whole (length done + length (of_lane lane list)) last
ends_at read lane whole [] waiting last over done list g leaves =
    let low = g.low
    in subst (EndsAt lane whole (length done + length (of_lane lane list))) (sym leaves) (record { over = over; splits = ap (λ lines. of_lane lane (states lines)) (sym (sym (append-nil waiting.given) ∙ g.given_is)) ∙ g.splits; low = omega (arith, low) })
ends_at read lane whole ((Opened x y z) ∷ events) waiting last over done list g leaves = ends_at read lane whole events waiting last over done list (record { given_is = g.given_is; splits = g.splits; low = g.low; returned_are = g.returned_are; prefix = g.prefix }) (subst (λ it. LeavesAll read lane it events last) leaves.1 leaves.2)
ends_at read lane whole ((Took x) ∷ events) waiting last over done list g leaves = ends_at read lane whole events waiting last over done list (record { given_is = g.given_is; splits = g.splits; low = g.low; returned_are = g.returned_are; prefix = g.prefix }) (subst (λ it. LeavesAll read lane it events last) leaves.1 leaves.2)
ends_at read lane whole (TookEnd ∷ events) waiting last over done list g leaves = ends_at read lane whole events waiting last over done list (record { given_is = g.given_is; splits = g.splits; low = g.low; returned_are = g.returned_are; prefix = g.prefix }) (subst (λ it. LeavesAll read lane it events last) leaves.1 leaves.2)
ends_at read lane whole ((Committed x y) ∷ events) waiting last over done list g leaves = ends_at read lane whole events waiting last over done list (record { given_is = g.given_is; splits = g.splits; low = g.low; returned_are = g.returned_are; prefix = g.prefix }) (subst (λ it. LeavesAll read lane it events last) leaves.1 leaves.2)
ends_at read lane whole ((Emitted x) ∷ events) waiting last over done list g leaves = ends_at read lane whole events waiting last over done list (record { given_is = g.given_is; splits = g.splits; low = g.low; returned_are = g.returned_are; prefix = g.prefix }) (subst (λ it. LeavesAll read lane it events last) leaves.1 leaves.2)
ends_at read lane whole ((Merged x y z) ∷ events) waiting last over done list g leaves = ends_at read lane whole events waiting last over done list (record { given_is = g.given_is; splits = g.splits; low = g.low; returned_are = g.returned_are; prefix = g.prefix }) (subst (λ it. LeavesAll read lane it events last) leaves.1 leaves.2)
ends_at read lane whole ((Shown x y z) ∷ events) waiting last over done list g leaves = ends_at read lane whole events waiting last over done list (record { given_is = g.given_is; splits = g.splits; low = g.low; returned_are = g.returned_are; prefix = g.prefix }) (subst (λ it. LeavesAll read lane it events last) leaves.1 leaves.2)
ends_at read lane whole ((Started x) ∷ events) waiting last over done list g leaves = ends_at read lane whole events waiting last over done list (record { given_is = g.given_is; splits = g.splits; low = g.low; returned_are = g.returned_are; prefix = g.prefix }) (subst (λ it. LeavesAll read lane it events last) leaves.1 leaves.2)
ends_at read lane whole ((ReadLine x) ∷ events) waiting last over done list g leaves = ends_at read lane whole events waiting last over done list (record { given_is = g.given_is; splits = g.splits; low = g.low; returned_are = g.returned_are; prefix = g.prefix }) (subst (λ it. LeavesAll read lane it events last) leaves.1 leaves.2)
ends_at read lane whole (ReadEnd ∷ events) waiting last over done list g leaves = ends_at read lane whole events waiting last over done list (record { given_is = g.given_is; splits = g.splits; low = g.low; returned_are = g.returned_are; prefix = g.prefix }) (subst (λ it. LeavesAll read lane it events last) leaves.1 leaves.2)
ends_at read lane whole ((Given x) ∷ events) waiting last over done list g leaves = ends_at read lane whole events (with_given lane (line_read read x) waiting) last over done list (goes_given read lane whole x events waiting over done list g) (subst (λ it. LeavesAll read lane it events last) leaves.1 leaves.2)
ends_at read lane whole (Closed ∷ events) waiting last over done list g leaves = ends_at read lane whole events waiting last over done list (record { given_is = g.given_is; splits = g.splits; low = g.low; returned_are = g.returned_are; prefix = g.prefix }) (subst (λ it. LeavesAll read lane it events last) leaves.1 leaves.2)
ends_at read lane whole ((Got x) ∷ events) waiting last over done list g leaves =
    let on = got_on read lane whole x events waiting leaves.0 over done list g leaves.1.0 leaves.1.1
    in higher lane whole (length on.done + length (of_lane lane on.list)) (length done + length (of_lane lane list)) last on.within (ends_at read lane whole events leaves.0 last on.over on.done on.list on.goes leaves.2)
ends_at read lane whole (GotEnd ∷ events) waiting last over done list g leaves = ends_at read lane whole events waiting last over done list (record { given_is = g.given_is; splits = g.splits; low = g.low; returned_are = g.returned_are; prefix = g.prefix }) (subst (λ it. LeavesAll read lane it events last) leaves.1 leaves.2)
ends_at read lane whole ((Saved x) ∷ events) waiting last over done list g leaves = ends_at read lane whole events waiting last over done list (record { given_is = g.given_is; splits = g.splits; low = g.low; returned_are = g.returned_are; prefix = g.prefix }) (subst (λ it. LeavesAll read lane it events last) leaves.1 leaves.2)
ends_at read lane whole ((Ended x) ∷ events) waiting last over done list g leaves = ends_at read lane whole events waiting last over done list (record { given_is = g.given_is; splits = g.splits; low = g.low; returned_are = g.returned_are; prefix = g.prefix }) (subst (λ it. LeavesAll read lane it events last) leaves.1 leaves.2)

-- what waits behind the events of an attempt
pub waits_at : (read : Reading) (lane : Lane) (events : List Event) (last : Waiting) (list : List LaneState) → AreReturned read list (gots events) → IsPrefix (of_lane lane list) (of_lane lane (states (lines_read read (gives events)))) → LeavesAll read lane none_given events last → EndsAt lane (lines_read read (gives events)) (0 + length (of_lane lane list)) last
waits_at read lane events last list returned_are prefix leaves = ends_at read lane (lines_read read (gives events)) events none_given last [] [] list (record { given_is = refl; splits = refl; low = omega arith; returned_are = returned_are; prefix = prefix }) leaves
