-- What is pending in a lane of a ledger is what waits in it.
use Rattle.std.proofs.Common.{◌≡◌, inr, ℕ, List, [], ◌∷◌, ◌++◌, Bool, true, false, cond, Option, None, Some, refl, sym, ◌∙◌, ap, subst, filter}
use Rattle.std.specs.List.{AllByRecursion}
use Rattle.std.proofs.lemmas.List.{map-append}
use Rattle.std.proofs.lemmas.Bool.{false≢true}
use Rattle.stream_index.proofs.IndexLemmas.{Decides-stream}
use Rattle.outside.specs.Event.{given_in, got_in}
use Rattle.outside.specs.declared.event.Event.{Event}
use Rattle.outside.specs.declared.event.Event.TheVariants.{Opened, Took, TookEnd, Committed, Emitted, Merged, Shown, Started, ReadLine, ReadEnd, Given, Closed, Got, GotEnd, Saved, Ended}
use Rattle.airbyte_message.specs.Lanes.{Lane, one, all, lane_of}
use Rattle.airbyte_message.specs.Same.{Same}
use Rattle.airbyte_message.specs.State.{State}
use Rattle.load_rules.specs.Lines.{Line, Reading, line_read, state_in}
use Rattle.load_rules.specs.Taken.{LaneState, is_same_lane, of_lane, state_of, state_of_lane, states}
use Rattle.load_rules.specs.Attempts.{Waiting, none_given, with_given, StateLeaves, LineLeaves, Leaves, LeavesAll, TakesState}
use Rattle.load_rules.specs.Attempts as attempts
use Rattle.sync_rules.specs.Sync.{Takes}
use Rattle.sync_rules.proofs.KindLemmas.{heads, tails, some_none}
use Rattle.sync_rules.proofs.Rising.{leaves_all_one, none_first}
use Rattle.sync_ledger.specs.Lists.{is_lane}
use Rattle.sync_ledger.specs.PendingLists.{of_lane as pending_of_lane}
use Rattle.sync_ledger.specs.Takes.{DiffersFrom, TakesFirst}
use Rattle.sync_ledger.specs.declared.pending.Pending.{Pending}
use Rattle.ledger_rules.specs.Ledgers.{IsPendingOf, states_in, states_pending, states_waiting, with_lane}
use Rattle.ledger_rules.proofs.Same.{same_lanes}

-- ---- one more event

pub leaves_more : (read : Reading) (lane : Lane) (start : Waiting) (events : List Event) (event : Event) (between left : Waiting) → LeavesAll read lane start events between → Leaves read lane between event left → LeavesAll read lane start (events ++ event ∷ []) left
leaves_more read lane start [] event between left leaves next = (left, subst (λ it. Leaves read lane it event left) leaves next, refl)
leaves_more read lane start (first ∷ events) event between left (middle, leaves, rest) next = (middle, leaves, leaves_more read lane middle events event between left rest next)

stays : (read : Reading) (lane : Lane) (waiting : Waiting) (event : Event) → given_in event ≡ None → got_in event ≡ None → Leaves read lane waiting event waiting
stays read lane waiting (Opened x y z) not_given none_got = refl
stays read lane waiting (Took x) not_given none_got = refl
stays read lane waiting TookEnd not_given none_got = refl
stays read lane waiting (Committed x y) not_given none_got = refl
stays read lane waiting (Emitted x) not_given none_got = refl
stays read lane waiting (Merged x y z) not_given none_got = refl
stays read lane waiting (Shown x y z) not_given none_got = refl
stays read lane waiting (Started x) not_given none_got = refl
stays read lane waiting (ReadLine x) not_given none_got = refl
stays read lane waiting ReadEnd not_given none_got = refl
stays read lane waiting (Given x) not_given none_got = absurd (some_none not_given)
stays read lane waiting Closed not_given none_got = refl
stays read lane waiting (Got x) not_given none_got = absurd (some_none none_got)
stays read lane waiting GotEnd not_given none_got = refl
stays read lane waiting (Saved x) not_given none_got = refl
stays read lane waiting (Ended x) not_given none_got = refl

pub waits_on : (read : Reading) (events : List Event) (lane : Lane) (event : Event) (pending now : List Pending) → given_in event ≡ None → got_in event ≡ None → now ≡ pending → IsPendingOf read events lane pending → IsPendingOf read (events ++ event ∷ []) lane now
waits_on read events lane event pending now none_given none_got same waits = record {
  waiting = waits.waiting;
  waits = leaves_more read lane attempts.none_given events event waits.waiting waits.waiting waits.waits (stays read lane waits.waiting event none_given none_got);
  same = ap states_pending same ∙ waits.same;
}

-- ---- states of a lane

abbrev pub in_lane : Lane → List State → List State
in_lane lane list = filter (λ state. is_lane lane (lane_of state.kind)) list

pending_in_lane : (lane : Lane) (held : List Pending) → states_pending (pending_of_lane lane held) ≡ in_lane lane (states_pending held)
pending_in_lane lane [] = refl
pending_in_lane lane (pending ∷ held) = at (is_lane lane (lane_of pending.state.kind)) (pending_in_lane lane held)
  where
    at : (b : Bool) → states_pending (pending_of_lane lane held) ≡ in_lane lane (states_pending held) → states_pending (cond b (pending ∷ pending_of_lane lane held) (pending_of_lane lane held)) ≡ cond b (pending.state ∷ in_lane lane (states_pending held)) (in_lane lane (states_pending held))
    at true rest = ap (λ list. pending.state ∷ list) rest
    at false rest = rest

waiting_by_lane : (lane : Lane) (given : List Line) (state : State) (own : Option Lane) → lane_of state.kind ≡ own → states_waiting (of_lane lane (state_of_lane given state own)) ≡ in_lane lane (with_lane state own)
waiting_by_lane lane given state None at = refl
waiting_by_lane lane given state (Some own) at = choose (is_same_lane lane own) (is_lane lane (lane_of state.kind)) (sym (ap (is_lane lane) at ∙ same_lanes lane own))
  where
    choose : (b c : Bool) → b ≡ c → states_waiting (cond b (record { lane = own; state = state; before = given } ∷ []) []) ≡ cond c (state ∷ []) []
    choose b c same = subst (λ d. states_waiting (cond b (record { lane = own; state = state; before = given } ∷ []) []) ≡ cond d (state ∷ []) []) same (alike b)
      where
        alike : (d : Bool) → states_waiting (cond d (record { lane = own; state = state; before = given } ∷ []) []) ≡ cond d (state ∷ []) []
        alike true = refl
        alike false = refl

waiting_in_lane : (lane : Lane) (given : List Line) (found : Option State) → states_waiting (of_lane lane (state_of given found)) ≡ in_lane lane (states_in found)
waiting_in_lane lane given None = refl
waiting_in_lane lane given (Some state) = waiting_by_lane lane given state (lane_of state.kind) refl

-- a line is given that is such a state, or none
pub waits_given : (read : Reading) (events : List Event) (lane : Lane) (text : List ℕ) (pending held now : List Pending) → states_pending held ≡ states_in (state_in (read text)) → now ≡ pending ++ pending_of_lane lane held
    → IsPendingOf read events lane pending → IsPendingOf read (events ++ Given text ∷ []) lane now
waits_given read events lane text pending held now are same waits =
    let given = waits.waiting.given in
    let found = state_in (read text) in
    record {
      waiting = with_given lane (line_read read text) waits.waiting;
      waits = leaves_more read lane attempts.none_given events (Given text) waits.waiting (with_given lane (line_read read text) waits.waiting) waits.waits refl;
      same = ap states_pending same
          ∙ (map-append (λ (it : Pending). it.state) pending (pending_of_lane lane held)
          ∙ (ap (λ list. list ++ states_pending (pending_of_lane lane held)) waits.same
          ∙ (ap (λ list. states_waiting waits.waiting.states ++ list) (pending_in_lane lane held ∙ (ap (in_lane lane) are ∙ sym (waiting_in_lane lane given found)))
          ∙ sym (map-append (λ (it : LaneState). it.state) waits.waiting.states (of_lane lane (state_of given found))))));
    }

-- ---- a state comes back

pub record SplitsAs (over : List Pending) (first : Pending) (rest : List Pending) (waiting : List LaneState) : Type 0 where
  pub others : List LaneState
  pub taken : LaneState
  pub left : List LaneState
  pub splits : waiting ≡ others ++ taken ∷ left
  pub others_same : states_pending over ≡ states_waiting others
  pub taken_same : first.state ≡ taken.state
  pub left_same : states_pending rest ≡ states_waiting left

cons_nil : {A : Type 0} {x : A} {xs : List A} → x ∷ xs ≡ [] → ⊥
cons_nil e = cc

splits_as : (over : List Pending) (first : Pending) (rest : List Pending) (waiting : List LaneState) → states_pending (over ++ first ∷ rest) ≡ states_waiting waiting → SplitsAs over first rest waiting
splits_as [] first rest [] same = absurd (cons_nil same)
splits_as [] first rest (taken ∷ left) same = record { others = []; taken = taken; left = left; splits = refl; others_same = refl; taken_same = heads same; left_same = tails same }
splits_as (own ∷ over) first rest [] same = absurd (cons_nil same)
splits_as (own ∷ over) first rest (other ∷ waiting) same =
    let deeper = splits_as over first rest waiting (tails same) in
    record {
      others = other ∷ deeper.others;
      taken = deeper.taken;
      left = deeper.left;
      splits = ap (λ list. other ∷ list) deeper.splits;
      others_same = ap (λ list. own.state ∷ list) deeper.others_same ∙ ap (λ state. state ∷ states_waiting deeper.others) (heads same);
      taken_same = deeper.taken_same;
      left_same = deeper.left_same;
    }

differ_as : (got : State) (pending : List Pending) (waiting : List LaneState) → states_pending pending ≡ states_waiting waiting → AllByRecursion (DiffersFrom got) pending → AllByRecursion (λ other. ¬ Same other.state got) waiting
differ_as got [] [] same differ = tt
differ_as got [] (other ∷ waiting) same differ = absurd (cons_nil (sym same))
differ_as got (own ∷ pending) [] same differ = absurd (cons_nil same)
differ_as got (own ∷ pending) (other ∷ waiting) same differ = (λ alike. differ.0 (subst (λ state. Same state got) (sym (heads same)) alike), differ_as got pending waiting (tails same) differ.1)

-- the state that is taken, and what is left
pub record TakesIn (waiting : List LaneState) (got : State) (taken : Pending) (rest : List Pending) : Type 0 where
  pub last : LaneState
  pub left : List LaneState
  pub takes : attempts.TakesFirst waiting got last left
  pub is : taken.state ≡ last.state
  pub same : states_pending rest ≡ states_waiting left

pub takes_in : (pending : List Pending) (waiting : List LaneState) (got : State) (taken : Pending) (rest : List Pending) → states_pending pending ≡ states_waiting waiting → TakesFirst pending got taken rest → TakesIn waiting got taken rest
takes_in pending waiting got taken rest same takes =
    let parts = splits_as takes.over taken rest waiting (sym (ap states_pending takes.splits) ∙ same) in
    record {
      last = parts.taken;
      left = parts.left;
      takes = record { over = parts.others; splits = parts.splits; others = differ_as got takes.over parts.others parts.others_same takes.others; same = subst (λ state. Same state got) parts.taken_same takes.same };
      is = parts.taken_same;
      same = parts.left_same;
    }

-- the states of the line
abbrev pub back_of : State → Lane → LaneState
back_of got lane = record { lane = lane; state = got; before = [] }

line_states : (read : Reading) (text : List ℕ) (got : State) (lane : Lane) → state_in (read text) ≡ Some got → lane_of got.kind ≡ Some lane → states (line_read read text ∷ []) ≡ back_of got lane ∷ []
line_states read text got lane found of = ap (λ it. state_of [] it ++ []) found ∙ ap (λ it. state_of_lane [] got it ++ []) of

pub no_states : (read : Reading) (text : List ℕ) → states_in (state_in (read text)) ≡ [] → states (line_read read text ∷ []) ≡ []
no_states read text none = at (state_in (read text)) none
  where
    by_lane : (state : State) (own : Option Lane) → with_lane state own ≡ [] → state_of_lane [] state own ++ [] ≡ []
    by_lane state None e = refl
    by_lane state (Some lane) e = absurd (cons_nil e)

    at : (found : Option State) → states_in found ≡ [] → state_of [] found ++ [] ≡ []
    at None e = refl
    at (Some state) e = by_lane state (lane_of state.kind) e

abbrev pub with_states : Waiting → List LaneState → Waiting
with_states waiting left = record waiting { states = left }

-- it is of another lane, or of none
pub waits_other : (read : Reading) (events : List Event) (lane : Lane) (text : List ℕ) (pending now : List Pending) → of_lane lane (states (line_read read text ∷ [])) ≡ [] → now ≡ pending → IsPendingOf read events lane pending → IsPendingOf read (events ++ Got text ∷ []) lane now
waits_other read events lane text pending now none same waits = record {
  waiting = waits.waiting;
  waits = leaves_more read lane attempts.none_given events (Got text) waits.waiting waits.waiting waits.waits (refl, subst (λ list. LineLeaves waits.waiting.states list waits.waiting.states) (sym none) refl);
  same = ap states_pending same ∙ waits.same;
}

other_none : (read : Reading) (text : List ℕ) (got : State) (own lane : Lane) → state_in (read text) ≡ Some got → lane_of got.kind ≡ Some own → is_lane lane (Some own) ≡ false → of_lane lane (states (line_read read text ∷ [])) ≡ []
other_none read text got own lane found of differs =
    ap (of_lane lane) (line_states read text got own found of) ∙ ap (λ b. cond b (back_of got own ∷ []) []) (sym (same_lanes lane own) ∙ differs)

pub waits_apart : (read : Reading) (events : List Event) (lane own : Lane) (text : List ℕ) (got : State) (pending now : List Pending) → state_in (read text) ≡ Some got → lane_of got.kind ≡ Some own → is_lane lane (Some own) ≡ false → now ≡ pending
    → IsPendingOf read events lane pending → IsPendingOf read (events ++ Got text ∷ []) lane now
waits_apart read events lane own text got pending now found of differs same waits = waits_other read events lane text pending now (other_none read text got own lane found of differs) same waits

one_of_lane : (read : Reading) (text : List ℕ) (got : State) (lane : Lane) → state_in (read text) ≡ Some got → lane_of got.kind ≡ Some lane → is_lane lane (Some lane) ≡ true → of_lane lane (states (line_read read text ∷ [])) ≡ back_of got lane ∷ []
one_of_lane read text got lane found of own =
    ap (of_lane lane) (line_states read text got lane found of) ∙ ap (λ b. cond b (back_of got lane ∷ []) []) (sym (same_lanes lane lane) ∙ own)

own_is : (lane : Lane) → is_lane lane (Some lane) ≡ true
own_is (one id) = (Decides-stream id id).1 refl
own_is all = refl

pub lane_is : (lane other : Lane) → is_lane lane (Some other) ≡ true → lane ≡ other
lane_is (one id) (one other) same = ap (λ it. one it) ((Decides-stream id other).0 same)
lane_is (one id) all same = absurd (false≢true same)
lane_is all (one other) same = absurd (false≢true same)
lane_is all all same = refl

-- it is of this lane
pub waits_taken : (read : Reading) (events : List Event) (lane : Lane) (text : List ℕ) (got : State) (pending rest now : List Pending) (taken : Pending) → state_in (read text) ≡ Some got → lane_of got.kind ≡ Some lane → TakesFirst pending got taken rest → now ≡ rest
    → IsPendingOf read events lane pending → IsPendingOf read (events ++ Got text ∷ []) lane now
waits_taken read events lane text got pending rest now taken found of takes same waits =
    let part = takes_in pending waits.waiting.states got taken rest waits.same takes in
    let left = with_states waits.waiting part.left in
    record {
      waiting = left;
      waits = leaves_more read lane attempts.none_given events (Got text) waits.waiting left waits.waits
          (refl, subst (λ list. LineLeaves waits.waiting.states list part.left) (sym (one_of_lane read text got lane found of (own_is lane))) (part.left, inr (part.last, part.takes), refl));
      same = ap states_pending same ∙ part.same;
    }

pub state_takes : (read : Reading) (events : List Event) (lane : Lane) (text : List ℕ) (got : State) (pending rest : List Pending) (taken : Pending) → state_in (read text) ≡ Some got → lane_of got.kind ≡ Some lane → TakesFirst pending got taken rest
    → IsPendingOf read events lane pending → (last : LaneState) × Takes read events text (Some last) × (taken.state ≡ last.state)
state_takes read events lane text got pending rest taken found of takes waits =
    let part = takes_in pending waits.waiting.states got taken rest waits.same takes in (
      part.last,
      (back_of got lane, line_states read text got lane found of, record { waiting = waits.waiting; waits = waits.waits; rest = part.left; takes = part.takes }),
      part.is,
    )

pub none_takes : (read : Reading) (events : List Event) (text : List ℕ) → states_in (state_in (read text)) ≡ [] → Takes read events text None
none_takes read events text none back taken are takes = cons_nil (sym are ∙ no_states read text none)

pub stranger_takes : (read : Reading) (events : List Event) (lane : Lane) (text : List ℕ) (got : State) (pending : List Pending) → state_in (read text) ≡ Some got → lane_of got.kind ≡ Some lane → AllByRecursion (DiffersFrom got) pending
    → IsPendingOf read events lane pending → Takes read events text None
stranger_takes read events lane text got pending found of differ waits back taken are takes =
    none_first got takes.takes.over taken takes.rest (subst (AllByRecursion (λ other. ¬ Same other.state got)) splits (differ_as got pending waits.waiting.states waits.same differ)) same
  where
    back_is : back ≡ back_of got lane
    back_is = heads (sym are ∙ line_states read text got lane found of)

    waiting_is : waits.waiting ≡ takes.waiting
    waiting_is = leaves_all_one read lane attempts.none_given events waits.waiting takes.waiting waits.waits (subst (λ (it : LaneState). LeavesAll read it.lane attempts.none_given events takes.waiting) back_is takes.waits)

    splits : waits.waiting.states ≡ takes.takes.over ++ taken ∷ takes.rest
    splits = ap (λ (it : Waiting). it.states) waiting_is ∙ takes.takes.splits

    same : Same taken.state got
    same = subst (λ (it : LaneState). Same taken.state it.state) back_is takes.takes.same
