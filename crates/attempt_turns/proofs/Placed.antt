-- What is pending in a ledger keeps its place among the lines of the source.
use Rattle.std.proofs.Common.{arith, ◌≡◌, inl, inr, ℕ, zero, suc, ◌+◌, ◌<◌, ◌≤◌, List, [], ◌∷◌, ◌++◌, Bool, true, false, cond, Option, None, Some, refl, sym, ◌∙◌, ap, subst, append-nil, append_assoc, length, length-append, take, filter}
use Rattle.std.specs.Prelude.{slice_get, option_map, is_some, filter_map}
use Rattle.std.specs.List.{AllByRecursion}
use Rattle.std.proofs.lemmas.Bool.{false≢true}
use Rattle.std.proofs.lemmas.List.{length-map, take-append-le}
use Rattle.basics.specs.declared.stream.StreamId.{StreamId}
use Rattle.outside.specs.Event.{given_in, read_in}
use Rattle.outside.specs.declared.event.Event.{Event}
use Rattle.outside.specs.declared.event.Event.TheVariants as event
use Rattle.outside.specs.declared.faults.Side.TheVariants as side
use Rattle.airbyte_message.specs.Lanes.{Lane, all, lane_of}
use Rattle.airbyte_message.specs.State.{State}
use Rattle.airbyte_message.specs.declared.message.Message.{Message}
use Rattle.airbyte_message.specs.declared.message.Message.TheVariants as message
use Rattle.airbyte_message.specs.declared.stream_status.StreamStatus.{StreamStatus}
use Rattle.load_rules.specs.Lines.{Line, Reading, is_known_kind, line_read, lines_read, passes, state_in}
use Rattle.load_rules.specs.Taken.{LaneState, is_same_lane, of_lane, state_of, state_of_lane, states}
use Rattle.load_rules.specs.Attempts.{gives, reads, passed, Waiting, none_given, with_given, StateLeaves, LineLeaves, Leaves, LeavesAll}
use Rattle.state_kinds.specs.Saved.{Saved}
use Rattle.sync_rules.specs.Sync.{texts}
use Rattle.sync_rules.proofs.Rising.{leaves_all_one, leaves_part}
use Rattle.sync_ledger.specs.Accounts.{AllAccounts, account_of, lane_in, left_pending, pending_of, with_pending}
use Rattle.sync_ledger.specs.Accounts.{with_lane as with_lane_account}
use Rattle.sync_ledger.specs.Judged.{IsEchoed, TakesBack, heard_line}
use Rattle.sync_ledger.specs.Lists.{is_lane}
use Rattle.sync_ledger.specs.Noted.{Noted, gave, given, heard, heard_in, heard_status, pending_in}
use Rattle.sync_ledger.specs.Noted.{given_in as given_in_lane}
use Rattle.sync_ledger.specs.PendingLists.{HoldsOne}
use Rattle.sync_ledger.specs.PendingLists.{of_lane as pending_of_lane}
use Rattle.sync_ledger.specs.Told.{told_of}
use Rattle.sync_ledger.specs.declared.accounts.Account.{Account}
use Rattle.sync_ledger.specs.declared.accounts.LaneAccount.{LaneAccount}
use Rattle.sync_ledger.specs.declared.pending.Pending.{Pending}
use Rattle.sync_ledger.specs.declared.told.Told.{Told}
use Rattle.sync_ledger.specs.declared.told.Told.TheVariants as told
use Rattle.sync_ledger.specs.declared.verdict.Echoed.{Echoed}
use Rattle.sync_ledger.specs.declared.verdict.Echoed.TheVariants as echoed
use Rattle.sync_ledger.specs.declared.verdict.Verdict.{Verdict}
use Rattle.sync_ledger.proofs.PendingLemmas.{other_lane, own_lane, pending_laws}
use Rattle.ledger_rules.specs.Ledgers.{IsLedgerOf, IsPendingOf, held_by, is_give, states_in, states_pending, states_waiting, with_lane}
use Rattle.ledger_rules.proofs.Same.{by_test, same_lanes}
use Rattle.ledger_rules.proofs.Stands.{gives as ledger_gives}
use Rattle.ledger_rules.proofs.Waits.{lane_is, leaves_more}
use Rattle.attempt_turns.specs.Placed.{AllPlaced, ArePlaced, HeldIsLast, IsLastLine, IsPlaced, LaneIsPlaced}
use Rattle.attempt_turns.specs.Waits.{StandsIn}
use Rattle.attempt_turns.proofs.Lists.{reads_one, same_gives, same_reads}
use Rattle.attempt_turns.proofs.TakenLemmas.{reread, waits_among}

-- ---- one more event

get_front : {A : Type 0} (xs ys : List A) (n : ℕ) (x : A) → slice_get xs n ≡ Some x → slice_get (xs ++ ys) n ≡ Some x
get_front [] ys n x is = absurd (let e : None ≡ Some x = is in cc)
get_front (a ∷ xs) ys zero x is = is
get_front (a ∷ xs) ys (suc n) x is = get_front xs ys n x is

get_within : {A : Type 0} (xs : List A) (n : ℕ) (x : A) → slice_get xs n ≡ Some x → n < length xs
get_within [] n x is = absurd (let e : None ≡ Some x = is in cc)
get_within (a ∷ xs) zero x is = omega arith
get_within (a ∷ xs) (suc n) x is = let less = get_within xs n x is in omega (arith, less)

stands_more : (ids : List StreamId) (read : Reading) (events : List Event) (own : Event) (line : ℕ) (state : LaneState) → StandsIn ids read events line state → StandsIn ids read (events ++ own ∷ []) line state
stands_more ids read events own line state stands =
    let rest = filter_map read_in (own ∷ []) in
    let within : stands.number ≤ length (reads events) = (let less = get_within (reads events) stands.number stands.text stands.at in omega (arith, less)) in
    record {
      number = stands.number;
      is = stands.is;
      text = stands.text;
      at = ap (λ list. slice_get list stands.number) (reads_one events own) ∙ get_front (reads events) rest stands.number stands.text stands.at;
      reads_so = stands.reads_so;
      before = stands.before ∙ ap (λ list. filter (λ (other : Line). passes ids other.found) (lines_read read list)) (sym (ap (take stands.number) (reads_one events own) ∙ take-append-le stands.number (reads events) rest within));
    }

all_more : (ids : List StreamId) (read : Reading) (events : List Event) (own : Event) (lane : Lane) (pending : List Pending) (states : List LaneState) → AllPlaced ids read events lane pending states → AllPlaced ids read (events ++ own ∷ []) lane pending states
all_more ids read events own lane [] [] each = tt
all_more ids read events own lane [] (state ∷ states) each = each
all_more ids read events own lane (it ∷ pending) [] each = each
all_more ids read events own lane (it ∷ pending) (state ∷ states) each = (record { of_lane = each.0.of_lane; same = each.0.same; stands = stands_more ids read events own it.line state each.0.stands; known = each.0.known }, all_more ids read events own lane pending states each.1)

-- ---- what is left of both

all_length : (ids : List StreamId) (read : Reading) (events : List Event) (lane : Lane) (pending : List Pending) (states : List LaneState) → AllPlaced ids read events lane pending states → length pending ≡ length states
all_length ids read events lane [] [] each = refl
all_length ids read events lane [] (state ∷ states) each = absurd each
all_length ids read events lane (it ∷ pending) [] each = absurd each
all_length ids read events lane (it ∷ pending) (state ∷ states) each = (let rest = all_length ids read events lane pending states each.1 in omega (arith, rest))

same_length : (pending : List Pending) (states : List LaneState) → states_pending pending ≡ states_waiting states → length pending ≡ length states
same_length pending states same = sym (length-map pending (λ (it : Pending). it.state)) ∙ (ap length same ∙ length-map states (λ (it : LaneState). it.state))

all_left : (ids : List StreamId) (read : Reading) (events : List Event) (lane : Lane) (over pending : List Pending) (others states : List LaneState) → length pending ≡ length states → AllPlaced ids read events lane (over ++ pending) (others ++ states) → AllPlaced ids read events lane pending states
all_left ids read events lane [] pending [] states same each = each
all_left ids read events lane [] pending (other ∷ others) states same each = absurd (let longer = all_length ids read events lane pending (other ∷ (others ++ states)) each in let more = length-append others states in omega (arith, longer, more, same))
all_left ids read events lane (it ∷ over) pending [] states same each = absurd (let longer = all_length ids read events lane (it ∷ (over ++ pending)) states each in let more = length-append over pending in omega (arith, longer, more, same))
all_left ids read events lane (it ∷ over) pending (other ∷ others) states same each = all_left ids read events lane over pending others states same each.1

pub record Behind {A : Type 0} (whole left : List A) : Type 0 where
  pub over : List A
  pub splits : whole ≡ over ++ left

state_left : (waiting : List LaneState) (got : State) (left : List LaneState) → StateLeaves waiting got left → Behind waiting left
state_left waiting got left (inl none) = record { over = []; splits = sym none.1 }
state_left waiting got left (inr (first, takes)) = record { over = takes.over ++ first ∷ []; splits = takes.splits ∙ sym (append_assoc takes.over (first ∷ []) left) }

line_left : (waiting back left : List LaneState) → LineLeaves waiting back left → Behind waiting left
line_left waiting [] left leaves = record { over = []; splits = sym leaves }
line_left waiting (got ∷ back) left (between, leaves, rest) =
    let first = state_left waiting got.state between leaves in
    let then = line_left between back left rest in
    record { over = first.over ++ then.over; splits = first.splits ∙ (ap (λ list. first.over ++ list) then.splits ∙ sym (append_assoc first.over then.over left)) }

some_none : {A : Type 0} {a : A} → Some a ≡ None → ⊥
some_none e = cc

states_left : (read : Reading) (lane : Lane) (waiting : Waiting) (own : Event) (left : Waiting) → given_in own ≡ None → Leaves read lane waiting own left → Behind waiting.states left.states
states_left read lane waiting (event.Given text) left none leaves = absurd (some_none none)
states_left read lane waiting (event.Got text) left none leaves = line_left waiting.states (of_lane lane (states (line_read read text ∷ []))) left.states leaves.1
states_left read lane waiting own left none leaves = record { over = []; splits = ap (λ (it : Waiting). it.states) (sym leaves) }

-- behind an event by which nothing is given
lane_on : (ids : List StreamId) (read : Reading) (events : List Event) (own : Event) (lane : Lane) (pending now : List Pending) → given_in own ≡ None → Behind pending now → IsPendingOf read (events ++ own ∷ []) lane now → LaneIsPlaced ids read events lane pending
    → LaneIsPlaced ids read (events ++ own ∷ []) lane now
lane_on ids read events own lane pending now none behind waits placed =
    let parted = leaves_part read lane none_given events (own ∷ []) waits.waiting waits.waits in
    let is : placed.waiting ≡ parted.between = leaves_all_one read lane none_given events placed.waiting parted.between placed.waits parted.first in
    let left = states_left read lane placed.waiting own waits.waiting none (subst (λ it. Leaves read lane it own waits.waiting) (sym is) (last parted.between waits.waiting parted.then)) in
    record {
      waiting = waits.waiting;
      waits = waits.waits;
      each = all_more ids read events own lane now waits.waiting.states
          (all_left ids read events lane behind.over now left.over waits.waiting.states (same_length now waits.waiting.states waits.same)
          (subst (λ list. AllPlaced ids read events lane list (left.over ++ waits.waiting.states)) behind.splits (subst (AllPlaced ids read events lane pending) left.splits placed.each)));
    }
  where
    last : (from to : Waiting) → LeavesAll read lane from (own ∷ []) to → Leaves read lane from own to
    last from to (between, leaves, same) = subst (λ it. Leaves read lane from own it) (sym same) leaves

same_behind : {A : Type 0} (whole now : List A) → now ≡ whole → Behind whole now
same_behind whole now same = record { over = []; splits = sym same }

-- ---- events that are neither lines nor given

held_on : (ids : List StreamId) (read : Reading) (events : List Event) (line : Option (List ℕ)) (held : List Pending) (own : Event) → read_in own ≡ None → given_in own ≡ None → HeldIsLast ids read events line held → HeldIsLast ids read (events ++ own ∷ []) line held
held_on ids read events None held own not_read not_given is = tt
held_on ids read events (Some text) held own not_read not_given is = record { front = is.front; last = same_reads events own not_read ∙ is.last; given = same_gives events own not_given ∙ is.given; numbered = is.numbered }

pub placed_on : (ids : List StreamId) (read : Reading) (events : List Event) (line : Option (List ℕ)) (noted : Noted) (start : Saved) (own : Event) → read_in own ≡ None → given_in own ≡ None → IsLedgerOf ids start read (events ++ own ∷ []) line noted → ArePlaced ids read events line noted
    → ArePlaced ids read (events ++ own ∷ []) line noted
placed_on ids read events line noted start own not_read not_given ledger placed = record {
  lanes = λ lane. lane_on ids read events own lane (pending_in noted lane) (pending_in noted lane) not_given (same_behind (pending_in noted lane) (pending_in noted lane) refl) (ledger.waits lane) (placed.lanes lane);
  held = held_on ids read events line noted.held own not_read not_given placed.held;
}

-- ---- a line of the source is heard

status_numbers : (noted : Noted) (id : StreamId) (status : StreamStatus) (front : ℕ) (found : Option Account) → noted.held ≡ [] → AllByRecursion (λ pending. pending.line ≡ front + 1) (heard_status id status noted found).held
status_numbers noted id status front None none = subst (AllByRecursion (λ pending. pending.line ≡ front + 1)) (sym none) tt
status_numbers noted id status front (Some account) none = tt

state_numbers : (noted : Noted) (state : State) (front : ℕ) (lane : Option Lane) → noted.held ≡ [] → noted.lines ≡ front → AllByRecursion (λ pending. pending.line ≡ front + 1) (heard_in state noted lane).held
state_numbers noted state front None none number = subst (AllByRecursion (λ pending. pending.line ≡ front + 1)) (sym none) tt
state_numbers noted state front (Some lane) none number = (ap (λ n. n + 1) number, tt)

numbers : (noted : Noted) (own : Told) (front : ℕ) → noted.held ≡ [] → noted.lines ≡ front → AllByRecursion (λ pending. pending.line ≡ front + 1) (heard noted own).held
numbers noted (told.Record id) front none number = tt
numbers noted (told.State state) front none number = state_numbers noted state front (lane_of state.kind) none number
numbers noted (told.Status id status) front none number = status_numbers noted id status front (account_of noted.ids id noted.accounts.streams) none
numbers noted (told.Other saying) front none number = subst (AllByRecursion (λ pending. pending.line ≡ front + 1)) (sym none) tt

last_held : (b : Bool) (ids : List StreamId) (read : Reading) (events : List Event) (text : List ℕ) (held : List Pending) → IsLastLine ids read events text held → HeldIsLast ids read events (cond b (Some text) None) held
last_held true ids read events text held is = is
last_held false ids read events text held is = tt

pub placed_read : (ids : List StreamId) (start : Saved) (read : Reading) (events : List Event) (noted : Noted) (text : List ℕ) (answer : Verdict) → noted.lines ≡ length (reads events) → noted.held ≡ [] → gives events ≡ texts (passed ids read events)
    → IsLedgerOf ids start read (events ++ event.ReadLine text ∷ []) (held_by answer text) (heard_line noted text (read text)) → ArePlaced ids read events None noted
    → ArePlaced ids read (events ++ event.ReadLine text ∷ []) (held_by answer text) (heard_line noted text (read text))
placed_read ids start read events noted text answer number none given ledger placed =
    let own = told_of side.Source text (read text) in
    record {
      lanes = λ lane. lane_on ids read events (event.ReadLine text) lane (pending_in noted lane) (pending_in (heard noted own) lane) refl (same_behind (pending_in noted lane) (pending_in (heard noted own) lane) (pending_laws.hears noted own lane)) (ledger.waits lane) (placed.lanes lane);
      held = last_held (is_give answer) ids read (events ++ event.ReadLine text ∷ []) text (heard noted own).held
          (record { front = reads events; last = reads_one events (event.ReadLine text); given = same_gives events (event.ReadLine text) refl ∙ given; numbered = numbers noted own (length (reads events)) none number });
    }

-- ---- a line comes back

empty_pending : (found : Option LaneAccount) (over : List Pending) (first : Pending) (rest : List Pending) → pending_of found ≡ over ++ first ∷ rest → is_some found ≡ true
empty_pending (Some account) over first rest is = refl
empty_pending None [] first rest is = absurd (let e : [] ≡ first ∷ rest = is in cc)
empty_pending None (own ∷ over) first rest is = absurd (let e : [] ≡ own ∷ (over ++ first ∷ rest) = is in cc)

left_is : (left : List Pending) (found : Option LaneAccount) → is_some found ≡ true → pending_of (option_map (left_pending left) found) ≡ left
left_is left None known = absurd (false≢true known)
left_is left (Some account) known = refl

back_behind : (noted now : Noted) (got taken : State) (lane : Lane) → TakesBack noted got taken now → Behind (pending_in noted lane) (pending_in now lane)
back_behind noted now got taken lane back = subst (λ (it : Noted). Behind (pending_in noted lane) (pending_in it lane)) (sym back.notes) (by_test (is_lane lane (Some back.lane)) own other)
  where
    changed : Noted
    changed = record noted { accounts = with_lane_account noted.ids noted.accounts back.lane (left_pending back.left) }

    own : is_lane lane (Some back.lane) ≡ true → Behind (pending_in noted lane) (pending_of (lane_in noted.ids (with_lane_account noted.ids noted.accounts back.lane (left_pending back.left)) lane))
    own same =
        let at = lane_is lane back.lane same in
        let takes = back.takes.takes in
        let splits : pending_in noted lane ≡ takes.over ++ back.takes.first ∷ back.left = ap (pending_in noted) at ∙ takes.splits in
        let left : pending_of (lane_in noted.ids (with_lane_account noted.ids noted.accounts back.lane (left_pending back.left)) lane) ≡ back.left =
        ap pending_of (own_lane noted.ids noted.accounts back.lane lane (left_pending back.left) same) ∙ left_is back.left (lane_in noted.ids noted.accounts lane) (empty_pending (lane_in noted.ids noted.accounts lane) takes.over back.takes.first back.left splits) in
        record {
          over = takes.over ++ back.takes.first ∷ [];
          splits = splits ∙ (sym (append_assoc takes.over (back.takes.first ∷ []) back.left) ∙ ap (λ list. (takes.over ++ back.takes.first ∷ []) ++ list) (sym left));
        }

    other : is_lane lane (Some back.lane) ≡ false → Behind (pending_in noted lane) (pending_of (lane_in noted.ids (with_lane_account noted.ids noted.accounts back.lane (left_pending back.left)) lane))
    other differs = same_behind (pending_in noted lane) (pending_of (lane_in noted.ids (with_lane_account noted.ids noted.accounts back.lane (left_pending back.left)) lane)) (ap pending_of (other_lane noted.ids noted.accounts back.lane lane (left_pending back.left) differs))

echoed_behind : (noted now : Noted) (own : Told) (answer : Echoed) (lane : Lane) → IsEchoed noted own answer now → Behind (pending_in noted lane) (pending_in now lane) × (now.held ≡ noted.held)
echoed_behind noted now (told.State got) (echoed.State taken) lane is = (back_behind noted now got taken lane is, ap (λ (it : Noted). it.held) is.notes)
echoed_behind noted now (told.State got) (echoed.Say words) lane is = absurd is
echoed_behind noted now (told.State got) echoed.Nothing lane is = absurd is
echoed_behind noted now (told.State got) (echoed.ConfigError words) lane is = absurd is
echoed_behind noted now (told.Record id) answer lane is = (same_behind (pending_in noted lane) (pending_in now lane) (ap (λ it. pending_in it lane) is.1), ap (λ (it : Noted). it.held) is.1)
echoed_behind noted now (told.Status id status) answer lane is = (same_behind (pending_in noted lane) (pending_in now lane) (ap (λ it. pending_in it lane) is.1), ap (λ (it : Noted). it.held) is.1)
echoed_behind noted now (told.Other saying) answer lane is = (same_behind (pending_in noted lane) (pending_in now lane) (ap (λ it. pending_in it lane) is.1), ap (λ (it : Noted). it.held) is.1)

-- with or without a state that it takes
pub placed_got : (ids : List StreamId) (start : Saved) (read : Reading) (events : List Event) (line : Option (List ℕ)) (noted now : Noted) (text : List ℕ) (answer : Echoed) → IsEchoed noted (told_of side.Dest text (read text)) answer now
    → IsLedgerOf ids start read (events ++ event.Got text ∷ []) line now → ArePlaced ids read events line noted → ArePlaced ids read (events ++ event.Got text ∷ []) line now
placed_got ids start read events line noted now text answer is ledger placed =
    let own = told_of side.Dest text (read text) in
    record {
      lanes = λ lane. lane_on ids read events (event.Got text) lane (pending_in noted lane) (pending_in now lane) refl (echoed_behind noted now own answer lane is).0 (ledger.waits lane) (placed.lanes lane);
      held = subst (HeldIsLast ids read (events ++ event.Got text ∷ []) line) (sym (echoed_behind noted now own answer all is).1) (held_on ids read events line noted.held (event.Got text) refl refl placed.held);
    }

-- ---- the line that is held is given

all_join : (ids : List StreamId) (read : Reading) (events : List Event) (lane : Lane) (pending more : List Pending) (waiting others : List LaneState) → AllPlaced ids read events lane pending waiting → AllPlaced ids read events lane more others → AllPlaced ids read events lane (pending ++ more) (waiting ++ others)
all_join ids read events lane [] more [] others each then = then
all_join ids read events lane [] more (state ∷ waiting) others each then = absurd each
all_join ids read events lane (it ∷ pending) more [] others each then = absurd each
all_join ids read events lane (it ∷ pending) more (state ∷ waiting) others each then = (each.0, all_join ids read events lane pending more waiting others each.1 then)

get_last : {A : Type 0} (front : List A) (x : A) → slice_get (front ++ x ∷ []) (length front) ≡ Some x
get_last [] x = refl
get_last (a ∷ front) x = get_last front x

take_front : {A : Type 0} (front : List A) (x : A) → take (length front) (front ++ x ∷ []) ≡ front
take_front [] x = refl
take_front (a ∷ front) x = ap (λ list. a ∷ list) (take_front front x)

some_is : {A : Type 0} {a b : A} → Some a ≡ Some b → a ≡ b
some_is e = cc

state_known : (ids : List StreamId) (found : Option Message) (state : State) → passes ids found ≡ true → state_in found ≡ Some state → is_known_kind ids state.kind ≡ true
state_known ids (Some (message.State own)) state passed is = subst (λ (it : State). is_known_kind ids it.kind ≡ true) (some_is is) passed
state_known ids None state passed is = absurd (some_none (sym is))
state_known ids (Some other) state passed is = absurd (some_none (sym is))

-- the state of the line, in its lane
one_given : (ids : List StreamId) (read : Reading) (events : List Event) (text : List ℕ) (lane : Lane) (given : List Line) (held : List Pending) (last : IsLastLine ids read events text held) → passes ids (read text) ≡ true → given ≡ filter (λ line. passes ids line.found) (lines_read read last.front)
    → states_pending held ≡ states_in (state_in (read text)) → AllPlaced ids read (events ++ event.Given text ∷ []) lane (pending_of_lane lane held) (of_lane lane (state_of given (state_in (read text))))
one_given ids read events text lane given held last passed given_is are = at (state_in (read text)) refl are
  where
    next : List Event
    next = events ++ event.Given text ∷ []

    lines : reads (events ++ event.Given text ∷ []) ≡ last.front ++ text ∷ []
    lines = same_reads events (event.Given text) refl ∙ last.last

    placed : (pending : Pending) (state : State) (own : Lane) → lane ≡ own → state_in (read text) ≡ Some state → pending.state ≡ state → pending.line ≡ length last.front + 1 → IsPlaced ids read (events ++ event.Given text ∷ []) lane pending (record { lane = own; state = state; before = given })
    placed pending state own of_lane found same line = record {
      of_lane = sym of_lane;
      same = same;
      stands = record {
        number = length last.front;
        is = line;
        text = text;
        at = ap (λ list. slice_get list (length last.front)) lines ∙ get_last last.front text;
        reads_so = found;
        before = given_is ∙ ap (λ list. filter (λ (other : Line). passes ids other.found) (lines_read read list)) (sym (ap (take (length last.front)) lines ∙ take_front last.front text));
      };
      known = state_known ids (read text) state passed found;
    }

    by_lane : (b c : Bool) (pending : Pending) (state : LaneState) → b ≡ c → (b ≡ true → IsPlaced ids read (events ++ event.Given text ∷ []) lane pending state) → AllPlaced ids read (events ++ event.Given text ∷ []) lane (cond b (pending ∷ []) []) (cond c (state ∷ []) [])
    by_lane true true pending state same is = (is refl, tt)
    by_lane false false pending state same is = tt
    by_lane true false pending state same is = absurd (false≢true (sym same))
    by_lane false true pending state same is = absurd (false≢true same)

    in_lane : (state : State) (own : Option Lane) (list : List Pending) → state_in (read text) ≡ Some state → lane_of state.kind ≡ own → states_pending list ≡ with_lane state own → AllByRecursion (λ pending. pending.line ≡ length last.front + 1) list
        → AllPlaced ids read (events ++ event.Given text ∷ []) lane (pending_of_lane lane list) (of_lane lane (state_of_lane given state own))
    in_lane state None [] found of same numbered = tt
    in_lane state None (pending ∷ list) found of same numbered = absurd (let e : pending.state ∷ states_pending list ≡ [] = same in cc)
    in_lane state (Some own) [] found of same numbered = absurd (let e : [] ≡ state ∷ [] = same in cc)
    in_lane state (Some own) (pending ∷ other ∷ list) found of same numbered = absurd (let e : pending.state ∷ other.state ∷ states_pending list ≡ state ∷ [] = same in cc)
    in_lane state (Some own) (pending ∷ []) found of same numbered =
        let e : pending.state ∷ [] ≡ state ∷ [] = same in
        let is : pending.state ≡ state = cc in
        by_lane (is_lane lane (lane_of pending.state.kind)) (is_same_lane lane own) pending (record { lane = own; state = state; before = given })
        (ap (λ (it : State). is_lane lane (lane_of it.kind)) is ∙ (ap (is_lane lane) of ∙ same_lanes lane own)) (λ of_it. placed pending state own (lane_is lane own (sym (ap (λ (it : State). is_lane lane (lane_of it.kind)) is ∙ ap (is_lane lane) of) ∙ of_it)) found is numbered.0)

    empty : (list : List Pending) → states_pending list ≡ [] → list ≡ []
    empty [] none = refl
    empty (pending ∷ list) none = absurd (let e : pending.state ∷ states_pending list ≡ [] = none in cc)

    at : (found : Option State) → state_in (read text) ≡ found → states_pending held ≡ states_in found → AllPlaced ids read (events ++ event.Given text ∷ []) lane (pending_of_lane lane held) (of_lane lane (state_of given found))
    at None is same = subst (λ list. AllPlaced ids read (events ++ event.Given text ∷ []) lane (pending_of_lane lane list) []) (sym (empty held same)) tt
    at (Some state) is same = in_lane state (lane_of state.kind) held is refl same last.numbered

holds_one : (held : List Pending) (found : Option State) → states_pending held ≡ states_in found → HoldsOne held
holds_one [] found are = inl refl
holds_one (pending ∷ []) found are = inr (pending, refl)
holds_one (pending ∷ other ∷ held) found are = absurd (two found are)
  where
    by_lane : (state : State) (own : Option Lane) → pending.state ∷ other.state ∷ states_pending held ≡ with_lane state own → ⊥
    by_lane state None e = cc
    by_lane state (Some lane) e = cc

    two : (it : Option State) → pending.state ∷ other.state ∷ states_pending held ≡ states_in it → ⊥
    two None e = cc
    two (Some state) e = by_lane state (lane_of state.kind) e

-- a lane without an account stays so
no_account : (ids : List StreamId) (accounts : AllAccounts) (lane : Lane) (held : List Pending) → lane_in ids accounts lane ≡ None → lane_in ids (given ids held accounts) lane ≡ None
no_account ids accounts lane [] none = none
no_account ids accounts lane (pending ∷ more) none = at (lane_of pending.state.kind)
  where
    at : (own : Option Lane) → lane_in ids (given_in_lane ids (pending ∷ more) own accounts) lane ≡ None
    at None = none
    at (Some own) = by_test (is_lane lane (Some own))
        (λ same. own_lane ids accounts own lane (with_pending (pending ∷ more)) same ∙ ap (option_map (with_pending (pending ∷ more))) none)
        (λ differs. other_lane ids accounts own lane (with_pending (pending ∷ more)) differs ∙ none)

empty_states : (waiting : List LaneState) → [] ≡ states_waiting waiting → waiting ≡ []
empty_states [] same = refl
empty_states (state ∷ waiting) same = absurd (let e : [] ≡ state.state ∷ states_waiting waiting = same in cc)

pub placed_given : (ids : List StreamId) (start : Saved) (read : Reading) (events : List Event) (noted : Noted) (text : List ℕ) → IsLedgerOf ids start read events (Some text) noted → ArePlaced ids read events (Some text) noted → ArePlaced ids read (events ++ event.Given text ∷ []) None (gave noted)
placed_given ids start read events noted text ledger placed = record { lanes = λ lane. at lane (placed.lanes lane) (lane_in noted.ids noted.accounts lane) refl; held = tt }
  where
    given_is : (lane : Lane) (own : LaneIsPlaced ids read events lane (pending_in noted lane)) → own.waiting.given ≡ filter (λ line. passes ids line.found) (lines_read read placed.held.front)
    given_is lane own = (waits_among read lane events own.waiting own.waits).1 ∙ (ap (lines_read read) placed.held.given ∙ reread read (λ line. passes ids line.found) placed.held.front)

    at : (lane : Lane) (own : LaneIsPlaced ids read events lane (pending_in noted lane)) (account : Option LaneAccount) → lane_in noted.ids noted.accounts lane ≡ account → LaneIsPlaced ids read (events ++ event.Given text ∷ []) lane (pending_in (gave noted) lane)
    at lane own (Some account) is = record {
      waiting = with_given lane (line_read read text) own.waiting;
      waits = leaves_more read lane none_given events (event.Given text) own.waiting (with_given lane (line_read read text) own.waiting) own.waits refl;
      each = subst (λ list. AllPlaced ids read (events ++ event.Given text ∷ []) lane list (own.waiting.states ++ of_lane lane (state_of own.waiting.given (state_in (read text))))) (sym (pending_laws.gives noted lane (ap is_some is) (holds_one noted.held (state_in (read text)) ledger.holds.1)))
          (all_join ids read (events ++ event.Given text ∷ []) lane (pending_in noted lane) (pending_of_lane lane noted.held) own.waiting.states (of_lane lane (state_of own.waiting.given (state_in (read text)))) (all_more ids read events (event.Given text) lane (pending_in noted lane) own.waiting.states own.each)
          (one_given ids read events text lane own.waiting.given noted.held placed.held ledger.holds.0 (given_is lane own) ledger.holds.1));
    }
    at lane own None is =
        let waits = (ledger_gives ids start read events noted text ledger).waits lane in
        let none : pending_in (gave noted) lane ≡ [] = ap pending_of (no_account noted.ids noted.accounts lane noted.held is) in
        record {
          waiting = waits.waiting;
          waits = waits.waits;
          each = subst (λ list. AllPlaced ids read (events ++ event.Given text ∷ []) lane list waits.waiting.states) (sym none) (subst (AllPlaced ids read (events ++ event.Given text ∷ []) lane []) (sym (empty_states waits.waiting.states (sym (ap states_pending none) ∙ waits.same))) tt);
        }

-- ---- a line that is no state is given, of which the ledger does not hear

pub placed_other : (ids : List StreamId) (read : Reading) (events : List Event) (noted : Noted) (text : List ℕ) → state_in (read text) ≡ None → ArePlaced ids read events None noted → ArePlaced ids read (events ++ event.Given text ∷ []) None noted
placed_other ids read events noted text none placed = record {
  lanes = λ lane.
      let own = placed.lanes lane in
      record {
        waiting = with_given lane (line_read read text) own.waiting;
        waits = leaves_more read lane none_given events (event.Given text) own.waiting (with_given lane (line_read read text) own.waiting) own.waits refl;
        each = subst (AllPlaced ids read (events ++ event.Given text ∷ []) lane (pending_in noted lane)) (sym (ap (λ found. own.waiting.states ++ of_lane lane (state_of own.waiting.given found)) none ∙ append-nil own.waiting.states))
            (all_more ids read events (event.Given text) lane (pending_in noted lane) own.waiting.states own.each);
      };
  held = tt;
}

-- ---- an attempt begins

empty_pending_states : (pending : List Pending) → states_pending pending ≡ [] → pending ≡ []
empty_pending_states [] same = refl
empty_pending_states (pending ∷ more) same = absurd (let e : pending.state ∷ states_pending more ≡ [] = same in cc)

pub placed_first : (ids : List StreamId) (start : Saved) (read : Reading) (noted : Noted) → IsLedgerOf ids start read [] None noted → ArePlaced ids read [] None noted
placed_first ids start read noted ledger = record {
  lanes = λ lane.
      let own = ledger.waits lane in
      let none : own.waiting.states ≡ [] = ap (λ (it : Waiting). it.states) own.waits in
      record {
        waiting = own.waiting;
        waits = own.waits;
        each = subst (λ list. AllPlaced ids read [] lane list own.waiting.states) (sym (empty_pending_states (pending_in noted lane) (own.same ∙ ap states_waiting none))) (subst (AllPlaced ids read [] lane []) (sym none) tt);
      };
  held = tt;
}
