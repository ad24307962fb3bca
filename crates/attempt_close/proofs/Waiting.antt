-- The first state that is pending in a ledger is the first that waits.
use Rattle.std.proofs.Common.{arith, ◌≡◌, ◌⊎◌, inl, inr, ℕ, zero, suc, ◌+◌, min, ◌<◌, ◌≤◌, List, [], ◌∷◌, ◌++◌, Bool, true, false, cond, Option, None, Some, refl, sym, ◌∙◌, ap, subst, filter, take, length, map, fold}
use Rattle.std.specs.Prelude.{slice_get, option_map, flat_map}
use Rattle.std.specs.List.{AllByRecursion}
use Rattle.std.proofs.lemmas.Bool.{false≢true}
use Rattle.basics.specs.declared.stream.StreamId.{StreamId}
use Rattle.stream_index.specs.Distinct.{AreDistinct}
use Rattle.stream_index.specs.Same.{is_same_stream}
use Rattle.stream_index.proofs.IndexLemmas.{Decides-stream}
use Rattle.outside.specs.declared.event.Event.{Event}
use Rattle.airbyte_message.specs.Lanes.{Lane, one, all}
use Rattle.airbyte_message.specs.State.{State}
use Rattle.airbyte_message.specs.declared.message.Message.{Message}
use Rattle.airbyte_message.specs.declared.message.Message.TheVariants as message
use Rattle.dedup_merge.proofs.SameRowLemmas.{Has, has_from, has_to}
use Rattle.load_rules.specs.Lines.{Line, Reading, is_known_kind, line_read, lines_read, passes, state_in}
use Rattle.load_rules.specs.Taken.{LaneState}
use Rattle.load_rules.specs.Attempts.{reads, Waiting, none_given, LeavesAll}
use Rattle.state_kinds.specs.Saved.{Saved}
use Rattle.sync_rules.proofs.Rising.{leaves_all_one}
use Rattle.sync_ledger.specs.Accounts.{account_of, all_pending, lane_in, pending_of}
use Rattle.sync_ledger.specs.Lists.{AllStreams, IsAccountOf}
use Rattle.sync_ledger.specs.Noted.{Noted, least_line, lesser, pending_in}
use Rattle.sync_ledger.specs.declared.accounts.Account.{Account}
use Rattle.sync_ledger.specs.declared.pending.Pending.{Pending}
use Rattle.sync_ledger.specs.declared.told.Told.{Told}
use Rattle.ledger_rules.specs.Ledgers.{IsLedgerOf, told_read}
use Rattle.ledger_rules.proofs.Same.{by_test}
use Rattle.attempt_turns.specs.Placed.{AllPlaced, ArePlaced, IsPlaced, LaneIsPlaced}
use Rattle.attempt_turns.specs.Waits.{IsFirst, IsFirstWaiting, StandsIn, WaitsIn}

-- ---- elements

has_left : {A : Type 0} (x : A) (xs ys : List A) → Has x xs → Has x (xs ++ ys)
has_left x [] ys has = absurd has
has_left x (y ∷ xs) ys (inl same) = inl same
has_left x (y ∷ xs) ys (inr more) = inr (has_left x xs ys more)

has_right : {A : Type 0} (x : A) (xs ys : List A) → Has x ys → Has x (xs ++ ys)
has_right x [] ys has = has
has_right x (y ∷ xs) ys has = inr (has_right x xs ys has)

has_parts : {A : Type 0} (x : A) (xs ys : List A) → Has x (xs ++ ys) → Has x xs ⊎ Has x ys
has_parts x [] ys has = inr has
has_parts x (y ∷ xs) ys (inl same) = inl (inl same)
has_parts x (y ∷ xs) ys (inr more) = at (has_parts x xs ys more)
  where
    at : Has x xs ⊎ Has x ys → ((y ≡ x) ⊎ Has x xs) ⊎ Has x ys
    at (inl first) = inl (inr first)
    at (inr last) = inr last

-- ---- the states of all lanes

abbrev streams_pending : List Account → List Pending
streams_pending accounts = flat_map (λ account. account.lane.pending) accounts

stream_among : (ids : List StreamId) (accounts : List Account) (id : StreamId) (it : Pending) → Has it (pending_of (option_map (λ account. account.lane) (account_of ids id accounts))) → Has it (streams_pending accounts)
stream_among [] accounts id it has = absurd has
stream_among (own ∷ ids) [] id it has = absurd has
stream_among (own ∷ ids) (account ∷ accounts) id it has = at (is_same_stream own id) has (λ there. stream_among ids accounts id it there)
  where
    at : (b : Bool) → Has it (pending_of (option_map (λ account. account.lane) (cond b (Some account) (account_of ids id accounts))))
        → (Has it (pending_of (option_map (λ account. account.lane) (account_of ids id accounts))) → Has it (streams_pending accounts)) → Has it (account.lane.pending ++ streams_pending accounts)
    at true here later = has_left it account.lane.pending (streams_pending accounts) here
    at false there later = has_right it account.lane.pending (streams_pending accounts) (later there)

among_all : (noted : Noted) (lane : Lane) (it : Pending) → Has it (pending_in noted lane) → Has it (all_pending noted.accounts)
among_all noted (one id) it has = has_left it (streams_pending noted.accounts.streams) noted.accounts.global.pending (stream_among noted.ids noted.accounts.streams id it has)
among_all noted all it has = has_right it (streams_pending noted.accounts.streams) noted.accounts.global.pending has

-- a stream's account has its states, where no stream stands twice
record InStream (ids : List StreamId) (accounts : List Account) (it : Pending) : Type 0 where
  pub number : ℕ
  pub id : StreamId
  pub at : slice_get ids number ≡ Some id
  pub has : Has it (pending_of (option_map (λ account. account.lane) (account_of ids id accounts)))

distinct_rest : (own : StreamId) (ids : List StreamId) → AreDistinct (own ∷ ids) → AreDistinct ids
distinct_rest own ids distinct i j item first then = (let same = distinct (suc i) (suc j) item first then in omega (arith, same))

in_stream : (lines : List Told) (ids : List StreamId) (accounts : List Account) (it : Pending) → AreDistinct ids → AllStreams (λ id account. IsAccountOf id lines account) ids accounts → Has it (streams_pending accounts) → InStream ids accounts it
in_stream lines [] accounts it distinct each has = absurd (subst (λ list. Has it (streams_pending list)) each has)
in_stream lines (own ∷ ids) [] it distinct each has = absurd each
in_stream lines (own ∷ ids) (account ∷ accounts) it distinct each has = at (has_parts it account.lane.pending (streams_pending accounts) has) (λ there. in_stream lines ids accounts it (distinct_rest own ids distinct) each.1 there)
  where
    later : InStream ids accounts it → InStream (own ∷ ids) (account ∷ accounts) it
    later rest = record {
      number = suc rest.number;
      id = rest.id;
      at = rest.at;
      has = by_test (is_same_stream own rest.id)
          (λ same. absurd (let twice = distinct zero (suc rest.number) own refl (rest.at ∙ ap (λ id. Some id) (sym ((Decides-stream own rest.id).0 same))) in omega (arith, twice)))
          (λ differs. subst (λ b. Has it (pending_of (option_map (λ account. account.lane) (cond b (Some account) (account_of ids rest.id accounts))))) (sym differs) rest.has);
    }

    at : Has it account.lane.pending ⊎ Has it (streams_pending accounts) → (Has it (streams_pending accounts) → InStream ids accounts it) → InStream (own ∷ ids) (account ∷ accounts) it
    at (inl here) rest = record {
      number = zero;
      id = own;
      at = refl;
      has = subst (λ b. Has it (pending_of (option_map (λ account. account.lane) (cond b (Some account) (account_of ids own accounts))))) (sym ((Decides-stream own own).1 refl)) here;
    }
    at (inr there) rest = later (rest there)

record InLane (noted : Noted) (it : Pending) : Type 0 where
  pub lane : Lane
  pub has : Has it (pending_in noted lane)

in_lane : (lines : List Told) (noted : Noted) (it : Pending) → AreDistinct noted.ids → AllStreams (λ id account. IsAccountOf id lines account) noted.ids noted.accounts.streams → Has it (all_pending noted.accounts) → InLane noted it
in_lane lines noted it distinct each has = at (has_parts it (streams_pending noted.accounts.streams) noted.accounts.global.pending has)
  where
    at : Has it (streams_pending noted.accounts.streams) ⊎ Has it noted.accounts.global.pending → InLane noted it
    at (inl own) = (let found = in_stream lines noted.ids noted.accounts.streams it distinct each own in record { lane = one found.id; has = found.has })
    at (inr global) = record { lane = all; has = global }

-- ---- the least line

-- a line that is the least of these, with the pending state that has it
record IsLeast (line : ℕ) (states : List Pending) : Type 0 where
  pub it : Pending
  pub has : Has it states
  pub is : it.line ≡ line
  pub least : (other : Pending) → Has other states → line ≤ other.line

some_is : {A : Type 0} {a b : A} → Some a ≡ Some b → a ≡ b
some_is e = cc

none_some : {A : Type 0} {a : A} → None ≡ Some a → ⊥
none_some e = cc

record LeastOf (least line : ℕ) (states : List Pending) : Type 0 where
  pub within : line ≤ least
  pub all : (other : Pending) → Has other states → line ≤ other.line
  pub is : (line ≡ least) ⊎ ((it : Pending) × Has it states × (it.line ≡ line))

least_of : (least line : ℕ) (states : List Pending) → least_line (Some least) states ≡ Some line → LeastOf least line states
least_of least line [] is = record { within = (let same : least ≡ line = some_is is in omega (arith, same)); all = λ other has. absurd has; is = inl (sym (some_is is)) }
least_of least line (own ∷ states) is =
    let rest = least_of (min least own.line) line states is in
    let low = rest.within in
    record {
      within = omega (arith, low);
      all = λ other has. by rest other has;
      is = at rest rest.is;
    }
  where
    by : LeastOf (min least own.line) line states → (other : Pending) → (own ≡ other) ⊎ Has other states → line ≤ other.line
    by rest other (inl same) = subst (λ (it : Pending). line ≤ it.line) same (let low = rest.within in omega (arith, low))
    by rest other (inr more) = rest.all other more

    lesser_is : (line ≡ least) ⊎ (line ≡ own.line) → (line ≡ least) ⊎ ((it : Pending) × ((own ≡ it) ⊎ Has it states) × (it.line ≡ line))
    lesser_is (inl same) = inl same
    lesser_is (inr same) = inr (own, inl refl, sym same)

    either_min : (a b c : ℕ) → c ≡ min a b → (c ≡ a) ⊎ (c ≡ b)
    either_min a b c same = two (le_or a b)
      where
        le_or : (m n : ℕ) → (m ≤ n) ⊎ (n ≤ m)
        le_or zero n = inl (omega arith)
        le_or (suc m) zero = inr (omega arith)
        le_or (suc m) (suc n) = shift (le_or m n)
          where
            shift : (m ≤ n) ⊎ (n ≤ m) → (suc m ≤ suc n) ⊎ (suc n ≤ suc m)
            shift (inl below) = inl (omega (arith, below))
            shift (inr above) = inr (omega (arith, above))

        two : (a ≤ b) ⊎ (b ≤ a) → (c ≡ a) ⊎ (c ≡ b)
        two (inl below) = inl (omega (arith, same, below))
        two (inr above) = inr (omega (arith, same, above))

    at : LeastOf (min least own.line) line states → (line ≡ min least own.line) ⊎ ((it : Pending) × Has it states × (it.line ≡ line)) → (line ≡ least) ⊎ ((it : Pending) × ((own ≡ it) ⊎ Has it states) × (it.line ≡ line))
    at rest (inl same) = lesser_is (either_min least own.line line same)
    at rest (inr (it, has, same)) = inr (it, inr has, same)

is_least : (states : List Pending) (line : ℕ) → least_line None states ≡ Some line → IsLeast line states
is_least [] line is = absurd (none_some is)
is_least (own ∷ states) line is = at (least_of own.line line states is)
  where
    at : LeastOf own.line line states → IsLeast line (own ∷ states)
    at rest = by rest.is
      where
        least : (other : Pending) → (own ≡ other) ⊎ Has other states → line ≤ other.line
        least other (inl same) = subst (λ (it : Pending). line ≤ it.line) same rest.within
        least other (inr more) = rest.all other more

        by : (line ≡ own.line) ⊎ ((it : Pending) × Has it states × (it.line ≡ line)) → IsLeast line (own ∷ states)
        by (inl same) = record { it = own; has = inl refl; is = sym same; least = least }
        by (inr (it, has, same)) = record { it = it; has = inr has; is = same; least = least }

none_least : (states : List Pending) → least_line None states ≡ None → states ≡ []
none_least [] is = refl
none_least (own ∷ states) is = absurd (some_line own.line states is)
  where
    some_line : (least : ℕ) (more : List Pending) → least_line (Some least) more ≡ None → ⊥
    some_line least [] none = none_some (sym none)
    some_line least (it ∷ more) none = some_line (min least it.line) more none

-- ---- one by one

record PlacedWith (ids : List StreamId) (read : Reading) (events : List Event) (lane : Lane) (it : Pending) (waiting : List LaneState) : Type 0 where
  pub state : LaneState
  pub has : Has state waiting
  pub placed : IsPlaced ids read events lane it state

with_state : (ids : List StreamId) (read : Reading) (events : List Event) (lane : Lane) (pending : List Pending) (waiting : List LaneState) (it : Pending) → AllPlaced ids read events lane pending waiting → Has it pending → PlacedWith ids read events lane it waiting
with_state ids read events lane [] waiting it each has = absurd has
with_state ids read events lane (own ∷ pending) [] it each has = absurd each
with_state ids read events lane (own ∷ pending) (state ∷ waiting) it each (inl same) = record { state = state; has = inl refl; placed = subst (λ other. IsPlaced ids read events lane other state) same each.0 }
with_state ids read events lane (own ∷ pending) (state ∷ waiting) it each (inr more) =
    let rest = with_state ids read events lane pending waiting it each.1 more in
    record { state = rest.state; has = inr rest.has; placed = rest.placed }

record PlacedFor (ids : List StreamId) (read : Reading) (events : List Event) (lane : Lane) (pending : List Pending) (state : LaneState) : Type 0 where
  pub it : Pending
  pub has : Has it pending
  pub placed : IsPlaced ids read events lane it state

with_pending : (ids : List StreamId) (read : Reading) (events : List Event) (lane : Lane) (pending : List Pending) (waiting : List LaneState) (state : LaneState) → AllPlaced ids read events lane pending waiting → Has state waiting → PlacedFor ids read events lane pending state
with_pending ids read events lane pending [] state each has = absurd has
with_pending ids read events lane [] (own ∷ waiting) state each has = absurd each
with_pending ids read events lane (it ∷ pending) (own ∷ waiting) state each (inl same) = record { it = it; has = inl refl; placed = subst (IsPlaced ids read events lane it) same each.0 }
with_pending ids read events lane (it ∷ pending) (own ∷ waiting) state each (inr more) =
    let rest = with_pending ids read events lane pending waiting state each.1 more in
    record { it = rest.it; has = inr rest.has; placed = rest.placed }

-- ---- a state stands in one line

state_passes : (ids : List StreamId) (found : Option Message) (state : State) → state_in found ≡ Some state → is_known_kind ids state.kind ≡ true → passes ids found ≡ true
state_passes ids (Some (message.State own)) state is known = subst (λ (it : State). is_known_kind ids it.kind ≡ true) (sym (some_is is)) known
state_passes ids None state is known = absurd (none_some is)
state_passes ids (Some other) state is known = absurd (none_some is)

abbrev passing : List StreamId → Reading → List (List ℕ) → List Line
passing ids read list = filter (λ line. passes ids line.found) (lines_read read list)

one_more : (ids : List StreamId) (read : Reading) (list : List (List ℕ)) (m n : ℕ) (text : List ℕ) → m < n → slice_get list m ≡ Some text → passes ids (read text) ≡ true → length (passing ids read (take m list)) < length (passing ids read (take n list))
one_more ids read [] m n text less at passed = absurd (none_some at)
one_more ids read (x ∷ list) zero zero text less at passed = absurd (omega (arith, less))
one_more ids read (x ∷ list) zero (suc n) text less at passed = by (passes ids (read x)) (ap (λ it. passes ids (read it)) (some_is at) ∙ passed)
  where
    by : (b : Bool) → b ≡ true → 0 < length (cond b (line_read read x ∷ passing ids read (take n list)) (passing ids read (take n list)))
    by true is = omega arith
    by false is = absurd (false≢true is)
one_more ids read (x ∷ list) (suc m) zero text less at passed = absurd (omega (arith, less))
one_more ids read (x ∷ list) (suc m) (suc n) text less at passed = by (passes ids (read x)) (one_more ids read list m n text (omega (arith, less)) at passed)
  where
    by : (b : Bool) → length (passing ids read (take m list)) < length (passing ids read (take n list))
        → length (cond b (line_read read x ∷ passing ids read (take m list)) (passing ids read (take m list))) < length (cond b (line_read read x ∷ passing ids read (take n list)) (passing ids read (take n list)))
    by true rest = omega (arith, rest)
    by false rest = rest

not_before : (ids : List StreamId) (read : Reading) (events : List Event) (line at : ℕ) (state : LaneState) → is_known_kind ids state.state.kind ≡ true → StandsIn ids read events line state → StandsIn ids read events at state → line ≤ at
not_before ids read events line at state known own other = by (before other.number own.number)
  where
    before : (m n : ℕ) → (m < n) ⊎ (n ≤ m)
    before m zero = inr (omega arith)
    before zero (suc n) = inl (omega arith)
    before (suc m) (suc n) = shift (before m n)
      where
        shift : (m < n) ⊎ (n ≤ m) → (suc m < suc n) ⊎ (suc n ≤ suc m)
        shift (inl less) = inl (omega (arith, less))
        shift (inr above) = inr (omega (arith, above))

    by : (other.number < own.number) ⊎ (own.number ≤ other.number) → line ≤ at
    by (inl less) =
        let more = one_more ids read (reads events) other.number own.number other.text less other.at (state_passes ids (read other.text) state.state other.reads_so known) in
        let same : length (passing ids read (take other.number (reads events))) ≡ length (passing ids read (take own.number (reads events))) = ap length (sym other.before ∙ own.before) in
        absurd (omega (arith, more, same))
    by (inr above) = (let own_is = own.is in let other_is = other.is in omega (arith, above, own_is, other_is))

-- ---- the first that waits

-- a state that waits is pending
found_pending : (ids : List StreamId) (read : Reading) (events : List Event) (line : Option (List ℕ)) (noted : Noted) (state : LaneState) → ArePlaced ids read events line noted → WaitsIn read events state → PlacedFor ids read events state.lane (pending_in noted state.lane) state
found_pending ids read events line noted state placed waits =
    let own = placed.lanes state.lane in
    let same = leaves_all_one read state.lane none_given events waits.waiting own.waiting waits.waits own.waits in
    with_pending ids read events state.lane (pending_in noted state.lane) own.waiting.states state own.each (subst (λ (it : Waiting). Has state it.states) same (has_from waits.waiting.states state waits.among))

none_waits : (ids : List StreamId) (read : Reading) (events : List Event) (line : Option (List ℕ)) (noted : Noted) → ArePlaced ids read events line noted → all_pending noted.accounts ≡ [] → IsFirstWaiting ids read events None
none_waits ids read events line noted placed none state waits =
    let found = found_pending ids read events line noted state placed waits in
    subst (Has found.it) none (among_all noted state.lane found.it found.has)

first_waits : (ids : List StreamId) (start : Saved) (read : Reading) (events : List Event) (line : Option (List ℕ)) (noted : Noted) (least : ℕ) → AreDistinct ids → IsLedgerOf ids start read events line noted → ArePlaced ids read events line noted → IsLeast least (all_pending noted.accounts)
    → IsFirst ids read events least
first_waits ids start read events line noted least distinct ledger placed is =
    let found = in_lane (map (told_read read) (reads events)) noted is.it (subst AreDistinct (sym ledger.ids_are) distinct) ledger.heard.accounts is.has in
    let own = placed.lanes found.lane in
    let with = with_state ids read events found.lane (pending_in noted found.lane) own.waiting.states is.it own.each found.has in
    record {
      state = with.state;
      waits = record {
        waiting = own.waiting;
        waits = subst (λ lane. LeavesAll read lane none_given events own.waiting) (sym with.placed.of_lane) own.waits;
        among = has_to own.waiting.states with.state with.has;
      };
      stands = subst (λ n. StandsIn ids read events n with.state) is.is with.placed.stands;
      first = λ other at waits stands.
          let pending = found_pending ids read events line noted other placed waits in
          let low = is.least pending.it (among_all noted other.lane pending.it pending.has) in
          let near = not_before ids read events pending.it.line at other pending.placed.known pending.placed.stands stands in
          omega (arith, low, near);
    }

pub first_waiting : (ids : List StreamId) (start : Saved) (read : Reading) (events : List Event) (line : Option (List ℕ)) (noted : Noted) (least : Option ℕ) → AreDistinct ids → IsLedgerOf ids start read events line noted → ArePlaced ids read events line noted
    → least_line None (all_pending noted.accounts) ≡ least → IsFirstWaiting ids read events least
first_waiting ids start read events line noted None distinct ledger placed is = none_waits ids read events line noted placed (none_least (all_pending noted.accounts) is)
first_waiting ids start read events line noted (Some least) distinct ledger placed is = first_waits ids start read events line noted least distinct ledger placed (is_least (all_pending noted.accounts) least is)
