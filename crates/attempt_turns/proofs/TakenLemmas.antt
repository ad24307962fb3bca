-- A state that a line takes was given, so it was passed on.
use Rattle.std.proofs.Common.{arith, ◌≡◌, ◌⊎◌, inl, inr, ℕ, List, [], ◌∷◌, ◌++◌, Bool, true, false, cond, Option, None, Some, refl, sym, ◌∙◌, ap, subst, append_assoc, append-nil, filter_map}
use Rattle.std.specs.Prelude.{filter, is_none, map}
use Rattle.std.specs.List.{AllByRecursion, cons_option}
use Rattle.std.specs.Fmt.{decimal}
use Rattle.std.proofs.lemmas.List.{map-append}
use Rattle.std.proofs.lemmas.List.Elements.{filter_map-append}
use Rattle.json_fields.specs.Answer.{IsAnswer}
use Rattle.json_fields.specs.Parts.{IsNumber}
use Rattle.json_write.proofs.Numerals.{decimal_literal}
use Rattle.basics.specs.declared.stream.StreamId.{StreamId}
use Rattle.outside.specs.Event.{given_in, read_over}
use Rattle.outside.specs.declared.event.Event.{Event}
use Rattle.outside.specs.declared.event.Event.TheVariants.{Opened, Took, TookEnd, Committed, Emitted, Merged, Shown, Started, ReadLine, ReadEnd, Given, Closed, Got, GotEnd, Saved, Ended}
use Rattle.airbyte_message.specs.Lanes.{Lane, all}
use Rattle.airbyte_message.specs.Messages.{IsMessage}
use Rattle.airbyte_message.specs.State.{State}
use Rattle.airbyte_message.specs.declared.message.Message.{Message}
use Rattle.airbyte_message.specs.declared.message.Message.TheVariants as message
use Rattle.airbyte_message.specs.declared.message.TraceMsg.TheVariants as trace
use Rattle.airbyte_message.specs.declared.stream_status.StreamStatus.TheVariants.{Complete}
use Rattle.message_writer.specs.Forms.{HasNames}
use Rattle.message_writer.proofs.Payloads.{written_is}
use Rattle.dedup_merge.proofs.SameRowLemmas.{Has, has_passed}
use Rattle.load_rules.specs.Lines.{IsReading, Line, Reading, ReadsEvent, ReadsText, line_read, lines_read, passes, state_in}
use Rattle.load_rules.specs.Taken.{LaneState, is_same_lane, of_lane, state_of, states, states_behind}
use Rattle.load_rules.specs.Finished.{last_status}
use Rattle.load_rules.specs.Attempts.{reads, gives, passed, Waiting, none_given, with_given, StateLeaves, LineLeaves, Leaves, LeavesAll, TakesState}
use Rattle.load_rules.proofs.Machines.{states-one}
use Rattle.load_rules.proofs.TakenLists.{states-append}
use Rattle.sync_rules.specs.Sync.{completion, completions, texts, to_give, untold}
use Rattle.sync_rules.proofs.KindLemmas.{all_has, has_back, has_front, has_map, has_parts, heads, tails}

-- ---- which events change what waits

-- the event is none of those, and gives nothing
abbrev pub Leaving : Reading → Lane → Event → Type 0
Leaving read lane event = ((waiting left : Waiting) → Leaves read lane waiting event left → left ≡ waiting) × (given_in event ≡ None)

abbrev pub IsOneOf : Reading → Lane → Event → Type 0
IsOneOf read lane event = ((text : List ℕ) × (event ≡ Given text)) ⊎ (((text : List ℕ) × (event ≡ Got text)) ⊎ Leaving read lane event)

pub one_of : (read : Reading) (lane : Lane) (event : Event) → IsOneOf read lane event
one_of read lane (Opened x y z) = inr (inr (λ waiting left same. same, refl))
one_of read lane (Took x) = inr (inr (λ waiting left same. same, refl))
one_of read lane TookEnd = inr (inr (λ waiting left same. same, refl))
one_of read lane (Committed x y) = inr (inr (λ waiting left same. same, refl))
one_of read lane (Emitted x) = inr (inr (λ waiting left same. same, refl))
one_of read lane (Merged x y z) = inr (inr (λ waiting left same. same, refl))
one_of read lane (Shown x y z) = inr (inr (λ waiting left same. same, refl))
one_of read lane (Started x) = inr (inr (λ waiting left same. same, refl))
one_of read lane (ReadLine x) = inr (inr (λ waiting left same. same, refl))
one_of read lane ReadEnd = inr (inr (λ waiting left same. same, refl))
one_of read lane (Given x) = inl (x, refl)
one_of read lane Closed = inr (inr (λ waiting left same. same, refl))
one_of read lane (Got x) = inr (inl (x, refl))
one_of read lane GotEnd = inr (inr (λ waiting left same. same, refl))
one_of read lane (Saved x) = inr (inr (λ waiting left same. same, refl))
one_of read lane (Ended x) = inr (inr (λ waiting left same. same, refl))

-- ---- what waits stands among the lines that were given

abbrev pub AreAmong : Waiting → Type 0
AreAmong waiting = (state : LaneState) → Has state waiting.states → Has state (states waiting.given)

among_given : (lane : Lane) (waiting : Waiting) (line : Line) → AreAmong waiting → AreAmong (with_given lane line waiting)
among_given lane waiting line among state has = subst (Has state) (sym (states-one waiting.given line)) (at (has_parts state waiting.states (of_lane lane (state_of waiting.given (state_in line.found))) has))
  where
    at : Has state waiting.states ⊎ Has state (of_lane lane (state_of waiting.given (state_in line.found))) → Has state (states waiting.given ++ state_of waiting.given (state_in line.found))
    at (inl old) = has_front state (states waiting.given) (state_of waiting.given (state_in line.found)) (among state old)
    at (inr new) = has_back state (states waiting.given) (state_of waiting.given (state_in line.found)) (has_passed (λ it. is_same_lane lane it.lane) state (state_of waiting.given (state_in line.found)) new).0

state_leaves : (waiting : List LaneState) (got : State) (left : List LaneState) (state : LaneState) → StateLeaves waiting got left → Has state left → Has state waiting
state_leaves waiting got left state (inl none) has = subst (Has state) none.1 has
state_leaves waiting got left state (inr (first, takes)) has = subst (Has state) (sym takes.splits) (has_back state takes.over (first ∷ left) (inr has))

line_leaves : (waiting list left : List LaneState) (state : LaneState) → LineLeaves waiting list left → Has state left → Has state waiting
line_leaves waiting [] left state leaves has = subst (Has state) leaves has
line_leaves waiting (back ∷ more) left state (between, leaves, rest) has = state_leaves waiting back.state between state leaves (line_leaves between more left state rest has)

-- so far, and the given lines are these
abbrev pub GoesAmong : Reading → Waiting → Event → Waiting → Type 0
GoesAmong read waiting event left = AreAmong left × (left.given ≡ waiting.given ++ lines_read read (filter_map given_in (event ∷ [])))

same_among : (read : Reading) (waiting : Waiting) (event : Event) (left : Waiting) → left ≡ waiting → given_in event ≡ None → AreAmong waiting → GoesAmong read waiting event left
same_among read waiting event left same none among = (
  subst AreAmong (sym same) among,
  ap (λ (it : Waiting). it.given) same ∙ (sym (append-nil waiting.given) ∙ ap (λ found. waiting.given ++ lines_read read (cons_option found [])) (sym none)),
)

among_step : (read : Reading) (lane : Lane) (waiting : Waiting) (event : Event) (left : Waiting) → Leaves read lane waiting event left → AreAmong waiting → GoesAmong read waiting event left
among_step read lane waiting event left leaves among = at (one_of read lane event)
  where
    given : (text : List ℕ) → Leaves read lane waiting (Given text) left → GoesAmong read waiting (Given text) left
    given text is = (subst AreAmong (sym is) (among_given lane waiting (line_read read text) among), ap (λ (it : Waiting). it.given) is)

    got : (text : List ℕ) → Leaves read lane waiting (Got text) left → GoesAmong read waiting (Got text) left
    got text is = (
      λ state has. subst (λ list. Has state (states list)) (sym is.0) (among state (line_leaves waiting.states (of_lane lane (states (line_read read text ∷ []))) left.states state is.1 has)),
      is.0 ∙ sym (append-nil waiting.given),
    )

    at : IsOneOf read lane event → GoesAmong read waiting event left
    at (inl (text, is)) = subst (λ it. GoesAmong read waiting it left) (sym is) (given text (subst (λ it. Leaves read lane waiting it left) is leaves))
    at (inr (inl (text, is))) = subst (λ it. GoesAmong read waiting it left) (sym is) (got text (subst (λ it. Leaves read lane waiting it left) is leaves))
    at (inr (inr leaving)) = same_among read waiting event left (leaving.0 waiting left leaves) leaving.1 among

among_all : (read : Reading) (lane : Lane) (waiting : Waiting) (events : List Event) (left : Waiting) → LeavesAll read lane waiting events left → AreAmong waiting → AreAmong left × (left.given ≡ waiting.given ++ lines_read read (gives events))
among_all read lane waiting [] left leaves among = (subst AreAmong (sym leaves) among, ap (λ (it : Waiting). it.given) leaves ∙ sym (append-nil waiting.given))
among_all read lane waiting (event ∷ events) left (between, leaves, rest) among =
    let first = among_step read lane waiting event between leaves among in
    let deeper = among_all read lane between events left rest first.0 in
    let own = lines_read read (filter_map given_in (event ∷ [])) in (
      deeper.0,
      deeper.1 ∙ (ap (λ list. list ++ lines_read read (gives events)) first.1
          ∙ (append_assoc waiting.given own (lines_read read (gives events))
          ∙ ap (λ list. waiting.given ++ list) (sym (ap (lines_read read) (filter_map-append given_in (event ∷ []) events) ∙ map-append (line_read read) (filter_map given_in (event ∷ [])) (gives events))))),
    )

-- what waits behind events was given in them
pub waits_among : (read : Reading) (lane : Lane) (events : List Event) (waiting : Waiting) → LeavesAll read lane none_given events waiting → AreAmong waiting × (waiting.given ≡ lines_read read (gives events))
waits_among read lane events waiting leaves = among_all read lane none_given events waiting leaves (λ state has. absurd has)

pub taken_among : (read : Reading) (events : List Event) (back taken : LaneState) → TakesState read events back taken → Has taken (states (lines_read read (gives events)))
taken_among read events back taken takes =
    let whole = waits_among read back.lane events takes.waiting takes.waits in
    subst (λ list. Has taken (states list)) whole.1 (whole.0 taken (subst (Has taken) (sym takes.takes.splits) (has_back taken takes.takes.over (taken ∷ takes.rest) (inl refl))))

-- ---- completions are no states

-- a text that was given in this event, or in those behind it
given_in_one : (read : Reading) (event : Event) (events : List Event) (text : List ℕ) → ReadsEvent read event → (Has text (gives events) → ReadsText read text) → Has text (cons_option (given_in event) (gives events)) → ReadsText read text
given_in_one read event events text right behind has = at (one_of read all event)
  where
    here : (own : List ℕ) → event ≡ Given own → Has text (own ∷ gives events) → ReadsText read text
    here own is (inl same) = subst (ReadsText read) same (subst (ReadsEvent read) is right)
    here own is (inr more) = behind more

    onward : given_in event ≡ None → ReadsText read text
    onward none = behind (subst (λ found. Has text (cons_option found (gives events))) none has)

    at : IsOneOf read all event → ReadsText read text
    at (inl (own, is)) = here own is (subst (λ it. Has text (cons_option (given_in it) (gives events))) is has)
    at (inr (inl (own, is))) = onward (ap given_in is)
    at (inr (inr leaving)) = onward leaving.1

pub reads_given : (read : Reading) (events : List Event) (text : List ℕ) → IsReading read events → Has text (gives events) → ReadsText read text
reads_given read [] text right has = absurd has
reads_given read (event ∷ events) text right has = given_in_one read event events text right.0 (λ more. reads_given read events text right.1 more) has

-- the number of a completion is 0
zero_number : IsNumber (decimal 0)
zero_number = (let whole = decimal_literal 0 (omega arith) in record { literal = whole.literal; spelled = whole.spelled })

pub completion_none : (read : Reading) (id : StreamId) → HasNames id → ReadsText read (completion id) → state_in (read (completion id)) ≡ None
completion_none read id names right = at (read (completion id)) right
  where
    is : IsMessage (completion id) (message.Trace (trace.Status id Complete (Some (decimal 0))))
    is = written_is (message.Trace (trace.Status id Complete (Some (decimal 0)))) (record { names = names; number = zero_number })

    at : (found : Option Message) → IsAnswer (IsMessage (completion id)) found → state_in found ≡ None
    at None answer = refl
    at (Some other) answer = ap (λ it. state_in (Some it)) (sym (answer.only (message.Trace (trace.Status id Complete (Some (decimal 0)))) is))

completed_none : (ids : List StreamId) (read : Reading) (events : List Event) (text : List ℕ) → AllByRecursion HasNames ids → ReadsText read text → Has text (completions ids read events) → state_in (read text) ≡ None
completed_none ids read events text names right has = at (read_over events) has
  where
    at : (b : Bool) → Has text (cond b (map completion (untold ids read events)) []) → state_in (read text) ≡ None
    at true some =
        let found = has_map completion text (untold ids read events) some in
        let among = (has_passed (λ id. is_none (last_status id (lines_read read (reads events)))) found.0 ids found.1).0 in
        subst (λ it. state_in (read it) ≡ None) found.2 (completion_none read found.0 (all_has HasNames found.0 ids names among) (subst (ReadsText read) (sym found.2) right))
    at false none = absurd none

-- lines that are no states
no_states : (read : Reading) (before : List Line) (list : List (List ℕ)) → ((text : List ℕ) → Has text list → state_in (read text) ≡ None) → states_behind before (lines_read read list) ≡ []
no_states read before [] none = refl
no_states read before (text ∷ list) none =
    ap (λ found. state_of before found ++ states_behind (before ++ line_read read text ∷ []) (lines_read read list)) (none text (inl refl))
    ∙ no_states read (before ++ line_read read text ∷ []) list (λ other has. none other (inr has))

-- ---- what was given was passed on

-- one of two parts goes on behind a front
front_or_behind : {A : Type 0} (a b g r : List A) → a ++ b ≡ g ++ r → ((more : List A) × (a ≡ g ++ more)) ⊎ ((more : List A) × (g ≡ a ++ more) × (b ≡ more ++ r))
front_or_behind {A = A} [] b g r is = inr (g, refl, is)
front_or_behind {A = A} (x ∷ a) b [] r is = inl (x ∷ a, refl)
front_or_behind {A = A} (x ∷ a) b (y ∷ g) r is = at (front_or_behind a b g r (tails is))
  where
    at : ((more : List A) × (a ≡ g ++ more)) ⊎ ((more : List A) × (g ≡ a ++ more) × (b ≡ more ++ r)) → ((more : List A) × (x ∷ a ≡ y ∷ (g ++ more))) ⊎ ((more : List A) × (y ∷ g ≡ x ∷ (a ++ more)) × (b ≡ more ++ r))
    at (inl (more, same)) = inl (more, ap (λ it. it ∷ a) (heads is) ∙ ap (λ it. y ∷ it) same)
    at (inr (more, same, rest)) = inr (more, ap (λ it. it ∷ g) (sym (heads is)) ∙ ap (λ it. x ∷ it) same, rest)

-- the texts of lines that were read, read again
pub reread : (read : Reading) (p : Line → Bool) (list : List (List ℕ)) → lines_read read (texts (filter p (lines_read read list))) ≡ filter p (lines_read read list)
reread read p [] = refl
reread read p (text ∷ list) = at (p (line_read read text)) (reread read p list)
  where
    at : (b : Bool) → lines_read read (texts (filter p (lines_read read list))) ≡ filter p (lines_read read list) → lines_read read (texts (cond b (line_read read text ∷ filter p (lines_read read list)) (filter p (lines_read read list)))) ≡ cond b (line_read read text ∷ filter p (lines_read read list)) (filter p (lines_read read list))
    at true rest = ap (λ lines. line_read read text ∷ lines) rest
    at false rest = rest

pub given_passed : (ids : List StreamId) (read : Reading) (events : List Event) (rest : List (List ℕ)) (state : LaneState) → AllByRecursion HasNames ids → IsReading read events → to_give ids read events ≡ gives events ++ rest
    → Has state (states (lines_read read (gives events))) → Has state (states (passed ids read events))
given_passed ids read events rest state names right is has = at (front_or_behind (texts lines) (completions ids read events) (gives events) rest is)
  where
    lines : List Line
    lines = passed ids read events

    again : lines_read read (texts lines) ≡ lines
    again = reread read (λ line. passes ids line.found) (reads events)

    front : (more : List (List ℕ)) → texts lines ≡ gives events ++ more → Has state (states lines)
    front more same = subst (λ list. Has state (states list)) (map-append_of more ∙ (ap (lines_read read) (sym same) ∙ again))
        (subst (Has state) (sym (states-append [] (lines_read read (gives events)) (lines_read read more))) (has_front state (states (lines_read read (gives events))) (states_behind (lines_read read (gives events)) (lines_read read more)) has))
      where
        map-append_of : (list : List (List ℕ)) → lines_read read (gives events) ++ lines_read read list ≡ lines_read read (gives events ++ list)
        map-append_of list = sym (map-append (line_read read) (gives events) list)

    behind : (more : List (List ℕ)) → gives events ≡ texts lines ++ more → completions ids read events ≡ more ++ rest → Has state (states lines)
    behind more same last = parted (has_parts state (states lines) (states_behind lines (lines_read read more)) (subst (Has state) split has))
      where
        split : states (lines_read read (gives events)) ≡ states lines ++ states_behind lines (lines_read read more)
        split = ap (λ list. states (lines_read read list)) same ∙ (ap states (map-append (line_read read) (texts lines) more ∙ ap (λ list. list ++ lines_read read more) again) ∙ states-append [] lines (lines_read read more))

        none : (text : List ℕ) → Has text more → state_in (read text) ≡ None
        none text among = completed_none ids read events text names
            (reads_given read events text right (subst (Has text) (sym same) (has_back text (texts lines) more among)))
            (subst (Has text) (sym last) (has_front text more rest among))

        parted : Has state (states lines) ⊎ Has state (states_behind lines (lines_read read more)) → Has state (states lines)
        parted (inl own) = own
        parted (inr other) = absurd (subst (Has state) (no_states read lines more none) other)

    at : ((more : List (List ℕ)) × (texts lines ≡ gives events ++ more)) ⊎ ((more : List (List ℕ)) × (gives events ≡ texts lines ++ more) × (completions ids read events ≡ more ++ rest)) → Has state (states lines)
    at (inl (more, same)) = front more same
    at (inr (more, same, last)) = behind more same last
