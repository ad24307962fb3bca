-- A saved set takes what is owed.
use Rattle.std.proofs.Common.{arith, ◌≡◌, ◌⊎◌, inl, inr, ℕ, List, [], ◌∷◌, ◌++◌, Bool, true, false, cond, Option, None, Some, refl, sym, ◌∙◌, ap, subst, append_assoc}
use Rattle.std.specs.Prelude.{map, filter, filter_map, is_some, is_none, not, option_map, ◌==◌, Result, Ok, Err}
use Rattle.std.specs.List.{AllByRecursion, list_any}
use Rattle.std.specs.Fmt.{decimal}
use Rattle.std.proofs.lemmas.List.{append-nil, map-append}
use Rattle.std.proofs.lemmas.Bool.{false≢true}
use Rattle.json_fields.specs.Answer.{IsAnswer}
use Rattle.basics.specs.declared.stream.StreamId.{StreamId}
use Rattle.stream_index.specs.Same.{is_same_stream}
use Rattle.stream_index.proofs.IndexLemmas.{Decides-stream}
use Rattle.outside.specs.Tables.{same_id}
use Rattle.outside.proofs.TableLaws.{id_is}
use Rattle.outside.specs.Event.{given_in, read_over}
use Rattle.outside.specs.declared.event.Event.{Event}
use Rattle.outside.specs.declared.event.Event.TheVariants.{Opened, Took, TookEnd, Committed, Emitted, Merged, Shown, Started, ReadLine, ReadEnd, Given, Closed, Got, GotEnd, Saved, Ended}
use Rattle.outside.specs.declared.event.AttemptPlan.{AttemptPlan}
use Rattle.outside.specs.declared.faults.StateFault.{StateFault}
use Rattle.outside.specs.declared.faults.StateFault.TheVariants as fault
use Rattle.airbyte_message.specs.Lanes.{Lane, lane_of}
use Rattle.airbyte_message.specs.Messages.{IsMessage}
use Rattle.airbyte_message.specs.State.{State}
use Rattle.airbyte_message.specs.declared.message.Message.{Message}
use Rattle.airbyte_message.specs.declared.message.Message.TheVariants as message
use Rattle.airbyte_message.specs.declared.message.StateKind.{StateKind}
use Rattle.airbyte_message.specs.declared.message.StateKind.TheVariants as kind
use Rattle.airbyte_message.specs.declared.message.TraceMsg.TheVariants as trace
use Rattle.airbyte_message.specs.declared.stream_status.StreamStatus.TheVariants.{Complete}
use Rattle.message_writer.specs.Forms.{HasNames}
use Rattle.message_writer.proofs.Payloads.{written_is}
use Rattle.catalog.specs.Reading.{ids_of}
use Rattle.catalog.specs.declared.stream.ConfStream.{ConfStream}
use Rattle.catalog.specs.declared.stream.Gen.{Gen}
use Rattle.dedup_merge.proofs.SameRowLemmas.{Has, has_passed}
use Rattle.load_rules.specs.Prefixes.{IsPrefix}
use Rattle.load_rules.specs.Lines.{Line, Reading, ReadsText, IsReading, line_read, lines_read, state_in, passes, is_known, is_known_kind}
use Rattle.load_rules.specs.Taken.{LaneState, of_lane, is_same_lane, state_of, state_of_lane, states}
use Rattle.load_rules.specs.Attempts.{reads, gives, passed, Waiting, none_given, with_given, StateLeaves, LineLeaves, Leaves, LeavesAll, TakesState}
use Rattle.state_kinds.specs.Saved.{Saved as Set, entry_ids, has_states, has_stream}
use Rattle.state_kinds.specs.declared.entry.SavedEntry.{SavedEntry}
use Rattle.state_kinds.specs.Changes.{Given as GivenGens, given_of, generation_of, renewed, renewed_to, new_entry, added, is_changed, begun, with_state, put_stream, put_global, put_into}
use Rattle.state_kinds.specs.Store.{is_stream_kind, is_global_kind}
use Rattle.sync_rules.specs.Generations.{gen_of, and_gen, gens_of, Begins}
use Rattle.sync_rules.specs.Breaches.{is_state, has_stream_state, has_global_state, AreUnbroken}
use Rattle.sync_rules.specs.Sync.{Running, Sync, no_sync, texts, completion, untold, completions, Takes, and_event, with_event, started, saved}
use Rattle.sync_rules.specs.Steps.{Step, InAttempt, GivesNext, Gets, Starts, Saves, Puts}
use Rattle.sync_rules.specs.SafeSync.{Asked, Goes, IsAsked}
use Rattle.sync_rules.specs.Laws.{SetsTake}
use Rattle.sync_rules.proofs.Giving.{gives-one}
use Rattle.json_fields.specs.Parts.{IsNumber}
use Rattle.json_write.proofs.Numerals.{decimal_literal}
use Rattle.airbyte_message.specs.declared.message.StreamBlob.{StreamBlob}
use Rattle.load_rules.specs.Finished.{last_status}
use Rattle.load_rules.specs.Lines.{ReadsEvent}
use Rattle.state_kinds.specs.Changes.{put_kind}
use Rattle.sync_rules.specs.Sync.{got}
use Rattle.sync_rules.proofs.KindLemmas.{by_bool, or_left, or_right, or_cases, some_none, some_is, heads, tails, any_front, any_back, any_parts, any_filter, has_map, has_front, has_back, has_parts, all_front, all_more, all_has, apart_none, stream_more, global_more, apart_along, found_state, Apart, OneKind}

-- ---- what is given

-- the state of a given line is of a known kind
abbrev pub IsKnownState : List StreamId → Option State → Type 0
IsKnownState ids None = Unit {0}
IsKnownState ids (Some state) = is_known_kind ids state.kind ≡ true

abbrev pub AreKnown : List StreamId → List Line → Type 0
AreKnown ids lines = AllByRecursion (λ line. IsKnownState ids (found_state line)) lines

passes_known : (ids : List StreamId) (found : Option Message) → passes ids found ≡ true → IsKnownState ids (state_in found)
passes_known ids None is = tt
passes_known ids (Some (message.Rec content)) is = tt
passes_known ids (Some (message.State state)) is = is
passes_known ids (Some (message.Log content)) is = tt
passes_known ids (Some (message.Spec content)) is = tt
passes_known ids (Some (message.Connection content)) is = tt
passes_known ids (Some (message.Catalog content)) is = tt
passes_known ids (Some (message.Trace content)) is = tt
passes_known ids (Some (message.Control content)) is = tt

passed_known : (ids : List StreamId) (lines : List Line) → AreKnown ids (filter (λ line. passes ids line.found) lines)
passed_known ids [] = tt
passed_known ids (line ∷ lines) = at (passes ids line.found) refl (passed_known ids lines)
  where
    at : (b : Bool) → passes ids line.found ≡ b → AreKnown ids (filter (λ it. passes ids it.found) lines) → AreKnown ids (cond b (line ∷ filter (λ it. passes ids it.found) lines) (filter (λ it. passes ids it.found) lines))
    at true is rest = (passes_known ids line.found is, rest)
    at false is rest = rest

-- the texts of lines that were read, read again
reread : (read : Reading) (p : Line → Bool) (list : List (List ℕ)) → lines_read read (texts (filter p (lines_read read list))) ≡ filter p (lines_read read list)
reread read p [] = refl
reread read p (text ∷ list) = at (p (line_read read text)) (reread read p list)
  where
    at : (b : Bool) → lines_read read (texts (filter p (lines_read read list))) ≡ filter p (lines_read read list) → lines_read read (texts (cond b (line_read read text ∷ filter p (lines_read read list)) (filter p (lines_read read list)))) ≡ cond b (line_read read text ∷ filter p (lines_read read list)) (filter p (lines_read read list))
    at true rest = ap (λ lines. line_read read text ∷ lines) rest
    at false rest = rest

-- a line that is given next is one that is passed on, with those before it, or a completion
in_part : (given passed last rest : List (List ℕ)) (text : List ℕ) → passed ++ last ≡ (given ++ text ∷ []) ++ rest → IsPrefix (given ++ text ∷ []) passed ⊎ Has text last
in_part given [] last rest text is = inr (subst (Has text) (sym is) (has_front text (given ++ text ∷ []) rest (has_back text given (text ∷ []) (inl refl))))
in_part [] (first ∷ passed) last rest text is = inl (passed, ap (λ it. it ∷ passed) (heads is))
in_part (own ∷ given) (first ∷ passed) last rest text is = at (in_part given passed last rest text (tails is))
  where
    at : IsPrefix (given ++ text ∷ []) passed ⊎ Has text last → IsPrefix (own ∷ (given ++ text ∷ [])) (first ∷ passed) ⊎ Has text last
    at (inl front) = inl (front.0, ap (λ it. it ∷ passed) (heads is) ∙ ap (λ it. own ∷ it) front.1)
    at (inr has) = inr has

-- a completion is no state
zero_number : IsNumber (decimal 0)
zero_number = (let whole = decimal_literal 0 (omega arith) in record { literal = whole.literal; spelled = whole.spelled })

completion_none : (read : Reading) (id : StreamId) → HasNames id → ReadsText read (completion id) → state_in (read (completion id)) ≡ None
completion_none read id names right = at (read (completion id)) right
  where
    is : IsMessage (completion id) (message.Trace (trace.Status id Complete (Some (decimal 0))))
    is = written_is (message.Trace (trace.Status id Complete (Some (decimal 0)))) (record { names = names; number = zero_number })

    at : (found : Option Message) → IsAnswer (IsMessage (completion id)) found → state_in found ≡ None
    at None answer = refl
    at (Some content) answer = ap (λ it. state_in (Some it)) (sym (answer.only (message.Trace (trace.Status id Complete (Some (decimal 0)))) is))

completion_state : (ids : List StreamId) (read : Reading) (events : List Event) (text : List ℕ) → AllByRecursion HasNames ids → ReadsText read text → Has text (completions ids read events) → state_in (read text) ≡ None
completion_state ids read events text names right has = at (read_over events) has
  where
    at : (b : Bool) → Has text (cond b (map completion (untold ids read events)) []) → state_in (read text) ≡ None
    at true some =
        let found = has_map completion text (untold ids read events) some in
        let among = (has_passed (λ id. is_none (last_status id (lines_read read (reads events)))) found.0 ids found.1).0 in
        subst (λ it. state_in (read it) ≡ None) found.2 (completion_none read found.0 (all_has HasNames found.0 ids names among) (subst (ReadsText read) (sym found.2) right))
    at false none = absurd none

-- the lines that were given are apart and known
pub record AreGiven (ids : List StreamId) (start : Set) (lines : List Line) : Type 0 where
  pub apart : Apart start lines
  pub known : AreKnown ids lines

stream_sub : (start : Set) (p : Line → Bool) (some more lines : List Line) → some ++ more ≡ filter p lines → has_stream_state start some ≡ true → has_stream_state start lines ≡ true
stream_sub start p some more lines is held = at (or_cases (has_states start.entries) (list_any (λ it. is_state is_stream_kind (state_in it.found)) some) held)
  where
    at : (has_states start.entries ≡ true) ⊎ (list_any (λ it. is_state is_stream_kind (state_in it.found)) some ≡ true) → has_stream_state start lines ≡ true
    at (inl one_is) = or_left (has_states start.entries) (list_any (λ it. is_state is_stream_kind (state_in it.found)) lines) one_is
    at (inr found) = or_right (has_states start.entries) (list_any (λ it. is_state is_stream_kind (state_in it.found)) lines)
        (any_filter (λ (it : Line). is_state is_stream_kind (state_in it.found)) p lines (subst (λ list. list_any (λ (it : Line). is_state is_stream_kind (state_in it.found)) list ≡ true) is (any_front (λ (it : Line). is_state is_stream_kind (state_in it.found)) some more found)))

global_sub : (start : Set) (p : Line → Bool) (some more lines : List Line) → some ++ more ≡ filter p lines → has_global_state start some ≡ true → has_global_state start lines ≡ true
global_sub start p some more lines is held = at (or_cases (is_some start.global) (list_any (λ it. is_state is_global_kind (state_in it.found)) some) held)
  where
    at : (is_some start.global ≡ true) ⊎ (list_any (λ it. is_state is_global_kind (state_in it.found)) some ≡ true) → has_global_state start lines ≡ true
    at (inl one_is) = or_left (is_some start.global) (list_any (λ it. is_state is_global_kind (state_in it.found)) lines) one_is
    at (inr found) = or_right (is_some start.global) (list_any (λ it. is_state is_global_kind (state_in it.found)) lines)
        (any_filter (λ (it : Line). is_state is_global_kind (state_in it.found)) p lines (subst (λ list. list_any (λ (it : Line). is_state is_global_kind (state_in it.found)) list ≡ true) is (any_front (λ (it : Line). is_state is_global_kind (state_in it.found)) some more found)))

passed_given : (ids : List StreamId) (read : Reading) (start : Set) (given rest lines : List (List ℕ)) → OneKind start → AreUnbroken ids start (lines_read read lines) → texts (filter (λ line. passes ids line.found) (lines_read read lines)) ≡ given ++ rest → AreGiven ids start (lines_read read given)
passed_given ids read start given rest lines kinds unbroken is =
    let whole : lines_read read given ++ lines_read read rest ≡ filter (λ line. passes ids line.found) (lines_read read lines) = sym (map-append (line_read read) given rest) ∙ (ap (lines_read read) (sym is) ∙ reread read (λ line. passes ids line.found) lines) in
    let apart = apart_along ids start [] (lines_read read lines) unbroken (apart_none start kinds) in
    record {
      apart = λ by_stream by_all. apart (stream_sub start (λ line. passes ids line.found) (lines_read read given) (lines_read read rest) (lines_read read lines) whole by_stream) (global_sub start (λ line. passes ids line.found) (lines_read read given) (lines_read read rest) (lines_read read lines) whole by_all);
      known = all_front (λ line. IsKnownState ids (found_state line)) (lines_read read given) (lines_read read rest) (subst (AreKnown ids) (sym whole) (passed_known ids (lines_read read lines)));
    }

stateless_given : (ids : List StreamId) (start : Set) (before : List Line) (line : Line) → found_state line ≡ None → AreGiven ids start before → AreGiven ids start (before ++ line ∷ [])
stateless_given ids start before line none given = record {
  apart = λ by_stream by_all. at (stream_more start before line by_stream) (global_more start before line by_all);
  known = all_more (λ it. IsKnownState ids (found_state it)) before line given.known (subst (IsKnownState ids) (sym none) tt);
}
  where
    at : (has_stream_state start before ≡ true) ⊎ (is_state is_stream_kind (found_state line) ≡ true) → (has_global_state start before ≡ true) ⊎ (is_state is_global_kind (found_state line) ≡ true) → ⊥
    at (inl a) (inl b) = given.apart a b
    at (inr a) b = false≢true (ap (is_state is_stream_kind) (sym none) ∙ a)
    at (inl a) (inr b) = false≢true (ap (is_state is_global_kind) (sym none) ∙ b)

given_lines : (read : Reading) (events : List Event) (text : List ℕ) → lines_read read (gives (events ++ Given text ∷ [])) ≡ lines_read read (gives events) ++ line_read read text ∷ []
given_lines read events text = ap (lines_read read) (gives-one events (Given text)) ∙ map-append (line_read read) (gives events) (text ∷ [])

next_given : (ids : List StreamId) (read : Reading) (text : List ℕ) (own : Running) → AllByRecursion HasNames ids → ReadsText read text → OneKind own.start → GivesNext ids read text own → AreGiven ids own.start (lines_read read (gives own.events)) → AreGiven ids own.start (lines_read read (gives (own.events ++ Given text ∷ [])))
next_given ids read text own names right kinds next given = at (in_part (gives own.events) (texts (passed ids read own.events)) (completions ids read own.events) next.next.0 text next.next.1)
  where
    at : IsPrefix (gives own.events ++ text ∷ []) (texts (passed ids read own.events)) ⊎ Has text (completions ids read own.events) → AreGiven ids own.start (lines_read read (gives (own.events ++ Given text ∷ [])))
    at (inl front) = subst (λ list. AreGiven ids own.start (lines_read read list)) (sym (gives-one own.events (Given text))) (passed_given ids read own.start (gives own.events ++ text ∷ []) front.0 (reads own.events) kinds next.unbroken front.1)
    at (inr last) = subst (AreGiven ids own.start) (sym (given_lines read own.events text)) (stateless_given ids own.start (lines_read read (gives own.events)) (line_read read text) (completion_state ids read own.events text names right last) given)

-- ---- what is taken was given

-- the state stands in one of the lines
abbrev pub IsIn : LaneState → List Line → Type 0
IsIn state lines = Has (Some state.state) (map found_state lines)

in_more : (state : LaneState) (before : List Line) (line : Line) → IsIn state before → IsIn state (before ++ line ∷ [])
in_more state before line is = subst (Has (Some state.state)) (sym (map-append found_state before (line ∷ []))) (has_front (Some state.state) (map found_state before) (found_state line ∷ []) is)

in_last : (state : LaneState) (before : List Line) (line : Line) → found_state line ≡ Some state.state → IsIn state (before ++ line ∷ [])
in_last state before line is = subst (Has (Some state.state)) (sym (map-append found_state before (line ∷ []))) (has_back (Some state.state) (map found_state before) (found_state line ∷ []) (inl is))

abbrev pub WaitsIn : Waiting → Type 0
WaitsIn waiting = (state : LaneState) → Has state waiting.states → IsIn state waiting.given

lane_state_of : (before : List Line) (own : State) (lane : Option Lane) (state : LaneState) → Has state (state_of_lane before own lane) → own ≡ state.state
lane_state_of before own None state has = absurd has
lane_state_of before own (Some lane) state (inl is) = ap (λ (it : LaneState). it.state) is
lane_state_of before own (Some lane) state (inr has) = absurd has

new_state : (before : List Line) (found : Option State) (state : LaneState) → Has state (state_of before found) → found ≡ Some state.state
new_state before None state has = absurd has
new_state before (Some own) state has = ap (λ it. Some it) (lane_state_of before own (lane_of own.kind) state has)

given_in_lines : (lane : Lane) (waiting : Waiting) (line : Line) → WaitsIn waiting → WaitsIn (with_given lane line waiting)
given_in_lines lane waiting line waits state has = at (has_parts state waiting.states (of_lane lane (state_of waiting.given (state_in line.found))) has)
  where
    at : Has state waiting.states ⊎ Has state (of_lane lane (state_of waiting.given (state_in line.found))) → IsIn state (waiting.given ++ line ∷ [])
    at (inl old) = in_more state waiting.given line (waits state old)
    at (inr new) = in_last state waiting.given line (new_state waiting.given (state_in line.found) state (has_passed (λ it. is_same_lane lane it.lane) state (state_of waiting.given (state_in line.found)) new).0)

state_leaves_in : (waiting : List LaneState) (got : State) (left : List LaneState) (state : LaneState) → StateLeaves waiting got left → Has state left → Has state waiting
state_leaves_in waiting got left state (inl none) has = subst (Has state) none.1 has
state_leaves_in waiting got left state (inr (first, takes)) has = subst (Has state) (sym takes.splits) (has_back state takes.over (first ∷ left) (inr has))

line_leaves_in : (waiting list left : List LaneState) (state : LaneState) → LineLeaves waiting list left → Has state left → Has state waiting
line_leaves_in waiting [] left state leaves has = subst (Has state) leaves has
line_leaves_in waiting (back ∷ more) left state (between, leaves, rest) has = state_leaves_in waiting back.state between state leaves (line_leaves_in between more left state rest has)

leaves_in : (read : Reading) (lane : Lane) (waiting : Waiting) (event : Event) (left : Waiting) → Leaves read lane waiting event left → WaitsIn waiting → WaitsIn left
leaves_in read lane waiting (Opened x y z) left leaves waits = subst WaitsIn (sym leaves) waits
leaves_in read lane waiting (Took x) left leaves waits = subst WaitsIn (sym leaves) waits
leaves_in read lane waiting TookEnd left leaves waits = subst WaitsIn (sym leaves) waits
leaves_in read lane waiting (Committed x y) left leaves waits = subst WaitsIn (sym leaves) waits
leaves_in read lane waiting (Emitted x) left leaves waits = subst WaitsIn (sym leaves) waits
leaves_in read lane waiting (Merged x y z) left leaves waits = subst WaitsIn (sym leaves) waits
leaves_in read lane waiting (Shown x y z) left leaves waits = subst WaitsIn (sym leaves) waits
leaves_in read lane waiting (Started x) left leaves waits = subst WaitsIn (sym leaves) waits
leaves_in read lane waiting (ReadLine x) left leaves waits = subst WaitsIn (sym leaves) waits
leaves_in read lane waiting ReadEnd left leaves waits = subst WaitsIn (sym leaves) waits
leaves_in read lane waiting (Given x) left leaves waits = subst WaitsIn (sym leaves) (given_in_lines lane waiting (line_read read x) waits)
leaves_in read lane waiting Closed left leaves waits = subst WaitsIn (sym leaves) waits
leaves_in read lane waiting (Got x) left leaves waits = λ state has. subst (IsIn state) (sym leaves.0) (waits state (line_leaves_in waiting.states (of_lane lane (states (line_read read x ∷ []))) left.states state leaves.1 has))
leaves_in read lane waiting GotEnd left leaves waits = subst WaitsIn (sym leaves) waits
leaves_in read lane waiting (Saved x) left leaves waits = subst WaitsIn (sym leaves) waits
leaves_in read lane waiting (Ended x) left leaves waits = subst WaitsIn (sym leaves) waits

leaves_given : (read : Reading) (lane : Lane) (waiting : Waiting) (event : Event) (left : Waiting) → Leaves read lane waiting event left → left.given ≡ waiting.given ++ lines_read read (filter_map given_in (event ∷ []))
leaves_given read lane waiting (Opened x y z) left leaves = ap (λ (it : Waiting). it.given) leaves ∙ sym (append-nil waiting.given)
leaves_given read lane waiting (Took x) left leaves = ap (λ (it : Waiting). it.given) leaves ∙ sym (append-nil waiting.given)
leaves_given read lane waiting TookEnd left leaves = ap (λ (it : Waiting). it.given) leaves ∙ sym (append-nil waiting.given)
leaves_given read lane waiting (Committed x y) left leaves = ap (λ (it : Waiting). it.given) leaves ∙ sym (append-nil waiting.given)
leaves_given read lane waiting (Emitted x) left leaves = ap (λ (it : Waiting). it.given) leaves ∙ sym (append-nil waiting.given)
leaves_given read lane waiting (Merged x y z) left leaves = ap (λ (it : Waiting). it.given) leaves ∙ sym (append-nil waiting.given)
leaves_given read lane waiting (Shown x y z) left leaves = ap (λ (it : Waiting). it.given) leaves ∙ sym (append-nil waiting.given)
leaves_given read lane waiting (Started x) left leaves = ap (λ (it : Waiting). it.given) leaves ∙ sym (append-nil waiting.given)
leaves_given read lane waiting (ReadLine x) left leaves = ap (λ (it : Waiting). it.given) leaves ∙ sym (append-nil waiting.given)
leaves_given read lane waiting ReadEnd left leaves = ap (λ (it : Waiting). it.given) leaves ∙ sym (append-nil waiting.given)
leaves_given read lane waiting (Given x) left leaves = ap (λ (it : Waiting). it.given) leaves
leaves_given read lane waiting Closed left leaves = ap (λ (it : Waiting). it.given) leaves ∙ sym (append-nil waiting.given)
leaves_given read lane waiting (Got x) left leaves = leaves.0 ∙ sym (append-nil waiting.given)
leaves_given read lane waiting GotEnd left leaves = ap (λ (it : Waiting). it.given) leaves ∙ sym (append-nil waiting.given)
leaves_given read lane waiting (Saved x) left leaves = ap (λ (it : Waiting). it.given) leaves ∙ sym (append-nil waiting.given)
leaves_given read lane waiting (Ended x) left leaves = ap (λ (it : Waiting). it.given) leaves ∙ sym (append-nil waiting.given)

gives-first : (read : Reading) (event : Event) (events : List Event) → lines_read read (gives (event ∷ events)) ≡ lines_read read (filter_map given_in (event ∷ [])) ++ lines_read read (gives events)
gives-first read (Opened x y z) events = refl
gives-first read (Took x) events = refl
gives-first read TookEnd events = refl
gives-first read (Committed x y) events = refl
gives-first read (Emitted x) events = refl
gives-first read (Merged x y z) events = refl
gives-first read (Shown x y z) events = refl
gives-first read (Started x) events = refl
gives-first read (ReadLine x) events = refl
gives-first read ReadEnd events = refl
gives-first read (Given x) events = refl
gives-first read Closed events = refl
gives-first read (Got x) events = refl
gives-first read GotEnd events = refl
gives-first read (Saved x) events = refl
gives-first read (Ended x) events = refl

leaves_all_in : (read : Reading) (lane : Lane) (waiting : Waiting) (events : List Event) (left : Waiting) → LeavesAll read lane waiting events left → WaitsIn waiting → WaitsIn left × (left.given ≡ waiting.given ++ lines_read read (gives events))
leaves_all_in read lane waiting [] left leaves waits = (subst WaitsIn (sym leaves) waits, ap (λ (it : Waiting). it.given) leaves ∙ sym (append-nil waiting.given))
leaves_all_in read lane waiting (event ∷ events) left (between, leaves, rest) waits =
    let deeper = leaves_all_in read lane between events left rest (leaves_in read lane waiting event between leaves waits) in (
      deeper.0,
      deeper.1 ∙ (ap (λ list. list ++ lines_read read (gives events)) (leaves_given read lane waiting event between leaves)
          ∙ (append_assoc waiting.given (lines_read read (filter_map given_in (event ∷ []))) (lines_read read (gives events)) ∙ ap (λ list. waiting.given ++ list) (sym (gives-first read event events)))),
    )

pub taken_in : (read : Reading) (events : List Event) (back taken : LaneState) → TakesState read events back taken → IsIn taken (lines_read read (gives events))
taken_in read events back taken takes =
    let whole = leaves_all_in read back.lane none_given events takes.waiting takes.waits (λ state has. absurd has) in
    subst (IsIn taken) whole.1 (whole.0 taken (subst (Has taken) (sym takes.takes.splits) (has_back taken takes.takes.over (taken ∷ takes.rest) (inl refl))))

-- what stands in known lines is of a known kind, and its kind is among them
state_any : (test : StateKind → Bool) (state : State) (lines : List Line) → Has (Some state) (map found_state lines) → test state.kind ≡ true → list_any (λ line. is_state test (state_in line.found)) lines ≡ true
state_any test state [] has is = absurd has
state_any test state (line ∷ lines) (inl same) is = or_left (is_state test (state_in line.found)) (list_any (λ it. is_state test (state_in it.found)) lines) (ap (is_state test) same ∙ is)
state_any test state (line ∷ lines) (inr has) is = or_right (is_state test (state_in line.found)) (list_any (λ it. is_state test (state_in it.found)) lines) (state_any test state lines has is)

state_known : (ids : List StreamId) (state : State) (lines : List Line) → AreKnown ids lines → Has (Some state) (map found_state lines) → is_known_kind ids state.kind ≡ true
state_known ids state [] known has = absurd has
state_known ids state (line ∷ lines) known (inl same) = subst (IsKnownState ids) same known.0
state_known ids state (line ∷ lines) known (inr has) = state_known ids state lines known.1 has

-- ---- what a beginning leaves of a set

states_parts : (entries more : List SavedEntry) → has_states (entries ++ more) ≡ true → (has_states entries ≡ true) ⊎ (has_states more ≡ true)
states_parts entries more is = any_parts (λ (entry : SavedEntry). is_some entry.state) entries more is

renewed_state : (entry : SavedEntry) (given : Option ℕ) → is_some (renewed_to entry given).state ≡ true → is_some entry.state ≡ true
renewed_state entry None is = is
renewed_state entry (Some generation) is = at (entry.generation == generation) is
  where
    at : (b : Bool) → is_some (cond b entry (record entry { generation = generation; state = None })).state ≡ true → is_some entry.state ≡ true
    at true one_is = one_is
    at false one_is = absurd (false≢true one_is)

renewed_states : (given : GivenGens) (entries : List SavedEntry) → has_states (map (renewed given) entries) ≡ true → has_states entries ≡ true
renewed_states given [] is = is
renewed_states given (entry ∷ entries) is = at (or_cases (is_some (renewed given entry).state) (has_states (map (renewed given) entries)) is) (renewed_states given entries)
  where
    at : (is_some (renewed given entry).state ≡ true) ⊎ (has_states (map (renewed given) entries) ≡ true) → (has_states (map (renewed given) entries) ≡ true → has_states entries ≡ true) → has_states (entry ∷ entries) ≡ true
    at (inl here) onward = or_left (is_some entry.state) (has_states entries) (renewed_state entry (generation_of given entry.id) here)
    at (inr there) onward = or_right (is_some entry.state) (has_states entries) (onward there)

new_states : (pairs : GivenGens) → has_states (map new_entry pairs) ≡ true → ⊥
new_states [] is = false≢true is
new_states (pair ∷ pairs) is = new_states pairs is

begun_states : (given : GivenGens) (set : Set) → has_states (begun given set).entries ≡ true → has_states set.entries ≡ true
begun_states given set is = at (states_parts (map (renewed given) set.entries) (added given (entry_ids set.entries)) is)
  where
    at : (has_states (map (renewed given) set.entries) ≡ true) ⊎ (has_states (added given (entry_ids set.entries)) ≡ true) → has_states set.entries ≡ true
    at (inl old) = renewed_states given set.entries old
    at (inr new) = absurd (new_states (filter (λ pair. not (has_stream (entry_ids set.entries) pair.0)) given) new)

begun_global : (given : GivenGens) (set : Set) → is_some (begun given set).global ≡ true → is_some set.global ≡ true
begun_global given set is = at (list_any (is_changed set.entries) given) is
  where
    at : (b : Bool) → is_some (cond b None set.global) ≡ true → is_some set.global ≡ true
    at true one_is = absurd (false≢true one_is)
    at false one_is = one_is

begun_kind : (given : GivenGens) (set : Set) → OneKind set → OneKind (begun given set)
begun_kind given set kinds by_stream by_all = kinds (begun_states given set by_stream) (begun_global given set by_all)

renewed_id : (entry : SavedEntry) (given : Option ℕ) → (renewed_to entry given).id ≡ entry.id
renewed_id entry None = refl
renewed_id entry (Some generation) = at (entry.generation == generation)
  where
    at : (b : Bool) → (cond b entry (record entry { generation = generation; state = None })).id ≡ entry.id
    at true = refl
    at false = refl

renewed_ids : (given : GivenGens) (entries : List SavedEntry) → entry_ids (map (renewed given) entries) ≡ entry_ids entries
renewed_ids given [] = refl
renewed_ids given (entry ∷ entries) = ap (λ id. id ∷ entry_ids (map (renewed given) entries)) (renewed_id entry (generation_of given entry.id)) ∙ ap (λ ids. entry.id ∷ ids) (renewed_ids given entries)

begun_ids : (given : GivenGens) (set : Set) → entry_ids (begun given set).entries ≡ entry_ids set.entries ++ entry_ids (added given (entry_ids set.entries))
begun_ids given set =
    map-append (λ (entry : SavedEntry). entry.id) (map (renewed given) set.entries) (added given (entry_ids set.entries))
    ∙ ap (λ ids. ids ++ entry_ids (added given (entry_ids set.entries))) (renewed_ids given set.entries)

begun_has : (given : GivenGens) (set : Set) (id : StreamId) → has_stream (entry_ids set.entries) id ≡ true → has_stream (entry_ids (begun given set).entries) id ≡ true
begun_has given set id has = subst (λ ids. has_stream ids id ≡ true) (sym (begun_ids given set)) (any_front (is_same_stream id) (entry_ids set.entries) (entry_ids (added given (entry_ids set.entries))) has)

pub record OneGen (set : Set) (stream : ConfStream) (streams : List ConfStream) (gens : List Gen) : Type 0 where
  pub gen : Gen
  pub rest : List Gen
  pub is : gens ≡ gen ∷ rest
  pub gen_is : gen_of set stream ≡ Some gen
  pub rest_are : gens_of set streams ≡ Some rest

pub one_gen : (set : Set) (stream : ConfStream) (streams : List ConfStream) (gens : List Gen) → gens_of set (stream ∷ streams) ≡ Some gens → OneGen set stream streams gens
one_gen set stream streams gens are = at (gen_of set stream) (gens_of set streams) refl refl are
  where
    at : (first : Option Gen) (others : Option (List Gen)) → gen_of set stream ≡ first → gens_of set streams ≡ others → and_gen first others ≡ Some gens → OneGen set stream streams gens
    at None others own same one_is = absurd (some_none (sym one_is))
    at (Some gen) None own same one_is = absurd (some_none (sym one_is))
    at (Some gen) (Some rest) own same one_is = record { gen = gen; rest = rest; is = sym (some_is one_is); gen_is = own; rest_are = same }

abbrev AddedIds : List ConfStream → List Gen → List StreamId → List StreamId
AddedIds streams gens old = entry_ids (added (given_of streams gens) old)

added_step : (old : List StreamId) (stream : ConfStream) (streams : List ConfStream) (gen : Gen) (rest : List Gen) (id : StreamId) → (same_id stream.id id ≡ true) ⊎ (is_known (ids_of streams) id ≡ true) → has_stream old id ≡ false
    → (is_known (ids_of streams) id ≡ true → has_stream (AddedIds streams rest old) id ≡ true) → has_stream (AddedIds (stream ∷ streams) (gen ∷ rest) old) id ≡ true
added_step old stream streams gen rest id known absent onward = at (not (has_stream old stream.id)) refl known
  where
    at : (b : Bool) → not (has_stream old stream.id) ≡ b → (same_id stream.id id ≡ true) ⊎ (is_known (ids_of streams) id ≡ true)
        → has_stream (entry_ids (map new_entry (cond b ((stream.id, gen.generation) ∷ filter (λ pair. not (has_stream old pair.0)) (given_of streams rest)) (filter (λ pair. not (has_stream old pair.0)) (given_of streams rest))))) id ≡ true
    at true kept (inl same) = or_left (is_same_stream id stream.id) (has_stream (AddedIds streams rest old) id) ((Decides-stream id stream.id).1 (sym (id_is stream.id id same)))
    at true kept (inr there) = or_right (is_same_stream id stream.id) (has_stream (AddedIds streams rest old) id) (onward there)
    at false kept (inl same) = absurd (false≢true (sym kept ∙ ap not (ap (has_stream old) (id_is stream.id id same) ∙ absent)))
    at false kept (inr there) = onward there

added_has : (set : Set) (old : List StreamId) (streams : List ConfStream) (gens : List Gen) (id : StreamId) → gens_of set streams ≡ Some gens → is_known (ids_of streams) id ≡ true → has_stream old id ≡ false → has_stream (AddedIds streams gens old) id ≡ true
added_has set old [] gens id are known absent = absurd (false≢true known)
added_has set old (stream ∷ streams) gens id are known absent =
    let found = one_gen set stream streams gens are in
    subst (λ list. has_stream (AddedIds (stream ∷ streams) list old) id ≡ true) (sym found.is)
    (added_step old stream streams found.gen found.rest id (or_cases (same_id stream.id id) (is_known (ids_of streams) id) known) absent (λ one_is. added_has set old streams found.rest id found.rest_are one_is absent))

begun_known : (streams : List ConfStream) (set : Set) (gens : List Gen) (now : Set) (id : StreamId) → Begins streams set gens now → is_known (ids_of streams) id ≡ true → has_stream (entry_ids now.entries) id ≡ true
begun_known streams set gens now id begins known = subst (λ (it : Set). has_stream (entry_ids it.entries) id ≡ true) (sym begins.is) (by_bool (has_stream (entry_ids set.entries) id) old new)
  where
    old : has_stream (entry_ids set.entries) id ≡ true → has_stream (entry_ids (begun (given_of streams gens) set).entries) id ≡ true
    old has = begun_has (given_of streams gens) set id has

    new : has_stream (entry_ids set.entries) id ≡ false → has_stream (entry_ids (begun (given_of streams gens) set).entries) id ≡ true
    new absent = subst (λ ids. has_stream ids id ≡ true) (sym (begun_ids (given_of streams gens) set)) (any_back (is_same_stream id) (entry_ids set.entries) (entry_ids (added (given_of streams gens) (entry_ids set.entries))) (added_has set (entry_ids set.entries) streams gens id begins.gens_are known absent))

-- ---- what a put leaves of a set

abbrev stated : StreamId → List ℕ → Set → Result Set StateFault
stated id object set = Ok (record set { entries = map (with_state id object) set.entries })

abbrev globed : List ℕ → Set → Result Set StateFault
globed object set = Ok (record set { global = Some object })

abbrev put_or : Set → Result Set StateFault → Set
put_or set (Ok put) = put
put_or set (Err why) = set

abbrev is_put : Result Set StateFault → Bool
is_put (Ok put) = true
is_put (Err why) = false

put_is : (put now : Set) (result : Result Set StateFault) → result ≡ Ok put → result ≡ Ok now → now ≡ put
put_is put now result a b = ap (put_or now) (sym b ∙ a)

not_put : (why : StateFault) (now : Set) (result : Result Set StateFault) → result ≡ Err why → result ≡ Ok now → ⊥
not_put why now result a b = false≢true (ap is_put (sym a ∙ b))

stated_id : (id : StreamId) (object : List ℕ) (entry : SavedEntry) → (with_state id object entry).id ≡ entry.id
stated_id id object entry = at (is_same_stream id entry.id)
  where
    at : (b : Bool) → (cond b (record entry { state = Some object }) entry).id ≡ entry.id
    at true = refl
    at false = refl

stated_ids : (id : StreamId) (object : List ℕ) (entries : List SavedEntry) → entry_ids (map (with_state id object) entries) ≡ entry_ids entries
stated_ids id object [] = refl
stated_ids id object (entry ∷ entries) = ap (λ own. own ∷ entry_ids (map (with_state id object) entries)) (stated_id id object entry) ∙ ap (λ ids. entry.id ∷ ids) (stated_ids id object entries)

-- what a put changes: the state's kind alone is new
record IsPut (own : StateKind) (set now : Set) : Type 0 where
  ids : entry_ids now.entries ≡ entry_ids set.entries
  by_stream : has_states now.entries ≡ true → (has_states set.entries ≡ true) ⊎ (is_stream_kind own ≡ true)
  by_all : is_some now.global ≡ true → (is_some set.global ≡ true) ⊎ (is_global_kind own ≡ true)
  kinds : OneKind set → OneKind now

put_stream_is : (id : StreamId) (blob : Option (List ℕ)) (object : List ℕ) (set now : Set) → put_stream id object set ≡ Ok now → IsPut (kind.Stream id blob) set now
put_stream_is id blob object set now is = by_bool (is_some set.global) mixed alone
  where
    mixed : is_some set.global ≡ true → IsPut (kind.Stream id blob) set now
    mixed b = absurd (not_put fault.Mixed now (put_stream id object set) (ap (λ (c : Bool). cond c (Err fault.Mixed) (cond (has_stream (entry_ids set.entries) id) (stated id object set) (Err fault.Unknown))) b) is)

    unknown : is_some set.global ≡ false → has_stream (entry_ids set.entries) id ≡ false → IsPut (kind.Stream id blob) set now
    unknown b c = absurd (not_put fault.Unknown now (put_stream id object set) (ap (λ (d : Bool). cond d (Err fault.Mixed) (cond (has_stream (entry_ids set.entries) id) (stated id object set) (Err fault.Unknown))) b ∙ ap (λ (d : Bool). cond d (stated id object set) (Err fault.Unknown)) c) is)

    done : is_some set.global ≡ false → has_stream (entry_ids set.entries) id ≡ true → IsPut (kind.Stream id blob) set now
    done b c =
        let same : now ≡ record set { entries = map (with_state id object) set.entries } = put_is (record set { entries = map (with_state id object) set.entries }) now (put_stream id object set) (ap (λ (d : Bool). cond d (Err fault.Mixed) (cond (has_stream (entry_ids set.entries) id) (stated id object set) (Err fault.Unknown))) b ∙ ap (λ (d : Bool). cond d (stated id object set) (Err fault.Unknown)) c) is in
        record {
          ids = ap (λ (it : Set). entry_ids it.entries) same ∙ stated_ids id object set.entries;
          by_stream = λ by_stream. inr refl;
          by_all = λ by_all. inl (sym (ap (λ (it : Set). is_some it.global) same) ∙ by_all);
          kinds = λ kinds by_stream by_all. false≢true (sym b ∙ (sym (ap (λ (it : Set). is_some it.global) same) ∙ by_all));
        }

    alone : is_some set.global ≡ false → IsPut (kind.Stream id blob) set now
    alone b = by_bool (has_stream (entry_ids set.entries) id) (done b) (unknown b)

put_global_is : (shared : Option (List ℕ)) (parts : List StreamBlob) (object : List ℕ) (set now : Set) → put_global object set ≡ Ok now → IsPut (kind.Global shared parts) set now
put_global_is shared parts object set now is = by_bool (has_states set.entries) mixed done
  where
    mixed : has_states set.entries ≡ true → IsPut (kind.Global shared parts) set now
    mixed b = absurd (not_put fault.Mixed now (put_global object set) (ap (λ (c : Bool). cond c (Err fault.Mixed) (globed object set)) b) is)

    done : has_states set.entries ≡ false → IsPut (kind.Global shared parts) set now
    done b =
        let same : now ≡ record set { global = Some object } = put_is (record set { global = Some object }) now (put_global object set) (ap (λ (c : Bool). cond c (Err fault.Mixed) (globed object set)) b) is in
        record {
          ids = ap (λ (it : Set). entry_ids it.entries) same;
          by_stream = λ by_stream. inl (sym (ap (λ (it : Set). has_states it.entries) same) ∙ by_stream);
          by_all = λ by_all. inr refl;
          kinds = λ kinds by_stream by_all. false≢true (sym b ∙ (sym (ap (λ (it : Set). has_states it.entries) same) ∙ by_stream));
        }

put_kind_is : (own : StateKind) (object : List ℕ) (set now : Set) → put_kind own object set ≡ Ok now → IsPut own set now
put_kind_is (kind.Stream id blob) object set now is = put_stream_is id blob object set now is
put_kind_is (kind.Global shared parts) object set now is = put_global_is shared parts object set now is
put_kind_is kind.Legacy object set now is = absurd (not_put fault.Legacy now (Err fault.Legacy) refl is)

-- ---- along a sync

-- In an attempt: its start and the given lines have states of one kind, and so has the set; each configured stream has its entry; what is
-- owed stands in a given line.
record Steady (ids : List StreamId) (start : Set) (lines : List Line) (set : Set) (owed : Option LaneState) : Type 0 where
  start_kind : OneKind start
  given : AreGiven ids start lines
  has : (id : StreamId) → is_known ids id ≡ true → has_stream (entry_ids set.entries) id ≡ true
  by_stream : has_states set.entries ≡ true → has_stream_state start lines ≡ true
  by_all : is_some set.global ≡ true → has_global_state start lines ≡ true
  owed_in : (state : LaneState) → owed ≡ Some state → IsIn state lines

abbrev IsSteadyIn : List StreamId → Reading → Set → Option LaneState → Option Running → Type 0
IsSteadyIn ids read set owed None = (state : LaneState) → owed ≡ Some state → ⊥
IsSteadyIn ids read set owed (Some own) = Steady ids own.start (lines_read read (gives own.events)) set owed

record IsSteady (ids : List StreamId) (read : Reading) (sync : Sync) : Type 0 where
  kinds : OneKind sync.set
  attempt : IsSteadyIn ids read sync.set sync.owed sync.attempt

-- an event that gives nothing
same_lines : (read : Reading) (events : List Event) (event : Event) → filter_map given_in (event ∷ []) ≡ [] → lines_read read (gives events) ≡ lines_read read (gives (events ++ event ∷ []))
same_lines read events event none = ap (lines_read read) (sym (gives-one events event ∙ (ap (λ more. gives events ++ more) none ∙ append-nil (gives events))))

steady_same : (ids : List StreamId) (read : Reading) (event : Event) (set : Set) (owed : Option LaneState) (own : Option Running) → filter_map given_in (event ∷ []) ≡ [] → IsSteadyIn ids read set owed own → IsSteadyIn ids read set owed (option_map (and_event event) own)
steady_same ids read event set owed None none steady = steady
steady_same ids read event set owed (Some own) none steady = subst (λ lines. Steady ids own.start lines set owed) (same_lines read own.events event none) steady

steady_at : (ids : List StreamId) (read : Reading) (sync now : Sync) → now ≡ sync → IsSteady ids read sync → IsSteady ids read now
steady_at ids read sync now same steady = subst (IsSteady ids read) (sym same) steady

steady_event : (ids : List StreamId) (read : Reading) (event : Event) (sync now : Sync) → filter_map given_in (event ∷ []) ≡ [] → now ≡ with_event event sync → IsSteady ids read sync → IsSteady ids read now
steady_event ids read event sync now none same steady = steady_at ids read (with_event event sync) now same (record { kinds = steady.kinds; attempt = steady_same ids read event sync.set sync.owed sync.attempt none steady.attempt })

stream_front : (start : Set) (lines more : List Line) (line : Line) → more ≡ lines ++ line ∷ [] → has_stream_state start lines ≡ true → has_stream_state start more ≡ true
stream_front start lines more line same is = subst (λ list. has_stream_state start list ≡ true) (sym same) (at (or_cases (has_states start.entries) (list_any (λ it. is_state is_stream_kind (state_in it.found)) lines) is))
  where
    at : (has_states start.entries ≡ true) ⊎ (list_any (λ (it : Line). is_state is_stream_kind (state_in it.found)) lines ≡ true) → has_stream_state start (lines ++ line ∷ []) ≡ true
    at (inl a) = or_left (has_states start.entries) (list_any (λ (it : Line). is_state is_stream_kind (state_in it.found)) (lines ++ line ∷ [])) a
    at (inr b) = or_right (has_states start.entries) (list_any (λ (it : Line). is_state is_stream_kind (state_in it.found)) (lines ++ line ∷ [])) (any_front (λ (it : Line). is_state is_stream_kind (state_in it.found)) lines (line ∷ []) b)

global_front : (start : Set) (lines more : List Line) (line : Line) → more ≡ lines ++ line ∷ [] → has_global_state start lines ≡ true → has_global_state start more ≡ true
global_front start lines more line same is = subst (λ list. has_global_state start list ≡ true) (sym same) (at (or_cases (is_some start.global) (list_any (λ it. is_state is_global_kind (state_in it.found)) lines) is))
  where
    at : (is_some start.global ≡ true) ⊎ (list_any (λ (it : Line). is_state is_global_kind (state_in it.found)) lines ≡ true) → has_global_state start (lines ++ line ∷ []) ≡ true
    at (inl a) = or_left (is_some start.global) (list_any (λ (it : Line). is_state is_global_kind (state_in it.found)) (lines ++ line ∷ [])) a
    at (inr b) = or_right (is_some start.global) (list_any (λ (it : Line). is_state is_global_kind (state_in it.found)) (lines ++ line ∷ [])) (any_front (λ (it : Line). is_state is_global_kind (state_in it.found)) lines (line ∷ []) b)

-- a line is given
steady_given_in : (ids : List StreamId) (read : Reading) (text : List ℕ) (set : Set) (owed : Option LaneState) (own : Option Running) → AllByRecursion HasNames ids → ReadsText read text → InAttempt own (GivesNext ids read text) → IsSteadyIn ids read set owed own → IsSteadyIn ids read set owed (option_map (and_event (Given text)) own)
steady_given_in ids read text set owed None names reads fits steady = absurd fits
steady_given_in ids read text set owed (Some own) names reads fits steady = record {
  start_kind = steady.start_kind;
  given = next_given ids read text own names reads steady.start_kind fits.1 steady.given;
  has = steady.has;
  by_stream = λ is. stream_front own.start (lines_read read (gives own.events)) (lines_read read (gives (own.events ++ Given text ∷ []))) (line_read read text) (given_lines read own.events text) (steady.by_stream is);
  by_all = λ is. global_front own.start (lines_read read (gives own.events)) (lines_read read (gives (own.events ++ Given text ∷ []))) (line_read read text) (given_lines read own.events text) (steady.by_all is);
  owed_in = λ state is. subst (IsIn state) (sym (given_lines read own.events text)) (in_more state (lines_read read (gives own.events)) (line_read read text) (steady.owed_in state is));
}

steady_given : (ids : List StreamId) (read : Reading) (text : List ℕ) (sync now : Sync) → AllByRecursion HasNames ids → ReadsText read text → InAttempt sync.attempt (GivesNext ids read text) → now ≡ with_event (Given text) sync → IsSteady ids read sync → IsSteady ids read now
steady_given ids read text sync now names reads fits same steady = steady_at ids read (with_event (Given text) sync) now same (record { kinds = steady.kinds; attempt = steady_given_in ids read text sync.set sync.owed sync.attempt names reads fits steady.attempt })

-- an attempt is started
steady_started : (streams : List ConfStream) (read : Reading) (sync now : Sync) (plan : AttemptPlan) → Starts streams sync plan → now ≡ started sync → IsSteady (ids_of streams) read sync → IsSteady (ids_of streams) read now
steady_started streams read sync now plan starts same steady = steady_at (ids_of streams) read (started sync) now same (record {
  kinds = steady.kinds;
  attempt = record {
    start_kind = steady.kinds;
    given = record { apart = apart_none sync.set steady.kinds; known = tt };
    has = λ id known. begun_known streams sync.previous starts.gens sync.set id starts.begins known;
    by_stream = λ is. or_left (has_states sync.set.entries) false is;
    by_all = λ is. or_left (is_some sync.set.global) false is;
    owed_in = λ state is. absurd (some_none (sym is));
  };
})

-- a line comes back
steady_got_in : (ids : List StreamId) (read : Reading) (sync : Sync) (text : List ℕ) (now : Sync) (own : Option Running) → own ≡ sync.attempt → InAttempt own (Gets read sync text now) → IsSteady ids read sync → IsSteadyIn ids read sync.set sync.owed own → IsSteady ids read now
steady_got_in ids read sync text now None at fits steady steady_in = absurd fits
steady_got_in ids read sync text now (Some own) at fits steady steady_in = steady_at ids read (got text fits.1.owed sync) now fits.1.is (record {
  kinds = steady.kinds;
  attempt = subst (λ it. IsSteadyIn ids read sync.set fits.1.owed (option_map (and_event (Got text)) it)) at (subst (λ lines. Steady ids own.start lines sync.set fits.1.owed) (same_lines read own.events (Got text) refl) (record {
    start_kind = steady_in.start_kind;
    given = steady_in.given;
    has = steady_in.has;
    by_stream = steady_in.by_stream;
    by_all = steady_in.by_all;
    owed_in = λ state is. owed_is fits.1.owed fits.1.takes state is;
  }));
})
  where
    owed_is : (owed : Option LaneState) → Takes read own.events text owed → (state : LaneState) → owed ≡ Some state → IsIn state (lines_read read (gives own.events))
    owed_is None takes state is = absurd (some_none (sym is))
    owed_is (Some taken) takes state is = subst (λ (it : LaneState). IsIn it (lines_read read (gives own.events))) (some_is is) (taken_in read own.events takes.0 taken takes.2)

-- a set is saved
steady_begun_in : (ids : List StreamId) (read : Reading) (given : GivenGens) (text : List ℕ) (set now : Set) (owed : Option LaneState) (own : Option Running) → now ≡ begun given set → IsSteadyIn ids read set owed own → IsSteadyIn ids read now None (option_map (and_event (Saved text)) own)
steady_begun_in ids read given text set now owed None same steady = λ state is. some_none (sym is)
steady_begun_in ids read given text set now owed (Some own) same steady = subst (λ lines. Steady ids own.start lines now None) (same_lines read own.events (Saved text) refl) (subst (λ it. Steady ids own.start (lines_read read (gives own.events)) it None) (sym same) (record {
  start_kind = steady.start_kind;
  given = steady.given;
  has = λ id known. begun_has given set id (steady.has id known);
  by_stream = λ is. steady.by_stream (begun_states given set is);
  by_all = λ is. steady.by_all (begun_global given set is);
  owed_in = λ state is. absurd (some_none (sym is));
}))

steady_put_in : (ids : List StreamId) (read : Reading) (text : List ℕ) (set now : Set) (state : LaneState) (owed : Option LaneState) (own : Option Running) → owed ≡ Some state → put_into state.state set ≡ Ok now → IsSteadyIn ids read set owed own → IsSteadyIn ids read now None (option_map (and_event (Saved text)) own)
steady_put_in ids read text set now state owed None is put steady = λ other none. some_none (sym none)
steady_put_in ids read text set now state owed (Some own) is put steady = subst (λ lines. Steady ids own.start lines now None) (same_lines read own.events (Saved text) refl) (record {
  start_kind = steady.start_kind;
  given = steady.given;
  has = λ id known. subst (λ list. has_stream list id ≡ true) (sym change.ids) (steady.has id known);
  by_stream = λ has. of_stream (change.by_stream has);
  by_all = λ has. of_all (change.by_all has);
  owed_in = λ other none. absurd (some_none (sym none));
})
  where
    change : IsPut state.state.kind set now
    change = put_kind_is state.state.kind state.state.object set now put

    of_stream : (has_states set.entries ≡ true) ⊎ (is_stream_kind state.state.kind ≡ true) → has_stream_state own.start (lines_read read (gives own.events)) ≡ true
    of_stream (inl old) = steady.by_stream old
    of_stream (inr new) = or_right (has_states own.start.entries) (list_any (λ it. is_state is_stream_kind (state_in it.found)) (lines_read read (gives own.events))) (state_any is_stream_kind state.state (lines_read read (gives own.events)) (steady.owed_in state is) new)

    of_all : (is_some set.global ≡ true) ⊎ (is_global_kind state.state.kind ≡ true) → has_global_state own.start (lines_read read (gives own.events)) ≡ true
    of_all (inl old) = steady.by_all old
    of_all (inr new) = or_right (is_some own.start.global) (list_any (λ it. is_state is_global_kind (state_in it.found)) (lines_read read (gives own.events))) (state_any is_global_kind state.state (lines_read read (gives own.events)) (steady.owed_in state is) new)

steady_saved : (streams : List ConfStream) (read : Reading) (P : LaneState → Type 0) (sync : Sync) (text : List ℕ) (now : Sync) → Saves streams read P sync text now → IsSteady (ids_of streams) read sync → IsSteady (ids_of streams) read now
steady_saved streams read P sync text now saves steady = steady_at (ids_of streams) read (saved text saves.set sync) now saves.is (by saves.by)
  where
    by : ((gens : List Gen) × Begins streams sync.set gens saves.set) ⊎ Puts streams read P sync saves.set → IsSteady (ids_of streams) read (saved text saves.set sync)
    by (inl begins) = record {
      kinds = subst OneKind (sym begins.1.is) (begun_kind (given_of streams begins.0) sync.set steady.kinds);
      attempt = steady_begun_in (ids_of streams) read (given_of streams begins.0) text sync.set saves.set sync.owed sync.attempt begins.1.is steady.attempt;
    }
    by (inr puts) = record {
      kinds = (put_kind_is puts.state.state.kind puts.state.state.object sync.set saves.set puts.put).kinds steady.kinds;
      attempt = steady_put_in (ids_of streams) read text sync.set saves.set puts.state sync.owed sync.attempt puts.owed puts.put steady.attempt;
    }

steady_step : (streams : List ConfStream) (read : Reading) (P : LaneState → Type 0) (sync : Sync) (event : Event) (now : Sync) → AllByRecursion HasNames (ids_of streams) → ReadsEvent read event → Step streams read P sync event now → IsSteady (ids_of streams) read sync → IsSteady (ids_of streams) read now
steady_step streams read P sync (Opened x y z) now names reads step steady = steady_at (ids_of streams) read sync now step steady
steady_step streams read P sync (Took x) now names reads step steady = steady_at (ids_of streams) read sync now step steady
steady_step streams read P sync TookEnd now names reads step steady = steady_at (ids_of streams) read sync now step steady
steady_step streams read P sync (Committed x y) now names reads step steady = steady_at (ids_of streams) read sync now step steady
steady_step streams read P sync (Emitted x) now names reads step steady = steady_at (ids_of streams) read sync now step steady
steady_step streams read P sync (Merged x y z) now names reads step steady = steady_at (ids_of streams) read sync now step steady
steady_step streams read P sync (Shown x y z) now names reads step steady = steady_at (ids_of streams) read sync now step steady
steady_step streams read P sync (Started x) now names reads step steady = steady_started streams read sync now x step.0 step.1 steady
steady_step streams read P sync (ReadLine x) now names reads step steady = steady_event (ids_of streams) read (ReadLine x) sync now refl step.1 steady
steady_step streams read P sync ReadEnd now names reads step steady = steady_event (ids_of streams) read ReadEnd sync now refl step.1 steady
steady_step streams read P sync (Given x) now names reads step steady = steady_given (ids_of streams) read x sync now names reads step.0 step.1 steady
steady_step streams read P sync Closed now names reads step steady = steady_event (ids_of streams) read Closed sync now refl step.1 steady
steady_step streams read P sync (Got x) now names reads step steady = steady_got_in (ids_of streams) read sync x now sync.attempt refl step steady steady.attempt
steady_step streams read P sync GotEnd now names reads step steady = steady_event (ids_of streams) read GotEnd sync now refl step.1 steady
steady_step streams read P sync (Saved x) now names reads step steady = steady_saved streams read P sync x now step steady
steady_step streams read P sync (Ended x) now names reads step steady = steady_event (ids_of streams) read (Ended x) sync now refl step.1 steady

steady_along : (streams : List ConfStream) (read : Reading) (asked : Asked) (before events : List Event) (sync now : Sync) → AllByRecursion HasNames (ids_of streams) → IsReading read events → Goes streams read asked before sync events now → IsSteady (ids_of streams) read sync → IsSteady (ids_of streams) read now
steady_along streams read asked before [] sync now names reads goes steady = steady_at (ids_of streams) read sync now goes steady
steady_along streams read asked before (event ∷ events) sync now names reads (middle, step, rest) steady =
    steady_along streams read asked (before ++ event ∷ []) events middle now names reads.1 rest (steady_step streams read (IsAsked streams asked before) sync event middle names reads.0 step steady)

none_steady : (ids : List StreamId) (read : Reading) → IsSteady ids read no_sync
none_steady ids read = record { kinds = λ by_stream by_all. false≢true by_all; attempt = λ state is. some_none (sym is) }

-- the set takes a state that is of its kind and whose stream it has
takes_kind : (ids : List StreamId) (start : Set) (lines : List Line) (set : Set) (owed : Option LaneState) (own : StateKind) (object : List ℕ) → Steady ids start lines set owed → is_known_kind ids own ≡ true → (is_stream_kind own ≡ true → has_stream_state start lines ≡ true) → (is_global_kind own ≡ true → has_global_state start lines ≡ true) → (now : Set) × (put_kind own object set ≡ Ok now)
takes_kind ids start lines set owed (kind.Stream id blob) object steady known of_stream of_all = (record set { entries = map (with_state id object) set.entries }, by_bool (is_some set.global) mixed alone)
  where
    mixed : is_some set.global ≡ true → put_stream id object set ≡ Ok (record set { entries = map (with_state id object) set.entries })
    mixed b = absurd (steady.given.apart (of_stream refl) (steady.by_all b))

    alone : is_some set.global ≡ false → put_stream id object set ≡ Ok (record set { entries = map (with_state id object) set.entries })
    alone b = ap (λ (d : Bool). cond d (Err fault.Mixed) (cond (has_stream (entry_ids set.entries) id) (stated id object set) (Err fault.Unknown))) b ∙ ap (λ (d : Bool). cond d (stated id object set) (Err fault.Unknown)) (steady.has id known)
takes_kind ids start lines set owed (kind.Global shared parts) object steady known of_stream of_all = (record set { global = Some object }, by_bool (has_states set.entries) mixed alone)
  where
    mixed : has_states set.entries ≡ true → put_global object set ≡ Ok (record set { global = Some object })
    mixed b = absurd (steady.given.apart (steady.by_stream b) (of_all refl))

    alone : has_states set.entries ≡ false → put_global object set ≡ Ok (record set { global = Some object })
    alone b = ap (λ (c : Bool). cond c (Err fault.Mixed) (globed object set)) b
takes_kind ids start lines set owed kind.Legacy object steady known of_stream of_all = absurd (false≢true known)

takes_in : (ids : List StreamId) (read : Reading) (set : Set) (owed : Option LaneState) (own : Option Running) (state : LaneState) → owed ≡ Some state → IsSteadyIn ids read set owed own → (now : Set) × (put_into state.state set ≡ Ok now)
takes_in ids read set owed None state is steady = absurd (steady state is)
takes_in ids read set owed (Some own) state is steady =
    let lines = lines_read read (gives own.events) in
    let there = steady.owed_in state is in
    takes_kind ids own.start lines set owed state.state.kind state.state.object steady (state_known ids state.state lines steady.given.known there)
    (λ kind_is. or_right (has_states own.start.entries) (list_any (λ it. is_state is_stream_kind (state_in it.found)) lines) (state_any is_stream_kind state.state lines there kind_is))
    (λ kind_is. or_right (is_some own.start.global) (list_any (λ it. is_state is_global_kind (state_in it.found)) lines) (state_any is_global_kind state.state lines there kind_is))

pub sets_take : SetsTake
sets_take streams read asked trace now state reads names leads is =
    takes_in (ids_of streams) read now.set now.owed now.attempt state is (steady_along streams read asked [] trace no_sync now names reads leads (none_steady (ids_of streams) read)).attempt
