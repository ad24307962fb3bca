-- The saved set takes a state that was passed on.
use Rattle.std.proofs.Common.{◌≡◌, ◌⊎◌, inl, inr, ℕ, List, [], ◌∷◌, ◌++◌, Bool, true, false, cond, Option, None, Some, Result, Ok, Err, refl, sym, ◌∙◌, ap, subst, is_some}
use Rattle.std.specs.Prelude.{map}
use Rattle.std.specs.List.{AllByRecursion, list_any}
use Rattle.std.proofs.lemmas.Bool.{false≢true}
use Rattle.basics.specs.declared.stream.StreamId.{StreamId}
use Rattle.stream_index.specs.Same.{is_same_stream}
use Rattle.outside.specs.Tables.{same_id}
use Rattle.outside.proofs.TableLaws.{id_is}
use Rattle.outside.specs.declared.faults.StateFault.{StateFault}
use Rattle.outside.specs.declared.faults.StateFault.TheVariants as fault
use Rattle.airbyte_message.specs.Lanes.{Lane, lane_of}
use Rattle.airbyte_message.specs.State.{State}
use Rattle.airbyte_message.specs.declared.message.Message.{Message}
use Rattle.airbyte_message.specs.declared.message.Message.TheVariants as message
use Rattle.airbyte_message.specs.declared.message.StateKind.{StateKind}
use Rattle.airbyte_message.specs.declared.message.StateKind.TheVariants as kind
use Rattle.catalog.specs.Reading.{ids_of}
use Rattle.catalog.specs.declared.stream.ConfStream.{ConfStream}
use Rattle.dedup_merge.proofs.SameRowLemmas.{Has, has_passed}
use Rattle.load_rules.specs.Lines.{Line, Reading, is_known, is_known_kind, lines_read, passes, state_in}
use Rattle.load_rules.specs.Taken.{LaneState, state_of, state_of_lane, states, states_behind}
use Rattle.load_rules.specs.Attempts.{passed, reads}
use Rattle.outside.specs.declared.event.Event.{Event}
use Rattle.state_kinds.specs.Saved.{Saved, IsSaved, entry_ids, has_states, has_stream}
use Rattle.state_kinds.specs.Changes.{put_global, put_into, put_kind, put_stream, with_state}
use Rattle.state_kinds.specs.Store.{is_global_kind, is_stream_kind}
use Rattle.state_kinds.specs.declared.entry.SavedEntry.{SavedEntry}
use Rattle.state_kinds.proofs.PutLemmas.{stated_ids}
use Rattle.sync_rules.specs.Breaches.{has_global_state, has_stream_state, is_state}
use Rattle.sync_rules.specs.Generations.{Held, generations_in}
use Rattle.sync_rules.proofs.KindLemmas.{Apart, by_bool, has_parts, or_cases, or_left, or_right, some_is, some_none}
use Rattle.sync_ledger.specs.Noted.{Noted}
use Rattle.sync_ledger.specs.declared.form.StateForm.{StateForm}
use Rattle.sync_ledger.specs.declared.form.StateForm.TheVariants as form
use Rattle.ledger_rules.specs.Ledgers.{IsLedgerOf, form_by}
use Rattle.ledger_rules.proofs.Judges.{apart_of}
use Rattle.attempt_turns.specs.Worker.{SetFits}
use Rattle.attempt_turns.specs.declared.worker.Worker.{Worker}

-- ---- the line in which a state stands

pub record StandsAmong (lines : List Line) (state : LaneState) : Type 0 where
  pub line : Line
  pub among : Has line lines
  pub is : state_in line.found ≡ Some state.state
  pub of : lane_of state.state.kind ≡ Some state.lane

of_lane_state : (before : List Line) (own : State) (lane : Option Lane) (state : LaneState) → lane_of own.kind ≡ lane → Has state (state_of_lane before own lane) → (own ≡ state.state) × (lane_of own.kind ≡ Some state.lane)
of_lane_state before own None state at has = absurd has
of_lane_state before own (Some lane) state at (inl is) = (ap (λ (it : LaneState). it.state) is, at ∙ ap (λ (it : LaneState). Some it.lane) is)
of_lane_state before own (Some lane) state at (inr has) = absurd has

line_state : (before lines : List Line) (line : Line) (found : Option State) (state : LaneState) → state_in line.found ≡ found → Has state (state_of before found) → StandsAmong (line ∷ lines) state
line_state before lines line None state at has = absurd has
line_state before lines line (Some own) state at has =
    let is = of_lane_state before own (lane_of own.kind) state refl has in
    record { line = line; among = inl refl; is = at ∙ ap (λ it. Some it) is.0; of = ap (λ (it : State). lane_of it.kind) (sym is.0) ∙ is.1 }

stands_one : (before lines : List Line) (line : Line) (state : LaneState) → (Has state (states_behind (before ++ line ∷ []) lines) → StandsAmong lines state) → Has state (state_of before (state_in line.found)) ⊎ Has state (states_behind (before ++ line ∷ []) lines)
    → StandsAmong (line ∷ lines) state
stands_one before lines line state behind (inl own) = line_state before lines line (state_in line.found) state refl own
stands_one before lines line state behind (inr more) = (let deeper = behind more in record { line = deeper.line; among = inr deeper.among; is = deeper.is; of = deeper.of })

stands_among : (before lines : List Line) (state : LaneState) → Has state (states_behind before lines) → StandsAmong lines state
stands_among before [] state has = absurd has
stands_among before (line ∷ lines) state has = stands_one before lines line state (λ more. stands_among (before ++ line ∷ []) lines state more) (has_parts state (state_of before (state_in line.found)) (states_behind (before ++ line ∷ []) lines) has)

passed_kind : (ids : List StreamId) (found : Option Message) (state : State) → state_in found ≡ Some state → passes ids found ≡ true → is_known_kind ids state.kind ≡ true
passed_kind ids None state is known = absurd (some_none (sym is))
passed_kind ids (Some (message.Rec content)) state is known = absurd (some_none (sym is))
passed_kind ids (Some (message.State own)) state is known = ap (λ (it : State). is_known_kind ids it.kind) (sym (some_is is)) ∙ known
passed_kind ids (Some (message.Log content)) state is known = absurd (some_none (sym is))
passed_kind ids (Some (message.Spec content)) state is known = absurd (some_none (sym is))
passed_kind ids (Some (message.Connection content)) state is known = absurd (some_none (sym is))
passed_kind ids (Some (message.Catalog content)) state is known = absurd (some_none (sym is))
passed_kind ids (Some (message.Trace content)) state is known = absurd (some_none (sym is))
passed_kind ids (Some (message.Control content)) state is known = absurd (some_none (sym is))

any_has : {A : Type 0} (p : A → Bool) (x : A) (xs : List A) → Has x xs → p x ≡ true → list_any p xs ≡ true
any_has p x [] has is = absurd has
any_has p x (y ∷ xs) (inl same) is = or_left (p y) (list_any p xs) (ap p same ∙ is)
any_has p x (y ∷ xs) (inr has) is = or_right (p y) (list_any p xs) (any_has p x xs has is)

-- ---- of which form it is

-- the ledger knows states of this form
abbrev pub IsOfForm : StateKind → Option StateForm → Type 0
IsOfForm (kind.Stream id blob) known = known ≡ Some form.Stream
IsOfForm (kind.Global shared streams) known = known ≡ Some form.Global
IsOfForm kind.Legacy known = ⊥

pub record CanTake (ids : List StreamId) (known : Option StateForm) (own : StateKind) : Type 0 where
  pub known_kind : is_known_kind ids own ≡ true
  pub of_form : IsOfForm own known

stream_form : (of_streams of_all : Bool) → of_streams ≡ true → (of_all ≡ true → ⊥) → form_by of_streams of_all ≡ Some form.Stream
stream_form true true some none = absurd (none refl)
stream_form true false some none = refl
stream_form false of_all some none = absurd (false≢true some)

global_form : (of_streams of_all : Bool) → of_all ≡ true → form_by of_streams of_all ≡ Some form.Global
global_form of_streams true some = refl
global_form of_streams false some = absurd (false≢true some)

kind_form : (start : Saved) (lines : List Line) (known : Option StateForm) (own : StateKind) (line : Line) (state : State) → Apart start lines → known ≡ form_by (has_stream_state start lines) (has_global_state start lines)
    → Has line lines → state_in line.found ≡ Some state → own ≡ state.kind → (lane : Lane) → lane_of own ≡ Some lane → IsOfForm own known
kind_form start lines known (kind.Stream id blob) line state apart is among found same lane of =
    let by_stream : has_stream_state start lines ≡ true = or_right (has_states start.entries) (list_any (λ it. is_state is_stream_kind (state_in it.found)) lines)
    (any_has (λ (it : Line). is_state is_stream_kind (state_in it.found)) line lines among (ap (is_state is_stream_kind) found ∙ ap is_stream_kind (sym same))) in
    is ∙ stream_form (has_stream_state start lines) (has_global_state start lines) by_stream (λ by_all. apart by_stream by_all)
kind_form start lines known (kind.Global shared streams) line state apart is among found same lane of =
    is ∙ global_form (has_stream_state start lines) (has_global_state start lines) (or_right (is_some start.global) (list_any (λ it. is_state is_global_kind (state_in it.found)) lines)
    (any_has (λ (it : Line). is_state is_global_kind (state_in it.found)) line lines among (ap (is_state is_global_kind) found ∙ ap is_global_kind (sym same))))
kind_form start lines known kind.Legacy line state apart is among found same lane of = absurd (some_none (sym of))

-- what was passed on can be taken
pub can_take : (ids : List StreamId) (start : Saved) (read : Reading) (events : List Event) (line : Option (List ℕ)) (noted : Noted) (state : LaneState) → IsSaved start → IsLedgerOf ids start read events line noted
    → Has state (states (passed ids read events)) → CanTake ids noted.form state.state.kind
can_take ids start read events line noted state saved ledger has =
    let lines = lines_read read (reads events) in
    let there = stands_among [] (passed ids read events) state has in
    let among = has_passed (λ it. passes ids it.found) there.line lines there.among in
    record {
      known_kind = passed_kind ids there.line.found state.state there.is among.1;
      of_form = kind_form start lines noted.form state.state.kind there.line state.state (apart_of ids start read events line noted saved ledger) ledger.form among.0 there.is refl state.lane there.of;
    }

-- ---- the set behind it

abbrev pub put_set : StateKind → List ℕ → Saved → Saved
put_set (kind.Stream id blob) object set = record set { entries = map (with_state id object) set.entries }
put_set (kind.Global shared streams) object set = record set { global = Some object }
put_set kind.Legacy object set = set

known_one : (P : StreamId → Type 0) (own : StreamId) (ids : List StreamId) (id : StreamId) → P own → (is_known ids id ≡ true → P id) → (same_id own id ≡ true) ⊎ (is_known ids id ≡ true) → P id
known_one P own ids id here behind (inl same) = subst P (id_is own id same) here
known_one P own ids id here behind (inr more) = behind more

known_has : (P : StreamId → Type 0) (ids : List StreamId) (id : StreamId) → AllByRecursion P ids → is_known ids id ≡ true → P id
known_has P [] id each known = absurd (false≢true known)
known_has P (own ∷ ids) id each known = known_one P own ids id each.0 (λ more. known_has P ids id each.1 more) (or_cases (same_id own id) (is_known ids id) known)

two_forms : Some form.Stream ≡ Some form.Global → ⊥
two_forms e = cc

put_is : (w : Worker) (streams : List ConfStream) (own : StateKind) (object : List ℕ) → SetFits w streams → CanTake (ids_of streams) w.ledger.form own → put_kind own object w.set ≡ Ok (put_set own object w.set)
put_is w streams (kind.Stream id blob) object fits takes = by_bool (is_some w.set.global) mixed alone
  where
    put : Result Saved StateFault
    put = Ok (record w.set { entries = map (with_state id object) w.set.entries })

    mixed : is_some w.set.global ≡ true → put_stream id object w.set ≡ put
    mixed b = absurd (two_forms (sym takes.of_form ∙ fits.of_all b))

    alone : is_some w.set.global ≡ false → put_stream id object w.set ≡ put
    alone b =
        ap (λ (c : Bool). cond c (Err fault.Mixed) (cond (has_stream (entry_ids w.set.entries) id) put (Err fault.Unknown))) b
        ∙ ap (λ (c : Bool). cond c put (Err fault.Unknown)) (known_has (λ it. has_stream (entry_ids w.set.entries) it ≡ true) (ids_of streams) id fits.has_streams takes.known_kind)
put_is w streams (kind.Global shared parts) object fits takes = by_bool (has_states w.set.entries) mixed alone
  where
    put : Result Saved StateFault
    put = Ok (record w.set { global = Some object })

    mixed : has_states w.set.entries ≡ true → put_global object w.set ≡ put
    mixed b = absurd (two_forms (sym (fits.of_streams b) ∙ takes.of_form))

    alone : has_states w.set.entries ≡ false → put_global object w.set ≡ put
    alone b = ap (λ (c : Bool). cond c (Err fault.Mixed) put) b
put_is w streams kind.Legacy object fits takes = absurd takes.of_form

abbrev pub set_worker : Worker → Saved → Worker
set_worker w set = record w { set = set }

put_fits : (w : Worker) (streams : List ConfStream) (own : StateKind) (object : List ℕ) → SetFits w streams → CanTake (ids_of streams) w.ledger.form own → SetFits (set_worker w (put_set own object w.set)) streams
put_fits w streams (kind.Stream id blob) object fits takes = record {
  has_streams = subst (λ list. AllByRecursion (λ it. has_stream list it ≡ true) (ids_of streams)) (sym (stated_ids id object w.set.entries)) fits.has_streams;
  of_streams = λ some. takes.of_form;
  of_all = fits.of_all;
}
put_fits w streams (kind.Global shared parts) object fits takes = record {
  has_streams = fits.has_streams;
  of_streams = fits.of_streams;
  of_all = λ some. takes.of_form;
}
put_fits w streams kind.Legacy object fits takes = absurd takes.of_form

abbrev held_of : SavedEntry → Held
held_of entry = record { id = entry.id; generation = entry.generation }

stated_one : (object : List ℕ) (entry : SavedEntry) (b : Bool) (next rest : List Held) → next ≡ rest → held_of (cond b (record entry { state = Some object }) entry) ∷ next ≡ held_of entry ∷ rest
stated_one object entry true next rest same = ap (λ list. held_of entry ∷ list) same
stated_one object entry false next rest same = ap (λ list. held_of entry ∷ list) same

stated_held : (id : StreamId) (object : List ℕ) (entries : List SavedEntry) → map {B = Held} held_of (map (with_state id object) entries) ≡ map {B = Held} held_of entries
stated_held id object [] = refl
stated_held id object (entry ∷ entries) = stated_one object entry (is_same_stream id entry.id) (map {B = Held} held_of (map (with_state id object) entries)) (map {B = Held} held_of entries) (stated_held id object entries)

put_held : (own : StateKind) (object : List ℕ) (set : Saved) → generations_in (put_set own object set) ≡ generations_in set
put_held (kind.Stream id blob) object set = stated_held id object set.entries
put_held (kind.Global shared parts) object set = refl
put_held kind.Legacy object set = refl

abbrev ok_set : Saved → Result Saved StateFault
ok_set set = Ok set

one_set : {a b : Saved} → ok_set a ≡ ok_set b → a ≡ b
one_set h = cc

-- what holds of a state that can be put
pub record PutsSo (w : Worker) (streams : List ConfStream) (state : State) (now : Saved) : Type 0 where
  pub put : put_into state w.set ≡ Ok now
  pub fits : SetFits (set_worker w now) streams
  pub kept : generations_in now ≡ generations_in w.set

pub puts_so : (w : Worker) (streams : List ConfStream) (state : State) → SetFits w streams → CanTake (ids_of streams) w.ledger.form state.kind → PutsSo w streams state (put_set state.kind state.object w.set)
puts_so w streams state fits takes = record {
  put = put_is w streams state.kind state.object fits takes;
  fits = put_fits w streams state.kind state.object fits takes;
  kept = put_held state.kind state.object w.set;
}

pub puts_then : (w : Worker) (streams : List ConfStream) (state : State) (now : Saved) → SetFits w streams → CanTake (ids_of streams) w.ledger.form state.kind → put_into state w.set ≡ Ok now → PutsSo w streams state now
puts_then w streams state now fits takes put =
    let own = puts_so w streams state fits takes in
    subst (λ it. PutsSo w streams state it) (one_set (sym own.put ∙ put)) own
