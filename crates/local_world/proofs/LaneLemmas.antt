-- Where a lane starts, and that no other start leaves out a line of it.
use Rattle.std.proofs.Common.{◌≡◌, ◌⊎◌, inl, inr, ℕ, zero, suc, ◌+◌, ◌≤◌, List, [], ◌∷◌, ◌++◌, drop, Option, None, Some, Bool, true, false, cond, ◌||◌, ◌&&◌, refl, sym, ◌∙◌, ap, subst, arith, nat_lt}
use Rattle.std.specs.Prelude.{IsSomeAnd}
use Rattle.std.specs.List.{AllByRecursion, filter_map, list_any, cons_option}
use Rattle.std.proofs.lemmas.Bool.{le-ltb, lt-ltb}
use Rattle.basics.specs.declared.stream.StreamId.{StreamId}
use Rattle.outside.specs.Tables.{same_id}
use Rattle.outside.proofs.TableLaws.{id_apart, id_is}
use Rattle.stream_index.specs.Same.{is_same_stream}
use Rattle.stream_index.proofs.IndexLemmas.{Decides-stream}
use Rattle.airbyte_message.specs.Lanes.{Lane, one, all, lane_of}
use Rattle.airbyte_message.specs.Same.{IsSameKind, Same}
use Rattle.airbyte_message.specs.State.{State}
use Rattle.airbyte_message.specs.declared.message.Message.{Message}
use Rattle.airbyte_message.specs.declared.message.Message.TheVariants as message
use Rattle.airbyte_message.specs.declared.message.StateKind.{StateKind}
use Rattle.airbyte_message.specs.declared.message.StateKind.TheVariants as kind
use Rattle.state_kinds.specs.Store.{is_global_kind, is_stream_kind, repeats_stream}
use Rattle.state_kinds.specs.StateLists.{list_fault, stream_of}
use Rattle.load_rules.specs.Lines.{Line, state_in}
use Rattle.load_rules.specs.Taken.{is_of_lane}
use Rattle.local_world.specs.Starts.{AreStarts, ReachTo, Start, StartsBehind}
use Rattle.local_world.specs.Left.{has_state, is_left_out, is_of, left_behind, left_from}
use Rattle.local_world.specs.Replay.{IsReplayable, is_kind_of, of_lane, started, states_in}
use Rattle.local_world.proofs.StartedLemmas.{AreStreams, IsOneGlobal, Some-injective, are_sound, by_bool, global_lane, ids_first, or_false, stream_kind, true_false, two_kinds}

-- ---- one lane's messages are of no other stream's lane

kind_apart : (id own : StreamId) (k : StateKind) → has_state (one id) k ≡ true → same_id id own ≡ false → has_state (one own) k ≡ false
kind_apart id own (kind.Stream other blob) is apart =
    let e : id ≡ other = id_is id other is in ap (λ (o : StreamId). same_id own o) (sym e) ∙ id_apart id own apart
kind_apart id own (kind.Global shared streams) is apart = true_false (sym is)
kind_apart id own kind.Legacy is apart = true_false (sym is)

lane_apart : (id own : StreamId) (found : Option Message) → is_of (one id) found ≡ true → same_id id own ≡ false → is_of (one own) found ≡ false
lane_apart id own None is apart = refl
lane_apart id own (Some (message.Rec content)) is apart =
    let e : id ≡ content.id = id_is id content.id is in ap (λ (o : StreamId). same_id own o) (sym e) ∙ id_apart id own apart
lane_apart id own (Some (message.State state)) is apart = kind_apart id own state.kind is apart
lane_apart id own (Some (message.Log content)) is apart = refl
lane_apart id own (Some (message.Spec content)) is apart = refl
lane_apart id own (Some (message.Connection content)) is apart = refl
lane_apart id own (Some (message.Catalog content)) is apart = refl
lane_apart id own (Some (message.Trace content)) is apart = refl
lane_apart id own (Some (message.Control content)) is apart = refl

-- ---- where a lane starts

pub record LaneStart (lane : Lane) (lines : List Line) (states : List State) (starts : List Start) : Type 0 where
  pub count : ℕ
  pub at : ((started lane states ≡ None) × (count ≡ 0)) ⊎ ((state : State) × (started lane states ≡ Some state) × ReachTo lines state count)
  pub out : (number : ℕ) (line : Line) → is_of lane line.found ≡ true → is_left_out starts number line ≡ nat_lt number count

own_lane : (lines : List Line) (state : State) (start : Start) (own : StreamId) → lane_of state.kind ≡ Some (one own) → StartsBehind lines state start → start.lane ≡ one own
own_lane lines state start own is behind = Some-injective start.lane (one own) (sym behind.lane ∙ is)

and_is : (a b : Bool) → b ≡ true → (a && b) ≡ a
and_is true b e = e
and_is false b e = refl

and_not : (a b : Bool) → b ≡ false → (a && b) ≡ false
and_not true b e = e
and_not false b e = refl

or_not : (a b : Bool) → b ≡ false → (a || b) ≡ a
or_not true b e = refl
or_not false b e = e

-- the streams of other states leave the lane's lines
others_leave : (id : StreamId) (lines : List Line) (states : List State) (starts : List Start) → AreStarts lines states starts → AreStreams states → list_any (is_same_stream id) (filter_map (λ s. stream_of s.kind) states) ≡ false
    → (number : ℕ) (line : Line) → is_of (one id) line.found ≡ true → is_left_out starts number line ≡ false
others_leave id lines [] [] begins are none number line is = refl
others_leave id lines [] (start ∷ starts) begins are none number line is = absurd begins
others_leave id lines (state ∷ states) [] begins are none number line is = absurd begins
others_leave id lines (state ∷ states) (start ∷ starts) begins are none number line is =
    let k = stream_kind state.kind are.0 in
    let parts = or_false (is_same_stream id k.own) (list_any (is_same_stream id) (filter_map (λ s. stream_of s.kind) states)) (sym (ap (λ (xs : List StreamId). list_any (is_same_stream id) xs) (ids_first state states k.own k.stream)) ∙ none) in
    let apart : same_id id k.own ≡ false = by_bool (same_id id k.own) (λ same. true_false (sym ((Decides-stream id k.own).1 (id_is id k.own same)) ∙ parts.0)) (λ other. other) in
    let lane = own_lane lines state start k.own k.lane begins.0 in
    let no : is_of start.lane line.found ≡ false = ap (λ (l : Lane). is_of l line.found) lane ∙ lane_apart id k.own line.found is apart in
    ap (λ (b : Bool). b || is_left_out starts number line) (and_not (nat_lt number start.behind) (is_of start.lane line.found) no) ∙ others_leave id lines states starts begins.1 are.1 parts.1 number line is

started_here : (id : StreamId) (state : State) (states : List State) (own : StreamId) (b : Bool) → lane_of state.kind ≡ Some (one own) → same_id id own ≡ b → started (one id) (state ∷ states) ≡ cond b (Some state) (started (one id) states)
started_here id state states own b lane same =
    ap (λ (o : Option Lane). cond (is_of_lane (one id) o) (Some state) (started (one id) states)) lane ∙ ap (λ (x : Bool). cond x (Some state) (started (one id) states)) same

stream_start : (id : StreamId) (lines : List Line) (states : List State) (starts : List Start) → AreStarts lines states starts → AreStreams states → repeats_stream (filter_map (λ s. stream_of s.kind) states) ≡ false → LaneStart (one id) lines states starts
stream_start id lines [] [] begins are once = record { count = 0; at = inl (refl, refl); out = λ number line is. sym (le-ltb number 0 (omega arith)) }
stream_start id lines [] (start ∷ starts) begins are once = absurd begins
stream_start id lines (state ∷ states) [] begins are once = absurd begins
stream_start id lines (state ∷ states) (start ∷ starts) begins are once =
    let k = stream_kind state.kind are.0 in
    let rest = filter_map (λ s. stream_of s.kind) states in
    let parts = or_false (list_any (is_same_stream k.own) rest) (repeats_stream rest) (sym (ap repeats_stream (ids_first state states k.own k.stream)) ∙ once) in
    let lane = own_lane lines state start k.own k.lane begins.0 in
    by_bool (same_id id k.own)
    (λ same.
    let e : id ≡ k.own = id_is id k.own same in
    record {
      count = start.behind;
      at = inr (state, started_here id state states k.own true k.lane same, begins.0.reach);
      out = λ number line is.
          let own : is_of start.lane line.found ≡ true = ap (λ (l : Lane). is_of l line.found) lane ∙ (ap (λ (i : StreamId). is_of (one i) line.found) (sym e) ∙ is) in
          let none : list_any (is_same_stream id) rest ≡ false = ap (λ (i : StreamId). list_any (is_same_stream i) rest) e ∙ parts.0 in
          or_not (nat_lt number start.behind && is_of start.lane line.found) (is_left_out starts number line) (others_leave id lines states starts begins.1 are.1 none number line is)
          ∙ and_is (nat_lt number start.behind) (is_of start.lane line.found) own;
    })
    (λ other.
    let more = stream_start id lines states starts begins.1 are.1 parts.1 in
    let skip = started_here id state states k.own false k.lane other in
    record {
      count = more.count;
      at = elim more.at [ inl none ↦ inl (skip ∙ none.0, none.1) | inr some ↦ inr (some.0, skip ∙ some.1, some.2) ];
      out = λ number line is.
          let no : is_of start.lane line.found ≡ false = ap (λ (l : Lane). is_of l line.found) lane ∙ lane_apart id k.own line.found is other in
          ap (λ (b : Bool). b || is_left_out starts number line) (and_not (nat_lt number start.behind) (is_of start.lane line.found) no) ∙ more.out number line is;
    })

-- ---- started states are of the file's kind

same_kind_of : (lane : Lane) (own k : StateKind) → IsSameKind own k → is_kind_of lane own ≡ true → is_kind_of lane k ≡ true
same_kind_of (one id) (kind.Stream a blob) (kind.Stream b other) same is = refl
same_kind_of (one id) (kind.Stream a blob) (kind.Global shared streams) same is = absurd same
same_kind_of (one id) (kind.Stream a blob) kind.Legacy same is = absurd same
same_kind_of (one id) (kind.Global shared streams) k same is = true_false (sym is)
same_kind_of (one id) kind.Legacy k same is = true_false (sym is)
same_kind_of all (kind.Stream a blob) k same is = true_false (sym is)
same_kind_of all (kind.Global shared streams) (kind.Stream b other) same is = absurd same
same_kind_of all (kind.Global shared streams) (kind.Global others more) same is = refl
same_kind_of all (kind.Global shared streams) kind.Legacy same is = absurd same
same_kind_of all kind.Legacy k same is = true_false (sym is)

abbrev pub AreKind : Lane → List State → Type 0
AreKind lane states = AllByRecursion (λ state. is_kind_of lane state.kind ≡ true) states

-- what is known of each state among lines is known of one that a line holds
states_at : (P : State → Type 0) (before : List Line) (line : Line) (behind : List Line) (own : State) → AllByRecursion P (states_in (before ++ line ∷ behind)) → state_in line.found ≡ Some own → P own
states_at P [] line behind own each is = first (subst (λ (o : Option State). AllByRecursion P (cons_option o (states_in behind))) is each)
  where
    first : AllByRecursion P (own ∷ states_in behind) → P own
    first h = h.0
states_at P (x ∷ before) line behind own each is = states_at P before line behind own (later (state_in x.found) each) is
  where
    later : (o : Option State) → AllByRecursion P (cons_option o (states_in (before ++ line ∷ behind))) → AllByRecursion P (states_in (before ++ line ∷ behind))
    later None h = h
    later (Some s) h = h.1

held_kind : (lane : Lane) (state : State) (found : Option State) → IsSomeAnd found (λ own. Same own state) → ((own : State) → found ≡ Some own → is_kind_of lane own.kind ≡ true) → is_kind_of lane state.kind ≡ true
held_kind lane state None holds kinds = absurd holds
held_kind lane state (Some own) holds kinds = same_kind_of lane own.kind state.kind holds (kinds own refl)

pub are_kind : (lane : Lane) (lines : List Line) (states : List State) (starts : List Start) → AreKind lane (states_in lines) → AreStarts lines states starts → AreKind lane states
are_kind lane lines [] [] kinds begins = tt
are_kind lane lines [] (start ∷ starts) kinds begins = tt
are_kind lane lines (state ∷ states) [] kinds begins = absurd begins
are_kind lane lines (state ∷ states) (start ∷ starts) kinds begins =
    let r = begins.0.reach in
    let P : State → Type 0 = λ s. is_kind_of lane s.kind ≡ true in
    (held_kind lane state (state_in r.line.found) r.holds (λ own is. states_at P r.before r.line r.behind own (subst (λ (ls : List Line). AllByRecursion P (states_in ls)) r.splits kinds) is), are_kind lane lines states starts kinds begins.1)

stream_kinds : (id : StreamId) (k : StateKind) → is_kind_of (one id) k ≡ true → is_stream_kind k ≡ true
stream_kinds id (kind.Stream other blob) is = refl
stream_kinds id (kind.Global shared streams) is = true_false (sym is)
stream_kinds id kind.Legacy is = true_false (sym is)

all_stream_kinds : (id : StreamId) (states : List State) → AreKind (one id) states → AreStreams states
all_stream_kinds id [] are = tt
all_stream_kinds id (state ∷ states) are = (stream_kinds id state.kind are.0, all_stream_kinds id states are.1)

not_stream : (k : StateKind) → is_kind_of all k ≡ true → is_stream_kind k ≡ true → ⊥
not_stream (kind.Stream other blob) is stream = true_false (sym is)
not_stream (kind.Global shared streams) is stream = true_false (sym stream)
not_stream kind.Legacy is stream = true_false (sym is)

global_started : (state : State) → is_global_kind state.kind ≡ true → started all (state ∷ []) ≡ Some state
global_started state is = ap (λ (o : Option Lane). cond (is_of_lane all o) (Some state) None) (global_lane state.kind is)

one_start : (lines : List Line) (state : State) (starts : List Start) → is_global_kind state.kind ≡ true → AreStarts lines (state ∷ []) starts → LaneStart all lines (state ∷ []) starts
one_start lines state [] global begins = absurd begins
one_start lines state (start ∷ next ∷ starts) global begins = absurd begins.1
one_start lines state (start ∷ []) global begins =
    let lane : start.lane ≡ all = Some-injective start.lane all (sym begins.0.lane ∙ global_lane state.kind global) in
    record {
      count = start.behind;
      at = inr (state, global_started state global, begins.0.reach);
      out = λ number line is.
          let own : is_of start.lane line.found ≡ true = ap (λ (l : Lane). is_of l line.found) lane ∙ is in
          or_not (nat_lt number start.behind && is_of start.lane line.found) false refl ∙ and_is (nat_lt number start.behind) (is_of start.lane line.found) own;
    }

all_start : (lines : List Line) (states : List State) (starts : List Start) → AreKind all states → AreStreams states ⊎ IsOneGlobal states → AreStarts lines states starts → LaneStart all lines states starts
all_start lines [] [] kinds two begins = record { count = 0; at = inl (refl, refl); out = λ number line is. sym (le-ltb number 0 (omega arith)) }
all_start lines [] (start ∷ starts) kinds two begins = absurd begins
all_start lines (state ∷ states) starts kinds (inl are) begins = absurd (not_stream state.kind kinds.0 are.0)
all_start lines (state ∷ states) starts kinds (inr g) begins =
    subst (λ (ss : List State). LaneStart all lines ss starts) (sym g.is) (one_start lines g.state starts g.global (subst (λ (ss : List State). AreStarts lines ss starts) g.is begins))

pub lane_start : (lane : Lane) (lines : List Line) (states : List State) (starts : List Start) → IsReplayable lane lines → list_fault states ≡ None → AreStarts lines states starts → LaneStart lane lines states starts
lane_start (one id) lines states starts replays none begins =
    stream_start id lines states starts begins (all_stream_kinds id states (are_kind (one id) lines states starts replays.one_kind begins)) (are_sound states none).once
lane_start all lines states starts replays none begins =
    all_start lines states starts (are_kind all lines states starts replays.one_kind begins) (two_kinds states (are_sound states none)) begins

-- ---- what is left of a lane's lines

lane_drop : (lane : Lane) (starts : List Start) (count : ℕ) → ((number : ℕ) (line : Line) → is_of lane line.found ≡ true → is_left_out starts number line ≡ nat_lt number count)
    → (number more : ℕ) (lines : List Line) → (count ≡ number + more) ⊎ ((more ≡ 0) × (count ≤ number)) → of_lane lane (left_from starts number lines) ≡ of_lane lane (drop more lines)
lane_drop lane starts count out number zero [] at = refl
lane_drop lane starts count out number (suc more) [] at = refl
lane_drop lane starts count out number zero (line ∷ lines) at =
    let le : count ≤ number = elim at [ inl e ↦ omega (arith, e) | inr h ↦ h.1 ] in
    let next = lane_drop lane starts count out (number + 1) zero lines (inr (refl, omega (arith, le))) in
    by_bool (is_of lane line.found)
    (λ is.
    ap (λ (b : Bool). of_lane lane (cond b (left_from starts (number + 1) lines) (line ∷ left_from starts (number + 1) lines))) (out number line is ∙ le-ltb number count le)
    ∙ ap (λ (ls : List Line). cond (is_of lane line.found) (line ∷ ls) ls) next)
    (λ not_is. skip (is_left_out starts number line) not_is ∙ (next ∙ sym (ap (λ (b : Bool). cond b (line ∷ of_lane lane lines) (of_lane lane lines)) not_is)))
  where
    skip : (b : Bool) → is_of lane line.found ≡ false → of_lane lane (cond b (left_from starts (number + 1) lines) (line ∷ left_from starts (number + 1) lines)) ≡ of_lane lane (left_from starts (number + 1) lines)
    skip true e = refl
    skip false e = ap (λ (b : Bool). cond b (line ∷ of_lane lane (left_from starts (number + 1) lines)) (of_lane lane (left_from starts (number + 1) lines))) e
lane_drop lane starts count out number (suc more) (line ∷ lines) at =
    let e : count ≡ number + suc more = elim at [ inl e ↦ e | inr h ↦ absurd (let z = h.0 in omega (arith, z)) ] in
    let next = lane_drop lane starts count out (number + 1) more lines (inl (omega (arith, e))) in
    by_bool (is_of lane line.found)
    (λ is. ap (λ (b : Bool). of_lane lane (cond b (left_from starts (number + 1) lines) (line ∷ left_from starts (number + 1) lines))) (out number line is ∙ lt-ltb number count (omega (arith, e))) ∙ next)
    (λ not_is. skip (is_left_out starts number line) not_is ∙ next)
  where
    skip : (b : Bool) → is_of lane line.found ≡ false → of_lane lane (cond b (left_from starts (number + 1) lines) (line ∷ left_from starts (number + 1) lines)) ≡ of_lane lane (left_from starts (number + 1) lines)
    skip true e = refl
    skip false e = ap (λ (b : Bool). cond b (line ∷ of_lane lane (left_from starts (number + 1) lines)) (of_lane lane (left_from starts (number + 1) lines))) e

pub lane_left : (lane : Lane) (lines : List Line) (states : List State) (starts : List Start) → (s : LaneStart lane lines states starts) → of_lane lane (left_behind starts lines) ≡ of_lane lane (drop s.count lines)
lane_left lane lines states starts s = let e : s.count ≡ 0 + s.count = omega arith in lane_drop lane starts s.count s.out 0 s.count lines (inl e)
