-- What started states are that were not refused: states of streams, each of its own, or one state of all streams.
use Rattle.std.proofs.Common.{◌≡◌, ◌⊎◌, inl, inr, ℕ, zero, suc, ◌<◌, ◌≤◌, List, [], ◌∷◌, length, Option, None, Some, Bool, true, false, cond, ◌&&◌, ◌||◌, refl, sym, ◌∙◌, ap, subst, arith, filter, nat_lt, slice_get, IfSome, IfNone}
use Rattle.std.specs.List.{AllByRecursion, count_by, cons_option, filter_map, list_any}
use Rattle.std.proofs.lemmas.List.Sums.{length-filter}
use Rattle.std.proofs.lemmas.Bool.{ltb-false}
use Rattle.basics.specs.declared.stream.StreamId.{StreamId}
use Rattle.outside.specs.Tables.{same_id}
use Rattle.outside.specs.declared.faults.StateFault.TheVariants as fault
use Rattle.outside.proofs.TableLaws.{id_is, id_own}
use Rattle.stream_index.specs.Same.{is_same_stream}
use Rattle.stream_index.proofs.IndexLemmas.{Decides-stream, list_any-at, list_any-place}
use Rattle.catalog.specs.Checks.{first_failing}
use Rattle.airbyte_message.specs.Lanes.{Lane, one, all, lane_of}
use Rattle.airbyte_message.specs.State.{State}
use Rattle.airbyte_message.specs.declared.message.StateKind.{StateKind}
use Rattle.airbyte_message.specs.declared.message.StateKind.TheVariants as kind
use Rattle.state_kinds.specs.Store.{is_global_kind, is_legacy_kind, is_stream_kind, repeats_stream}
use Rattle.state_kinds.specs.StateLists.{has_kind, list_fault, repeats_lane, stream_of}
use Rattle.local_world.specs.Awaited.{IsOnlyAt, lane_has, state_has}

pub true_false : {P : Type 0} → true ≡ false → P
true_false e = absurd (let h : true ≡ false = e in cc)

pub by_bool : {P : Type 0} (b : Bool) → (b ≡ true → P) → (b ≡ false → P) → P
by_bool true passed failed = passed refl
by_bool false passed failed = failed refl

pub None_Some : {A P : Type 0} (a : A) → None ≡ Some a → P
None_Some a e = absurd (let h : None ≡ Some a = e in cc)

pub Some-injective : {A : Type 0} (a b : A) → Some a ≡ Some b → a ≡ b
Some-injective a b e = cc

pub or_false : (a b : Bool) → (a || b) ≡ false → (a ≡ false) × (b ≡ false)
or_false true b e = true_false e
or_false false b e = (refl, e)

-- each state is of one stream
abbrev pub AreStreams : List State → Type 0
AreStreams states = AllByRecursion (λ state. is_stream_kind state.kind ≡ true) states

abbrev AreGlobal : List State → Type 0
AreGlobal states = AllByRecursion (λ state. is_global_kind state.kind ≡ true) states

pub record AreSound (states : List State) : Type 0 where
  pub no_legacy : has_kind is_legacy_kind states ≡ false
  pub one_kind : (has_kind is_stream_kind states && has_kind is_global_kind states) ≡ false
  pub once : repeats_stream (filter_map (λ state. stream_of state.kind) states) ≡ false
  pub one_global : nat_lt 1 (count_by (λ state. is_global_kind state.kind) states) ≡ false

checks : (a b c : Bool) → first_failing ((a, fault.Legacy) ∷ (b, fault.Mixed) ∷ (c, fault.Twice) ∷ []) ≡ None → (a ≡ false) × (b ≡ false) × (c ≡ false)
checks true b c e = None_Some fault.Legacy (sym e)
checks false true c e = None_Some fault.Mixed (sym e)
checks false false true e = None_Some fault.Twice (sym e)
checks false false false e = (refl, refl, refl)

pub are_sound : (states : List State) → list_fault states ≡ None → AreSound states
are_sound states none =
    let passed = checks (has_kind is_legacy_kind states) (has_kind is_stream_kind states && has_kind is_global_kind states) (repeats_lane states) none in
    let lanes = or_false (repeats_stream (filter_map (λ state. stream_of state.kind) states)) (nat_lt 1 (count_by (λ state. is_global_kind state.kind) states)) passed.2 in
    record { no_legacy = passed.0; one_kind = passed.1; once = lanes.0; one_global = lanes.1 }

-- ---- one kind

kind_is_stream : (k : StateKind) → is_legacy_kind k ≡ false → is_global_kind k ≡ false → is_stream_kind k ≡ true
kind_is_stream (kind.Stream id blob) legacy global = refl
kind_is_stream (kind.Global shared streams) legacy global = true_false global
kind_is_stream kind.Legacy legacy global = true_false legacy

kind_is_global : (k : StateKind) → is_legacy_kind k ≡ false → is_stream_kind k ≡ false → is_global_kind k ≡ true
kind_is_global (kind.Stream id blob) legacy stream = true_false stream
kind_is_global (kind.Global shared streams) legacy stream = refl
kind_is_global kind.Legacy legacy stream = true_false legacy

all_streams : (states : List State) → has_kind is_legacy_kind states ≡ false → has_kind is_global_kind states ≡ false → AreStreams states
all_streams [] legacy global = tt
all_streams (state ∷ states) legacy global =
    let l = or_false (is_legacy_kind state.kind) (has_kind is_legacy_kind states) legacy in
    let g = or_false (is_global_kind state.kind) (has_kind is_global_kind states) global in
    (kind_is_stream state.kind l.0 g.0, all_streams states l.1 g.1)

all_global : (states : List State) → has_kind is_legacy_kind states ≡ false → has_kind is_stream_kind states ≡ false → AreGlobal states
all_global [] legacy stream = tt
all_global (state ∷ states) legacy stream =
    let l = or_false (is_legacy_kind state.kind) (has_kind is_legacy_kind states) legacy in
    let s = or_false (is_stream_kind state.kind) (has_kind is_stream_kind states) stream in
    (kind_is_global state.kind l.0 s.0, all_global states l.1 s.1)

all_pass : (states : List State) → AreGlobal states → filter (λ state. is_global_kind state.kind) states ≡ states
all_pass [] are = refl
all_pass (state ∷ states) are =
    ap (λ (b : Bool). cond b (state ∷ filter (λ s. is_global_kind s.kind) states) (filter (λ s. is_global_kind s.kind) states)) are.0 ∙ ap (λ (more : List State). state ∷ more) (all_pass states are.1)

-- one state, of all streams
pub record IsOneGlobal (states : List State) : Type 0 where
  pub state : State
  pub is : states ≡ state ∷ []
  pub global : is_global_kind state.kind ≡ true

one_global_of : (states : List State) → AreGlobal states → length states ≤ 1 → AreStreams states ⊎ IsOneGlobal states
one_global_of [] are le = inl tt
one_global_of (state ∷ []) are le = inr (record { state = state; is = refl; global = are.0 })
one_global_of (state ∷ next ∷ states) are le = absurd (omega (arith, le))

pub two_kinds : (states : List State) → AreSound states → AreStreams states ⊎ IsOneGlobal states
two_kinds states sound = by_bool (has_kind is_global_kind states)
    (λ global.
    let stream : has_kind is_stream_kind states ≡ false = by_bool (has_kind is_stream_kind states) (λ both. true_false (sym (ap (λ (b : Bool). b && has_kind is_global_kind states) both ∙ global) ∙ sound.one_kind)) (λ none. none) in
    let are = all_global states sound.no_legacy stream in
    let count : length states ≡ count_by (λ state. is_global_kind state.kind) states = ap length (sym (all_pass states are)) ∙ length-filter (λ state. is_global_kind state.kind) states in
    one_global_of states are (let le : count_by (λ state. is_global_kind state.kind) states ≤ 1 = ltb-false 1 (count_by (λ state. is_global_kind state.kind) states) sound.one_global in omega (arith, le, count)))
    (λ none. inl (all_streams states sound.no_legacy none))

-- ---- streams and lanes

pub record IsStreamKind (k : StateKind) : Type 0 where
  pub own : StreamId
  pub stream : stream_of k ≡ Some own
  pub lane : lane_of k ≡ Some (one own)

pub stream_kind : (k : StateKind) → is_stream_kind k ≡ true → IsStreamKind k
stream_kind (kind.Stream id blob) is = record { own = id; stream = refl; lane = refl }
stream_kind (kind.Global shared streams) is = true_false (sym is)
stream_kind kind.Legacy is = true_false (sym is)

pub global_lane : (k : StateKind) → is_global_kind k ≡ true → lane_of k ≡ Some all
global_lane (kind.Stream id blob) is = true_false (sym is)
global_lane (kind.Global shared streams) is = refl
global_lane kind.Legacy is = true_false (sym is)

global_stream : (k : StateKind) → is_global_kind k ≡ true → stream_of k ≡ None
global_stream (kind.Stream id blob) is = true_false (sym is)
global_stream (kind.Global shared streams) is = refl
global_stream kind.Legacy is = true_false (sym is)

-- a list of streams that begins with one more
pub ids_first : (state : State) (states : List State) (id : StreamId) → stream_of state.kind ≡ Some id → filter_map (λ s. stream_of s.kind) (state ∷ states) ≡ id ∷ filter_map (λ s. stream_of s.kind) states
ids_first state states id e = ap (λ (o : Option StreamId). cons_option o (filter_map (λ s. stream_of s.kind) states)) e

pub length-ids : (states : List State) → AreStreams states → length (filter_map (λ s. stream_of s.kind) states) ≡ length states
length-ids [] are = refl
length-ids (state ∷ states) are =
    let k = stream_kind state.kind are.0 in
    ap length (ids_first state states k.own k.stream) ∙ ap (λ (n : ℕ). suc n) (length-ids states are.1)

pub length-global : (states : List State) → (one : IsOneGlobal states) → length (filter_map (λ s. stream_of s.kind) states) ≡ 0
length-global states g =
    ap (λ (ss : List State). length (filter_map (λ s. stream_of s.kind) ss)) g.is ∙ ap (λ (o : Option StreamId). length (cons_option o [])) (global_stream g.state.kind g.global)

not_same : (a b : StreamId) → is_same_stream a b ≡ false → same_id a b ≡ false
not_same a b e = by_bool (same_id a b) (λ same. true_false (sym ((Decides-stream a b).1 (id_is a b same)) ∙ e)) (λ other. other)

has_stream : (id own : StreamId) → is_same_stream id own ≡ false → same_id own id ≡ false
has_stream id own e = by_bool (same_id own id) (λ same. true_false (sym ((Decides-stream id own).1 (sym (id_is own id same))) ∙ e)) (λ other. other)

-- no state has the stream
pub none_has : (id : StreamId) (states : List State) → AreStreams states → list_any (is_same_stream id) (filter_map (λ s. stream_of s.kind) states) ≡ false → IsOnlyAt (state_has (Some id)) states None
none_has id [] are none = refl
none_has id (state ∷ states) are none =
    let k = stream_kind state.kind are.0 in
    let parts = or_false (is_same_stream id k.own) (list_any (is_same_stream id) (filter_map (λ s. stream_of s.kind) states)) (sym (ap (λ (xs : List StreamId). list_any (is_same_stream id) xs) (ids_first state states k.own k.stream)) ∙ none) in
    (ap (λ (o : Option Lane). lane_has o (Some id)) k.lane ∙ has_stream id k.own parts.0, none_has id states are.1 parts.1)

-- the state at the stream's place is the only one that has it
pub one_has : (id : StreamId) (states : List State) (place : ℕ) → AreStreams states → repeats_stream (filter_map (λ s. stream_of s.kind) states) ≡ false → slice_get (filter_map (λ s. stream_of s.kind) states) place ≡ Some id → IsOnlyAt (state_has (Some id)) states (Some place)
one_has id [] place are once at = None_Some id at
one_has id (state ∷ states) zero are once at =
    let k = stream_kind state.kind are.0 in
    let first = ids_first state states k.own k.stream in
    let parts = or_false (list_any (is_same_stream k.own) (filter_map (λ s. stream_of s.kind) states)) (repeats_stream (filter_map (λ s. stream_of s.kind) states)) (sym (ap repeats_stream first) ∙ once) in
    let same : k.own ≡ id = Some-injective k.own id (sym (ap (λ (xs : List StreamId). slice_get xs zero) first) ∙ at) in
    let own : same_id k.own id ≡ true = ap (λ (i : StreamId). same_id i id) same ∙ id_own id in
    let others : list_any (is_same_stream id) (filter_map (λ s. stream_of s.kind) states) ≡ false = ap (λ (i : StreamId). list_any (is_same_stream i) (filter_map (λ s. stream_of s.kind) states)) (sym same) ∙ parts.0 in
    (ap (λ (o : Option Lane). lane_has o (Some id)) k.lane ∙ own, none_has id states are.1 others)
one_has id (state ∷ states) (suc place) are once at =
    let k = stream_kind state.kind are.0 in
    let first = ids_first state states k.own k.stream in
    let parts = or_false (list_any (is_same_stream k.own) (filter_map (λ s. stream_of s.kind) states)) (repeats_stream (filter_map (λ s. stream_of s.kind) states)) (sym (ap repeats_stream first) ∙ once) in
    let there : slice_get (filter_map (λ s. stream_of s.kind) states) place ≡ Some id = sym (ap (λ (xs : List StreamId). slice_get xs (suc place)) first) ∙ at in
    let differs : same_id k.own id ≡ false = by_bool (same_id k.own id)
    (λ same. true_false (sym (list_any-at (is_same_stream k.own) (filter_map (λ s. stream_of s.kind) states) place id there ((Decides-stream k.own id).1 (id_is k.own id same))) ∙ parts.0))
    (λ other. other) in
    (ap (λ (o : Option Lane). lane_has o (Some id)) k.lane ∙ differs, one_has id states place are.1 parts.1 there)

-- a record or a state of no one stream is of no stream's lane
pub none_streamless : (states : List State) → AreStreams states → IsOnlyAt (state_has None) states None
none_streamless [] are = refl
none_streamless (state ∷ states) are =
    let k = stream_kind state.kind are.0 in
    (ap (λ (o : Option Lane). lane_has o None) k.lane, none_streamless states are.1)

-- ---- where the state is whose lane has a stream

pub found_place : (id : StreamId) (states : List State) (index : List StreamId) (place : Option ℕ) → AreSound states → index ≡ filter_map (λ s. stream_of s.kind) states → length states ≤ length index
    → IfSome place (λ p. slice_get index p ≡ Some id) → IfNone place ((p : ℕ) → ¬ (slice_get index p ≡ Some id)) → IsOnlyAt (state_has (Some id)) states place
found_place id states index place sound is le = by_kind (two_kinds states sound) place
  where
    streams : AreStreams states → (p : Option ℕ) → IfSome p (λ n. slice_get index n ≡ Some id) → IfNone p ((n : ℕ) → ¬ (slice_get index n ≡ Some id)) → IsOnlyAt (state_has (Some id)) states p
    streams are (Some p) at none = one_has id states p are sound.once (sym (ap (λ (xs : List StreamId). slice_get xs p) is) ∙ at)
    streams are None at none = none_has id states are (by_bool (list_any (is_same_stream id) (filter_map (λ s. stream_of s.kind) states))
        (λ any. let r = list_any-place (is_same_stream id) (filter_map (λ s. stream_of s.kind) states) any in
        absurd (none r.0 (ap (λ (xs : List StreamId). slice_get xs r.0) is ∙ (r.2 ∙ ap (λ (x : StreamId). Some x) (sym ((Decides-stream id r.1).0 r.3))))))
        (λ no. no))

    by_kind : AreStreams states ⊎ IsOneGlobal states → (p : Option ℕ) → IfSome p (λ n. slice_get index n ≡ Some id) → IfNone p ((n : ℕ) → ¬ (slice_get index n ≡ Some id)) → IsOnlyAt (state_has (Some id)) states p
    by_kind (inl are) p at none = streams are p at none
    by_kind (inr one_state) p at none =
        let size : length index ≡ 0 = ap length is ∙ length-global states one_state in
        let own : length states ≡ 1 = ap length one_state.is in
        absurd (omega (arith, le, size, own))

pub streamless_place : (states : List State) (index : List StreamId) → AreSound states → index ≡ filter_map (λ s. stream_of s.kind) states → length states ≤ length index → IsOnlyAt (state_has None) states None
streamless_place states index sound is le = by_kind (two_kinds states sound)
  where
    by_kind : AreStreams states ⊎ IsOneGlobal states → IsOnlyAt (state_has None) states None
    by_kind (inl are) = none_streamless states are
    by_kind (inr one_state) =
        let size : length index ≡ 0 = ap length is ∙ length-global states one_state in
        let own : length states ≡ 1 = ap length one_state.is in
        absurd (omega (arith, le, size, own))

pub global_place : (id : Option StreamId) (states : List State) (index : List StreamId) → AreSound states → index ≡ filter_map (λ s. stream_of s.kind) states → length index < length states → IsOnlyAt (state_has id) states (Some 0)
global_place id states index sound is lt = by_kind (two_kinds states sound)
  where
    by_kind : AreStreams states ⊎ IsOneGlobal states → IsOnlyAt (state_has id) states (Some 0)
    by_kind (inl are) =
        let size : length index ≡ length states = ap length is ∙ length-ids states are in
        absurd (omega (arith, lt, size))
    by_kind (inr g) = subst (λ (ss : List State). IsOnlyAt (state_has id) ss (Some 0)) (sym g.is)
        (ap (λ (o : Option Lane). lane_has o id) (global_lane g.state.kind g.global), refl)
