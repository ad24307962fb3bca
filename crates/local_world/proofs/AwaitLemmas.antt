-- Awaited states, and what one line more makes of them.
use Rattle.std.proofs.Common.{◌≡◌, inl, inr, ℕ, zero, suc, ◌+◌, ◌<◌, ◌≤◌, List, [], ◌∷◌, length, Option, None, Some, Bool, true, false, ◌||◌, refl, sym, ◌∙◌, ap, subst, arith, slice_get, replicate, set}
use Rattle.std.specs.Prelude.{IfSome, IsSomeAnd, is_none, is_some, not}
use Rattle.basics.specs.declared.stream.StreamId.{StreamId}
use Rattle.outside.specs.Tables.{same_id}
use Rattle.outside.proofs.TableLaws.{id_own}
use Rattle.airbyte_message.specs.Lanes.{Lane, one, all, lane_of}
use Rattle.airbyte_message.specs.Same.{IsSameKind, Same}
use Rattle.airbyte_message.specs.State.{State}
use Rattle.airbyte_message.specs.Views.{message_at, record_at}
use Rattle.airbyte_message.specs.declared.view.MessageView.{MessageView}
use Rattle.airbyte_message.specs.declared.view.MessageView.TheVariants as view
use Rattle.airbyte_message.specs.declared.view.RecordView.{RecordView}
use Rattle.airbyte_message.specs.declared.message.Message.{Message}
use Rattle.airbyte_message.specs.declared.message.Message.TheVariants as message
use Rattle.airbyte_message.specs.declared.message.RecordMsg.{RecordMsg}
use Rattle.airbyte_message.specs.declared.message.StateKind.{StateKind}
use Rattle.airbyte_message.specs.declared.message.StateKind.TheVariants as kind
use Rattle.state_kinds.specs.StateLists.{stream_of}
use Rattle.load_rules.specs.Lines.{state_in}
use Rattle.local_world.specs.Starts.{Holds}
use Rattle.local_world.specs.Awaited.{AllCome, Awaited, Comes, IsNeither, IsOnlyAt, Passes, count_missing, is_awaited, is_of_lane, is_of_state, lane_has, state_has}
use Rattle.local_world.proofs.StartedLemmas.{None_Some, Some-injective, true_false}

-- ---- places

pub only_within : (test : State → Bool) (states : List State) (place : ℕ) → IsOnlyAt test states (Some place) → place < length states
only_within test [] place only = None_Some place (sym only)
only_within test (state ∷ states) zero only = omega arith
only_within test (state ∷ states) (suc place) only = let lt = only_within test states place only.1 in omega (arith, lt)

pub is_within : (test : State → Bool) (states : List State) (place : Option ℕ) → IsOnlyAt test states place → IfSome place (λ p. p < length states)
is_within test states None only = tt
is_within test states (Some place) only = only_within test states place only

pub only_passes : (test : State → Bool) (states : List State) (place : ℕ) (state : State) → IsOnlyAt test states (Some place) → slice_get states place ≡ Some state → test state ≡ true
only_passes test [] place state only at = None_Some state at
only_passes test (first ∷ states) zero state only at = ap test (sym (Some-injective first state at)) ∙ only.0
only_passes test (first ∷ states) (suc place) state only at = only_passes test states place state only.1 at

-- ---- tests

same_any : (f g : State → Bool) → ((state : State) → f state ≡ g state) → (states : List State) (reached : List (Option ℕ)) → is_awaited f states reached ≡ is_awaited g states reached
same_any f g same [] reached = refl
same_any f g same (state ∷ states) [] = refl
same_any f g same (state ∷ states) (None ∷ reached) = ap (λ (b : Bool). b || is_awaited f states reached) (same state) ∙ ap (λ (b : Bool). g state || b) (same_any f g same states reached)
same_any f g same (state ∷ states) (Some count ∷ reached) = same_any f g same states reached

none_any : (test : State → Bool) (states : List State) (reached : List (Option ℕ)) → IsOnlyAt test states None → is_awaited test states reached ≡ false
none_any test [] reached only = refl
none_any test (state ∷ states) [] only = refl
none_any test (state ∷ states) (None ∷ reached) only = ap (λ (b : Bool). b || is_awaited test states reached) only.0 ∙ none_any test states reached only.1
none_any test (state ∷ states) (Some count ∷ reached) only = none_any test states reached only.1

one_any : (test : State → Bool) (states : List State) (reached : List (Option ℕ)) (place : ℕ) (o : Option ℕ) → IsOnlyAt test states (Some place) → slice_get reached place ≡ Some o → is_awaited test states reached ≡ is_none o
one_any test [] reached place o only at = None_Some place (sym only)
one_any test (state ∷ states) [] place o only at = None_Some o at
one_any test (state ∷ states) (None ∷ reached) zero o only at =
    ap (λ (b : Bool). b || is_awaited test states reached) only.0 ∙ ap is_none (Some-injective None o at)
one_any test (state ∷ states) (Some count ∷ reached) zero o only at =
    none_any test states reached only.1 ∙ ap is_none (Some-injective (Some count) o at)
one_any test (state ∷ states) (None ∷ reached) (suc place) o only at =
    ap (λ (b : Bool). b || is_awaited test states reached) only.0 ∙ one_any test states reached place o only.1 at
one_any test (state ∷ states) (Some count ∷ reached) (suc place) o only at = one_any test states reached place o only.1 at

-- ---- lanes of messages

record_lane : (content : RecordMsg) (lane : Option Lane) → is_of_lane (Some (message.Rec content)) lane ≡ lane_has lane (Some content.id)
record_lane content None = refl
record_lane content (Some all) = refl
record_lane content (Some (one own)) = refl

state_lane : (object : List ℕ) (count : Option ℕ) (k : StateKind) (lane : Option Lane) → is_of_lane (Some (message.State (record { object = object; kind = k; source_count = count }))) lane ≡ lane_has lane (stream_of k)
state_lane object count k None = refl
state_lane object count k (Some all) = refl
state_lane object count (kind.Stream id blob) (Some (one own)) = refl
state_lane object count (kind.Global shared streams) (Some (one own)) = refl
state_lane object count kind.Legacy (Some (one own)) = refl

-- the same states are of one lane
same_lane : (k other : StateKind) → IsSameKind k other → lane_has (lane_of other) (stream_of k) ≡ true
same_lane (kind.Stream id blob) (kind.Stream own other) same = ap (λ (i : StreamId). same_id own i) same.0 ∙ id_own own
same_lane (kind.Stream id blob) (kind.Global shared streams) same = absurd same
same_lane (kind.Stream id blob) kind.Legacy same = absurd same
same_lane (kind.Global shared streams) (kind.Stream own other) same = absurd same
same_lane (kind.Global shared streams) (kind.Global other others) same = refl
same_lane (kind.Global shared streams) kind.Legacy same = absurd same
same_lane kind.Legacy other same = absurd same

-- ---- one line more

abbrev IsNone : Option State → Type 0
IsNone None = Unit {0}
IsNone (Some state) = ⊥

holds_none : (found : Option Message) (state : State) → state_in found ≡ None → ¬ Holds state found
holds_none found state none = λ holds. let P : Option State → Type 0 = λ o. IsSomeAnd o (λ own. Same own state) in subst P none holds

one_stays : (number : ℕ) (found : Option Message) (state : State) (o : Option ℕ) → ¬ Holds state found → Comes number found state o o
one_stays number found state None holds = inr (holds, refl)
one_stays number found state (Some count) holds = refl

stay : (number : ℕ) (found : Option Message) (states : List State) (reached : List (Option ℕ)) → length reached ≡ length states → ((state : State) → ¬ Holds state found) → AllCome number found states reached reached
stay number found [] [] size holds = tt
stay number found [] (o ∷ reached) size holds = absurd (omega (arith, size))
stay number found (state ∷ states) [] size holds = absurd (omega (arith, size))
stay number found (state ∷ states) (o ∷ reached) size holds =
    (one_stays number found state o (holds state), stay number found states reached (let e : suc (length reached) ≡ suc (length states) = size in omega (arith, e)) holds)

-- a line that is no state
pub passed_by : (number : ℕ) (found : Option Message) (awaited : Awaited) (is_out : Bool) → length awaited.reached ≡ length awaited.states → state_in found ≡ None → is_out ≡ is_awaited (is_of_state found) awaited.states awaited.reached → Passes number found awaited awaited is_out
passed_by number found awaited is_out size none out =
    record { states = refl; come = stay number found awaited.states awaited.reached size (λ state. holds_none found state none); out = out }

-- a record
pub record_passed : (number : ℕ) (content : RecordMsg) (id : StreamId) (awaited : Awaited) (place : Option ℕ) → length awaited.reached ≡ length awaited.states → content.id ≡ id → IsOnlyAt (state_has (Some id)) awaited.states place → (is_out : Bool) → is_out ≡ is_awaited (state_has (Some id)) awaited.states awaited.reached → Passes number (Some (message.Rec content)) awaited awaited is_out
record_passed number content id awaited place size same only is_out out =
    passed_by number (Some (message.Rec content)) awaited is_out size refl
    (out ∙ (ap (λ (i : StreamId). is_awaited (state_has (Some i)) awaited.states awaited.reached) (sym same)
    ∙ sym (same_any (is_of_state (Some (message.Rec content))) (state_has (Some content.id)) (λ state. record_lane content (lane_of state.kind)) awaited.states awaited.reached)))

pub waits : (test : State → Bool) (states : List State) (reached : List (Option ℕ)) (place : ℕ) (o : Option ℕ) → IsOnlyAt test states (Some place) → slice_get reached place ≡ Some o → is_none o ≡ is_awaited test states reached
waits test states reached place o only at = sym (one_any test states reached place o only at)

pub waits_not : (test : State → Bool) (states : List State) (reached : List (Option ℕ)) → IsOnlyAt test states None → false ≡ is_awaited test states reached
waits_not test states reached only = sym (none_any test states reached only)

-- a line that is neither a record nor a state
no_lane : (lane : Option Lane) → is_of_lane None lane ≡ false
no_lane None = refl
no_lane (Some lane) = refl

nothing_waits : (test : State → Bool) → ((state : State) → test state ≡ false) → (states : List State) (reached : List (Option ℕ)) → is_awaited test states reached ≡ false
nothing_waits test none [] reached = refl
nothing_waits test none (state ∷ states) [] = refl
nothing_waits test none (state ∷ states) (None ∷ reached) = ap (λ (b : Bool). b || is_awaited test states reached) (none state) ∙ nothing_waits test none states reached
nothing_waits test none (state ∷ states) (Some count ∷ reached) = nothing_waits test none states reached

neither_lane : (found : Option Message) (lane : Option Lane) → IsNeither found → is_of_lane found lane ≡ false
neither_lane found None is = refl
neither_lane None (Some lane) is = refl
neither_lane (Some (message.Rec content)) (Some lane) is = absurd is
neither_lane (Some (message.State state)) (Some lane) is = absurd is
neither_lane (Some (message.Log content)) (Some lane) is = refl
neither_lane (Some (message.Spec content)) (Some lane) is = refl
neither_lane (Some (message.Connection content)) (Some lane) is = refl
neither_lane (Some (message.Catalog content)) (Some lane) is = refl
neither_lane (Some (message.Trace content)) (Some lane) is = refl
neither_lane (Some (message.Control content)) (Some lane) is = refl

neither_state : (found : Option Message) → IsNeither found → state_in found ≡ None
neither_state None is = refl
neither_state (Some (message.Rec content)) is = absurd is
neither_state (Some (message.State state)) is = absurd is
neither_state (Some (message.Log content)) is = refl
neither_state (Some (message.Spec content)) is = refl
neither_state (Some (message.Connection content)) is = refl
neither_state (Some (message.Catalog content)) is = refl
neither_state (Some (message.Trace content)) is = refl
neither_state (Some (message.Control content)) is = refl

pub neither_passed : (number : ℕ) (found : Option Message) (awaited : Awaited) → length awaited.reached ≡ length awaited.states → IsNeither found → Passes number found awaited awaited false
neither_passed number found awaited size is =
    passed_by number found awaited false size (neither_state found is) (sym (nothing_waits (is_of_state found) (λ state. neither_lane found (lane_of state.kind) is) awaited.states awaited.reached))

pub neither_of : (content : Message) → ((record_ : RecordMsg) → content ≡ message.Rec record_ → ⊥) → ((state : State) → content ≡ message.State state → ⊥) → IsNeither (Some content)
neither_of (message.Rec content) record_ state = absurd (record_ content refl)
neither_of (message.State own) record_ state = absurd (state own refl)
neither_of (message.Log content) record_ state = tt
neither_of (message.Spec content) record_ state = tt
neither_of (message.Connection content) record_ state = tt
neither_of (message.Catalog content) record_ state = tt
neither_of (message.Trace content) record_ state = tt
neither_of (message.Control content) record_ state = tt

-- a record in its line
pub viewed_record : (seen : MessageView) (own : RecordView) → seen ≡ view.Rec own → message_at seen ≡ message.Rec (record_at own)
viewed_record seen own own_is = ap (λ (v : MessageView). message_at v) own_is

-- ---- a state

module _ (number : ℕ) (own : State) where
  abbrev has : State → Bool
  has state = state_has (stream_of own.kind) state

  state_out : (states : List State) (reached : List (Option ℕ)) → is_awaited has states reached ≡ is_awaited (is_of_state (Some (message.State own))) states reached
  state_out states reached = sym (same_any (is_of_state (Some (message.State own))) has (λ state. state_lane own.object own.source_count own.kind (lane_of state.kind)) states reached)

  not_held : (state : State) → has state ≡ false → ¬ Holds state (Some (message.State own))
  not_held state other = λ same. true_false (sym (same_lane own.kind state.kind same) ∙ other)

  none_comes : (states : List State) (reached : List (Option ℕ)) → length reached ≡ length states → IsOnlyAt has states None → AllCome number (Some (message.State own)) states reached reached
  none_comes [] [] size only = tt
  none_comes [] (o ∷ reached) size only = absurd (omega (arith, size))
  none_comes (state ∷ states) [] size only = absurd (omega (arith, size))
  none_comes (state ∷ states) (o ∷ reached) size only =
      (one_stays number (Some (message.State own)) state o (not_held state only.0), none_comes states reached (let e : suc (length reached) ≡ suc (length states) = size in omega (arith, e)) only.1)

  -- the state of the lane has come before
  came_before : (states : List State) (reached : List (Option ℕ)) (place count : ℕ) → length reached ≡ length states → IsOnlyAt has states (Some place) → slice_get reached place ≡ Some (Some count) → AllCome number (Some (message.State own)) states reached reached
  came_before [] reached place count size only at = None_Some place (sym only)
  came_before (state ∷ states) [] place count size only at = None_Some (Some count) at
  came_before (state ∷ states) (None ∷ reached) zero count size only at = None_Some count (Some-injective None (Some count) at)
  came_before (state ∷ states) (Some c ∷ reached) zero count size only at =
      (refl, none_comes states reached (let e : suc (length reached) ≡ suc (length states) = size in omega (arith, e)) only.1)
  came_before (state ∷ states) (o ∷ reached) (suc place) count size only at =
      (one_stays number (Some (message.State own)) state o (not_held state only.0), came_before states reached place count (let e : suc (length reached) ≡ suc (length states) = size in omega (arith, e)) only.1 at)

  -- the state of the lane is another
  not_yet : (states : List State) (reached : List (Option ℕ)) (place : ℕ) (wanted : State) → length reached ≡ length states → IsOnlyAt has states (Some place) → slice_get states place ≡ Some wanted → ¬ Same own wanted → AllCome number (Some (message.State own)) states reached reached
  not_yet [] reached place wanted size only at other = None_Some place (sym only)
  not_yet (state ∷ states) [] place wanted size only at other = absurd (omega (arith, size))
  not_yet (state ∷ states) (o ∷ reached) zero wanted size only at other =
      (one_stays number (Some (message.State own)) state o (λ same. other (subst (λ (s : State). Same own s) (Some-injective state wanted at) same)), none_comes states reached (let e : suc (length reached) ≡ suc (length states) = size in omega (arith, e)) only.1)
  not_yet (state ∷ states) (o ∷ reached) (suc place) wanted size only at other =
      (one_stays number (Some (message.State own)) state o (not_held state only.0), not_yet states reached place wanted (let e : suc (length reached) ≡ suc (length states) = size in omega (arith, e)) only.1 at other)

  -- the state of the lane comes
  comes_now : (states : List State) (reached : List (Option ℕ)) (place : ℕ) (wanted : State) → length reached ≡ length states → IsOnlyAt has states (Some place) → slice_get states place ≡ Some wanted → slice_get reached place ≡ Some None → Same own wanted → AllCome number (Some (message.State own)) states reached (set reached place (Some (number + 1)))
  comes_now [] reached place wanted size only at none same = None_Some place (sym only)
  comes_now (state ∷ states) [] place wanted size only at none same = absurd (omega (arith, size))
  comes_now (state ∷ states) (None ∷ reached) zero wanted size only at none same =
      (inl (subst (λ (s : State). Same own s) (sym (Some-injective state wanted at)) same, refl), none_comes states reached (let e : suc (length reached) ≡ suc (length states) = size in omega (arith, e)) only.1)
  comes_now (state ∷ states) (Some count ∷ reached) zero wanted size only at none same = None_Some count (sym (Some-injective (Some count) None none))
  comes_now (state ∷ states) (o ∷ reached) (suc place) wanted size only at none same =
      (one_stays number (Some (message.State own)) state o (not_held state only.0), comes_now states reached place wanted (let e : suc (length reached) ≡ suc (length states) = size in omega (arith, e)) only.1 at none same)

  pub passed_other : (awaited : Awaited) → length awaited.reached ≡ length awaited.states → IsOnlyAt has awaited.states None → Passes number (Some (message.State own)) awaited awaited false
  passed_other awaited size only =
      record { states = refl; come = none_comes awaited.states awaited.reached size only; out = sym (none_any has awaited.states awaited.reached only) ∙ state_out awaited.states awaited.reached }

  pub passed_later : (awaited : Awaited) (place count : ℕ) → length awaited.reached ≡ length awaited.states → IsOnlyAt has awaited.states (Some place) → slice_get awaited.reached place ≡ Some (Some count) → Passes number (Some (message.State own)) awaited awaited false
  passed_later awaited place count size only at =
      record { states = refl; come = came_before awaited.states awaited.reached place count size only at; out = sym (one_any has awaited.states awaited.reached place (Some count) only at) ∙ state_out awaited.states awaited.reached }

  pub passed_early : (awaited : Awaited) (place : ℕ) (wanted : State) → length awaited.reached ≡ length awaited.states → IsOnlyAt has awaited.states (Some place) → slice_get awaited.states place ≡ Some wanted → slice_get awaited.reached place ≡ Some None → ¬ Same own wanted → Passes number (Some (message.State own)) awaited awaited true
  passed_early awaited place wanted size only at none other =
      record { states = refl; come = not_yet awaited.states awaited.reached place wanted size only at other; out = sym (one_any has awaited.states awaited.reached place None only none) ∙ state_out awaited.states awaited.reached }

  pub passed_now : (awaited now : Awaited) (place : ℕ) (wanted : State) → length awaited.reached ≡ length awaited.states → IsOnlyAt has awaited.states (Some place) → slice_get awaited.states place ≡ Some wanted → slice_get awaited.reached place ≡ Some None → Same own wanted → now.states ≡ awaited.states → now.reached ≡ set awaited.reached place (Some (number + 1)) → Passes number (Some (message.State own)) awaited now true
  passed_now awaited now place wanted size only at none same states reached =
      record {
        states = states;
        come = subst (λ (r : List (Option ℕ)). AllCome number (Some (message.State own)) awaited.states awaited.reached r) (sym reached) (comes_now awaited.states awaited.reached place wanted size only at none same);
        out = sym (one_any has awaited.states awaited.reached place None only none) ∙ state_out awaited.states awaited.reached;
      }

-- what is known where the state of the lane was looked for
pub own_only : (own : State) (id : Option StreamId) (k : StateKind) (states : List State) (place known : Option ℕ) → IsOnlyAt (state_has id) states place → id ≡ stream_of k → k ≡ own.kind → place ≡ known → IsOnlyAt (state_has (stream_of own.kind)) states known
own_only own id k states place known only stream kind_is place_is =
    subst (λ (p : Option ℕ). IsOnlyAt (state_has (stream_of own.kind)) states p) place_is
    (subst (λ (i : Option StreamId). IsOnlyAt (state_has i) states place) (stream ∙ ap (λ (x : StateKind). stream_of x) kind_is) only)

pub is_none_of : (o : Option ℕ) (b : Bool) → is_some o ≡ not b → b ≡ is_none o
is_none_of None true e = refl
is_none_of None false e = true_false (sym e)
is_none_of (Some count) true e = true_false e
is_none_of (Some count) false e = refl

pub none_there : (o : Option ℕ) → is_some o ≡ false → o ≡ None
none_there None e = refl
none_there (Some count) e = true_false e

pub some_there : (o : Option ℕ) → is_some o ≡ true → (count : ℕ) × (o ≡ Some count)
some_there None e = true_false (sym e)
some_there (Some count) e = (count, refl)

pub found_at : (states : List State) (awaited : Awaited) (place : ℕ) (state : State) → states ≡ awaited.states → slice_get states place ≡ Some state → slice_get awaited.states place ≡ Some state
found_at states awaited place state same at = ap (λ (ss : List State). slice_get ss place) (sym same) ∙ at

-- ---- how many have not come

pub missing_replicate : (n : ℕ) → count_missing (replicate n None) ≡ n
missing_replicate zero = refl
missing_replicate (suc n) = ap (λ (m : ℕ). 1 + m) (missing_replicate n) ∙ (let e : 1 + n ≡ suc n = omega arith in e)

pub missing_one : (reached : List (Option ℕ)) (place : ℕ) → slice_get reached place ≡ Some None → 1 ≤ count_missing reached
missing_one [] place at = None_Some None at
missing_one (None ∷ reached) zero at = omega arith
missing_one (Some count ∷ reached) zero at = None_Some count (sym (Some-injective (Some count) None at))
missing_one (None ∷ reached) (suc place) at = omega arith
missing_one (Some count ∷ reached) (suc place) at = let le = missing_one reached place at in let e : 0 + count_missing reached ≡ count_missing reached = omega arith in omega (arith, le, e)

pub missing_less : (reached : List (Option ℕ)) (place count : ℕ) → slice_get reached place ≡ Some None → count_missing (set reached place (Some count)) + 1 ≡ count_missing reached
missing_less [] place count at = None_Some None at
missing_less (None ∷ reached) zero count at = omega arith
missing_less (Some c ∷ reached) zero count at = None_Some c (sym (Some-injective (Some c) None at))
missing_less (None ∷ reached) (suc place) count at = let e = missing_less reached place count at in omega (arith, e)
missing_less (Some c ∷ reached) (suc place) count at = let e = missing_less reached place count at in omega (arith, e)
