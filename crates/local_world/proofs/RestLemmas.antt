-- A file behind its states gives the rest of each lane, with each state at its own place.
use Rattle.std.proofs.Common.{◌≡◌, ◌⊎◌, inl, inr, ℕ, suc, ◌+◌, List, [], ◌∷◌, ◌++◌, length, take, drop, filter, get_or, Option, None, Some, Bool, true, false, cond, refl, sym, ◌∙◌, ap, subst, arith, append_assoc, length-append}
use Rattle.std.specs.Prelude.{IfSome, IsSomeAnd}
use Rattle.std.specs.List.{AllByRecursion, AllPairs, cons_option, filter_map}
use Rattle.std.proofs.lemmas.List.{append-nil, take-append-drop, drop_at}
use Rattle.std.proofs.lemmas.List.Elements.{filter-append, filter_map-append}
use Rattle.airbyte_message.specs.Lanes.{Lane, one, all, lane_of}
use Rattle.airbyte_message.specs.Same.{IsSameKind, Same}
use Rattle.airbyte_message.specs.State.{State}
use Rattle.airbyte_message.specs.declared.message.Message.{Message}
use Rattle.airbyte_message.specs.declared.message.Message.TheVariants as message
use Rattle.airbyte_message.specs.declared.message.RecordMsg.{RecordMsg}
use Rattle.airbyte_message.specs.declared.message.StateKind.{StateKind}
use Rattle.airbyte_message.specs.declared.message.StateKind.TheVariants as kind
use Rattle.load_rules.specs.Lines.{Line, record_in, state_in}
use Rattle.outside.proofs.TableLaws.{id_own}
use Rattle.airbyte_message.proofs.SameLemmas.{same_onward, same_turned}
use Rattle.load_rules.specs.Taken.{covers, is_of_lane, is_same_lane}
use Rattle.local_world.specs.Starts.{Holds, IsNowhere, ReachTo}
use Rattle.local_world.specs.Left.{has_state, is_of, left_behind}
use Rattle.local_world.specs.Replay.{HasPlace, IsReplayable, StartsAt, of_lane, records_of, started, states_in}
use Rattle.local_world.specs.Laws.{FilesReplay, FilesResume}
use Rattle.local_world.proofs.StartedLemmas.{None_Some, Some-injective, by_bool, true_false}
use Rattle.local_world.proofs.LaneLemmas.{lane_left, lane_start}

-- ---- the records of a lane

rec_of : (lane : Lane) (found : Option Message) → IfSome (record_in found) (λ content. is_of lane found ≡ covers lane content.id)
rec_of lane None = tt
rec_of lane (Some (message.Rec content)) = refl
rec_of lane (Some (message.State state)) = tt
rec_of lane (Some (message.Log content)) = tt
rec_of lane (Some (message.Spec content)) = tt
rec_of lane (Some (message.Connection content)) = tt
rec_of lane (Some (message.Catalog content)) = tt
rec_of lane (Some (message.Trace content)) = tt
rec_of lane (Some (message.Control content)) = tt

abbrev records : List Line → List RecordMsg
records lines = filter_map (λ line. record_in line.found) lines

abbrev of_covered : Lane → List RecordMsg → List RecordMsg
of_covered lane contents = filter (λ content. covers lane content.id) contents

one_record : (lane : Lane) (o : Option RecordMsg) (b : Bool) (xs ys : List RecordMsg) → IfSome o (λ content. b ≡ covers lane content.id) → of_covered lane xs ≡ of_covered lane ys → of_covered lane (cond b (cons_option o xs) xs) ≡ of_covered lane (cons_option o ys)
one_record lane None true xs ys is same = same
one_record lane None false xs ys is same = same
one_record lane (Some content) true xs ys is same = ap (λ (r : List RecordMsg). cond (covers lane content.id) (content ∷ r) r) same
one_record lane (Some content) false xs ys is same = same ∙ ap (λ (b : Bool). cond b (content ∷ of_covered lane ys) (of_covered lane ys)) is

record_cond : (line : Line) (b : Bool) (lines : List Line) → records (cond b (line ∷ lines) lines) ≡ cond b (cons_option (record_in line.found) (records lines)) (records lines)
record_cond line true lines = refl
record_cond line false lines = refl

lane_records : (lane : Lane) (lines : List Line) → records_of lane (of_lane lane lines) ≡ records_of lane lines
lane_records lane [] = refl
lane_records lane (line ∷ lines) =
    ap (of_covered lane) (record_cond line (is_of lane line.found) (of_lane lane lines))
    ∙ one_record lane (record_in line.found) (is_of lane line.found) (records (of_lane lane lines)) (records lines) (rec_of lane line.found) (lane_records lane lines)

records-append : (lane : Lane) (xs ys : List Line) → records_of lane (xs ++ ys) ≡ records_of lane xs ++ records_of lane ys
records-append lane xs ys = ap (of_covered lane) (filter_map-append (λ (line : Line). record_in line.found) xs ys) ∙ filter-append (λ (content : RecordMsg). covers lane content.id) (records xs) (records ys)

records_drop : (lane : Lane) (count : ℕ) (lines : List Line) → records_of lane (drop count lines) ≡ drop (length (records_of lane (take count lines))) (records_of lane lines)
records_drop lane count lines =
    let front = records_of lane (take count lines) in
    let rest = records_of lane (drop count lines) in
    let whole : records_of lane lines ≡ front ++ rest = ap (records_of lane) (sym (take-append-drop count lines)) ∙ records-append lane (take count lines) (drop count lines) in
    sym (ap (drop (length front)) whole ∙ drop_at front rest (length front) refl)

-- ---- a line among those of a lane

cons_head : {A : Type 0} (a b : A) (xs ys : List A) → a ∷ xs ≡ b ∷ ys → a ≡ b
cons_head a b xs ys e = cc

cons_tail : {A : Type 0} (a b : A) (xs ys : List A) → a ∷ xs ≡ b ∷ ys → xs ≡ ys
cons_tail a b xs ys e = cc

nil_cons : {A P : Type 0} (a : A) (xs : List A) → [] ≡ a ∷ xs → P
nil_cons a xs e = absurd (let h : [] ≡ a ∷ xs = e in cc)

record Within {A : Type 0} (test : A → Bool) (xs front : List A) (item : A) (behind : List A) : Type 0 where
  pub before : List A
  pub after : List A
  pub splits : xs ≡ before ++ item ∷ after
  pub front_is : filter test before ≡ front
  pub behind_is : filter test after ≡ behind

within : {A : Type 0} (test : A → Bool) (xs front : List A) (item : A) (behind : List A) → filter test xs ≡ front ++ item ∷ behind → Within test xs front item behind
within test [] [] item behind e = nil_cons item behind e
within test [] (f ∷ front) item behind e = nil_cons f (front ++ item ∷ behind) e
within {A} test (x ∷ xs) [] item behind e = by_bool (test x)
    (λ passed.
    let own : x ∷ filter test xs ≡ item ∷ behind = sym (ap (λ (b : Bool). cond b (x ∷ filter test xs) (filter test xs)) passed) ∙ e in
    record { before = []; after = xs; splits = ap (λ (y : A). y ∷ xs) (cons_head x item (filter test xs) behind own); front_is = refl; behind_is = cons_tail x item (filter test xs) behind own })
    (λ failed.
    let r = within test xs [] item behind (sym (ap (λ (b : Bool). cond b (x ∷ filter test xs) (filter test xs)) failed) ∙ e) in
    record { before = x ∷ r.before; after = r.after; splits = ap (λ (ys : List A). x ∷ ys) r.splits; front_is = ap (λ (b : Bool). cond b (x ∷ filter test r.before) (filter test r.before)) failed ∙ r.front_is; behind_is = r.behind_is })
within {A} test (x ∷ xs) (f ∷ front) item behind e = by_bool (test x)
    (λ passed.
    let own : x ∷ filter test xs ≡ f ∷ (front ++ item ∷ behind) = sym (ap (λ (b : Bool). cond b (x ∷ filter test xs) (filter test xs)) passed) ∙ e in
    let r = within test xs front item behind (cons_tail x f (filter test xs) (front ++ item ∷ behind) own) in
    record {
      before = x ∷ r.before;
      after = r.after;
      splits = ap (λ (ys : List A). x ∷ ys) r.splits;
      front_is = ap (λ (b : Bool). cond b (x ∷ filter test r.before) (filter test r.before)) passed ∙ (ap (λ (ys : List A). x ∷ ys) r.front_is ∙ ap (λ (y : A). y ∷ front) (cons_head x f (filter test xs) (front ++ item ∷ behind) own));
      behind_is = r.behind_is;
    })
    (λ failed.
    let r = within test xs (f ∷ front) item behind (sym (ap (λ (b : Bool). cond b (x ∷ filter test xs) (filter test xs)) failed) ∙ e) in
    record { before = x ∷ r.before; after = r.after; splits = ap (λ (ys : List A). x ∷ ys) r.splits; front_is = ap (λ (b : Bool). cond b (x ∷ filter test r.before) (filter test r.before)) failed ∙ r.front_is; behind_is = r.behind_is })

-- ---- a state's line

state_found : (found : Option Message) (own : State) → state_in found ≡ Some own → found ≡ Some (message.State own)
state_found None own e = None_Some own e
state_found (Some (message.Rec content)) own e = None_Some own e
state_found (Some (message.State state)) own e = ap (λ (s : State). Some (message.State s)) (Some-injective state own e)
state_found (Some (message.Log content)) own e = None_Some own e
state_found (Some (message.Spec content)) own e = None_Some own e
state_found (Some (message.Connection content)) own e = None_Some own e
state_found (Some (message.Catalog content)) own e = None_Some own e
state_found (Some (message.Trace content)) own e = None_Some own e
state_found (Some (message.Control content)) own e = None_Some own e

has_own : (lane : Lane) (k : StateKind) → is_of_lane lane (lane_of k) ≡ true → has_state lane k ≡ true
has_own all k is = refl
has_own (one id) (kind.Stream other blob) is = is
has_own (one id) (kind.Global shared streams) is = true_false (sym is)
has_own (one id) kind.Legacy is = true_false (sym is)

line_of : (lane : Lane) (line : Line) (own : State) → state_in line.found ≡ Some own → is_of_lane lane (lane_of own.kind) ≡ true → is_of lane line.found ≡ true
line_of lane line own is of = ap (is_of lane) (state_found line.found own is) ∙ has_own lane own.kind of

not_legacy : (lane : Lane) (k : StateKind) → is_of_lane lane (lane_of k) ≡ true → IsSameKind k k
not_legacy lane (kind.Stream id blob) is = (refl, refl)
not_legacy lane (kind.Global shared streams) is = (refl, refl)
not_legacy lane kind.Legacy is = true_false (sym is)

no_record : (lane : Lane) (line : Line) (own : State) → state_in line.found ≡ Some own → records_of lane (line ∷ []) ≡ []
no_record lane line own is = ap (λ (o : Option RecordMsg). of_covered lane (cons_option o [])) (ap record_in (state_found line.found own is))

states_round : (before : List Line) (line : Line) (after : List Line) (own : State) → state_in line.found ≡ Some own → states_in (before ++ line ∷ after) ≡ states_in before ++ own ∷ states_in after
states_round before line after own is = filter_map-append (λ (l : Line). state_in l.found) before (line ∷ after) ∙ ap (λ (o : Option State). states_in before ++ cons_option o (states_in after)) is

-- ---- no two are the same

get_behind : (xs : List State) (y : State) (ys : List State) (d : State) → get_or (xs ++ y ∷ ys) (length xs) d ≡ y
get_behind [] y ys d = refl
get_behind (x ∷ xs) y ys d = get_behind xs y ys d

pairs_front : (R : State → State → Type 0) (xs : List State) (y : State) (ys : List State) → AllPairs R (xs ++ y ∷ ys) → AllByRecursion (λ x. R x y) xs
pairs_front R [] y ys pairs = tt
pairs_front R (x ∷ xs) y ys pairs =
    let size : length (xs ++ y ∷ ys) ≡ length xs + suc (length ys) = length-append xs (y ∷ ys) in (
      subst (λ (z : State). R x z) (get_behind xs y ys x) (pairs 0 (suc (length xs)) x (omega arith) (omega (arith, size))),
      pairs_front R xs y ys (λ i j d lt within_. pairs (suc i) (suc j) d (omega (arith, lt)) (omega (arith, within_))),
    )

first_nowhere : (own : State) (o : Option State) (states : List State) → AllByRecursion (λ s. ¬ Same s own) (cons_option o states) → (¬ IsSomeAnd o (λ s. Same s own)) × AllByRecursion (λ s. ¬ Same s own) states
first_nowhere own None states each = (λ none. none, each)
first_nowhere own (Some s) states each = (each.0, each.1)

nowhere_of : (own : State) (lines : List Line) → AllByRecursion (λ s. ¬ Same s own) (states_in lines) → IsNowhere lines own
nowhere_of own [] each = tt
nowhere_of own (line ∷ lines) each =
    let r = first_nowhere own (state_in line.found) (states_in lines) each in
    (r.0, nowhere_of own lines r.1)

-- in a file that can be replayed, a line that holds a state is the first that holds the same
own_reach : (lane : Lane) (lines before : List Line) (line : Line) (after : List Line) (own : State) → IsReplayable lane lines → lines ≡ before ++ line ∷ after → state_in line.found ≡ Some own → is_of_lane lane (lane_of own.kind) ≡ true → ReachTo lines own (length before + 1)
own_reach lane lines before line after own replays splits is of =
    let pairs : AllPairs (λ (s later : State). ¬ Same s later) (states_in before ++ own ∷ states_in after) = subst (λ (ss : List State). AllPairs (λ s later. ¬ Same s later) ss) (ap states_in splits ∙ states_round before line after own is) replays.distinct in
    record {
      before = before;
      line = line;
      behind = after;
      splits = splits;
      none = nowhere_of own before (pairs_front (λ s later. ¬ Same s later) (states_in before) own (states_in after) pairs);
      holds = subst (λ (o : Option State). IsSomeAnd o (λ s. Same s own)) (sym is) (not_legacy lane own.kind of);
      counts = refl;
    }

-- ---- a state that is left

record LeftAt (lane : Lane) (lines : List Line) (count : ℕ) (front behind : List Line) (line : Line) : Type 0 where
  pub before : List Line
  pub after : List Line
  pub splits : lines ≡ (take count lines ++ before) ++ line ∷ after
  pub front_is : of_lane lane before ≡ of_lane lane front
  pub behind_is : of_lane lane after ≡ of_lane lane behind

left_at : (lane : Lane) (lines left : List Line) (count : ℕ) (front behind : List Line) (line : Line) → of_lane lane left ≡ of_lane lane (drop count lines) → left ≡ front ++ line ∷ behind → is_of lane line.found ≡ true → LeftAt lane lines count front behind line
left_at lane lines left count front behind line same splits of =
    let test : Line → Bool = λ l. is_of lane l.found in
    let own : of_lane lane (drop count lines) ≡ of_lane lane front ++ line ∷ of_lane lane behind =
    sym same ∙ (ap (of_lane lane) splits ∙ (filter-append test front (line ∷ behind) ∙ ap (λ (b : Bool). of_lane lane front ++ cond b (line ∷ of_lane lane behind) (of_lane lane behind)) of)) in
    let r = within test (drop count lines) (of_lane lane front) line (of_lane lane behind) own in
    record {
      before = r.before;
      after = r.after;
      splits = sym (take-append-drop count lines) ∙ (ap (λ (ls : List Line). take count lines ++ ls) r.splits ∙ sym (append_assoc (take count lines) r.before (line ∷ r.after)));
      front_is = r.front_is;
      behind_is = r.behind_is;
    }

take_at : (xs : List Line) (y : Line) (ys : List Line) → take (length xs + 1) (xs ++ y ∷ ys) ≡ xs ++ y ∷ []
take_at [] y ys = refl
take_at (x ∷ xs) y ys = let e : suc (length xs) + 1 ≡ suc (length xs + 1) = omega arith in ap (λ (n : ℕ). take n (x ∷ (xs ++ y ∷ ys))) e ∙ ap (λ (ls : List Line). x ∷ ls) (take_at xs y ys)

drop_behind : (xs : List Line) (y : Line) (ys : List Line) → drop (length xs + 1) (xs ++ y ∷ ys) ≡ ys
drop_behind [] y ys = refl
drop_behind (x ∷ xs) y ys = let e : suc (length xs) + 1 ≡ suc (length xs + 1) = omega arith in ap (λ (n : ℕ). drop n (x ∷ (xs ++ y ∷ ys))) e ∙ drop_behind xs y ys

own_place : (lane : Lane) (lines left : List Line) (count : ℕ) (front behind : List Line) (line : Line) (own : State) → IsReplayable lane lines → of_lane lane left ≡ of_lane lane (drop count lines) → left ≡ front ++ line ∷ behind → state_in line.found ≡ Some own → is_of_lane lane (lane_of own.kind) ≡ true
    → HasPlace lane lines own (length (records_of lane (take count lines)) + length (records_of lane front))
own_place lane lines left count front behind line own replays same splits is of =
    let at = left_at lane lines left count front behind line same splits (line_of lane line own is of) in
    let before = take count lines ++ at.before in
    let fronts : records_of lane at.before ≡ records_of lane front = sym (lane_records lane at.before) ∙ (ap (records_of lane) at.front_is ∙ lane_records lane front) in
    let taken : take (length before + 1) lines ≡ before ++ line ∷ [] = ap (take (length before + 1)) at.splits ∙ take_at before line at.after in
    let all_records : records_of lane (take (length before + 1) lines) ≡ records_of lane (take count lines) ++ records_of lane front =
    ap (records_of lane) taken ∙ (records-append lane before (line ∷ []) ∙ (ap (λ (rs : List RecordMsg). records_of lane before ++ rs) (no_record lane line own is) ∙ (append-nil (records_of lane before)
    ∙ (records-append lane (take count lines) at.before ∙ ap (λ (rs : List RecordMsg). records_of lane (take count lines) ++ rs) fronts)))) in
    record {
      count = length before + 1;
      reach = own_reach lane lines before line at.after own replays at.splits is of;
      place_is = sym (ap length all_records ∙ length-append (records_of lane (take count lines)) (records_of lane front));
    }

start_at : (lane : Lane) (lines : List Line) (state : Option State) (count : ℕ) → ((state ≡ None) × (count ≡ 0)) ⊎ ((own : State) × (state ≡ Some own) × ReachTo lines own count) → StartsAt lane lines state (length (records_of lane (take count lines)))
start_at lane lines state count (inl none) =
    subst (λ (o : Option State). StartsAt lane lines o (length (records_of lane (take count lines)))) (sym none.0) (ap (λ (n : ℕ). length (records_of lane (take n lines))) none.1)
start_at lane lines state count (inr some) =
    subst (λ (o : Option State). StartsAt lane lines o (length (records_of lane (take count lines)))) (sym some.1) (record { count = count; reach = some.2; place_is = refl })

pub files_replay : FilesReplay
files_replay lane lines states starts replays none begins =
    let s = lane_start lane lines states starts replays none begins in
    let same = lane_left lane lines states starts s in
    let left = left_behind starts lines in
    record {
      place = length (records_of lane (take s.count lines));
      starts = start_at lane lines (started lane states) s.count s.at;
      records = sym (lane_records lane left) ∙ (ap (records_of lane) same ∙ (lane_records lane (drop s.count lines) ∙ records_drop lane s.count lines));
      states = λ front behind line own splits is of. own_place lane lines left s.count front behind line own replays same splits is of;
    }

-- ---- begun again with a state that was given

lane_itself : (lane : Lane) → is_same_lane lane lane ≡ true
lane_itself all = refl
lane_itself (one id) = id_own id

weaker : (P Q : Line → Type 0) (lines : List Line) → ((line : Line) → P line → Q line) → AllByRecursion P lines → AllByRecursion Q lines
weaker P Q [] each all_ = tt
weaker P Q (line ∷ lines) each all_ = (each line all_.0, weaker P Q lines each all_.1)

held_too : (own state : State) (found : Option State) → Same own state → IsSomeAnd found (λ s. Same s state) → IsSomeAnd found (λ s. Same s own)
held_too own state None same holds = holds
held_too own state (Some s) same holds = same_onward s.kind state.kind own.kind holds (same_turned own.kind state.kind same)

-- the first line that holds the same state stands at one place
once : (state : State) (first : List Line) (x : Line) (xs : List Line) (second : List Line) (y : Line) (ys : List Line) → first ++ x ∷ xs ≡ second ++ y ∷ ys → IsNowhere first state → Holds state x.found → IsNowhere second state → Holds state y.found → length first ≡ length second
once state [] x xs [] y ys e none holds other held = refl
once state [] x xs (s ∷ second) y ys e none holds other held =
    let same : x ≡ s = cons_head x s xs (second ++ y ∷ ys) e in absurd (other.0 (subst (λ (l : Line). Holds state l.found) same holds))
once state (f ∷ first) x xs [] y ys e none holds other held =
    let same : y ≡ f = sym (cons_head f y (first ++ x ∷ xs) ys e) in absurd (none.0 (subst (λ (l : Line). Holds state l.found) same held))
once state (f ∷ first) x xs (s ∷ second) y ys e none holds other held =
    ap (λ (n : ℕ). suc n) (once state first x xs second y ys (cons_tail f s (first ++ x ∷ xs) (second ++ y ∷ ys) e) none.1 holds other.1 held)

reach_once : (lines : List Line) (state : State) (a b : ℕ) → ReachTo lines state a → ReachTo lines state b → a ≡ b
reach_once lines state a b first second =
    let e = once state first.before first.line first.behind second.before second.line second.behind (sym first.splits ∙ second.splits) first.none first.holds second.none second.holds in
    first.counts ∙ (ap (λ (n : ℕ). n + 1) e ∙ sym second.counts)

started_reach : (lane : Lane) (lines : List Line) (again : List State) (state : State) (count : ℕ) → started lane again ≡ Some state → ((started lane again ≡ None) × (count ≡ 0)) ⊎ ((own : State) × (started lane again ≡ Some own) × ReachTo lines own count) → ReachTo lines state count
started_reach lane lines again state count is (inl none) = None_Some state (sym none.0 ∙ is)
started_reach lane lines again state count is (inr some) = subst (λ (s : State). ReachTo lines s count) (Some-injective some.0 state (sym some.1 ∙ is)) some.2

pub files_resume : FilesResume
unfolding own_reach
files_resume lane lines states again starts later gone rest line own state replays none begins splits is own_lane none_again begins_again is_started same =
    let of : is_of_lane lane (lane_of own.kind) ≡ true = ap (is_of_lane lane) own_lane ∙ lane_itself lane in
    let s = lane_start lane lines states starts replays none begins in
    let t = lane_start lane lines again later replays none_again begins_again in
    let at = left_at lane lines (left_behind starts lines) s.count gone rest line (lane_left lane lines states starts s) splits (line_of lane line own is of) in
    let before = take s.count lines ++ at.before in
    let reach = own_reach lane lines before line at.after own replays at.splits is of in
    let reach_state : ReachTo lines state (length before + 1) = record {
      before = before;
      line = line;
      behind = at.after;
      splits = at.splits;
      none = weaker (λ l. ¬ Holds own l.found) (λ l. ¬ Holds state l.found) before (λ l not_own held. not_own (held_too own state (state_in l.found) same held)) reach.none;
      holds = subst (λ (o : Option State). IsSomeAnd o (λ x. Same x state)) (sym is) same;
      counts = refl;
    } in
    let count : t.count ≡ length before + 1 = reach_once lines state t.count (length before + 1) (started_reach lane lines again state t.count is_started t.at) reach_state in
    let behind : drop (length before + 1) lines ≡ at.after = ap (drop (length before + 1)) at.splits ∙ drop_behind before line at.after in
    lane_left lane lines again later t ∙ (ap (of_lane lane) (ap (λ (n : ℕ). drop n lines) count ∙ behind) ∙ at.behind_is)
