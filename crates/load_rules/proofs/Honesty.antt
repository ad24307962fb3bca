-- Lines through two pipes to a safe destination, perhaps cut where these end, make an honest attempt.
use Rattle.std.proofs.Common.{arith, ◌≡◌, ◌⊎◌, inl, inr, ℕ, ◌+◌, ◌<◌, ◌≤◌, ◌^◌, List, [], ◌∷◌, ◌++◌, map, length, Option, None, Some, Bool, true, false, cond, refl, sym, ◌∙◌, ap, subst, append_assoc, length-append}
use Rattle.std.specs.Prelude.{filter, filter_map, Contains}
use Rattle.std.specs.List.{AllByRecursion}
use Rattle.std.proofs.lemmas.List.{append-nil}
use Rattle.std.proofs.lemmas.List.Elements.{filter_map-append, filter-append, Contains-append_left, Contains-append_right}
use Rattle.std.proofs.lemmas.Bool.{false≢true}
use Rattle.outside.specs.declared.event.Event.{Event}
use Rattle.outside.specs.declared.event.Event.TheVariants.{Opened, Took, TookEnd, Committed, Emitted, Merged, Shown, Started, ReadLine, ReadEnd, Given, Closed, Got, GotEnd, Saved, Ended}
use Rattle.outside.specs.declared.event.RawRow.{RawRow}
use Rattle.outside.specs.Event.{took_in}
use Rattle.catalog.specs.declared.stream.ConfStream.{ConfStream}
use Rattle.airbyte_message.specs.Lanes.{Lane}
use Rattle.airbyte_message.specs.Echo.{IsEcho}
use Rattle.airbyte_message.specs.Same.{Same}
use Rattle.airbyte_message.specs.Messages.{IsMessage}
use Rattle.airbyte_message.specs.declared.message.Message.{Message}
use Rattle.airbyte_message.specs.declared.message.Message.TheVariants as message
use Rattle.json_fields.specs.Answer.{IsAnswer}
use Rattle.load_rules.specs.Prefixes.{EachFits, IsPrefix}
use Rattle.load_rules.specs.Lines.{Line, Reading, ReadsText, ReadsEvent, IsReading, line_read, lines_read, state_in}
use Rattle.load_rules.specs.Taken.{Entry, entries, entries_from, LaneState, state_of, states, states_behind, of_lane, is_same_lane, covers, covered, count_of, is_in}
use Rattle.load_rules.specs.Loads.{Load, tooks}
use Rattle.load_rules.specs.Acts.{Act, Commits, IsAct, AreActs, taken, committed, echoed, state_echoed}
use Rattle.load_rules.specs.SafeDest.{IsSafeLoad, IsSafeDest}
use Rattle.load_rules.specs.Attempts.{gives, gots, emits}
use Rattle.load_rules.specs.Honest.{IsCommitted, HonestFits, GotFits}
use Rattle.load_rules.specs.Engine.{OpensFirst}
use Rattle.load_rules.specs.Laws.{IsOwnRow, ComesNext, PipeFits, PipesAreHonest}
use Rattle.load_rules.proofs.Fronts.{each_front, each_at}
use Rattle.load_rules.proofs.LoadFronts.{fronts_are_safe}
use Rattle.load_rules.proofs.TakenLists.{entries-append}
use Rattle.load_rules.proofs.Machines.{Rising, prefix_on, rising_accept, rising_less, lane_own, lane_is}
use Rattle.load_rules.proofs.SafeRuns.{contains_first, contains_none, contains_cases}
use Rattle.load_rules.proofs.OwnRows.{rows_are_own}
use Rattle.load_rules.proofs.Pipes.{EchoesStand, echoes_stand, AreEchoes, acts_echoes, acts_taken, OneLoad, may_load, MayLoad, taken_given}
use Rattle.load_rules.proofs.Returns.{IsEchoable, right_states, reads_as, Returned, returned, all_returned, taken_low, waits_at}
use Rattle.load_rules.proofs.Twins.{messages, messages_read, entries_alike, AreTwins, twins_lane, CutTwins, cut_twins, GivenTwins, given_twins, Woven, weave, returned_twins}
use Rattle.load_rules.proofs.EchoFronts.{whole_echo}

-- Lists

all_of : {A : Type 0} (P : A → Type 0) (xs : List A) → ((x : A) → Contains xs x → P x) → AllByRecursion P xs
all_of P [] each = tt
all_of P (x ∷ xs) each = (each x (contains_first x xs), all_of P xs (λ y c. each y (Contains-append_right (x ∷ []) xs y c)))

all_front : {A : Type 0} (P : A → Type 0) (xs ys : List A) → AllByRecursion P (xs ++ ys) → AllByRecursion P xs
all_front P [] ys all = tt
all_front P (x ∷ xs) ys all = (all.0, all_front P xs ys all.1)

all_here : {A : Type 0} (P : A → Type 0) (xs ys : List A) (x : A) → AllByRecursion P (xs ++ x ∷ ys) → P x
all_here P [] ys x all = all.0
all_here P (y ∷ xs) ys x all = all_here P xs ys x all.1

all_kept : {A : Type 0} (P : A → Type 0) (test : A → Bool) (xs : List A) → AllByRecursion P xs → AllByRecursion P (filter test xs)
all_kept P test [] all = tt
all_kept P test (x ∷ xs) all = at (test x) (all_kept P test xs all.1)
  where
    at : (b : Bool) → AllByRecursion P (filter test xs) → AllByRecursion P (cond b (x ∷ filter test xs) (filter test xs))
    at true rest = (all.0, rest)
    at false rest = rest

all_pass : {A : Type 0} (test : A → Bool) (xs : List A) → AllByRecursion (λ x. test x ≡ true) (filter test xs)
all_pass test [] = tt
all_pass test (x ∷ xs) = at (test x) refl (all_pass test xs)
  where
    at : (b : Bool) → test x ≡ b → AllByRecursion (λ y. test y ≡ true) (filter test xs) → AllByRecursion (λ y. test y ≡ true) (cond b (x ∷ filter test xs) (filter test xs))
    at true is rest = (is, rest)
    at false is rest = rest

each_from : {A : Type 0} (fits : List A → A → Type 0) (before xs : List A) → ((front rest : List A) (next : A) → xs ≡ front ++ next ∷ rest → fits (before ++ front) next) → EachFits fits before xs
each_from fits before [] each = tt
each_from fits before (x ∷ xs) each = (subst (λ list. fits list x) (append-nil before) (each [] xs x refl), each_from fits (before ++ x ∷ []) xs (λ front rest next is. subst (λ list. fits list next) (sym (append_assoc before (x ∷ []) front)) (each (x ∷ front) rest next (ap (λ list. x ∷ list) is))))

-- States of lines rise

rising_states : (done lines : List Line) (list : List LaneState) → Rising [] done list → Rising [] (done ++ lines) (list ++ states_behind done lines)
rising_states done [] list r = subst (λ all. Rising [] all (list ++ [])) (sym (append-nil done)) (subst (Rising [] done) (sym (append-nil list)) r)
rising_states done (line ∷ lines) list r =
    subst (λ all. Rising [] all (list ++ states_behind done (line ∷ lines))) (append_assoc done (line ∷ []) lines) (subst (Rising [] ((done ++ line ∷ []) ++ lines)) (append_assoc list (state_of done (state_in line.found)) (states_behind (done ++ line ∷ []) lines)) (rising_states (done ++ line ∷ []) lines (list ++ state_of done (state_in line.found)) (rising_accept done line list r)))

rising_kept : (test : LaneState → Bool) (low high : List Line) (list : List LaneState) → Rising low high list → Rising low high (filter test list)
rising_kept test low high [] r = r
rising_kept test low high (first ∷ more) r = at (test first) (rising_kept test first.before high more r.1)
  where
    at : (b : Bool) → Rising first.before high (filter test more) → Rising low high (cond b (first ∷ filter test more) (filter test more))
    at true rest = (r.0, rest)
    at false rest = rising_less low high first (filter test more) r.0 rest

rising_lane : (lane : Lane) (lines : List Line) → Rising [] lines (of_lane lane (states lines))
rising_lane lane lines = rising_kept (λ state. is_same_lane lane state.lane) [] lines (states lines) (rising_states [] lines [] ([], refl))

rising_ends : (low high : List Line) (list : List LaneState) → Rising low high list → IsPrefix low high
rising_ends low high [] r = r
rising_ends low high (first ∷ more) r = prefix_on low first.before high r.0 (rising_ends first.before high more r.1)

rising_above : (low high : List Line) (front rest : List LaneState) (state : LaneState) → Rising low high (front ++ state ∷ rest) → IsPrefix low state.before
rising_above low high [] rest state r = r.0
rising_above low high (first ∷ front) rest state r = prefix_on low first.before state.before r.0 (rising_above first.before high front rest state r.1)

rising_below : (low high : List Line) (front rest : List LaneState) (state : LaneState) → Rising low high (front ++ state ∷ rest) → IsPrefix state.before high
rising_below low high [] rest state r = rising_ends state.before high rest r.1
rising_below low high (first ∷ front) rest state r = rising_below first.before high front rest state r.1

rising_two : (low high : List Line) (front rest done more : List LaneState) (first second : LaneState) → Rising low high (done ++ second ∷ more) → front ++ first ∷ rest ≡ done ++ second ∷ more → length front ≤ length done → IsPrefix first.before second.before
rising_two low high [] rest [] more first second r is le = let same : first ≡ second = grind (arith, is) in subst (λ it. IsPrefix first.before it.before) same ([], sym (append-nil first.before))
rising_two low high [] rest (other ∷ done) more first second r is le = let same : first ≡ other = grind (arith, is) in subst (λ it. IsPrefix it.before second.before) (sym same) (rising_above other.before high done more second r.1)
rising_two low high (other ∷ front) rest [] more first second r is le = absurd (omega (arith, le))
rising_two low high (other ∷ front) rest (head ∷ done) more first second r is le =
    let tails : front ++ first ∷ rest ≡ done ++ second ∷ more = grind (arith, is)
    in rising_two head.before high front rest done more first second r.1 tails (omega (arith, le))

prefix_entries : (front whole : List Line) (entry : Entry) → IsPrefix front whole → Contains (entries front) entry → Contains (entries whole) entry
prefix_entries front whole entry prefix c = subst (λ lines. Contains (entries lines) entry) (sym prefix.1) (subst (λ list. Contains list entry) (sym (entries-append 0 front prefix.0)) (Contains-append_left (entries front) (entries_from (0 + length (entries front)) prefix.0) entry c))

covered_done : (P : ℕ → Type 0) (lane : Lane) (list : List Entry) (entry : Entry) → AllByRecursion P (map (λ (it : Entry). it.seq) (filter (λ it. covers lane it.content.id) list)) → Contains list entry → covers lane entry.content.id ≡ true → P entry.seq
covered_done P lane [] entry all c covers_it = absurd (contains_none entry c)
covered_done P lane (first ∷ more) entry all c covers_it = at (contains_cases first more entry c) (covers lane first.content.id) refl all (λ rest there. covered_done P lane more entry rest there covers_it)
  where
    at : (first ≡ entry) ⊎ Contains more entry → (b : Bool) → covers lane first.content.id ≡ b → AllByRecursion P (map (λ (it : Entry). it.seq) (cond b (first ∷ filter (λ it. covers lane it.content.id) more) (filter (λ it. covers lane it.content.id) more))) → (AllByRecursion P (map (λ (it : Entry). it.seq) (filter (λ it. covers lane it.content.id) more)) → Contains more entry → P entry.seq) → P entry.seq
    at (inl same) true is all deeper = subst (λ (it : Entry). P it.seq) same all.0
    at (inl same) false is all deeper = absurd (false≢true (sym is ∙ (ap (λ (it : Entry). covers lane it.content.id) same ∙ covers_it)))
    at (inr there) true is all deeper = deeper all.1 there
    at (inr there) false is all deeper = deeper all there

-- Echoes split where a line comes back

record SplitEchoes (list : List LaneState) (texts : List (List ℕ)) (text : List ℕ) : Type 0 where
  front : List LaneState
  state : LaneState
  rest : List LaneState
  is : list ≡ front ++ state ∷ rest
  are : AreEchoes front texts
  echo : IsEcho state.state.object (count_of state) text

split_echoes : (list : List LaneState) (texts behind : List (List ℕ)) (text : List ℕ) → AreEchoes list (texts ++ text ∷ behind) → SplitEchoes list texts text
split_echoes [] [] behind text are = absurd are
split_echoes [] (first ∷ texts) behind text are = absurd are
split_echoes (state ∷ list) [] behind text are = record { front = []; state = state; rest = list; is = refl; are = tt; echo = are.0 }
split_echoes (state ∷ list) (first ∷ texts) behind text are =
    let deeper = split_echoes list texts behind text are.1
    in record { front = state ∷ deeper.front; state = deeper.state; rest = deeper.rest; is = ap (λ it. state ∷ it) deeper.is; are = (are.0, deeper.are); echo = deeper.echo }

all_by_lanes : (P : LaneState → Type 0) (list : List LaneState) → ((lane : Lane) → AllByRecursion P (of_lane lane list)) → AllByRecursion P list
all_by_lanes P [] each = tt
all_by_lanes P (state ∷ list) each = (
  (subst (λ b. AllByRecursion P (cond b (state ∷ of_lane state.lane list) (of_lane state.lane list))) (lane_own state.lane) (each state.lane)).0,
  all_by_lanes P list (λ lane. less (is_same_lane lane state.lane) lane (each lane)),
)
  where
    less : (b : Bool) (lane : Lane) → AllByRecursion P (cond b (state ∷ of_lane lane list) (of_lane lane list)) → AllByRecursion P (of_lane lane list)
    less true lane all = all.1
    less false lane all = all

-- Readings

reads_gots : (read : Reading) (events : List Event) → IsReading read events → AllByRecursion (ReadsText read) (gots events)
reads_gots read [] all = tt
reads_gots read ((Opened x y z) ∷ events) all = reads_gots read events all.1
reads_gots read ((Took x) ∷ events) all = reads_gots read events all.1
reads_gots read (TookEnd ∷ events) all = reads_gots read events all.1
reads_gots read ((Committed x y) ∷ events) all = reads_gots read events all.1
reads_gots read ((Emitted x) ∷ events) all = reads_gots read events all.1
reads_gots read ((Merged x y z) ∷ events) all = reads_gots read events all.1
reads_gots read ((Shown x y z) ∷ events) all = reads_gots read events all.1
reads_gots read ((Started x) ∷ events) all = reads_gots read events all.1
reads_gots read ((ReadLine x) ∷ events) all = reads_gots read events all.1
reads_gots read (ReadEnd ∷ events) all = reads_gots read events all.1
reads_gots read ((Given x) ∷ events) all = reads_gots read events all.1
reads_gots read (Closed ∷ events) all = reads_gots read events all.1
reads_gots read ((Got x) ∷ events) all = (all.0, reads_gots read events all.1)
reads_gots read (GotEnd ∷ events) all = reads_gots read events all.1
reads_gots read ((Saved x) ∷ events) all = reads_gots read events all.1
reads_gots read ((Ended x) ∷ events) all = reads_gots read events all.1

reads_tooks : (read : Reading) (events : List Event) → IsReading read events → AllByRecursion (ReadsText read) (tooks events)
reads_tooks read [] all = tt
reads_tooks read ((Opened x y z) ∷ events) all = reads_tooks read events all.1
reads_tooks read ((Took x) ∷ events) all = (all.0, reads_tooks read events all.1)
reads_tooks read (TookEnd ∷ events) all = reads_tooks read events all.1
reads_tooks read ((Committed x y) ∷ events) all = reads_tooks read events all.1
reads_tooks read ((Emitted x) ∷ events) all = reads_tooks read events all.1
reads_tooks read ((Merged x y z) ∷ events) all = reads_tooks read events all.1
reads_tooks read ((Shown x y z) ∷ events) all = reads_tooks read events all.1
reads_tooks read ((Started x) ∷ events) all = reads_tooks read events all.1
reads_tooks read ((ReadLine x) ∷ events) all = reads_tooks read events all.1
reads_tooks read (ReadEnd ∷ events) all = reads_tooks read events all.1
reads_tooks read ((Given x) ∷ events) all = reads_tooks read events all.1
reads_tooks read (Closed ∷ events) all = reads_tooks read events all.1
reads_tooks read ((Got x) ∷ events) all = reads_tooks read events all.1
reads_tooks read (GotEnd ∷ events) all = reads_tooks read events all.1
reads_tooks read ((Saved x) ∷ events) all = reads_tooks read events all.1
reads_tooks read ((Ended x) ∷ events) all = reads_tooks read events all.1

commit_told : (read : Reading) (acts : List Act) (events : List Event) (number : ℕ) (rows : List RawRow) → AreActs read acts events → Contains acts (Commits number rows) → Contains events (Committed number rows)
commit_told read [] events number rows are c = absurd (contains_none (Commits number rows) c)
commit_told read (act ∷ acts) [] number rows are c = absurd are
commit_told read (act ∷ acts) (event ∷ events) number rows are c = at (contains_cases act acts (Commits number rows) c)
    (λ there. Contains-append_right (event ∷ []) events (Committed number rows) (commit_told read acts events number rows are.1 there))
  where
    told : (event : Event) → IsAct read (Commits number rows) event → event ≡ Committed number rows
    told (Opened x y z) is = absurd is
    told (Took x) is = absurd is
    told TookEnd is = absurd is
    told (Committed x y) is = ap (λ it. Committed it y) is.0 ∙ ap (λ it. Committed number it) is.1
    told (Emitted x) is = absurd is
    told (Merged x y z) is = absurd is
    told (Shown x y z) is = absurd is
    told (Started x) is = absurd is
    told (ReadLine x) is = absurd is
    told ReadEnd is = absurd is
    told (Given x) is = absurd is
    told Closed is = absurd is
    told (Got x) is = absurd is
    told GotEnd is = absurd is
    told (Saved x) is = absurd is
    told (Ended x) is = absurd is

    at : (act ≡ Commits number rows) ⊎ Contains acts (Commits number rows) → (Contains acts (Commits number rows) → Contains (event ∷ events) (Committed number rows)) → Contains (event ∷ events) (Committed number rows)
    at (inl same) deeper = subst (Contains (event ∷ events)) (told event (subst (λ it. IsAct read it event) same are.0)) (contains_first event events)
    at (inr there) deeper = deeper there

-- A line that comes back

message_is : (read : Reading) (text : List ℕ) (content : Message) → read text ≡ Some content → ReadsText read text → IsMessage text content
message_is read text content is reads = (subst (IsAnswer (IsMessage text)) is reads).is

record Behind (streams : List ConfStream) (read : Reading) (before : List Event) (text : List ℕ) : Type 0 where
  reading : IsReading read before
  reads : ReadsText read text
  short : length (tooks before) < 2 ^ 64
  safe : IsSafeDest streams read before
  given : IsPrefix (filter_map read (tooks before)) (filter_map read (gives before))
  came : ComesNext (emits before) (gots before) text

low_as : (a b c : ℕ) → a ≤ 0 + b → b ≡ c → a ≤ c
low_as a b c under same = omega (arith, under, same)

sum_low : (n a b c : ℕ) → n ≡ a + b → a + b ≤ c → n ≤ c
sum_low n a b c same low = omega (arith, same, low)

comes_back : (streams : List ConfStream) (read : Reading) (before : List Event) (text : List ℕ) → Behind streams read before text → OneLoad before → AllByRecursion (GotFits streams read before) (states (line_read read text ∷ []))
comes_back streams read before text b loaded = at (read text) refl
  where
    load : Load
    load = loaded.load

    safe : IsSafeLoad streams read loaded.load
    safe = (subst (AllByRecursion (IsSafeLoad streams read)) loaded.own b.safe.each).0

    lines : List Line
    lines = lines_read read (tooks before)

    taken_is : taken safe.acts ≡ lines_read read (tooks before)
    taken_is = acts_taken read safe.acts loaded.load.events safe.are ∙ ap (lines_read read) (sym loaded.tooks_are)

    next : List ℕ
    next = b.came.next

    echoes_are : AreEchoes (filter_map state_echoed safe.acts) (gots before ++ b.came.next ∷ b.came.rest)
    echoes_are = subst (AreEchoes (filter_map state_echoed safe.acts)) (sym loaded.emits_are ∙ b.came.are) (acts_echoes read safe.acts loaded.load.events safe.are)

    split : SplitEchoes (filter_map state_echoed safe.acts) (gots before) b.came.next
    split = split_echoes (filter_map state_echoed safe.acts) (gots before) b.came.rest b.came.next echoes_are

    good_states : AllByRecursion IsEchoable (states (lines_read read (tooks before)))
    good_states = let short = b.short in right_states read [] (tooks before) (omega (arith, short)) (reads_tooks read before b.reading)

    stand : (lane : Lane) → EchoesStand safe.acts lane
    stand lane = echoes_stand streams loaded.load.opening safe.acts lane safe.fit

    good_lane : (lane : Lane) → AllByRecursion IsEchoable (of_lane lane (filter_map state_echoed safe.acts))
    good_lane lane = all_front IsEchoable (echoed lane safe.acts) (stand lane).prefix.0 (subst (AllByRecursion IsEchoable) (sym (ap (λ it. of_lane lane (states it)) taken_is) ∙ (stand lane).prefix.1) (all_kept IsEchoable (λ state. is_same_lane lane state.lane) (states (lines_read read (tooks before))) good_states))

    good : AllByRecursion IsEchoable (split.front ++ split.state ∷ split.rest)
    good = subst (AllByRecursion IsEchoable) split.is (all_by_lanes IsEchoable (filter_map state_echoed safe.acts) good_lane)

    own_good : IsEchoable split.state
    own_good = all_here IsEchoable split.front split.rest split.state good

    -- a front of the echo that is a message is the echo
    whole : (content : Message) → read text ≡ Some content → text ≡ b.came.next
    whole content is =
        let back = reads_as split.state b.came.next own_good split.echo in
        whole_echo split.state.state.object (count_of split.state) b.came.next text content (message.State back.echoed) split.echo back.reads.is b.came.front (message_is read text content is b.reads)

    returned_now : text ≡ b.came.next → Returned read split.state text
    returned_now same = returned read split.state text own_good (subst (IsEcho split.state.state.object (count_of split.state)) (sym same) split.echo) b.reads

    lane : Lane
    lane = split.state.lane

    echoed_is : echoed split.state.lane safe.acts ≡ of_lane split.state.lane split.front ++ split.state ∷ of_lane split.state.lane split.rest
    echoed_is = ap (of_lane split.state.lane) split.is ∙ (filter-append (λ state. is_same_lane split.state.lane state.lane) split.front (split.state ∷ split.rest) ∙ ap (λ it. of_lane split.state.lane split.front ++ cond it (split.state ∷ of_lane split.state.lane split.rest) (of_lane split.state.lane split.rest)) (lane_own split.state.lane))

    own_states : of_lane split.state.lane (states (lines_read read (tooks before))) ≡ of_lane split.state.lane split.front ++ split.state ∷ (of_lane split.state.lane split.rest ++ (stand split.state.lane).prefix.0)
    own_states = sym (ap (λ it. of_lane split.state.lane (states it)) taken_is) ∙ ((stand split.state.lane).prefix.1 ∙ (ap (λ it. it ++ (stand split.state.lane).prefix.0) echoed_is ∙ append_assoc (of_lane split.state.lane split.front) (split.state ∷ of_lane split.state.lane split.rest) (stand split.state.lane).prefix.0))

    twins : GivenTwins (lines_read read (tooks before)) (lines_read read (gives before))
    twins = given_twins (lines_read read (tooks before)) (lines_read read (gives before)) (subst (λ list. IsPrefix list (messages (lines_read read (gives before)))) (sym (messages_read read (tooks before))) (subst (IsPrefix (filter_map read (tooks before))) (sym (messages_read read (gives before))) b.given))

    cut : CutTwins (of_lane split.state.lane split.front) split.state (of_lane split.state.lane twins.twins)
    cut = cut_twins (of_lane split.state.lane split.front) (of_lane split.state.lane split.rest ++ (stand split.state.lane).prefix.0) split.state (of_lane split.state.lane twins.twins) (subst (λ list. AreTwins list (of_lane split.state.lane twins.twins)) own_states (twins_lane split.state.lane (states (lines_read read (tooks before))) twins.twins twins.alike))

    given_states : of_lane split.state.lane (states (lines_read read (gives before))) ≡ cut.first ++ cut.one ∷ (cut.more ++ of_lane split.state.lane twins.rest)
    given_states = ap (of_lane split.state.lane) twins.are ∙ (filter-append (λ state. is_same_lane split.state.lane state.lane) twins.twins twins.rest ∙ (ap (λ it. it ++ of_lane split.state.lane twins.rest) cut.is ∙ append_assoc cut.first (cut.one ∷ cut.more) (of_lane split.state.lane twins.rest)))

    woven : Woven split.state.lane split.front cut.first
    woven = weave split.state.lane split.front cut.first cut.alike

    all_before : AllByRecursion (λ seq. is_in seq (committed safe.acts) ≡ true) (covered split.state)
    all_before = all_here (λ state. AllByRecursion (λ seq. is_in seq (committed safe.acts) ≡ true) (covered state)) (of_lane split.state.lane split.front) (of_lane split.state.lane split.rest) split.state (subst (AllByRecursion (λ state. AllByRecursion (λ seq. is_in seq (committed safe.acts) ≡ true) (covered state))) echoed_is (stand split.state.lane).done)

    state_prefix : IsPrefix split.state.before (lines_read read (tooks before))
    state_prefix = rising_below [] (lines_read read (tooks before)) (of_lane split.state.lane split.front) (of_lane split.state.lane split.rest ++ (stand split.state.lane).prefix.0) split.state (subst (Rising [] (lines_read read (tooks before))) own_states (rising_lane split.state.lane (lines_read read (tooks before))))

    row_stands : (entry : Entry) → IsOwnRow streams loaded.load.opening safe.acts entry → IsCommitted streams before entry
    row_stands entry own = record { load = loaded.load; among = subst (λ list. Contains list loaded.load) (sym loaded.own) (contains_first loaded.load []); stands = record { number = own.number; rows = own.rows; commit = commit_told read safe.acts loaded.load.events own.number own.rows safe.are own.commit; row = own.row; among = own.among; is = own.is } }

    entry_stands : (last : LaneState) → IsPrefix last.before cut.one.before → split.state.lane ≡ last.lane → (entry : Entry) → Contains (entries last.before) entry → covers last.lane entry.content.id ≡ true → IsCommitted streams before entry
    entry_stands last prefix same entry c covers_it =
        let there = subst (λ list. Contains list entry) (sym (entries_alike split.state.before cut.one.before cut.twin.before)) (prefix_entries last.before cut.one.before entry prefix c)
        in let done = covered_done (λ seq. is_in seq (committed safe.acts) ≡ true) split.state.lane (entries split.state.before) entry all_before there (ap (λ it. covers it entry.content.id) same ∙ covers_it)
        in row_stands entry (rows_are_own streams loaded.load.opening safe.acts entry safe.fit (subst (λ it. Contains (entries it) entry) (sym taken_is) (prefix_entries split.state.before (lines_read read (tooks before)) entry state_prefix there)) done)

    fits : (same : text ≡ b.came.next) → GotFits streams read before (record { lane = split.state.lane; state = (returned_now same).back; before = [] })
    fits same last takes =
        let came = all_returned read split.front (gots before) (all_front IsEchoable split.front (split.state ∷ split.rest) good) split.are (reads_gots read before b.reading)
        in let more = cut.more ++ of_lane split.state.lane twins.rest
        in let ends = waits_at read split.state.lane before takes.waiting woven.list (returned_twins read split.front woven.list (gots before) woven.alike came) (cut.one ∷ more, given_states ∙ ap (λ it. it ++ cut.one ∷ more) (sym woven.own)) takes.waits
        in let all : ends.over ++ (takes.takes.over ++ (last ∷ takes.rest)) ≡ cut.first ++ cut.one ∷ more = ap (λ it. ends.over ++ it) (sym takes.takes.splits) ∙ (sym ends.splits ∙ given_states)
        in let under = ends.low
        in let counted = ap length woven.own
        in let low = taken_low ends.over takes.takes.over (last ∷ takes.rest) cut.first more cut.one (returned_now same).back all (low_as (length ends.over) (length (of_lane split.state.lane woven.list)) (length cut.first) under counted) takes.takes.others (subst (λ state. Same state (returned_now same).back) cut.twin.state (returned_now same).same)
        in let long = length-append ends.over takes.takes.over
        in let two : (ends.over ++ takes.takes.over) ++ last ∷ takes.rest ≡ cut.first ++ cut.one ∷ more = append_assoc ends.over takes.takes.over (last ∷ takes.rest) ∙ all
        in let prefix = rising_two [] (lines_read read (gives before)) (ends.over ++ takes.takes.over) takes.rest cut.first more last cut.one (subst (Rising [] (lines_read read (gives before))) given_states (rising_lane split.state.lane (lines_read read (gives before)))) two (sum_low (length (ends.over ++ takes.takes.over)) (length ends.over) (length takes.takes.over) (length cut.first) long low)
        in let own = all_here (λ state. is_same_lane split.state.lane state.lane ≡ true) (ends.over ++ takes.takes.over) takes.rest last (subst (AllByRecursion (λ state. is_same_lane split.state.lane state.lane ≡ true)) (given_states ∙ sym two) (all_pass (λ state. is_same_lane split.state.lane state.lane) (states (lines_read read (gives before)))))
        in all_of (λ entry. covers last.lane entry.content.id ≡ true → IsCommitted streams before entry) (entries last.before) (λ entry c covers_it. entry_stands last prefix (lane_is split.state.lane last.lane own) entry c covers_it)

    at : (found : Option Message) → read text ≡ found → AllByRecursion (GotFits streams read before) (states (line_read read text ∷ []))
    at None is = rw is tt
    at (Some content) is = let same = whole content is in subst (AllByRecursion (GotFits streams read before)) (sym (returned_now same).is) (fits same, tt)

-- The law

may_come : (streams : List ConfStream) (read : Reading) (before : List Event) (text : List ℕ) → Behind streams read before text → MayLoad before → AllByRecursion (GotFits streams read before) (states (line_read read text ∷ []))
may_come streams read before text b (inr loaded) = comes_back streams read before text b loaded
may_come streams read before text b (inl none) = absurd (not_none (gots before) (sym b.came.are ∙ none.emits_none))
  where
    not_none : (list : List (List ℕ)) → list ++ b.came.next ∷ b.came.rest ≡ [] → ⊥
    not_none [] e = grind (arith, e)
    not_none (first ∷ list) e = grind (arith, e)

got_behind : (streams : List ConfStream) (read : Reading) (events front rest : List Event) (text : List ℕ) → IsReading read events → length (tooks events) < 2 ^ 64 → IsSafeDest streams read events → EachFits OpensFirst [] events → EachFits (PipeFits read) [] events → events ≡ front ++ Got text ∷ rest → AllByRecursion (GotFits streams read front) (states (line_read read text ∷ []))
got_behind streams read events front rest text reading short safe opens pipes is =
    let long = ap (λ list. length (tooks list)) is ∙ (ap length (filter_map-append took_in front (Got text ∷ rest)) ∙ length-append (tooks front) (tooks (Got text ∷ rest)))
    in let reads = subst (IsReading read) is reading
    in may_come streams read front text (record {
      reading = all_front (ReadsEvent read) front (Got text ∷ rest) reads;
      reads = all_here (ReadsEvent read) front rest (Got text) reads;
      short = omega (arith, short, long);
      safe = fronts_are_safe streams read front (Got text ∷ rest) (subst (IsSafeDest streams read) is safe);
      given = taken_given read front (each_front (PipeFits read) [] front (Got text ∷ rest) (subst (EachFits (PipeFits read) []) is pipes));
      came = each_at (PipeFits read) [] front rest (Got text) (subst (EachFits (PipeFits read) []) is pipes);
    }) (may_load front (each_front OpensFirst [] front (Got text ∷ rest) (subst (EachFits OpensFirst []) is opens)))

honest_at : (streams : List ConfStream) (read : Reading) (events front rest : List Event) (next : Event) → IsReading read events → length (tooks events) < 2 ^ 64 → IsSafeDest streams read events → EachFits OpensFirst [] events → EachFits (PipeFits read) [] events → events ≡ front ++ next ∷ rest → HonestFits streams read front next
honest_at streams read events front rest (Opened x y z) reading short safe opens pipes is = tt
honest_at streams read events front rest (Took x) reading short safe opens pipes is = tt
honest_at streams read events front rest TookEnd reading short safe opens pipes is = tt
honest_at streams read events front rest (Committed x y) reading short safe opens pipes is = tt
honest_at streams read events front rest (Emitted x) reading short safe opens pipes is = tt
honest_at streams read events front rest (Merged x y z) reading short safe opens pipes is = tt
honest_at streams read events front rest (Shown x y z) reading short safe opens pipes is = tt
honest_at streams read events front rest (Started x) reading short safe opens pipes is = tt
honest_at streams read events front rest (ReadLine x) reading short safe opens pipes is = tt
honest_at streams read events front rest ReadEnd reading short safe opens pipes is = tt
honest_at streams read events front rest (Given x) reading short safe opens pipes is = tt
honest_at streams read events front rest Closed reading short safe opens pipes is = tt
honest_at streams read events front rest (Got x) reading short safe opens pipes is = got_behind streams read events front rest x reading short safe opens pipes is
honest_at streams read events front rest GotEnd reading short safe opens pipes is = tt
honest_at streams read events front rest (Saved x) reading short safe opens pipes is = tt
honest_at streams read events front rest (Ended x) reading short safe opens pipes is = tt

pub pipes_are_honest : PipesAreHonest
pipes_are_honest streams read attempt reading few safe opens pipes = each_from (HonestFits streams read) [] attempt.events (λ front rest next is. honest_at streams read attempt.events front rest next reading few safe opens pipes is)
