-- Every committed row is a copy of a body of the source.
use Rattle.std.proofs.Common.{arith, ◌≡◌, ◌⊎◌, inl, inr, ℕ, ◌+◌, List, [], ◌∷◌, ◌++◌, map, length, Option, None, Some, Bool, true, false, cond, refl, sym, ◌∙◌, ap, subst, append_assoc, append-nil}
use Rattle.std.specs.Prelude.{filter, filter_map, is_none, not}
use Rattle.std.specs.Fmt.{decimal}
use Rattle.std.specs.List.{AllByRecursion}
use Rattle.std.proofs.lemmas.List.{map-append}
use Rattle.std.proofs.lemmas.List.Elements.{filter_map-append}
use Rattle.basics.specs.declared.stream.StreamId.{StreamId}
use Rattle.outside.specs.Event.{is_links, given_in, read_over, took_in}
use Rattle.outside.specs.declared.event.Event.{Event}
use Rattle.outside.specs.declared.event.Event.TheVariants.{Opened, Took, TookEnd, Committed, Emitted, Merged, Shown, Started, ReadLine, ReadEnd, Given, Closed, Got, GotEnd, Saved, Ended}
use Rattle.outside.specs.declared.event.RawRow.{RawRow}
use Rattle.airbyte_message.specs.Messages.{IsMessage}
use Rattle.airbyte_message.specs.declared.message.Message.{Message}
use Rattle.airbyte_message.specs.declared.message.Message.TheVariants as message
use Rattle.airbyte_message.specs.declared.message.TraceMsg.TheVariants as trace
use Rattle.airbyte_message.specs.declared.stream_status.StreamStatus.TheVariants.{Complete}
use Rattle.json_fields.specs.Answer.{IsAnswer}
use Rattle.json_fields.specs.Parts.{IsNumber}
use Rattle.json_write.proofs.Numerals.{decimal_literal}
use Rattle.message_writer.specs.Forms.{HasNames}
use Rattle.message_writer.proofs.Payloads.{written_is}
use Rattle.catalog.specs.Reading.{ids_of}
use Rattle.catalog.specs.declared.stream.ConfStream.{ConfStream}
use Rattle.dedup_merge.proofs.SameRowLemmas.{Has, has_passed}
use Rattle.load_rules.specs.Prefixes.{EachFits, IsPrefix, with_first}
use Rattle.load_rules.specs.Lines.{Line, Reading, ReadsText, ReadsEvent, line_read, lines_read, record_in, passes}
use Rattle.load_rules.specs.Taken.{Entry, and_record, entries, entries_from, is_in}
use Rattle.load_rules.specs.Loads.{Opening, Load, tooks}
use Rattle.load_rules.specs.Rows.{IsRowOf}
use Rattle.load_rules.specs.Acts.{Act, Takes, Ends, Commits, Echoes, Turns, IsAct, AreActs, line_of, taken, committed}
use Rattle.load_rules.specs.SafeDest.{AreRowsOf, Fits, uncommitted, IsSafeLoad}
use Rattle.load_rules.specs.Finished.{last_status}
use Rattle.load_rules.specs.Attempts.{Attempt, attempts, attempts_after, attempt_with, reads, gives, passed}
use Rattle.load_rules.specs.Laws.{TakeFits}
use Rattle.load_rules.proofs.Fronts.{each_at}
use Rattle.load_rules.proofs.Pipes.{acts_taken}
use Rattle.load_rules.proofs.TakenLists.{entries-append}
use Rattle.load_rules.proofs.Twins.{bare_line, entries_alike, messages, messages_read}
use Rattle.sync_rules.specs.Sync.{Running, Sync, texts, completion, untold, completions, to_give}
use Rattle.sync_rules.specs.SafeSync.{commits, Goes, IsAsked}
use Rattle.sync_rules.specs.Laws.{Knows, KnowsAttempt}
use Rattle.sync_rules.proofs.Giving.{GivesWell, GivesFront, well_along}
use Rattle.sync_rules.proofs.Honest.{knows_step}
use Rattle.sync_rules.proofs.KindLemmas.{all_has, has_front, has_back, has_map, heads, tails}
use Rattle.sync_rules.proofs.Ways.{one_step}
use Rattle.replay_rules.proofs.Attempts.{attempts-one, by_start}
use Rattle.replay_rules.proofs.Lines.{reads_links}
use Rattle.replay_rules.proofs.SavedBack.{AreAll}
use Rattle.replay_rules.proofs.StepKinds.{goes_on}
use Rattle.replay_rules.proofs.WellEnded.{gives_links, over_links, reread}

-- ---- in each attempt the given lines are the first of those that are to be given

abbrev pub GivesIn : List StreamId → Reading → Attempt → Type 0
GivesIn ids read attempt = GivesFront ids read attempt.events

give_links : (ids : List StreamId) (read : Reading) (events : List Event) → to_give ids read (filter is_links events) ≡ to_give ids read events
give_links ids read events =
    ap (λ lines. texts (filter (λ line. passes ids line.found) (lines_read read lines)) ++ (cond (read_over (filter is_links events)) (map completion (filter (λ id. is_none (last_status id (lines_read read lines))) ids)) [])) (reads_links events)
    ∙ ap (λ over. texts (filter (λ line. passes ids line.found) (lines_read read (reads events))) ++ (cond over (map completion (filter (λ id. is_none (last_status id (lines_read read (reads events)))) ids)) [])) (over_links false events)

given_whole : (ids : List StreamId) (read : Reading) (own events : List Event) → own ≡ filter is_links events → GivesFront ids read own → GivesFront ids read events
given_whole ids read own events is front =
    (front.0, sym (give_links ids read events) ∙ (ap (to_give ids read) (sym is) ∙ (front.1 ∙ ap (λ list. list ++ front.0) (ap gives is ∙ gives_links events))))

head_given : (ids : List StreamId) (read : Reading) (own : Option Running) (attempt : Attempt) (older : List Attempt) → KnowsAttempt own (attempt ∷ older) → GivesWell ids read own → GivesIn ids read attempt
head_given ids read None attempt older knows well = absurd knows
head_given ids read (Some own) attempt older knows well = given_whole ids read own.events attempt.events knows well

with_head : (ids : List StreamId) (read : Reading) (event : Event) (list : List Attempt) (own : Option Running) → AllByRecursion (GivesIn ids read) list → KnowsAttempt own (with_first (attempt_with event) list) → GivesWell ids read own → AllByRecursion (GivesIn ids read) (with_first (attempt_with event) list)
with_head ids read event [] own each knows well = tt
with_head ids read event (attempt ∷ older) own each knows well = (head_given ids read own (attempt_with event attempt) older knows well, each.1)

after_head : (ids : List StreamId) (read : Reading) (event : Event) (list : List Attempt) (own : Option Running) → AllByRecursion (GivesIn ids read) list → KnowsAttempt own (attempts_after list event) → GivesWell ids read own → AllByRecursion (GivesIn ids read) (attempts_after list event)
after_head ids read event list own each knows well =
    by_start event (λ plan is. subst (λ it. AllByRecursion (GivesIn ids read) (attempts_after list it)) (sym is) (([], refl), each))
    (λ none. subst (AllByRecursion (GivesIn ids read)) (sym (goes_on event list none)) (with_head ids read event list own each (subst (KnowsAttempt own) (goes_on event list none) knows) well))

pub given_along : (streams : List ConfStream) (read : Reading) (before events : List Event) (sync now : Sync) → Goes streams read commits before sync events now → Knows sync before → GivesWell (ids_of streams) read sync.attempt → AllByRecursion (GivesIn (ids_of streams) read) (attempts before) → AllByRecursion (GivesIn (ids_of streams) read) (attempts (before ++ events))
given_along streams read before [] sync now goes knows well each = subst (λ trace. AllByRecursion (GivesIn (ids_of streams) read) (attempts trace)) (sym (append-nil before)) each
given_along streams read before (event ∷ events) sync now (middle, step, rest) knows well each =
    let next = knows_step streams read (IsAsked streams commits before) before sync event middle knows step in
    let then = well_along streams read commits before (event ∷ []) sync middle (one_step streams read commits before sync event middle step) well in
    subst (λ trace. AllByRecursion (GivesIn (ids_of streams) read) (attempts trace)) (append_assoc before (event ∷ []) events)
    (given_along streams read (before ++ event ∷ []) events middle now rest next then
    (subst (AllByRecursion (GivesIn (ids_of streams) read)) (sym (attempts-one before event)) (after_head (ids_of streams) read event (attempts before) middle.attempt each (subst (KnowsAttempt middle.attempt) (attempts-one before event) next) then)))

-- ---- a completion is no record

zero_number : IsNumber (decimal 0)
zero_number = (let whole = decimal_literal 0 (omega arith) in record { literal = whole.literal; spelled = whole.spelled })

completion_record : (read : Reading) (id : StreamId) → HasNames id → ReadsText read (completion id) → record_in (read (completion id)) ≡ None
completion_record read id names right = at (read (completion id)) right
  where
    is : IsMessage (completion id) (message.Trace (trace.Status id Complete (Some (decimal 0))))
    is = written_is (message.Trace (trace.Status id Complete (Some (decimal 0)))) (record { names = names; number = zero_number })

    at : (found : Option Message) → IsAnswer (IsMessage (completion id)) found → record_in found ≡ None
    at None answer = refl
    at (Some content) answer = ap (λ it. record_in (Some it)) (sym (answer.only (message.Trace (trace.Status id Complete (Some (decimal 0)))) is))

completions_record : (ids : List StreamId) (read : Reading) (events : List Event) (text : List ℕ) → AllByRecursion HasNames ids → ReadsText read text → Has text (completions ids read events) → record_in (read text) ≡ None
completions_record ids read events text names right has = at (read_over events) has
  where
    at : (b : Bool) → Has text (cond b (map completion (untold ids read events)) []) → record_in (read text) ≡ None
    at true some =
        let found = has_map completion text (untold ids read events) some in
        let among = (has_passed (λ id. is_none (last_status id (lines_read read (reads events)))) found.0 ids found.1).0 in
        subst (λ it. record_in (read it) ≡ None) found.2 (completion_record read found.0 (all_has HasNames found.0 ids names among) (subst (ReadsText read) (sym found.2) right))
    at false none = absurd none

no_entries : (read : Reading) (seq : ℕ) (list : List (List ℕ)) → ((text : List ℕ) → Has text list → record_in (read text) ≡ None) → entries_from seq (lines_read read list) ≡ []
no_entries read seq [] none = refl
no_entries read seq (text ∷ list) none = ap (λ found. and_record seq found (λ next. entries_from next (lines_read read list))) (none text (inl refl)) ∙ no_entries read seq list (λ other has. none other (inr has))

-- the front of two lists is one of the first, or the first and a front of the second
parted : (front rest first second : List (List ℕ)) → first ++ second ≡ front ++ rest → IsPrefix front first ⊎ ((more : List (List ℕ)) × (front ≡ first ++ more) × IsPrefix more second)
parted [] rest first second is = inl (first, refl)
parted (text ∷ front) rest [] second is = inr (text ∷ front, refl, (rest, is))
parted (text ∷ front) rest (own ∷ first) second is = at (parted front rest first second (tails is))
  where
    same : own ≡ text
    same = heads is

    at : IsPrefix front first ⊎ ((more : List (List ℕ)) × (front ≡ first ++ more) × IsPrefix more second) → IsPrefix (text ∷ front) (own ∷ first) ⊎ ((more : List (List ℕ)) × (text ∷ front ≡ (own ∷ first) ++ more) × IsPrefix more second)
    at (inl (left, whole)) = inl (left, ap (λ it. it ∷ first) same ∙ ap (λ list. text ∷ list) whole)
    at (inr (more, whole, prefix)) = inr (more, ap (λ list. text ∷ list) whole ∙ ap (λ it. it ∷ (first ++ more)) (sym same), prefix)

given_text : (events : List Event) (text : List ℕ) → Has text (gives events) → Has (Given text) events
given_text [] text has = absurd has
given_text ((Opened x y z) ∷ events) text has = inr (given_text events text has)
given_text ((Took x) ∷ events) text has = inr (given_text events text has)
given_text (TookEnd ∷ events) text has = inr (given_text events text has)
given_text ((Committed x y) ∷ events) text has = inr (given_text events text has)
given_text ((Emitted x) ∷ events) text has = inr (given_text events text has)
given_text ((Merged x y z) ∷ events) text has = inr (given_text events text has)
given_text ((Shown x y z) ∷ events) text has = inr (given_text events text has)
given_text ((Started x) ∷ events) text has = inr (given_text events text has)
given_text ((ReadLine x) ∷ events) text has = inr (given_text events text has)
given_text (ReadEnd ∷ events) text has = inr (given_text events text has)
given_text (Given x ∷ events) text (inl is) = inl (ap (λ it. Given it) is)
given_text (Given x ∷ events) text (inr has) = inr (given_text events text has)
given_text (Closed ∷ events) text has = inr (given_text events text has)
given_text ((Got x) ∷ events) text has = inr (given_text events text has)
given_text (GotEnd ∷ events) text has = inr (given_text events text has)
given_text ((Saved x) ∷ events) text has = inr (given_text events text has)
given_text ((Ended x) ∷ events) text has = inr (given_text events text has)

-- a record among the given lines is one that was passed on, with its number
pub given_entry : (ids : List StreamId) (read : Reading) (attempt : Attempt) (entry : Entry) → AllByRecursion HasNames ids → AreAll (ReadsEvent read) attempt.events → GivesIn ids read attempt → Has entry (entries (lines_read read (gives attempt.events))) → Has entry (entries (passed ids read attempt.events))
given_entry ids read attempt entry names right front has = at (parted (gives attempt.events) front.0 (texts (passed ids read attempt.events)) (completions ids read attempt.events) front.1)
  where
    again : lines_read read (texts (passed ids read attempt.events)) ≡ passed ids read attempt.events
    again = reread read (λ line. passes ids line.found) (reads attempt.events)

    at : IsPrefix (gives attempt.events) (texts (passed ids read attempt.events)) ⊎ ((more : List (List ℕ)) × (gives attempt.events ≡ texts (passed ids read attempt.events) ++ more) × IsPrefix more (completions ids read attempt.events)) → Has entry (entries (passed ids read attempt.events))
    at (inl (rest, whole)) =
        let lines : passed ids read attempt.events ≡ lines_read read (gives attempt.events) ++ lines_read read rest = sym again ∙ (ap (lines_read read) whole ∙ map-append (line_read read) (gives attempt.events) rest) in
        subst (λ list. Has entry (entries list)) (sym lines) (subst (Has entry) (sym (entries-append 0 (lines_read read (gives attempt.events)) (lines_read read rest))) (has_front entry (entries (lines_read read (gives attempt.events))) (entries_from (0 + length (entries (lines_read read (gives attempt.events)))) (lines_read read rest)) has))
    at (inr (more, whole, (rest, prefix))) =
        let lines : lines_read read (gives attempt.events) ≡ passed ids read attempt.events ++ lines_read read more = ap (lines_read read) whole ∙ (map-append (line_read read) (texts (passed ids read attempt.events)) more ∙ ap (λ list. list ++ lines_read read more) again) in
        let none : entries_from (0 + length (entries (passed ids read attempt.events))) (lines_read read more) ≡ [] = no_entries read (0 + length (entries (passed ids read attempt.events))) more (λ text in_more.
        completions_record ids read attempt.events text names (right (Given text) (given_text attempt.events text (subst (Has text) (sym whole) (has_back text (texts (passed ids read attempt.events)) more in_more))))
        (subst (Has text) (sym prefix) (has_front text more rest in_more))) in
        subst (Has entry) (entries-append 0 (passed ids read attempt.events) (lines_read read more) ∙ (ap (λ list. entries (passed ids read attempt.events) ++ list) none ∙ append-nil (entries (passed ids read attempt.events)))) (subst (λ list. Has entry (entries list)) lines has)

-- ---- what was taken was given

abbrev pub HasGiven : Reading → List Event → Type 0
HasGiven read events = IsPrefix (filter_map read (tooks events)) (filter_map read (gives events))

tooks-more : (events : List Event) (event : Event) → tooks (events ++ event ∷ []) ≡ tooks events ++ tooks (event ∷ [])
tooks-more events event = filter_map-append took_in events (event ∷ [])

gives-more : (events : List Event) (event : Event) → gives (events ++ event ∷ []) ≡ gives events ++ gives (event ∷ [])
gives-more events event = filter_map-append given_in events (event ∷ [])

given_quiet : (read : Reading) (before : List Event) (event : Event) → tooks (event ∷ []) ≡ [] → gives (event ∷ []) ≡ [] → HasGiven read before → HasGiven read (before ++ event ∷ [])
given_quiet read before event no_took no_given prefix =
    let took = tooks-more before event ∙ (ap (λ more. tooks before ++ more) no_took ∙ append-nil (tooks before)) in
    let given = gives-more before event ∙ (ap (λ more. gives before ++ more) no_given ∙ append-nil (gives before)) in
    subst (λ list. IsPrefix (filter_map read list) (filter_map read (gives (before ++ event ∷ [])))) (sym took) (subst (λ list. IsPrefix (filter_map read (tooks before)) (filter_map read list)) (sym given) prefix)

given_step : (read : Reading) (before : List Event) (event : Event) → TakeFits read before event → HasGiven read before → HasGiven read (before ++ event ∷ [])
given_step read before (Opened x y z) fits prefix = given_quiet read before (Opened x y z) refl refl prefix
given_step read before (Took x) fits prefix =
    subst (λ list. IsPrefix (filter_map read list) (filter_map read (gives (before ++ Took x ∷ [])))) (sym (tooks-more before (Took x))) (subst (λ list. IsPrefix (filter_map read (tooks before ++ x ∷ [])) (filter_map read list)) (sym (gives-more before (Took x) ∙ append-nil (gives before))) fits)
given_step read before TookEnd fits prefix = given_quiet read before TookEnd refl refl prefix
given_step read before (Committed x y) fits prefix = given_quiet read before (Committed x y) refl refl prefix
given_step read before (Emitted x) fits prefix = given_quiet read before (Emitted x) refl refl prefix
given_step read before (Merged x y z) fits prefix = given_quiet read before (Merged x y z) refl refl prefix
given_step read before (Shown x y z) fits prefix = given_quiet read before (Shown x y z) refl refl prefix
given_step read before (Started x) fits prefix = given_quiet read before (Started x) refl refl prefix
given_step read before (ReadLine x) fits prefix = given_quiet read before (ReadLine x) refl refl prefix
given_step read before ReadEnd fits prefix = given_quiet read before ReadEnd refl refl prefix
given_step read before (Given x) fits prefix =
    subst (λ list. IsPrefix (filter_map read list) (filter_map read (gives (before ++ Given x ∷ [])))) (sym (tooks-more before (Given x) ∙ append-nil (tooks before)))
    (prefix.0 ++ filter_map read (x ∷ []), ap (filter_map read) (gives-more before (Given x)) ∙ (filter_map-append read (gives before) (x ∷ []) ∙ (ap (λ list. list ++ filter_map read (x ∷ [])) prefix.1 ∙ append_assoc (filter_map read (tooks before)) prefix.0 (filter_map read (x ∷ [])))))
given_step read before Closed fits prefix = given_quiet read before Closed refl refl prefix
given_step read before (Got x) fits prefix = given_quiet read before (Got x) refl refl prefix
given_step read before GotEnd fits prefix = given_quiet read before GotEnd refl refl prefix
given_step read before (Saved x) fits prefix = given_quiet read before (Saved x) refl refl prefix
given_step read before (Ended x) fits prefix = given_quiet read before (Ended x) refl refl prefix

pub given_from : (read : Reading) (before events : List Event) → EachFits (TakeFits read) before events → HasGiven read before → HasGiven read (before ++ events)
given_from read before [] each prefix = subst (HasGiven read) (sym (append-nil before)) prefix
given_from read before (event ∷ events) each prefix = subst (HasGiven read) (append_assoc before (event ∷ []) events) (given_from read (before ++ event ∷ []) events each.1 (given_step read before event each.0 prefix))

bare_back : (list : List Message) → messages (map bare_line list) ≡ list
bare_back [] = refl
bare_back (content ∷ list) = ap (λ more. content ∷ more) (bare_back list)

-- a record that was taken was given, with its number
pub taken_entry : (read : Reading) (events : List Event) (entry : Entry) → HasGiven read events → Has entry (entries (lines_read read (tooks events))) → Has entry (entries (lines_read read (gives events)))
taken_entry read events entry (rest, whole) has =
    let lines : List Line = lines_read read (tooks events) ++ map bare_line rest in
    let same : messages lines ≡ messages (lines_read read (gives events)) =
    filter_map-append (λ line. line.found) (lines_read read (tooks events)) (map bare_line rest) ∙ (ap (λ list. list ++ messages (map bare_line rest)) (messages_read read (tooks events)) ∙ (ap (λ list. filter_map read (tooks events) ++ list) (bare_back rest) ∙ (sym whole ∙ sym (messages_read read (gives events))))) in
    subst (Has entry) (entries_alike lines (lines_read read (gives events)) same)
    (subst (Has entry) (sym (entries-append 0 (lines_read read (tooks events)) (map bare_line rest))) (has_front entry (entries (lines_read read (tooks events))) (entries_from (0 + length (entries (lines_read read (tooks events)))) (map bare_line rest)) has))

-- ---- the record of a row

commit_act : (read : Reading) (number : ℕ) (rows : List RawRow) (act : Act) → IsAct read act (Committed number rows) → act ≡ Commits number rows
commit_act read number rows (Takes line) is = absurd is
commit_act read number rows Ends is = absurd is
commit_act read number rows (Commits n list) is = ap (λ k. Commits k list) (sym is.0) ∙ ap (λ it. Commits number it) (sym is.1)
commit_act read number rows (Echoes state) is = absurd is
commit_act read number rows Turns is = absurd is

commits_act : (read : Reading) (number : ℕ) (rows : List RawRow) (acts : List Act) (events : List Event) → AreActs read acts events → Has (Committed number rows) events → Has (Commits number rows) acts
commits_act read number rows [] [] are has = absurd has
commits_act read number rows [] (event ∷ events) are has = absurd are
commits_act read number rows (act ∷ acts) [] are has = absurd has
commits_act read number rows (act ∷ acts) (event ∷ events) are (inl is) = inl (commit_act read number rows act (subst (IsAct read act) is are.0))
commits_act read number rows (act ∷ acts) (event ∷ events) are (inr has) = inr (commits_act read number rows acts events are.1 has)

record SplitAt (acts : List Act) (act : Act) : Type 0 where
  before : List Act
  behind : List Act
  is : acts ≡ before ++ act ∷ behind

split_at : (acts : List Act) (act : Act) → Has act acts → SplitAt acts act
split_at [] act has = absurd has
split_at (first ∷ acts) act (inl is) = record { before = []; behind = acts; is = ap (λ it. it ∷ acts) is }
split_at (first ∷ acts) act (inr has) = let deeper = split_at acts act has in record { before = first ∷ deeper.before; behind = deeper.behind; is = ap (λ list. first ∷ list) deeper.is }

pub record RowsEntry (streams : List ConfStream) (opening : Opening) (number : ℕ) (list : List Entry) (row : RawRow) : Type 0 where
  pub entry : Entry
  pub among : Has entry list
  pub is : IsRowOf streams opening number entry row

row_entry : (streams : List ConfStream) (opening : Opening) (number : ℕ) (list : List Entry) (rows : List RawRow) (row : RawRow) → AreRowsOf streams opening number list rows → Has row rows → RowsEntry streams opening number list row
row_entry streams opening number list [] row are has = absurd has
row_entry streams opening number [] (first ∷ rows) row are has = absurd are
row_entry streams opening number (entry ∷ list) (first ∷ rows) row are (inl is) = record { entry = entry; among = inl refl; is = subst (IsRowOf streams opening number entry) is are.0 }
row_entry streams opening number (entry ∷ list) (first ∷ rows) row are (inr has) = let deeper = row_entry streams opening number list rows row are.1 has in record { entry = deeper.entry; among = inr deeper.among; is = deeper.is }

-- a row that a safe load has committed is that of a record that it took
pub load_row : (streams : List ConfStream) (read : Reading) (load : Load) (number : ℕ) (rows : List RawRow) (row : RawRow) → IsSafeLoad streams read load → Has (Committed number rows) load.events → Has row rows → RowsEntry streams load.opening number (entries (lines_read read (tooks load.events))) row
load_row streams read load number rows row safe has in_rows =
    let split = split_at safe.acts (Commits number rows) (commits_act read number rows safe.acts load.events safe.are has) in
    let fits = each_at (Fits streams load.opening) [] split.before split.behind (Commits number rows) (subst (EachFits (Fits streams load.opening) []) split.is safe.fit) in
    let found = row_entry streams load.opening number (filter fits.chosen (uncommitted split.before)) rows row fits.are in_rows in
    let old = (has_passed (λ it. not (is_in it.seq (committed split.before))) found.entry (entries (taken split.before)) (has_passed fits.chosen found.entry (uncommitted split.before) found.among).0).0 in
    record {
      entry = found.entry;
      among = subst (λ lines. Has found.entry (entries lines)) (sym (ap taken split.is ∙ filter_map-append line_of split.before (Commits number rows ∷ split.behind)) ∙ acts_taken read safe.acts load.events safe.are)
          (subst (Has found.entry) (sym (entries-append 0 (taken split.before) (taken (Commits number rows ∷ split.behind)))) (has_front found.entry (entries (taken split.before)) (entries_from (0 + length (entries (taken split.before))) (taken (Commits number rows ∷ split.behind))) old));
      is = found.is;
    }
