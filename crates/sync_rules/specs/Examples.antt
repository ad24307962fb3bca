-- Standings of a sync that were worked by hand, and what fits there or does not.
use Rattle.std.specs.Prelude.{◌≡◌, ℕ, ◌+◌, ◌-◌, ◌^◌, List, [], ◌∷◌, ◌++◌, ◌==◌, if◌then◌else◌, true, false, Option, None, Some, codes}
use Rattle.basics.specs.declared.stream.StreamId.{StreamId}
use Rattle.outside.specs.declared.event.AttemptPlan.{AttemptPlan}
use Rattle.outside.specs.declared.event.Codes.{Codes}
use Rattle.outside.specs.declared.event.Event.{Event}
use Rattle.outside.specs.declared.event.Event.TheVariants as event
use Rattle.outside.specs.declared.event.Exit.TheVariants.{Code, Signal}
use Rattle.outside.specs.declared.event.Job.TheVariants as job
use Rattle.outside.specs.declared.event.RawRow.{RawRow}
use Rattle.outside.specs.declared.faults.Breach.TheVariants as breach
use Rattle.airbyte_message.specs.Lanes.{one, all}
use Rattle.airbyte_message.specs.declared.message.Message.{Message}
use Rattle.airbyte_message.specs.declared.message.Message.TheVariants as message
use Rattle.airbyte_message.specs.declared.message.StateKind.{StateKind}
use Rattle.airbyte_message.specs.declared.message.StateKind.TheVariants as kind
use Rattle.catalog.specs.declared.modes.DestMode.TheVariants.{Overwrite}
use Rattle.catalog.specs.declared.modes.SyncMode.TheVariants.{FullRefresh}
use Rattle.catalog.specs.declared.stream.ConfStream.{ConfStream}
use Rattle.catalog.specs.declared.stream.Gen.{Gen}
use Rattle.load_rules.specs.Examples.{a, b, configured, both_streams, plan_of_a}
use Rattle.load_rules.specs.Lines.{Line, Reading, line_read, lines_read}
use Rattle.load_rules.specs.Taken.{LaneState, Entry}
use Rattle.load_rules.specs.Rows.{IsRowOf}
use Rattle.state_kinds.specs.Saved.{Saved, nothing_saved, state_of}
use Rattle.state_kinds.specs.Texts.{store_text}
use Rattle.sync_rules.specs.Generations.{restarts, gen_of, first_spent}
use Rattle.sync_rules.specs.Breaches.{breach_of}
use Rattle.sync_rules.specs.Sync.{Sync, no_sync, completion}
use Rattle.sync_rules.specs.Steps.{Step}
use Rattle.sync_rules.specs.SafeSync.{commits, nothing, IsAsked, Goes}
use Rattle.sync_rules.specs.Calls.{Call, Called, CallGoes, CallStep, called_at, not_called}

-- streams that restart: their generations are nobody's but this project's
abbrev pub restarting : StreamId → ConfStream
restarting id = record (configured id) { sync = FullRefresh; dest = Overwrite }

abbrev pub only_a : List ConfStream
only_a = configured a ∷ []

-- What a text of one byte is: 1 a record of `a`, 2 a state of `a`, 3 the same with a count of 3, 4 a state of all streams, 5 a state
-- without a kind, 6 a record of `b`, 7 a state of all streams with a count of 2.
abbrev pub state_told : ℕ → StateKind → Option ℕ → Option Message
state_told object own count = Some (message.State (record { object = object ∷ []; kind = own; source_count = count }))

abbrev pub record_told : StreamId → Option Message
record_told id = Some (message.Rec (record { id = id; body = []; emitted_at = 1; meta = None }))

abbrev pub told : ℕ → Option Message
told byte =
    if byte == 1 then record_told a
    else (if byte == 2 then state_told 2 (kind.Stream a None) None
    else (if byte == 3 then state_told 3 (kind.Stream a None) (Some 3)
    else (if byte == 4 then state_told 4 (kind.Global None []) None
    else (if byte == 5 then state_told 5 kind.Legacy None
    else (if byte == 6 then record_told b
    else (if byte == 7 then state_told 7 (kind.Global None []) (Some 2) else None))))))

abbrev pub tell : Reading
tell [] = None
tell (byte ∷ rest) = told byte

abbrev pub lines : List (List ℕ) → List Line
lines texts = lines_read tell texts

-- sets with `a` alone, and with `a` and `b`
abbrev pub held_a : ℕ → Option (List ℕ) → Saved
held_a generation state = record { entries = record { id = a; generation = generation; state = state } ∷ []; global = None }

abbrev pub held_both : Option (List ℕ) → Option (List ℕ) → Saved
held_both first second =
    record { entries = record { id = a; generation = 0; state = first } ∷ record { id = b; generation = 0; state = second } ∷ []; global = None }

-- a set with `a`, and a state of all streams
abbrev pub held_all : List ℕ → Saved
held_all state = record { entries = record { id = a; generation = 0; state = None } ∷ []; global = Some state }

abbrev pub gen : ℕ → Gen
gen generation = record { generation = generation; minimum = generation }

-- `a` as a catalog has it, of which each entry is an object, and the catalog's text with generation 0
abbrev pub written_a : List ConfStream
written_a = record (configured a) { raw_entry = codes "{}" } ∷ []

abbrev pub catalog_text : List ℕ
catalog_text = codes "{\"streams\":[{\"generation_id\":0,\"minimum_generation_id\":0}]}"

-- the attempt of this number, with these states
abbrev pub plan_of : ℕ → List ℕ → AttemptPlan
plan_of number listed = record { number = number; job = job.Local; store = []; catalog = catalog_text; states = listed }

-- an attempt that was started with a set and has done this, and what it owes
abbrev pub stands : Saved → List Event → Option LaneState → Sync
stands set events owed = record { set = set; previous = set; is_begun = false; owed = owed; attempt = Some (record { start = set; events = events }) }

-- it stands so behind a beginning of the next attempt
abbrev pub begun_again : Saved → Saved → List Event → Sync
begun_again start set events =
    record { set = set; previous = start; is_begun = true; owed = None; attempt = Some (record { start = start; events = events ++ event.Saved (store_text set) ∷ [] }) }

abbrev pub by_signal : Codes
by_signal = record { source = Some Signal; dest = None }

abbrev pub failed : Codes
failed = record { source = Some (Code 1); dest = None }

-- A record and a state of `a` were read and given, and the state came back; then the attempt died.
abbrev pub state_back : List Event
state_back = event.ReadLine (1 ∷ []) ∷ event.ReadLine (2 ∷ []) ∷ event.Given (1 ∷ []) ∷ event.Given (2 ∷ []) ∷ event.Got (2 ∷ []) ∷ []

abbrev pub died : List Event
died = state_back ++ event.Ended by_signal ∷ []

abbrev pub taken_a : LaneState
taken_a = record { lane = one a; state = record { object = 2 ∷ []; kind = kind.Stream a None; source_count = None }; before = line_read tell (1 ∷ []) ∷ [] }

abbrev pub taken_all : LaneState
taken_all = record { lane = all; state = record { object = 4 ∷ []; kind = kind.Global None []; source_count = None }; before = [] }

-- the record of `a`, and its row committed among what the attempt does
abbrev pub entry_a : Entry
entry_a = record { seq = 0; content = record { id = a; body = []; emitted_at = 1; meta = None } }

abbrev pub with_row : RawRow → List Event
with_row row =
    event.ReadLine (1 ∷ []) ∷ event.ReadLine (2 ∷ []) ∷ event.Given (1 ∷ []) ∷ event.Given (2 ∷ []) ∷ event.Opened 1 1 (plan_of_a 0 0 false ∷ []) ∷ event.Took (1 ∷ [])
    ∷ event.Committed 0 (row ∷ []) ∷ event.Got (2 ∷ []) ∷ []

-- `tell` is a reading of these examples alone, so what is asked of it stands here in plain: nothing is asked beside of a state that is put.
abbrev pub Fits : List ConfStream → Sync → Event → Sync → Type 0
Fits streams sync event now = Step streams tell (λ state. Unit {0}) sync event now

abbrev pub FitsNowhere : List ConfStream → Sync → Event → Type 0
FitsNowhere streams sync event = (now : Sync) → ¬ Fits streams sync event now

pub record GenerationsAsWorked : Type 0 where
  pub restarts_a : restarts (restarting a) ≡ true
  pub goes_on : restarts (configured a) ≡ false
  pub resumes : restarts (record (restarting a) { resumable = true; generation = Some 5 }) ≡ false
  -- resumable, and nobody tells its generation
  pub untold_restarts : restarts (record (restarting a) { resumable = true }) ≡ true
  -- a stream that restarts: first, then one above the last, or the catalog's where that is greater
  pub first : gen_of nothing_saved (restarting a) ≡ Some (gen 0)
  pub next : gen_of (held_a 0 None) (restarting a) ≡ Some (gen 1)
  pub told_greater : gen_of (held_a 0 None) (record (restarting a) { generation = Some 7 }) ≡ Some (gen 7)
  pub last : gen_of (held_a (2 ^ 62 - 1) None) (restarting a) ≡ Some (gen (2 ^ 62))
  pub spent : gen_of (held_a (2 ^ 62) None) (restarting a) ≡ None
  pub second_spent : first_spent (held_both None None) (configured a ∷ record (restarting b) { generation = Some (2 ^ 62 + 1) } ∷ []) ≡ Some 1
  pub other : gen_of (held_a 3 None) (record (configured a) { generation = Some 2; minimum = 1 }) ≡ Some (record { generation = 2; minimum = 1 })

pub record BreachesAsWorked : Type 0 where
  -- two records of `a`, and a state that tells 3
  pub miscount : breach_of (a ∷ []) nothing_saved (lines ((1 ∷ []) ∷ (1 ∷ []) ∷ [])) (line_read tell (3 ∷ [])) ≡ Some (breach.Miscount 3 2)
  pub right_count : breach_of (a ∷ []) nothing_saved (lines ((1 ∷ []) ∷ (1 ∷ []) ∷ (1 ∷ []) ∷ [])) (line_read tell (3 ∷ [])) ≡ None
  -- the count begins anew behind a state of the lane
  pub counted_anew : breach_of (a ∷ []) nothing_saved (lines ((1 ∷ []) ∷ (2 ∷ []) ∷ (1 ∷ []) ∷ [])) (line_read tell (3 ∷ [])) ≡ Some (breach.Miscount 3 1)
  -- a state of a stream, then one of all streams; and one behind a set that has a state of a stream
  pub mixed : breach_of (a ∷ []) nothing_saved (lines ((2 ∷ []) ∷ [])) (line_read tell (4 ∷ [])) ≡ Some breach.Mixed
  pub mixed_with_saved : breach_of (a ∷ []) (held_a 0 (Some (2 ∷ []))) [] (line_read tell (4 ∷ [])) ≡ Some breach.Mixed
  pub alone : breach_of (a ∷ []) (held_a 0 None) [] (line_read tell (4 ∷ [])) ≡ None
  -- a state of all streams counts the records of each
  pub counted_all : breach_of (a ∷ b ∷ []) nothing_saved (lines ((1 ∷ []) ∷ (6 ∷ []) ∷ (1 ∷ []) ∷ [])) (line_read tell (7 ∷ [])) ≡ Some (breach.Miscount 2 3)
  pub counted_both : breach_of (a ∷ b ∷ []) nothing_saved (lines ((1 ∷ []) ∷ (6 ∷ []) ∷ [])) (line_read tell (7 ∷ [])) ≡ None
  pub legacy : breach_of (a ∷ []) nothing_saved [] (line_read tell (5 ∷ [])) ≡ Some breach.Legacy
  pub unknown : breach_of (a ∷ []) nothing_saved (lines ((1 ∷ []) ∷ [])) (line_read tell (6 ∷ [])) ≡ Some breach.UnknownStream
  -- what is no message is no breach
  pub no_message : breach_of (a ∷ []) nothing_saved [] (line_read tell (99 ∷ [])) ≡ None

pub record SyncsAsWorked : Type 0 where
  -- A state comes back and is owed; the attempt dies, and the next one begins with generation 1, which drops the state.
  pub leads : Goes (restarting a ∷ []) tell nothing [] (stands (held_a 0 None) [] None) (died ++ event.Saved (store_text (held_a 1 None)) ∷ []) (begun_again (held_a 0 None) (held_a 1 None) died)
  -- .. and the state is not put back then: whatever is saved, it is a set without it, as one more beginning leaves it
  pub dropped_stays : (text : List ℕ) (now : Sync) → Fits (restarting a ∷ []) (begun_again (held_a 0 None) (held_a 1 None) died) (event.Saved text) now → now.set ≡ held_a 2 None
  -- while it is owed it is put, once
  pub put_once : Fits only_a (stands (held_a 0 None) state_back (Some taken_a)) (event.Saved (store_text (held_a 0 (Some (2 ∷ [])))))
      (record { set = held_a 0 (Some (2 ∷ [])); previous = held_a 0 None; is_begun = true; owed = None; attempt = Some (record { start = held_a 0 None; events = state_back ++ event.Saved (store_text (held_a 0 (Some (2 ∷ [])))) ∷ [] }) })
  -- a line does not come back while something is owed
  pub saved_first : FitsNowhere only_a (stands (held_a 0 None) state_back (Some taken_a)) (event.Got (2 ∷ []))
  -- nothing is given behind the end of an attempt whose source failed; what a store does there is told
  pub behind_end : FitsNowhere only_a (stands (held_a 0 None) (event.ReadEnd ∷ event.Ended failed ∷ []) None) (event.Given (completion a))
  pub stores_own : Fits only_a (stands (held_a 0 None) (event.ReadEnd ∷ event.Ended failed ∷ []) None) event.TookEnd (stands (held_a 0 None) (event.ReadEnd ∷ event.Ended failed ∷ []) None)
  -- a completion before that, and none before the output has ended
  pub completes : Fits only_a (stands (held_a 0 None) (event.ReadEnd ∷ []) None) (event.Given (completion a)) (stands (held_a 0 None) (event.ReadEnd ∷ event.Given (completion a) ∷ []) None)
  pub too_early : FitsNowhere only_a (stands (held_a 0 None) [] None) (event.Given (completion a))
  -- with it the attempt does not end but with code 0
  pub not_failed : FitsNowhere only_a (stands (held_a 0 None) (event.ReadEnd ∷ event.Given (completion a) ∷ []) None) (event.Ended failed)
  -- two records and a state with count 3: from then on not even the records are given
  pub refused_line : FitsNowhere only_a (stands (held_a 0 None) (event.ReadLine (1 ∷ []) ∷ event.ReadLine (1 ∷ []) ∷ event.ReadLine (3 ∷ []) ∷ []) None) (event.Given (1 ∷ []))
  pub before_it : Fits only_a (stands (held_a 0 None) (event.ReadLine (1 ∷ []) ∷ event.ReadLine (1 ∷ []) ∷ []) None) (event.Given (1 ∷ []))
      (stands (held_a 0 None) (event.ReadLine (1 ∷ []) ∷ event.ReadLine (1 ∷ []) ∷ event.Given (1 ∷ []) ∷ []) None)
  -- a line that is no message is not given
  pub log_line : FitsNowhere only_a (stands (held_a 0 None) (event.ReadLine (99 ∷ []) ∷ []) None) (event.Given (99 ∷ []))
  -- Where the generations are no more those that the attempt was started with, nothing is put.
  pub other_generation : (text : List ℕ) (now : Sync) → Fits (restarting a ∷ []) (record (stands (held_a 0 None) state_back (Some taken_a)) { set = held_a 1 None }) (event.Saved text) now → now.set ≡ held_a 2 None
  -- a state is not put while its record is not committed
  pub uncommitted : (plan : AttemptPlan) (text : List ℕ) (now : Sync)
      → Step only_a tell (IsAsked only_a commits (event.Started plan ∷ state_back)) (stands (held_a 0 None) state_back (Some taken_a)) (event.Saved text) now → now.set ≡ held_a 0 None
  -- a state of all streams is not put beside one of a stream
  pub other_kind : (text : List ℕ) (now : Sync) → Fits only_a (stands (held_a 0 (Some (2 ∷ []))) [] (Some taken_all)) (event.Saved text) now → now.set ≡ held_a 0 (Some (2 ∷ []))
  -- a put of `a` does not lose `b`, whatever text stands there
  pub keeps_b : (text : List ℕ) (now : Sync) → Fits both_streams (stands (held_both None (Some (7 ∷ []))) state_back (Some taken_a)) (event.Saved text) now → state_of now.set.entries b ≡ Some (7 ∷ [])
  -- The next attempt goes on from the saved set; without states it does not, nor where no set was saved for it.
  pub goes_on : Fits written_a (begun_again (held_a 0 (Some (2 ∷ []))) (held_a 0 (Some (2 ∷ []))) died) (event.Started (plan_of 2 (91 ∷ 2 ∷ 93 ∷ []))) (stands (held_a 0 (Some (2 ∷ []))) [] None)
  pub without_states : FitsNowhere written_a (begun_again (held_a 0 (Some (2 ∷ []))) (held_a 0 (Some (2 ∷ []))) died) (event.Started (plan_of 2 (codes "[]")))
  pub not_begun : FitsNowhere written_a (stands (held_a 0 (Some (2 ∷ []))) died None) (event.Started (plan_of 2 (91 ∷ 2 ∷ 93 ∷ [])))
  -- a first attempt of a stream that restarts begins with generation 0; where its generations are spent nothing more is saved
  pub first_begin : Fits (restarting a ∷ []) no_sync (event.Saved (store_text (held_a 0 None))) (record { set = held_a 0 None; previous = nothing_saved; is_begun = true; owed = None; attempt = None })
  pub spent : (text : List ℕ) → FitsNowhere (restarting a ∷ []) (stands (held_a (2 ^ 62) None) [] None) (event.Saved text)
  -- what is saved of a stream that is not configured stays
  pub keeps_outside : (text : List ℕ) (now : Sync) → Fits only_a (stands (held_both None (Some (7 ∷ []))) [] None) (event.Saved text) now → now.set ≡ held_both None (Some (7 ∷ []))
  -- a state of all streams is put
  pub put_for_all : Fits only_a (stands (held_a 0 None) (event.ReadLine (4 ∷ []) ∷ []) (Some taken_all)) (event.Saved (store_text (held_all (4 ∷ []))))
      (record { set = held_all (4 ∷ []); previous = held_a 0 None; is_begun = true; owed = None; attempt = Some (record { start = held_a 0 None; events = event.ReadLine (4 ∷ []) ∷ event.Saved (store_text (held_all (4 ∷ []))) ∷ [] }) })
  -- a state that only an older attempt was given takes nothing, nor does one that comes back twice
  pub old_state : (now : Sync) → Fits only_a (stands (held_a 0 None) [] None) (event.Got (2 ∷ [])) now → now.owed ≡ None
  pub back_twice : (now : Sync) → Fits only_a (stands (held_a 0 (Some (2 ∷ []))) state_back None) (event.Got (2 ∷ [])) now → now.owed ≡ None
  -- a state is put where the row of the record before it, whatever that is, stands committed
  pub committed : (row : RawRow) → IsRowOf only_a (record { load = 1; moment = 1; plan = plan_of_a 0 0 false ∷ [] }) 0 entry_a row
      → Step only_a tell (IsAsked only_a commits (event.Started (plan_of 1 (codes "[]")) ∷ with_row row)) (stands (held_a 0 None) state_back (Some taken_a)) (event.Saved (store_text (held_a 0 (Some (2 ∷ [])))))
      (record { set = held_a 0 (Some (2 ∷ [])); previous = held_a 0 None; is_begun = true; owed = None; attempt = Some (record { start = held_a 0 None; events = state_back ++ event.Saved (store_text (held_a 0 (Some (2 ∷ [])))) ∷ [] }) })

-- a call of at most two attempts
abbrev pub call : Call
call = record { job = job.Local; store = []; limit = 2 }

abbrev pub has_called : ℕ → ℕ → Called
has_called begun number = record { begun = begun; number = number }

abbrev pub saved_a : Option (List ℕ) → Event
saved_a state = event.Saved (store_text (held_a 0 state))

-- Two attempts from an empty store: a record and a state of `a` are read and given, the state comes back and is saved, the attempt dies,
-- and the next one goes on from there.
abbrev pub first_attempt : List Event
first_attempt = state_back ++ saved_a (Some (2 ∷ [])) ∷ event.Ended by_signal ∷ []

abbrev pub two_attempts : List Event
two_attempts =
    saved_a None ∷ event.Started (plan_of 1 (codes "[]")) ∷ (first_attempt ++ saved_a (Some (2 ∷ [])) ∷ event.Started (plan_of 2 (91 ∷ 2 ∷ 93 ∷ [])) ∷ [])

pub record CallsAsWorked : Type 0 where
  pub two : CallGoes call written_a tell nothing [] (called_at no_sync) two_attempts (record { called = has_called 2 2; sync = stands (held_a 0 (Some (2 ∷ []))) [] None })
  -- Behind a line that took a state nothing is saved but the set with it; before the call's first attempt it is not put.
  pub owed_is_put : (text : List ℕ) (now : Sync) → CallStep call only_a (has_called 1 1) (stands (held_a 0 None) state_back (Some taken_a)) (event.Saved text) now → now.set ≡ held_a 0 (Some (2 ∷ []))
  pub old_is_left : (text : List ℕ) (now : Sync) → CallStep call only_a not_called (stands (held_a 0 None) state_back (Some taken_a)) (event.Saved text) now → now.set ≡ held_a 0 None
  -- the next attempt is not started before that
  pub owed_first : (plan : AttemptPlan) (now : Sync) → ¬ CallStep call only_a (has_called 2 1) (stands (held_a 0 None) died (Some taken_a)) (event.Started plan) now
  -- the number of an attempt is how many were begun, and within the limit
  pub second : CallStep call written_a (has_called 2 1) (begun_again (held_a 0 None) (held_a 0 None) died) (event.Started (plan_of 2 (codes "[]"))) (stands (held_a 0 None) [] None)
  pub anew : (now : Sync) → ¬ CallStep call written_a (has_called 2 1) (begun_again (held_a 0 None) (held_a 0 None) died) (event.Started (plan_of 1 (codes "[]"))) now
  pub one_more : (now : Sync) → ¬ CallStep call written_a (has_called 1 0) (begun_again (held_a 0 None) (held_a 0 None) died) (event.Started (plan_of 2 (codes "[]"))) now
  pub beyond : (now : Sync) → ¬ CallStep call written_a (has_called 3 2) (begun_again (held_a 0 None) (held_a 0 None) died) (event.Started (plan_of 3 (codes "[]"))) now
  -- no line is read in an attempt of an older call
  pub older : (now : Sync) → ¬ CallStep call only_a not_called (stands (held_a 0 None) [] None) (event.ReadLine (1 ∷ [])) now
