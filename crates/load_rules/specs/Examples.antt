-- Runs of the machine and traces of a store that were worked by hand.
use Rattle.std.specs.Prelude.{◌≡◌, ℕ, List, [], ◌∷◌, ◌++◌, map, filter_map, Bool, true, false, None, Some}
use Rattle.basics.specs.declared.stream.StreamId.{StreamId}
use Rattle.outside.specs.declared.event.Event.{Event}
use Rattle.outside.specs.declared.event.Event.TheVariants as event
use Rattle.outside.specs.declared.event.RawRow.{RawRow}
use Rattle.outside.specs.declared.event.StreamPlan.{StreamPlan}
use Rattle.outside.specs.declared.load.Marks.{Marks}
use Rattle.outside.specs.Tables.{tables_of, table_in, row_of}
use Rattle.airbyte_message.specs.declared.message.Message.TheVariants as message
use Rattle.airbyte_message.specs.declared.message.StateKind.{StateKind}
use Rattle.airbyte_message.specs.declared.message.StateKind.TheVariants as kind
use Rattle.catalog.specs.declared.stream.ConfStream.{ConfStream}
use Rattle.catalog.specs.declared.modes.DestMode.TheVariants.{Append}
use Rattle.catalog.specs.declared.modes.SyncMode.TheVariants.{Incremental}
use Rattle.airbyte_message.specs.Lanes.{one}
use Rattle.airbyte_message.specs.declared.message.TraceMsg.TheVariants as trace
use Rattle.airbyte_message.specs.declared.stream_status.StreamStatus.{StreamStatus}
use Rattle.airbyte_message.specs.declared.stream_status.StreamStatus.TheVariants.{Running, Complete}
use Rattle.load_rules.specs.Lines.{Line, Reading}
use Rattle.load_rules.specs.Taken.{LaneState, count_of}
use Rattle.load_rules.specs.Acts.{Act, Takes, Commits, Echoes, committed, state_echoed}
use Rattle.load_rules.specs.SafeDest.{EchoFits}
use Rattle.load_rules.specs.Finished.{IsFinished, IsIncomplete}
use Rattle.load_rules.specs.Machine.{Step, Accept, Seal, HandOut, Commit, TakeBack, Release, start, run}
use Rattle.load_rules.specs.Marks.{marks_of}
use Rattle.load_rules.specs.Stores.{IsStoreRun}

-- the streams `a` and `b`
abbrev pub a : StreamId
a = record { name = 97 ∷ []; namespace = None }

abbrev pub b : StreamId
b = record { name = 98 ∷ []; namespace = None }

abbrev pub configured : StreamId → ConfStream
configured id = record { id = id; sync = Incremental; dest = Append; cursor = None; key = []; generation = None; minimum = 0; sync_id = None; resumable = false; schema = []; raw_entry = [] }

abbrev pub both_streams : List ConfStream
both_streams = configured a ∷ configured b ∷ []

abbrev pub record_of : StreamId → Line
record_of id = record { text = []; found = Some (message.Rec (record { id = id; body = []; emitted_at = 1; meta = None })) }

-- the object of a state stands for itself: this number
abbrev pub state_line : ℕ → StateKind → Line
state_line number own = record { text = []; found = Some (message.State (record { object = number ∷ []; kind = own; source_count = None })) }

abbrev pub state_of_a : ℕ → Line
state_of_a number = state_line number (kind.Stream a None)

abbrev pub row_at : ℕ → ℕ → ℕ → RawRow
row_at load generation seq = record { load = load; seq = seq; generation = generation; extracted_at = 1; loaded_at = 1; raw_id = []; key = []; cursor = []; body = []; columns = []; meta = [] }

abbrev pub rows_at : List ℕ → List RawRow
rows_at seqs = map (row_at 1 0) seqs

-- what was echoed: the object and the count of each
pub record Echoed : Type 0 where
  pub object : List ℕ
  pub count : ℕ

abbrev pub echo_shown : LaneState → Echoed
echo_shown state = record { object = state.state.object; count = count_of state }

abbrev pub echoes_behind : List Step → List Echoed
echoes_behind steps = map echo_shown (filter_map state_echoed (run both_streams steps start).acts)

abbrev pub echo : ℕ → ℕ → Echoed
echo number count = record { object = number ∷ []; count = count }

-- Records 0 and 1 of `a`, a state, record 2, a state; the batches {0, 1} and {2} are handed out, and {2} is committed first.
abbrev pub second_first : List Step
second_first =
    Accept (record_of a) ∷ Accept (record_of a) ∷ Accept (state_of_a 1) ∷ Accept (record_of a) ∷ Accept (state_of_a 2)
    ∷ Seal a 3 ∷ HandOut a 2 0 ∷ HandOut a 1 1 ∷ Commit 0 a 1 (rows_at (2 ∷ [])) ∷ Release ∷ []

-- A state of all streams behind record 0 of `a` and record 1 of `b`; record 0 is committed.
abbrev pub one_of_two : List Step
one_of_two =
    Accept (record_of a) ∷ Accept (record_of b) ∷ Accept (state_line 1 (kind.Global None []))
    ∷ Seal a 1 ∷ Seal b 1 ∷ HandOut a 1 0 ∷ HandOut b 1 1 ∷ Commit 0 a 0 (rows_at (0 ∷ [])) ∷ Release ∷ []

pub record RunsAsWorked : Type 0 where
  -- nothing is emitted behind the second batch alone; behind both the two states in their order, each with its own count
  pub waits_for_first : echoes_behind second_first ≡ []
  pub in_order : echoes_behind (second_first ++ Commit 0 a 0 (rows_at (0 ∷ 1 ∷ [])) ∷ Release ∷ Release ∷ Release ∷ []) ≡ echo 1 2 ∷ echo 2 1 ∷ []
  -- rows out of order, one row more, a batch that is not out, and a number of another stream commit nothing
  pub out_of_order : echoes_behind (second_first ++ Commit 0 a 0 (rows_at (1 ∷ 0 ∷ [])) ∷ Release ∷ []) ≡ []
  pub one_more : echoes_behind (second_first ++ Commit 0 a 0 (rows_at (0 ∷ 1 ∷ 3 ∷ [])) ∷ Release ∷ []) ≡ []
  pub taken_back : echoes_behind (second_first ++ TakeBack a 0 ∷ Commit 0 a 0 (rows_at (0 ∷ 1 ∷ [])) ∷ Release ∷ []) ≡ []
  pub other_number : echoes_behind (second_first ++ Commit 1 a 0 (rows_at (0 ∷ 1 ∷ [])) ∷ Release ∷ []) ≡ []
  -- a batch that is committed is out no more
  pub once : committed (run both_streams (second_first ++ Commit 0 a 1 (rows_at (2 ∷ [])) ∷ []) start).acts ≡ 2 ∷ []
  -- a state of all streams waits for both
  pub waits_for_both : echoes_behind one_of_two ≡ []
  pub covers_both : echoes_behind (one_of_two ++ Commit 1 b 1 (rows_at (1 ∷ [])) ∷ Release ∷ []) ≡ echo 1 2 ∷ []

-- A record of `a`, and two states of it
abbrev pub state_behind : ℕ → List Line → LaneState
state_behind number before = record { lane = one a; state = record { object = number ∷ []; kind = kind.Stream a None; source_count = None }; before = before }

abbrev pub first_state : LaneState
first_state = state_behind 1 (record_of a ∷ [])

abbrev pub second_state : LaneState
second_state = state_behind 2 (record_of a ∷ state_of_a 1 ∷ [])

abbrev pub three_taken : List Act
three_taken = Takes (record_of a) ∷ Takes (state_of_a 1) ∷ Takes (state_of_a 2) ∷ []

abbrev pub then_committed : List Act
then_committed = three_taken ++ Commits 0 (rows_at (0 ∷ [])) ∷ []

pub record EchoesAsWorked : Type 0 where
  pub behind_its_records : EchoFits then_committed first_state
  pub early : ¬ EchoFits three_taken first_state
  pub skipped : ¬ EchoFits then_committed second_state
  pub twice : ¬ EchoFits (then_committed ++ Echoes first_state ∷ []) first_state
  pub then_next : EchoFits (then_committed ++ Echoes first_state ∷ []) second_state

abbrev pub plan_of_a : ℕ → ℕ → Bool → StreamPlan
plan_of_a generation minimum hidden = record { id = a; dedup = false; generation = generation; minimum = minimum; hidden = hidden }

-- A load that takes one line and ends, where that line tells a status of `a`
abbrev pub tells : StreamStatus → Reading
tells status = λ text. Some (message.Trace (trace.Status a status None))

abbrev pub one_status : List Event
one_status = event.Opened 1 1 (plan_of_a 0 0 false ∷ []) ∷ event.Took [] ∷ event.TookEnd ∷ []

pub record EndsAsWorked : Type 0 where
  pub complete : IsFinished (configured a ∷ []) (tells Complete) one_status
  pub running : IsIncomplete (configured a ∷ []) (tells Running) one_status 0
  -- `a` is complete, and of `b` nothing was told
  pub second : IsIncomplete both_streams (tells Complete) one_status 1
  pub not_first : ¬ IsIncomplete both_streams (tells Complete) one_status 0
  -- where neither is complete the first is named
  pub not_second : ¬ IsIncomplete both_streams (tells Running) one_status 1
  pub no_end : ¬ IsFinished (configured a ∷ []) (tells Complete) (event.Opened 1 1 (plan_of_a 0 0 false ∷ []) ∷ event.Took [] ∷ [])

-- Loads 1 and 2 of `a`, each with sequence 0
abbrev pub two_loads : List Event
two_loads =
    event.Opened 1 1 (plan_of_a 0 0 false ∷ []) ∷ event.Committed 0 (row_at 1 0 0 ∷ [])
    ∷ event.Opened 2 1 (plan_of_a 0 0 false ∷ []) ∷ event.Committed 0 (row_at 2 0 0 ∷ []) ∷ []

-- A store with rows of generation 1; a hidden load of generation 2 commits one row and dies, and the next one is shown.
abbrev pub first_hidden : List Event
first_hidden =
    event.Opened 1 1 (plan_of_a 1 0 false ∷ []) ∷ event.Committed 0 (row_at 1 1 0 ∷ [])
    ∷ event.Opened 2 1 (plan_of_a 2 2 true ∷ []) ∷ event.Committed 0 (row_at 2 2 0 ∷ []) ∷ []

abbrev pub then_shown : List Event
then_shown = first_hidden ++ event.Opened 3 1 (plan_of_a 2 2 true ∷ []) ∷ event.Committed 0 (row_at 3 2 0 ∷ []) ∷ event.Shown 0 2 2 ∷ []

abbrev pub marks_as : ℕ → ℕ → ℕ → Marks
marks_as floor top greatest = record { floor = floor; top = Some top; greatest = Some greatest }

abbrev pub rows_of_a : List Event → List RawRow
rows_of_a trace = map row_of (table_in (tables_of trace).streams a).rows

pub record StoresAsWorked : Type 0 where
  -- each load numbers its records from 0; within one load a sequence stands once
  pub two_loads_fit : IsStoreRun two_loads
  pub twice_in_one : ¬ IsStoreRun (two_loads ++ event.Committed 0 (row_at 2 0 0 ∷ []) ∷ [])
  pub twice_in_commit : ¬ IsStoreRun (event.Opened 1 1 (plan_of_a 0 0 false ∷ []) ∷ event.Committed 0 (row_at 1 0 0 ∷ row_at 1 0 0 ∷ []) ∷ [])
  pub load_again : ¬ IsStoreRun (two_loads ++ event.Opened 2 1 (plan_of_a 0 0 false ∷ []) ∷ [])
  pub stream_twice : ¬ IsStoreRun (event.Opened 1 1 (plan_of_a 0 0 false ∷ plan_of_a 0 0 false ∷ []) ∷ [])
  pub row_of_other_load : ¬ IsStoreRun (two_loads ++ event.Committed 0 (row_at 1 0 1 ∷ []) ∷ [])
  -- old rows are seen until the hidden ones are shown, and then are gone
  pub hidden_fits : IsStoreRun then_shown
  pub still_old : marks_of first_hidden a ≡ marks_as 0 1 2
  pub now_shown : marks_of then_shown a ≡ marks_as 2 2 2
  pub old_gone : rows_of_a then_shown ≡ row_at 2 2 0 ∷ row_at 3 2 0 ∷ []
  -- shown once in a load, and not where nothing is hidden
  pub shown_twice : ¬ IsStoreRun (then_shown ++ event.Shown 0 2 2 ∷ [])
  pub shown_unhidden : ¬ IsStoreRun (two_loads ++ event.Shown 0 0 0 ∷ [])
  -- a minimum above the floor is hidden, and no other
  pub unhidden_above : ¬ IsStoreRun (event.Opened 1 1 (plan_of_a 1 1 false ∷ []) ∷ [])
  pub at_the_floor : IsStoreRun (then_shown ++ event.Opened 4 1 (plan_of_a 3 2 false ∷ []) ∷ [])
  pub hidden_below : ¬ IsStoreRun (event.Opened 1 1 (plan_of_a 1 0 true ∷ []) ∷ [])
