-- A link that plays scripts: what it holds, and what each call leaves.
use Rattle.std.specs.Prelude.{◌≡◌, ◌⊎◌, ℕ, ◌+◌, ◌-◌, ◌^◌, min, List, [], ◌∷◌, map, Bool, true, false, ◌&&◌, is_some, if◌then◌else◌, Contains, Option, None, Some, Result, Ok, Err}
use Rattle.outside.specs.Event.{got_over, read_over, stored}
use Rattle.outside.specs.Link.{Seen, kind_of, no_codes, stopped_face}
use Rattle.outside.specs.declared.event.Codes.{Codes}
use Rattle.outside.specs.declared.event.AttemptPlan.{AttemptPlan}
use Rattle.outside.specs.declared.event.Event.{Event}
use Rattle.outside.specs.declared.event.Event.TheVariants as event
use Rattle.outside.specs.declared.event.Exit.{Exit}
use Rattle.outside.specs.declared.fault.Fault.{Fault}
use Rattle.outside.specs.declared.fault.Fault.TheVariants as fault
use Rattle.outside.specs.declared.link.LinkCounts.{LinkCounts}
use Rattle.outside.specs.declared.link.LinkFace.{LinkFace}
use Rattle.outside.specs.declared.link.Offered.{Offered}
use Rattle.outside.specs.declared.link.Offered.TheVariants as offered
use Rattle.outside.specs.declared.link.Polled.{Polled}
use Rattle.outside.specs.declared.link.Polled.TheVariants as polled
use Rattle.outside.specs.declared.link.PollKind.TheVariants as kind
use Rattle.outside_mem.specs.Calls.{Calls, call_made, first_calls, next_call}
use Rattle.script_link.specs.Answers.{Answers, first_answers, left_behind, next_of, no_answers}
use Rattle.script_link.specs.Trace.{ToldEvent, at_first, events_in, no_counts, with_event}
use Rattle.script_link.specs.declared.script_link.Script.{Script}

-- what contracts see of the link
pub record LinkState : Type 0 where
  pub trace : List ToldEvent
  pub counts : LinkCounts
  pub face : LinkFace
  -- the scripts that were not started yet
  pub scripts : List Script
  -- what is left of the one that runs
  pub source : Answers
  pub dest : Answers
  pub codes : Codes
  -- the calls that can fail
  pub calls : Calls

-- what it tells: all of it
abbrev pub seen_of : LinkState → Seen
seen_of state = record { trace = Some state.trace; counts = state.counts; face = state.face }

abbrev pub first_face : LinkFace
first_face = record { running = false; input_open = false; codes = no_codes; source_poll = kind.Other; dest_poll = kind.Other }

-- never started, behind events at which nothing was counted
abbrev pub first_state : List Event → List Script → List ℕ → LinkState
first_state events scripts fails = record {
  trace = map at_first events;
  counts = no_counts;
  face = first_face;
  scripts = scripts;
  source = no_answers;
  dest = no_answers;
  codes = no_codes;
  calls = first_calls fails;
}

-- ---- Calls that fail

-- the next call is to fail
abbrev pub Fails : LinkState → Type 0
Fails state = Contains state.calls.fails (next_call state.calls)

abbrev pub called : LinkState → LinkState
called state = record state { calls = call_made state.calls }

-- a count one higher; it stands still at its type's end
abbrev pub one_more : ℕ → ℕ
one_more count = min (count + 1) (2 ^ 64 - 1)

abbrev pub state_failed : LinkState → LinkState
state_failed state = record state { counts = record (state.counts) { state_faults = one_more state.counts.state_faults } }

abbrev pub link_failed : LinkState → LinkState
link_failed state = record state { counts = record (state.counts) { link_faults = one_more state.counts.link_faults } }

-- What a call leaves by its answer: where it is Ok it was not to fail, at Failed it was, and for want of memory it was not.
abbrev pub Goes : {T : Type 0} → Result T Fault → LinkState → LinkState → LinkState → LinkState → LinkState → Type 0
Goes (Ok value) old done failed unmade new = (¬ Fails old) × (new ≡ done)
Goes (Err fault.Failed) old done failed unmade new = Fails old × (new ≡ failed)
Goes (Err fault.NoMemory) old done failed unmade new = (¬ Fails old) × (new ≡ unmade)

-- ---- The trace

-- a link whose trace has grown by an event, with the counts as they are
abbrev pub noted : Event → LinkState → LinkState
noted event state = record state { trace = with_event (Some event) state.counts state.trace }

abbrev pub saved_text : LinkState → List ℕ
saved_text state = stored (events_in state.trace)

-- ---- Attempts

-- the first of these scripts, or an empty one
abbrev pub script_in : List Script → Script
script_in [] = record { source = []; dest = []; codes = no_codes }
script_in (script ∷ scripts) = script

abbrev pub others : List Script → List Script
others [] = []
others (script ∷ scripts) = scripts

-- no child runs, and nothing is known of any
abbrev pub unstarted : LinkState → LinkState
unstarted state = record state { face = record (state.face) { running = false; input_open = false; codes = no_codes }; source = no_answers; dest = no_answers; codes = no_codes }

-- the children of this script run
abbrev pub running : Script → LinkState → LinkState
running script state = record state {
  face = record { running = true; input_open = true; codes = no_codes; source_poll = kind.Other; dest_poll = kind.Other };
  source = first_answers script.source;
  dest = first_answers script.dest;
  codes = script.codes;
}

-- the children of the next script run, and it is taken
abbrev pub started : AttemptPlan → LinkState → LinkState
started plan state = record (running (script_in state.scripts) (noted (event.Started plan) state)) { scripts = others state.scripts }

abbrev pub shut : LinkState → LinkState
shut state = record state { face = record (state.face) { input_open = false } }

-- the code of a child that was given, or its script's once all answers of its output were given
abbrev pub known_exit : Option Exit → List Polled → Option Exit → Option Exit
known_exit (Some exit) left coming = Some exit
known_exit None [] coming = coming
known_exit None (answer ∷ left) coming = None

abbrev pub known_codes : LinkState → Codes
known_codes state = record { source = known_exit state.face.codes.source state.source.left state.codes.source; dest = known_exit state.face.codes.dest state.dest.left state.codes.dest }

abbrev pub stopped : LinkState → LinkState
stopped state = record state { face = stopped_face state.face }

-- the end of both children is told where they run
abbrev pub ended : LinkState → LinkState
ended state = if state.face.running then noted (event.Ended (known_codes state)) state else state

-- ---- Answers

-- what an answer of the source tells: a line, and the first end of the attempt
abbrev pub read_event : Polled → Bool → Option Event
read_event (polled.Line line) over = Some (event.ReadLine line)
read_event (polled.Torn line) over = Some (event.ReadLine line)
read_event polled.TooLong over = None
read_event polled.NotYet over = None
read_event polled.End over = if over then None else Some event.ReadEnd
read_event polled.Failed over = None
read_event polled.NoMemory over = None

-- so of the destination
abbrev pub got_event : Polled → Bool → Option Event
got_event (polled.Line line) over = Some (event.Got line)
got_event (polled.Torn line) over = Some (event.Got line)
got_event polled.TooLong over = None
got_event polled.NotYet over = None
got_event polled.End over = if over then None else Some event.GotEnd
got_event polled.Failed over = None
got_event polled.NoMemory over = None

-- what an answer of the source counts
abbrev pub read_counts : Polled → LinkCounts → LinkCounts
read_counts polled.NotYet counts = record counts { quiet_source = one_more counts.quiet_source }
read_counts polled.Failed counts = record counts { link_faults = one_more counts.link_faults }
read_counts (polled.Line line) counts = counts
read_counts (polled.Torn line) counts = counts
read_counts polled.TooLong counts = counts
read_counts polled.End counts = counts
read_counts polled.NoMemory counts = counts

abbrev pub got_counts : Polled → LinkCounts → LinkCounts
got_counts polled.NotYet counts = record counts { quiet_dest = one_more counts.quiet_dest }
got_counts polled.Failed counts = record counts { link_faults = one_more counts.link_faults }
got_counts (polled.Line line) counts = counts
got_counts (polled.Torn line) counts = counts
got_counts polled.TooLong counts = counts
got_counts polled.End counts = counts
got_counts polled.NoMemory counts = counts

-- a link that has given its next answer of the source
abbrev pub read_on : LinkState → LinkState
read_on state = record state {
  trace = with_event (read_event (next_of state.source) (read_over (events_in state.trace))) state.counts state.trace;
  counts = read_counts (next_of state.source) state.counts;
  source = left_behind state.source;
}

-- so of the destination
abbrev pub got_on : LinkState → LinkState
got_on state = record state {
  trace = with_event (got_event (next_of state.dest) (got_over (events_in state.trace))) state.counts state.trace;
  counts = got_counts (next_of state.dest) state.counts;
  dest = left_behind state.dest;
}

-- What a poll answers, where this is the next answer and that is left behind it, and what the poll notes of its answer: a call
-- that is to fail fails, and one that finds no memory leaves the answer for the next.
abbrev pub Plays : (Polled → LinkState → LinkState) → Polled → LinkState → LinkState → Polled → LinkState → Type 0
Plays asked next behind old answer new =
    (Fails old × (answer ≡ polled.Failed) × (new ≡ asked polled.Failed (link_failed (called old))))
    ⊎ ((¬ Fails old) × (answer ≡ next) × (new ≡ asked next behind))
    ⊎ ((¬ Fails old) × (answer ≡ polled.NoMemory) × (new ≡ asked polled.NoMemory (called old)))

-- nothing is noted
abbrev pub unasked : Polled → LinkState → LinkState
unasked answer state = state

-- the kind of the last poll is that of its answer
abbrev pub source_asked : Polled → LinkState → LinkState
source_asked answer state = record state { face = record (state.face) { source_poll = kind_of answer } }

abbrev pub dest_asked : Polled → LinkState → LinkState
dest_asked answer state = record state { face = record (state.face) { dest_poll = kind_of answer } }

-- a poll of the source
abbrev pub PlaysSource : (Polled → LinkState → LinkState) → LinkState → Polled → LinkState → Type 0
PlaysSource asked old answer new = Plays asked (next_of old.source) (read_on (called old)) old answer new

-- a poll of the destination
abbrev pub PlaysDest : (Polled → LinkState → LinkState) → LinkState → Polled → LinkState → Type 0
PlaysDest asked old answer new = Plays asked (next_of old.dest) (got_on (called old)) old answer new

-- an offer is taken unless it is to fail
abbrev pub Offers : Offered → List ℕ → LinkState → LinkState → Type 0
Offers offered.Taken line old new = (¬ Fails old) × (new ≡ noted (event.Given line) (called old))
Offers offered.NotYet line old new = ⊥
Offers offered.Failed line old new = Fails old × (new ≡ link_failed (called old))
Offers offered.NoMemory line old new = (¬ Fails old) × (new ≡ called old)

-- a look at the codes, which counts where one of them is unknown
abbrev pub codes_counted : Codes → LinkCounts → LinkCounts
codes_counted codes counts = if is_some codes.source && is_some codes.dest then counts else record counts { quiet_codes = one_more counts.quiet_codes }

-- the codes that are known are given
abbrev pub looked : LinkState → LinkState
looked state = record state { counts = codes_counted (known_codes state) state.counts; face = record (state.face) { codes = known_codes state } }

abbrev pub waited : LinkState → LinkState
waited state = record state { counts = record (state.counts) { waits = one_more state.counts.waits } }
