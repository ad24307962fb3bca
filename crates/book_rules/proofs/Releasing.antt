-- States that are released: each is a step of the machine.
use Rattle.std.proofs.Common.{arith, ◌≡◌, ◌⊎◌, inl, inr, ℕ, zero, suc, ◌+◌, ◌≤◌, List, [], ◌∷◌, ◌++◌, length, Option, None, Some, refl, sym, ◌∙◌, ap, subst, length-append}
use Rattle.std.specs.Prelude.{find, filter_map, option_map, option_to_list}
use Rattle.std.specs.List.{AllByRecursion, list_any}
use Rattle.std.proofs.lemmas.List.Elements.{filter_map-append}
use Rattle.basics.specs.Told.{told_more}
use Rattle.catalog.specs.declared.stream.ConfStream.{ConfStream}
use Rattle.stream_index.specs.Distinct.{AreDistinct}
use Rattle.airbyte_message.specs.Echo.{IsEcho}
use Rattle.airbyte_message.specs.Lanes as lanes
use Rattle.airbyte_message.specs.State.{State}
use Rattle.outside.specs.Dock.{DockSeen, dock_events}
use Rattle.outside.specs.declared.event.Event.{Event}
use Rattle.outside.specs.declared.event.Event.TheVariants.{Emitted}
use Rattle.outside.specs.declared.fault.Fault.{Fault}
use Rattle.outside.specs.declared.fault.Fault.TheVariants as fault
use Rattle.outside.specs.declared.status.Status.{Status}
use Rattle.outside.specs.declared.status.Status.TheVariants as status
use Rattle.book_queue.specs.Content.{Held, all_of}
use Rattle.state_gate.specs.Content.{Content, head_of, head_in, without_head}
use Rattle.state_gate.specs.Content as gate
use Rattle.state_gate.specs.Views.{GateView, Stands}
use Rattle.state_gate.specs.declared.pending.Pending.{Pending}
use Rattle.state_gate.specs.declared.pending.Waiting.{Waiting}
use Rattle.load_rules.specs.Acts.{Act, Echoes, taken, state_echoed}
use Rattle.load_rules.specs.Finished.{last_status}
use Rattle.load_rules.specs.Machine.{Machine, Step, Release, run, happens, releases, is_releasable, without_first}
use Rattle.load_rules.specs.Prefixes.{IsPrefix}
use Rattle.load_rules.specs.Taken.{LaneState, entries, since, count_of}
use Rattle.load_rules.proofs.Machines.{echo_done, echo_taken}
use Rattle.load_rules.proofs.SafeRuns.{runs_grow}
use Rattle.book_rules.specs.declared.answer.Tally.{Tally}
use Rattle.book_rules.specs.Books.{BrokeBy, CountsEchoes, IsBookOf, IsQuiet, IsReleasing, Tallied}
use Rattle.book_rules.specs.Holds.{AreWaiting, IsWaiting, is_end, still, lanes_among}
use Rattle.book_rules.specs.Releases.{Point, IsEchoOf, TakesHead, Released, ReleasesTo, ReleasesAll, StopsBy, stop_of, ReleasesSome}
use Rattle.book_rules.specs.Views.{BookView, ids}
use Rattle.book_rules.proofs.Acts.{Adds, Ran, ran_act, ran_still, ends_more, or_false}
use Rattle.book_rules.proofs.Heads.{FoundAlike, clear_is, found_alike, without_alike, rising_fronts, without_shorter}
use Rattle.book_rules.proofs.Lists.{all_append, none_is, none_some, some_is}
use Rattle.book_rules.proofs.Moves.{held_length}
use Rattle.book_rules.proofs.Whole.{IsWhole, Leads, leads_still, leads_on, whole_good, broken_counts, broken_of, whole_counts}

-- A gate that stands for the same

pub regated : (book : BookView) (m : Machine) (now : GateView) → ((content : Content) → Stands content book.gate → Stands content now) → now.streams ≡ book.gate.streams → now.next ≡ book.gate.next → now.states ≡ book.gate.states → IsWhole book m → IsWhole (record book { gate = now }) m
regated book m now keeps streams next states w = record {
  ran = w.ran;
  tallied = record { lines = w.tallied.lines; most = w.tallied.most; records = next ∙ w.tallied.records; lanes = w.tallied.lanes; emitted = w.tallied.emitted; ended = w.tallied.ended };
  holds = record {
    content = w.holds.content;
    gate = keeps w.holds.content w.holds.gate;
    uncommitted = w.holds.uncommitted;
    waiting = w.holds.waiting;
    as_many = w.holds.as_many;
    since_own = w.holds.since_own;
    since_all = w.holds.since_all;
    gate_streams = streams ∙ w.holds.gate_streams;
    gate_next = next ∙ w.holds.gate_next;
    gate_states = rw states w.holds.gate_states;
    states = rw states w.holds.states;
    held = w.holds.held;
    queue_streams = w.holds.queue_streams;
    queue_next = w.holds.queue_next;
    room = w.holds.room;
    slots = w.holds.slots;
    bytes = w.holds.bytes;
    batch = w.holds.batch;
    fresh = w.holds.fresh;
    parked = w.holds.parked;
    alike = w.holds.alike;
    few = w.holds.few;
    statuses_many = w.holds.statuses_many;
    statuses = w.holds.statuses;
  };
  whole = w.whole;
}

-- How many records are held

at_most_one : (parked : Option Held) → length (option_to_list parked) ≤ 1
at_most_one None = omega arith
at_most_one (Some one) = omega arith

pub few_held : (book : BookView) (m : Machine) → IsWhole book m → length (still m.placed) ≤ book.limits.slots + 1
few_held book m w =
    let same = held_length (ids book) (still m.placed) (all_of book.queue) w.holds.held in
    let long = length-append book.queue.held (option_to_list book.queue.parked) in
    let one = at_most_one book.queue.parked in
    let room = w.holds.room in
    omega (arith, same, long, one, room)

-- The head of the gate is the machine's

pub record Head (book : BookView) (m : Machine) (content : Content) (pending : Pending) : Type 0 where
  pub state : LaneState
  pub waiting : Waiting
  pub found : find (is_releasable m.acts) m.waiting ≡ Some state
  pub at : find (gate.is_clear content.uncommitted) content.waiting ≡ Some waiting
  pub is : IsWaiting (ids book) state waiting
  pub pending_is : waiting.pending ≡ pending

module _ (book : BookView) (m : Machine) (distinct : AreDistinct (ids book)) (w : IsWhole book m) where
  alike : (state : LaneState) (waiting : Waiting) → IsPrefix state.before (taken m.acts) → IsWaiting (ids book) state waiting → is_releasable m.acts state ≡ gate.is_clear w.holds.content.uncommitted waiting
  alike state waiting prefix waits = clear_is (ids book) m (all_of book.queue) state waiting distinct (whole_good book m w) w.holds.held prefix waits ∙ ap (λ records. gate.is_clear records waiting) (sym w.holds.uncommitted)

  fronts : AllByRecursion (λ state. IsPrefix state.before (taken m.acts)) m.waiting
  fronts = rising_fronts [] (taken m.acts) m.waiting (whole_good book m w).rising

  both_found : FoundAlike (ids book) (find (is_releasable m.acts) m.waiting) (find (gate.is_clear w.holds.content.uncommitted) w.holds.content.waiting)
  both_found = found_alike (ids book) (is_releasable m.acts) (gate.is_clear w.holds.content.uncommitted) (taken m.acts) alike m.waiting w.holds.content.waiting fronts w.holds.waiting

  both_without : AreWaiting (ids book) (without_first (is_releasable m.acts) m.waiting) (gate.without_first (gate.is_clear w.holds.content.uncommitted) w.holds.content.waiting)
  both_without = without_alike (ids book) (is_releasable m.acts) (gate.is_clear w.holds.content.uncommitted) (taken m.acts) alike m.waiting w.holds.content.waiting fronts w.holds.waiting

  pub head_is : (pending : Pending) → head_of w.holds.content ≡ Some pending → Head book m w.holds.content pending
  head_is pending head = at (find (is_releasable m.acts) m.waiting) (find (gate.is_clear w.holds.content.uncommitted) w.holds.content.waiting) refl refl both_found
    where
      at : (found : Option LaneState) (here : Option Waiting) → find (is_releasable m.acts) m.waiting ≡ found → find (gate.is_clear w.holds.content.uncommitted) w.holds.content.waiting ≡ here → FoundAlike (ids book) found here → Head book m w.holds.content pending
      at None None found here same = absurd (none_some pending (sym (ap (option_map (λ (one : Waiting). one.pending)) here) ∙ head))
      at None (Some waiting) found here same = absurd same
      at (Some state) None found here same = absurd same
      at (Some state) (Some waiting) found here same = record {
        state = state;
        waiting = waiting;
        found = found;
        at = here;
        is = same;
        pending_is = some_is waiting.pending pending (sym (ap (option_map (λ (one : Waiting). one.pending)) here) ∙ head);
      }

  pub quiet_is : head_of w.holds.content ≡ None → IsQuiet m
  quiet_is none = at (find (is_releasable m.acts) m.waiting) (find (gate.is_clear w.holds.content.uncommitted) w.holds.content.waiting) refl refl both_found
    where
      at : (found : Option LaneState) (here : Option Waiting) → find (is_releasable m.acts) m.waiting ≡ found → find (gate.is_clear w.holds.content.uncommitted) w.holds.content.waiting ≡ here → FoundAlike (ids book) found here → find (is_releasable m.acts) m.waiting ≡ None
      at None here found is same = found
      at (Some state) None found is same = absurd same
      at (Some state) (Some waiting) found is same = absurd (none_is waiting.pending (sym (ap (option_map (λ (one : Waiting). one.pending)) is) ∙ none))

  -- its echo was emitted
  pub echo_ran : (pending : Pending) (line : List ℕ) (now : Option (List Event)) → Head book m w.holds.content pending → IsEchoOf pending line → now ≡ told_more (Emitted line ∷ []) (dock_events book.seen) → Ran book.catalog book.opening book.limits.slots (happens book.catalog m Release) [] now
  echo_ran pending line now head echo added = ran_act book.catalog book.opening book.limits.slots m Release (Echoes head.state) (dock_events book.seen) now w.ran (ap (λ (it : Machine). it.acts) machine) tt tt few adds
    where
      machine : happens book.catalog m Release ≡ releases m (Some head.state)
      machine = ap (releases m) head.found

      few : length (still (happens book.catalog m Release).placed) ≤ book.limits.slots + 1
      few = subst (λ (it : Machine). length (still it.placed) ≤ book.limits.slots + 1) (sym machine) (few_held book m w)

      own : IsEcho head.state.state.object (count_of head.state) line
      own =
          let waits : IsEcho head.waiting.pending.state.object head.waiting.pending.count line = subst (λ (it : Pending). IsEcho it.state.object it.count line) (sym head.pending_is) echo in
          subst (λ (n : ℕ). IsEcho head.state.state.object n line) head.is.count (subst (λ (it : State). IsEcho it.object head.waiting.pending.count line) head.is.state_is waits)

      adds : Adds (Echoes head.state) (dock_events book.seen) now
      adds = record { event = Emitted line; added = added; store = refl; opens = refl; is = λ read reads. own; over = λ b. sym (or_false b) }

-- One more

pub counts_of_none : (broken : Option Status) (counted emitted : ℕ) → broken ≡ None → CountsEchoes broken counted emitted → emitted ≡ counted
counts_of_none broken counted emitted none counts = subst (λ (o : Option Status). CountsEchoes o counted emitted) none counts

pub none_counts : (broken : Option Status) (counted emitted : ℕ) → broken ≡ None → emitted ≡ counted → CountsEchoes broken counted emitted
none_counts broken counted emitted none counts = subst (λ (o : Option Status). CountsEchoes o counted emitted) (sym none) counts

pub echoes_more : (acts : List Act) (state : LaneState) → length (filter_map state_echoed (acts ++ Echoes state ∷ [])) ≡ length (filter_map state_echoed acts) + 1
echoes_more acts state = ap (λ (list : List LaneState). length list) (filter_map-append state_echoed acts (Echoes state ∷ [])) ∙ length-append (filter_map state_echoed acts) (state ∷ [])

ends_echo : (acts : List Act) (state : LaneState) → list_any is_end (acts ++ Echoes state ∷ []) ≡ list_any is_end acts
ends_echo acts state = ends_more acts (Echoes state) ∙ or_false (list_any is_end acts)

-- what is counted of lines is as before
pub tallied_echo : (tally now : Tally) (next later : ℕ) (acts : List Act) (state : LaneState) → now.lines ≡ tally.lines → now.lanes ≡ tally.lanes → now.is_ended ≡ tally.is_ended → later ≡ next → CountsEchoes now.broken now.emitted (length (filter_map state_echoed (acts ++ Echoes state ∷ []))) → Tallied tally next acts [] → Tallied now later (acts ++ Echoes state ∷ []) []
tallied_echo tally now next later acts state lines_is lanes_is ended_is next_is counts t =
    let same = echo_taken acts state in
    record {
      lines = lines_is ∙ (t.lines ∙ ap (λ list. length list + 0) (sym same));
      most = rw lines_is t.most;
      records = next_is ∙ (t.records ∙ ap (λ list. length (entries list)) (sym same));
      lanes = lanes_is ∙ (t.lanes ∙ ap lanes_among (sym same));
      emitted = counts;
      ended = ends_echo acts state ∙ (t.ended ∙ sym ended_is);
    }

-- the book at a point of its releases
abbrev pub at_point : BookView → Point → BookView
at_point book point = record book { gate = point.gate; seen = point.seen; tally = record (book.tally) { emitted = point.emitted } }

release_one : (book : BookView) (old new : Point) (m : Machine) → AreDistinct (ids book) → Released old new → IsWhole (at_point book old) m → IsWhole (at_point book new) (happens book.catalog m Release)
release_one book old new m distinct r w = subst (IsWhole (at_point book new)) (sym machine) (record {
  ran = subst (λ (it : Machine). Ran book.catalog book.opening book.limits.slots it [] (dock_events new.seen)) machine (echo_ran (at_point book old) m distinct w r.pending r.line (dock_events new.seen) head r.echo r.emits.events);
  tallied = tallied_echo (at_point book old).tally (at_point book new).tally old.gate.next new.gate.next m.acts head.state refl refl refl next_is (none_counts book.tally.broken new.emitted (length (filter_map state_echoed (m.acts ++ Echoes head.state ∷ []))) w.whole counts) w.tallied;
  holds = record {
    content = without_head w.holds.content;
    gate = r.takes.left w.holds.content w.holds.gate;
    uncommitted = w.holds.uncommitted;
    waiting = both_without (at_point book old) m distinct w;
    as_many = w.holds.as_many;
    since_own = λ number id named. w.holds.since_own number id named ∙ ap (since (lanes.one id)) (sym taken_is);
    since_all = w.holds.since_all ∙ ap (since lanes.all) (sym taken_is);
    gate_streams = ap (λ (it : GateView). it.streams) r.takes.view ∙ w.holds.gate_streams;
    gate_next = next_is ∙ w.holds.gate_next;
    gate_states = rw states_is w.holds.gate_states;
    states = let few = w.holds.states in let more = r.counted in let fewer = without_shorter (gate.is_clear w.holds.content.uncommitted) w.holds.content.waiting head.waiting head.at in rw states_is (omega (arith, few, more, fewer));
    held = w.holds.held;
    queue_streams = w.holds.queue_streams;
    queue_next = w.holds.queue_next;
    room = w.holds.room;
    slots = w.holds.slots;
    bytes = w.holds.bytes;
    batch = w.holds.batch;
    fresh = w.holds.fresh;
    parked = w.holds.parked;
    alike = w.holds.alike;
    few = w.holds.few;
    statuses_many = w.holds.statuses_many;
    statuses = λ number id named. w.holds.statuses number id named ∙ ap (λ list. Some (last_status id list)) (sym taken_is);
  };
  whole = w.whole;
})
  where
    head : Head (at_point book old) m w.holds.content r.pending
    head = head_is (at_point book old) m distinct w r.pending (r.takes.head w.holds.content w.holds.gate)

    machine : happens book.catalog m Release ≡ releases m (Some head.state)
    machine = ap (releases m) head.found

    taken_is : taken (m.acts ++ Echoes head.state ∷ []) ≡ taken m.acts
    taken_is = echo_taken m.acts head.state

    next_is : new.gate.next ≡ old.gate.next
    next_is = ap (λ (it : GateView). it.next) r.takes.view

    states_is : new.gate.states ≡ old.gate.states
    states_is = ap (λ (it : GateView). it.states) r.takes.view

    counts : length (filter_map state_echoed (m.acts ++ Echoes head.state ∷ [])) ≡ new.emitted
    counts = let before = counts_of_none book.tally.broken old.emitted (length (filter_map state_echoed m.acts)) w.whole w.tallied.emitted in let more = echoes_more m.acts head.state in let counted = r.counted in omega (arith, before, more, counted)

-- So many

pub releases_lead : (count : ℕ) (book : BookView) (old new : Point) (m : Machine) → AreDistinct (ids book) → ReleasesTo count old new → IsWhole (at_point book old) m → Leads IsReleasing book.catalog (at_point book new) m
releases_lead zero book old new m distinct r w = leads_still IsReleasing book.catalog (at_point book new) m (subst (λ (point : Point). IsWhole (at_point book point) m) (sym r) w)
releases_lead (suc count) book old new m distinct r w = leads_on IsReleasing book.catalog (at_point book r.0) (at_point book new) m (releases_lead count book old r.0 m distinct r.1 w) (λ now then. record { steps = Release ∷ []; all = (tt, tt); leads = release_one book r.0 new now distinct r.2 then })

-- All that may go: and then none may.
pub record LeadsQuiet (catalog : List ConfStream) (new : BookView) (m : Machine) : Type 0 where
  pub steps : List Step
  pub all : AllByRecursion IsReleasing steps
  pub leads : IsWhole new (run catalog steps m)
  pub quiet : IsQuiet (run catalog steps m)

pub releases_all_lead : (book : BookView) (old new : Point) (m : Machine) → AreDistinct (ids book) → ReleasesAll old new → IsWhole (at_point book old) m → LeadsQuiet book.catalog (at_point book new) m
releases_all_lead book old new m distinct r w =
    let all = releases_lead r.count book old r.last m distinct r.releases w in
    let now = run book.catalog all.steps m in
    record {
      steps = all.steps;
      all = all.all;
      leads = subst (λ (n : ℕ). IsWhole (record book { gate = new.gate; seen = new.seen; tally = record (book.tally) { emitted = n } }) now) (sym r.emitted) (subst (λ (seen : DockSeen). IsWhole (record book { gate = new.gate; seen = seen; tally = record (book.tally) { emitted = r.last.emitted } }) now) (sym r.seen) (regated (at_point book r.last) now new.gate r.content (ap (λ (it : GateView). it.streams) r.gate) (ap (λ (it : GateView). it.next) r.gate) (ap (λ (it : GateView). it.states) r.gate) all.leads));
      quiet = quiet_is (at_point book r.last) now distinct all.leads (r.quiet all.leads.holds.content all.leads.holds.gate);
    }

-- All up to one whose echo could not be made or emitted: the book is broken by then.
abbrev pub broke_at : BookView → Point → Status → BookView
broke_at book point stop = record book { gate = point.gate; seen = point.seen; tally = record (book.tally) { emitted = point.emitted; broken = Some stop } }

pub record LeadsBroken (catalog : List ConfStream) (new : BookView) (m : Machine) : Type 0 where
  pub steps : List Step
  pub all : AllByRecursion IsReleasing steps
  pub leads : IsBookOf new (run catalog steps m)

-- the echo that failed does not stand
stop_still : (book : BookView) (last new : Point) (m : Machine) (stop : Status) → new.gate.next ≡ last.gate.next → new.emitted ≡ last.emitted → dock_events new.seen ≡ dock_events last.seen → ((counted emitted : ℕ) → emitted ≡ counted → CountsEchoes (Some stop) counted emitted) → BrokeBy (ids book) book.tally.lines new.seen.face.poll m.acts [] stop → IsWhole (at_point book last) m → IsBookOf (broke_at book new stop) m
stop_still book last new m stop next_is emitted_is same counts why w =
    broken_of (broke_at book new stop) m [] stop refl (ran_still book.catalog book.opening book.limits.slots m [] (dock_events last.seen) (dock_events new.seen) w.ran same) (record {
      lines = w.tallied.lines;
      most = w.tallied.most;
      records = next_is ∙ w.tallied.records;
      lanes = w.tallied.lanes;
      emitted = counts new.emitted (length (filter_map state_echoed m.acts)) (counts_of_none book.tally.broken last.emitted (length (filter_map state_echoed m.acts)) w.whole w.tallied.emitted ∙ sym emitted_is);
      ended = w.tallied.ended;
    }) (broken_counts stop last.gate.next (length (all_of book.queue)) new.gate.next m.acts m.acts next_is refl (whole_counts (at_point book last) m w)) why

-- it stands
stop_stands : (book : BookView) (last new : Point) (m : Machine) (pending : Pending) (line : List ℕ) → AreDistinct (ids book) → TakesHead pending last.gate new.gate → IsEchoOf pending line → new.emitted ≡ last.emitted → dock_events new.seen ≡ told_more (Emitted line ∷ []) (dock_events last.seen) → IsWhole (at_point book last) m → IsBookOf (broke_at book new status.WriteFault) (happens book.catalog m Release)
stop_stands book last new m pending line distinct takes echo emitted_is added w =
    subst (IsBookOf (broke_at book new status.WriteFault)) (sym machine) (broken_of (broke_at book new status.WriteFault) (releases m (Some head.state)) [] status.WriteFault refl (subst (λ (it : Machine). Ran book.catalog book.opening book.limits.slots it [] (dock_events new.seen)) machine (echo_ran (at_point book last) m distinct w pending line (dock_events new.seen) head echo added)) (tallied_echo (at_point book last).tally (broke_at book new status.WriteFault).tally last.gate.next new.gate.next m.acts head.state refl refl refl (ap (λ (it : GateView). it.next) takes.view) (inr counts) w.tallied) (broken_counts status.WriteFault last.gate.next (length (all_of book.queue)) new.gate.next m.acts (m.acts ++ Echoes head.state ∷ []) (ap (λ (it : GateView). it.next) takes.view) (echo_done m.acts head.state) (whole_counts (at_point book last) m w)) tt)
  where
    head : Head (at_point book last) m w.holds.content pending
    head = head_is (at_point book last) m distinct w pending (takes.head w.holds.content w.holds.gate)

    machine : happens book.catalog m Release ≡ releases m (Some head.state)
    machine = ap (releases m) head.found

    counts : length (filter_map state_echoed (m.acts ++ Echoes head.state ∷ [])) ≡ new.emitted + 1
    counts = let before = counts_of_none book.tally.broken last.emitted (length (filter_map state_echoed m.acts)) w.whole w.tallied.emitted in let more = echoes_more m.acts head.state in omega (arith, before, more, emitted_is)

stops_lead : (stop : Fault) (book : BookView) (last new : Point) (m : Machine) (pending : Pending) → AreDistinct (ids book) → TakesHead pending last.gate new.gate → StopsBy stop pending last.seen new.seen → new.emitted ≡ last.emitted → IsWhole (at_point book last) m → LeadsBroken book.catalog (broke_at book new (stop_of stop)) m
stops_lead fault.NoMemory book last new m pending distinct takes (inl same) emitted_is w = record { steps = []; all = tt; leads = stop_still book last new m status.NoMemory (ap (λ (it : GateView). it.next) takes.view) emitted_is (ap dock_events same) (λ counted emitted e. e) tt w }
stops_lead fault.NoMemory book last new m pending distinct takes (inr tried) emitted_is w = record { steps = []; all = tt; leads = stop_still book last new m status.NoMemory (ap (λ (it : GateView). it.next) takes.view) emitted_is tried.2.events (λ counted emitted e. e) tt w }
stops_lead fault.Failed book last new m pending distinct takes tried emitted_is w = at tried.2.events
  where
    at : (dock_events new.seen ≡ dock_events last.seen) ⊎ (dock_events new.seen ≡ told_more (Emitted tried.0 ∷ []) (dock_events last.seen)) → LeadsBroken book.catalog (broke_at book new status.WriteFault) m
    at (inl same) = record { steps = []; all = tt; leads = stop_still book last new m status.WriteFault (ap (λ (it : GateView). it.next) takes.view) emitted_is same (λ counted emitted e. inl e) tt w }
    at (inr added) = record { steps = Release ∷ []; all = (tt, tt); leads = stop_stands book last new m pending tried.0 distinct takes tried.1 emitted_is added w }

pub releases_some_lead : (stop : Fault) (book : BookView) (old new : Point) (m : Machine) → AreDistinct (ids book) → ReleasesSome stop old new → IsWhole (at_point book old) m → LeadsBroken book.catalog (broke_at book new (stop_of stop)) m
releases_some_lead stop book old new m distinct r w =
    let all = releases_lead r.count book old r.last m distinct r.releases w in
    let then = stops_lead stop book r.last new (run book.catalog all.steps m) r.pending distinct r.takes r.stops r.emitted all.leads in
    record {
      steps = all.steps ++ then.steps;
      all = all_append IsReleasing all.steps then.steps all.all then.all;
      leads = subst (IsBookOf (broke_at book new (stop_of stop))) (sym (runs_grow book.catalog all.steps then.steps m)) then.leads;
    }
