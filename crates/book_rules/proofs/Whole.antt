-- A book that is not broken, and where steps of the machine lead it.
use Rattle.std.proofs.Common.{arith, ◌≡◌, inl, ℕ, ◌-◌, ◌≤◌, List, [], ◌++◌, map, length, Option, None, Some, true, refl, sym, ◌∙◌, ap, subst}
use Rattle.std.specs.Prelude.{IfSome}
use Rattle.std.specs.List.{AllByRecursion}
use Rattle.catalog.specs.declared.stream.ConfStream.{ConfStream}
use Rattle.outside.specs.Dock.{dock_events}
use Rattle.outside.specs.declared.status.Status.{Status}
use Rattle.outside.specs.declared.status.Status.TheVariants as status
use Rattle.book_queue.specs.Content.{Held, QueueView, all_of, number_below}
use Rattle.book_queue.specs.Content as queue
use Rattle.load_rules.specs.Acts.{Act, committed}
use Rattle.load_rules.specs.Machine.{Machine, Placed, Step, start, run}
use Rattle.load_rules.proofs.Machines.{IsGood}
use Rattle.load_rules.proofs.SafeRuns.{runs_grow}
use Rattle.book_rules.specs.Books.{BrokeBy, CountsCommits, CountsRecords, IsBookOf, IsQuiet, Reached, Tallied}
use Rattle.book_rules.specs.Holds.{Holds, AreHeld, accepted_of, still}
use Rattle.book_rules.specs.Views.{BookView, ids}
use Rattle.book_rules.proofs.Acts.{Ran, ran_good, ran_moved}
use Rattle.book_rules.proofs.Counting.{Counts, counts_run, counts_start}
use Rattle.book_rules.proofs.Moves.{held_length}
use Rattle.book_rules.proofs.Lists.{all_append, none_is}

pub record IsWhole (book : BookView) (m : Machine) : Type 0 where
  pub ran : Ran book.catalog book.opening book.limits.slots m [] (dock_events book.seen)
  pub tallied : Tallied book.tally book.gate.next m.acts []
  pub holds : Holds book m
  pub whole : book.tally.broken ≡ None

pub whole_good : (book : BookView) (m : Machine) → IsWhole book m → IsGood m
whole_good book m w = ran_good book.catalog book.opening book.limits.slots m [] (dock_events book.seen) w.ran

ran_of : (book : BookView) (m : Machine) (r : Reached book m) → Ran book.catalog book.opening book.limits.slots m r.unused (dock_events book.seen)
ran_of book m r = record { steps = r.steps; runs = r.runs; safe = r.safe; bounded = r.bounded; good = r.good; unused_are = r.unused_are; told = r.told }

pub reached_by : (book : BookView) (m : Machine) (unused : List (List ℕ)) → Ran book.catalog book.opening book.limits.slots m unused (dock_events book.seen) → Tallied book.tally book.gate.next m.acts unused → CountsRecords book.tally.broken book.gate.next (length (all_of book.queue)) m.acts → IfSome book.tally.broken (BrokeBy (ids book) book.tally.lines book.seen.face.poll m.acts unused) → (book.tally.broken ≡ None → unused ≡ []) → Reached book m
reached_by book m unused r tallied counted why used = record { steps = r.steps; runs = r.runs; safe = r.safe; bounded = r.bounded; unused = unused; unused_are = r.unused_are; used = used; told = r.told; tallied = tallied; good = r.good; why = why; counted = counted }

pub whole_of : (book : BookView) (m : Machine) → book.tally.broken ≡ None → IsBookOf book m → IsWhole book m
whole_of book m whole is = record {
  ran = subst (λ (unused : List (List ℕ)). Ran book.catalog book.opening book.limits.slots m unused (dock_events book.seen)) (is.reached.used whole) (ran_of book m is.reached);
  tallied = subst (Tallied book.tally book.gate.next m.acts) (is.reached.used whole) is.reached.tallied;
  holds = is.holds whole;
  whole = whole;
}

-- of a book that is not broken, those that are held are not committed, and all others are
pub record WholeCounts (next held : ℕ) (acts : List Act) : Type 0 where
  pub within : held ≤ next
  pub committed_is : length (committed acts) ≡ next - held

pub whole_counts : (book : BookView) (m : Machine) → IsWhole book m → WholeCounts book.gate.next (length (all_of book.queue)) m.acts
whole_counts book m w =
    let counts : Counts m = subst Counts w.ran.runs (counts_run book.catalog w.ran.steps start counts_start) in
    let all = counts.counts in
    let held = held_length (ids book) (still m.placed) (all_of book.queue) w.holds.held in
    let next = w.holds.gate_next in
    record { within = omega (arith, all, held, next); committed_is = omega (arith, all, held, next) }

pub none_commits : (broken : Option Status) (count : ℕ) (acts : List Act) → broken ≡ None → length (committed acts) ≡ count → CountsCommits broken count acts
none_commits broken count acts none is = subst (λ (o : Option Status). CountsCommits o count acts) (sym none) is

pub any_commits : (stop : Status) (count : ℕ) (acts : List Act) → length (committed acts) ≡ count → CountsCommits (Some stop) count acts
any_commits status.StoreFault count acts is = inl is
any_commits _ count acts is = is

-- a break changes no count
pub broken_counts : (stop : Status) (next held later : ℕ) (acts now : List Act) → later ≡ next → committed now ≡ committed acts → WholeCounts next held acts → CountsRecords (Some stop) later held now
broken_counts stop next held later acts now next_is same c = record {
  within = let le = c.within in omega (arith, le, next_is);
  committed_are = any_commits stop (later - held) now (ap (λ list. length list) same ∙ (c.committed_is ∙ ap (λ n. n - held) (sym next_is)));
}

pub book_of_whole : (book : BookView) (m : Machine) → IsWhole book m → IsQuiet m → IsBookOf book m
book_of_whole book m w quiet = record { reached = reached_by book m [] w.ran w.tallied (let c = whole_counts book m w in record { within = c.within; committed_are = none_commits book.tally.broken (book.gate.next - length (all_of book.queue)) m.acts w.whole c.committed_is }) (subst (λ (o : Option Status). IfSome o (BrokeBy (ids book) book.tally.lines book.seen.face.poll m.acts [])) (sym w.whole) tt) (λ none. refl); holds = λ none. w.holds; quiet = λ none. quiet }

-- of a broken book only its run is known, and its tally
pub broken_of : (book : BookView) (m : Machine) (unused : List (List ℕ)) (stop : Status) → book.tally.broken ≡ Some stop → Ran book.catalog book.opening book.limits.slots m unused (dock_events book.seen) → Tallied book.tally book.gate.next m.acts unused → CountsRecords (Some stop) book.gate.next (length (all_of book.queue)) m.acts → BrokeBy (ids book) book.tally.lines book.seen.face.poll m.acts unused stop → IsBookOf book m
broken_of book m unused stop broken r tallied counted why = record {
  reached = reached_by book m unused r tallied (subst (λ (o : Option Status). CountsRecords o book.gate.next (length (all_of book.queue)) m.acts) (sym broken) counted) (subst (λ (o : Option Status). IfSome o (BrokeBy (ids book) book.tally.lines book.seen.face.poll m.acts unused)) (sym broken) why) (λ none. absurd (none_is stop (sym broken ∙ none)));
  holds = λ none. absurd (none_is stop (sym broken ∙ none));
  quiet = λ none. absurd (none_is stop (sym broken ∙ none));
}

-- steps of the machine lead to this book
pub record Leads (P : Step → Type 0) (catalog : List ConfStream) (new : BookView) (m : Machine) : Type 0 where
  pub steps : List Step
  pub all : AllByRecursion P steps
  pub leads : IsWhole new (run catalog steps m)

pub leads_still : (P : Step → Type 0) (catalog : List ConfStream) (new : BookView) (m : Machine) → IsWhole new m → Leads P catalog new m
leads_still P catalog new m w = record { steps = []; all = tt; leads = w }

pub leads_on : (P : Step → Type 0) (catalog : List ConfStream) (mid new : BookView) (m : Machine) → Leads P catalog mid m → ((now : Machine) → IsWhole mid now → Leads P catalog new now) → Leads P catalog new m
leads_on P catalog mid new m first more =
    let then = more (run catalog first.steps m) first.leads in
    record { steps = first.steps ++ then.steps; all = all_append P first.steps then.steps first.all then.all; leads = subst (IsWhole new) (sym (runs_grow catalog first.steps then.steps m)) then.leads }

-- steps that only move records
pub record MovesTo (P : Step → Type 0) (catalog : List ConfStream) (m : Machine) (placed : List Placed) : Type 0 where
  pub steps : List Step
  pub all : AllByRecursion P steps
  pub is : run catalog steps m ≡ record m { placed = placed }

-- the queue holds the same records at other places, and so does the machine
pub record Requeues (book : BookView) (m : Machine) (now : QueueView) (placed : List Placed) : Type 0 where
  pub long : length placed ≡ length m.placed
  pub accepted : map accepted_of (all_of now) ≡ map accepted_of (all_of book.queue)
  pub held : AreHeld (ids book) (still placed) (all_of now)
  pub streams : now.streams ≡ book.queue.streams
  pub next : now.next ≡ book.queue.next
  pub room : length now.held ≤ book.limits.slots
  pub slots : now.slots ≡ book.queue.slots
  pub bytes : now.bytes ≡ book.queue.bytes
  pub batch : now.batch ≡ book.queue.batch
  pub fresh : AllByRecursion (λ one. number_below now.next_batch one.place ≡ true) now.held
  pub parked : IfSome now.parked (λ one. one.place ≡ queue.Queued)
  pub alike : (number : ℕ) → queue.IsOfOneStream number now.held

pub whole_requeued : (P : Step → Type 0) (book : BookView) (m : Machine) (now : QueueView) (placed : List Placed) → IsWhole book m → (moves : MovesTo P book.catalog m placed) → Requeues book m now placed → IsWhole (record book { queue = now }) (run book.catalog moves.steps m)
whole_requeued P book m now placed w moves q =
    subst (IsWhole (record book { queue = now })) (sym moves.is) (record {
      ran = ran_moved book.catalog book.opening book.limits.slots m [] (dock_events book.seen) moves.steps placed w.ran moves.is;
      tallied = w.tallied;
      holds = record {
        content = w.holds.content;
        gate = w.holds.gate;
        uncommitted = w.holds.uncommitted ∙ sym q.accepted;
        waiting = w.holds.waiting;
        as_many = w.holds.as_many;
        since_own = w.holds.since_own;
        since_all = w.holds.since_all;
        gate_streams = w.holds.gate_streams;
        gate_next = w.holds.gate_next ∙ sym q.long;
        gate_states = w.holds.gate_states;
        states = w.holds.states;
        held = q.held;
        queue_streams = q.streams ∙ w.holds.queue_streams;
        queue_next = q.next ∙ (w.holds.queue_next ∙ sym q.long);
        room = q.room;
        slots = q.slots ∙ w.holds.slots;
        bytes = q.bytes ∙ w.holds.bytes;
        batch = q.batch ∙ w.holds.batch;
        fresh = q.fresh;
        parked = q.parked;
        alike = q.alike;
        few = w.holds.few;
        statuses_many = w.holds.statuses_many;
        statuses = w.holds.statuses;
      };
      whole = w.whole;
    })

pub leads_requeued : (P : Step → Type 0) (book : BookView) (m : Machine) (now : QueueView) (placed : List Placed) → IsWhole book m → MovesTo P book.catalog m placed → Requeues book m now placed → Leads P book.catalog (record book { queue = now }) m
leads_requeued P book m now placed w moves q = record { steps = moves.steps; all = moves.all; leads = whole_requeued P book m now placed w moves q }
