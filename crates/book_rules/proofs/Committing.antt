-- A batch that is committed, and what a put is to the machine.
use Rattle.std.proofs.Common.{arith, ◌≡◌, ◌⊎◌, inl, inr, ℕ, ◌+◌, ◌≤◌, List, [], ◌∷◌, ◌++◌, map, length, Option, None, Some, Bool, true, false, cond, Result, Ok, Err, refl, sym, ◌∙◌, ap, subst, length-append}
use Rattle.std.specs.Prelude.{filter, filter_map, not, option_map, option_to_list, slice_get}
use Rattle.std.specs.List.{AllByRecursion, list_any}
use Rattle.std.proofs.lemmas.List.{append-nil}
use Rattle.std.proofs.lemmas.List.Elements.{filter-append, filter_map-append}
use Rattle.std.proofs.lemmas.Bool.{false≢true}
use Rattle.std.proofs.lemmas.Option.{slice_get-map}
use Rattle.basics.specs.Told.{told_more}
use Rattle.basics.specs.declared.stream.StreamId.{StreamId}
use Rattle.catalog.specs.declared.stream.ConfStream.{ConfStream}
use Rattle.stream_index.specs.Distinct.{AreDistinct}
use Rattle.airbyte_message.specs.Lanes as lanes
use Rattle.batch_prep.specs.Items.{Batch}
use Rattle.outside.specs.Dock.{DockSeen, dock_events}
use Rattle.outside.proofs.TableLaws.{id_own}
use Rattle.outside.specs.declared.event.Event.{Event}
use Rattle.outside.specs.declared.event.Event.TheVariants.{Committed}
use Rattle.outside.specs.declared.event.RawRow.{RawRow}
use Rattle.outside.specs.declared.fault.Fault.{Fault}
use Rattle.outside.specs.declared.fault.Fault.TheVariants as fault
use Rattle.outside.specs.declared.line.SeqLine.{SeqLine}
use Rattle.outside.specs.declared.link.PollKind.{PollKind}
use Rattle.outside.specs.declared.status.Status.{Status}
use Rattle.outside.specs.declared.status.Status.TheVariants as status
use Rattle.book_queue.specs.Content.{Held, all_of, batch_of, number_below}
use Rattle.book_queue.specs.Content as queue
use Rattle.state_gate.specs.Content.{is_among, with_committed}
use Rattle.state_gate.specs.Views.{GateView}
use Rattle.load_rules.specs.Acts.{Act, Commits, taken, state_echoed}
use Rattle.load_rules.specs.Engine.{PlansFit}
use Rattle.load_rules.specs.Finished.{last_status}
use Rattle.load_rules.specs.Machine.{Machine, Placed, Step, Commit, Done, run, happens, commits, commits_batch, commits_at, have_sequences, in_batch, is_in_batch, move}
use Rattle.load_rules.specs.SafeDest.{AreRowsOf}
use Rattle.load_rules.specs.Taken.{Entry, entries, is_in, since}
use Rattle.load_rules.proofs.Machines.{commit_taken, length-move, numbered_placed, picked, picked_is, seqs}
use Rattle.book_rules.specs.declared.answer.Put.{Put}
use Rattle.book_rules.specs.declared.answer.Put.TheVariants as put
use Rattle.book_rules.specs.Accepts.{broken_by}
use Rattle.book_rules.specs.Books.{BrokeBy, IsBookOf, IsPutRun, Runs}
use Rattle.book_rules.specs.Holds.{AreHeld, IsHeld, accepted_of, is_end, lanes_among, still}
use Rattle.book_rules.specs.Puts.{BreaksPut, BrokenPut, Commits as CommitsBook, GateCommits, OwnRows, PutAnswer, Stops, seqs_of}
use Rattle.book_rules.specs.Releases.{Point, ReleaseAnswer}
use Rattle.book_rules.specs.Views.{BookView, ids}
use Rattle.book_rules.proofs.Accepting.{Went, broke, broke_still, counts_any, unbroken, went_as, went_runs}
use Rattle.book_rules.proofs.Acts.{Ran, ran_act, ends_more, or_false}
use Rattle.book_rules.proofs.Lists.{filter_as, filter_map_list, length_filter}
use Rattle.book_rules.proofs.Moves.{done_held, held_in_batch, held_length}
use Rattle.book_rules.proofs.Putting.{IsOwnPlan, all_filter, all_held, all_own, filter_held, have_is, held_seqs, nil_map, none_passes, plans_alike, rows_of}
use Rattle.book_rules.proofs.Releasing.{at_point, counts_of_none, few_held, releases_all_lead, releases_some_lead}
use Rattle.book_rules.proofs.Sealing.{batch_done, of_batch, of_one, parked_apart}
use Rattle.book_rules.proofs.Whole.{IsWhole, book_of_whole, broken_of, whole_counts, whole_good, whole_of}

-- the book with a batch committed, before its releases
abbrev left_in : ℕ → List Held → List Held
left_in batch held = filter (λ one. not (queue.is_in_batch batch one)) held

abbrev pub committed_book : BookView → ℕ → DockSeen → GateView → BookView
committed_book book batch seen gate = record book { seen = seen; gate = gate; queue = record (book.queue) { held = left_in batch book.queue.held } }

pub filter_none : {A : Type 0} (u : A → Bool) (xs : List A) → AllByRecursion (λ x. u x ≡ false) xs → filter u xs ≡ []
filter_none u [] none = refl
filter_none u (x ∷ xs) none = rw none.0 (filter_none u xs none.1)

filter_others : {A : Type 0} (u : A → Bool) (xs : List A) → AllByRecursion (λ x. u x ≡ false) xs → filter (λ x. not (u x)) xs ≡ xs
filter_others u [] none = refl
filter_others u (x ∷ xs) none = rw none.0 (ap (λ list. x ∷ list) (filter_others u xs none.1))

all_not : {A : Type 0} (u v : A → Bool) (xs : List A) → AllByRecursion (λ x. u x ≡ v x) xs → AllByRecursion (λ x. not (u x) ≡ not (v x)) xs
all_not u v [] each = tt
all_not u v (x ∷ xs) each = (ap not each.0, all_not u v xs each.1)

-- All that is known of a commit before it is made.
record Batched (book : BookView) (m : Machine) (batch number : ℕ) (rows : List RawRow) (id : StreamId) : Type 0 where
  named : slice_get (ids book) number ≡ Some id
  -- the machine's batch is the book's
  are : AreHeld (ids book) (filter (is_in_batch id batch) m.placed) (filter (queue.is_in_batch batch) book.queue.held)
  left : AreHeld (ids book) (still (move (is_in_batch id batch) Done m.placed)) (left_in batch book.queue.held ++ option_to_list book.queue.parked)
  made : AreRowsOf book.catalog book.opening number (in_batch id batch m.placed) rows
  happens_is : happens book.catalog m (Commit number id batch rows) ≡ commits m number id batch rows
  gate : filter (λ accepted. not (is_among (seqs_of (batch_of batch book.queue.held)) accepted)) (map accepted_of (all_of book.queue)) ≡ map accepted_of (left_in batch book.queue.held ++ option_to_list book.queue.parked)

commit_happens : (catalog : List ConfStream) (m : Machine) (number : ℕ) (stream : ConfStream) (batch : ℕ) (rows : List RawRow) → slice_get catalog number ≡ Some stream → (in_batch stream.id batch m.placed ≡ [] → ⊥) → have_sequences rows (in_batch stream.id batch m.placed) ≡ true → happens catalog m (Commit number stream.id batch rows) ≡ commits m number stream.id batch rows
commit_happens catalog m number stream batch rows configured some have =
    ap (commits_at m number stream.id batch rows) configured
    ∙ (ap (λ b. cond b (commits_batch m number stream.id batch rows (in_batch stream.id batch m.placed)) m) (id_own stream.id)
    ∙ at (in_batch stream.id batch m.placed) refl)
  where
    at : (list : List Entry) → in_batch stream.id batch m.placed ≡ list → commits_batch m number stream.id batch rows list ≡ commits m number stream.id batch rows
    at [] is = absurd (some is)
    at (entry ∷ more) is = ap (λ b. cond b (commits m number stream.id batch rows) m) (ap (have_sequences rows) (sym is) ∙ have)

batched : (book : BookView) (m : Machine) (batch number : ℕ) (rows : List RawRow) → AreDistinct (ids book) → PlansFit book.catalog book.opening.plan → IsWhole book m → (own : OwnRows batch number book rows) → Batched book m batch number rows own.planned.stream.id
batched book m batch number rows distinct planned w own = record {
  named = named;
  are = are;
  left = left;
  made = made;
  happens_is = commit_happens book.catalog m number own.planned.stream batch rows own.planned.configured some (have_is book.catalog book.opening number (in_batch id batch m.placed) rows made);
  gate = filter_map_list accepted_of (λ accepted. not (is_among (seqs_of (batch_of batch book.queue.held)) accepted)) (λ one. not (of_batch batch number one)) (all_of book.queue) (all_held (ids book) (λ (one : Placed). is_in one.entry.seq (seqs (picked t m.placed)) ≡ t one) (λ one. not (is_among (seqs_of (batch_of batch book.queue.held)) (accepted_of one)) ≡ not (of_batch batch number one)) m.placed (all_of book.queue) (λ one other is known. ap not (among one other is ∙ (known ∙ alike one other is))) (picked_is 0 t m.placed (numbered_placed m (whole_good book m w))) w.holds.held) ∙ ap (map accepted_of) rest_is;
}
  where
    id : StreamId
    id = own.planned.stream.id

    t : Placed → Bool
    t = is_in_batch id batch

    named : slice_get (ids book) number ≡ Some id
    named = slice_get-map (λ (stream : ConfStream). stream.id) book.catalog number ∙ ap (option_map (λ (stream : ConfStream). stream.id)) own.planned.configured

    alike : (placed : Placed) (held : Held) → IsHeld (ids book) placed held → is_in_batch id batch placed ≡ of_batch batch number held
    alike placed held is = held_in_batch (ids book) batch number id placed held distinct named is

    apart : AllByRecursion (λ one. of_batch batch number one ≡ false) (option_to_list book.queue.parked)
    apart = parked_apart batch number book.queue.parked w.holds.parked

    one_stream : AllByRecursion (λ one. of_batch batch number one ≡ queue.is_in_batch batch one) book.queue.held
    one_stream = of_one batch number book.queue.held own.of.all

    picked_are : filter (of_batch batch number) (all_of book.queue) ≡ filter (queue.is_in_batch batch) book.queue.held
    picked_are = filter-append (of_batch batch number) book.queue.held (option_to_list book.queue.parked) ∙ (ap (λ list. filter (of_batch batch number) book.queue.held ++ list) (filter_none (of_batch batch number) (option_to_list book.queue.parked) apart) ∙ (append-nil (filter (of_batch batch number) book.queue.held) ∙ filter_as (of_batch batch number) (queue.is_in_batch batch) book.queue.held one_stream))

    rest_is : filter (λ one. not (of_batch batch number one)) (all_of book.queue) ≡ left_in batch book.queue.held ++ option_to_list book.queue.parked
    rest_is = filter-append (λ one. not (of_batch batch number one)) book.queue.held (option_to_list book.queue.parked) ∙ (ap (λ list. filter (λ one. not (of_batch batch number one)) book.queue.held ++ list) (filter_others (of_batch batch number) (option_to_list book.queue.parked) apart) ∙ ap (λ list. list ++ option_to_list book.queue.parked) (filter_as (λ one. not (of_batch batch number one)) (λ one. not (queue.is_in_batch batch one)) book.queue.held (all_not (of_batch batch number) (queue.is_in_batch batch) book.queue.held one_stream)))

    are : AreHeld (ids book) (filter (is_in_batch id batch) m.placed) (filter (queue.is_in_batch batch) book.queue.held)
    are = subst (AreHeld (ids book) (filter (is_in_batch id batch) m.placed)) picked_are (filter_held (ids book) (is_in_batch id batch) (of_batch batch number) (batch_done id batch) alike m.placed (all_of book.queue) w.holds.held)

    left : AreHeld (ids book) (still (move (is_in_batch id batch) Done m.placed)) (left_in batch book.queue.held ++ option_to_list book.queue.parked)
    left = subst (AreHeld (ids book) (still (move (is_in_batch id batch) Done m.placed))) rest_is (done_held (ids book) (is_in_batch id batch) (of_batch batch number) (batch_done id batch) alike m.placed (all_of book.queue) w.holds.held)

    own_plan : IsOwnPlan book.catalog book.opening number own.planned.stream own.planned.opened
    own_plan = record { configured = own.planned.configured; planned = own.planned.planned; same = plans_alike book.catalog book.opening.plan number own.planned.stream own.planned.opened planned own.planned.configured own.planned.planned }

    made : AreRowsOf book.catalog book.opening number (in_batch id batch m.placed) rows
    made = rows_of (ids book) book.catalog book.opening number own.planned.stream own.planned.opened own_plan own.plan own.planned.columns own.planned.is (filter (is_in_batch id batch) m.placed) (filter (queue.is_in_batch batch) book.queue.held) rows (all_own id batch m.placed) are own.are

    seqs_are : seqs (picked t m.placed) ≡ seqs_of (batch_of batch book.queue.held)
    seqs_are = held_seqs (ids book) (filter (is_in_batch id batch) m.placed) (filter (queue.is_in_batch batch) book.queue.held) are

    some : in_batch id batch m.placed ≡ [] → ⊥
    some none =
        let empty : seqs_of (batch_of batch book.queue.held) ≡ [] = sym seqs_are ∙ ap seqs none in
        let no_lines : batch_of batch book.queue.held ≡ [] = nil_map (λ (line : SeqLine). line.seq) (batch_of batch book.queue.held) empty in
        let no_held : filter (queue.is_in_batch batch) book.queue.held ≡ [] = nil_map queue.line_of (filter (queue.is_in_batch batch) book.queue.held) no_lines in
        false≢true (sym (none_passes (queue.is_in_batch batch) book.queue.held no_held) ∙ own.of.some)

    among : (placed : Placed) (held : Held) → IsHeld (ids book) placed held → is_among (seqs_of (batch_of batch book.queue.held)) (accepted_of held) ≡ is_in placed.entry.seq (seqs (picked t m.placed))
    among placed held is = ap (λ (list : List ℕ). is_in held.seq list) (sym seqs_are) ∙ ap (λ n. is_in n (seqs (picked t m.placed))) is.seq

-- The commit

commit_ran : (book : BookView) (m : Machine) (batch number : ℕ) (rows : List RawRow) (id : StreamId) (now : Option (List Event)) → IsWhole book m → Batched book m batch number rows id → now ≡ told_more (Committed number rows ∷ []) (dock_events book.seen) → Ran book.catalog book.opening book.limits.slots (commits m number id batch rows) [] now
commit_ran book m batch number rows id now w b added =
    subst (λ (it : Machine). Ran book.catalog book.opening book.limits.slots it [] now) b.happens_is (ran_act book.catalog book.opening book.limits.slots m (Commit number id batch rows) (Commits number rows) (dock_events book.seen) now w.ran (ap (λ (it : Machine). it.acts) b.happens_is) tt b.made few (record { event = Committed number rows; added = added; store = refl; opens = refl; is = λ read reads. (refl, refl); over = λ it. sym (or_false it) }))
  where
    fewer : length (still (move (is_in_batch id batch) Done m.placed)) ≤ book.limits.slots + 1
    fewer =
        let same = held_length (ids book) (still (move (is_in_batch id batch) Done m.placed)) (left_in batch book.queue.held ++ option_to_list book.queue.parked) b.left in
        let long = length-append (left_in batch book.queue.held) (option_to_list book.queue.parked) in
        let before = length-append book.queue.held (option_to_list book.queue.parked) in
        let all = held_length (ids book) (still m.placed) (all_of book.queue) w.holds.held in
        let less = length_filter (λ one. not (queue.is_in_batch batch one)) book.queue.held in
        let most = few_held book m w in
        omega (arith, same, long, before, all, less, most)

    few : length (still (happens book.catalog m (Commit number id batch rows)).placed) ≤ book.limits.slots + 1
    few = subst (λ (it : Machine). length (still it.placed) ≤ book.limits.slots + 1) (sym b.happens_is) fewer

commit_echoed : (acts : List Act) (number : ℕ) (rows : List RawRow) → filter_map state_echoed (acts ++ Commits number rows ∷ []) ≡ filter_map state_echoed acts
commit_echoed acts number rows = filter_map-append state_echoed acts (Commits number rows ∷ []) ∙ append-nil (filter_map state_echoed acts)

commit_ends : (acts : List Act) (number : ℕ) (rows : List RawRow) → list_any is_end (acts ++ Commits number rows ∷ []) ≡ list_any is_end acts
commit_ends acts number rows = ends_more acts (Commits number rows) ∙ or_false (list_any is_end acts)

commit_whole : (book : BookView) (m : Machine) (batch number : ℕ) (rows : List RawRow) (id : StreamId) (seen : DockSeen) (gate : GateView) → IsWhole book m → Batched book m batch number rows id → dock_events seen ≡ told_more (Committed number rows ∷ []) (dock_events book.seen) → GateCommits (seqs_of (batch_of batch book.queue.held)) book.gate gate → IsWhole (committed_book book batch seen gate) (commits m number id batch rows)
commit_whole book m batch number rows id seen gate w b added knows = record {
  ran = commit_ran book m batch number rows id (dock_events seen) w b added;
  tallied = record {
    lines = w.tallied.lines ∙ ap (λ list. length list + 0) (sym same);
    most = w.tallied.most;
    records = knows.next ∙ (w.tallied.records ∙ ap (λ list. length (entries list)) (sym same));
    lanes = w.tallied.lanes ∙ ap lanes_among (sym same);
    emitted = rw (commit_echoed m.acts number rows) w.tallied.emitted;
    ended = commit_ends m.acts number rows ∙ w.tallied.ended;
  };
  holds = record {
    content = with_committed w.holds.content (seqs_of (batch_of batch book.queue.held));
    gate = knows.content w.holds.content w.holds.gate;
    uncommitted = ap (filter (λ accepted. not (is_among (seqs_of (batch_of batch book.queue.held)) accepted))) w.holds.uncommitted ∙ b.gate;
    waiting = w.holds.waiting;
    as_many = w.holds.as_many;
    since_own = λ number id named. w.holds.since_own number id named ∙ ap (since (lanes.one id)) (sym same);
    since_all = w.holds.since_all ∙ ap (since lanes.all) (sym same);
    gate_streams = knows.streams ∙ w.holds.gate_streams;
    gate_next = knows.next ∙ (w.holds.gate_next ∙ sym (length-move (is_in_batch id batch) Done m.placed));
    gate_states = rw knows.states w.holds.gate_states;
    states = rw knows.states w.holds.states;
    held = b.left;
    queue_streams = w.holds.queue_streams;
    queue_next = w.holds.queue_next ∙ sym (length-move (is_in_batch id batch) Done m.placed);
    room = let less = length_filter (λ one. not (queue.is_in_batch batch one)) book.queue.held in let few = w.holds.room in omega (arith, less, few);
    slots = w.holds.slots;
    bytes = w.holds.bytes;
    batch = w.holds.batch;
    fresh = all_filter (λ one. number_below book.queue.next_batch one.place ≡ true) (λ one. not (queue.is_in_batch batch one)) book.queue.held w.holds.fresh;
    parked = w.holds.parked;
    alike = λ n. let one = w.holds.alike n in record { stream = one.stream; all = all_filter (λ it. queue.is_in_batch n it ≡ true → it.stream ≡ one.stream) (λ one. not (queue.is_in_batch batch one)) book.queue.held one.all };
    few = w.holds.few;
    statuses_many = w.holds.statuses_many;
    statuses = λ number id named. w.holds.statuses number id named ∙ ap (λ list. Some (last_status id list)) (sym same);
  };
  whole = w.whole;
}
  where
    same : taken (m.acts ++ Commits number rows ∷ []) ≡ taken m.acts
    same = commit_taken m.acts number rows

-- The put

went_commits : (book : BookView) (m : Machine) (batch : ℕ) (released : Result (Unit {0}) Fault) (new : BookView) → AreDistinct (ids book) → PlansFit book.catalog book.opening.plan → IsWhole book m → CommitsBook batch released book new → Went IsPutRun book.catalog new m
went_commits book m batch released new distinct planned w c = went_as IsPutRun book.catalog _ new m c.is (at released c.releases)
  where
    id : StreamId
    id = c.own.planned.stream.id

    b : Batched book m batch c.number c.rows c.own.planned.stream.id
    b = batched book m batch c.number c.rows distinct planned w c.own

    mid : BookView
    mid = committed_book book batch c.seen c.gate

    step : Step
    step = Commit c.number c.own.planned.stream.id batch c.rows

    whole : IsWhole mid (happens book.catalog m step)
    whole = subst (IsWhole mid) (sym b.happens_is) (commit_whole book m batch c.number c.rows id c.seen c.gate w b c.commits.events c.knows)

    old_point : Point
    old_point = record { gate = c.gate; seen = c.seen; emitted = book.tally.emitted }

    new_point : Point
    new_point = record { gate = new.gate; seen = new.seen; emitted = new.tally.emitted }

    at : (released : Result (Unit {0}) Fault) → ReleaseAnswer released old_point new_point → Went IsPutRun book.catalog (record book { seen = new.seen; gate = new.gate; queue = record (book.queue) { held = left_in batch book.queue.held }; tally = record (book.tally) { emitted = new.tally.emitted; broken = broken_by released } }) m
    at (Ok done) releases =
        let frees = releases_all_lead mid old_point new_point (happens book.catalog m step) distinct releases whole in
        let final = at_point mid new_point in
        went_as IsPutRun book.catalog final _ m (unbroken final w.whole) (record { steps = step ∷ frees.steps; shaped = frees.all; leads = book_of_whole final (run book.catalog frees.steps (happens book.catalog m step)) frees.leads frees.quiet })
    at (Err fault) releases =
        let frees = releases_some_lead fault mid old_point new_point (happens book.catalog m step) distinct releases whole in
        record { steps = step ∷ frees.steps; shaped = frees.all; leads = frees.leads }

went_stop : (book : BookView) (m : Machine) (new : BookView) → IsBookOf new m → Went IsPutRun book.catalog new m
went_stop book m new is = record { steps = []; shaped = tt; leads = is }

-- a commit that failed and stands
commit_broke : (book : BookView) (m : Machine) (batch number : ℕ) (rows : List RawRow) (id : StreamId) (seen : DockSeen) → IsWhole book m → Batched book m batch number rows id → dock_events seen ≡ told_more (Committed number rows ∷ []) (dock_events book.seen) → IsBookOf (broke (record book { seen = seen }) status.StoreFault) (commits m number id batch rows)
commit_broke book m batch number rows id seen w b added =
    broken_of (broke (record book { seen = seen }) status.StoreFault) (commits m number id batch rows) [] status.StoreFault refl (commit_ran book m batch number rows id (dock_events seen) w b added) (record {
      lines = w.tallied.lines ∙ ap (λ list. length list + 0) (sym same);
      most = w.tallied.most;
      records = w.tallied.records ∙ ap (λ list. length (entries list)) (sym same);
      lanes = w.tallied.lanes ∙ ap lanes_among (sym same);
      emitted = counts_any status.StoreFault book.tally.emitted (length (filter_map state_echoed (m.acts ++ Commits number rows ∷ []))) (ap (λ list. length list) (commit_echoed m.acts number rows) ∙ counts_of_none book.tally.broken book.tally.emitted (length (filter_map state_echoed m.acts)) w.whole w.tallied.emitted);
      ended = commit_ends m.acts number rows ∙ w.tallied.ended;
    }) (let c = whole_counts book m w in record { within = c.within; committed_are = inr (record { front = m.acts; number = number; rows = rows; splits = refl; count_is = c.committed_is }) }) tt
  where
    same : taken (m.acts ++ Commits number rows ∷ []) ≡ taken m.acts
    same = commit_taken m.acts number rows

went_lacks : (book : BookView) (m : Machine) (stop : Status) (batch : ℕ) (new : BookView) → IsWhole book m → ((poll : PollKind) → BrokeBy (ids book) book.tally.lines poll m.acts [] stop) → Stops {T = Unit {0}} stop batch (Err fault.NoMemory) book new → Went IsPutRun book.catalog new m
went_lacks book m stop batch new w why s = went_as IsPutRun book.catalog (broke (record book { seen = s.2 }) stop) new m s.5 (went_stop book m (broke (record book { seen = s.2 }) stop) (broke_still book m s.2 stop w s.4.events (why s.2.face.poll)))

went_fails : (book : BookView) (m : Machine) (batch : ℕ) (new : BookView) → AreDistinct (ids book) → PlansFit book.catalog book.opening.plan → IsWhole book m → Stops {T = Unit {0}} status.StoreFault batch (Err fault.Failed) book new → Went IsPutRun book.catalog new m
went_fails book m batch new distinct planned w s = went_as IsPutRun book.catalog (broke (record book { seen = s.2 }) status.StoreFault) new m s.5 (at s.4.events)
  where
    b : Batched book m batch s.0 s.1 s.3.planned.stream.id
    b = batched book m batch s.0 s.1 distinct planned w s.3

    at : (dock_events s.2 ≡ dock_events book.seen) ⊎ (dock_events s.2 ≡ told_more (Committed s.0 s.1 ∷ []) (dock_events book.seen)) → Went IsPutRun book.catalog (broke (record book { seen = s.2 }) status.StoreFault) m
    at (inl same) = went_stop book m (broke (record book { seen = s.2 }) status.StoreFault) (broke_still book m s.2 status.StoreFault w same tt)
    at (inr added) = record { steps = Commit s.0 s.3.planned.stream.id batch s.1 ∷ []; shaped = tt; leads = subst (IsBookOf (broke (record book { seen = s.2 }) status.StoreFault)) (sym b.happens_is) (commit_broke book m batch s.0 s.1 s.3.planned.stream.id s.2 w b added) }

went_breaks : (book : BookView) (m : Machine) (stop : Status) (batch : ℕ) (new : BookView) → AreDistinct (ids book) → PlansFit book.catalog book.opening.plan → IsWhole book m → BreaksPut stop batch book new → Went IsPutRun book.catalog new m
went_breaks book m status.NoMemory batch new distinct planned w (inl lacks) = went_as IsPutRun book.catalog (broke book status.NoMemory) new m lacks (went_stop book m (broke book status.NoMemory) (broke_still book m book.seen status.NoMemory w refl tt))
went_breaks book m status.NoMemory batch new distinct planned w (inr (inl s)) = went_lacks book m status.NoMemory batch new w (λ poll. tt) s
went_breaks book m status.NoMemory batch new distinct planned w (inr (inr c)) = went_commits book m batch (Err fault.NoMemory) new distinct planned w c
went_breaks book m status.StoreFault batch new distinct planned w s = went_fails book m batch new distinct planned w s
went_breaks book m status.WriteFault batch new distinct planned w c = went_commits book m batch (Err fault.Failed) new distinct planned w c
went_breaks book m _ batch new distinct planned w none = absurd none

went_broken : (book : BookView) (m : Machine) (broken : Option Status) (stop : Status) (batch : ℕ) (new : BookView) → AreDistinct (ids book) → PlansFit book.catalog book.opening.plan → book.tally.broken ≡ broken → IsBookOf book m → BrokenPut broken stop batch book new → Went IsPutRun book.catalog new m
went_broken book m (Some first) stop batch new distinct planned broken is t = went_stop book m new (subst (λ (it : BookView). IsBookOf it m) (sym t.1) is)
went_broken book m None stop batch new distinct planned broken is t = went_breaks book m stop batch new distinct planned (whole_of book m broken is) t.1

went_put : (book : BookView) (m : Machine) (done : Batch) (result : Put) (new : BookView) → AreDistinct (ids book) → PlansFit book.catalog book.opening.plan → IsBookOf book m → PutAnswer done result book new → Went IsPutRun book.catalog new m
went_put book m done put.Done new distinct planned is t = went_commits book m done.item.batch (Ok tt) new distinct planned (whole_of book m t.0 is) t.1
went_put book m done (put.Stranger back) new distinct planned is t = went_stop book m new (subst (λ (it : BookView). IsBookOf it m) (sym t.3) is)
went_put book m done (put.Broken stop) new distinct planned is t = went_broken book m book.tally.broken stop done.item.batch new distinct planned refl is t

pub put_runs : (done : Batch) (result : Put) (old new : BookView) → AreDistinct (ids old) → PlansFit old.catalog old.opening.plan → PutAnswer done result old new → Runs IsPutRun old new
put_runs done result old new distinct planned answer m is = went_runs IsPutRun old new m (went_put old m done result new distinct planned is answer)
