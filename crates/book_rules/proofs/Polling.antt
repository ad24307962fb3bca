-- A poll of the input, a record that waits for room, and the call on the input as a whole.
use Rattle.std.proofs.Common.{arith, ◌≡◌, inl, inr, ◌+◌, ◌<◌, List, [], ◌∷◌, ◌++◌, map, length, Option, None, Some, Bool, true, false, cond, refl, sym, ◌∙◌, ap, subst, length-append}
use Rattle.std.specs.Prelude.{filter_map, ◌||◌, IfSome, IsTrue, ◌↔◌, option_to_list, slice_get}
use Rattle.std.specs.List.{list_any}
use Rattle.std.proofs.lemmas.List.{append-nil}
use Rattle.std.proofs.lemmas.List.Elements.{filter_map-append}
use Rattle.basics.specs.Told.{told_more}
use Rattle.basics.specs.declared.stream.StreamId.{StreamId}
use Rattle.stream_index.specs.Distinct.{AreDistinct}
use Rattle.airbyte_message.specs.Lanes.{Lane}
use Rattle.airbyte_message.specs.Lanes as lanes
use Rattle.outside.specs.Dock.{DockFace, DockSeen, TookAdds, dock_events}
use Rattle.outside.specs.Link.{kind_of}
use Rattle.outside.specs.declared.event.Event.{Event}
use Rattle.outside.specs.declared.event.Event.TheVariants.{TookEnd}
use Rattle.outside.specs.declared.faults.InputKind.TheVariants as input
use Rattle.outside.specs.declared.link.Polled.{Polled}
use Rattle.outside.specs.declared.link.Polled.TheVariants as polled
use Rattle.outside.specs.declared.status.Status.{Status}
use Rattle.outside.specs.declared.status.Status.TheVariants as status
use Rattle.book_queue.specs.Content.{Held, QueueView, all_of, HasRoom, number_below}
use Rattle.book_queue.specs.Content as queue
use Rattle.state_gate.specs.declared.pending.Lane.TheVariants as gate_lane
use Rattle.load_rules.specs.Acts.{Act, Ends, taken, committed, state_echoed}
use Rattle.load_rules.specs.Finished.{last_status}
use Rattle.load_rules.specs.Loads.{Opening}
use Rattle.load_rules.specs.Machine.{Machine, Placed, End, happens}
use Rattle.load_rules.specs.Taken.{entries, since}
use Rattle.load_rules.proofs.Machines.{taken-more, committed-more}
use Rattle.book_rules.specs.declared.answer.Accepted.{Accepted}
use Rattle.book_rules.specs.Accepts.{AcceptAnswer, AnswersUnless, Breaks, GoesOn, MakesRoom, Takes, Unparks, sealed_by, unparks}
use Rattle.book_rules.specs.Books.{BrokeBy, IsAcceptRun, IsBookOf, IsSealing, Runs, Tells}
use Rattle.book_rules.specs.Holds.{AreHeld, accepted_of, is_end, lanes_among, still}
use Rattle.book_rules.specs.Views.{BookView, ids}
use Rattle.book_rules.proofs.Accepting.{Begins, Went, broke, broke_still, releasable_by, went_as, went_line, went_none, went_runs, went_sealed}
use Rattle.book_rules.proofs.Acts.{ran_act, ran_still, ends_more}
use Rattle.book_rules.proofs.Lists.{all_append}
use Rattle.book_rules.proofs.Releasing.{few_held, regated}
use Rattle.book_rules.proofs.Sealing.{alike_push, seal_all_leads, seal_full_leads, seal_oldest_leads}
use Rattle.book_rules.proofs.Whole.{IsWhole, Leads, book_of_whole, leads_on, leads_requeued, whole_of}

-- The input ends

or_true : (b : Bool) → true ≡ (b || true)
or_true true = refl
or_true false = refl

-- the end is told, since it was not before
end_added : (opening : Opening) (acts : List Act) (before now : Option (List Event)) → list_any is_end acts ≡ false → IfSome before (Tells opening acts []) → TookAdds polled.End before now → now ≡ told_more (TookEnd ∷ []) before
end_added opening acts None now not_yet tells adds = adds
end_added opening acts (Some trace) now not_yet tells adds = adds ∙ ap (λ (b : Bool). Some (trace ++ cond b [] (TookEnd ∷ []))) (tells.over ∙ not_yet)

end_taken : (acts : List Act) → taken (acts ++ Ends ∷ []) ≡ taken acts
end_taken acts = taken-more acts Ends ∙ append-nil (taken acts)

abbrev took_end : BookView → DockSeen → BookView
took_end book seen = record book { seen = seen; tally = record (book.tally) { is_ended = true } }

end_whole : (book : BookView) (m : Machine) (seen : DockSeen) → IsWhole book m → book.tally.is_ended ≡ false → TookAdds polled.End (dock_events book.seen) (dock_events seen) → IsWhole (took_end book seen) (happens book.catalog m End)
end_whole book m seen w not_yet adds = record {
  ran = ran_act book.catalog book.opening book.limits.slots m End Ends (dock_events book.seen) (dock_events seen) w.ran refl tt tt (few_held book m w) (record { event = TookEnd; added = end_added book.opening m.acts (dock_events book.seen) (dock_events seen) (w.tallied.ended ∙ not_yet) w.ran.told adds; store = refl; opens = refl; is = λ read reads. tt; over = or_true });
  tallied = record {
    lines = w.tallied.lines ∙ ap (λ list. length list + 0) (sym same);
    most = w.tallied.most;
    records = w.tallied.records ∙ ap (λ list. length (entries list)) (sym same);
    lanes = w.tallied.lanes ∙ ap lanes_among (sym same);
    emitted = rw echoed w.tallied.emitted;
    ended = ends_more m.acts Ends ∙ sym (or_true (list_any is_end m.acts));
  };
  holds = record {
    content = w.holds.content;
    gate = w.holds.gate;
    uncommitted = w.holds.uncommitted;
    waiting = w.holds.waiting;
    as_many = w.holds.as_many;
    since_own = λ number id named. w.holds.since_own number id named ∙ ap (since (lanes.one id)) (sym same);
    since_all = w.holds.since_all ∙ ap (since lanes.all) (sym same);
    gate_streams = w.holds.gate_streams;
    gate_next = w.holds.gate_next;
    gate_states = w.holds.gate_states;
    states = w.holds.states;
    held = w.holds.held;
    queue_streams = w.holds.queue_streams;
    queue_next = w.holds.queue_next;
    room = w.holds.room;
    slots = w.holds.slots;
    bytes = w.holds.bytes;
    batch = w.holds.batch;
    fresh = w.holds.fresh;
    parked = w.holds.parked;
    alike = w.holds.alike;
    few = w.holds.few;
    statuses_many = w.holds.statuses_many;
    statuses = λ number id named. w.holds.statuses number id named ∙ ap (λ list. Some (last_status id list)) (sym same);
  };
  whole = w.whole;
}
  where
    same : taken (m.acts ++ Ends ∷ []) ≡ taken m.acts
    same = end_taken m.acts

    echoed : filter_map state_echoed (m.acts ++ Ends ∷ []) ≡ filter_map state_echoed m.acts
    echoed = filter_map-append state_echoed m.acts (Ends ∷ []) ∙ append-nil (filter_map state_echoed m.acts)

-- the dock as it is now, with the same events
reseen : (book : BookView) (m : Machine) (seen : DockSeen) → dock_events seen ≡ dock_events book.seen → IsWhole book m → IsWhole (record book { seen = seen }) m
reseen book m seen same w = record {
  ran = ran_still book.catalog book.opening book.limits.slots m [] (dock_events book.seen) (dock_events seen) w.ran same;
  tallied = w.tallied;
  holds = record {
    content = w.holds.content;
    gate = w.holds.gate;
    uncommitted = w.holds.uncommitted;
    waiting = w.holds.waiting;
    as_many = w.holds.as_many;
    since_own = w.holds.since_own;
    since_all = w.holds.since_all;
    gate_streams = w.holds.gate_streams;
    gate_next = w.holds.gate_next;
    gate_states = w.holds.gate_states;
    states = w.holds.states;
    held = w.holds.held;
    queue_streams = w.holds.queue_streams;
    queue_next = w.holds.queue_next;
    room = w.holds.room;
    slots = w.holds.slots;
    bytes = w.holds.bytes;
    batch = w.holds.batch;
    fresh = w.holds.fresh;
    parked = w.holds.parked;
    alike = w.holds.alike;
    few = w.holds.few;
    statuses_many = w.holds.statuses_many;
    statuses = w.holds.statuses;
  };
  whole = w.whole;
}

-- What a poll gave

went_broke : (book : BookView) (m : Machine) (seen : DockSeen) (stop : Status) (result : Accepted) (new : BookView) → Begins book m → dock_events seen ≡ dock_events book.seen → BrokeBy (ids book) book.tally.lines seen.face.poll m.acts [] stop → Breaks stop result (record book { seen = seen }) new → Went IsAcceptRun book.catalog new m
went_broke book m seen stop result new b same why r = went_as IsAcceptRun book.catalog (broke (record book { seen = seen }) stop) new m r.is (went_none book.catalog (broke (record book { seen = seen }) stop) m (broke_still book m seen stop b.w same why))

went_taken : (book : BookView) (m : Machine) (seen : DockSeen) (given : Polled) (result : Accepted) (new : BookView) → Begins book m → book.queue.parked ≡ None → book.tally.is_ended ≡ false → TookAdds given (dock_events book.seen) (dock_events seen) → seen.face.poll ≡ kind_of given → Takes given result (record book { seen = seen }) new → Went IsAcceptRun book.catalog new m
went_taken book m seen (polled.Line line) result new b empty not_yet adds poll t = went_line book m seen line input.BadLine result new (record { b = b; empty = empty; added = adds }) poll t
went_taken book m seen (polled.Torn line) result new b empty not_yet adds poll t = went_line book m seen line input.TornTail result new (record { b = b; empty = empty; added = adds }) poll t
went_taken book m seen polled.TooLong result new b empty not_yet adds poll t = went_broke book m seen _ result new b adds (refl, refl, poll) t
went_taken book m seen polled.NotYet result new b empty not_yet adds poll t = went_as IsAcceptRun book.catalog (record book { seen = seen }) new m t.is (went_none book.catalog (record book { seen = seen }) m (book_of_whole (record book { seen = seen }) m (reseen book m seen adds b.w) b.quiet))
went_taken book m seen polled.End result new b empty not_yet adds poll t =
    let now = happens book.catalog m End in
    let quiet = releasable_by m now (committed-more m.acts Ends ∙ append-nil (committed m.acts)) refl b.quiet in
    went_as IsAcceptRun book.catalog _ new m t.is (went_sealed book.catalog (record (took_end book seen) { queue = sealed_by gate_lane.Global book.queue }) m (End ∷ []) (omega arith) (tt, tt) quiet (seal_all_leads (took_end book seen) now empty (end_whole book m seen b.w not_yet adds)))
went_taken book m seen polled.Failed result new b empty not_yet adds poll t = went_broke book m seen _ result new b adds tt t
went_taken book m seen polled.NoMemory result new b empty not_yet adds poll t = went_broke book m seen _ result new b adds tt t

-- A record that waits for room

last_named : (ids_ : List StreamId) (placed : List Placed) (held : List Held) (one : Held) → AreHeld ids_ placed (held ++ one ∷ []) → (id : StreamId) × (slice_get ids_ one.stream ≡ Some id)
last_named ids_ [] [] one are = absurd are
last_named ids_ (first ∷ more) [] one are = (first.entry.content.id, are.0.named)
last_named ids_ [] (other ∷ others) one are = absurd are
last_named ids_ (first ∷ more) (other ∷ others) one are = last_named ids_ more others one are.1

place_queued : (parked : Option Held) (one : Held) → parked ≡ Some one → IfSome parked (λ it. it.place ≡ queue.Queued) → one.place ≡ queue.Queued
place_queued parked one is placed = subst (λ (it : Option Held). IfSome it (λ held. held.place ≡ queue.Queued)) is placed

unparked_leads : (book : BookView) (m : Machine) (one : Held) → IsWhole book m → book.queue.parked ≡ Some one → length book.queue.held < book.limits.slots → Leads IsSealing book.catalog (record book { queue = record (book.queue) { held = book.queue.held ++ one ∷ []; parked = None } }) m
unparked_leads book m one w is room =
    let same : (book.queue.held ++ one ∷ []) ++ [] ≡ all_of book.queue = append-nil (book.queue.held ++ one ∷ []) ∙ ap (λ (it : Option Held). book.queue.held ++ option_to_list it) (sym is) in
    leads_requeued IsSealing book m (record (book.queue) { held = book.queue.held ++ one ∷ []; parked = None }) m.placed w (record { steps = []; all = tt; is = refl }) (record {
      long = refl;
      accepted = ap (map accepted_of) same;
      held = subst (AreHeld (ids book) (still m.placed)) (sym same) w.holds.held;
      streams = refl;
      next = refl;
      room = let long = length-append book.queue.held (one ∷ []) in omega (arith, long, room);
      slots = refl;
      bytes = refl;
      batch = refl;
      fresh = all_append (λ it. number_below book.queue.next_batch it.place ≡ true) book.queue.held (one ∷ []) w.holds.fresh (ap (number_below book.queue.next_batch) (place_queued book.queue.parked one is w.holds.parked), tt);
      parked = tt;
      alike = λ n. alike_push n book.queue.held one (place_queued book.queue.parked one is w.holds.parked) (w.holds.alike n);
    })

went_unparks : (book : BookView) (m : Machine) (one : Held) (result : Accepted) (new : BookView) → Begins book m → book.queue.parked ≡ Some one → Unparks one result book new → Went IsAcceptRun book.catalog new m
went_unparks book m one result new b is u = went_as IsAcceptRun book.catalog _ new m u.is (at u.fits u.room)
  where
    at : (fits : Bool) → IsTrue fits ↔ HasRoom book.queue (length one.line) → Went IsAcceptRun book.catalog (record book { queue = unparks fits one book.queue }) m
    at true room =
        let has = room.0 refl in
        let lt : length book.queue.held < book.limits.slots = let it = has.0 in let same = b.w.holds.slots in omega (arith, it, same) in
        let mid = record book { queue = record (book.queue) { held = book.queue.held ++ one ∷ []; parked = None } } in
        let named = last_named (ids book) (still m.placed) book.queue.held one (subst (λ (it : Option Held). AreHeld (ids book) (still m.placed) (book.queue.held ++ option_to_list it)) is b.w.holds.held) in
        went_sealed book.catalog (record book { queue = unparks true one book.queue }) m [] (omega arith) tt b.quiet (leads_on IsSealing book.catalog mid (record book { queue = unparks true one book.queue }) m (unparked_leads book m one b.w is lt) (λ now w. seal_full_leads mid now one.stream named.0 b.distinct named.1 w))
    at false room = went_sealed book.catalog (record book { queue = unparks false one book.queue }) m [] (omega arith) tt b.quiet (seal_oldest_leads book m b.distinct b.w)

went_on : (book : BookView) (m : Machine) (parked : Option Held) (result : Accepted) (new : BookView) → Begins book m → book.queue.parked ≡ parked → book.tally.is_ended ≡ false → GoesOn parked result book new → Went IsAcceptRun book.catalog new m
went_on book m None result new b is not_yet t = went_taken book m t.seen t.given result new b is not_yet t.polls.events (ap (λ (it : DockFace). it.poll) t.polls.face) t.takes
went_on book m (Some one) result new b is not_yet u = went_unparks book m one result new b is u

-- The call

went_room : (book : BookView) (m : Machine) (result : Accepted) (new : BookView) → Begins book m → book.tally.is_ended ≡ false → MakesRoom result book new → Went IsAcceptRun book.catalog new m
went_room book m result new b not_yet t = went_on (record book { gate = t.gate }) m book.queue.parked result new (record { distinct = b.distinct; w = regated book m t.gate t.keeps.content t.keeps.streams t.keeps.next t.keeps.states b.w; quiet = b.quiet }) refl not_yet t.goes

pub begins : (book : BookView) (m : Machine) → AreDistinct (ids book) → book.tally.broken ≡ None → IsBookOf book m → Begins book m
begins book m distinct whole is = record { distinct = distinct; w = whole_of book m whole is; quiet = is.quiet whole }

went_accept : (book : BookView) (m : Machine) (broken : Option Status) (over : Bool) (result : Accepted) (new : BookView) → AreDistinct (ids book) → IsBookOf book m → book.tally.broken ≡ broken → book.tally.is_ended ≡ over → AnswersUnless broken over result book new → Went IsAcceptRun book.catalog new m
went_accept book m (Some stop) over result new distinct is broken ended t = went_none book.catalog new m (subst (λ (it : BookView). IsBookOf it m) (sym t.1) is)
went_accept book m None true result new distinct is broken ended t = went_none book.catalog new m (subst (λ (it : BookView). IsBookOf it m) (sym t.1) is)
went_accept book m None false result new distinct is broken ended (inl lacks) = went_broke book m book.seen status.NoMemory result new (begins book m distinct broken is) refl tt lacks
went_accept book m None false result new distinct is broken ended (inr room) = went_room book m result new (begins book m distinct broken is) ended room

pub accept_runs : (result : Accepted) (old new : BookView) → AreDistinct (ids old) → AcceptAnswer result old new → Runs IsAcceptRun old new
accept_runs result old new distinct answer m is = went_runs IsAcceptRun old new m (went_accept old m old.tally.broken old.tally.is_ended result new distinct is refl refl answer)
