-- A book that has drained: its load is done, and its statuses are the last ones of the lines that the load took.
use Rattle.std.proofs.Common.{◌≡◌, inl, inr, ℕ, List, [], ◌∷◌, ◌++◌, map, Option, None, Some, Bool, true, false, cond, refl, sym, ◌∙◌, ap, subst}
use Rattle.std.specs.Prelude.{◌||◌, IfSome, IsSome, not, option_map, slice_get}
use Rattle.std.specs.List.{AllByRecursion, list_any}
use Rattle.std.proofs.lemmas.List.{append-nil}
use Rattle.std.proofs.lemmas.Bool.{and_parts, false≢true}
use Rattle.std.proofs.lemmas.Option.{slice_get-map}
use Rattle.basics.specs.declared.stream.StreamId.{StreamId}
use Rattle.catalog.specs.declared.stream.ConfStream.{ConfStream}
use Rattle.airbyte_message.specs.Lanes.{Lane, lane_of}
use Rattle.airbyte_message.specs.declared.message.Message.{Message}
use Rattle.airbyte_message.specs.declared.message.Message.TheVariants as message
use Rattle.airbyte_message.specs.declared.stream_status.StreamStatus.{StreamStatus}
use Rattle.airbyte_message.specs.declared.stream_status.StreamStatus.TheVariants as stream_status
use Rattle.outside.specs.declared.event.Event.{Event}
use Rattle.outside.specs.declared.event.Event.TheVariants as event
use Rattle.outside.specs.declared.faults.InputKind.TheVariants as input
use Rattle.dedup_merge.proofs.SameRowLemmas.{Has, has_to}
use Rattle.book_queue.specs.Content.{Held, all_of}
use Rattle.load_rules.specs.Acts.{Act, Takes, Ends, Commits, Echoes, Turns, AreActs, IsAct, taken}
use Rattle.load_rules.specs.Finished.{HasLane, last_status}
use Rattle.load_rules.specs.Laws.{IsDone}
use Rattle.load_rules.specs.Lines.{IsReading, Line, Reading, lines_read, state_in}
use Rattle.load_rules.specs.Loads.{Load, tooks}
use Rattle.load_rules.specs.Machine.{Machine, Placed, IsDrained, Step, entry_of, is_done, run, start}
use Rattle.load_rules.specs.Prefixes.{EachFits}
use Rattle.load_rules.proofs.Drained.{drained_is_done}
use Rattle.load_rules.proofs.Held.{held_are_uncommitted}
use Rattle.load_rules.proofs.Pipes.{acts_taken}
use Rattle.book_rules.specs.declared.answer.Lanes.{Lanes}
use Rattle.book_rules.specs.Accepts.{fault_of, state_fault}
use Rattle.book_rules.specs.Books.{IsGoodLine, Reached, Tells}
use Rattle.book_rules.specs.Endings.{DrainedEndsLoad, EndsFinished, EndsIncomplete, EndsLoad, HasDrained, ReadsFirst, ReadsLast}
use Rattle.book_rules.specs.Finishes.{has_none, is_complete}
use Rattle.book_rules.specs.Holds.{AreHeld, Holds, is_end, lanes_among, still}
use Rattle.book_rules.specs.Views.{BookView, ids}
use Rattle.book_rules.proofs.Acts.{uncommitted_are}
use Rattle.book_rules.proofs.Safe.{reached_good}

-- Nothing is held

none_held : (held : List Held) → has_none held ≡ true → held ≡ []
none_held [] none = refl
none_held (one ∷ more) none = absurd (false≢true none)

none_still : (ids_ : List StreamId) (placed : List Placed) (held : List Held) → held ≡ [] → AreHeld ids_ placed held → placed ≡ []
none_still ids_ [] held none are = refl
none_still ids_ (one ∷ placed) [] none are = absurd are
none_still ids_ (one ∷ placed) (first ∷ held) none are = absurd (cons_nil first held none)
  where
    cons_nil : (x : Held) (xs : List Held) → x ∷ xs ≡ [] → ⊥
    cons_nil x xs e = cc

all_done : (placed : List Placed) → still placed ≡ [] → AllByRecursion (λ one. is_done one.place ≡ true) placed
all_done [] none = tt
all_done (one ∷ placed) none = at (is_done one.place) refl none (all_done placed)
  where
    cons_nil : (x : Placed) (xs : List Placed) → x ∷ xs ≡ [] → ⊥
    cons_nil x xs e = cc

    at : (b : Bool) → is_done one.place ≡ b → cond (not b) (one ∷ still placed) (still placed) ≡ [] → (still placed ≡ [] → AllByRecursion (λ it. is_done it.place ≡ true) placed) → (is_done one.place ≡ true) × AllByRecursion (λ it. is_done it.place ≡ true) placed
    at true is none rest = (is, rest none)
    at false is none rest = absurd (cons_nil one (still placed) none)

-- Its input has ended

or_right_if : (a b : Bool) → a ≡ false → (a || b) ≡ true → b ≡ true
or_right_if true b is e = absurd (false≢true (sym is))
or_right_if false b is e = e

end_of : (read : Reading) (act : Act) (one : Event) → is_end act ≡ true → IsAct read act one → one ≡ event.TookEnd
end_of read Ends event.TookEnd is acts = refl
end_of read Ends (event.Opened x y z) is acts = absurd acts
end_of read Ends (event.Took x) is acts = absurd acts
end_of read Ends (event.Committed x y) is acts = absurd acts
end_of read Ends (event.Emitted x) is acts = absurd acts
end_of read Ends (event.Merged x y z) is acts = absurd acts
end_of read Ends (event.Shown x y z) is acts = absurd acts
end_of read Ends (event.Started x) is acts = absurd acts
end_of read Ends (event.ReadLine x) is acts = absurd acts
end_of read Ends event.ReadEnd is acts = absurd acts
end_of read Ends (event.Given x) is acts = absurd acts
end_of read Ends event.Closed is acts = absurd acts
end_of read Ends (event.Got x) is acts = absurd acts
end_of read Ends event.GotEnd is acts = absurd acts
end_of read Ends (event.Saved x) is acts = absurd acts
end_of read Ends (event.Ended x) is acts = absurd acts
end_of read (Takes line) one is acts = absurd (false≢true is)
end_of read (Commits number rows) one is acts = absurd (false≢true is)
end_of read (Echoes state) one is acts = absurd (false≢true is)
end_of read Turns one is acts = absurd (false≢true is)

end_there : (read : Reading) (acts : List Act) (events : List Event) → AreActs read acts events → list_any is_end acts ≡ true → Has event.TookEnd events
end_there read [] events are some = absurd (false≢true some)
end_there read (act ∷ acts) [] are some = absurd are
end_there read (act ∷ acts) (one ∷ events) are some = at (is_end act) refl (end_there read acts events are.1)
  where
    at : (b : Bool) → is_end act ≡ b → (list_any is_end acts ≡ true → Has event.TookEnd events) → Has event.TookEnd (one ∷ events)
    at true is rest = inl (end_of read act one is are.0)
    at false is rest = inr (rest (or_right_if (is_end act) (list_any is_end acts) is some))

-- Each of its states has a lane

some_none : {A : Type 0} (x : A) → ◌≡◌ {A = Option A} (Some x) None → ⊥
some_none x e = cc

state_lane : (ids_ : List StreamId) (known : Option Lanes) (lane : Option Lane) → state_fault ids_ known lane ≡ None → IsSome lane
state_lane ids_ known None none = absurd (some_none input.Legacy none)
state_lane ids_ known (Some lane) none = refl

line_lane : (ids_ : List StreamId) (before : List Line) (line : Line) (found : Option Message) → line.found ≡ found → IsGoodLine ids_ before line → HasLane (state_in found)
line_lane ids_ before line None is good = tt
line_lane ids_ before line (Some (message.State state)) is good = state_lane ids_ (lanes_among before) (lane_of state.kind) (ap (fault_of input.BadLine ids_ (lanes_among before)) (sym is) ∙ good)
line_lane ids_ before line (Some (message.Rec x)) is good = tt
line_lane ids_ before line (Some (message.Log x)) is good = tt
line_lane ids_ before line (Some (message.Spec x)) is good = tt
line_lane ids_ before line (Some (message.Connection x)) is good = tt
line_lane ids_ before line (Some (message.Catalog x)) is good = tt
line_lane ids_ before line (Some (message.Trace x)) is good = tt
line_lane ids_ before line (Some (message.Control x)) is good = tt

lines_lane : (ids_ : List StreamId) (before lines : List Line) → EachFits (IsGoodLine ids_) before lines → AllByRecursion (λ line. HasLane (state_in line.found)) lines
lines_lane ids_ before [] each = tt
lines_lane ids_ before (line ∷ lines) each = (line_lane ids_ before line line.found refl each.0, lines_lane ids_ (before ++ line ∷ []) lines each.1)

-- Statuses

complete_is : (last : Option StreamStatus) → is_complete (Some last) ≡ true → last ≡ Some stream_status.Complete
complete_is None e = absurd (false≢true e)
complete_is (Some stream_status.Complete) e = refl
complete_is (Some _) e = absurd (false≢true e)

-- The load

record Drains (book : BookView) (m : Machine) (trace : List Event) : Type 0 where
  reached : Reached book m
  tells : Tells book.opening m.acts [] trace
  drained : IsDrained m
  held : still m.placed ≡ []
  ended : list_any is_end m.acts ≡ true
  holds : Holds book m

drains : (book : BookView) (trace : List Event) (d : HasDrained book trace) → Drains book d.book_is.machine trace
drains book trace d =
    let is = d.book_is in
    let m = is.machine in
    let reached = is.is.reached in
    let holds = is.is.holds d.whole in
    let parts = and_parts book.tally.is_ended (has_none (all_of book.queue)) d.drained in
    let held : still m.placed ≡ [] = none_still (ids book) (still m.placed) (all_of book.queue) (none_held (all_of book.queue) parts.1) holds.held in
    record {
      reached = reached;
      tells = subst (λ (unused : List (List ℕ)). Tells book.opening m.acts unused trace) (reached.used d.whole) (subst (λ (it : Option (List Event)). IfSome it (Tells book.opening m.acts reached.unused)) d.told reached.told);
      drained = record { nothing_held = all_done m.placed held; nothing_releasable = is.is.quiet d.whole };
      held = held;
      ended = reached.tallied.ended ∙ parts.0;
      holds = holds;
    }

done_of : (catalog : List ConfStream) (m : Machine) (steps : List Step) → run catalog steps start ≡ m → IsDrained m → IsDone m.acts
done_of catalog m steps runs drained = subst (λ (it : Machine). IsDone it.acts) runs (drained_is_done catalog steps (subst (λ (it : Machine). IsDrained it) (sym runs) drained))

ends_load : (book : BookView) (m : Machine) (read : Reading) (trace : List Event) → Drains book m trace → ReadsLast read trace → EndsLoad book read trace
ends_load book m read trace d reads = record {
  load = load;
  done = record {
    older = d.tells.older;
    last = d.tells.last;
    ended = has_to load.events event.TookEnd (end_there read m.acts load.events are d.ended);
    committed_are = held_are_uncommitted read m.acts load.events are ∙ (uncommitted_are m (reached_good book m d.reached) ∙ ap (map entry_of) d.held);
    acts = m.acts;
    are = are;
    echoes = record { lanes = lines_lane (ids book) [] (taken m.acts) d.reached.good; echoed_are = (done_of book.catalog m d.reached.steps d.reached.runs d.drained).echoed_all };
  };
  statuses = statuses;
  complete = λ number stream configured. (
    (λ complete. complete_is (last_status stream.id (lines_read read (tooks load.events))) (ap is_complete (sym (statuses number stream configured)) ∙ complete)),
    (λ complete. ap is_complete (statuses number stream configured ∙ ap (λ (it : Option StreamStatus). Some it) complete)),
  );
}
  where
    load : Load
    load = d.tells.load

    right : IsReading read d.tells.load.events
    right = subst (ReadsFirst read) d.tells.last reads

    are : AreActs read m.acts d.tells.load.events
    are = subst (λ (list : List Act). AreActs read list d.tells.load.events) (append-nil m.acts) (d.tells.acts_are read right)

    statuses : (number : ℕ) (stream : ConfStream) → slice_get book.catalog number ≡ Some stream → slice_get book.statuses number ≡ Some (last_status stream.id (lines_read read (tooks d.tells.load.events)))
    statuses number stream configured =
        d.holds.statuses number stream.id (slice_get-map (λ (it : ConfStream). it.id) book.catalog number ∙ ap (option_map (λ (it : ConfStream). it.id)) configured)
        ∙ ap (λ lines. Some (last_status stream.id lines)) (acts_taken read m.acts d.tells.load.events are)

pub drained_ends_load : DrainedEndsLoad
drained_ends_load book read trace d reads = ends_load book d.book_is.machine read trace (drains book trace d) reads

pub ends_finished : EndsFinished
ends_finished book read trace d reads done complete =
    let ends = drained_ends_load book read trace d reads in
    record {
      load = ends.load;
      done = ends.done;
      complete = λ number stream configured. (ends.complete number stream configured).0 (complete number stream configured);
      each = λ number stream configured. done number stream configured (complete number stream configured);
    }

pub ends_incomplete : EndsIncomplete
ends_incomplete book read trace number d reads done first =
    let ends = drained_ends_load book read trace d reads in
    record {
      load = ends.load;
      done = ends.done;
      each = λ other stream configured complete. done other stream configured ((ends.complete other stream configured).1 complete);
      stream = first.stream;
      configured = first.configured;
      incomplete = λ complete. false≢true (sym first.incomplete ∙ (ends.complete number first.stream first.configured).1 complete);
      before = λ other stream below configured. (ends.complete other stream configured).0 (first.before other below);
    }
