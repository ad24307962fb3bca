-- The steps of a call on the input.
use Rattle.std.proofs.Common.{arith, ◌≡◌, ◌≢◌, ℕ, ◌+◌, List, [], ◌∷◌, ◌++◌, refl, sym, ◌∙◌, ap, subst, Option, None, Some, Ok, Err}
use Rattle.std.specs.List.{AllByRecursion}
use Rattle.std.proofs.lemmas.List.{length-append}
use Rattle.airbyte_message.specs.State.{State}
use Rattle.airbyte_message.specs.declared.message.StateKind.TheVariants.{Legacy}
use Rattle.outside.specs.Dock.{DockSeen}
use Rattle.outside.specs.declared.fault.Fault.{Fault}
use Rattle.outside.specs.declared.link.Polled.{Polled}
use Rattle.outside.specs.declared.status.Status.{Status}
use Rattle.state_gate.specs.Content.{Content, count_in}
use Rattle.state_gate.specs.Views.{GateView, Stands}
use Rattle.state_gate.specs.declared.pending.Lane.{Lane as GateLane}
use Rattle.state_gate.specs.declared.pending.Waiting.{Waiting}
use Rattle.book_rules.specs.declared.answer.Accepted.{Accepted}
use Rattle.book_rules.specs.declared.answer.Accepted.TheVariants as accepted
use Rattle.book_rules.specs.declared.answer.Lanes.{Lanes}
use Rattle.book_rules.specs.Accepts.{Breaks, GateTakesState, Takes, TakesNext, with_last}
use Rattle.book_rules.specs.Docks.{Polls}
use Rattle.book_rules.specs.Holds.{CanRelease, HasKind}
use Rattle.book_rules.specs.Releases.{Point, ReleaseAnswer, stop_of}
use Rattle.book_rules.specs.Views.{BookView}
use Rattle.book_parts.specs.Steps.{MayRelease, PutsState}

-- what a poll gave is taken
pub takes_next : (result : Accepted) (own old new : BookView) (given : Polled) (seen : DockSeen) → own ≡ old → Polls given own.seen seen → Takes given result (record own { seen = seen }) new → TakesNext result old new
takes_next result own old new given seen same polls takes = subst (λ (one : BookView). TakesNext result one new) same (record { given = given; seen = seen; polls = polls; takes = takes })

-- the gate takes a state
pub gate_takes : (lane : GateLane) (state : State) (old new : GateView) (room : ℕ) → new ≡ record old { kept = new.kept; states = old.states + 1; state_room = room } → ((content : Content) → Stands content old → Stands (with_last lane state old content) new) → GateTakesState lane state old new
gate_takes lane state old new room view content = record {
  content = content;
  streams = ap (λ (gate : GateView). gate.streams) view;
  next = ap (λ (gate : GateView). gate.next) view;
  states = ap (λ (gate : GateView). gate.states) view;
}

kinds_more : (waiting : List Waiting) (last : Waiting) → AllByRecursion HasKind waiting → HasKind last → AllByRecursion HasKind (waiting ++ last ∷ [])
kinds_more [] last have own = (own, tt)
kinds_more (first ∷ more) last have own = (have.0, kinds_more more last have.1 own)

pub may_release : (emitted : ℕ) (lane : GateLane) (state : State) (old new : GateView) → CanRelease emitted old → state.kind ≢ Legacy → GateTakesState lane state old new → MayRelease emitted new
may_release emitted lane state old new can kind takes =
    let last : Waiting = record { pending = record { lane = lane; state = state; count = count_in can.content lane; number = old.states }; behind = old.next } in
    let long = length-append can.content.waiting (last ∷ []) in
    record {
      content = with_last lane state old can.content;
      stands = takes.content can.content can.stands;
      kinds = kinds_more can.content.waiting last can.kinds kind;
      room = omega (arith, long, can.room);
    }

abbrev put_state : BookView → Lanes → DockSeen → GateView → ℕ → BookView
put_state book kind seen gate emitted = record book { seen = seen; gate = gate; tally = record (book.tally) { emitted = emitted; lanes = Some kind } }

abbrev from_point : GateView → BookView → Point
from_point gate book = record { gate = gate; seen = book.seen; emitted = book.tally.emitted }

abbrev to_point : GateView → DockSeen → ℕ → Point
to_point gate seen emitted = record { gate = gate; seen = seen; emitted = emitted }

pub puts_ok : (lane : GateLane) (state : State) (kind : Lanes) (own old : BookView) (gate after : GateView) (seen : DockSeen) (emitted : ℕ) → own ≡ old → own.tally.broken ≡ None → GateTakesState lane state own.gate gate → ReleaseAnswer {T = Unit {0}} (Ok tt) (from_point gate own) (to_point after seen emitted) → PutsState lane state kind accepted.Took old (put_state own kind seen after emitted)
puts_ok lane state kind own old gate after seen emitted same whole takes releases =
    subst (λ (one : BookView). PutsState lane state kind accepted.Took one (put_state own kind seen after emitted)) same
    (record {
      gate = gate;
      takes = takes;
      released = Ok tt;
      answer = refl;
      releases = releases;
      is = ap (λ (broken : Option Status). record own { seen = seen; gate = after; tally = record (own.tally) { emitted = emitted; lanes = Some kind; broken = broken } }) whole;
    })

pub puts_err : (lane : GateLane) (state : State) (kind : Lanes) (own old new : BookView) (gate after : GateView) (seen : DockSeen) (emitted : ℕ) (why : Fault) (stop : Status) (result : Accepted) → own ≡ old → GateTakesState lane state own.gate gate → ReleaseAnswer {T = Unit {0}} (Err why) (from_point gate own) (to_point after seen emitted) → stop ≡ stop_of why → Breaks stop result (put_state own kind seen after emitted) new → PutsState lane state kind result old new
puts_err lane state kind own old new gate after seen emitted why stop result same takes releases stop_is breaks =
    let end : BookView = record own { seen = seen; gate = after; tally = record (own.tally) { emitted = emitted; lanes = Some kind; broken = Some (stop_of why) } } in
    let new_is : new ≡ end = breaks.is ∙ ap (λ (one : Status). record own { seen = seen; gate = after; tally = record (own.tally) { emitted = emitted; lanes = Some kind; broken = Some one } }) stop_is in
    let puts : PutsState lane state kind (accepted.Broken (stop_of why)) own end = record { gate = gate; takes = takes; released = Err why; answer = refl; releases = releases; is = refl } in
    let result_is : result ≡ accepted.Broken (stop_of why) = breaks.answer ∙ ap accepted.Broken stop_is in
    subst (λ (one : BookView). PutsState lane state kind result one new) same (subst (λ (one : BookView). PutsState lane state kind result own one) (sym new_is) (subst (λ (one : Accepted). PutsState lane state kind one own end) (sym result_is) puts))
