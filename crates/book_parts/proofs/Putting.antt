-- The steps of a put.
use Rattle.std.proofs.Common.{◌≡◌, ◌⊎◌, inl, inr, ℕ, List, [], ◌∷◌, refl, sym, ◌∙◌, ap, subst, Bool, true, false, Option, None, Some, Ok, Err}
use Rattle.std.specs.Prelude.{filter, not}
use Rattle.std.specs.List.{list_any}
use Rattle.std.proofs.lemmas.Bool.{cases_Bool, false≢true}
use Rattle.outside.specs.Dock.{DockSeen}
use Rattle.outside.specs.declared.fault.Fault.{Fault}
use Rattle.outside.specs.declared.fault.Fault.TheVariants as fault
use Rattle.outside.specs.declared.status.Status.{Status}
use Rattle.outside.specs.declared.status.Status.TheVariants as status
use Rattle.batch_prep.specs.declared.item.WorkItem.{WorkItem}
use Rattle.state_gate.specs.Views.{GateView}
use Rattle.book_queue.specs.Content.{Held, QueueView, Sealed, batch_of, is_in_batch, move}
use Rattle.book_rules.specs.declared.answer.Put.{Put}
use Rattle.book_rules.specs.Puts.{GateCommits, GiveBackAnswer, seqs_of}
use Rattle.book_rules.specs.Releases.{Point, ReleaseAnswer, stop_of}
use Rattle.book_rules.specs.Views.{BookView}
use Rattle.book_parts.specs.Batches.{BreaksBy, FreeAnswer, Frees}

abbrev without_batch : ℕ → QueueView → QueueView
without_batch batch queue = record queue { held = filter (λ one. not (is_in_batch batch one)) queue.held }

abbrev freed : BookView → DockSeen → GateView → QueueView → ℕ → BookView
freed book seen gate queue emitted = record book { seen = seen; gate = gate; queue = queue; tally = record (book.tally) { emitted = emitted } }

-- where a release of a freed book begins, and where it ends
abbrev from_point : GateView → BookView → Point
from_point gate book = record { gate = gate; seen = book.seen; emitted = book.tally.emitted }

abbrev to_point : GateView → DockSeen → ℕ → Point
to_point gate seen emitted = record { gate = gate; seen = seen; emitted = emitted }

pub frees_ok : (batch : ℕ) (own old : BookView) (gate after : GateView) (seen : DockSeen) (emitted : ℕ) (queue : QueueView) → own ≡ old → own.tally.broken ≡ None → GateCommits (seqs_of (batch_of batch own.queue.held)) own.gate gate → queue ≡ without_batch batch own.queue → ReleaseAnswer {T = Unit {0}} (Ok tt) (from_point gate own) (to_point after seen emitted) → Frees batch (Ok tt) old (freed own seen after queue emitted)
frees_ok batch own old gate after seen emitted queue same whole knows queue_is releases =
    subst (λ (one : BookView). Frees batch (Ok tt) one (freed own seen after queue emitted)) same
    (record {
      gate = gate;
      knows = knows;
      releases = releases;
      is =
          ap (λ (one : QueueView). freed own seen after one emitted) queue_is
          ∙ ap (λ (broken : Option Status). record own { seen = seen; gate = after; queue = without_batch batch own.queue; tally = record (own.tally) { emitted = emitted; broken = broken } }) whole;
    })

pub frees_err : (batch : ℕ) (own old new : BookView) (gate after : GateView) (seen : DockSeen) (emitted : ℕ) (queue : QueueView) (why : Fault) (stop : Status) (result : Put) → own ≡ old → GateCommits (seqs_of (batch_of batch own.queue.held)) own.gate gate → queue ≡ without_batch batch own.queue → ReleaseAnswer {T = Unit {0}} (Err why) (from_point gate own) (to_point after seen emitted) → stop ≡ stop_of why → BreaksBy stop result (freed own seen after queue emitted) new → FreeAnswer batch result old new
frees_err batch own old new gate after seen emitted queue why stop result same knows queue_is releases stop_is breaks =
    let new_is : new ≡ record own { seen = seen; gate = after; queue = without_batch batch own.queue; tally = record (own.tally) { emitted = emitted; broken = Some (stop_of why) } } =
    breaks.is ∙ (ap (λ (one : QueueView). record own { seen = seen; gate = after; queue = one; tally = record (own.tally) { emitted = emitted; broken = Some stop } }) queue_is
    ∙ ap (λ (one : Status). record own { seen = seen; gate = after; queue = without_batch batch own.queue; tally = record (own.tally) { emitted = emitted; broken = Some one } }) stop_is) in
    let end : BookView = record own { seen = seen; gate = after; queue = without_batch batch own.queue; tally = record (own.tally) { emitted = emitted; broken = Some (stop_of why) } } in
    let frees : Frees batch (Err why) own end = record { gate = gate; knows = knows; releases = releases; is = refl } in
    let here : Frees batch (Err why) old new = subst (λ (one : BookView). Frees batch (Err why) one new) same (subst (λ (one : BookView). Frees batch (Err why) own one) (sym new_is) frees) in
    subst (λ (one : Put). FreeAnswer batch one old new) (sym breaks.answer) (why, stop_is, here)

-- why a commit stopped
abbrev store_stop : Fault → Status
store_stop fault.Failed = status.StoreFault
store_stop fault.NoMemory = status.NoMemory

-- nothing moves where no record is in the batch
none_moves : (batch : ℕ) (held : List Held) → list_any (is_in_batch batch) held ≡ false → move (is_in_batch batch) Sealed held ≡ held
none_moves batch [] none = refl
none_moves batch (one ∷ more) none = at (cases_Bool (is_in_batch batch one)) (none_moves batch more)
  where
    at : (is_in_batch batch one ≡ true) ⊎ (is_in_batch batch one ≡ false) → (list_any (is_in_batch batch) more ≡ false → move (is_in_batch batch) Sealed more ≡ more) → move (is_in_batch batch) Sealed (one ∷ more) ≡ one ∷ more
    at (inl own) deeper = absurd (false≢true (sym none ∙ rw own refl))
    at (inr other) deeper = rw other (ap (λ rest. one ∷ rest) (deeper (rw other at none)))

pub gives_back : (item : WorkItem) (was : Bool) (own old : BookView) (queue : QueueView) → own ≡ old → was ≡ list_any (is_in_batch item.batch) own.queue.held → queue ≡ record (own.queue) { held = move (is_in_batch item.batch) Sealed own.queue.held } → was ≡ true → GiveBackAnswer item None old (record own { queue = queue })
gives_back item was own old queue same was_is back is = subst (λ (one : BookView). GiveBackAnswer item None one (record own { queue = queue })) same (sym was_is ∙ is, ap (λ (one : QueueView). record own { queue = one }) back)

pub strange_back : (item : WorkItem) (was : Bool) (own old : BookView) (queue : QueueView) → own ≡ old → was ≡ list_any (is_in_batch item.batch) own.queue.held → queue ≡ record (own.queue) { held = move (is_in_batch item.batch) Sealed own.queue.held } → was ≡ false → GiveBackAnswer item (Some item) old (record own { queue = queue })
strange_back item was own old queue same was_is back is =
    let none : list_any (is_in_batch item.batch) own.queue.held ≡ false = sym was_is ∙ is in
    let stays : queue ≡ own.queue = back ∙ ap (λ (held : List Held). record (own.queue) { held = held }) (none_moves item.batch own.queue.held none) in
    subst (λ (one : BookView). GiveBackAnswer item (Some item) one (record own { queue = queue })) same (none, refl, ap (λ (one : QueueView). record own { queue = one }) stays)
