-- A batch of a queue, and what the gate has of it.
use Rattle.std.proofs.Common.{arith, ◌≡◌, ◌⊎◌, inl, inr, ℕ, ◌+◌, ◌<◌, List, [], ◌∷◌, ◌++◌, map, refl, sym, ◌∙◌, ap, subst, true, false, Some, unwrap_or}
use Rattle.std.specs.Prelude.{All, Contains, ◌==◌, option_to_list}
use Rattle.std.specs.List.{AllByRecursion, list_any}
use Rattle.std.proofs.lemmas.Bool.{cases_Bool, false≢true}
use Rattle.std.proofs.lemmas.List.Elements.{All-contains_itself, All-from_recursion, recursion_from_All}
use Rattle.std.proofs.lemmas.Option.{none-some}
use Rattle.state_gate.specs.Content.{AreDistinct, AreUncommitted, Content, with_committed}
use Rattle.state_gate.specs.Views.{GateView, Stands}
use Rattle.state_gate.specs.declared.pending.Accepted.{Accepted}
use Rattle.book_queue.specs.Content.{Held, IsBatchOf, IsQueue, QueueView, RiseBetween, all_of, batch_of, is_in_batch, is_ready, ready_of}
use Rattle.book_rules.specs.Holds.{CanPut, accepted_of}
use Rattle.book_rules.specs.Puts.{GateCommits, seqs_of}
use Rattle.book_rules.specs.Views.{BookView}
use Rattle.book_parts.specs.Steps.{MayRelease}

-- The sequences of a batch

none_below : (seq low high batch : ℕ) (xs ys : List Held) → seq < low → RiseBetween low high (xs ++ ys) → list_any (λ other. other == seq) (seqs_of (batch_of batch xs)) ≡ false
none_below seq low high batch [] ys below rise = refl
none_below seq low high batch (held ∷ xs) ys below rise = at (cases_Bool (is_in_batch batch held)) (none_below seq (held.seq + 1) high batch xs ys (omega (arith, rise.0, below)) rise.1)
  where
    above : seq < held.seq
    above = omega (arith, rise.0, below)

    at : (is_in_batch batch held ≡ true) ⊎ (is_in_batch batch held ≡ false) → list_any (λ other. other == seq) (seqs_of (batch_of batch xs)) ≡ false → list_any (λ other. other == seq) (seqs_of (batch_of batch (held ∷ xs))) ≡ false
    at (inl own) rest = rw own (grind (arith, above, rest))
    at (inr other) rest = rw other rest

distinct_seqs : (low high batch : ℕ) (xs ys : List Held) → RiseBetween low high (xs ++ ys) → AreDistinct (seqs_of (batch_of batch xs))
distinct_seqs low high batch [] ys rise = tt
distinct_seqs low high batch (held ∷ xs) ys rise = at (cases_Bool (is_in_batch batch held)) (distinct_seqs (held.seq + 1) high batch xs ys rise.1) (none_below held.seq (held.seq + 1) high batch xs ys (omega arith) rise.1)
  where
    at : (is_in_batch batch held ≡ true) ⊎ (is_in_batch batch held ≡ false) → AreDistinct (seqs_of (batch_of batch xs)) → list_any (λ other. other == held.seq) (seqs_of (batch_of batch xs)) ≡ false → AreDistinct (seqs_of (batch_of batch (held ∷ xs)))
    at (inl own) rest none = rw own (none, rest)
    at (inr other) rest none = rw other rest

-- Its records are uncommitted

all_front : {A B : Type 0} (P : B → Type 0) (f : A → B) (xs ys : List A) → AllByRecursion P (map f (xs ++ ys)) → AllByRecursion (λ x. P (f x)) xs
all_front P f [] ys all = tt
all_front P f (x ∷ xs) ys all = (all.0, all_front P f xs ys all.1)

abbrev IsKnown : List Accepted → ℕ → ℕ → Type 0
IsKnown all stream seq = Contains all (record { seq = seq; stream = stream })

known_each : (all : List Accepted) (stream batch : ℕ) (xs : List Held) → AllByRecursion (λ one. Contains all (accepted_of one)) xs → AllByRecursion (λ one. is_in_batch batch one ≡ true → one.stream ≡ stream) xs → AllByRecursion (IsKnown all stream) (seqs_of (batch_of batch xs))
known_each all stream batch [] within alike = tt
known_each all stream batch (held ∷ xs) within alike = at (cases_Bool (is_in_batch batch held)) (known_each all stream batch xs within.1 alike.1)
  where
    at : (is_in_batch batch held ≡ true) ⊎ (is_in_batch batch held ≡ false) → AllByRecursion (IsKnown all stream) (seqs_of (batch_of batch xs)) → AllByRecursion (IsKnown all stream) (seqs_of (batch_of batch (held ∷ xs)))
    at (inl own) rest = let here : IsKnown all stream held.seq = subst (λ one. IsKnown all one held.seq) (alike.0 own) within.0 in rw own (here, rest)
    at (inr other) rest = rw other rest

are_uncommitted : (content : Content) (stream batch : ℕ) (queue : QueueView) → content.uncommitted ≡ map accepted_of (all_of queue) → IsQueue queue → IsBatchOf stream batch queue.held → AreUncommitted content stream (seqs_of (batch_of batch queue.held))
are_uncommitted content stream batch queue known is of =
    let all : List Accepted = map accepted_of (all_of queue) in
    let within : AllByRecursion (λ one. Contains all (accepted_of one)) queue.held = all_front (Contains all) accepted_of queue.held (option_to_list queue.parked) (recursion_from_All (Contains all) all (All-contains_itself all)) in
    let each : All (IsKnown all stream) (seqs_of (batch_of batch queue.held)) = All-from_recursion (IsKnown all stream) (seqs_of (batch_of batch queue.held)) (known_each all stream batch queue.held within of.all) in
    record {
      distinct = distinct_seqs 0 queue.next batch queue.held (option_to_list queue.parked) is.rise;
      are = subst (λ list. All (IsKnown list stream) (seqs_of (batch_of batch queue.held))) (sym known) each;
    }

-- The gate knows that a batch is committed

pub gate_commits : (book : BookView) (stream batch : ℕ) (seqs : List ℕ) (new : GateView) → CanPut book → IsQueue book.queue → IsBatchOf stream batch book.queue.held → seqs ≡ seqs_of (batch_of batch book.queue.held) → new ≡ record (book.gate) { kept = new.kept } → ((content : Content) → Stands content book.gate → AreUncommitted content stream seqs → Stands (with_committed content seqs) new) → GateCommits (seqs_of (batch_of batch book.queue.held)) book.gate new
gate_commits book stream batch seqs new can is of seqs_are view commits =
    let own : List ℕ = seqs_of (batch_of batch book.queue.held) in
    let known = (λ (content : Content) (stands : Stands content book.gate). ap (λ (one : Content). one.uncommitted) (sym stands ∙ can.stands) ∙ can.uncommitted) in
    let commits_own : (content : Content) → Stands content book.gate → AreUncommitted content stream own → Stands (with_committed content own) new = subst (λ list. (content : Content) → Stands content book.gate → AreUncommitted content stream list → Stands (with_committed content list) new) seqs_are commits in
    record {
      content = λ content stands. commits_own content stands (are_uncommitted content stream batch book.queue (known content stands) is of);
      streams = ap (λ (gate : GateView). gate.streams) view;
      next = ap (λ (gate : GateView). gate.next) view;
      states = ap (λ (gate : GateView). gate.states) view;
    }

pub may_release : (book : BookView) (seqs : List ℕ) (new : GateView) → CanPut book → GateCommits seqs book.gate new → MayRelease book.tally.emitted new
may_release book seqs new can knows = record {
  content = with_committed can.content seqs;
  stands = knows.content can.content can.stands;
  kinds = can.kinds;
  room = omega (arith, can.room);
}

-- Streams are below their number

batch_stream : (streams stream batch : ℕ) (xs ys : List Held) → AllByRecursion (λ one. one.stream < streams) (xs ++ ys) → list_any (is_in_batch batch) xs ≡ true → AllByRecursion (λ one. is_in_batch batch one ≡ true → one.stream ≡ stream) xs → stream < streams
batch_stream streams stream batch [] ys below some alike = absurd (false≢true some)
batch_stream streams stream batch (held ∷ xs) ys below some alike = at (cases_Bool (is_in_batch batch held)) (batch_stream streams stream batch xs ys below.1)
  where
    at : (is_in_batch batch held ≡ true) ⊎ (is_in_batch batch held ≡ false) → (list_any (is_in_batch batch) xs ≡ true → AllByRecursion (λ one. is_in_batch batch one ≡ true → one.stream ≡ stream) xs → stream < streams) → stream < streams
    at (inl own) deeper = subst (λ one. one < streams) (alike.0 own) below.0
    at (inr other) deeper = deeper (rw other at some) alike.1

pub batch_below : (queue : QueueView) (stream batch : ℕ) → IsQueue queue → IsBatchOf stream batch queue.held → stream < queue.streams
batch_below queue stream batch is of = batch_stream queue.streams stream batch queue.held (option_to_list queue.parked) is.of_streams of.some of.all

ready_stream : (streams stream : ℕ) (xs ys : List Held) → AllByRecursion (λ one. one.stream < streams) (xs ++ ys) → ready_of xs ≡ Some stream → stream < streams
ready_stream streams stream [] ys below is = absurd (none-some stream is)
ready_stream streams stream (held ∷ xs) ys below is = at (cases_Bool (is_ready held)) (ready_stream streams stream xs ys below.1)
  where
    at : (is_ready held ≡ true) ⊎ (is_ready held ≡ false) → (ready_of xs ≡ Some stream → stream < streams) → stream < streams
    at (inl ready) deeper = let here = rw ready at is in let same = ap (λ one. unwrap_or one held.stream) here in subst (λ one. one < streams) same below.0
    at (inr other) deeper = deeper (rw other at is)

pub ready_below : (queue : QueueView) (stream : ℕ) → IsQueue queue → ready_of queue.held ≡ Some stream → stream < queue.streams
ready_below queue stream is ready = ready_stream queue.streams stream queue.held (option_to_list queue.parked) is.of_streams ready
