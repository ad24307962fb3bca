-- Batches that are handed out and taken back, and the calls of a dock in memory, as runs of the machine.
use Rattle.std.proofs.Common.{true, arith, ◌≡◌, ℕ, ◌+◌, List, [], ◌∷◌, ◌++◌, length, length-append, Option, None, Some, Result, Ok, Err, refl, sym, ◌∙◌, ap, subst}
use Rattle.std.specs.Prelude.{filter, option_map, option_to_list, slice_get}
use Rattle.std.specs.List.{AllByRecursion, list_any}
use Rattle.std.proofs.lemmas.Option.{slice_get-map}
use Rattle.basics.specs.declared.stream.StreamId.{StreamId}
use Rattle.catalog.specs.declared.stream.ConfStream.{ConfStream}
use Rattle.stream_index.specs.Distinct.{AreDistinct}
use Rattle.batch_prep.specs.declared.item.WorkItem.{WorkItem}
use Rattle.outside.specs.declared.status.Status.{Status}
use Rattle.book_queue.specs.Content as queue
use Rattle.book_queue.specs.Content.{Held, QueueView, all_of}
use Rattle.load_rules.specs.Machine.{Machine, Placed, Step, Accept, End, Seal, HandOut, Commit, TakeBack, Release, Turn, happens, hands_out, is_out, run}
use Rattle.book_rules.specs.Books.{CountsRecords, IsBookOf, IsGiveBackRun, IsPickRun, IsRecallRun, IsTakingBack, Runs, RunsTo}
use Rattle.book_rules.specs.Puts.{GiveBackAnswer, PickAnswer, Picks, recalled}
use Rattle.book_rules.specs.Views.{BookView, ids}
use Rattle.book_rules.proofs.Accepting.{quiet_as}
use Rattle.book_rules.proofs.Lists.{none_is}
use Rattle.book_rules.proofs.Moves.{length_first, length_move}
use Rattle.book_rules.proofs.Sealing.{IsPicking, give_back_leads, hand_out_leads, recall_leads}
use Rattle.book_rules.proofs.Whole.{IsWhole, Leads, book_of_whole, whole_of}

-- steps that commit, take and release nothing
abbrev IsMoving : Step → Type 0
IsMoving (HandOut id count batch) = Unit {0}
IsMoving (TakeBack id batch) = Unit {0}
IsMoving step = ⊥

record KeepsActs (m now : Machine) : Type 0 where
  acts : now.acts ≡ m.acts
  waiting : now.waiting ≡ m.waiting

hand_out_keeps : (m : Machine) (id : StreamId) (count batch : ℕ) (others : List Placed) → KeepsActs m (hands_out m id count batch others)
hand_out_keeps m id count batch [] = record { acts = refl; waiting = refl }
hand_out_keeps m id count batch (other ∷ others) = record { acts = refl; waiting = refl }

moves_keep : (catalog : List ConfStream) (steps : List Step) (m : Machine) → AllByRecursion IsMoving steps → KeepsActs m (run catalog steps m)
moves_keep catalog [] m all = record { acts = refl; waiting = refl }
moves_keep catalog (HandOut id count batch ∷ steps) m all =
    let now = happens catalog m (HandOut id count batch) in
    let first = hand_out_keeps m id count batch (filter (λ (one : Placed). is_out batch one.place) m.placed) in
    let then = moves_keep catalog steps now all.1 in
    record { acts = then.acts ∙ first.acts; waiting = then.waiting ∙ first.waiting }
moves_keep catalog (TakeBack id batch ∷ steps) m all =
    let then = moves_keep catalog steps (happens catalog m (TakeBack id batch)) all.1 in
    record { acts = then.acts; waiting = then.waiting }
moves_keep catalog (Accept line ∷ steps) m all = absurd all.0
moves_keep catalog (End ∷ steps) m all = absurd all.0
moves_keep catalog (Seal id count ∷ steps) m all = absurd all.0
moves_keep catalog (Commit number id batch rows ∷ steps) m all = absurd all.0
moves_keep catalog (Release ∷ steps) m all = absurd all.0
moves_keep catalog (Turn ∷ steps) m all = absurd all.0

all_moving : (P : Step → Type 0) (steps : List Step) → ((step : Step) → P step → IsMoving step) → AllByRecursion P steps → AllByRecursion IsMoving steps
all_moving P [] kind all = tt
all_moving P (step ∷ steps) kind all = (kind step all.0, all_moving P steps kind all.1)

picking_moves : (step : Step) → IsPicking step → IsMoving step
picking_moves (HandOut id count batch) is = tt
picking_moves (TakeBack id batch) is = absurd is
picking_moves (Accept line) is = absurd is
picking_moves End is = absurd is
picking_moves (Seal id count) is = absurd is
picking_moves (Commit number id batch rows) is = absurd is
picking_moves Release is = absurd is
picking_moves Turn is = absurd is

taking_moves : (step : Step) → IsTakingBack step → IsMoving step
taking_moves (TakeBack id batch) is = tt
taking_moves (HandOut id count batch) is = absurd is
taking_moves (Accept line) is = absurd is
taking_moves End is = absurd is
taking_moves (Seal id count) is = absurd is
taking_moves (Commit number id batch rows) is = absurd is
taking_moves Release is = absurd is
taking_moves Turn is = absurd is

same_long : (now held rest : List Held) → length now ≡ length held → length (now ++ rest) ≡ length (held ++ rest)
same_long now held rest same = let a = length-append now rest in let b = length-append held rest in omega (arith, a, b, same)

-- A book that is broken keeps its run, whatever its queue has: nothing else is known of it.
broken_moved : (book : BookView) (m : Machine) (now : QueueView) (stop : Status) → length (all_of now) ≡ length (all_of book.queue) → book.tally.broken ≡ Some stop → IsBookOf book m → IsBookOf (record book { queue = now }) m
broken_moved book m now stop long broken is = record {
  reached = record { steps = is.reached.steps; runs = is.reached.runs; safe = is.reached.safe; bounded = is.reached.bounded; unused = is.reached.unused; unused_are = is.reached.unused_are; used = is.reached.used; told = is.reached.told; tallied = is.reached.tallied; good = is.reached.good; why = is.reached.why; counted = subst (λ (held : ℕ). CountsRecords book.tally.broken book.gate.next held m.acts) (sym long) is.reached.counted };
  holds = λ none. absurd (none_is stop (sym broken ∙ none));
  quiet = λ none. absurd (none_is stop (sym broken ∙ none));
}

-- moves lead to the book's queue, where it is not broken
requeued_runs : (shape : List Step → Type 0) (P : Step → Type 0) (old : BookView) (now : QueueView) (m : Machine) → length (all_of now) ≡ length (all_of old.queue) → shape [] → ((steps : List Step) → AllByRecursion P steps → shape steps) → ((step : Step) → P step → IsMoving step) → ((whole : IsWhole old m) → Leads P old.catalog (record old { queue = now }) m) → (broken : Option Status) → old.tally.broken ≡ broken → IsBookOf old m → RunsTo shape old (record old { queue = now }) m
requeued_runs shape P old now m long none shaped kind leads (Some stop) broken is = record { steps = []; shaped = none; leads = broken_moved old m now stop long broken is }
requeued_runs shape P old now m long none shaped kind leads None broken is =
    let l = leads (whole_of old m broken is) in
    let keeps = moves_keep old.catalog l.steps m (all_moving P l.steps kind l.all) in
    record { steps = l.steps; shaped = shaped l.steps l.all; leads = book_of_whole (record old { queue = now }) (run old.catalog l.steps m) l.leads (quiet_as m (run old.catalog l.steps m) keeps.acts keeps.waiting (is.quiet broken)) }

as_before : (shape : List Step → Type 0) (old new : BookView) (m : Machine) → shape [] → new ≡ old → IsBookOf old m → RunsTo shape old new m
as_before shape old new m none same is = record { steps = []; shaped = none; leads = subst (λ (it : BookView). IsBookOf it m) (sym same) is }

runs_as : (shape : List Step → Type 0) (old one other : BookView) (m : Machine) → other ≡ one → RunsTo shape old one m → RunsTo shape old other m
runs_as shape old one other m same runs = subst (λ (it : BookView). RunsTo shape old it m) (sym same) runs

-- A batch is handed out

picked_runs : (item : WorkItem) (old new : BookView) (m : Machine) → AreDistinct (ids old) → Picks item old new → IsBookOf old m → RunsTo IsPickRun old new m
picked_runs item old new m distinct p is = runs_as IsPickRun old (record old { queue = now }) new m (p.is ∙ ap (λ (it : QueueView). record old { queue = it }) goes) (at old.tally.broken refl)
  where
    now : QueueView
    now = record (old.queue) { held = queue.move_first (queue.is_sealed_of p.number) (queue.Out old.queue.next_batch) old.queue.batch old.queue.held; next_batch = old.queue.next_batch + 1 }

    goes : new.queue ≡ now
    goes = p.goes.goes ∙ ap (λ n. record (old.queue) { held = queue.move_first (queue.is_sealed_of p.number) (queue.Out n) old.queue.batch old.queue.held; next_batch = n + 1 }) p.goes.numbered

    named : slice_get (ids old) p.number ≡ Some p.plan.stream.id
    named = slice_get-map (λ (stream : ConfStream). stream.id) old.catalog p.number ∙ ap (option_map (λ (stream : ConfStream). stream.id)) p.plan.configured

    at : (broken : Option Status) → old.tally.broken ≡ broken → RunsTo IsPickRun old (record old { queue = now }) m
    at (Some stop) broken = record { steps = []; shaped = tt; leads = broken_moved old m now stop (same_long (queue.move_first (queue.is_sealed_of p.number) (queue.Out old.queue.next_batch) old.queue.batch old.queue.held) old.queue.held (option_to_list old.queue.parked) (length_first (queue.is_sealed_of p.number) (queue.Out old.queue.next_batch) old.queue.batch old.queue.held)) broken is }
    at None broken =
        let l = hand_out_leads old m p.number p.plan.stream.id distinct named (whole_of old m broken is) in
        let keeps = moves_keep old.catalog l.steps m (all_moving IsPicking l.steps picking_moves l.all) in
        record { steps = l.steps; shaped = l.once; leads = book_of_whole (record old { queue = now }) (run old.catalog l.steps m) l.leads (quiet_as m (run old.catalog l.steps m) keeps.acts keeps.waiting (is.quiet broken)) }

pub pick_runs : {T : Type 0} (result : Result (Option WorkItem) T) (old new : BookView) → AreDistinct (ids old) → PickAnswer result old new → Runs IsPickRun old new
pick_runs (Ok (Some item)) old new distinct answer m is = picked_runs item old new m distinct answer is
pick_runs (Ok None) old new distinct answer m is = as_before IsPickRun old new m tt answer.1 is
pick_runs (Err why) old new distinct answer m is = as_before IsPickRun old new m tt answer is

-- Batches are taken back

given_back_runs : (item : WorkItem) (old : BookView) (m : Machine) → AreDistinct (ids old) → list_any (queue.is_in_batch item.batch) old.queue.held ≡ true → IsBookOf old m → RunsTo (IsGiveBackRun item.batch) old (record old { queue = record (old.queue) { held = queue.move (queue.is_in_batch item.batch) queue.Sealed old.queue.held } }) m
given_back_runs item old m distinct some is = at old.tally.broken refl
  where
    now : QueueView
    now = record (old.queue) { held = queue.move (queue.is_in_batch item.batch) queue.Sealed old.queue.held }

    at : (broken : Option Status) → old.tally.broken ≡ broken → RunsTo (IsGiveBackRun item.batch) old (record old { queue = now }) m
    at (Some stop) broken = record { steps = []; shaped = tt; leads = broken_moved old m now stop (same_long (queue.move (queue.is_in_batch item.batch) queue.Sealed old.queue.held) old.queue.held (option_to_list old.queue.parked) (length_move (queue.is_in_batch item.batch) queue.Sealed old.queue.held)) broken is }
    at None broken =
        let l = give_back_leads old m item.batch distinct some (whole_of old m broken is) in
        let keeps = moves_keep old.catalog l.steps m (all_moving IsTakingBack l.steps taking_moves l.all) in
        record { steps = l.steps; shaped = l.once; leads = book_of_whole (record old { queue = now }) (run old.catalog l.steps m) l.leads (quiet_as m (run old.catalog l.steps m) keeps.acts keeps.waiting (is.quiet broken)) }

pub give_back_runs : (item : WorkItem) (result : Option WorkItem) (old new : BookView) → AreDistinct (ids old) → GiveBackAnswer item result old new → Runs (IsGiveBackRun item.batch) old new
give_back_runs item None old new distinct answer m is = runs_as (IsGiveBackRun item.batch) old _ new m answer.1 (given_back_runs item old m distinct answer.0 is)
give_back_runs item (Some back) old new distinct answer m is = as_before (IsGiveBackRun item.batch) old new m tt answer.2 is

pub recall_runs : (old new : BookView) → new ≡ recalled old → Runs IsRecallRun old new
recall_runs old new answer m is = runs_as IsRecallRun old (recalled old) new m answer (requeued_runs IsRecallRun IsTakingBack old (record (old.queue) { held = queue.move queue.is_handed_out queue.Sealed old.queue.held }) m (same_long (queue.move queue.is_handed_out queue.Sealed old.queue.held) old.queue.held (option_to_list old.queue.parked) (length_move queue.is_handed_out queue.Sealed old.queue.held)) tt (λ steps all. all) taking_moves (λ whole. recall_leads old m whole) old.tally.broken refl is)
