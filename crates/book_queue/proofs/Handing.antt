-- Batches that are handed out, put back and let go, as contracts see it.
use Rattle.std.proofs.Common.{arith, ◌≡◌, ℕ, suc, ◌+◌, ◌<◌, ◌≤◌, ◌==◌, ◌^◌, List, [], ◌∷◌, ◌++◌, map, filter, length, take, drop, min, Bool, true, false, not, ◌||◌, nat_lt, refl, sym, ◌∙◌, ap, subst, inl, inr, ◌⊎◌, Option, None, Some, IfSome, IsSome, slice_index_or, slice_set, Result, Ok, Err, IfOk}
use Rattle.std.specs.List.{AllByRecursion, list_any}
use Rattle.std.proofs.Math.Seq.{split_at}
use Rattle.std.proofs.lemmas.Bool.{cases_Bool, cases_lt, false≢true}
use Rattle.std.proofs.lemmas.List.{get_or_read, length-map}
use Rattle.outside.specs.declared.line.SeqLine.{SeqLine}
use Rattle.buffer_pool.specs.declared.slot.Slot.{Slot}
use Rattle.buffer_pool.specs.Content.{PoolView, RiseFrom, chain_of, detached_for, first_of, in_chain, is_free, is_in_chain, with_chain, with_front_detached, with_restored, without_chain}
use Rattle.buffer_pool.specs.Content.{is_queued_of as is_queued_slot, line_of as line_of_slot}
use Rattle.book_queue.specs.declared.lane.Lane.{Lane}
use Rattle.book_queue.specs.declared.batch.Batch.{Batch}
use Rattle.book_queue.specs.declared.batch.Parked.{Parked}
use Rattle.book_queue.specs.Content.{Held, Place, Queued, Sealed, Out, HandsOut, batch_of, is_handed_out, is_in_batch, is_out, is_queued, is_sealed_of, move, move_first, put_in, ready_of}
use Rattle.book_queue.specs.Views.{AreKept, BatchFits, ChainFits, IsKept, IsTakenOut, SlotFits, changed, count_if, held_of, is_sealed_below, lane_at, no_lane, refilled, shrunk, view_of}
use Rattle.book_queue.proofs.Lists.{all_as, all_map, all_middle, and_first, count_apart, count_fewer, count_length, none_any}
use Rattle.book_queue.proofs.Lanes.{SameBehind, behind_same}
use Rattle.book_queue.proofs.Kept.{freed_kept, front_apart, handed_kept, restored_kept}
use Rattle.book_queue.proofs.Numbers.{number_own}
use Rattle.book_queue.proofs.Places.{batch_lines, count_sealed, freed_view, handed_view, held_queued, held_sealed_of, in_batch, in_no_batch, move_all, none_leaves, none_lines, none_moves, places_push, restored_view}
use Rattle.book_queue.proofs.Ready.{ready_has, some_first}
use Rattle.book_queue.proofs.Slots.{chain_count, queued_not_in}
use Rattle.book_queue.proofs.Standing.{StandsAmong, of_batch, seen_as}

-- A batch is handed out

-- what a stream with the oldest sealed record has
pub record IsReady (held : List Slot) (streams : ℕ) (lanes : List Lane) (stream : ℕ) : Type 0 where
  pub below : stream < streams
  pub within : stream < length lanes
  pub some : 1 ≤ (lane_at lanes stream).sealed
  pub fewer : (lane_at lanes stream).sealed ≤ (lane_at lanes stream).queued
  pub first : IsSome (first_of stream held)
  pub apart : IfSome (first_of stream held) (λ front. AllByRecursion (λ slot. is_in_chain front slot ≡ false) held)

pub is_ready : (held : List Slot) (streams next : ℕ) (lanes : List Lane) (out : List Batch) (next_batch stream : ℕ) → AreKept held streams next lanes out next_batch → ready_of (map (held_of lanes out) held) ≡ Some stream → IsReady held streams lanes stream
is_ready held streams next lanes out next_batch stream kept is =
    let has = ready_has lanes out next stream held kept.slots_fit is
    in let below : stream < streams = let within = has.0 in omega (arith, within, kept.long)
    in let fits = kept.lanes_fit stream below
    in let less = count_fewer (is_sealed_below (lane_at lanes stream).behind stream) (is_queued_slot stream) held (λ slot both. and_first (is_queued_slot stream slot) (nat_lt slot.seq (lane_at lanes stream).behind) both)
    in record {
      below = below;
      within = has.0;
      some = let some = has.1 in let sealed = fits.sealed_is in omega (arith, some, sealed);
      fewer = let sealed = fits.sealed_is in let queued = fits.queued_is in omega (arith, less, sealed, queued);
      first = some_first stream held (let some = has.1 in omega (arith, some, less));
      apart = at (first_of stream held) refl;
    }
  where
    at : (first : Option ℕ) → first_of stream held ≡ first → IfSome first (λ front. AllByRecursion (λ slot. is_in_chain front slot ≡ false) held)
    at None same = tt
    at (Some front) same = front_apart held streams next lanes out next_batch stream front kept same

pub lane_found : (lanes : List Lane) (stream : ℕ) (lane : Lane) → stream < length lanes → lane ≡ slice_index_or lanes stream lane → lane ≡ lane_at lanes stream
lane_found lanes stream lane within is = get_or_read lanes stream lane within is no_lane

min_moves : (sealed batch count : ℕ) (test : Held → Bool) (place : Place) (held : List Held) → count ≡ min sealed batch → count_if test held ≡ sealed → move_first test place count held ≡ move_first test place batch held
min_moves sealed batch count test place held is counted = at (cases_lt batch sealed)
  where
    at : (batch < sealed) ⊎ (sealed ≤ batch) → move_first test place count held ≡ move_first test place batch held
    at (inl less) = let same : count ≡ batch = omega (arith, is, less) in ap (λ number. move_first test place number held) same
    at (inr all) = let same : count ≡ sealed = omega (arith, is, all) in move_all test place count batch held (omega (arith, same, counted)) (omega (arith, all, counted))

pub record HandsOutAs (pool after : PoolView) (lanes others : List Lane) (out later : List Batch) (parked : Option Parked) (batch next_batch stream : ℕ) (lines : List SeqLine) : Type 0 where
  pub kept : IsKept after others later parked batch (next_batch + 1)
  pub hands : HandsOut stream next_batch lines (view_of pool lanes out parked batch next_batch) (view_of after others later parked batch (next_batch + 1))

handed_canon : (pool : PoolView) (lanes : List Lane) (out : List Batch) (parked : Option Parked) (batch next_batch stream count chain : ℕ) → IsKept pool lanes out parked batch next_batch → RiseFrom 0 pool.held → IsReady pool.held pool.streams lanes stream → count ≡ min (lane_at lanes stream).sealed batch → first_of stream pool.held ≡ Some chain → HandsOutAs pool (record pool { held = with_chain chain stream count pool.held }) lanes (changed stream (shrunk count (first_of stream (with_chain chain stream count pool.held))) lanes) out (out ++ record { number = next_batch; stream = stream; count = count; chain = chain } ∷ []) parked batch next_batch stream (chain_of chain (with_chain chain stream count pool.held))
handed_canon pool lanes out parked batch next_batch stream count chain kept rise ready counted first =
    let held : List Slot = pool.held
    in let behind : ℕ = (lane_at lanes stream).behind
    in let one : Batch = record { number = next_batch; stream = stream; count = count; chain = chain }
    in let after : List Slot = with_chain chain stream count held
    in let lane : Lane = shrunk count (first_of stream after) (lane_at lanes stream)
    in let others : List Lane = slice_set lanes stream lane
    in let some : 1 ≤ count = let sealed = ready.some in let batches = kept.some in omega (arith, counted, sealed, batches)
    in let few : count ≤ (lane_at lanes stream).sealed = omega (arith, counted)
    in let sealed_is = (kept.are.lanes_fit stream ready.below).sealed_is
    in let fewer : count ≤ count_if (is_sealed_below behind stream) held = omega (arith, few, sealed_is)
    in let are = handed_kept held pool.streams pool.next lanes out next_batch stream count chain 0 kept.are rise ready.below some few first
    in let same : SameBehind lanes others = behind_same lanes stream lane ready.within refl
    in let alike = places_push lanes others out one pool.next held same kept.are.slots_fit
    in let apart = front_apart held pool.streams pool.next lanes out next_batch stream chain kept.are first
    in let own_number : (slot : Slot) → held_of others (out ++ one ∷ []) (in_chain chain slot) ≡ put_in (Out next_batch) (held_of lanes out slot) = λ slot. ap (λ number. record { seq = slot.seq; stream = slot.stream; line = slot.line; place = Out number }) (number_own out [] one are.apart)
    in let moved = handed_view (held_of lanes out) (held_of others (out ++ one ∷ [])) chain stream behind 0 count (Out next_batch) held rise fewer alike own_number (held_sealed_of lanes out stream)
    in let seen = moved ∙ min_moves (lane_at lanes stream).sealed batch count (is_sealed_of stream) (Out next_batch) (map (held_of lanes out) held) counted (count_sealed lanes out stream held ∙ sym sealed_is)
    in let long : length (chain_of chain after) ≡ count = length-map (filter (is_in_chain chain) after) line_of_slot ∙ (count_length (is_in_chain chain) after ∙ chain_count chain stream behind 0 count held rise fewer apart)
    in record {
      kept = record { are = are; may_come = kept.may_come; some = kept.some; counted = kept.counted };
      hands = record {
        numbered = refl;
        goes = seen_as (record pool { held = after }) others (out ++ one ∷ []) parked batch (next_batch + 1) (move_first (is_sealed_of stream) (Out next_batch) batch (map (held_of lanes out) held)) seen;
        lines_are = batch_lines (held_of others (out ++ one ∷ [])) next_batch chain after (in_batch after pool.streams pool.next others out [] one (next_batch + 1) are) (λ slot. refl);
        some = omega (arith, long, some);
        most = omega (arith, long, counted);
      };
    }

pub handed_out : (pool after : PoolView) (lanes others : List Lane) (out later : List Batch) (parked : Option Parked) (batch next_batch stream count chain : ℕ) (front : Option ℕ) (lines : List SeqLine) → IsKept pool lanes out parked batch next_batch → RiseFrom 0 pool.held → IsReady pool.held pool.streams lanes stream → count ≡ min (lane_at lanes stream).sealed batch → first_of stream pool.held ≡ Some chain → after ≡ record pool { held = with_front_detached stream count pool.held } → front ≡ first_of stream after.held → others ≡ changed stream (shrunk count front) lanes → later ≡ out ++ record { number = next_batch; stream = stream; count = count; chain = chain } ∷ [] → lines ≡ chain_of chain after.held → HandsOutAs pool after lanes others out later parked batch next_batch stream lines
handed_out pool after lanes others out later parked batch next_batch stream count chain front lines kept rise ready counted first after_is front_is others_is later_is lines_is =
    let detached : with_front_detached stream count pool.held ≡ with_chain chain stream count pool.held = ap (λ one. detached_for one stream count pool.held) first
    in let pool_is : after ≡ record pool { held = with_chain chain stream count pool.held } = after_is ∙ ap (λ held. record pool { held = held }) detached
    in let front_same : front ≡ first_of stream (with_chain chain stream count pool.held) = front_is ∙ ap (λ one. first_of stream one.held) pool_is
    in let lanes_same : others ≡ changed stream (shrunk count (first_of stream (with_chain chain stream count pool.held))) lanes = others_is ∙ ap (λ one. changed stream (shrunk count one) lanes) front_same
    in let lines_same : lines ≡ chain_of chain (with_chain chain stream count pool.held) = lines_is ∙ ap (λ one. chain_of chain one.held) pool_is
    in subst (λ one. HandsOutAs pool one lanes others out later parked batch next_batch stream lines) (sym pool_is)
    (subst (λ ones. HandsOutAs pool (record pool { held = with_chain chain stream count pool.held }) lanes ones out later parked batch next_batch stream lines) (sym lanes_same)
    (subst (λ ones. HandsOutAs pool (record pool { held = with_chain chain stream count pool.held }) lanes (changed stream (shrunk count (first_of stream (with_chain chain stream count pool.held))) lanes) out ones parked batch next_batch stream lines) (sym later_is)
    (subst (HandsOutAs pool (record pool { held = with_chain chain stream count pool.held }) lanes (changed stream (shrunk count (first_of stream (with_chain chain stream count pool.held))) lanes) out (out ++ record { number = next_batch; stream = stream; count = count; chain = chain } ∷ []) parked batch next_batch stream) (sym lines_same)
    (handed_canon pool lanes out parked batch next_batch stream count chain kept rise ready counted first))))

-- A batch is put back

pub record PutsBackAs (pool after : PoolView) (lanes others : List Lane) (out later : List Batch) (parked : Option Parked) (batch next_batch number : ℕ) : Type 0 where
  pub kept : IsKept after others later parked batch next_batch
  pub was : true ≡ list_any (is_in_batch number) (map (held_of lanes out) pool.held)
  pub goes : view_of after others later parked batch next_batch ≡ record (view_of pool lanes out parked batch next_batch) { held = move (is_in_batch number) Sealed (map (held_of lanes out) pool.held) }

put_back_canon : (pool : PoolView) (lanes : List Lane) (front rest : List Batch) (one : Batch) (parked : Option Parked) (batch next_batch : ℕ) → IsKept pool lanes (front ++ one ∷ rest) parked batch next_batch → PutsBackAs pool (record pool { held = with_restored one.chain pool.held }) lanes (changed one.stream (refilled one.count (first_of one.stream (with_restored one.chain pool.held))) lanes) (front ++ one ∷ rest) (front ++ rest) parked batch next_batch one.number
put_back_canon pool lanes front rest one parked batch next_batch kept =
    let after : List Slot = with_restored one.chain pool.held
    in let lane : Lane = refilled one.count (first_of one.stream after) (lane_at lanes one.stream)
    in let mine = all_middle (BatchFits pool.held pool.streams pool.next next_batch) front rest one kept.are.batches_fit
    in let within : one.stream < length lanes = let less = mine.of_stream in let long = kept.are.long in omega (arith, long, less)
    in record {
      kept = record { are = restored_kept pool.held pool.streams pool.next lanes front rest one next_batch kept.are; may_come = kept.may_come; some = kept.some; counted = kept.counted };
      was = sym (of_batch pool.held pool.streams pool.next lanes front rest one next_batch kept.are).some;
      goes = seen_as (record pool { held = after }) (slice_set lanes one.stream lane) (front ++ rest) parked batch next_batch (move (is_in_batch one.number) Sealed (map (held_of lanes (front ++ one ∷ rest)) pool.held)) (restored_view pool.held pool.streams pool.next lanes (slice_set lanes one.stream lane) front rest one next_batch kept.are (behind_same lanes one.stream lane within refl));
    }

pub puts_back : (pool after : PoolView) (lanes others : List Lane) (out later : List Batch) (parked : Option Parked) (batch next_batch number : ℕ) (one : Batch) → IsKept pool lanes out parked batch next_batch → IsTakenOut number out later one → after ≡ record pool { held = with_restored one.chain pool.held } → others ≡ changed one.stream (refilled one.count (first_of one.stream after.held)) lanes → PutsBackAs pool after lanes others out later parked batch next_batch number
puts_back pool after lanes others out later parked batch next_batch number one kept taken after_is others_is =
    let lanes_same : others ≡ changed one.stream (refilled one.count (first_of one.stream (with_restored one.chain pool.held))) lanes = others_is ∙ ap (λ a. changed one.stream (refilled one.count (first_of one.stream a.held)) lanes) after_is
    in subst (λ a. PutsBackAs pool a lanes others out later parked batch next_batch number) (sym after_is)
    (subst (λ ones. PutsBackAs pool (record pool { held = with_restored one.chain pool.held }) lanes ones out later parked batch next_batch number) (sym lanes_same)
    (subst (λ ones. PutsBackAs pool (record pool { held = with_restored one.chain pool.held }) lanes (changed one.stream (refilled one.count (first_of one.stream (with_restored one.chain pool.held))) lanes) ones later parked batch next_batch number) (sym taken.splits)
    (subst (λ ones. PutsBackAs pool (record pool { held = with_restored one.chain pool.held }) lanes (changed one.stream (refilled one.count (first_of one.stream (with_restored one.chain pool.held))) lanes) (taken.front ++ one ∷ taken.rest) ones parked batch next_batch number) (sym taken.left)
    (subst (PutsBackAs pool (record pool { held = with_restored one.chain pool.held }) lanes (changed one.stream (refilled one.count (first_of one.stream (with_restored one.chain pool.held))) lanes) (taken.front ++ one ∷ taken.rest) (taken.front ++ taken.rest) parked batch next_batch) taken.numbered
    (put_back_canon pool lanes taken.front taken.rest one parked batch next_batch (subst (λ ones. IsKept pool lanes ones parked batch next_batch) taken.splits kept))))))

-- what a batch asks of the queue that it is put back into
pub record HasRoomFor (pool : PoolView) (lanes : List Lane) (one : Batch) : Type 0 where
  pub below : one.stream < pool.streams
  pub within : one.stream < length lanes
  pub queued : (lane_at lanes one.stream).queued + one.count < 2 ^ 32
  pub sealed : (lane_at lanes one.stream).sealed + one.count < 2 ^ 32

pub has_room : (pool : PoolView) (lanes : List Lane) (out later : List Batch) (parked : Option Parked) (batch next_batch number : ℕ) (one : Batch) → IsKept pool lanes out parked batch next_batch → length pool.held ≤ pool.slots → IsTakenOut number out later one → HasRoomFor pool lanes one
has_room pool lanes out later parked batch next_batch number one kept few taken =
    let mine = all_middle (BatchFits pool.held pool.streams pool.next next_batch) taken.front taken.rest one (subst (AllByRecursion (BatchFits pool.held pool.streams pool.next next_batch)) taken.splits kept.are.batches_fit)
    in let fits = kept.are.lanes_fit one.stream mine.of_stream
    in let apart = count_apart (is_queued_slot one.stream) (is_in_chain one.chain) pool.held (λ slot is. queued_not_in one.chain one.stream slot is)
    in let fewer = count_fewer (is_sealed_below (lane_at lanes one.stream).behind one.stream) (is_queued_slot one.stream) pool.held (λ slot both. and_first (is_queued_slot one.stream slot) (nat_lt slot.seq (lane_at lanes one.stream).behind) both)
    in let below = mine.of_stream
    in let counted = mine.count_is
    in let queued_is = fits.queued_is
    in let sealed_is = fits.sealed_is
    in let long = kept.are.long
    in let slots = kept.counted
    in record {
      below = below;
      within = omega (arith, below, long);
      queued = omega (arith, apart, counted, queued_is, few, slots);
      sealed = omega (arith, apart, fewer, counted, sealed_is, few, slots);
    }

-- A batch is let go

pub record LetsGoAs (pool after : PoolView) (lanes : List Lane) (out later : List Batch) (parked : Option Parked) (batch next_batch number : ℕ) : Type 0 where
  pub kept : IsKept after lanes later parked batch next_batch
  pub was : true ≡ list_any (is_in_batch number) (map (held_of lanes out) pool.held)
  pub goes : view_of after lanes later parked batch next_batch ≡ record (view_of pool lanes out parked batch next_batch) { held = filter (λ one. not (is_in_batch number one)) (map (held_of lanes out) pool.held) }

let_go_canon : (pool : PoolView) (lanes : List Lane) (front rest : List Batch) (one : Batch) (parked : Option Parked) (batch next_batch : ℕ) → IsKept pool lanes (front ++ one ∷ rest) parked batch next_batch → LetsGoAs pool (record pool { held = without_chain one.chain pool.held }) lanes (front ++ one ∷ rest) (front ++ rest) parked batch next_batch one.number
let_go_canon pool lanes front rest one parked batch next_batch kept = record {
  kept = record { are = freed_kept pool.held pool.streams pool.next lanes front rest one next_batch kept.are; may_come = kept.may_come; some = kept.some; counted = kept.counted };
  was = sym (of_batch pool.held pool.streams pool.next lanes front rest one next_batch kept.are).some;
  goes = seen_as (record pool { held = without_chain one.chain pool.held }) lanes (front ++ rest) parked batch next_batch (filter (λ other. not (is_in_batch one.number other)) (map (held_of lanes (front ++ one ∷ rest)) pool.held)) (freed_view pool.held pool.streams pool.next lanes front rest one next_batch kept.are);
}

pub lets_go : (pool after : PoolView) (lanes : List Lane) (out later : List Batch) (parked : Option Parked) (batch next_batch number : ℕ) (one : Batch) → IsKept pool lanes out parked batch next_batch → IsTakenOut number out later one → after ≡ record pool { held = without_chain one.chain pool.held } → LetsGoAs pool after lanes out later parked batch next_batch number
lets_go pool after lanes out later parked batch next_batch number one kept taken after_is =
    subst (λ a. LetsGoAs pool a lanes out later parked batch next_batch number) (sym after_is)
    (subst (λ ones. LetsGoAs pool (record pool { held = without_chain one.chain pool.held }) lanes ones later parked batch next_batch number) (sym taken.splits)
    (subst (λ ones. LetsGoAs pool (record pool { held = without_chain one.chain pool.held }) lanes (taken.front ++ one ∷ taken.rest) ones parked batch next_batch number) (sym taken.left)
    (subst (LetsGoAs pool (record pool { held = without_chain one.chain pool.held }) lanes (taken.front ++ one ∷ taken.rest) (taken.front ++ taken.rest) parked batch next_batch) taken.numbered
    (let_go_canon pool lanes taken.front taken.rest one parked batch next_batch (subst (λ ones. IsKept pool lanes ones parked batch next_batch) taken.splits kept)))))

-- No batch has the number

pub record IsStranger (pool : PoolView) (lanes : List Lane) (out later : List Batch) (parked : Option Parked) (batch next_batch number : ℕ) : Type 0 where
  pub none : false ≡ list_any (is_in_batch number) (map (held_of lanes out) pool.held)
  pub moves : view_of pool lanes later parked batch next_batch ≡ record (view_of pool lanes out parked batch next_batch) { held = move (is_in_batch number) Sealed (map (held_of lanes out) pool.held) }
  pub leaves : view_of pool lanes later parked batch next_batch ≡ record (view_of pool lanes out parked batch next_batch) { held = filter (λ one. not (is_in_batch number one)) (map (held_of lanes out) pool.held) }
  pub lines : [] ≡ batch_of number (map (held_of lanes out) pool.held)

pub is_stranger : (pool : PoolView) (lanes : List Lane) (out later : List Batch) (parked : Option Parked) (batch next_batch number : ℕ) → IsKept pool lanes out parked batch next_batch → list_any (λ one. one.number == number) out ≡ false → later ≡ out → IsStranger pool lanes out later parked batch next_batch number
is_stranger pool lanes out later parked batch next_batch number kept none same =
    let outside = all_map (λ one. is_in_batch number one ≡ false) (held_of lanes out) pool.held (in_no_batch pool.held pool.streams pool.next lanes out next_batch number kept.are none)
    in let seen : map (held_of lanes later) pool.held ≡ map (held_of lanes out) pool.held = ap (λ ones. map (held_of lanes ones) pool.held) same
    in record {
      none = sym (none_any (is_in_batch number) (map (held_of lanes out) pool.held) outside);
      moves = seen_as pool lanes later parked batch next_batch (move (is_in_batch number) Sealed (map (held_of lanes out) pool.held)) (seen ∙ none_moves (is_in_batch number) Sealed (map (held_of lanes out) pool.held) outside);
      leaves = seen_as pool lanes later parked batch next_batch (filter (λ one. not (is_in_batch number one)) (map (held_of lanes out) pool.held)) (seen ∙ none_leaves (is_in_batch number) (map (held_of lanes out) pool.held) outside);
      lines = none_lines number (map (held_of lanes out) pool.held) outside;
    }

-- A batch is looked up

pub stands_at : (number index : ℕ) (out : List Batch) (batch : Batch) → index < length out → ((d : Batch) → (slice_index_or out index d).number ≡ number) → batch ≡ slice_index_or out index batch → (found : StandsAmong number out) × (found.batch ≡ batch)
stands_at number index out batch within numbered is = (record { front = take index out; rest = drop (suc index) out; batch = batch; splits = split_at out index batch within ∙ ap (λ one. take index out ++ one ∷ drop (suc index) out) (sym is); numbered = ap (λ one. one.number) is ∙ numbered batch }, refl)

-- the lines of the batch that was found
pub lines_of : (pool : PoolView) (lanes : List Lane) (out : List Batch) (parked : Option Parked) (batch next_batch number index : ℕ) (one : Batch) → IsKept pool lanes out parked batch next_batch → index < length out → ((d : Batch) → (slice_index_or out index d).number ≡ number) → one ≡ slice_index_or out index one → chain_of one.chain pool.held ≡ batch_of number (map (held_of lanes out) pool.held)
lines_of pool lanes out parked batch next_batch number index one kept within numbered is =
    let splits = split_at out index one within ∙ ap (λ middle. take index out ++ middle ∷ drop (suc index) out) (sym is)
    in let own = ap (λ middle. middle.number) is ∙ numbered one
    in subst (λ ones. chain_of one.chain pool.held ≡ batch_of number (map (held_of lanes ones) pool.held)) (sym splits)
    (subst (λ name. chain_of one.chain pool.held ≡ batch_of name (map (held_of lanes (take index out ++ one ∷ drop (suc index) out)) pool.held)) own
    (batch_lines (held_of lanes (take index out ++ one ∷ drop (suc index) out)) one.number one.chain pool.held (in_batch pool.held pool.streams pool.next lanes (take index out) (drop (suc index) out) one next_batch (subst (λ ones. AreKept pool.held pool.streams pool.next lanes ones next_batch) splits kept.are)) (λ slot. refl)))

pub ok_as : {T E : Type 0} (P Q : T → Type 0) (result : Result T E) → IfOk result P → ((value : T) → P value → Q value) → IfOk result Q
ok_as P Q (Ok value) is step = step value is
ok_as P Q (Err error) is step = tt

-- some record is handed out where one is in a batch
pub in_batch_out : (number : ℕ) (place : Place) → is_out number place ≡ true → not (is_queued place) ≡ true
in_batch_out number Queued is = absurd (false≢true is)
in_batch_out number Sealed is = absurd (false≢true is)
in_batch_out number (Out own) is = refl

pub any_out : (number : ℕ) (held : List Held) → list_any (is_in_batch number) held ≡ true → list_any is_handed_out held ≡ true
any_out number [] is = absurd (false≢true is)
any_out number (one ∷ more) is = at (cases_Bool (is_in_batch number one)) (any_out number more)
  where
    or_true : (b : Bool) → b || true ≡ true
    or_true true = refl
    or_true false = refl

    at : (is_in_batch number one ≡ true) ⊎ (is_in_batch number one ≡ false) → (list_any (is_in_batch number) more ≡ true → list_any is_handed_out more ≡ true) → list_any is_handed_out (one ∷ more) ≡ true
    at (inl inside) deeper = rw (in_batch_out number one.place inside) refl
    at (inr outside) deeper = rw (deeper (rw outside at is)) (or_true (is_handed_out one))

-- none is where no batch is
pub none_out : (held : List Slot) (streams next : ℕ) (lanes : List Lane) (next_batch : ℕ) → AreKept held streams next lanes [] next_batch → list_any is_handed_out (map (held_of lanes []) held) ≡ false
none_out held streams next lanes next_batch kept = none_any is_handed_out (map (held_of lanes []) held) (all_map (λ one. is_handed_out one ≡ false) (held_of lanes []) held (all_as (SlotFits lanes [] next) (λ slot. is_handed_out (held_of lanes [] slot) ≡ false) held (λ slot fits. ap not (held_queued lanes [] slot) ∙ free slot fits) kept.slots_fit))
  where
    free : (slot : Slot) → SlotFits lanes [] next slot → not (is_free slot.chain) ≡ false
    free slot fits = at slot.chain fits.chained
      where
        at : (chain : Option ℕ) → ChainFits (lane_at lanes slot.stream).behind [] slot.stream slot.seq chain → not (is_free chain) ≡ false
        at None is = refl
        at (Some chain) is = absurd (false≢true is.1)
