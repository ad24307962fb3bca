-- Calls of a dock one after another.
use Rattle.std.proofs.Common.{◌≡◌, ℕ, ◌+◌, ◌≤◌, List, [], ◌∷◌, ◌++◌, Option, None, Some, refl, sym, ◌∙◌, ap, subst, append_assoc, arith}
use Rattle.std.specs.Prelude.{filter_map, option_to_list, false}
use Rattle.std.specs.List.{AllByRecursion}
use Rattle.std.proofs.lemmas.List.{append-nil}
use Rattle.basics.specs.Told.{told_more}
use Rattle.outside.specs.Link.{Told}
use Rattle.outside.specs.Hand.{Hand, HandMoved, HandMoves, unread}
use Rattle.outside.specs.Dock.{DockSeen, NoneFell, IsToldBetween, DockGrew, DockMoves, ReadAtMost, dock_events, is_opening}
use Rattle.outside.specs.declared.dock.DockTally.{DockTally}
use Rattle.outside.specs.declared.event.Event.{Event}
use Rattle.outside.specs.Event.{took_in, emitted_in}
use Rattle.outside.proofs.ToldLaws.{told_none, told_both, all_both, all_map}

pub none_fell_refl : (a : DockTally) → NoneFell a a
none_fell_refl a = record { read_faults = omega arith; store_faults = omega arith; write_faults = omega arith; quiet = omega arith; opens = omega arith }

pub none_fell_trans : (a b c : DockTally) → NoneFell a b → NoneFell b c → NoneFell a c
none_fell_trans a b c p q = record { read_faults = omega arith; store_faults = omega arith; write_faults = omega arith; quiet = omega arith; opens = omega arith }

between_wider : (a b c d : DockTally) → NoneFell a b → NoneFell c d → (told : Told Event DockTally) → IsToldBetween b c told → IsToldBetween a d told
between_wider a b c d low high told is = record { not_below = none_fell_trans a b told.counts low is.not_below; not_above = none_fell_trans told.counts c d is.not_above high }

pub dock_grew_refl : (a : DockSeen) → DockGrew a a
dock_grew_refl a = record { counts = none_fell_refl a.counts; more = []; grew = sym (told_none a.trace); timed = tt }

pub dock_grew_trans : (a b c : DockSeen) → DockGrew a b → DockGrew b c → DockGrew a c
dock_grew_trans a b c p q = record {
  counts = none_fell_trans a.counts b.counts c.counts p.counts q.counts;
  more = p.more ++ q.more;
  grew = told_both p.more q.more a.trace b.trace c.trace p.grew q.grew;
  timed = all_both (IsToldBetween a.counts c.counts) p.more q.more
      (all_map (IsToldBetween a.counts b.counts) (IsToldBetween a.counts c.counts) p.more (between_wider a.counts a.counts b.counts c.counts (none_fell_refl a.counts) q.counts) p.timed)
      (all_map (IsToldBetween b.counts c.counts) (IsToldBetween a.counts c.counts) q.more (between_wider a.counts b.counts c.counts c.counts p.counts (none_fell_refl c.counts)) q.timed);
}

-- What moves through the hand

hand_still : (hand : Option Hand) → HandMoves [] hand hand
hand_still None = refl
hand_still (Some hand) = record { after = hand; is = refl; taken = refl; emitted = sym (append-nil hand.output); open_is = refl }

-- nothing was added, and the hand stayed
pub moves_none : (old new : DockSeen) → dock_events new ≡ dock_events old → new.face.hand ≡ old.face.hand → DockMoves old new
moves_none old new events hand = record {
  more = [];
  events = events ∙ sym (told_none (dock_events old));
  goes_on = tt;
  hand = subst (λ (h : Option Hand). HandMoves [] old.face.hand h) (sym hand) (hand_still old.face.hand);
}

-- a call that moves nothing, and then one that moves
pub moves_after : (old mid new : DockSeen) → dock_events mid ≡ dock_events old → mid.face.hand ≡ old.face.hand → DockMoves mid new → DockMoves old new
moves_after old mid new events hand moves = record {
  more = moves.more;
  events = moves.events ∙ ap (λ (t : Option (List Event)). told_more moves.more t) events;
  goes_on = moves.goes_on;
  hand = subst (λ (h : Option Hand). HandMoves moves.more h new.face.hand) hand moves.hand;
}

-- Rows read

pub read_none : (a b : ℕ) → b ≡ a → ReadAtMost 0 a b
read_none a b same = record { kept = omega arith; most = omega arith }

pub read_more : (n m a b c : ℕ) → ReadAtMost n a b → ReadAtMost m b c → ReadAtMost (n + m) a c
read_more n m a b c p q = let x = p.kept in let y = p.most in let z = q.kept in let w = q.most in record { kept = omega arith; most = omega arith }

pub read_wider : (n m a b : ℕ) → n ≤ m → ReadAtMost n a b → ReadAtMost m a b
read_wider n m a b wider read = let x = read.kept in let y = read.most in record { kept = omega arith; most = omega arith }
