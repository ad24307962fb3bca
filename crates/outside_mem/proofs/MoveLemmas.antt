-- What a call moves through the hand of a dock in memory.
use Rattle.std.proofs.Common.{◌≡◌, ℕ, List, [], ◌∷◌, ◌++◌, map, Bool, true, false, Option, None, Some, refl, sym, ◌∙◌, ap}
use Rattle.std.proofs.lemmas.List.{append-nil}
use Rattle.outside.specs.declared.dock.DockTally.{DockTally}
use Rattle.outside.specs.declared.event.Event.{Event}
use Rattle.outside.specs.declared.event.Event.TheVariants.{Took, TookEnd, Emitted}
use Rattle.outside.specs.declared.link.Polled.{Polled}
use Rattle.outside.specs.declared.link.Polled.TheVariants as polled
use Rattle.outside.specs.Hand.{Hand, HandMoved, HandPolls, HandGave, hand_answer, hand_emitted, is_long}
use Rattle.outside.specs.Dock.{DockMoves, is_opening, took_over, event_of, dock_events}
use Rattle.outside.specs.Event.{took_in, emitted_in}
use Rattle.outside.proofs.ToldLaws.{told_none}
use Rattle.outside.proofs.WinnerLaws.{by_bool}
use Rattle.outside_mem.specs.MemDock.{ToldEvent, told, DockState, seen_of, Gives, given_trace, ended, hand_of}
use Rattle.outside_mem.proofs.DockLemmas.{events_added}

hand_same : (hand : Hand) → HandMoved [] hand (Some hand)
hand_same hand = record { after = hand; is = refl; taken = refl; emitted = sym (append-nil hand.output); open_is = refl }

no_events : (old new : DockState) → new.trace ≡ old.trace → HandMoved [] old.hand (Some new.hand) → DockMoves (seen_of old) (seen_of new)
no_events old new same moved = record { more = []; events = ap (λ (t : List ToldEvent). Some (map event_of t)) same ∙ sym (told_none (dock_events (seen_of old))); goes_on = tt; hand = moved }

pub moves_same : (old new : DockState) → new.trace ≡ old.trace → new.hand ≡ old.hand → DockMoves (seen_of old) (seen_of new)
moves_same old new same hand = no_events old new same (rw hand (hand_same old.hand))

-- the event is none of the input, of the output or of a load's opening
pub record IsStill (event : Event) : Type 0 where
  pub taken : took_in event ≡ None
  pub put_out : emitted_in event ≡ None
  pub goes_on : is_opening event ≡ false

still_moved : (event : Event) (hand : Hand) → IsStill event → HandMoved (event ∷ []) hand (Some hand)
still_moved event hand still = record { after = hand; is = refl; taken = rw still.taken refl; emitted = rw still.put_out (sym (append-nil hand.output)); open_is = refl }

pub moves_still : (old new : DockState) (event : Event) (tally : DockTally) → new.trace ≡ old.trace ++ told event tally ∷ [] → new.hand ≡ old.hand → IsStill event → DockMoves (seen_of old) (seen_of new)
moves_still old new event tally added hand still = record { more = event ∷ []; events = events_added old new event tally added; goes_on = (still.goes_on, tt); hand = rw hand (still_moved event old.hand still) }

pub moves_emitted : (old new : DockState) (line : List ℕ) (tally : DockTally) → new.trace ≡ old.trace ++ told (Emitted line) tally ∷ [] → new.hand ≡ hand_emitted line old.hand → DockMoves (seen_of old) (seen_of new)
moves_emitted old new line tally added hand = record { more = Emitted line ∷ []; events = events_added old new (Emitted line) tally added; goes_on = (refl, tt); hand = record { after = hand_emitted line old.hand; is = ap (λ (h : Hand). Some h) hand; taken = refl; emitted = refl; open_is = refl } }

-- Polls

abbrev taken_by : Polled → List Event
taken_by (polled.Line line) = Took line ∷ []
taken_by (polled.Torn line) = Took line ∷ []
taken_by polled.TooLong = []
taken_by polled.NotYet = []
taken_by polled.End = []
taken_by polled.Failed = []
taken_by polled.NoMemory = []

answer_moved : (waiting : List (List ℕ)) (torn : Option (List ℕ)) (is_open : Bool) (output : List (List ℕ)) → HandMoved (taken_by (hand_answer (hand_of waiting torn is_open output)).polled) (hand_of waiting torn is_open output) (Some (hand_answer (hand_of waiting torn is_open output)).left)
answer_moved [] None true output = hand_same (hand_of [] None true output)
answer_moved [] None false output = hand_same (hand_of [] None false output)
answer_moved [] (Some torn) is_open output =
    by_bool (is_long torn) (λ e. rw e (hand_same (hand_of [] (Some torn) is_open output)))
    (λ e. rw e (record { after = hand_of [] None is_open output; is = refl; taken = refl; emitted = sym (append-nil output); open_is = refl }))
answer_moved (line ∷ waiting) torn is_open output =
    by_bool (is_long line) (λ e. rw e (hand_same (hand_of (line ∷ waiting) torn is_open output)))
    (λ e. rw e (record { after = hand_of waiting torn is_open output; is = refl; taken = refl; emitted = sym (append-nil output); open_is = refl }))

gave_moved : (given : Polled) (hand : Hand) (now : Option Hand) → HandGave given hand now → HandMoved (taken_by given) hand now
gave_moved given hand now gave = rw (gave.answer, gave.left) (answer_moved hand.waiting hand.torn hand.is_open hand.output)

kept_moved : (hand : Hand) (now : Option Hand) → now ≡ Some hand → HandMoved [] hand now
kept_moved hand now e = rw e (hand_same hand)

polls_moved : (given : Polled) (hand : Hand) (now : Option Hand) → HandPolls given (Some hand) now → HandMoved (taken_by given) hand now
polls_moved (polled.Line line) hand now p = gave_moved (polled.Line line) hand now p
polls_moved (polled.Torn line) hand now p = gave_moved (polled.Torn line) hand now p
polls_moved polled.TooLong hand now p = gave_moved polled.TooLong hand now p
polls_moved polled.NotYet hand now p = gave_moved polled.NotYet hand now p
polls_moved polled.End hand now p = gave_moved polled.End hand now p
polls_moved polled.Failed hand now p = kept_moved hand now p
polls_moved polled.NoMemory hand now p = kept_moved hand now p

took_moves : (line : List ℕ) (old new : DockState) → new.trace ≡ old.trace ++ told (Took line) old.tally ∷ [] → HandMoved (Took line ∷ []) old.hand (Some new.hand) → DockMoves (seen_of old) (seen_of new)
took_moves line old new added moved = record { more = Took line ∷ []; events = events_added old new (Took line) old.tally added; goes_on = (refl, tt); hand = moved }

end_moves : (old new : DockState) (over : Bool) → took_over (map event_of old.trace) ≡ over → new.trace ≡ ended old.tally old.trace → HandMoved [] old.hand (Some new.hand) → DockMoves (seen_of old) (seen_of new)
end_moves old new true e added moved = no_events old new (added ∙ rw e refl) moved
end_moves old new false e added moved = record { more = TookEnd ∷ []; events = events_added old new TookEnd old.tally (added ∙ rw e refl); goes_on = (refl, tt); hand = record { after = moved.after; is = moved.is; taken = moved.taken; emitted = moved.emitted; open_is = moved.open_is } }

moves_by : (given : Polled) (old new : DockState) → new.trace ≡ given_trace given old → HandMoved (taken_by given) old.hand (Some new.hand) → DockMoves (seen_of old) (seen_of new)
moves_by (polled.Line line) old new added moved = took_moves line old new added moved
moves_by (polled.Torn line) old new added moved = took_moves line old new added moved
moves_by polled.TooLong old new added moved = no_events old new added moved
moves_by polled.NotYet old new added moved = no_events old new added moved
moves_by polled.End old new added moved = end_moves old new (took_over (map event_of old.trace)) refl added moved
moves_by polled.Failed old new added moved = no_events old new added moved
moves_by polled.NoMemory old new added moved = no_events old new added moved

pub moves_given : (given : Polled) (old new : DockState) → Gives given old new → DockMoves (seen_of old) (seen_of new)
moves_given given old new gives = moves_by given old new (ap (λ (s : DockState). s.trace) gives.state) (polls_moved given old.hand (Some new.hand) gives.hand)
