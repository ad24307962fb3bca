-- The input and the output of a dock that has them in memory, and what a poll gives of them.
use Rattle.std.specs.Prelude.{◌≡◌, ◌⊎◌, ℕ, List, [], ◌∷◌, ◌++◌, filter_map, length, option_to_list, Bool, true, false, nat_lt, if◌then◌else◌, Option, None, Some, option_map, IsTrue, Result, Ok, Err}
use Rattle.basics.specs.declared.limits.TheConstants.{LONGEST_LINE}
use Rattle.text_lines.specs.Lines.{is_line}
use Rattle.outside.specs.declared.event.Event.{Event}
use Rattle.outside.specs.declared.fault.Fault.{Fault}
use Rattle.outside.specs.declared.fault.Fault.TheVariants as fault
use Rattle.outside.specs.declared.link.Polled.{Polled}
use Rattle.outside.specs.declared.link.Polled.TheVariants as polled
use Rattle.outside.specs.Event.{took_in, emitted_in}

pub record Hand : Type 0 where
  -- the lines that were pushed and not given
  pub waiting : List (List ℕ)
  -- a last piece that is not blank and has no newline
  pub torn : Option (List ℕ)
  pub is_open : Bool
  -- the lines that were emitted and not taken out
  pub output : List (List ℕ)

-- What a poll gives, and what it leaves

pub record HandAnswer : Type 0 where
  pub polled : Polled
  pub left : Hand

abbrev pub is_long : List ℕ → Bool
is_long line = nat_lt LONGEST_LINE (length line)

-- A line above the limit is answered as such, and stays in front: nothing is given behind it.
abbrev pub line_answer : List ℕ → List (List ℕ) → Hand → HandAnswer
line_answer line rest hand = if is_long line then record { polled = polled.TooLong; left = hand } else record { polled = polled.Line line; left = record hand { waiting = rest } }

abbrev pub torn_answer : List ℕ → Hand → HandAnswer
torn_answer torn hand = if is_long torn then record { polled = polled.TooLong; left = hand } else record { polled = polled.Torn torn; left = record hand { torn = None } }

-- where nothing waits: the end, once the input is closed
abbrev pub empty_answer : Hand → HandAnswer
empty_answer hand = record { polled = (if hand.is_open then polled.NotYet else polled.End); left = hand }

abbrev pub last_answer : Option (List ℕ) → Hand → HandAnswer
last_answer None hand = empty_answer hand
last_answer (Some torn) hand = torn_answer torn hand

abbrev pub waiting_answer : List (List ℕ) → Hand → HandAnswer
waiting_answer [] hand = last_answer hand.torn hand
waiting_answer (line ∷ lines) hand = line_answer line lines hand

-- the pushed lines in order, then the torn piece
abbrev pub hand_answer : Hand → HandAnswer
hand_answer hand = waiting_answer hand.waiting hand

pub record HandGave (given : Polled) (hand : Hand) (now : Option Hand) : Type 0 where
  pub answer : given ≡ (hand_answer hand).polled
  pub left : now ≡ Some (hand_answer hand).left

-- A poll gives what is next in the hand, where the dock has one. A fault and want of memory leave the hand.
abbrev pub HandPolls : Polled → Option Hand → Option Hand → Type 0
HandPolls given None now = now ≡ None
HandPolls polled.Failed (Some hand) now = now ≡ Some hand
HandPolls polled.NoMemory (Some hand) now = now ≡ Some hand
HandPolls given (Some hand) now = HandGave given hand now

abbrev pub hand_emitted : List ℕ → Hand → Hand
hand_emitted line hand = record hand { output = hand.output ++ line ∷ [] }

-- an emitted line stands behind the others in the hand's output; at Failed it does or does not
abbrev pub HandEmits : {T : Type 0} → Result T Fault → List ℕ → Option Hand → Option Hand → Type 0
HandEmits (Ok done) line before now = now ≡ option_map (hand_emitted line) before
HandEmits (Err fault.Failed) line before now = (now ≡ before) ⊎ (now ≡ option_map (hand_emitted line) before)
HandEmits (Err fault.NoMemory) line before now = now ≡ before

-- What its owner does

abbrev pub IsOpen : Option Hand → Type 0
IsOpen None = Unit {0}
IsOpen (Some hand) = IsTrue hand.is_open

abbrev pub hand_pushed : List ℕ → Hand → Hand
hand_pushed line hand = record hand { waiting = hand.waiting ++ line ∷ [] }

-- a blank piece is nothing
abbrev pub unless_blank : Option (List ℕ) → Option (List ℕ)
unless_blank None = None
unless_blank (Some piece) = if is_line piece then Some piece else None

abbrev pub hand_closed : Option (List ℕ) → Hand → Hand
hand_closed torn hand = record hand { torn = unless_blank torn; is_open = false }

-- open, with nothing waiting and no output
abbrev pub fresh_hand : Hand
fresh_hand = record { waiting = []; torn = None; is_open = true; output = [] }

-- the first line of the output, or none where there is none
abbrev pub IsTakenFrom : Option (List ℕ) → List (List ℕ) → List (List ℕ) → Type 0
IsTakenFrom None before now = (before ≡ []) × (now ≡ [])
IsTakenFrom (Some line) before now = before ≡ line ∷ now

-- What a call moves: the events and the hand together

-- the lines of the input that were not given
abbrev pub unread : Hand → List (List ℕ)
unread hand = hand.waiting ++ option_to_list hand.torn

-- what was taken stood in front of the input, and what was emitted stands behind the output
pub record HandMoved (more : List Event) (hand : Hand) (now : Option Hand) : Type 0 where
  pub after : Hand
  pub is : now ≡ Some after
  pub taken : unread hand ≡ filter_map took_in more ++ unread after
  pub emitted : after.output ≡ hand.output ++ filter_map emitted_in more
  pub open_is : after.is_open ≡ hand.is_open

abbrev pub HandMoves : List Event → Option Hand → Option Hand → Type 0
HandMoves more None now = now ≡ None
HandMoves more (Some hand) now = HandMoved more hand now
