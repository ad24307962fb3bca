-- Which events a link adds, and what a list of events says.
use Rattle.std.specs.Prelude.{ℕ, List, [], fold, Bool, true, false, Option, None, Some}
use Rattle.outside.specs.declared.event.Event.{Event}
use Rattle.outside.specs.declared.event.Event.TheVariants.{Opened, Took, TookEnd, Committed, Emitted, Merged, Shown, Started, ReadLine, ReadEnd, Given, Closed, Got, GotEnd, Saved, Ended}

-- the event is one that a link adds by itself; the others are a destination's
abbrev pub is_links : Event → Bool
is_links (Opened load moment plan) = false
is_links (Took line) = false
is_links TookEnd = false
is_links (Committed stream rows) = false
is_links (Emitted line) = false
is_links (Merged stream winners mark) = false
is_links (Shown stream floor top) = false
is_links (Started plan) = true
is_links (ReadLine line) = true
is_links ReadEnd = true
is_links (Given line) = true
is_links Closed = true
is_links (Got line) = true
is_links GotEnd = true
is_links (Saved text) = true
is_links (Ended codes) = true

-- The line, or the text of the state store, that an event of one kind holds

abbrev pub took_in : Event → Option (List ℕ)
took_in (Took line) = Some line
took_in event = None

abbrev pub emitted_in : Event → Option (List ℕ)
emitted_in (Emitted line) = Some line
emitted_in event = None

abbrev pub read_in : Event → Option (List ℕ)
read_in (ReadLine line) = Some line
read_in event = None

abbrev pub given_in : Event → Option (List ℕ)
given_in (Given line) = Some line
given_in event = None

abbrev pub got_in : Event → Option (List ℕ)
got_in (Got line) = Some line
got_in event = None

abbrev pub saved_in : Event → Option (List ℕ)
saved_in (Saved text) = Some text
saved_in event = None

-- the text of the state store after an event, where it was `text` before
abbrev pub stored_after : List ℕ → Event → List ℕ
stored_after text (Saved new) = new
stored_after text event = text

-- the text of the state store, empty where nothing was saved
abbrev pub stored : List Event → List ℕ
stored events = fold stored_after [] events

-- whether the source's output has ended in the attempt, after an event
abbrev pub read_over_after : Bool → Event → Bool
read_over_after over (Started plan) = false
read_over_after over ReadEnd = true
read_over_after over event = over

abbrev pub read_over : List Event → Bool
read_over events = fold read_over_after false events

-- whether the destination's output has ended in the attempt, after an event
abbrev pub got_over_after : Bool → Event → Bool
got_over_after over (Started plan) = false
got_over_after over GotEnd = true
got_over_after over event = over

abbrev pub got_over : List Event → Bool
got_over events = fold got_over_after false events
