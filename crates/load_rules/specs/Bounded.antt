-- How much a load may hold: in every prefix, at most so many records are taken and not committed.
use Rattle.std.specs.Prelude.{ℕ, ◌≤◌, List, [], ◌∷◌, ◌++◌, length}
use Rattle.std.specs.List.{AllByRecursion}
use Rattle.outside.specs.declared.event.Event.{Event}
use Rattle.load_rules.specs.Prefixes.{EachFits}
use Rattle.load_rules.specs.Lines.{Reading}
use Rattle.load_rules.specs.Loads.{Load, loads, held_in}

abbrev pub HoldsAtMost : ℕ → Reading → List Event → Event → Type 0
HoldsAtMost most read before event = length (held_in read (before ++ event ∷ [])) ≤ most

abbrev pub IsBounded : ℕ → Reading → Load → Type 0
IsBounded most read load = EachFits (HoldsAtMost most read) [] load.events

abbrev pub AreBounded : ℕ → Reading → List Event → Type 0
AreBounded most read trace = AllByRecursion (IsBounded most read) (loads trace)
