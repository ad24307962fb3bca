-- The answers of one output, as they are given one after another.
use Rattle.std.specs.Prelude.{List, [], ◌∷◌, Bool, true, false, if◌then◌else◌}
use Rattle.outside.specs.declared.link.Polled.{Polled}
use Rattle.outside.specs.declared.link.Polled.TheVariants as polled

-- the answers that are left, and whether the last one that was given was an end
pub record Answers : Type 0 where
  pub left : List Polled
  pub ended : Bool

abbrev pub first_answers : List Polled → Answers
first_answers answers = record { left = answers; ended = false }

abbrev pub no_answers : Answers
no_answers = first_answers []

abbrev pub is_end : Polled → Bool
is_end (polled.Line line) = false
is_end (polled.Torn line) = false
is_end polled.TooLong = false
is_end polled.NotYet = false
is_end polled.End = true
is_end polled.Failed = false
is_end polled.NoMemory = false

-- behind all answers there is an end where the last one was an end, and nothing yet else
abbrev pub next_in : List Polled → Bool → Polled
next_in [] ended = if ended then polled.End else polled.NotYet
next_in (answer ∷ left) ended = answer

abbrev pub next_of : Answers → Polled
next_of answers = next_in answers.left answers.ended

abbrev pub left_in : List Polled → Bool → Answers
left_in [] ended = record { left = []; ended = ended }
left_in (answer ∷ left) ended = record { left = left; ended = is_end answer }

-- what is left behind the next answer
abbrev pub left_behind : Answers → Answers
left_behind answers = left_in answers.left answers.ended
