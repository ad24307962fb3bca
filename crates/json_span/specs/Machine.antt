-- The reader of an object or an array as a machine over lists: what a byte makes of its state, and what a text makes of it.
use Rattle.std.specs.Prelude.{◌≡◌, ℕ, ◌+◌, ◌-◌, ◌≤◌, max, Bool, true, false, List, [], ◌∷◌, ◌++◌, length, take, drop, if◌then◌else◌}
use Rattle.json_span.specs.Table.{class_of, move_of, after_move}
use Rattle.json_span.specs.declared.Span.{Span}
use Rattle.json_span.specs.declared.Member.{Member}
use Rattle.json_span.specs.declared.phase.Frame.{Frame}
use Rattle.json_span.specs.declared.phase.Frame.TheVariants as frame
use Rattle.json_span.specs.declared.phase.Role.TheVariants as role
use Rattle.json_span.specs.declared.phase.Spot.{Spot}
use Rattle.json_span.specs.declared.phase.Spot.TheVariants as spot
use Rattle.json_span.specs.declared.phase.Part.{Part}
use Rattle.json_span.specs.declared.phase.Part.TheVariants as part
use Rattle.json_span.specs.declared.phase.Run.{Run}
use Rattle.json_span.specs.declared.phase.Run.TheVariants as runs
use Rattle.json_span.specs.declared.phase.Phase.{Phase}
use Rattle.json_span.specs.declared.phase.Phase.TheVariants as phase
use Rattle.json_span.specs.declared.table.Move.{Move}
use Rattle.json_span.specs.declared.table.Move.TheVariants as moves
use Rattle.json_span.specs.declared.cutter.Cutter.{Cutter}
use Rattle.json_span.specs.declared.machine.Machine.{Machine}

-- only the object or the array of the text itself is open
abbrev pub is_outermost : List Frame → Bool
is_outermost [] = false
is_outermost (f ∷ []) = true
is_outermost (f ∷ g ∷ frames) = false

-- The cutter's part. Places count only where the outermost object or array is all that is open.
abbrev pub key_begun : List Frame → Cutter → ℕ → Cutter
key_begun frames c place = if is_outermost frames then record c { key_start = place } else c

abbrev pub key_ended : List Frame → Cutter → ℕ → Cutter
key_ended frames c place = if is_outermost frames then record c { key_end = place } else c

abbrev pub value_begun : List Frame → Cutter → ℕ → Cutter
value_begun frames c place = if is_outermost frames then record c { value_start = place } else c

-- the element that ends at this place, and the member whose value does
abbrev pub value_ending : Cutter → ℕ → Span
value_ending c place = record { start = c.value_start; end = place }

abbrev pub ending : Cutter → ℕ → Member
ending c place = record { key = record { start = c.key_start; end = c.key_end }; value = value_ending c place }

-- an array keeps the element, an object the member
abbrev pub ended_in : List Frame → Cutter → ℕ → Cutter
ended_in [] c place = c
ended_in (frame.Array ∷ frames) c place = record c { elements = c.elements ++ value_ending c place ∷ [] }
ended_in (frame.Object ∷ frames) c place = record c { members = c.members ++ ending c place ∷ [] }

abbrev pub value_ended : List Frame → Cutter → ℕ → Cutter
value_ended frames c place = if is_outermost frames then ended_in frames c place else c

abbrev pub broken : Machine → Machine
broken m = record m { phase = phase.Broken }

-- an array or an object begins
abbrev pub first_phase : Frame → Phase
first_phase frame.Array = phase.FirstItem
first_phase frame.Object = phase.FirstKey

abbrev pub opened : Frame → Machine → ℕ → Machine
opened f m here = record {
  phase = first_phase f;
  frames = f ∷ m.frames;
  deepest = max m.deepest (length (f ∷ m.frames));
  cutter = value_begun m.frames m.cutter here;
}

-- what is waited for behind a value
abbrev pub phase_behind : List Frame → Phase
phase_behind [] = phase.Done
phase_behind (f ∷ frames) = phase.After

abbrev pub shut : Machine → List Frame → ℕ → Machine
shut m frames behind = record m { phase = phase_behind frames; frames = frames; cutter = value_ended frames m.cutter behind }

-- what is left open when the innermost ends
abbrev pub outer : List Frame → List Frame
outer [] = []
outer (f ∷ frames) = frames

abbrev pub is_innermost : Frame → List Frame → Bool
is_innermost f [] = false
is_innermost frame.Array (frame.Array ∷ frames) = true
is_innermost frame.Array (frame.Object ∷ frames) = false
is_innermost frame.Object (frame.Array ∷ frames) = false
is_innermost frame.Object (frame.Object ∷ frames) = true

-- an array or an object ends, if it is what is open
abbrev pub closed : Frame → List Frame → Machine → ℕ → Machine
closed f frames m behind = if is_innermost f frames then shut m (outer frames) behind else broken m

-- what is waited for behind a comma
abbrev pub phase_next : List Frame → Phase
phase_next [] = phase.Broken
phase_next (frame.Array ∷ frames) = phase.Value
phase_next (frame.Object ∷ frames) = phase.Key

-- what a move makes of the state
abbrev pub made : Move → Machine → ℕ → ℕ → Machine
made (moves.Go next) m here behind = record m { phase = next }
made moves.BeginKey m here behind = record m { phase = phase.Text role.Key spot.Plain; cutter = key_begun m.frames m.cutter here }
made moves.EndKey m here behind = record m { phase = phase.Colon; cutter = key_ended m.frames m.cutter behind }
made (moves.Begin next) m here behind = record m { phase = next; cutter = value_begun m.frames m.cutter here }
made moves.End m here behind = record m { phase = phase.After; cutter = value_ended m.frames m.cutter behind }
made moves.EndNumber m here behind = broken m
made (moves.Open f) m here behind = opened f m here
made (moves.Close f) m here behind = closed f m.frames m behind
made moves.Comma m here behind = record m { phase = phase_next m.frames }

-- what a move makes of the state at this byte: behind a number the byte is looked at again
abbrev pub moved : Move → Machine → ℕ → ℕ → ℕ → Machine
moved moves.EndNumber m b here behind = made (after_move (class_of b)) (record m { cutter = value_ended m.frames m.cutter here }) here behind
moved (moves.Go next) m b here behind = made (moves.Go next) m here behind
moved moves.BeginKey m b here behind = made moves.BeginKey m here behind
moved moves.EndKey m b here behind = made moves.EndKey m here behind
moved (moves.Begin next) m b here behind = made (moves.Begin next) m here behind
moved moves.End m b here behind = made moves.End m here behind
moved (moves.Open f) m b here behind = made (moves.Open f) m here behind
moved (moves.Close f) m b here behind = made (moves.Close f) m here behind
moved moves.Comma m b here behind = made moves.Comma m here behind

-- what a byte makes of the state
abbrev pub stepped : Machine → ℕ → ℕ → ℕ → Machine
stepped m b here behind = moved (move_of m.phase b) m b here behind

-- What the rest of a text of this size makes of the state. A place is told by how much is left.
abbrev pub run : ℕ → Machine → List ℕ → Machine
run size m [] = m
run size m (b ∷ bs) = run size (stepped m b (size - length (b ∷ bs)) (size - length bs)) bs

-- nothing is cut yet
abbrev pub uncut : Cutter
uncut = record { key_start = 0; key_end = 0; value_start = 0; members = []; elements = [] }

-- before the text of an array, or of an object
abbrev pub initial : Frame → Machine
initial f = record { phase = phase.Start f; frames = []; deepest = 0; cutter = uncut }

-- what the whole text makes of the machine
abbrev pub read_whole : Frame → List ℕ → Machine
read_whole f text = run (length text) (initial f) text

-- the text is read to its end
abbrev pub IsDone : Phase → Type 0
IsDone phase.Done = Unit {0}
IsDone _ = ⊥

-- which bytes leave the phase as it is
abbrev pub text_run : Spot → Run
text_run spot.Plain = runs.Plain
text_run _ = runs.Nothing

abbrev pub number_run : Part → Run
number_run part.Whole = runs.Digits
number_run part.Fraction = runs.Digits
number_run part.Exponent = runs.Digits
number_run _ = runs.Nothing

abbrev pub run_of : Phase → Run
run_of (phase.Text r s) = text_run s
run_of (phase.Number p) = number_run p
run_of (phase.Word l) = runs.Nothing
run_of phase.Broken = runs.Nothing
run_of _ = runs.Blanks

-- what bytes make of the machine, of which the first stands at this place
abbrev pub over : ℕ → Machine → List ℕ → Machine
over at m [] = m
over at m (b ∷ bs) = over (at + 1) (stepped m b at (at + 1)) bs

-- the bytes from one place up to another
abbrev pub between : List ℕ → ℕ → ℕ → List ℕ
between text from to = take (to - from) (drop from text)

-- what they make of the machine
unfoldable pub read_to : List ℕ → Machine → ℕ → ℕ → Machine
read_to text m from to = over from m (between text from to)

-- the machine may pass over a run of such bytes: they leave it as it is
abbrev pub IsSkipped : Run → List ℕ → Type 0
IsSkipped kind passed = (at : ℕ) (m : Machine) → run_of m.phase ≡ kind → over at m passed ≡ m

-- the machine has read the text from one place to another
pub record IsTaken (text : List ℕ) (m : Machine) (from : ℕ) (after : Machine) (to : ℕ) : Type 0 where
  pub ordered : from ≤ to
  pub inside : to ≤ length text
  pub made : after ≡ read_to text m from to

-- a move that is the same whatever byte makes it
abbrev pub IsSimple : Move → Type 0
IsSimple moves.EndNumber = ⊥
IsSimple _ = Unit {0}

-- a number that may end here
abbrev pub IsEnding : Phase → Type 0
IsEnding (phase.Number part.Zero) = Unit {0}
IsEnding (phase.Number part.Whole) = Unit {0}
IsEnding (phase.Number part.Fraction) = Unit {0}
IsEnding (phase.Number part.Exponent) = Unit {0}
IsEnding _ = ⊥
