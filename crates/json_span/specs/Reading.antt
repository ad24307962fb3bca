-- What the reader of both levels of an object keeps while it reads.
use Rattle.std.specs.Prelude.{◌≡◌, ℕ, suc, ◌≤◌, max, List, Option, Some, length}
use Rattle.std.specs.List.{slice_get}
use Rattle.json_span.specs.Members.{text_at}
use Rattle.json_span.specs.Machine.{value_begun, value_ended, read_whole, IsDone}
use Rattle.json_span.specs.declared.Member.{Member}
use Rattle.json_span.specs.declared.phase.Frame.TheVariants as frame
use Rattle.json_span.specs.declared.phase.Phase.TheVariants as phase
use Rattle.json_span.specs.declared.machine.Machine.{Machine}

-- a member's value from one place to another has been read, and it nests this deep
abbrev pub passed : Machine → ℕ → ℕ → ℕ → Machine
passed m from to deep = record {
  phase = phase.After;
  frames = m.frames;
  deepest = max m.deepest (suc deep);
  cutter = value_ended m.frames (value_begun m.frames m.cutter from) to;
}

-- the value, read as a text of its own, is an object with these members, but for its encoding
pub record IsReadAlone (value : List ℕ) (members : List Member) : Type 0 where
  pub done : IsDone (read_whole frame.Object value).phase
  pub cut : members ≡ (read_whole frame.Object value).cutter.members

-- what has been read alone so far
pub record AreReadInside (text : List ℕ) (outer : List Member) (inner : List (Option (List Member))) : Type 0 where
  pub as_few : length inner ≤ length outer
  pub each : (k : ℕ) (m : Member) → slice_get outer k ≡ Some m → (members : List Member) → slice_get inner k ≡ Some (Some members) → IsReadAlone (text_at text m.value) members

-- nothing but None has been put behind the others, up to this many
pub record IsPadded (count : ℕ) (old new : List (Option (List Member))) : Type 0 where
  pub size : length new ≡ max count (length old)
  pub same : (k : ℕ) (members : List Member) → slice_get new k ≡ Some (Some members) → slice_get old k ≡ Some (Some members)
