-- Which sets read back from the text that is written of them.
use Rattle.std.specs.Prelude.{◌≡◌, ℕ, ◌≤◌, List, [], ◌∷◌, map, Option, None, Some, IsUtf8, Ok}
use Rattle.std.specs.List.{AllByRecursion}
use Rattle.json_span.specs.Members.{IsValue}
use Rattle.json_fields.specs.Answer.{IsOnly}
use Rattle.json_write.specs.Values.{IsOptionalUtf8}
use Rattle.basics.specs.declared.limits.TheConstants.{GREATEST_GENERATION}
use Rattle.basics.specs.declared.stream.StreamId.{StreamId}
use Rattle.stream_index.specs.Distinct.{AreDistinct}
use Rattle.airbyte_message.specs.Lanes.{Lane, one, all, lane_of}
use Rattle.airbyte_message.specs.States.{IsState}
use Rattle.airbyte_message.specs.State.{State}
use Rattle.state_kinds.specs.declared.entry.SavedEntry.{SavedEntry}
use Rattle.state_kinds.specs.Saved.{Saved, IsSaved, nothing_saved}
use Rattle.state_kinds.specs.Changes.{Given, begun, put_into}
use Rattle.state_kinds.specs.Store.{ReadsStore}
use Rattle.state_kinds.specs.Texts.{store_text}

-- the object of a state of this lane, without white space around it
pub record IsObjectOfLane (lane : Lane) (object : List ℕ) : Type 0 where
  pub value : IsValue object
  pub state : State
  pub is : IsState object state
  pub of : lane_of state.kind ≡ Some lane

abbrev pub IsOptionalObject : Lane → Option (List ℕ) → Type 0
IsOptionalObject lane None = Unit {0}
IsOptionalObject lane (Some object) = IsObjectOfLane lane object

pub record IsWritableEntry (entry : SavedEntry) : Type 0 where
  pub name : IsUtf8 entry.id.name
  pub namespace : IsOptionalUtf8 entry.id.namespace
  pub generation : entry.generation ≤ GREATEST_GENERATION
  pub state : IsOptionalObject (one entry.id) entry.state

abbrev pub AreWritable : List SavedEntry → Type 0
AreWritable [] = Unit {0}
AreWritable (entry ∷ entries) = IsWritableEntry entry × AreWritable entries

pub record IsWritable (set : Saved) : Type 0 where
  pub saved : IsSaved set
  pub entries : AreWritable set.entries
  pub global : IsOptionalObject all set.global

-- A set whose states have the forms of their lanes reads back.
abbrev pub SetsReadBack : Type 0
SetsReadBack = (set : Saved) → IsWritable set → IsOnly (ReadsStore (store_text set)) (Ok set)

-- a stream and the generation that it is given can be written
pub record IsWritableGiven (pair : StreamId × ℕ) : Type 0 where
  pub name : IsUtf8 pair.0.name
  pub namespace : IsOptionalUtf8 pair.0.namespace
  pub generation : pair.1 ≤ GREATEST_GENERATION

-- the state is what its object, which stands without white space around it, reads as
pub record IsWritableState (state : State) : Type 0 where
  pub value : IsValue state.object
  pub is : IsState state.object state

-- The empty set reads back, and what is made of a set that does: by an attempt that begins, and by a state that is put into it.
pub record SetsStayWritable : Type 0 where
  pub nothing : IsWritable nothing_saved
  pub begins : (given : Given) (set : Saved) → AreDistinct (map (λ pair. pair.0) given) → AllByRecursion IsWritableGiven given → IsWritable set → IsWritable (begun given set)
  pub puts : (state : State) (set now : Saved) → IsWritableState state → IsWritable set → put_into state set ≡ Ok now → IsWritable now
