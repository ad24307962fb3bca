-- What an echo reads as: the state that it echoes, with the count of the destination.
use Rattle.std.specs.Prelude.{◌≡◌, ◌≢◌, ℕ, List, [], ◌∷◌, ◌++◌, map, codes}
use Rattle.std.specs.Fmt.{decimal}
use Rattle.json_span.specs.Members.{AreMembers}
use Rattle.json_span.specs.declared.Member.{Member}
use Rattle.json_fields.specs.Answer.{IsOnly}
use Rattle.json_fields.specs.Fields.{HasField, line_depth}
use Rattle.json_fields.specs.Parts.{Without}
use Rattle.json_write.specs.Objects.{Part, named, object_text}
use Rattle.json_write.specs.Laws.{IsObjectOf, part_at}
use Rattle.airbyte_message.specs.Depths.{state_depth, IsOneLine}
use Rattle.airbyte_message.specs.Messages.{IsMessage}
use Rattle.airbyte_message.specs.Same.{Same}
use Rattle.airbyte_message.specs.State.{State}
use Rattle.airbyte_message.specs.declared.message.Message.TheVariants as message
use Rattle.airbyte_message.specs.declared.message.StateKind.TheVariants.{Legacy}

-- the member by which a destination tells how many records it committed
abbrev pub counted_part : ℕ → Part
counted_part count = named (codes "destinationStats") (object_text (named (codes "recordCount") (decimal count) ∷ []))

-- the object tells this count of the destination
pub record TellsCount (object : List ℕ) (count : ℕ) : Type 0 where
  pub stats : List ℕ
  pub field : HasField object (codes "destinationStats") stats
  pub told : HasField stats (codes "recordCount") (decimal count)

-- A state that came back: of the same kind, which makes it the same state, with the same count of its source. Its object has
-- the members of the other's as they stood, in their order, but for `destinationStats`, which comes last with the count.
pub record CameBack (state : State) (count : ℕ) (echoed : State) : Type 0 where
  pub kind : echoed.kind ≡ state.kind
  pub same : state.kind ≢ Legacy → Same state echoed
  pub source_count : echoed.source_count ≡ state.source_count
  pub members : List Member
  pub are : AreMembers line_depth state.object members
  pub kept : List Member
  pub without : Without state.object (codes "destinationStats") members kept
  pub object : IsObjectOf state_depth echoed.object (map (part_at state.object) kept ++ counted_part count ∷ [])
  pub counted : TellsCount echoed.object count

-- the text is one line, which is a STATE message and no other: this state, come back
pub record ReadsAsEcho (state : State) (count : ℕ) (line : List ℕ) : Type 0 where
  pub one : IsOneLine line
  pub echoed : State
  pub reads : IsOnly (IsMessage line) (message.State echoed)
  pub back : CameBack state count echoed
