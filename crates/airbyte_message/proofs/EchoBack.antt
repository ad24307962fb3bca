-- An echo reads back as the state that it echoes.
use Rattle.std.proofs.Common.{◌≡◌, ℕ, ◌<◌, ◌^◌, Bool, false, List, [], ◌∷◌, Option, None, bytes_eq, codes, refl, sym, ◌∙◌, subst, arith}
use Rattle.std.proofs.lemmas.Bool.{true≢false}
use Rattle.std.proofs.lemmas.Slice.Eq.{bytes_eq-Decides}
use Rattle.std.specs.Fmt.{decimal}
use Rattle.json.specs.Print.{quoted, escape_byte}
use Rattle.json.proofs.Printed.Utf8.{IsUtf8-are_ascii}
use Rattle.json_scalar.specs.Text.{IsString}
use Rattle.json_span.specs.Members.{AreMembers}
use Rattle.json_span.specs.declared.Member.{Member}
use Rattle.json_fields.specs.Fields.{HasField, line_depth}
use Rattle.json_fields.specs.Parts.{Without}
use Rattle.json_fields.proofs.OnlyLemmas.{members_same}
use Rattle.json_write.specs.Objects.{Part, named, object_text}
use Rattle.json_write.specs.Laws.{or_here}
use Rattle.json_write.proofs.Fields.{AreWritten, Reads, are_named, are_sound, has_field, has_text, reads, word_part}
use Rattle.json_write.proofs.KeptParts.{ReadsKept, Stays, reads_kept, unlike}
use Rattle.json_write.proofs.Names.{PartsHold, parts_hold}
use Rattle.json_write.proofs.Values.{decimal_within, text_within}
use Rattle.airbyte_message.specs.Depths.{state_depth}
use Rattle.airbyte_message.specs.Echo.{IsEcho}
use Rattle.airbyte_message.specs.EchoReads.{CameBack, ReadsAsEcho, TellsCount, counted_part}
use Rattle.airbyte_message.specs.Messages.{IsMessage}
use Rattle.airbyte_message.specs.State.{State}
use Rattle.airbyte_message.specs.States.{HasStateType, HasStats, IsKind, IsState}
use Rattle.airbyte_message.specs.declared.message.Message.TheVariants as message
use Rattle.airbyte_message.specs.declared.message.StateKind.{StateKind}
use Rattle.airbyte_message.specs.declared.message.StateKind.TheVariants as kind
use Rattle.airbyte_message.specs.declared.read.MessageType.TheVariants as types
use Rattle.airbyte_message.specs.declared.state_message.StateType.{StateType}
use Rattle.airbyte_message.specs.declared.state_message.StateType.TheVariants as state_types
use Rattle.airbyte_message.proofs.EchoTexts.{echo_written, echoed_object, echoed_one_line, line_one_line, line_parts}
use Rattle.airbyte_message.proofs.OneMessage.{message_only}
use Rattle.airbyte_message.proofs.SameLemmas.{same_itself}

-- ---- what the destination tells

stats_parts : ℕ → List Part
stats_parts count = named (codes "recordCount") (decimal count) ∷ []

abbrev stats_text : ℕ → List ℕ
stats_text count = object_text (named (codes "recordCount") (decimal count) ∷ [])

stats_read : (count : ℕ) → count < 2 ^ 64 → Reads 123 (stats_text count) (named (codes "recordCount") (decimal count) ∷ [])
stats_read count small = reads 0 (named (codes "recordCount") (decimal count) ∷ []) (word_part 0 (codes "recordCount") (decimal count) refl (decimal_within 0 count small), tt) 123 (omega arith) (omega arith)

count_told : (count : ℕ) → count < 2 ^ 64 → HasField (stats_text count) (codes "recordCount") (decimal count)
unfolding escape_byte
count_told count small = has_field 123 (stats_text count) (named (codes "recordCount") (decimal count) ∷ []) (stats_read count small) (codes "recordCount") (decimal count) refl

counted_written : (count : ℕ) → count < 2 ^ 64 → AreWritten 123 (counted_part count ∷ [])
counted_written count small = (word_part 123 (codes "destinationStats") (stats_text count) refl (stats_read count small).value, tt)

-- ---- names that stay

abbrev IsStatsKey : List ℕ → Type 0
IsStatsKey key = IsString key (codes "destinationStats")

stays : (name : List ℕ) (count : ℕ) → count < 2 ^ 64 → bytes_eq (codes "destinationStats") name ≡ false → bytes_eq (quoted (codes "destinationStats")) (quoted name) ≡ false → Stays IsStatsKey (counted_part count ∷ []) name
stays name count small other unwritten = record {
  kept = λ key is. unlike key (codes "destinationStats") name (λ same. true≢false (sym ((bytes_eq-Decides (codes "destinationStats") name).1 same) ∙ other)) is;
  none = subst (λ (b : Bool). PartsHold name (counted_part count ∷ []) (or_here None b (stats_text count))) unwritten (parts_hold name (counted_part count ∷ []) (are_named 123 (counted_part count ∷ []) (counted_written count small)));
}

-- ---- the state of the object

module _ (object : List ℕ) (members kept : List Member) (count : ℕ) (small : count < 2 ^ 64) (are : AreMembers state_depth object members) (without : Without object (codes "destinationStats") members kept) where
  r : ReadsKept IsStatsKey state_depth object kept (counted_part count ∷ []) (echoed_object object kept count)
  r = reads_kept IsStatsKey 123 object members kept (counted_part count ∷ []) (omega arith) are without (are_sound 123 (counted_part count ∷ []) (counted_written count small))

  type_back : (type : StateType) → HasStateType object type → HasStateType (echoed_object object kept count) type
  unfolding escape_byte
  type_back type has =
      let text = has.optional in
      record { name = has.name; optional = record { held = text.held; optional = r.optional (codes "type") text.held (stays (codes "type") count small refl refl) text.optional; string = text.string }; named = has.named }

  stats_back : (told : Option ℕ) → HasStats object told → HasStats (echoed_object object kept count) told
  unfolding escape_byte
  stats_back told has = record { held = has.held; optional = r.optional (codes "sourceStats") has.held (stays (codes "sourceStats") count small refl refl) has.optional; stats = has.stats }

  kind_back : (type : StateType) (what : StateKind) → IsKind type object what → IsKind type (echoed_object object kept count) what
  unfolding escape_byte
  kind_back state_types.Stream (kind.Stream id blob) is = record { stream = is.stream; field = r.field (codes "stream") is.stream (stays (codes "stream") count small refl refl) is.field; blob = is.blob }
  kind_back state_types.Global (kind.Global shared streams) is = record { global = is.global; field = r.field (codes "global") is.global (stays (codes "global") count small refl refl) is.field; shared = is.shared; streams = is.streams }
  kind_back state_types.Legacy kind.Legacy is = tt
  kind_back _ _ is = absurd is

  count_back : TellsCount (echoed_object object kept count) count
  unfolding escape_byte
  count_back = record {
    stats = stats_text count;
    field = r.written (codes "destinationStats") (stats_text count) (parts_hold (codes "destinationStats") (counted_part count ∷ []) (are_named 123 (counted_part count ∷ []) (counted_written count small)));
    told = count_told count small;
  }

module _ (state : State) (count : ℕ) (small : count < 2 ^ 64) (is : IsState state.object state) (members kept : List Member) (are : AreMembers line_depth state.object members) (without : Without state.object (codes "destinationStats") members kept) where
  pub text : List ℕ
  text = echoed_object state.object kept count

  -- its object nests no deeper than a state's
  within : AreMembers state_depth state.object members
  within = subst (λ (ms : List Member). AreMembers state_depth state.object ms) (members_same line_depth state_depth state.object members is.nests.members are is.nests.object) is.nests.object

  read_object : ReadsKept IsStatsKey state_depth state.object kept (counted_part count ∷ []) text
  unfolding text
  read_object = r state.object members kept count small within without

  echoed : State
  echoed = record { object = text; kind = state.kind; source_count = state.source_count }

  echoed_is : IsState text echoed
  unfolding text echoed
  echoed_is = record {
    object = refl;
    line = echoed_one_line state.object kept count is.line small;
    nests = record { members = read_object.object.members; object = read_object.object.are };
    type = is.type;
    typed = type_back state.object members kept count small within without is.type is.typed;
    kind = kind_back state.object members kept count small within without is.type state.kind is.kind;
    count = stats_back state.object members kept count small within without state.source_count is.count;
  }

  came_back : CameBack state count echoed
  unfolding text echoed
  came_back = record {
    kind = refl;
    same = λ typed. same_itself state.kind typed;
    source_count = refl;
    members = members;
    are = are;
    kept = kept;
    without = without;
    object = read_object.object;
    counted = count_back state.object members kept count small within without;
  }

  -- the line
  line_read : Reads line_depth (object_text (line_parts text)) (line_parts text)
  unfolding escape_byte
  line_read = reads state_depth (line_parts text) (word_part state_depth (codes "type") (quoted (codes "STATE")) refl (text_within state_depth (codes "STATE") (IsUtf8-are_ascii (codes "STATE") refl)), (word_part state_depth (codes "state") text refl read_object.object.value, tt)) line_depth (omega arith) (omega arith)

  line_is : IsMessage (object_text (line_parts text)) (message.State echoed)
  unfolding escape_byte
  line_is = record {
    type = types.State;
    typed = has_text line_depth (object_text (line_parts text)) (line_parts text) line_read (codes "type") (codes "STATE") (IsUtf8-are_ascii (codes "STATE") refl) refl;
    payload = text;
    field = has_field line_depth (object_text (line_parts text)) (line_parts text) line_read (codes "state") text refl;
    told = echoed_is;
  }

  pub line_back : ReadsAsEcho state count (object_text (line_parts text))
  unfolding text
  line_back = record {
    one = line_one_line text (echoed_one_line state.object kept count is.line small);
    echoed = echoed;
    reads = message_only (object_text (line_parts text)) (message.State echoed) line_is;
    back = came_back;
  }

pub echo_back : (state : State) (count : ℕ) (line : List ℕ) → IsState state.object state → count < 2 ^ 64 → IsEcho state.object count line → ReadsAsEcho state count line
unfolding text
echo_back state count line is small echo =
    subst (λ (l : List ℕ). ReadsAsEcho state count l) (sym (echo.spelled ∙ echo_written state.object echo.kept count)) (line_back state count small is echo.members echo.kept echo.are echo.without)
