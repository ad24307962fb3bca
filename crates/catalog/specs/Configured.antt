-- What every configured catalog keeps.
use Rattle.std.specs.Prelude.{◌≡◌, ℕ, ◌≤◌, ◌-◌, List, [], length, Option, None, Some, Ok, false, All, unwrap_or}
use Rattle.json_span.specs.Members.{IsObject, IsValue}
use Rattle.json_span.specs.declared.Member.{Member}
use Rattle.json_fields.specs.Fields.{line_depth}
use Rattle.json_fields.specs.Parts.{NestsWithin}
use Rattle.stream_index.specs.Distinct.{AreDistinct}
use Rattle.basics.specs.declared.limits.TheConstants.{GREATEST_GENERATION, MOST_STREAMS}
use Rattle.catalog.specs.declared.stream.ConfStream.{ConfStream}
use Rattle.catalog.specs.Checks.{lacks_key}
use Rattle.catalog.specs.Reading.{ReadsEntry, ids_of}

-- absent, or within the limit
abbrev pub IsWithinLimit : Option ℕ → Type 0
IsWithinLimit None = Unit {0}
IsWithinLimit (Some id) = id ≤ GREATEST_GENERATION

-- the array of the entries nests in the catalog, and an entry in both
abbrev pub list_depth : ℕ
list_depth = line_depth - 1

abbrev pub entry_depth : ℕ
entry_depth = line_depth - 2

-- whatever object the text is, it nests at most so deep
abbrev pub NestsAtMost : ℕ → List ℕ → Type 0
NestsAtMost limit text = (deep : ℕ) (members : List Member) → IsObject text deep members → deep ≤ limit

-- A stream that its entry, alone, reads as. The limits below the first three follow from that, and are told for those who
-- stand on them.
pub record IsConfigured (stream : ConfStream) : Type 0 where
  pub reads : ReadsEntry [] stream.raw_entry (Ok stream)
  pub value : IsValue stream.raw_entry
  pub nests : NestsWithin entry_depth stream.raw_entry
  pub generation : IsWithinLimit stream.generation
  pub minimum : stream.minimum ≤ unwrap_or stream.generation 0
  pub sync_id : IsWithinLimit stream.sync_id
  pub keyed : lacks_key stream.dest stream.key ≡ false

-- the streams of a catalog: few enough, each once
pub record AreConfigured (streams : List ConfStream) : Type 0 where
  pub few : length streams ≤ MOST_STREAMS
  pub distinct : AreDistinct (ids_of streams)
  pub each : All IsConfigured streams
