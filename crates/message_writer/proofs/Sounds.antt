-- The parts of a message are values that nest little.
use Rattle.std.proofs.Common.{◌≡◌, ℕ, List, Option, None, Some, refl}
use Rattle.json_span.specs.Members.{IsSomeObject}
use Rattle.json_span.specs.Elements.{IsSomeArray}
use Rattle.json_write.specs.Values.{IsValueWithin, IsOptionalWithin}
use Rattle.json_write.proofs.Depths.{array_within}
use Rattle.json_write.proofs.Fields.{shown_present}
use Rattle.json_write.proofs.Values.{nested_within}
use Rattle.json_fields.specs.Fields.{present}
use Rattle.message_writer.specs.Forms.{IsObjectPart, IsArrayPart, IsOptionalPart, part_depth}

pub object_part_within : (text : List ℕ) → IsObjectPart text → IsValueWithin part_depth text
object_part_within text h = nested_within part_depth text h.value h.nests

pub object_part_is : (text : List ℕ) → IsObjectPart text → IsSomeObject text
object_part_is text h = record { deep = h.nests.object.deep; members = h.nests.members; object = h.nests.object.object }

pub array_part_within : (text : List ℕ) → IsArrayPart text → IsValueWithin part_depth text
array_part_within text h = array_within part_depth text h.spans h.value h.nests

pub array_part_is : (text : List ℕ) → IsArrayPart text → IsSomeArray text
array_part_is text h = record { deep = h.nests.deep; spans = h.spans; array = h.nests.array }

pub optional_part_within : (text : Option (List ℕ)) → IsOptionalPart text → IsOptionalWithin part_depth text
optional_part_within None part = tt
optional_part_within (Some text) part = part.value

pub part_present : (held : Option (List ℕ)) → IsOptionalPart held → held ≡ present held
part_present None h = refl
part_present (Some held) h = shown_present held h.shown
