use Rattle.std.proofs.Common.{map, take}
use Rattle.json_span.specs.Members.{text_at}
use Rattle.batch_prep.specs.Written.{AreOpen}
use Rattle.batch_prep.proofs.changes.put_elements.Given as goal

abbrev pub invariant-loop-span : goal.invariant-loop-span
invariant-loop-span l = AreOpen (map (text_at l.list) (take l.span-index l.spans)) l.changes
