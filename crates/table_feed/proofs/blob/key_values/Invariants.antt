use Rattle.std.proofs.Common.{map, take}
use Rattle.json_span.specs.Members.{text_at}
use Rattle.table_feed.specs.Start.{AreKeyValues}
use Rattle.table_feed.proofs.blob.key_values.Given as goal

-- the values so far
abbrev pub invariant-loop-at : goal.invariant-loop-at
invariant-loop-at l = AreKeyValues l.columns (take l.at l.paths) (map (text_at l.text) (take l.at l.spans)) l.values
