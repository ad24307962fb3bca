use Rattle.std.proofs.Common.{take}
use Rattle.std.specs.List.{AllZip}
use Rattle.table_source.specs.Keyed.{IsKeyPart}
use Rattle.table_source.proofs.rows.key_parts.Given as goal

abbrev pub invariant-loop-path : goal.invariant-loop-path
invariant-loop-path l = AllZip (IsKeyPart l.columns l.body) (take l.path-index l.path-items) l.parts
