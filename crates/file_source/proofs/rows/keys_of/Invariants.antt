use Rattle.std.proofs.Common.{◌≡◌, map, take}
use Rattle.file_source.specs.Rows.{key_text}
use Rattle.file_source.proofs.rows.keys_of.Given as goal

abbrev pub invariant-loop-column : goal.invariant-loop-column
invariant-loop-column l = l.keys ≡ map key_text (take l.column l.sheet.header)
