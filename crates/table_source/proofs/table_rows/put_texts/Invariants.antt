use Rattle.std.proofs.Common.{◌≡◌, ◌++◌, map, take}
use Rattle.json_write.specs.Objects.{open_list}
use Rattle.table_source.specs.declared.keyed.RowPart.{RowPart}
use Rattle.table_source.proofs.table_rows.put_texts.Given as goal

-- the texts so far stand there, and the array is open
abbrev pub invariant-loop-i : goal.invariant-loop-i
invariant-loop-i l = l.line ≡ l.fn.line ++ open_list (take l.i (map (λ (part : RowPart). part.text) l.parts))
