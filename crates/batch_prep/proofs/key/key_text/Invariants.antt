use Rattle.std.proofs.Common.{take}
use Rattle.column_types.specs.Rows.{IsKeyText}
use Rattle.batch_prep.proofs.key.key_text.Given as goal

-- the key of the paths so far
abbrev pub invariant-loop-i : goal.invariant-loop-i
invariant-loop-i l = IsKeyText l.body l.plan.columns (take l.i l.path-items) l.text.items
