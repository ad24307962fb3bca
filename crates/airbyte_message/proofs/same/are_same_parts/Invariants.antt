use Rattle.std.proofs.Common.{◌≡◌, map, take}
use Rattle.airbyte_message.specs.Same.{part_form}
use Rattle.airbyte_message.proofs.same.are_same_parts.Given as goal

-- the elements so far are the same
abbrev pub invariant-loop-i : goal.invariant-loop-i
invariant-loop-i l = map part_form (take l.i l.parts) ≡ map part_form (take l.i l.others)
