use Rattle.std.proofs.Common.{take}
use Rattle.catalog.specs.Written.{GrowsByKept}
use Rattle.catalog.proofs.write.put_kept.Given as goal

-- the members so far
abbrev pub invariant-loop-member : goal.invariant-loop-member
invariant-loop-member l = GrowsByKept l.entry (take l.member-index l.members) l.mark l.initial.text l.text
