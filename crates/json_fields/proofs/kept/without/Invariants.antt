use Rattle.std.proofs.Common.{take, All}
use Rattle.json_span.specs.Members.{IsMemberOf}
use Rattle.json_fields.specs.Parts.{Without}
use Rattle.json_fields.proofs.kept.without.Given as goal

-- the members so far without the name
abbrev pub invariant-loop-member : goal.invariant-loop-member
invariant-loop-member l = record {
  kept : Without l.text l.name (take l.member-index l.member-items) l.kept;
  parts : All (IsMemberOf l.text) l.kept;
}
