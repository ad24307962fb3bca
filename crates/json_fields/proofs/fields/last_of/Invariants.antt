use Rattle.std.proofs.Common.{take, IfSome}
use Rattle.std.specs.Option.{option_copied}
use Rattle.json_fields.specs.Fields.{Holds}
use Rattle.json_span.specs.Members.{IsValue}
use Rattle.json_fields.proofs.fields.last_of.Given as goal

-- what was found is what the members so far hold
abbrev pub invariant-loop-member : goal.invariant-loop-member
invariant-loop-member l = record {
  holds : Holds l.text l.name (take l.member-index l.members) (option_copied l.found);
  value : IfSome l.found (λ held. IsValue held.now);
}
