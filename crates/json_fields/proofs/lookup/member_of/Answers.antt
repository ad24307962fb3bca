use Rattle.std.proofs.Common.{ℕ, Option, subst}
use Rattle.json_span.specs.declared.Member.{Member}
use Rattle.json_fields.specs.Words.{IsPlaceOf}
use Rattle.json_fields.proofs.Keys.{value_at}
use Rattle.json_fields.proofs.lookup.member_of.Goals as goal

abbrev no_member : Member
no_member = record { key = record { start = 0; end = 0 }; value = record { start = 0; end = 0 } }

pub returns-in-Some-clause-holds : goal.returns-in-Some-clause-holds
returns-in-Some-clause-holds c =
    let place = subst (λ (found : Option ℕ). IsPlaceOf c.args.text.now c.args.name.now c.args.members.now found) c.in-Some.is c.in_ok-place.ensures in
    value_at c.args.text.now c.args.name.now c.args.members.now c.in-Some.place no_member c.of.result.now place c.of.ensures
