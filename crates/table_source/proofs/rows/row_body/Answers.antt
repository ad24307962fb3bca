use Rattle.std.proofs.Common.{List, Option, IfSome, subst}
use Rattle.json_span.specs.Members.{AreMembers}
use Rattle.json_span.specs.declared.Member.{Member}
use Rattle.table_source.proofs.KeyLemmas.{body_of}
use Rattle.table_source.proofs.rows.row_body.Goals as goal

pub returns-in_ok-squeeze-in-Some-clause-body : goal.returns-in_ok-squeeze-in-Some-clause-body
returns-in_ok-squeeze-in-Some-clause-body c =
    let within = subst (λ (f : Option (List Member)). IfSome f (AreMembers 100 c.args.text.now)) c.in-Some.is c.in_ok-_members.ensures.within in
    body_of c.squeezes_values.ensures c.args.text.now c.in_ok-squeeze-in-Some.field-0 (record { members = c.in-Some._members; object = within }) c.in_ok-squeeze-in-Some.ensures.squeezed c.in_ok-squeeze-in-Some.ensures.object

pub returns-in-None-clause-none : goal.returns-in-None-clause-none
returns-in-None-clause-none c = let none = rw c.in-None.is at c.in_ok-_members.ensures.none in λ fits. none fits.members fits.object
