use Rattle.std.proofs.Common.{arith, ◌<◌, ◌≡◌, ◌+◌, ◌-◌, ℕ, Option, length, subst}
use Rattle.json_span.specs.declared.Member.{Member}
use Rattle.batch_prep.specs.Places.{AreHeldFrom, IsSlotOf}
use Rattle.batch_prep.proofs.FoundLemmas.{step_none, step_some}
use Rattle.batch_prep.proofs.finder.locate.Goals as goal

abbrev no_member : Member
no_member = record { key = record { start = 0; end = 0 }; value = record { start = 0; end = 0 } }

pub loop-at-preserved-in-Some : goal.loop-at-preserved-in-Some
loop-at-preserved-in-Some c =
    let body = c.args.body.now in
    let names = c.args.layout.now.names in
    let members = c.args.members.now in
    let i = c.loop-at.at - 1 in
    let within = c.loop-at.invariant.0 in
    let test = c.loop-at-test.true in
    let lt : i < length members = omega (arith, within, test) in
    let e : c.loop-at.at ≡ i + 1 = omega (arith, test) in
    let held = subst (λ (k : ℕ). AreHeldFrom body names members k c.loop-at.places.items) e c.loop-at.invariant.1 in
    let found = subst (λ (f : Option ℕ). IsSlotOf names c.of-key.result.now f) c.in-Some.is c.in_ok-slot.ensures in
    (omega (arith, within), step_some body names members i no_member c.of-key.result.now c.loop-at.places.items c.note.new.places.items c.in-Some.slot c.len.ensures.distinct lt c.of-key.ensures found held c.note.ensures)

pub loop-at-preserved : goal.loop-at-preserved
loop-at-preserved c =
    let body = c.args.body.now in
    let names = c.args.layout.now.names in
    let members = c.args.members.now in
    let i = c.loop-at.at - 1 in
    let within = c.loop-at.invariant.0 in
    let test = c.loop-at-test.true in
    let lt : i < length members = omega (arith, within, test) in
    let e : c.loop-at.at ≡ i + 1 = omega (arith, test) in
    let held = subst (λ (k : ℕ). AreHeldFrom body names members k c.loop-at.places.items) e c.loop-at.invariant.1 in
    let found = subst (λ (f : Option ℕ). IsSlotOf names c.of-key.result.now f) c.in_default.is c.in_ok-slot.ensures in
    (omega (arith, within), step_none body names members i no_member c.of-key.result.now c.loop-at.places.items lt c.of-key.ensures found held)
