use Rattle.std.proofs.Common.{IfSome, sym, ◌∙◌, subst, ℕ, Option}
use Rattle.sync_ledger.specs.Takes.{IsFirstSame}
use Rattle.sync_ledger.proofs.TakeLemmas.{first_taken}
use Rattle.sync_ledger.proofs.pending.take_same.Goals as goal

pub returns-clause-ok : goal.returns-clause-ok
returns-clause-ok c =
    let found : IsFirstSame c.args.pending.now c.args.got.now c.in-Some.place = subst (λ (place : Option ℕ). IfSome place (IsFirstSame c.args.pending.now c.args.got.now)) c.in-Some.is c.in_ok-place.ensures.some in
    first_taken c.args.pending.now c.pop_front.new.self c.args.got.now c.in-Some.place c.in-Some-pop_front.taken found (sym c.pass_over.ensures ∙ c.in-Some-pop_front.ensures.items)
