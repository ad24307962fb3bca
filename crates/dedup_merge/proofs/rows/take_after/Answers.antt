use Rattle.std.proofs.Common.{◌≡◌, Option, sym, subst}
use Rattle.std.specs.Prelude.{IfSome, OnOk}
use Rattle.std.proofs.lemmas.Result.{on_ok_weaker}
use Rattle.outside.specs.declared.event.RawRow.{RawRow}
use Rattle.dedup_merge.specs.Steps.{TakesRow}
use Rattle.dedup_merge.proofs.StepLemmas.{held_goes_on}
use Rattle.dedup_merge.proofs.rows.take_after.Goals as goal

pub returns-else-branch : goal.returns-else-branch
returns-else-branch c =
    let own : c.in-Some.held.key ≡ c.args.row.now.key = subst (λ (o : Option RawRow). IfSome o (λ held. held.key ≡ c.args.row.now.key)) c.in-Some.is c.requires in
    subst (λ (o : Option RawRow). OnOk c.put-else-branch.result (TakesRow o c.args.row.now c.args.best.now c.put-else-branch.new.best)) (sym c.in-Some.is)
    (on_ok_weaker c.put-else-branch.result (λ e. held_goes_on c.args.row.now c.in-Some.held c.in_ok-exceeds-in-Some.field-0 c.args.best.now c.put-else-branch.new.best c.in_ok-exceeds-in-Some.ensures c.if-branch.false own e) c.put-else-branch.ensures)
