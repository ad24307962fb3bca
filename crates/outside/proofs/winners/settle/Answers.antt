use Rattle.std.proofs.Common.{◌≡◌, List, refl, sym, ◌∙◌, ap}
use Rattle.outside.specs.declared.event.RawRow.{RawRow}
use Rattle.outside.specs.Winners.{still_waiting}
use Rattle.outside.proofs.WinnerLaws.{waiting_next}
use Rattle.outside.proofs.winners.settle.Goals as goal

pub loop-row-preserved : goal.loop-row-preserved
loop-row-preserved c = ap (λ (ws : List RawRow). still_waiting ws c.pop.new.self.items) c.in_default-put.ensures.ok ∙ (sym (waiting_next c.loop-row.placed c.pop.new.self.items c.in-Some.row) ∙ (ap (λ (rs : List RawRow). still_waiting c.loop-row.placed rs) (sym c.in-Some.ensures.items) ∙ c.loop-row.invariant))
