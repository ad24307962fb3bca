use Rattle.std.proofs.Common.{◌≡◌, List, reverse, refl, sym, ◌∙◌, ap}
use Rattle.outside.specs.declared.event.RawRow.{RawRow}
use Rattle.outside.specs.Winners.{put_winners, still_waiting}
use Rattle.outside.proofs.WinnerLaws.{all_waiting}
use Rattle.outside.proofs.winners.Winners.put.Goals as goal

pub returns-clause-ok : goal.returns-clause-ok
returns-clause-ok c =
    let placed = c.settle.new.placed in
    let all : c.reverse.new.self.items ≡ reverse c.args.rows = c.reverse.ensures.items ∙ ap reverse c.into_vec-rows.ensures in
    let none : placed ≡ c.args.self.now = ap (λ (rs : List RawRow). still_waiting placed rs) (sym c.in_ok-settle.ensures.settled) ∙ (c.in_ok-settle.ensures.winners ∙ c.self.view_is) in
    c.settle-2.ensures.winners ∙ (ap (λ (rs : List RawRow). still_waiting placed rs) all ∙ (all_waiting placed c.args.rows ∙ ap (λ (ws : List RawRow). put_winners ws c.args.rows) none))
