use Rattle.std.proofs.Common.{◌≡◌, List, refl, sym, ◌∙◌, ap}
use Rattle.outside.specs.declared.event.RawRow.{RawRow}
use Rattle.outside.specs.Winners.{winner_in}
use Rattle.outside.proofs.WinnerMapLemmas.{found_is}
use Rattle.outside.proofs.winner_map.WinnerMap.get.Goals as goal

pub returns : goal.returns
returns c = c.get.ensures.value ∙ (found_is _ c.args.key.now c.self.inside.rows.entries (λ k. refl) c.self.invariant ∙ ap (λ (ws : List RawRow). winner_in ws c.args.key.now) c.self.view_is)
