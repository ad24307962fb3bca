use Rattle.std.proofs.Common.{◌≡◌, List, refl, sym, ◌∙◌, ap}
use Rattle.outside.specs.declared.event.RawRow.{RawRow}
use Rattle.std.specs.Map.{values_of}
use Rattle.outside.specs.Winners.{put_winner}
use Rattle.outside.proofs.WinnerMapLemmas.{put_is, under_keys, still_under}
use Rattle.outside.proofs.winner_map.WinnerMap.put.Goals as goal

pub invariant_of-self : goal.invariant_of-self
invariant_of-self c =
    let own : c.in-Ok.key.items ≡ c.args.row.key = c.in-Ok.ensures.items ∙ c.as_slice.ensures in
    still_under c.insert.result c.self.inside.rows.entries _ c.insert.new.self.entries c.insert.ensures.entries c.insert.ensures.err (under_keys _ (λ a b. refl) c.self.inside.rows.entries c.in-Ok.key c.args.row c.self.invariant own) c.self.invariant

pub returns-in-Ok-insert-clause-ok : goal.returns-in-Ok-insert-clause-ok
returns-in-Ok-insert-clause-ok c =
    let own : c.in-Ok.key.items ≡ c.args.row.key = c.in-Ok.ensures.items ∙ c.as_slice.ensures in
    ap values_of c.in-Ok-insert.ensures.entries ∙ (put_is _ (λ a b. refl) c.self.inside.rows.entries c.in-Ok.key c.args.row c.self.invariant own ∙ ap (λ (ws : List RawRow). put_winner ws c.args.row) c.self.view_is)
