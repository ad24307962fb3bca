use Rattle.std.proofs.Common.{◌∙◌, List, ℕ, ap, slice_get, sym}
use Rattle.std.specs.List.{list_any}
use Rattle.std.specs.Str.{bytes_eq}
use Rattle.table_config.specs.Tables.{table_named}
use Rattle.table_config.proofs.TableLemmas.{named_at, none_any, none_named}
use Rattle.table_config.proofs.list.TableEntryList.find.Goals as goal

pub returns-in-Some : goal.returns-in-Some
returns-in-Some c =
    let place = c.in-Some.place in
    sym (named_at c.args.name.now c.self.inside.entries place c.at.result.now c.self.invariant.once
    (ap (λ (names : List (List ℕ)). slice_get names place) (sym c.self.invariant.named) ∙ c.in-Some.ensures.found) c.at.ensures)
    ∙ ap (table_named c.args.name.now) c.self.view_is

pub returns-in-None : goal.returns-in-None
returns-in-None c =
    sym (none_named c.args.name.now c.self.inside.entries
    (ap (list_any (bytes_eq c.args.name.now)) (sym c.self.invariant.named) ∙ none_any c.args.name.now c.self.inside.names c.in-None.ensures.none))
    ∙ ap (table_named c.args.name.now) c.self.view_is
