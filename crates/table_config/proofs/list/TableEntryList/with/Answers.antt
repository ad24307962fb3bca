use Rattle.std.proofs.Common.{◌∙◌, List, ℕ, ap, sym}
use Rattle.std.specs.List.{list_any}
use Rattle.std.specs.Str.{bytes_eq}
use Rattle.table_config.specs.Tables.{names_of, with_table}
use Rattle.table_config.specs.declared.config.TableEntry.{TableEntry}
use Rattle.table_config.proofs.TableLemmas.{passed_over, some_any}
use Rattle.table_config.proofs.list.TableEntryList.with.Goals as goal

pub returns-in-Some : goal.returns-in-Some
returns-in-Some c =
    let name = c.as_str.result.now in
    sym (passed_over c.self.inside.entries c.args.entry
    (ap (λ (n : List ℕ). list_any (bytes_eq n) (names_of c.self.inside.entries)) (sym c.as_str.ensures)
    ∙ ap (list_any (bytes_eq name)) (sym c.self.invariant.named) ∙ some_any name c.self.inside.names c.in-Some._place c.in-Some.ensures.found))
    ∙ ap (λ (tables : List TableEntry). with_table tables c.args.entry) c.self.view_is
