use Rattle.std.proofs.Common.{◌∙◌, Some, ap, map, string_bytes, sym}
use Rattle.std.specs.Option.{option_copied}
use Rattle.cli_words.specs.Connectors.{source_asked}
use Rattle.cli_words.specs.Connectors as asked
use Rattle.cli_words.specs.Shown.{source_shown}
use Rattle.cli_words.specs.declared.connectors.SourceCommand.{SourceCommand}
use Rattle.table_run.specs.Runs.{outside_of}
use Rattle.table_run.proofs.RunLemmas.{as_asked, out_of_form}
use Rattle.table_run.proofs.WholeLemmas.{complete}
use Rattle.table_run.proofs.run.run_source.Goals as goal

pub returns-in-Some-Spec-clause-runs : goal.returns-in-Some-Spec-clause-runs
returns-in-Some-Spec-clause-runs g c =
    let rows = g.R.RowStore.seen c.args.rows in
    let desk = g.K.Desk.seen c.args.desk.now in
    as_asked c.run_spec-status.result desk.texts rows.rows c.args.now_ms (Some asked.Spec) (source_asked (map string_bytes c.args.words.now)) (outside_of desk rows) (outside_of (g.K.Desk.seen c.run_spec-status.new.desk) rows)
    (ap (λ (command : SourceCommand). Some (source_shown command)) (sym c.in-Some-Spec.field-0-is) ∙ c.in-Some-Spec.ensures) (c.run_spec-status.ensures.runs rows)

pub returns-in-Some-Discover-clause-runs : goal.returns-in-Some-Discover-clause-runs
returns-in-Some-Discover-clause-runs g c =
    let rows = g.R.RowStore.seen c.args.rows in
    let desk = g.K.Desk.seen c.args.desk.now in
    as_asked c.run_discover-status.result desk.texts rows.rows c.args.now_ms (Some (asked.Discover c.in-Some-Discover.config.now)) (source_asked (map string_bytes c.args.words.now)) (outside_of desk rows)
    (outside_of (g.K.Desk.seen c.run_discover-status.new.desk) rows) (ap (λ (command : SourceCommand). Some (source_shown command)) (sym c.in-Some-Discover.field-0-is) ∙ c.in-Some-Discover.ensures) (c.run_discover-status.ensures.runs rows)

pub returns-in-Some-Discover-clause-complete : goal.returns-in-Some-Discover-clause-complete
returns-in-Some-Discover-clause-complete g c =
    let rows = g.R.RowStore.seen c.args.rows in
    let desk = g.K.Desk.seen c.args.desk.now in
    let words = source_asked (map string_bytes c.args.words.now) in
    let new = outside_of (g.K.Desk.seen c.run_discover-status.new.desk) rows in
    complete c.args.now_ms words c.run_discover-status.result (outside_of desk rows) new
    (as_asked c.run_discover-status.result desk.texts rows.rows c.args.now_ms (Some (asked.Discover c.in-Some-Discover.config.now)) words (outside_of desk rows) new (ap (λ (command : SourceCommand). Some (source_shown command)) (sym c.in-Some-Discover.field-0-is) ∙ c.in-Some-Discover.ensures) (c.run_discover-status.ensures.runs rows))

pub returns-in-Some-Read-clause-complete : goal.returns-in-Some-Read-clause-complete
returns-in-Some-Read-clause-complete g c =
    let rows = g.R.RowStore.seen c.args.rows in
    let desk = g.K.Desk.seen c.args.desk.now in
    let words = source_asked (map string_bytes c.args.words.now) in
    let new = outside_of (g.K.Desk.seen c.run_read_by.new.desk) (g.R.RowStore.seen c.run_read_by.result.rows) in
    complete c.args.now_ms words c.run_read_by.result.status (outside_of desk rows) new
    (as_asked c.run_read_by.result.status desk.texts rows.rows c.args.now_ms (Some (asked.Read c.in-Some-Read.config.now c.in-Some-Read.catalog.now (option_copied c.in-Some-Read.state))) words (outside_of desk rows) new
    (ap (λ (command : SourceCommand). Some (source_shown command)) (sym c.in-Some-Read.field-0-is) ∙ c.in-Some-Read.ensures) c.run_read_by.ensures.runs)

pub returns-in-None-clause-runs : goal.returns-in-None-clause-runs
returns-in-None-clause-runs g c =
    let rows = g.R.RowStore.seen c.args.rows in
    let desk = g.K.Desk.seen c.args.desk.now in
    out_of_form desk.texts rows.rows c.args.now_ms (source_asked (map string_bytes c.args.words.now)) (outside_of desk rows) c.in-None.ensures
