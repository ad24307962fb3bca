use Rattle.std.proofs.Common.{◌≡◌, List, ℕ, IfSome, subst}
use Rattle.std.proofs.lemmas.Result.{IfErr-weaker}
use Rattle.outside.specs.declared.line.NumberedRow.{NumberedRow}
use Rattle.table_feed.specs.Source.{UnfitIn}
use Rattle.table_feed.proofs.SourceLemmas.{no_row}
use Rattle.table_feed.proofs.source.TableSourceStreamSource.open_stream.Goals as goal

pub returns-in-Ok-clause-refused : goal.returns-in-Ok-clause-refused
returns-in-Ok-clause-refused g c =
    let told = (g.R.RowStore.seen c.args.self.now.rows).rows in
    let rows = c.in-Ok.rows in
    let are = subst (λ (name : List ℕ). IfSome told (λ by_table. rows ≡ by_table name)) c.as_str-2.ensures c.in-Ok.ensures.rows in
    IfErr-weaker c.listed.result _ _
    (λ why unfit. no_row told c.args.self.now.config.tables c.args.number c.args.stream.now c.args.start.now rows why c.in-Ok.ensures.rising are (subst (λ (rs : List NumberedRow). UnfitIn c.args.number rs why) c.as_slice.ensures unfit)) c.listed.ensures.refused
