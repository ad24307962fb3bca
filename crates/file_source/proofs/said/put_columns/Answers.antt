use Rattle.std.proofs.Common.{◌∙◌, ◌++◌, codes, ap, arith}
use Rattle.std.proofs.lemmas.List.{take_all}
use Rattle.json_write.specs.Objects.{open_object}
use Rattle.csv_sheet.specs.Sheet.{Fields}
use Rattle.file_source.specs.Discovered.{column_part, column_parts}
use Rattle.file_source.proofs.ObjectLemmas.{made_more, named_value, object_closes, on_ok}
use Rattle.file_source.proofs.said.put_columns.Goals as goal

pub loop-column-preserved : goal.loop-column-preserved
loop-column-preserved c =
    made_more column_part c.args.sheet.now.header c.loop-column.column c.name.result.now c.args.text.now c.loop-column.text c.extend.new.self c.name.ensures c.loop-column.invariant
    (named_value c.loop-column.text c.put_comma.new.text c.put_string.new.text c.extend.new.self c.name.result.now (codes "{\"type\":\"string\"}") c.loop-column.column c.in_ok-put_comma.ensures.ok c.in_ok-put_string.ensures.ok c.in_ok-extend.ensures.ok)

pub returns : goal.returns
returns c =
    on_ok c.push-2.result (λ pushed.
    object_closes (column_parts c.args.sheet.now.header) c.args.text.now c.loop-column.text c.push-2.new.self
    (c.loop-column.invariant ∙ ap (λ (names : Fields). c.args.text.now ++ open_object (column_parts names)) (take_all c.loop-column.column c.args.sheet.now.header (omega (arith, c.loop-column-test.false, c.columns-column-end.ensures)))) pushed) c.push-2.ensures.ok
