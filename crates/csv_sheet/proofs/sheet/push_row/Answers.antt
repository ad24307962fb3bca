use Rattle.std.proofs.Common.{arith}
use Rattle.csv.specs.Records.{fields_of}
use Rattle.csv_sheet.proofs.FitLemmas.{field_there, pushed}
use Rattle.csv_sheet.proofs.sheet.push_row.Goals as goal

pub unreachable-requires : goal.unreachable-requires
unreachable-requires c = field_there (fields_of c.args.row.now) c.loop-place.place (omega (arith, c.loop-place-test.true, c.len-place-end.ensures)) c.in_default.ensures.value

pub loop-place-preserved : goal.loop-place-preserved
loop-place-preserved c =
    pushed (fields_of c.loop-place.cells) (fields_of c.push_field.new.self) (fields_of c.args.row.now) c.loop-place.place c.in-Some.field.now _ c.in-Some.ensures.value c.in_ok-push_field.ensures.fields c.loop-place.invariant
