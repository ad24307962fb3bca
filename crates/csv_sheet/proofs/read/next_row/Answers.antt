use Rattle.std.proofs.Common.{◌≡◌, Bool, Err, sym, subst}
use Rattle.csv.specs.Reading.{ReadRecord, Ready, error_kind, reader_trim}
use Rattle.csv.specs.Records.{fields_of}
use Rattle.csv.specs.declared.reader.Trim.TheVariants as trim
use Rattle.csv_sheet.specs.Reads.{ReadsRow}
use Rattle.csv_sheet.specs.declared.read.SheetFault.{SheetFault}
use Rattle.csv_sheet.proofs.ReadLemmas.{left, reads_more, reads_none, reads_unfit}
use Rattle.csv_sheet.proofs.read.next_row.Goals as goal

pub returns-in-Ok-true : goal.returns-in-Ok-true
returns-in-Ok-true c =
    let old = c.args.reader.now in
    let new = c.read_record.new.self in
    let row = fields_of c.read_record.new.row in
    reads_more c.args.number old new row (subst (λ (found : Bool). reader_trim old ≡ trim.None → Ready old → ReadRecord left old new found row) c.in-Ok-true.field-0-test c.in-Ok-true.ensures.reads) c.in-Ok-true.ensures.text c.in-Ok-true.ensures.ready

pub returns-in-Ok-false : goal.returns-in-Ok-false
returns-in-Ok-false c =
    let old = c.args.reader.now in
    let new = c.read_record.new.self in
    let row = fields_of c.read_record.new.row in
    reads_none c.args.number old new row (subst (λ (found : Bool). reader_trim old ≡ trim.None → Ready old → ReadRecord left old new found row) c.in-Ok-false.field-0-test c.in-Ok-false.ensures.reads)

pub returns-in-Err : goal.returns-in-Err
returns-in-Err c =
    let old = c.args.reader.now in
    let new = c.read_record.new.self in
    let row = fields_of c.read_record.new.row in
    subst (λ (why : SheetFault). ReadsRow c.args.number (Err why) old row new) (sym c.fault_of.ensures) (reads_unfit c.args.number old new row (error_kind c.in-Err.error) c.in-Err.ensures.why)
