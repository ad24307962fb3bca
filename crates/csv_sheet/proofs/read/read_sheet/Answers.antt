use Rattle.std.proofs.Common.{◌≡◌, ◌∙◌, ◌+◌, ℕ, [], Bool, Ok, Err, length, sym, ap, subst}
use Rattle.std.proofs.lemmas.Bool.{eqb-true}
use Rattle.csv.specs.Records.{fields_of}
use Rattle.csv_sheet.specs.Sheet.{Fields, Sheet, sheet_in}
use Rattle.csv_sheet.specs.Cells.{records_cut}
use Rattle.csv_sheet.specs.Reads.{ReadsRow}
use Rattle.csv_sheet.specs.declared.read.SheetFault.TheVariants as fault
use Rattle.csv_sheet.proofs.ReadLemmas.{answer_of, ends, handed_on, no_header, one_more, short_row, starts, starts_behind, unfit_header, unfit_row}
use Rattle.csv_sheet.proofs.read.read_sheet.Goals as goal

pub returns-in_err-next_row-clause-refused : goal.returns-in_err-next_row-clause-refused
returns-in_err-next_row-clause-refused c =
    let made = c.from_reader-reader.ensures in
    let headers = c.has_headers.ensures in
    let flexible = c.flexible.ensures in
    let first = starts_behind c.args.text.now c.from_reader-reader.result (rw (flexible, headers) at made.trim ∙ c.new.ensures.trim) (rw (flexible, headers) at made.has_headers) made.headers (rw (flexible, headers) at made.config ∙ c.new.ensures.config) made.state made.source in
    handed_on c.from_residual.result c.in_err-next_row.field-0.0 (λ why. (row : ℕ) → why ≡ fault.Misfit row → sheet_in c.args.text.now ≡ Err row) c.from_residual.ensures.1
    (unfit_header c.args.text.now (fields_of c.next_row.new.row) c.in_err-next_row.field-0.0 c.from_reader-reader.result c.next_row.new.reader first c.in_err-next_row.ensures)

pub returns-then-not-branch-clause-read : goal.returns-then-not-branch-clause-read
returns-then-not-branch-clause-read c =
    let made = c.from_reader-reader.ensures in
    let headers = c.has_headers.ensures in
    let flexible = c.flexible.ensures in
    let first = starts_behind c.args.text.now c.from_reader-reader.result (rw (flexible, headers) at made.trim ∙ c.new.ensures.trim) (rw (flexible, headers) at made.has_headers) made.headers (rw (flexible, headers) at made.config ∙ c.new.ensures.config) made.state made.source in
    let row = fields_of c.next_row.new.row in
    let reads = subst (λ (b : Bool). ReadsRow 0 (Ok b) c.from_reader-reader.result row c.next_row.new.reader) c.if-not-branch.true c.in_ok-next_row.ensures in
    let none : c.new-then-not-branch-2.result ≡ record { header = []; records = [] } =
    c.new-then-not-branch-2.ensures ∙ ap (λ (h : Fields). record { header = h; records = records_cut (length h) 0 (fields_of c.new-cells.result) }) c.new-then-not-branch.ensures.fields in
    no_header 0 c.args.text.now row c.from_reader-reader.result c.next_row.new.reader first reads ∙ ap (λ (s : Sheet). Ok s) (sym none)

pub loop-count-init : goal.loop-count-init
loop-count-init c =
    let made = c.from_reader-reader.ensures in
    let headers = c.has_headers.ensures in
    let flexible = c.flexible.ensures in
    let first = starts_behind c.args.text.now c.from_reader-reader.result (rw (flexible, headers) at made.trim ∙ c.new.ensures.trim) (rw (flexible, headers) at made.has_headers) made.headers (rw (flexible, headers) at made.config ∙ c.new.ensures.config) made.state made.source in
    let row = fields_of c.next_row.new.row in
    let reads = subst (λ (b : Bool). ReadsRow 0 (Ok b) c.from_reader-reader.result row c.next_row.new.reader) c.if-not-branch.false c.in_ok-next_row.ensures in
    starts 0 c.args.text.now row (fields_of c.new-cells.result) c.from_reader-reader.result c.next_row.new.reader first reads c.new-cells.ensures.fields

pub returns-in_err-next_row-2-clause-refused : goal.returns-in_err-next_row-2-clause-refused
returns-in_err-next_row-2-clause-refused c =
    handed_on c.from_residual-in_err-next_row-2.result c.in_err-next_row-2.field-0.0 (λ why. (row : ℕ) → why ≡ fault.Misfit row → sheet_in c.args.text.now ≡ Err row) c.from_residual-in_err-next_row-2.ensures.1
    (unfit_row c.args.text.now (fields_of c.loop-count.header) c.loop-count.count (fields_of c.loop-count.cells) (fields_of c.next_row-in-loop-count.new.row) c.in_err-next_row-2.field-0.0 c.loop-count.reader c.next_row-in-loop-count.new.reader c.loop-count.invariant c.in_err-next_row-2.ensures)

pub returns-then-not-branch-2-clause-read : goal.returns-then-not-branch-2-clause-read
returns-then-not-branch-2-clause-read c =
    let number = c.loop-count.count + 1 in
    let row = fields_of c.next_row-in-loop-count.new.row in
    let reads = subst (λ (b : Bool). ReadsRow number (Ok b) c.loop-count.reader row c.next_row-in-loop-count.new.reader) c.if-not-branch-2.true c.in_ok-next_row-2.ensures in
    ends number c.args.text.now (fields_of c.loop-count.header) c.loop-count.count (fields_of c.loop-count.cells) row c.loop-count.reader c.next_row-in-loop-count.new.reader c.loop-count.invariant reads
    ∙ ap (λ (s : Sheet). Ok s) (sym c.new-then-not-branch-2-2.ensures)

pub returns-then-not-is_whole-clause-refused : goal.returns-then-not-is_whole-clause-refused
returns-then-not-is_whole-clause-refused c = λ at same.
    let number = c.loop-count.count + 1 in
    let row = fields_of c.next_row-in-loop-count.new.row in
    let reads = subst (λ (b : Bool). ReadsRow number (Ok b) c.loop-count.reader row c.next_row-in-loop-count.new.reader) c.if-not-branch-2.false c.in_ok-next_row-2.ensures in
    short_row number c.args.text.now (fields_of c.loop-count.header) c.loop-count.count (fields_of c.loop-count.cells) row c.loop-count.reader c.next_row-in-loop-count.new.reader c.loop-count.invariant reads (sym c.is_whole.ensures ∙ c.if-not-is_whole.true)
    ∙ ap answer_of same

pub loop-count-preserved : goal.loop-count-preserved
loop-count-preserved c =
    let number = c.loop-count.count + 1 in
    let header = fields_of c.loop-count.header in
    let row = fields_of c.next_row-in-loop-count.new.row in
    let reads = subst (λ (b : Bool). ReadsRow number (Ok b) c.loop-count.reader row c.next_row-in-loop-count.new.reader) c.if-not-branch-2.false c.in_ok-next_row-2.ensures in
    let whole = sym c.is_whole.ensures ∙ c.if-not-is_whole.false in
    one_more number c.args.text.now header c.loop-count.count (fields_of c.loop-count.cells) (fields_of c.push_row.new.cells) row c.loop-count.reader c.next_row-in-loop-count.new.reader c.loop-count.invariant reads whole (eqb-true (length row) (length header) whole) c.in_ok-push_row.ensures
