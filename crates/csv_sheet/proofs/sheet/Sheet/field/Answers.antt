use Rattle.std.proofs.Common.{◌≡◌, ◌∙◌, ℕ, ◌+◌, ◌*◌, ◌<◌, length, slice_get, Some, sym, ap, subst, arith}
use Rattle.csv.specs.Records.{fields_of}
use Rattle.csv_sheet.specs.Sheet.{Fields, Sheet}
use Rattle.csv_sheet.specs.Cells.{records_cut}
use Rattle.csv_sheet.proofs.CellLemmas.{cell_of, cell_within, cut_length, field_is}
use Rattle.csv_sheet.proofs.FitLemmas.{field_there}
use Rattle.csv_sheet.proofs.sheet.Sheet.field.Goals as goal

-- the place of a field is one of all fields
within : (sheet : Sheet) (header cells : Fields) (count row column len : ℕ) → record { header = header; records = records_cut (length header) count cells } ≡ sheet → length cells ≡ count * length header
    → row < length sheet.records → column < length sheet.header → len ≡ length header → row * len + column < length cells
within sheet header cells count row column len view size in_rows in_columns same =
    let rows : count ≡ length sheet.records = sym (cut_length (length header) count cells) ∙ ap (λ (s : Sheet). length s.records) view in
    let columns : length header ≡ length sheet.header = ap (λ (s : Sheet). length s.header) view in
    let place = cell_within (length header) count row column (omega (arith, in_rows, rows)) (omega (arith, in_columns, columns)) in
    subst (λ (n : ℕ). row * n + column < length cells) (sym same) (omega (arith, place, size))

pub overflow_mul-row : goal.overflow_mul-row
overflow_mul-row c =
    let place = within c.args.self.now (fields_of c.self.inside.header) (fields_of c.self.inside.cells) c.self.inside.count c.args.row c.args.column c.len.result c.self.view_is c.self.invariant c.requires.row c.requires.column c.len.ensures in
    omega (arith, place, c.len-all.ensures, c.len-all.type_inv)

pub overflow_add-row : goal.overflow_add-row
overflow_add-row c =
    let place = within c.args.self.now (fields_of c.self.inside.header) (fields_of c.self.inside.cells) c.self.inside.count c.args.row c.args.column c.len.result c.self.view_is c.self.invariant c.requires.row c.requires.column c.len.ensures in
    omega (arith, place, c.len-all.ensures, c.len-all.type_inv)

pub unreachable-requires : goal.unreachable-requires
unreachable-requires c =
    let place = within c.args.self.now (fields_of c.self.inside.header) (fields_of c.self.inside.cells) c.self.inside.count c.args.row c.args.column c.len.result c.self.view_is c.self.invariant c.requires.row c.requires.column c.len.ensures in
    field_there (fields_of c.self.inside.cells) (c.args.row * c.len.result + c.args.column) place c.in-None.ensures.value

pub returns : goal.returns
returns c = λ fields at.
    let header = fields_of c.self.inside.header in
    let cells = fields_of c.self.inside.cells in
    let columns : length header ≡ length c.args.self.now.header = ap (λ (s : Sheet). length s.header) c.self.view_is in
    let there : slice_get (records_cut (length header) c.self.inside.count cells) c.args.row ≡ Some fields = ap (λ (s : Sheet). slice_get s.records c.args.row) c.self.view_is ∙ at in
    cell_of (length header) c.self.inside.count c.args.row c.args.column cells fields (omega (arith, c.requires.column, columns)) there
    ∙ ap (λ (n : ℕ). slice_get cells (c.args.row * n + c.args.column)) (sym c.len.ensures)
    ∙ sym (field_is cells (c.args.row * c.len.result + c.args.column)) ∙ sym c.in-Some.ensures.value
