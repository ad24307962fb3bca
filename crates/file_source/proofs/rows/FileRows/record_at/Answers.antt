use Rattle.std.proofs.Common.{◌≡◌, length, ap, arith}
use Rattle.file_source.specs.Rows.{RowsSeen}
use Rattle.file_source.proofs.RowLemmas.{place_within}
use Rattle.file_source.proofs.rows.FileRows.record_at.Goals as goal

pub overflow_add-result : goal.overflow_add-result
overflow_add-result c =
    let behind : c.self.inside.behind ≡ c.args.self.now.behind = ap (λ (rows : RowsSeen). rows.behind) c.self.view_is in
    let all : length c.self.inside.sheet.records ≡ length c.args.self.now.sheet.records = ap (λ (rows : RowsSeen). length rows.sheet.records) c.self.view_is in
    omega (arith, place_within c.args.self.now c.args.place c.requires, behind, all, c.len-all.ensures, c.len-all.type_inv)

pub returns-clause-number : goal.returns-clause-number
returns-clause-number c =
    let behind : c.self.inside.behind ≡ c.args.self.now.behind = ap (λ (rows : RowsSeen). rows.behind) c.self.view_is in
    omega (arith, behind)

pub returns-clause-within : goal.returns-clause-within
returns-clause-within c =
    let behind : c.self.inside.behind ≡ c.args.self.now.behind = ap (λ (rows : RowsSeen). rows.behind) c.self.view_is in
    omega (arith, place_within c.args.self.now c.args.place c.requires, behind)

pub returns-clause-fits : goal.returns-clause-fits
returns-clause-fits c =
    let behind : c.self.inside.behind ≡ c.args.self.now.behind = ap (λ (rows : RowsSeen). rows.behind) c.self.view_is in
    let all : length c.self.inside.sheet.records ≡ length c.args.self.now.sheet.records = ap (λ (rows : RowsSeen). length rows.sheet.records) c.self.view_is in
    omega (arith, place_within c.args.self.now c.args.place c.requires, behind, all, c.len-all.ensures, c.len-all.type_inv)
