use Rattle.std.proofs.Common.{List, ℕ, subst, codes}
use Rattle.json_scalar.specs.Text.{IsString}
use Rattle.json_fields.specs.Answer.{IsAnswer}
use Rattle.json_fields.specs.Parts.{IsCount}
use Rattle.json_fields.proofs.PartLemmas.{count_answer}
use Rattle.file_source.proofs.BlobLemmas.{member_answer}
use Rattle.file_source.proofs.blob.row_number.Goals as goal

pub returns-then-branch : goal.returns-then-branch
returns-then-branch c =
    let told = c.whole_of.ensures in
    let count = count_answer c.of-then-branch.result.now c.whole_of.result told.found told.small told.only told.none in
    let name : IsString c.of.result.now (codes "row") = c.in_ok-is_string_of.ensures.0 c.if-branch.true in
    member_answer c.args.blob.now c.args.member.now c.whole_of.result
    (subst (λ (key : List ℕ). IsString key (codes "row")) c.of.ensures name)
    (subst (λ (held : List ℕ). IsAnswer (IsCount held) c.whole_of.result) c.of-then-branch.ensures count)
