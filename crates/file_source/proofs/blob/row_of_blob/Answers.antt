use Rattle.std.proofs.Common.{List}
use Rattle.json_span.specs.declared.Member.{Member}
use Rattle.json_span.specs.Members.{AreMembers}
use Rattle.json_fields.specs.Fields.{IsCut}
use Rattle.file_source.proofs.BlobLemmas.{along_members, cut_answer, cut_no_blob, no_object, where_none}
use Rattle.file_source.proofs.blob.row_of_blob.Goals as goal

pub returns-in_default : goal.returns-in_default
returns-in_default c =
    no_object c.args.blob.now (where_none ((members : List Member) → ¬ AreMembers 127 c.args.blob.now members) c.in_ok-members.field-0 c.in_default.is c.in_ok-members.ensures.none)

pub returns-in-Some-sole : goal.returns-in-Some-sole
returns-in-Some-sole c =
    let text = c.args.blob.now in
    let cut = along_members (IsCut text) c.in_ok-members.field-0 c.in-Some.members c.in-Some.is c.in_ok-members.ensures.cut in
    cut_answer text c.in-Some.members c.as_slice.result.now c.in-Some-sole.member c.row_number.result cut c.as_slice.ensures c.in-Some-sole.ensures.is c.row_number.ensures

pub returns : goal.returns
returns c =
    let text = c.args.blob.now in
    let cut = along_members (IsCut text) c.in_ok-members.field-0 c.in-Some.members c.in-Some.is c.in_ok-members.ensures.cut in
    cut_no_blob text c.in-Some.members c.as_slice.result.now cut c.as_slice.ensures c.in-None.ensures
