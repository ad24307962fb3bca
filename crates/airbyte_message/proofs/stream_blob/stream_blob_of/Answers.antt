use Rattle.std.proofs.Common.{sym, codes}
use Rattle.json_fields.specs.Fields.{HasOptional, line_depth}
use Rattle.airbyte_message.specs.Parts.{HasDescriptor}
use Rattle.json_fields.proofs.AnswerLemmas.{along, along_only, uncut}
use Rattle.airbyte_message.proofs.StateLemmas.{stream_blob_answer, stream_blob_unnamed, stream_blob_uncut}
use Rattle.airbyte_message.proofs.stream_blob.stream_blob_of.Goals as goal

pub returns-in_default : goal.returns-in_default
returns-in_default c = stream_blob_uncut c.args.text.now (uncut line_depth c.args.text.now c.in_ok-members.field-0 c.in_default.is c.in_ok-members.ensures.none)

pub returns-in_default-2 : goal.returns-in_default-2
returns-in_default-2 c = stream_blob_unnamed c.args.text.now (along (HasDescriptor c.args.text.now) c.in_default-2.is c.in_ok-id.ensures)

pub returns : goal.returns
returns c =
    let text = c.args.text.now in
    stream_blob_answer text c.in-Some-2.id c.in_ok-copied.field-0 (along (HasDescriptor text) c.in-Some-2.is c.in_ok-id.ensures) (along_only (HasOptional text (codes "stream_state")) (sym c.in_ok-copied.ensures) c.in_ok-blob.ensures)
