use Rattle.std.proofs.Common.{ap, codes, sym}
use Rattle.std.specs.Option.{option_copied}
use Rattle.json_fields.specs.Fields.{HasField, HasOptional, line_depth}
use Rattle.airbyte_message.specs.States.{HasStreamBlobs}
use Rattle.json_fields.proofs.AnswerLemmas.{along, along_only, uncut}
use Rattle.airbyte_message.proofs.StateLemmas.{global_answer, global_absent, global_uncut, global_no_list}
use Rattle.airbyte_message.proofs.stream_blob.global_of.Goals as goal

pub returns-in_default : goal.returns-in_default
returns-in_default c = global_absent c.args.text.now (along (HasField c.args.text.now (codes "global")) (ap option_copied c.in_default.is) c.in_ok-global.ensures.field)

pub returns-in_default-2 : goal.returns-in_default-2
returns-in_default-2 c =
    let field = along (HasField c.args.text.now (codes "global")) (ap option_copied c.in-Some.is) c.in_ok-global.ensures.field in
    global_uncut c.args.text.now c.in-Some.global.now field (uncut line_depth c.in-Some.global.now c.in_ok-parts.field-0 c.in_default-2.is c.in_ok-parts.ensures.none)

pub returns-in_default-3 : goal.returns-in_default-3
returns-in_default-3 c =
    let field = along (HasField c.args.text.now (codes "global")) (ap option_copied c.in-Some.is) c.in_ok-global.ensures.field in
    global_no_list c.args.text.now c.in-Some.global.now field (along (HasStreamBlobs c.in-Some.global.now) c.in_default-3.is c.in_ok-streams.ensures)

pub returns : goal.returns
returns c =
    let text = c.args.text.now in
    let field = along (HasField text (codes "global")) (ap option_copied c.in-Some.is) c.in_ok-global.ensures.field in
    global_answer text c.in-Some.global.now c.in_ok-copied.field-0 c.in-Some-3.streams field (along_only (HasOptional c.in-Some.global.now (codes "shared_state")) (sym c.in_ok-copied.ensures) c.in_ok-shared.ensures) (along (HasStreamBlobs c.in-Some.global.now) c.in-Some-3.is c.in_ok-streams.ensures)
