use Rattle.std.proofs.Common.{ap, codes}
use Rattle.std.specs.Option.{option_copied, option_map}
use Rattle.json_fields.specs.Parts.{HasCount, HasObject}
use Rattle.json_fields.proofs.AnswerLemmas.{along}
use Rattle.airbyte_message.proofs.MessageLemmas.{record_answer, record_no_id, record_no_body, record_no_time}
use Rattle.airbyte_message.specs.Parts.{IsStreamId}
use Rattle.airbyte_message.specs.Views.{id_at}
use Rattle.airbyte_message.proofs.record_message.record_in.Goals as goal

pub returns-in_default : goal.returns-in_default
returns-in_default c =
    record_no_id c.args.text.now (along (IsStreamId c.args.text.now (codes "stream")) (ap (option_map id_at) c.in_default.is) c.in_ok-id.ensures)

pub returns-in_default-2 : goal.returns-in_default-2
returns-in_default-2 c =
    record_no_body c.args.text.now (along (HasObject c.args.text.now (codes "data")) (ap option_copied c.in_default-2.is) c.in_ok-body.ensures)

pub returns-in_default-3 : goal.returns-in_default-3
returns-in_default-3 c =
    record_no_time c.args.text.now (along (HasCount c.args.text.now (codes "emitted_at")) c.in_default-3.is c.in_ok-emitted_at.ensures)

pub returns : goal.returns
returns c =
    let text = c.args.text.now in
    record_answer text (id_at c.in-Some.id) c.in-Some-2.body.now c.in-Some-3.emitted_at (option_copied c.in_ok-meta.meta) (along (IsStreamId text (codes "stream")) (ap (option_map id_at) c.in-Some.is) c.in_ok-id.ensures) (along (HasObject text (codes "data")) (ap option_copied c.in-Some-2.is) c.in_ok-body.ensures) (along (HasCount text (codes "emitted_at")) c.in-Some-3.is c.in_ok-emitted_at.ensures) c.in_ok-meta.ensures
