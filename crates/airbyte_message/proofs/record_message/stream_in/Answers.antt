use Rattle.std.proofs.Common.{ap, codes}
use Rattle.std.specs.Option.{option_map}
use Rattle.json_fields.specs.Fields.{HasText, HasOptionalText}
use Rattle.json_fields.specs.Words.{viewed}
use Rattle.json_fields.proofs.AnswerLemmas.{along}
use Rattle.airbyte_message.proofs.PartLemmas.{stream_id_answer, stream_id_unnamed, stream_id_misplaced}
use Rattle.airbyte_message.proofs.record_message.stream_in.Goals as goal

pub returns-in_default : goal.returns-in_default
returns-in_default c =
    stream_id_unnamed c.args.text.now (codes "stream") (along (HasText c.args.text.now (codes "stream")) (ap (option_map viewed) c.in_default.is) c.in_ok-name.ensures)

pub returns-in_default-2 : goal.returns-in_default-2
returns-in_default-2 c =
    stream_id_misplaced c.args.text.now (codes "stream") (along (HasOptionalText c.args.text.now (codes "namespace")) (ap (option_map (option_map viewed)) c.in_default-2.is) c.in_ok-namespace.ensures)

pub returns : goal.returns
returns c =
    stream_id_answer c.args.text.now (codes "stream") (viewed c.in-Some.name) (option_map viewed c.in-Some-2.namespace) (along (HasText c.args.text.now (codes "stream")) (ap (option_map viewed) c.in-Some.is) c.in_ok-name.ensures) (along (HasOptionalText c.args.text.now (codes "namespace")) (ap (option_map (option_map viewed)) c.in-Some-2.is) c.in_ok-namespace.ensures)
