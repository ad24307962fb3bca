use Rattle.std.proofs.Common.{codes}
use Rattle.json_fields.specs.Fields.{HasText, HasOptionalText}
use Rattle.json_fields.proofs.AnswerLemmas.{along}
use Rattle.airbyte_message.proofs.PartLemmas.{stream_id_answer, stream_id_misplaced, stream_id_unnamed}
use Rattle.state_kinds.proofs.form.stream_id_of.Goals as goal

pub returns-in_default : goal.returns-in_default
returns-in_default c = stream_id_unnamed c.args.text.now (codes "name") (along (HasText c.args.text.now (codes "name")) c.in_default.is c.in_ok-name.ensures)

pub returns-in_default-2 : goal.returns-in_default-2
returns-in_default-2 c = stream_id_misplaced c.args.text.now (codes "name") (along (HasOptionalText c.args.text.now (codes "namespace")) c.in_default-2.is c.in_ok-namespace.ensures)

pub returns : goal.returns
returns c =
    stream_id_answer c.args.text.now (codes "name") c.in-Some.name c.in-Some-2.namespace (along (HasText c.args.text.now (codes "name")) c.in-Some.is c.in_ok-name.ensures) (along (HasOptionalText c.args.text.now (codes "namespace")) c.in-Some-2.is c.in_ok-namespace.ensures)
