use Rattle.std.proofs.Common.{ap, codes, None}
use Rattle.std.specs.Option.{option_copied}
use Rattle.std.proofs.lemmas.Result.{IfOk-weaker}
use Rattle.json_fields.specs.Fields.{HasField, line_depth}
use Rattle.json_fields.proofs.AnswerLemmas.{along, uncut}
use Rattle.airbyte_message.proofs.PartLemmas.{descriptor_at, descriptor_absent, stream_id_uncut}
use Rattle.airbyte_message.proofs.parts.descriptor_of.Goals as goal

pub returns-in_default : goal.returns-in_default
returns-in_default c = descriptor_absent c.args.text.now (along (HasField c.args.text.now (codes "stream_descriptor")) (ap option_copied c.in_default.is) c.in_ok-descriptor.ensures.field)

pub returns-in-Some-2 : goal.returns-in-Some-2
returns-in-Some-2 c =
    let field = along (HasField c.args.text.now (codes "stream_descriptor")) (ap option_copied c.in-Some.is) c.in_ok-descriptor.ensures.field in
    IfOk-weaker c.stream_id_of.result _ _ (λ found answer. descriptor_at c.args.text.now c.in-Some.descriptor.now found field answer) c.stream_id_of.ensures

pub returns-in-None : goal.returns-in-None
returns-in-None c =
    let field = along (HasField c.args.text.now (codes "stream_descriptor")) (ap option_copied c.in-Some.is) c.in_ok-descriptor.ensures.field in
    descriptor_at c.args.text.now c.in-Some.descriptor.now None field (stream_id_uncut c.in-Some.descriptor.now (codes "name") (uncut line_depth c.in-Some.descriptor.now c.in_ok-parts.field-0 c.in-None.is c.in_ok-parts.ensures.none))
