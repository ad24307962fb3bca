use Rattle.std.proofs.Common.{ap, codes}
use Rattle.std.specs.Option.{option_copied}
use Rattle.std.proofs.lemmas.Result.{IfOk-weaker}
use Rattle.json_fields.specs.Fields.{HasField}
use Rattle.json_fields.proofs.AnswerLemmas.{along}
use Rattle.airbyte_message.proofs.StateLemmas.{stream_at, stream_absent}
use Rattle.airbyte_message.proofs.stream_blob.stream_of.Goals as goal

pub returns-in-Some : goal.returns-in-Some
returns-in-Some c =
    let field = along (HasField c.args.text.now (codes "stream")) (ap option_copied c.in-Some.is) c.in_ok-stream.ensures.field in
    IfOk-weaker c.stream_blob_of.result _ _ (λ found answer. stream_at c.args.text.now c.in-Some.stream.now found field answer) c.stream_blob_of.ensures

pub returns-in-None : goal.returns-in-None
returns-in-None c = stream_absent c.args.text.now (along (HasField c.args.text.now (codes "stream")) (ap option_copied c.in-None.is) c.in_ok-stream.ensures.field)
