use Rattle.std.proofs.Common.{List, Option, IfSome, ap, codes, subst, sym}
use Rattle.std.specs.Option.{option_copied}
use Rattle.std.proofs.lemmas.Result.{IfOk-weaker}
use Rattle.json_span.specs.declared.Span.{Span}
use Rattle.json_fields.specs.Fields.{HasField}
use Rattle.json_fields.specs.Parts.{IsCutList}
use Rattle.json_fields.proofs.AnswerLemmas.{along}
use Rattle.airbyte_message.proofs.StateLemmas.{stream_blobs_at, stream_blobs_absent, stream_blobs_uncut, list_uncut}
use Rattle.airbyte_message.proofs.stream_blob.stream_blobs_of.Goals as goal

pub returns-in_default : goal.returns-in_default
returns-in_default c = stream_blobs_absent c.args.text.now (along (HasField c.args.text.now (codes "stream_states")) (ap option_copied c.in_default.is) c.in_ok-list.ensures.field)

pub returns-in-Some-2 : goal.returns-in-Some-2
returns-in-Some-2 c =
    let field = along (HasField c.args.text.now (codes "stream_states")) (ap option_copied c.in-Some.is) c.in_ok-list.ensures.field in
    let found = subst (λ (f : Option (List Span)). IfSome f (IsCutList c.in-Some.list.now)) c.in-Some-2.is c.in_ok-spans.ensures.cut in
    let cut = subst (λ (ss : List Span). IsCutList c.in-Some.list.now ss) (sym c.as_slice.ensures) found in
    IfOk-weaker c.stream_blobs_at.result _ _ (λ found answer. stream_blobs_at c.args.text.now c.in-Some.list.now c.as_slice.result.now found field cut answer) c.stream_blobs_at.ensures

pub returns-in-None : goal.returns-in-None
returns-in-None c =
    let field = along (HasField c.args.text.now (codes "stream_states")) (ap option_copied c.in-Some.is) c.in_ok-list.ensures.field in
    stream_blobs_uncut c.args.text.now c.in-Some.list.now field (list_uncut c.in-Some.list.now c.in_ok-spans.field-0 c.in-None.is c.in_ok-spans.ensures.none)
