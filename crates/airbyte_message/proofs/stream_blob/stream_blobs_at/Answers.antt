use Rattle.std.proofs.Common.{◌≡◌, ◌<◌, List, length, take, subst}
use Rattle.std.proofs.lemmas.List.{take_all}
use Rattle.json_span.specs.declared.Span.{Span}
use Rattle.airbyte_message.specs.States.{IsStreamBlob}
use Rattle.json_fields.proofs.AnswerLemmas.{along}
use Rattle.airbyte_message.proofs.StateLemmas.{AreOnly, stream_blobs_only, stream_blobs_more, stream_blobs_none}
use Rattle.airbyte_message.proofs.stream_blob.stream_blobs_at.Goals as goal

abbrev no_span : Span
no_span = record { start = 0; end = 0 }

pub loop-span-preserved : goal.loop-span-preserved
loop-span-preserved c =
    let lt : c.loop-span.span-index < length c.args.spans.now = c.loop-span-test.true in
    stream_blobs_more c.args.text.now c.args.spans.now c.loop-span.span-index no_span c.loop-span.parts c.push.new.self c.in-Some.part c.of.result.now lt c.of.ensures c.in_ok-push.ensures.ok (along (IsStreamBlob c.of.result.now) c.in-Some.is c.in_ok-part.ensures) c.loop-span.invariant

pub returns-in_default : goal.returns-in_default
returns-in_default c =
    let lt : c.loop-span.span-index < length c.args.spans.now = c.loop-span-test.true in
    stream_blobs_none c.args.text.now c.args.spans.now c.loop-span.span-index no_span c.of.result.now lt c.of.ensures (along (IsStreamBlob c.of.result.now) c.in_default.is c.in_ok-part.ensures)

pub returns : goal.returns
returns c =
    let all : take c.loop-span.span-index c.args.spans.now ≡ c.args.spans.now = take_all c.loop-span.span-index c.args.spans.now c.loop-span-test.false in
    stream_blobs_only c.args.text.now c.args.spans.now c.loop-span.parts (subst (λ (ss : List Span). AreOnly c.args.text.now ss c.loop-span.parts) all c.loop-span.invariant)
