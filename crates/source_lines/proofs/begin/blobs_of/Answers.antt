use Rattle.std.proofs.Common.{List, [], ◌∷◌, ◌++◌, ◌<◌, sym, ◌∙◌, ap, take, length}
use Rattle.std.proofs.lemmas.List.{take_more}
use Rattle.airbyte_message.specs.State.{State}
use Rattle.airbyte_message.specs.declared.message.StateKind.{StateKind}
use Rattle.source_lines.specs.Begins.{no_blobs, told_blobs}
use Rattle.source_lines.proofs.BeginLemmas.{blobs_behind, blobs_first, blobs_more, length-blobs}
use Rattle.source_lines.proofs.begin.blobs_of.Goals as goal

pub loop-state-init : goal.loop-state-init
loop-state-init c =
    c.in_ok-blobs.ensures ∙ ap no_blobs c.len.ensures.len ∙ blobs_first c.args.streams.now

pub loop-state-preserved : goal.loop-state-preserved
loop-state-preserved c =
    let front = take c.loop-state.state-index c.args.states.now in
    let within : c.loop-state.state-index < length c.args.states.now = c.loop-state-test.true in
    c.in_ok-put_blob.ensures
    ∙ ap (λ (held : StateKind). told_blobs held c.args.streams.now c.loop-state.blobs) c.kind.ensures
    ∙ ap (told_blobs c.state-item.result.kind c.args.streams.now) c.loop-state.invariant
    ∙ blobs_more front c.state-item.result c.args.streams.now
    ∙ ap (λ (states : List State). blobs_behind states c.args.streams.now) (ap (λ (s : State). front ++ s ∷ []) c.state-item.is ∙ sym (take_more c.args.states.now c.loop-state.state-index c.state-item.result within))

pub put_blob-requires : goal.put_blob-requires
put_blob-requires c = ap length c.loop-state.invariant ∙ length-blobs (take c.loop-state.state-index c.args.states.now) c.args.streams.now
