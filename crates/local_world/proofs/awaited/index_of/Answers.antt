use Rattle.std.proofs.Common.{◌≡◌, Bool, true, false, Option, length, refl, sym, ◌∙◌, ap, subst}
use Rattle.std.specs.Option.{option_copied}
use Rattle.std.proofs.lemmas.Option.{slice_get_read}
use Rattle.basics.specs.declared.stream.StreamId.{StreamId}
use Rattle.airbyte_message.specs.State.{State}
use Rattle.airbyte_message.specs.declared.message.StateKind.{StateKind}
use Rattle.state_kinds.specs.Store.{AddsOnce}
use Rattle.state_kinds.specs.StateLists.{stream_of as stream_of_kind}
use Rattle.state_kinds.proofs.OnceLemmas.{found_more, found_there}
use Rattle.local_world.proofs.StartedLemmas.{by_bool, true_false}
use Rattle.local_world.proofs.awaited.index_of.Goals as goal

abbrev of : State → Option StreamId
of state = stream_of_kind state.kind

pub loop-state-preserved : goal.loop-state-preserved
loop-state-preserved c =
    let states = c.args.states.now in
    let at = slice_get_read states (length states) c.loop-state.state-index c.state-item.result refl c.loop-state-test.true c.state-item.is in
    let found = c.stream_of.ensures ∙ ap (λ (k : StateKind). stream_of_kind k) c.kind.ensures in
    let adds : (b : Bool) → c.in_ok-_is_new._is_new ≡ b → AddsOnce c.loop-state.index (option_copied c.stream_of.result) c.add_stream.new.index b = λ b e. subst (λ (x : Bool). AddsOnce c.loop-state.index (option_copied c.stream_of.result) c.add_stream.new.index x) e c.in_ok-_is_new.ensures in
    by_bool c.in_ok-_is_new._is_new
    (λ new. found_more of states c.loop-state.state-index c.state-item.result (option_copied c.stream_of.result) c.loop-state.index c.add_stream.new.index at found (adds true new) c.loop-state.invariant)
    (λ there. true_false (sym (found_there of states c.loop-state.state-index c.state-item.result (option_copied c.stream_of.result) c.loop-state.index c.add_stream.new.index at found (adds false there) c.loop-state.invariant) ∙ c.requires))
