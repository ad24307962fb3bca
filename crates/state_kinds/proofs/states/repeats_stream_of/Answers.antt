use Rattle.std.proofs.Common.{List, Bool, Option, length, subst, sym, refl, ap, ◌∙◌}
use Rattle.std.specs.List.{filter_map}
use Rattle.std.specs.Option.{option_copied}
use Rattle.std.proofs.lemmas.List.{take_all}
use Rattle.std.proofs.lemmas.Option.{slice_get_read}
use Rattle.basics.specs.declared.stream.StreamId.{StreamId}
use Rattle.airbyte_message.specs.State.{State}
use Rattle.airbyte_message.specs.declared.message.StateKind.{StateKind}
use Rattle.state_kinds.specs.Store.{AddsOnce}
use Rattle.state_kinds.specs.StateLists.{stream_of as stream_of_kind}
use Rattle.state_kinds.proofs.OnceLemmas.{HasIndexed, distinct_once, found_more, found_there}
use Rattle.state_kinds.proofs.states.repeats_stream_of.Goals as goal

abbrev of : State → Option StreamId
of state = stream_of_kind state.kind

pub returns-then-not-branch : goal.returns-then-not-branch
returns-then-not-branch c =
    let states = c.args.states.now in
    let at = slice_get_read states (length states) c.loop-state.state-index c.state-item.result refl c.loop-state-test.true c.state-item.is in
    let adds = subst (λ (b : Bool). AddsOnce c.loop-state.index (option_copied c.stream_of.result) c.add_once.new.index b) c.if-not-branch.true c.in_ok-add_once.ensures in
    let found = c.stream_of.ensures ∙ ap (λ (k : StateKind). stream_of_kind k) c.kind.ensures in
    sym (found_there of states c.loop-state.state-index c.state-item.result (option_copied c.stream_of.result) c.loop-state.index c.add_once.new.index at found adds c.loop-state.invariant)

pub loop-state-preserved : goal.loop-state-preserved
loop-state-preserved c =
    let states = c.args.states.now in
    let at = slice_get_read states (length states) c.loop-state.state-index c.state-item.result refl c.loop-state-test.true c.state-item.is in
    let adds = subst (λ (b : Bool). AddsOnce c.loop-state.index (option_copied c.stream_of.result) c.add_once.new.index b) c.if-not-branch.false c.in_ok-add_once.ensures in
    let found = c.stream_of.ensures ∙ ap (λ (k : StateKind). stream_of_kind k) c.kind.ensures in
    found_more of states c.loop-state.state-index c.state-item.result (option_copied c.stream_of.result) c.loop-state.index c.add_once.new.index at found adds c.loop-state.invariant

pub returns : goal.returns
returns c =
    let states = c.args.states.now in
    let h = subst (λ (es : List State). HasIndexed (filter_map of es) c.loop-state.index) (take_all c.loop-state.state-index states c.loop-state-test.false) c.loop-state.invariant in
    sym (distinct_once (filter_map of states) h.distinct)
