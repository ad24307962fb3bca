use Rattle.std.proofs.Common.{◌≡◌, ◌≤◌, Option, Some, length, ap, ◌∙◌, arith, option_map, slice_get}
use Rattle.std.specs.Option.{option_copied}
use Rattle.std.proofs.lemmas.List.{length-map}
use Rattle.std.proofs.lemmas.Option.{slice_get-map}
use Rattle.catalog.specs.declared.stream.ConfStream.{ConfStream}
use Rattle.catalog.specs.Reading.{ids_of}
use Rattle.state_kinds.specs.Saved.{state_of}
use Rattle.state_kinds.proofs.ListLemmas.{listed_all, listed_more}
use Rattle.state_kinds.proofs.write.put_states.Goals as goal

pub loop-n-preserved : goal.loop-n-preserved
loop-n-preserved c =
    let streams = c.args.configured.now in
    let at : slice_get (ids_of streams) c.loop-n.n ≡ Some c.stream.result.now.id = slice_get-map (λ (s : ConfStream). s.id) streams c.loop-n.n ∙ ap (λ (o : Option ConfStream). option_map (λ (s : ConfStream). s.id) o) c.stream.ensures.stream in
    listed_more (state_of c.args.set.now.entries) (ids_of streams) c.loop-n.n c.stream.result.now.id c.args.text.now c.loop-n.is_first c.in_ok-is_first.is_first c.loop-n.text c.put_state.new.text (option_copied c.state-state.result) at c.state-state.ensures c.in_ok-is_first.ensures c.loop-n.invariant

pub returns : goal.returns
returns c =
    let streams = c.args.configured.now in
    let size : length (ids_of streams) ≡ length streams = length-map streams (λ (s : ConfStream). s.id) in
    let done : length (ids_of streams) ≤ c.loop-n.n = let h = c.loop-n-test.false in let e = c.len-n-end.ensures.len in omega arith in
    listed_all (state_of c.args.set.now.entries) (ids_of streams) c.loop-n.n c.args.text.now c.loop-n.is_first c.loop-n.text c.push-2.new.self done c.in_ok-push-2.ensures.ok c.loop-n.invariant
