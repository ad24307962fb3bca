use Rattle.std.proofs.Common.{get_or}
use Rattle.std.proofs.lemmas.Option.{slice_get-get_or}
use Rattle.json_span.proofs.Reading.{begins_complete, more_complete, all_complete}
use Rattle.json_span.proofs.reader.complete.Goals as goal

pub loop-index-init : goal.loop-index-init
loop-index-init c = begins_complete c.args.text.now c.args.outer.now c.args.inner.now c.pad.new.inner c.requires.inner c.in_ok-pad.ensures

pub loop-index-preserved : goal.loop-index-preserved
loop-index-preserved c =
    let index = c.loop-index.index in
    let m = get_or c.args.outer.now index (record { key = record { start = 0; end = 0 }; value = record { start = 0; end = 0 } }) in
    let done = c.in_ok-complete_at.ensures in
    more_complete c.args.text.now c.args.outer.now c.loop-index.inner c.complete_at.new.inner index m c.of.result.now c.loop-index.invariant (slice_get-get_or c.args.outer.now index _ c.loop-index-test.true) c.of.ensures done.inside done.others done.size

pub returns : goal.returns
returns c = all_complete c.args.text.now c.args.outer.now c.loop-index.inner c.loop-index.index c.loop-index-test.false c.loop-index.invariant
