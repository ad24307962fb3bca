use Rattle.std.proofs.Common.{◌<◌, length, arith}
use Rattle.json_span.specs.declared.Span.{Span}
use Rattle.table_feed.proofs.StartLemmas.{values_more}
use Rattle.table_feed.proofs.blob.key_values.Goals as goal

abbrev no_span : Span
no_span = record { start = 0; end = 0 }

pub loop-at-preserved : goal.loop-at-preserved
loop-at-preserved c =
    let same = c.requires.same in
    let in_paths : c.loop-at.at < length c.args.paths.now = c.loop-at-test.true in
    let in_spans : c.loop-at.at < length c.args.spans.now = omega (arith, in_paths, same) in
    values_more c.args.columns.now c.args.paths.now c.args.text.now c.args.spans.now c.loop-at.values c.push.new.self c.loop-at.at c.index-paths-at.result no_span c.of-held.result.now c.is_instant.result c.in_ok-value.value
    in_paths in_spans c.index-paths-at.is c.of-held.ensures c.is_instant.ensures c.in_ok-value.ensures c.in_ok-push.ensures.ok c.loop-at.invariant
