use Rattle.local_world.specs.declared.left_lines.Place.{Place}
use Rattle.local_world.proofs.FileLemmas.{none_missing, passed_first, passed_lacks, passed_left, passed_more}
use Rattle.local_world.proofs.front.read_front.Goals as goal

pub lines-init : goal.lines-init
lines-init c = passed_first c.args.text.now c.args.states c.in_ok-awaited.awaited c.new-places.result.items c.in_ok-awaited.ensures c.new-places.ensures.items

pub returns-in_default-clause-lacks : goal.returns-in_default-clause-lacks
returns-in_default-clause-lacks c =
    passed_lacks c.args.text.now c.args.states c.lines.awaited c.lines.places.items c.lines.behind c.lines.number c.lines.invariant (c.is_missing.ensures.0 c.lines-test.true) c.in_default.ensures.none

pub lines-preserved : goal.lines-preserved
lines-preserved c =
    let place : Place = record { start = c.in-Some.line.start; end = c.in-Some.line.end } in
    let at = c.in-Some.ensures.place in
    passed_more c.args.text.now c.args.states c.lines.awaited c.passes_line.new.awaited c.lines.places.items c.keep_unless.new.places.items c.lines.behind c.lines.number place c.in_ok-is_out.is_out
    c.lines.invariant at.0 at.1 at.2 c.in-Some.ensures.line c.in_ok-is_out.ensures.states c.in_ok-is_out.ensures.line c.in_ok-keep_unless.ensures

pub returns-clause-left : goal.returns-clause-left
returns-clause-left c =
    passed_left c.args.text.now c.args.states c.lines.awaited c.lines.places.items c.lines.behind c.lines.number c.lines.invariant (none_missing c.is_missing.result _ c.is_missing.ensures.1 c.lines-test.false)
