use Rattle.std.proofs.Common.{ℕ, ◌+◌, ◌<◌, ◌∙◌, sym, subst, length, slice_range, arith}
use Rattle.piecewise_lines.specs.Unread.{IsSearched}
use Rattle.piecewise_lines.specs.declared.NextLine.TheVariants as answer
use Rattle.piecewise_lines.proofs.Search.{searched_more, searched_none, finds_long, finds_more, finds_line, passes}
use Rattle.piecewise_lines.proofs.find.Goals as goal

pub returns-then-end-start : goal.returns-then-end-start
returns-then-end-start c =
    let bytes = c.args.bytes.now in
    let start = c.loop-start.start in
    let end = c.newline_or_end-end in
    let place = end.ensures.place in
    let s = searched_more bytes start c.loop-start.searched end.result c.loop-start.invariant.place place.0 place.1 end.ensures.none in
    record { place = s; gives = c.loop-start.invariant.same start answer.TooLong (finds_long c.args.limit bytes start end.result s end.ensures.newline (omega arith)) }

pub returns-then-end-bytes : goal.returns-then-end-bytes
returns-then-end-bytes c =
    let bytes = c.args.bytes.now in
    let start = c.loop-start.start in
    let end = c.newline_or_end-end in
    let place = end.ensures.place in
    let s = searched_more bytes start c.loop-start.searched end.result c.loop-start.invariant.place place.0 place.1 end.ensures.none in
    record {
      place = subst (λ (n : ℕ). IsSearched bytes start n) c.if-end-bytes.true s;
      gives = c.loop-start.invariant.same start answer.More (finds_more c.args.limit bytes start end.result s c.if-end-bytes.true (omega arith));
    }

pub returns-then-is_line : goal.returns-then-is_line
returns-then-is_line c =
    let bytes = c.args.bytes.now in
    let start = c.loop-start.start in
    let end = c.newline_or_end-end in
    let place = end.ensures.place in
    let s = searched_more bytes start c.loop-start.searched end.result c.loop-start.invariant.place place.0 place.1 end.ensures.none in
    let lt : end.result < length bytes = omega arith in
    record {
      ordered = s.ordered;
      inside = lt;
      gives = c.loop-start.invariant.same (end.result + 1) (answer.Line (slice_range bytes start end.result)) (finds_line c.args.limit bytes start end.result s lt (end.ensures.newline lt) (omega arith) (sym c.is_line.ensures ∙ c.if-is_line.true));
    }

pub loop-start-preserved : goal.loop-start-preserved
loop-start-preserved c =
    let bytes = c.args.bytes.now in
    let start = c.loop-start.start in
    let end = c.newline_or_end-end in
    let place = end.ensures.place in
    let s = searched_more bytes start c.loop-start.searched end.result c.loop-start.invariant.place place.0 place.1 end.ensures.none in
    let lt : end.result < length bytes = omega arith in
    record {
      place = searched_none bytes (end.result + 1) (omega arith);
      same = λ to given g. c.loop-start.invariant.same to given (passes c.args.limit bytes start end.result s lt (end.ensures.newline lt) (omega arith) (sym c.is_line.ensures ∙ c.if-is_line.false) to given g);
    }
