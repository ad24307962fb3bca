use Rattle.std.proofs.Common.{◌∙◌, sym, ◌<◌, ◌≡◌, length, true, false, inl, inr, arith}
use Rattle.std.proofs.Math.Nat.{eq-or-lt_of_le}
use Rattle.text_lines.proofs.Cut.{lines_of-line, lines_of-last, lines_of-blank, lines_of-blank_end}
use Rattle.text_lines.proofs.next_line.Goals as goal

pub returns-then-is_line-clause-line : goal.returns-then-is_line-clause-line
returns-then-is_line-clause-line c =
    let text = c.args.text.now in
    let start = c.loop-start.start in
    let end = c.piece_end-end.result in
    let piece = c.piece_end-end.ensures in
    let shown = sym c.is_line.ensures ∙ c.if-is_line.true in
    c.loop-start.invariant.left ∙
    elim (eq-or-lt_of_le piece.place.1) [
      | inl at ↦ lines_of-last text start end piece.place.0 at piece.piece shown
      | inr lt ↦ lines_of-line text start end piece.place.0 lt (piece.newline lt) piece.piece shown
    ]

pub returns-then-end-text-clause-none : goal.returns-then-end-text-clause-none
returns-then-end-text-clause-none c =
    let piece = c.piece_end-end.ensures in
    c.loop-start.invariant.left ∙ lines_of-blank_end c.args.text.now c.loop-start.start c.piece_end-end.result piece.place.0 c.if-end-text.true piece.piece (sym c.is_line.ensures ∙ c.if-is_line.false)

pub loop-start-preserved : goal.loop-start-preserved
loop-start-preserved c =
    let piece = c.piece_end-end.ensures in
    let lt : c.piece_end-end.result < length c.args.text.now = omega arith in
    record {
      not_before = omega arith;
      inside = omega arith;
      left = c.loop-start.invariant.left ∙ lines_of-blank c.args.text.now c.loop-start.start c.piece_end-end.result piece.place.0 lt (piece.newline lt) piece.piece (sym c.is_line.ensures ∙ c.if-is_line.false);
    }
