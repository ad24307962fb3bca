use Rattle.std.proofs.Common.{List, Option, None, ◌∷◌, [], length, length-append, sym, ap, ◌∙◌, arith}
use Rattle.std.specs.List.{slice_get}
use Rattle.json_span.specs.declared.Member.{Member}
use Rattle.json_span.proofs.Reading.{none_more}
use Rattle.json_span.proofs.reader.pad.Goals as goal

pub loop-inner-preserved : goal.loop-inner-preserved
loop-inner-preserved c =
    let h = c.loop-inner.invariant in
    let low = h.low in
    let high = h.high in
    let after = c.in_ok-push.ensures.ok in
    let size = ap (λ (l : List (Option (List Member))). length l) after ∙ length-append c.loop-inner.inner (None ∷ []) in
    record {
      low = omega arith;
      high = omega (arith, c.len.ensures, c.loop-inner-test.true);
      same = λ k members e. h.same k members (none_more c.loop-inner.inner k members (ap (λ (l : List (Option (List Member))). slice_get l k) (sym after) ∙ e));
    }

pub returns : goal.returns
returns c =
    let h = c.loop-inner.invariant in
    let low = h.low in
    let high = h.high in
    record { size = omega (arith, c.len.ensures, c.loop-inner-test.false); same = h.same }
