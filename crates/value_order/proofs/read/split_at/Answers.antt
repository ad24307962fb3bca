use Rattle.std.proofs.Common.{◌+◌, ℕ, List, ◌∷◌, ◌++◌, take, sym, ap, ◌∙◌}
use Rattle.value_order.proofs.ReadLemmas.{lacks_more, cut_at, rest_from}
use Rattle.value_order.proofs.read.split_at.Goals as goal

pub loop-at-preserved : goal.loop-at-preserved
loop-at-preserved c = lacks_more c.args.byte c.args.text.now c.loop-at.at c.loop-at-test.true c.loop-at.invariant c.if-found-byte.false

pub returns-then-found-byte-clause-found : goal.returns-then-found-byte-clause-found
returns-then-found-byte-clause-found c =
    let text = c.args.text.now in
    let at = c.loop-at.at in
    let cut = cut_at text at c.args.byte c.loop-at-test.true c.if-found-byte.true in
    (cut ∙ ap (λ (l : List ℕ). take at text ++ c.args.byte ∷ l) (sym (rest_from text (at + 1))), c.loop-at.invariant)
