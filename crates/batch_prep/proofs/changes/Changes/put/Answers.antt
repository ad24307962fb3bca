use Rattle.std.proofs.Common.{refl, false, ◌∙◌, ap, ◌++◌, List, ℕ}
use Rattle.batch_prep.proofs.WrittenLemmas.{open_more}
use Rattle.batch_prep.proofs.changes.Changes.put.Goals as goal

pub returns : goal.returns
returns c = λ items opened.
    open_more items c.args.change.now c.args.self.now record { text = c.extend.new.self; is_first = false } opened
    (c.in_ok-extend.ensures.ok ∙ ap (λ (t : List ℕ). t ++ c.args.change.now) c.in_ok-put_comma.ensures.ok) refl
