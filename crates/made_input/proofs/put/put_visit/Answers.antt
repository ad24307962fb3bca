use Rattle.std.proofs.Common.{◌∙◌, ◌++◌, ℕ, ap}
use Rattle.std.specs.Fmt.{decimal}
use Rattle.std.proofs.lemmas.Result.{on_ok_weaker}
use Rattle.made_input.proofs.LineLemmas.{visit_front, visit_put}
use Rattle.made_input.proofs.put.put_visit.Goals as goal

pub returns-clause-ok : goal.returns-clause-ok
returns-clause-ok c =
    let text = c.args.text.now in
    on_ok_weaker c.extend.result
    (visit_put text c.put_numbered.new.text c.extend.new.self c.args.row
    (c.in_ok-put_numbered.ensures.ok ∙ ap (λ (n : ℕ). text ++ (visit_front ++ decimal n)) c.from.ensures))
    c.extend.ensures.ok
